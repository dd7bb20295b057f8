-- Bytes are a record exactly where they are a header and a content of the grammar.
use Rattle.std.proofs.Common.{◌≡◌, ℕ, ◌^◌, ◌<◌, ◌≤◌, Bool, true, false, cond, ltb, List, ◌++◌, length, drop, Option, Some, None, refl, ap, ◌∙◌, arith, length-append}
use Rattle.std.proofs.lemmas.Bool.{ltb-false, le-ltb}
use Rattle.std.proofs.lemmas.List.{drop_at}
use Rattle.gt_object.specs.declared.kind.Kind.{Kind}
use Rattle.gt_object.specs.declared.error.ObjectError.TheVariants.{TooLarge}
use Rattle.gt_object.specs.Header.{header, header_of}
use Rattle.gt_object.specs.Grammar.{ids_of, bad_content}
use Rattle.gt_object.specs.Whole.{broken_at, broken_in, why_not, IsRecord, Holds}
use Rattle.gt_object.specs.Laws.{HasParts}
use Rattle.gt_object.specs.Mentions.{distinct_of}
use Rattle.gt_object.proofs.Parts.{kind_is}
use Rattle.gt_object.proofs.HeaderLaws.{header_again, header_takes}

pub record_takes : (w : List ℕ) → why_not w ≡ None → IsRecord w
unfolding why_not
record_takes w e = by (ltb 16777216 (length w)) refl e
  where
    last : (k : Kind) (n : ℕ) → header_of w ≡ Some (k, n) → length w ≤ 16777216 → (o : Option ℕ) → bad_content k (drop n w) ≡ o → broken_at n o ≡ None → IsRecord w
    last k n h small (Some at) p q = absurd cc
    last k n h small None p q = record { kind = k; content = drop n w; whole = (header_takes w k n h).0; good = p; small = small }

    then : (o : Option (Kind × ℕ)) → header_of w ≡ o → length w ≤ 16777216 → broken_in w o ≡ None → IsRecord w
    then None p small q = absurd cc
    then (Some x) p small q = last x.0 x.1 p small (bad_content x.0 (drop x.1 w)) refl q

    by : (b : Bool) → ltb 16777216 (length w) ≡ b → cond b (Some TooLarge) (broken_in w (header_of w)) ≡ None → IsRecord w
    by true p q = absurd cc
    by false p q = then (header_of w) refl (ltb-false _ _ p) q

pub record_again : (w : List ℕ) → IsRecord w → why_not w ≡ None
unfolding why_not
record_again w r =
    let small : ltb 16777216 (length w) ≡ false = le-ltb _ _ r.small in
    let len : length r.content < 2 ^ 64 = omega (arith, ap length r.whole, length-append (header r.kind (length r.content)) r.content, r.small) in
    let head : header_of w ≡ Some (r.kind, length (header r.kind (length r.content))) = ap header_of r.whole ∙ header_again r.kind r.content len in
    let back : drop (length (header r.kind (length r.content))) w ≡ r.content = ap (drop (length (header r.kind (length r.content)))) r.whole ∙ drop_at (header r.kind (length r.content)) r.content (length (header r.kind (length r.content))) refl in
    rw (small, head, back, r.good) refl

-- the bytes of each `Record` are a record
pub holds_none : (kind : Kind) (begin : ℕ) (w : List ℕ) → Holds kind begin w → why_not w ≡ None
unfolding why_not
holds_none kind begin w h =
    let small : ltb 16777216 (length w) ≡ false = le-ltb _ _ h.small in
    rw (small, h.head, h.good) refl

-- a header and a content are found as its parts
pub parts_are : (kind : Kind) (content : List ℕ) → length content < 2 ^ 64 → HasParts kind content
parts_are kind content lt =
    let head = header_again kind content lt in
    let back : drop (length (header kind (length content))) (header kind (length content) ++ content) ≡ content = drop_at (header kind (length content)) content (length (header kind (length content))) refl in
    record {
      same_kind = kind_is (header kind (length content) ++ content) kind (length (header kind (length content))) head;
      same_content = rw head back;
      same_deps = rw head (ap (λ (c : List ℕ). distinct_of (ids_of kind c)) back);
    }

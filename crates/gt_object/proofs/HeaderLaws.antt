-- A header that is written is found, and one that is found was written.
use Rattle.std.proofs.Common.{◌≡◌, ℕ, zero, suc, ◌+◌, ◌-◌, ◌^◌, ◌<◌, ◌≤◌, Bool, true, false, cond, not, eqb, ltb, leb, List, [], ◌∷◌, ◌++◌, length, take, drop, get_or, Option, Some, None, refl, sym, ap, subst, ◌∙◌, append_assoc, arith, length-append}
use Rattle.std.specs.Prelude.{codes, decimal, nat_eq, bytes_eq}
use Rattle.std.specs.List.{prefix_len, position, starts_with}
use Rattle.std.specs.Str.Parse.{AllDigits}
use Rattle.std.proofs.lemmas.Fmt.{decimal_is_IsNumeral}
use Rattle.std.proofs.Math.Dec.{eqb-suc-zero}
use Rattle.std.proofs.lemmas.Bool.Decides.{Decides-eqb}
use Rattle.std.proofs.lemmas.Bool.{lt-ltb, le-leb, eqb-true}
use Rattle.std.proofs.lemmas.List.{take_at, drop_at, drop-drop, length-drop, take-append-drop, drop_more}
use Rattle.std.proofs.lemmas.List.Quantifiers.{position-Some}
use Rattle.std.proofs.lemmas.Slice.Eq.{bytes_eq-Decides, starts_is}
use Rattle.gt_object.specs.declared.kind.Kind.{Kind}
use Rattle.gt_object.specs.declared.kind.Kind.TheVariants.{Commit, Tree, Blob, Tag}
use Rattle.gt_object.specs.Grammar.{bad_content}
use Rattle.gt_object.specs.Whole.{Holds}
use Rattle.gt_object.specs.Header.{word, header, kind_of, begin_after, content_begin, with_kind, header_by, header_of}

-- ---- what is written is found

digits_end : (ds c : List ℕ) → AllDigits 10 ds → prefix_len (λ x. not (eqb x 0)) (ds ++ 0 ∷ c) ≡ length ds
digits_end [] c h = refl
digits_end (zero ∷ ds) c h = absurd (omega (arith, h.0))
digits_end (suc d ∷ ds) c h =
    let one : prefix_len (λ x. not (eqb x 0)) ((suc d ∷ ds) ++ 0 ∷ c) ≡ 1 + prefix_len (λ x. not (eqb x 0)) (ds ++ 0 ∷ c) = rw (eqb-suc-zero d) refl in
    omega (arith, one, digits_end ds c h.1)

zero_after : (n : ℕ) (c : List ℕ) → n < 2 ^ 64 → position (λ b. eqb b 0) (decimal n ++ 0 ∷ c) ≡ Some (length (decimal n))
zero_after n c lt =
    let e = digits_end (decimal n) c (decimal_is_IsNumeral n lt).0.1 in
    let inside : ltb (length (decimal n)) (length (decimal n ++ 0 ∷ c)) ≡ true = lt-ltb _ _ (omega (arith, length-append (decimal n) (0 ∷ c))) in
    rw (e, inside) refl

begin_again : (w c : List ℕ) (from : ℕ) → length c < 2 ^ 64 → from ≤ length w → drop from w ≡ decimal (length c) ++ 0 ∷ c → content_begin w from ≡ Some (from + length (decimal (length c)) + 1)
unfolding content_begin
begin_again w c from lt le e =
    let at : position (λ b. eqb b 0) (drop from w) ≡ Some (length (decimal (length c))) = rw e (zero_after (length c) c lt) in
    let front : take (length (decimal (length c))) (drop from w) ≡ decimal (length c) = rw e (take_at (decimal (length c)) (0 ∷ c) (length (decimal (length c))) refl) in
    let len : length w - (from + length (decimal (length c)) + 1) ≡ length c = omega (arith, length-drop from w, ap length e, length-append (decimal (length c)) (0 ∷ c)) in
    let same : bytes_eq (decimal (length c)) (decimal (length c)) ≡ true = (bytes_eq-Decides (decimal (length c)) (decimal (length c))).1 refl in
    rw (at, front, len, same) refl

kind_again : (k : Kind) (rest : List ℕ) → kind_of (word k ++ 32 ∷ rest) ≡ Some k
kind_again Commit rest = refl
kind_again Tree rest = refl
kind_again Blob rest = refl
kind_again Tag rest = refl

pub header_again : (k : Kind) (c : List ℕ) → length c < 2 ^ 64 → header_of (header k (length c) ++ c) ≡ Some (k, length (header k (length c)))
unfolding header_of
header_again k c lt =
    let d : List ℕ = decimal (length c) in
    let whole : header k (length c) ++ c ≡ (word k ++ 32 ∷ []) ++ (decimal (length c) ++ 0 ∷ c) = simp append_assoc in
    let w : List ℕ = header k (length c) ++ c in
    let len : length (word k ++ 32 ∷ []) ≡ length (word k) + 1 = length-append (word k) (32 ∷ []) in
    let rest : drop (length (word k) + 1) (header k (length c) ++ c) ≡ decimal (length c) ++ 0 ∷ c = ap (drop (length (word k) + 1)) whole ∙ drop_at (word k ++ 32 ∷ []) (decimal (length c) ++ 0 ∷ c) (length (word k) + 1) len in
    let long : length (word k) + 1 ≤ length (header k (length c) ++ c) = omega (arith, ap length whole, len, length-append (word k ++ 32 ∷ []) (decimal (length c) ++ 0 ∷ c)) in
    let b : leb (length (word k) + 1) (length (header k (length c) ++ c)) ≡ true = le-leb _ _ long in
    let kind : kind_of (header k (length c) ++ c) ≡ Some k = ap kind_of (append_assoc (word k) (32 ∷ (decimal (length c) ++ 0 ∷ [])) c) ∙ kind_again k ((decimal (length c) ++ 0 ∷ []) ++ c) in
    let begin = begin_again (header k (length c) ++ c) c (length (word k) + 1) lt long rest in
    let end : length (word k) + 1 + length (decimal (length c)) + 1 ≡ length (header k (length c)) = omega (arith, length-append (word k) (32 ∷ (decimal (length c) ++ 0 ∷ [])), length-append (decimal (length c)) (0 ∷ [])) in
    rw (kind, b, begin) (ap (λ (n : ℕ). Some (k, n)) end)

-- ---- what is found was written

begin_takes : (w : List ℕ) (from n : ℕ) → content_begin w from ≡ Some n → (drop from w ≡ decimal (length w - n) ++ 0 ∷ drop n w) × (n ≤ length w)
unfolding content_begin
begin_takes w from n e = by (position (λ b. eqb b 0) (drop from w)) refl e
  where
    by : (o : Option ℕ) → position (λ b. eqb b 0) (drop from w) ≡ o → begin_after w from o ≡ Some n → (drop from w ≡ decimal (length w - n) ++ 0 ∷ drop n w) × (n ≤ length w)
    by None p f = absurd cc
    by (Some m) p f = then (bytes_eq (take m (drop from w)) (decimal (length w - (from + m + 1)))) refl f
      where
        then : (b : Bool) → bytes_eq (take m (drop from w)) (decimal (length w - (from + m + 1))) ≡ b → cond b (Some (from + m + 1)) None ≡ Some n → (drop from w ≡ decimal (length w - n) ++ 0 ∷ drop n w) × (n ≤ length w)
        then false q g = absurd cc
        then true q g =
            let is : from + m + 1 ≡ n = cc in
            let digits : take m (drop from w) ≡ decimal (length w - (from + m + 1)) = (bytes_eq-Decides _ _).0 q in
            let s = position-Some (λ b. eqb b 0) (drop from w) m 0 p in
            let z : get_or (drop from w) m 0 ≡ 0 = eqb-true (get_or (drop from w) m 0) 0 s.1 in
            let tail : drop m (drop from w) ≡ 0 ∷ drop (from + m + 1) w = drop_more (drop from w) m 0 s.0 ∙ ap (λ (x : ℕ). x ∷ drop (m + 1) (drop from w)) z ∙ ap (λ (x : List ℕ). 0 ∷ x) (drop-drop (m + 1) from w ∙ ap (λ (j : ℕ). drop j w) (omega arith)) in
            let whole : drop from w ≡ decimal (length w - (from + m + 1)) ++ 0 ∷ drop (from + m + 1) w = sym (take-append-drop m (drop from w)) ∙ ap (λ (x : List ℕ). x ++ drop m (drop from w)) digits ∙ ap (λ (x : List ℕ). decimal (length w - (from + m + 1)) ++ x) tail in
            let P : ℕ → Type 0 = λ j. (drop from w ≡ decimal (length w - j) ++ 0 ∷ drop j w) × (j ≤ length w) in
            subst P is (whole, omega (arith, s.0, length-drop from w))

word_takes : (w : List ℕ) (k : Kind) → kind_of w ≡ Some k → w ≡ (word k ++ 32 ∷ []) ++ drop (length (word k) + 1) w
word_takes w k e = first (starts_with nat_eq w (codes "commit ")) refl e
  where
    front : (p : List ℕ) → starts_with nat_eq w p ≡ true → w ≡ p ++ drop (length p) w
    front p h = (starts_is Decides-eqb w p (starts_with nat_eq w p) refl).0 h

    is : (x y : Kind) (p : List ℕ) → Some x ≡ Some y → p ≡ word x ++ 32 ∷ [] → length p ≡ length (word x) + 1 → w ≡ p ++ drop (length p) w → w ≡ (word y ++ 32 ∷ []) ++ drop (length (word y) + 1) w
    is x y p o q len h =
        let same : x ≡ y = cc in
        let P : Kind → Type 0 = λ z. w ≡ (word z ++ 32 ∷ []) ++ drop (length (word z) + 1) w in
        subst P same (rw (← q, ← len) h)

    fourth : (b : Bool) → starts_with nat_eq w (codes "tag ") ≡ b → cond b (Some Tag) None ≡ Some k → w ≡ (word k ++ 32 ∷ []) ++ drop (length (word k) + 1) w
    fourth true h f = is Tag k (codes "tag ") f refl refl (front (codes "tag ") h)
    fourth false h f = absurd cc

    third : (b : Bool) → starts_with nat_eq w (codes "blob ") ≡ b → cond b (Some Blob) (cond (starts_with nat_eq w (codes "tag ")) (Some Tag) None) ≡ Some k → w ≡ (word k ++ 32 ∷ []) ++ drop (length (word k) + 1) w
    third true h f = is Blob k (codes "blob ") f refl refl (front (codes "blob ") h)
    third false h f = fourth (starts_with nat_eq w (codes "tag ")) refl f

    second : (b : Bool) → starts_with nat_eq w (codes "tree ") ≡ b → cond b (Some Tree) (cond (starts_with nat_eq w (codes "blob ")) (Some Blob) (cond (starts_with nat_eq w (codes "tag ")) (Some Tag) None)) ≡ Some k → w ≡ (word k ++ 32 ∷ []) ++ drop (length (word k) + 1) w
    second true h f = is Tree k (codes "tree ") f refl refl (front (codes "tree ") h)
    second false h f = third (starts_with nat_eq w (codes "blob ")) refl f

    first : (b : Bool) → starts_with nat_eq w (codes "commit ") ≡ b → cond b (Some Commit) (cond (starts_with nat_eq w (codes "tree ")) (Some Tree) (cond (starts_with nat_eq w (codes "blob ")) (Some Blob) (cond (starts_with nat_eq w (codes "tag ")) (Some Tag) None))) ≡ Some k → w ≡ (word k ++ 32 ∷ []) ++ drop (length (word k) + 1) w
    first true h f = is Commit k (codes "commit ") f refl refl (front (codes "commit ") h)
    first false h f = second (starts_with nat_eq w (codes "tree ")) refl f

some_both : (x y : Kind × ℕ) → Some x ≡ Some y → (x.0 ≡ y.0) × (x.1 ≡ y.1)
some_both x y e = let p : x ≡ y = cc in (ap (λ (z : Kind × ℕ). z.0) p, ap (λ (z : Kind × ℕ). z.1) p)

pub header_takes : (w : List ℕ) (k : Kind) (n : ℕ) → header_of w ≡ Some (k, n) → (w ≡ header k (length (drop n w)) ++ drop n w) × (n ≤ length w)
unfolding header_of
header_takes w k n e = by (kind_of w) refl e
  where
    then : (x : Kind) → kind_of w ≡ Some x → (o : Option ℕ) → content_begin w (length (word x) + 1) ≡ o → with_kind x o ≡ Some (k, n) → (w ≡ header k (length (drop n w)) ++ drop n w) × (n ≤ length w)
    then x p None q f = absurd cc
    then x p (Some m) q f =
        let s = some_both (x, m) (k, n) f in
        let t = begin_takes w (length (word x) + 1) m q in
        let front = word_takes w x p in
        let len : length w - m ≡ length (drop m w) = sym (length-drop m w) in
        let whole : w ≡ header x (length (drop m w)) ++ drop m w = front ∙ ap (λ (z : List ℕ). (word x ++ 32 ∷ []) ++ z) (t.0 ∙ ap (λ (j : ℕ). decimal j ++ 0 ∷ drop m w) len) ∙ simp append_assoc in
        let P : Kind → ℕ → Type 0 = λ a b. (w ≡ header a (length (drop b w)) ++ drop b w) × (b ≤ length w) in
        let Q : Kind → Type 0 = λ a. P a n in
        let R : ℕ → Type 0 = λ b. P x b in
        subst Q s.0 (subst R s.1 (whole, t.1))

    by : (o : Option Kind) → kind_of w ≡ o → header_by w o ≡ Some (k, n) → (w ≡ header k (length (drop n w)) ++ drop n w) × (n ≤ length w)
    by None p f = absurd cc
    by (Some x) p f = elim (leb (length (word x) + 1) (length w)) as (λ b. cond b (with_kind x (content_begin w (length (word x) + 1))) None ≡ Some (k, n) → (w ≡ header k (length (drop n w)) ++ drop n w) × (n ≤ length w)) [
      | true ↦ λ g. then x p (content_begin w (length (word x) + 1)) refl g
      | false ↦ λ g. absurd cc
    ] f

pub new_holds : (k : Kind) (c : List ℕ) (begin : ℕ) (w : List ℕ) → length c < 2 ^ 64 → w ≡ header k (length c) ++ c → begin ≡ length (header k (length c)) → bad_content k c ≡ None → length w ≤ 16777216 → Holds k begin w
new_holds k c begin w lt is b good small =
    let head : header_of (header k (length c) ++ c) ≡ Some (k, length (header k (length c))) = header_again k c lt in
    let back : drop begin w ≡ c = rw (is, b) (drop_at (header k (length c)) c (length (header k (length c))) refl) in
    let inside : begin ≤ length w = omega (arith, ap length is, length-append (header k (length c)) c) in
    record { head = rw (is, b) head; good = rw back good; small = small; inside = inside }

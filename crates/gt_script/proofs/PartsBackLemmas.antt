-- The parts of an answer, found again from their words.
use Rattle.std.proofs.Common.{◌≡◌, ℕ, zero, suc, ◌+◌, ◌/◌, ◌%◌, ◌^◌, ◌<◌, Bool, true, false, not, cond, eqb, ◌&&◌, ◌||◌, List, [], ◌∷◌, ◌++◌, length, get_or, slice_index, Option, Some, Result, Ok, Err, codes, refl, ap, sym, ◌∙◌, inl, inr, arith, length-append}
use Rattle.std.specs.Prelude.{decimal, bytes_eq, nat_eq}
use Rattle.std.proofs.lemmas.Bool.{and_parts, cases_lt, eqb-true}
use Rattle.std.proofs.lemmas.Bool.Decides.{nat_tests}
use Rattle.std.proofs.lemmas.List.{get_or-append-add}
use Rattle.std.specs.List.{AllByRecursion, list_all, slice_split, starts_with}
use Rattle.std.specs.Str.Parse.{digits_value}
use Rattle.hex.specs.Hex.{decode_of, encode_lower, encode_with, lower_digits, IsBytes}
use Rattle.hex.specs.declared.error.FromHexError.{FromHexError}
use Rattle.hex.proofs.HexLemmas.{decode_of-encode_lower}
use Rattle.gt_name.specs.References.{is_forbidden, IsRefName}
use Rattle.gt_name.specs.Paths.{is_path_byte, IsPath}
use Rattle.gt_name.proofs.LawsLemmas.{all_fail, kept_by_reference, kept_by_path, passed}
use Rattle.gt_disk.specs.declared.file_id.FileId.{FileId}
use Rattle.gt_object.specs.declared.kind.Kind.{Kind}
use Rattle.gt_object.specs.declared.kind.Kind.TheVariants.{Commit, Tree, Blob, Tag}
use Rattle.gt_object.specs.Header.{word as kind_text, header, kind_of as kind_in}
use Rattle.gt_object.specs.Whole.{IsRecord, content_of}
use Rattle.gt_object.proofs.WholeLaws.{parts_are}
use Rattle.gt_model.specs.declared.reference.RefValue.{RefValue}
use Rattle.gt_model.specs.declared.needer.Needer.{Needer}
use Rattle.gt_model.specs.declared.needer.Needer.TheVariants.{Ref, Object as NeedingObject}
use Rattle.gt_script.specs.Printed.{needer_word, file_word, refs_words, kind_word, content_word}
use Rattle.gt_script.specs.Proper.{IsNeeder, IsValue, Fits}
use Rattle.gt_script.proofs.LineBackLemmas.{is_end, is_plain, are_plain, not_true, number-back, number-plain, number-pass, plain-append}

-- ---- hex digits

abbrev all_below : (ℕ → Bool) → ℕ → Bool
all_below p zero = true
all_below p (suc n) = p n && all_below p n

all_below-at : (p : ℕ → Bool) (n k : ℕ) → all_below p n ≡ true → k < n → p k ≡ true
all_below-at p zero k h lt = absurd (omega arith)
all_below-at p (suc n) k h lt =
    let parts = and_parts (p n) (all_below p n) h in
    elim (cases_lt k n) [
      | inl below ↦ all_below-at p n k parts.1 below
      | inr top ↦ (let e : k ≡ n = omega arith in rw e parts.0)
    ]

-- each digit passes a test that the sixteen digits pass
digits-pass : (q : ℕ → Bool) → all_below (λ d. q (slice_index lower_digits d)) 16 ≡ true → (x : List ℕ) → IsBytes x → list_all q (encode_lower x) ≡ true
unfolding encode_with
digits-pass q all [] h = refl
digits-pass q all (b ∷ x) h =
    let fits : b < 256 = h 0 in
    rw (all_below-at (λ d. q (slice_index lower_digits d)) 16 (b / 16) all (omega arith), all_below-at (λ d. q (slice_index lower_digits d)) 16 (b % 16) all (omega arith)) (digits-pass q all x (λ k. h (suc k)))

pub hex-plain : (x : List ℕ) → IsBytes x → is_plain (encode_lower x) ≡ true
hex-plain x h = digits-pass (λ b. not (is_end b)) refl x h

abbrev pub if_decoded : Result (List ℕ) FromHexError → List ℕ
if_decoded (Ok x) = x
if_decoded (Err e) = []

abbrev pub hex_value : List ℕ → List ℕ
hex_value w = if_decoded (decode_of w)

pub hex-back : (x : List ℕ) → IsBytes x → hex_value (encode_lower x) ≡ x
hex-back x h = ap if_decoded (decode_of-encode_lower x h)

-- ---- references and paths

all_from : (p : ℕ → Bool) (t : List ℕ) → ((k d : ℕ) → k < length t → p (get_or t k d) ≡ false) → AllByRecursion (λ b. p b ≡ false) t
all_from p [] h = tt
all_from p (b ∷ t) h = (h 0 0 (omega arith), all_from p t (λ k d lt. h (suc k) d (omega arith)))

no_end-by : (p : ℕ → Bool) (b : ℕ) → p 32 ≡ true → p 10 ≡ true → p b ≡ false → not (is_end b) ≡ true
no_end-by p b space feed fails = by (eqb b 32) (eqb b 10) refl refl
  where
    by : (v w : Bool) → eqb b 32 ≡ v → eqb b 10 ≡ w → not (v || w) ≡ true
    by true w e f = (let is = eqb-true b 32 e in absurd cc)
    by false true e f = (let is = eqb-true b 10 f in absurd cc)
    by false false e f = refl

plain-by : (p : ℕ → Bool) (t : List ℕ) → p 32 ≡ true → p 10 ≡ true → AllByRecursion (λ b. p b ≡ false) t → is_plain t ≡ true
plain-by p [] space feed h = refl
plain-by p (b ∷ t) space feed h = rw (no_end-by p b space feed h.0) (plain-by p t space feed h.1)

pub reference-plain : (t : List ℕ) → IsRefName t → is_plain t ≡ true
reference-plain t e = plain-by is_forbidden t refl refl (all_from is_forbidden t (all_fail is_forbidden t (kept_by_reference t e).2))

pub path-plain : (t : List ℕ) → IsPath t → is_plain t ≡ true
path-plain t e = plain-by (λ b. not (is_path_byte b)) t refl refl (all_from (λ b. not (is_path_byte b)) t (all_fail (λ b. not (is_path_byte b)) t (kept_by_path t e)))

-- ---- what needs an object

abbrev pub needer_value : List ℕ → Needer
needer_value w = cond (starts_with nat_eq w (codes "refs/")) (Ref w) (NeedingObject (hex_value w))

no_reference : (t : List ℕ) → list_all (λ b. not (eqb 114 b)) t ≡ true → starts_with nat_eq t (codes "refs/") ≡ false
no_reference [] h = refl
no_reference (b ∷ t) h = by (eqb 114 b) (and_parts (not (eqb 114 b)) (list_all (λ c. not (eqb 114 c)) t) h).0
  where
    by : (v : Bool) → not v ≡ true → (v && starts_with nat_eq t (codes "efs/")) ≡ false
    by true k = absurd cc
    by false k = refl

pub needer-back : (n : Needer) → IsNeeder n → needer_value (needer_word n) ≡ n
needer-back (Ref name) h = rw (passed (starts_with nat_eq name (codes "refs/")) 0 (kept_by_reference name h).1) refl
needer-back (NeedingObject name) h = rw (no_reference (encode_lower name) (digits-pass (λ b. not (eqb 114 b)) refl name h.1), hex-back name h.1) refl

pub needer-plain : (n : Needer) → IsNeeder n → is_plain (needer_word n) ≡ true
needer-plain (Ref name) h = reference-plain name h
needer-plain (NeedingObject name) h = hex-plain name h.1

-- ---- references with their values

abbrev pub refs_value : List (List ℕ) → List RefValue
refs_value [] = []
refs_value (v ∷ []) = []
refs_value (v ∷ n ∷ rest) = record { name = n; value = hex_value v } ∷ refs_value rest

pub refs-back : (rs : List RefValue) → AllByRecursion IsValue rs → refs_value (refs_words rs ++ [] ∷ []) ≡ rs
refs-back [] h = refl
refs-back (r ∷ rs) h = rw (hex-back r.value h.0.0.1, refs-back rs h.1) refl

pub refs-plain : (rs : List RefValue) → AllByRecursion IsValue rs → are_plain (refs_words rs) ≡ true
refs-plain [] h = refl
refs-plain (r ∷ rs) h = rw (hex-plain r.value h.0.0.1, reference-plain r.name h.0.1) (refs-plain rs h.1)

-- ---- contents and records

abbrev pub content_value : List ℕ → List ℕ
content_value w = cond (bytes_eq w (codes "-")) [] (hex_value w)

no_dash : (t : List ℕ) → list_all (λ b. not (eqb b 45)) t ≡ true → bytes_eq t (codes "-") ≡ false
no_dash [] h = refl
no_dash (b ∷ t) h = by (eqb b 45) (and_parts (not (eqb b 45)) (list_all (λ c. not (eqb c 45)) t) h).0
  where
    by : (v : Bool) → not v ≡ true → (v && bytes_eq t []) ≡ false
    by true k = absurd cc
    by false k = refl

some_content : (b : ℕ) (c : List ℕ) → content_word (b ∷ c) ≡ encode_lower (b ∷ c)
some_content b c =
    let more : eqb (length (b ∷ c)) 0 ≡ false = grind (arith, nat_tests) in
    rw more refl

pub content-back : (c : List ℕ) → IsBytes c → content_value (content_word c) ≡ c
content-back [] h = refl
content-back (b ∷ c) h = rw (some_content b c, no_dash (encode_lower (b ∷ c)) (digits-pass (λ d. not (eqb d 45)) refl (b ∷ c) h)) (hex-back (b ∷ c) h)

pub content-plain : (c : List ℕ) → IsBytes c → is_plain (content_word c) ≡ true
content-plain [] h = refl
content-plain (b ∷ c) h = rw (some_content b c) (hex-plain (b ∷ c) h)

object_bytes : (w header content : List ℕ) → w ≡ header ++ content → IsBytes w → IsBytes content
object_bytes w header content e h i = rw (sym (get_or-append-add header content i 0), sym e) (h (length header + i))

abbrev pub kind_value : List ℕ → Kind
kind_value w = cond (bytes_eq w (codes "commit")) Commit (cond (bytes_eq w (codes "tree")) Tree (cond (bytes_eq w (codes "blob")) Blob Tag))

kind-back : (k : Kind) → kind_value (kind_text k) ≡ k
kind-back Commit = refl
kind-back Tree = refl
kind-back Blob = refl
kind-back Tag = refl

kind-plain : (k : Kind) → is_plain (kind_text k) ≡ true
kind-plain Commit = refl
kind-plain Tree = refl
kind-plain Blob = refl
kind-plain Tag = refl

abbrev pub record_of : Kind → List ℕ → List ℕ
record_of k c = header k (length c) ++ c

-- the record of a kind's word and a content's
abbrev pub record_value : List ℕ → List ℕ → List ℕ
record_value k c = record_of (kind_value k) (content_value c)

pub record RecordWords (w : List ℕ) : Type 0 where
  pub back : record_value (kind_word (kind_in w)) (content_word (content_of w)) ≡ w
  pub plain_kind : is_plain (kind_word (kind_in w)) ≡ true
  pub plain_content : is_plain (content_word (content_of w)) ≡ true

pub record-words : (w : List ℕ) → IsRecord w → IsBytes w → RecordWords w
record-words w r h =
    let short : length r.content < 2 ^ 64 = omega (arith, ap length r.whole, length-append (header r.kind (length r.content)) r.content, r.small) in
    let parts = parts_are r.kind r.content short in
    let kind : kind_in w ≡ Some r.kind = ap kind_in r.whole ∙ parts.same_kind in
    let content : content_of w ≡ r.content = ap content_of r.whole ∙ parts.same_content in
    let bytes : IsBytes r.content = object_bytes w (header r.kind (length r.content)) r.content r.whole h in
    record {
      back = ap (λ (x : Option Kind). record_value (kind_word x) (content_word (content_of w))) kind
          ∙ ap (λ (x : List ℕ). record_value (kind_text r.kind) (content_word x)) content
          ∙ ap (λ (x : Kind). record_of x (content_value (content_word r.content))) (kind-back r.kind)
          ∙ ap (record_of r.kind) (content-back r.content bytes)
          ∙ sym r.whole;
      plain_kind = ap (λ (x : Option Kind). is_plain (kind_word x)) kind ∙ kind-plain r.kind;
      plain_content = ap (λ (x : List ℕ). is_plain (content_word x)) content ∙ content-plain r.content bytes;
    }

-- ---- files

abbrev is_dash : ℕ → Bool
is_dash b = eqb b 45

abbrev pub file_value : List ℕ → FileId
file_value w =
    let parts : List (List ℕ) = slice_split is_dash w in
    record { kind = digits_value 10 (get_or parts 0 []); number = digits_value 10 (get_or parts 1 []) }

split_dash : (w rest : List ℕ) → list_all (λ b. not (is_dash b)) w ≡ true → slice_split is_dash (w ++ 45 ∷ rest) ≡ w ∷ slice_split is_dash rest
split_dash [] rest h = refl
split_dash (b ∷ w) rest h =
    let parts = and_parts (not (is_dash b)) (list_all (λ c. not (is_dash c)) w) h in
    rw (not_true (is_dash b) parts.0, split_dash w rest parts.1) refl

split_none : (w : List ℕ) → list_all (λ b. not (is_dash b)) w ≡ true → slice_split is_dash w ≡ w ∷ []
split_none [] h = refl
split_none (b ∷ w) h =
    let parts = and_parts (not (is_dash b)) (list_all (λ c. not (is_dash c)) w) h in
    rw (not_true (is_dash b) parts.0, split_none w parts.1) refl

pub file-back : (f : FileId) → Fits f.kind → Fits f.number → file_value (file_word f) ≡ f
file-back f h k =
    let parts : slice_split is_dash (file_word f) ≡ decimal f.kind ∷ decimal f.number ∷ [] =
    split_dash (decimal f.kind) (decimal f.number) (number-pass is_dash refl f.kind h) ∙ ap (λ (l : List (List ℕ)). decimal f.kind ∷ l) (split_none (decimal f.number) (number-pass is_dash refl f.number k)) in
    rw (parts, number-back f.kind h, number-back f.number k) refl

pub file-plain : (f : FileId) → Fits f.kind → Fits f.number → is_plain (file_word f) ≡ true
file-plain f h k = plain-append (decimal f.kind) (45 ∷ decimal f.number) (number-plain f.kind h) (number-plain f.number k)

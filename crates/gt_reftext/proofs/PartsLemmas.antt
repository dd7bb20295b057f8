-- The parts of a text at its first line feed.
use Rattle.std.proofs.Common.{◌≡◌, ◌⊎◌, inl, inr, ℕ, suc, ◌+◌, ◌<◌, ◌≤◌, Bool, true, false, not, cond, eqb, ltb, List, [], ◌∷◌, length, take, drop, Option, Some, None, IsSome, Result, Ok, Err, is_none, codes, nat_eq, refl, sym, ap, subst, ◌∙◌, arith, position}
use Rattle.std.proofs.lemmas.Bool.Decides.{nat_tests}
use Rattle.std.specs.List.{prefix_len, starts_with}
use Rattle.gt_reftext.specs.declared.packed_ref.PackedRef.{PackedRef}
use Rattle.gt_reftext.specs.Lines.{parts_of, name_of, is_header, ref_line, first_from, IsReference}
use Rattle.gt_reftext.specs.declared.error.RefTextError.{RefTextError}
use Rattle.gt_reftext.specs.declared.error.RefTextError.TheVariants.{BadLine, Memory}
use Rattle.gt_reftext.specs.Packed.{PackedSoFar, Entry, with_peeled, with_ref, has_name, put, after_line, read_from}
use Rattle.gt_reftext.specs.Answers.{Moves, Fails}

abbrev before : List ℕ → ℕ
before text = prefix_len (λ b. not (eqb b 10)) text

abbrev split : ℕ → List ℕ → List ℕ × List (List ℕ)
split n text = (take n text, (parts_of (drop (n + 1) text)).0 ∷ (parts_of (drop (n + 1) text)).1)

-- up to the first line feed there is one part
pub first_part : (text : List ℕ) → before text < length text → parts_of text ≡ split (before text) text
first_part [] lt = absurd (omega arith)
first_part (b ∷ rest) lt =
    elim (eqb b 10) as (λ v. cond (not v) (1 + before rest) 0 < length (b ∷ rest) → cond v ([], (parts_of rest).0 ∷ (parts_of rest).1) (b ∷ (parts_of rest).0, (parts_of rest).1) ≡ split (cond (not v) (1 + before rest) 0) (b ∷ rest)) [
      | true ↦ λ h. refl
      | false ↦ λ h.
          let ih = first_part rest (omega arith) in
          let one : 1 + before rest ≡ suc (before rest) = omega arith in
          let two : suc (before rest) + 1 ≡ suc (before rest + 1) = omega arith in
          rw (one, two, ih) refl
    ] lt

abbrev pub alone : List ℕ → List ℕ × List (List ℕ)
alone text = (text, [])

-- a text without a line feed is one part
pub only_part : (text : List ℕ) → length text ≤ before text → parts_of text ≡ alone text
only_part [] le = refl
only_part (b ∷ rest) le =
    elim (eqb b 10) as (λ v. length (b ∷ rest) ≤ cond (not v) (1 + before rest) 0 → cond v ([], (parts_of rest).0 ∷ (parts_of rest).1) (b ∷ (parts_of rest).0, (parts_of rest).1) ≡ alone (b ∷ rest)) [
      | true ↦ λ h. absurd (omega arith)
      | false ↦ λ h. rw (only_part rest (omega arith)) refl
    ] le

found : (p : ℕ → Bool) (text : List ℕ) (end : ℕ) → position p text ≡ Some end → (prefix_len (λ b. not (p b)) text ≡ end) × (prefix_len (λ b. not (p b)) text < length text)
found p text end e = by (ltb (prefix_len (λ b. not (p b)) text) (length text)) refl e
  where
    by : (b : Bool) → ltb (prefix_len (λ b. not (p b)) text) (length text) ≡ b → cond b (Some (prefix_len (λ b. not (p b)) text)) None ≡ Some end → (prefix_len (λ b. not (p b)) text ≡ end) × (prefix_len (λ b. not (p b)) text < length text)
    by true t g = (cc, grind (arith, nat_tests))
    by false t g = absurd cc

missing : (p : ℕ → Bool) (text : List ℕ) → position p text ≡ None → length text ≤ prefix_len (λ b. not (p b)) text
missing p text e = by (ltb (prefix_len (λ b. not (p b)) text) (length text)) refl e
  where
    by : (b : Bool) → ltb (prefix_len (λ b. not (p b)) text) (length text) ≡ b → cond b (Some (prefix_len (λ b. not (p b)) text)) None ≡ None → length text ≤ prefix_len (λ b. not (p b)) text
    by true t g = absurd cc
    by false t g = grind (arith, nat_tests)

-- the text up to a line feed
pub parts_found : (text : List ℕ) (end : ℕ) → position (λ b. eqb b 10) text ≡ Some end → (parts_of text ≡ split end text) × (end < length text)
parts_found text end e =
    let f = found (λ b. eqb b 10) text end e in
    (first_part text f.1 ∙ ap (λ (n : ℕ). split n text) f.0, omega (arith, f.0, f.1))

-- a text without a line feed
pub parts_missing : (text : List ℕ) → position (λ b. eqb b 10) text ≡ None → parts_of text ≡ alone text
parts_missing text e = only_part text (missing (λ b. eqb b 10) text e)

-- ---- the loop over the lines

-- a line that may stand there
pub line_goes : (number : ℕ) (progress next : PackedSoFar) (text line after : List ℕ) (total : Result PackedSoFar ℕ) → parts_of text ≡ (line, (parts_of after).0 ∷ (parts_of after).1)
    → after_line number progress line ≡ Some next → read_from progress number text ≡ total → read_from next (number + 1) after ≡ total
unfolding read_from
line_goes number progress next text line after total parts moved so_far =
    let one : read_from progress number text ≡ read_from next (number + 1) after = rw (parts, moved) refl in
    sym one ∙ so_far

-- a line that may not
line_bad : (number : ℕ) (progress : PackedSoFar) (text line after : List ℕ) (total : Result PackedSoFar ℕ) → parts_of text ≡ (line, (parts_of after).0 ∷ (parts_of after).1)
    → after_line number progress line ≡ None → read_from progress number text ≡ total → total ≡ Err number
unfolding read_from
line_bad number progress text line after total parts moved so_far =
    let one : read_from progress number text ≡ Err number = rw (parts, moved) refl in
    sym so_far ∙ one

pub line_fails : (e : RefTextError) (number : ℕ) (progress : PackedSoFar) (text line after : List ℕ) (total : Result PackedSoFar ℕ) → parts_of text ≡ (line, (parts_of after).0 ∷ (parts_of after).1)
    → Moves number (Err e) (after_line number progress line) → read_from progress number text ≡ total → Fails e total
line_fails Memory number progress text line after total parts moved so_far = tt
line_fails (BadLine n) number progress text line after total parts moved so_far = line_bad number progress text line after total parts moved.0 so_far ∙ ap (λ (k : ℕ). Err k) (sym moved.1)

-- after the last line feed
pub line_ends : (number : ℕ) (progress : PackedSoFar) (text : List ℕ) (total : Result PackedSoFar ℕ) → parts_of text ≡ alone text → read_from progress number text ≡ total → total ≡ cond (eqb (length text) 0) (Ok progress) (Err number)
unfolding read_from
line_ends number progress text total parts so_far =
    let one : read_from progress number text ≡ cond (eqb (length text) 0) (Ok progress) (Err number) = rw parts refl in
    sym so_far ∙ one

-- ---- the first reference

-- Before the first reference nothing was noted, and the first of what is left is the first of all; after it all had one.
pub record IsBegun (number : ℕ) (progress : PackedSoFar) (text : List ℕ) (first : Option PackedRef) : Type 0 where
  pub none : progress.1 ≡ None → (progress.0 ≡ []) × (first_from number text ≡ first)
  pub some : IsSome progress.1 → IsSome first

-- a line with a reference is the first, or comes after it
pub line_first : (number : ℕ) (progress : PackedSoFar) (text line after : List ℕ) (first : Option PackedRef) → parts_of text ≡ (line, (parts_of after).0 ∷ (parts_of after).1)
    → IsBegun number progress text first → IsReference number line → IsSome first
unfolding first_from
line_first number (done, None) text line after first parts so_far is =
    let one : first_from number text ≡ ref_line line = rw (parts, is.below) refl in
    let P : Option PackedRef → Type 0 = λ o. IsSome o in
    subst P (sym one ∙ (so_far.none refl).1) is.found
line_first number (done, Some r) text line after first parts so_far is = so_far.some refl

none_some : {A : Type 0} (o : Option A) → o ≡ None → IsSome o → ⊥
none_some None e h = absurd cc
none_some (Some x) e h = absurd cc

some_is : {A : Type 0} (x y : A) → Some x ≡ Some y → x ≡ y
some_is x y e = cc

-- a peeled name is for a reference
peeled_some : (done : List Entry) (last : Option PackedRef) (name : Option (List ℕ)) (next : PackedSoFar) → with_peeled done last name ≡ Some next → IsSome last × IsSome next.1
peeled_some done None name next e = absurd cc
peeled_some done (Some r) None next e = absurd cc
peeled_some done (Some r) (Some name) next e =
    elim (is_none r.peeled) as (λ v. cond v (Some (done, Some (record { name = r.name; value = r.value; peeled = Some name }))) None ≡ Some next → IsSome {T = PackedRef} (Some r) × IsSome next.1) [
      | true ↦ λ h. let P : PackedSoFar → Type 0 = λ s. IsSome s.1 in (refl, subst P (some_is _ next h) refl)
      | false ↦ λ h. absurd cc
    ] e

-- a reference more is noted
ref_some : (progress : PackedSoFar) (found : Option PackedRef) (next : PackedSoFar) → with_ref progress found ≡ Some next → IsSome found × IsSome next.1
ref_some progress None next e = absurd cc
ref_some progress (Some r) next e =
    elim (has_name progress r.name) as (λ v. cond v None (Some (put progress.0 progress.1, Some r)) ≡ Some next → IsSome {T = PackedRef} (Some r) × IsSome next.1) [
      | true ↦ λ h. absurd cc
      | false ↦ λ h. let P : PackedSoFar → Type 0 = λ s. IsSome s.1 in (refl, subst P (some_is _ next h) refl)
    ] e

either : (b : Bool) → (b ≡ true) ⊎ (b ≡ false)
either true = inl refl
either false = inr refl

-- a header says nothing
header_goes : (number : ℕ) (progress next : PackedSoFar) (text line after : List ℕ) (first : Option PackedRef) → parts_of text ≡ (line, (parts_of after).0 ∷ (parts_of after).1)
    → is_header number line ≡ true → progress ≡ next → IsBegun number progress text first → IsBegun (number + 1) next after first
unfolding first_from
header_goes number progress next text line after first parts header same so_far =
    let one : first_from number text ≡ first_from (number + 1) after = rw (parts, header) refl in
    let P : PackedSoFar → Type 0 = λ s. IsBegun (number + 1) s after first in
    subst P same (record { none = λ e. ((so_far.none e).0, sym one ∙ (so_far.none e).1); some = so_far.some })

-- once a reference was noted, the first is one
noted : (progress : PackedSoFar) (number : ℕ) (text : List ℕ) (first : Option PackedRef) → IsSome progress.1 → IsSome first → IsBegun number progress text first
noted progress number text first some is = record { none = λ e. absurd (none_some progress.1 e some); some = λ _. is }

-- a line was read
pub begun_goes : (number : ℕ) (progress next : PackedSoFar) (text line after : List ℕ) (first : Option PackedRef) → parts_of text ≡ (line, (parts_of after).0 ∷ (parts_of after).1)
    → after_line number progress line ≡ Some next → IsBegun number progress text first → IsBegun (number + 1) next after first
unfolding after_line
begun_goes number progress next text line after first parts moved so_far =
    let a : Bool = is_header number line in
    let b : Bool = starts_with nat_eq line (codes "^") in
    elim (either a) [
      | inl header ↦ header_goes number progress next text line after first parts header (some_is progress next (sym (rw header refl) ∙ moved)) so_far
      | inr below ↦ elim (either b) [
        | inl peeled ↦
            let is : with_peeled progress.0 progress.1 (name_of (drop 1 line)) ≡ Some next = sym (rw (below, peeled) refl) ∙ moved in
            let some = peeled_some progress.0 progress.1 (name_of (drop 1 line)) next is in
            noted next (number + 1) after first some.1 (so_far.some some.0)
        | inr other ↦
            let is : with_ref progress (ref_line line) ≡ Some next = sym (rw (below, other) refl) ∙ moved in
            let some = ref_some progress (ref_line line) next is in
            noted next (number + 1) after first some.1 (line_first number progress text line after first parts so_far (record { below = below; found = some.0 }))
      ]
    ]

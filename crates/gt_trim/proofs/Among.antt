-- Whether a file is among files.
use Rattle.std.proofs.Common.{◌≡◌, inl, inr, ℕ, ◌<◌, true, List, length, get_or, refl, arith}
use Rattle.std.specs.Ordering.{is_eq}
use Rattle.std.proofs.lemmas.Bool.{eq-eqb}
use Rattle.std.proofs.lemmas.Bool.Decides.{nat_tests, eqb_tells}
use Rattle.std.proofs.lemmas.List.Folds.{list_any_at}
use Rattle.gt_disk.specs.Calls.{same_file}
use Rattle.gt_disk.specs.Files.{file_cmp}
use Rattle.gt_disk.specs.declared.file_id.FileId.{FileId}
use Rattle.gt_trim.specs.Unnamed.{is_among}

pub same_refl : (f : FileId) → same_file f f ≡ true
same_refl f = rw (eq-eqb f.kind f.kind refl, eq-eqb f.number f.number refl)

pub same_true : (f g : FileId) → same_file f g ≡ true → f ≡ g
same_true f g same = elim (eqb_tells f.kind g.kind) [
  | inl kinds ↦ elim (eqb_tells f.number g.number) [
    | inl numbers ↦ (λ i. record { kind = kinds.1 i; number = numbers.1 i })
    | inr apart ↦ absurd (grind (arith, nat_tests))
  ]
  | inr apart ↦ absurd (grind (arith, nat_tests))
]

pub is_eq-file_cmp : (f g : FileId) → is_eq (file_cmp f g) ≡ same_file f g
is_eq-file_cmp f g = grind (arith, nat_tests)

pub among_at : (files : List FileId) (i : ℕ) (d : FileId) → i < length files → is_among files (get_or files i d) ≡ true
among_at files i d lt = list_any_at (λ g. same_file g (get_or files i d)) files i d lt (same_refl (get_or files i d))

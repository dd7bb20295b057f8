-- Files that are numbered in a row.
use Rattle.std.proofs.Common.{◌≡◌, ◌≢◌, ℕ, zero, suc, ◌+◌, ◌<◌, ◌≤◌, List, [], ◌∷◌, length, get_or, take, refl, sym, ◌∙◌, ap, subst, arith}
use Rattle.std.specs.List.{AllByRecursion}
use Rattle.gt_apply.specs.Plan.{file_for}
use Rattle.gt_apply.specs.declared.new_file.NewContent.{NewContent}
use Rattle.gt_apply.specs.declared.new_file.NewContent.TheVariants.{Pack, Loose}
use Rattle.gt_apply.specs.declared.new_file.NewFile.{NewFile}
use Rattle.gt_disk.specs.declared.file_id.FileId.{FileId}
use Rattle.gt_checkpoint.specs.Advancing.{IsApart}
use Rattle.gt_checkpoint.specs.Writing.{StandInRow}

-- ---- one file

for_number : (n : ℕ) (c : NewContent) → (file_for n c).number ≡ n
for_number n (Pack records) = refl
for_number n (Loose value) = refl

for_kind : (n : ℕ) (c : NewContent) → 5 ≤ (file_for n c).kind
for_kind n (Pack records) = omega arith
for_kind n (Loose value) = omega arith

number_is : (n : ℕ) (f : NewFile) → f.file ≡ file_for n f.content → f.file.number ≡ n
number_is n f at = ap (λ (g : FileId). g.number) at ∙ for_number n f.content

kind_is : (n : ℕ) (f : NewFile) → f.file ≡ file_for n f.content → 5 ≤ f.file.kind
kind_is n f at = subst (λ (g : FileId). 5 ≤ g.kind) (sym at) (for_kind n f.content)

-- it is a file of its own number
pub own_number : (n : ℕ) (f : NewFile) → f.file ≡ file_for n f.content → f.file ≡ file_for f.file.number f.content
own_number n f at = at ∙ ap (λ (k : ℕ). file_for k f.content) (sym (number_is n f at))

-- ---- one of a row

pub at_place : (n : ℕ) (fs : List NewFile) (i : ℕ) (f : NewFile) → i < length fs → f ≡ get_or fs i f → StandInRow n fs → f.file ≡ file_for (n + i) f.content
at_place n [] i f lt is row = absurd (omega arith)
at_place n (x ∷ fs) zero f lt is row =
    let here : n ≡ n + 0 = omega arith in
    subst (λ (k : ℕ). f.file ≡ file_for k f.content) here (subst (λ (y : NewFile). y.file ≡ file_for n y.content) (sym is) row.0)
at_place n (x ∷ fs) (suc i) f lt is row =
    let there : n + 1 + i ≡ n + suc i = omega arith in
    subst (λ (k : ℕ). f.file ≡ file_for k f.content) there (at_place (n + 1) fs i f (omega arith) is row.1)

-- those before it are other files
pub others_before : (n : ℕ) (fs : List NewFile) (i : ℕ) (f : NewFile) → i < length fs → f ≡ get_or fs i f → StandInRow n fs → AllByRecursion (λ x. x.file ≢ f.file) (take i fs)
others_before n [] i f lt is row = absurd (omega arith)
others_before n (x ∷ fs) zero f lt is row = tt
others_before n (x ∷ fs) (suc i) f lt is row = (
  λ same.
      let first : x.file.number ≡ n = number_is n x row.0 in
      let later : f.file.number ≡ n + 1 + i = number_is (n + 1 + i) f (at_place (n + 1) fs i f (omega arith) is row.1) in
      let one : x.file.number ≡ f.file.number = ap (λ (g : FileId). g.number) same in
      omega arith,
  others_before (n + 1) fs i f (omega arith) is row.1,
)

-- ---- all of a row

-- none is of a lower kind
pub none_of_kind : (g : FileId) → g.kind < 5 → (n : ℕ) (fs : List NewFile) → StandInRow n fs → AllByRecursion (λ x. g ≢ x.file) fs
none_of_kind g low n [] row = tt
none_of_kind g low n (x ∷ fs) row = (
  λ same.
      let high : 5 ≤ x.file.kind = kind_is n x row.0 in
      let one : g.kind ≡ x.file.kind = ap (λ (h : FileId). h.kind) same in
      omega arith,
  none_of_kind g low (n + 1) fs row.1,
)

-- what stands apart from an application is none of its files
pub none_apart : (epoch next : ℕ) (g : FileId) → IsApart epoch next g → (n : ℕ) (fs : List NewFile) → next ≤ n → StandInRow n fs → AllByRecursion (λ x. g ≢ x.file) fs
none_apart epoch next g apart n [] le row = tt
none_apart epoch next g apart n (x ∷ fs) le row = (
  λ same.
      let high : 5 ≤ g.kind = subst (λ (h : FileId). 5 ≤ h.kind) (sym same) (kind_is n x row.0) in
      let low : g.number < next = apart.2 high in
      let one : g.number ≡ n = ap (λ (h : FileId). h.number) same ∙ number_is n x row.0 in
      omega arith,
  none_apart epoch next g apart (n + 1) fs (omega arith) row.1,
)

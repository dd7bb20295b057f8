-- A part of a log: the entries behind the first so many, as many as this at most.
use Rattle.std.proofs.Common.{◌≡◌, ℕ, zero, suc, ◌+◌, ◌≤◌, true, List, [], ◌∷◌, ◌++◌, length, take, drop, refl, sym, ◌∙◌, ap, subst, arith, All}
use Rattle.std.specs.List.{AllByRecursion, IsDistinct, flat_map}
use Rattle.std.proofs.lemmas.List.{take-append-drop, length-take, append-nil}
use Rattle.std.proofs.lemmas.List.Elements.{All-nil, All-from_recursion, recursion_from_All}
use Rattle.std.specs.Prelude.{nat_eq}
use Rattle.gt_ahead.proofs.Lists.{all_front}
use Rattle.gt_apply.specs.Fitting.{job_file, job_files, HasJobFiles}
use Rattle.gt_base.specs.Built.{is_built, IsBuilt}
use Rattle.gt_manifest.specs.declared.manifest.Manifest.{Manifest}
use Rattle.gt_manifest.specs.Whole.{file_numbers, IsFileNumber, IsWhole}
use Rattle.gt_model.specs.declared.change.Change.{Change}
use Rattle.gt_model.specs.declared.change.Change.TheVariants.{Create, Delete, Link, Write, Repack, Prune, PackRefs, Unlink}
use Rattle.gt_model.specs.declared.entry.Entry.{Entry}
use Rattle.gt_model.specs.Contents.{Content, after_all, IsLegal}
use Rattle.gt_model.proofs.Logs.{after_all-append, legal_front, legal_rest}

take_nothing : (n : ℕ) → take {A = Entry} n [] ≡ []
take_nothing zero = refl
take_nothing (suc n) = refl

pub take_two : (a b : ℕ) (xs : List Entry) → take (a + b) xs ≡ take a xs ++ take b (drop a xs)
take_two zero b xs = ap (λ (n : ℕ). take n xs) (let e : 0 + b ≡ b = omega arith in e)
take_two (suc a) b [] = take_nothing (suc a + b) ∙ sym (take_nothing b)
take_two (suc a) b (x ∷ xs) = ap (λ (n : ℕ). take n (x ∷ xs)) (let e : suc a + b ≡ suc (a + b) = omega arith in e) ∙ ap (λ (l : List Entry). x ∷ l) (take_two a b xs)

take_again : (n : ℕ) (xs : List Entry) → take (length (take n xs)) xs ≡ take n xs
take_again zero xs = refl
take_again (suc n) [] = refl
take_again (suc n) (x ∷ xs) = ap (λ (l : List Entry). x ∷ l) (take_again n xs)

pub take_short : (n : ℕ) (xs : List Entry) → length (take n xs) ≤ n
take_short zero xs = omega arith
take_short (suc n) [] = omega arith
take_short (suc n) (x ∷ xs) = omega (arith, take_short n xs)

-- what holds of each entry of a log holds of each of a part
pub all_part : (P : Entry → Type 0) (k n : ℕ) (log : List Entry) → All P log → All P (take n (drop k log))
all_part P k n log all =
    let whole = recursion_from_All P log all in
    let rest = (all_front P (take k log) (drop k log) (subst (AllByRecursion P) (sym (take-append-drop k log)) whole)).1 in
    All-from_recursion P (take n (drop k log)) (all_front P (take n (drop k log)) (drop n (drop k log)) (subst (AllByRecursion P) (sym (take-append-drop n (drop k log))) rest)).0

-- a part of a legal log is legal behind what comes before it
pub legal_part : (c : Content) (first k n : ℕ) (log : List Entry) → k ≤ length log → IsLegal c first log → IsLegal (after_all c (take k log)) (first + k) (take n (drop k log))
legal_part c first k n log le legal =
    let size : first + length (take k log) ≡ first + k = omega (arith, length-take k log, le) in
    let rest = legal_rest c first (take k log) (drop k log) (subst (IsLegal c first) (sym (take-append-drop k log)) legal) in
    legal_front (after_all c (take k log)) (first + k) (take n (drop k log)) (drop n (drop k log))
    (subst (IsLegal (after_all c (take k log)) (first + k)) (sym (take-append-drop n (drop k log))) (subst (λ (p : ℕ). IsLegal (after_all c (take k log)) p (drop k log)) size rest))

-- the front of a legal log is legal
pub legal_take : (c : Content) (first n : ℕ) (log : List Entry) → IsLegal c first log → IsLegal c first (take n log)
legal_take c first n log legal = legal_front c first (take n log) (drop n log) (subst (IsLegal c first) (sym (take-append-drop n log)) legal)

pub all_take : (P : Entry → Type 0) (n : ℕ) (log : List Entry) → All P log → All P (take n log)
all_take P n log all = All-from_recursion P (take n log) (all_front P (take n log) (drop n log) (subst (AllByRecursion P) (sym (take-append-drop n log)) (recursion_from_All P log all))).0

-- a part is no longer than what is left
pub part_within : (k n : ℕ) (log : List Entry) → k ≤ length log → k + length (take n (drop k log)) ≤ length log
part_within k n log le =
    let whole : length (take k log ++ drop k log) ≡ length log = ap (λ (l : List Entry). length l) (take-append-drop k log) in
    let rest : length (take n (drop k log) ++ drop n (drop k log)) ≡ length (drop k log) = ap (λ (l : List Entry). length l) (take-append-drop n (drop k log)) in
    omega (arith, le, whole, rest, length-take k log, length_two (take k log) (drop k log), length_two (take n (drop k log)) (drop n (drop k log)))
  where
    length_two : (xs ys : List Entry) → length (xs ++ ys) ≡ length xs + length ys
    length_two [] ys = omega arith
    length_two (x ∷ xs) ys = omega (arith, length_two xs ys)

-- the content behind a part
pub content_part : (c : Content) (k n : ℕ) (log : List Entry) → after_all (after_all c (take k log)) (take n (drop k log)) ≡ after_all c (take (k + length (take n (drop k log))) log)
content_part c k n log =
    sym (after_all-append c (take k log) (take n (drop k log)))
    ∙ ap (after_all c) (ap (λ (l : List Entry). take k log ++ l) (sym (take_again n (drop k log))) ∙ sym (take_two k (length (take n (drop k log))) log))

-- ---- the files of jobs

no_job : (change : Change) → is_built change ≡ true → job_file change ≡ []
no_job (Create pool) is = refl
no_job Delete is = refl
no_job (Write refs needed added) is = refl
no_job (Link pool) is = absurd (cc is)
no_job (Repack file dropped) is = absurd (cc is)
no_job (Prune file dropped) is = absurd (cc is)
no_job (PackRefs file) is = absurd (cc is)
no_job (Unlink file) is = absurd (cc is)

no_jobs : (entries : List Entry) → AllByRecursion IsBuilt entries → job_files entries ≡ []
no_jobs [] all = refl
no_jobs (e ∷ es) all = ap (λ (l : List ℕ). l ++ job_files es) (no_job e.change all.0) ∙ no_jobs es all.1

-- entries of the kinds that are built have none
pub jobs_fit : (m : Manifest) (next : ℕ) (entries : List Entry) → All IsBuilt entries → IsWhole m → HasJobFiles m next entries
jobs_fit m next entries built whole =
    let none : job_files entries ≡ [] = no_jobs entries (recursion_from_All IsBuilt entries built) in
    record {
      numbers = subst (All (IsFileNumber next)) (sym none) (All-nil (IsFileNumber next));
      once = subst (IsDistinct nat_eq) (sym (ap (λ (l : List ℕ). flat_map file_numbers m.repos ++ l) none ∙ append-nil (flat_map file_numbers m.repos))) whole.once;
    }

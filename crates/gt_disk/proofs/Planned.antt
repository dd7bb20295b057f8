-- One fault more in a plan.
use Rattle.std.proofs.Common.{◌≡◌, ℕ, Bool, List, [], ◌∷◌, ◌++◌, Option, Some, cond, nat_eq, refl, sym, ◌∙◌, ap, arith}
use Rattle.std.proofs.lemmas.Bool.Decides.{nat_tests}
use Rattle.std.specs.List.{AllZip}
use Rattle.std.specs.Ordering.{nat_cmp, is_eq}
use Rattle.std.specs.BTreeMap as tree
use Rattle.std.specs.BTreeMap.{BTreeMap}
use Rattle.gt_disk.specs.declared.fault.Fault.{Fault}
use Rattle.gt_disk.specs.Plan.{listed}

pub listed-push : (faults : List Fault) (fault : Fault) (call : ℕ) (before : Option ℕ) → listed (faults ++ fault ∷ []) call before ≡ cond (nat_eq fault.call call) (Some fault.kept) (listed faults call before)
listed-push [] fault call before = refl
listed-push (first ∷ faults) fault call before = listed-push faults fault call (cond (nat_eq first.call call) (Some first.kept) before)

is_eq-nat_cmp : (a b : ℕ) → is_eq (nat_cmp a b) ≡ nat_eq a b
is_eq-nat_cmp a b = grind (arith, nat_tests)

pub planned_step : (old new : BTreeMap ℕ ℕ) (faults : List Fault) (fault : Fault) (before : ℕ → Option ℕ)
    → ((call : ℕ) → tree.get nat_cmp new call ≡ cond (is_eq (nat_cmp fault.call call)) (Some fault.kept) (tree.get nat_cmp old call))
    → ((call : ℕ) → tree.get nat_cmp old call ≡ listed faults call (before call)) → (call : ℕ) → tree.get nat_cmp new call ≡ listed (faults ++ fault ∷ []) call (before call)
planned_step old new faults fault before updates is call =
    updates call
    ∙ ap (λ (b : Bool). cond b (Some fault.kept) (tree.get nat_cmp old call)) (is_eq-nat_cmp fault.call call)
    ∙ ap (λ (o : Option ℕ). cond (nat_eq fault.call call) (Some fault.kept) o) (is call)
    ∙ sym (listed-push faults fault call (before call))

-- a copy of numbers has the same numbers
pub same_entries : (xs ys : List (ℕ × ℕ)) → AllZip (λ p q. (q.0 ≡ p.0) × (q.1 ≡ p.1)) xs ys → ys ≡ xs
same_entries [] [] zip = refl
same_entries [] (y ∷ ys) zip = absurd zip
same_entries (x ∷ xs) [] zip = absurd zip
same_entries (x ∷ xs) (y ∷ ys) zip = λ i. (zip.0.0 i, zip.0.1 i) ∷ same_entries xs ys zip.1 i

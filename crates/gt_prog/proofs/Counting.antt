-- The lines that a failing disk answered, one after the other.
use Rattle.std.proofs.Common.{◌≡◌, ◌⊎◌, inl, inr, ⊎_elim, ℕ, zero, suc, ◌+◌, ◌-◌, ◌^◌, ◌≤◌, min, Bool, true, false, IsTrue, cond, List, [], ◌∷◌, ◌++◌, refl, sym, subst, arith}
use Rattle.std.proofs.lemmas.Bool.{cases_lt}
use Rattle.gt_disk.specs.Files.{Rose}
use Rattle.gt_model.specs.Machine.{is_faulty}
use Rattle.gt_prog.specs.Lines.{Line, faulty, Stays, Counted}

faulty-push : (lines : List Line) (line : Line) → faulty (lines ++ line ∷ []) ≡ faulty lines + cond (is_faulty line.answer) 1 0
faulty-push [] line = omega arith
faulty-push (x ∷ xs) line = omega (arith, faulty-push xs line)

counted_by : (b : Bool) (first before now old : ℕ) → before ≤ now → (IsTrue b → Rose before now) → (first + old + 0 ≤ before) ⊎ (2 ^ 64 - 1 ≤ before) → (first + (old + cond b 1 0) + 0 ≤ now) ⊎ (2 ^ 64 - 1 ≤ now)
counted_by b first before now old later rose (inr full) = inr (omega (arith, later, full))
counted_by false first before now old later rose (inl le) = inl (omega (arith, later, le))
counted_by true first before now old later rose (inl le) = let r : min (before + 1) (2 ^ 64 - 1) ≤ now = rose refl in ⊎_elim (λ lt. inr (omega (arith, lt, r))) (λ ge. inl (omega (arith, ge, r, le))) (cases_lt (2 ^ 64 - 1) (before + 1))

pub counted_none : (first : ℕ) → Counted 0 first first []
counted_none first = inl (omega arith)

-- one line more
pub counted_more : (first before now : ℕ) (lines : List Line) (line : Line) → before ≤ now → (IsTrue (is_faulty line.answer) → Rose before now) → Counted 0 first before lines → Counted 0 first now (lines ++ line ∷ [])
counted_more first before now lines line later rose counted =
    subst (λ (n : ℕ). (first + n + 0 ≤ now) ⊎ (2 ^ 64 - 1 ≤ now)) (sym (faulty-push lines line)) (counted_by (is_faulty line.answer) first before now (faulty lines) later rose counted)

-- the count rose without a line
pub counted_later : (first before now : ℕ) (lines : List Line) → before ≤ now → Counted 0 first before lines → Counted 0 first now lines
counted_later first before now lines later counted = ⊎_elim (λ le. inl (omega (arith, le, later))) (λ full. inr (omega (arith, full, later))) counted

-- one fault besides
pub counted_besides : (first before now : ℕ) (lines : List Line) → before ≤ now → Rose before now → Counted 0 first before lines → Counted 1 first now lines
counted_besides first before now lines later rose (inr full) = inr (omega (arith, later, full))
counted_besides first before now lines later rose (inl le) = ⊎_elim (λ lt. inr (omega (arith, lt, rose))) (λ ge. inl (omega (arith, ge, rose, le))) (cases_lt (2 ^ 64 - 1) (before + 1))

-- counted from before that
pub counted_earlier : (besides first before now : ℕ) (lines : List Line) → first ≤ before → Counted besides before now lines → Counted besides first now lines
counted_earlier besides first before now lines later counted = ⊎_elim (λ le. inl (omega (arith, le, later))) (λ full. inr full) counted

-- where the count stays, no line was answered by a fault
pub none_faulty : (besides before now : ℕ) (lines : List Line) → Counted besides before now lines → Stays before now → faulty lines ≡ 0
none_faulty besides before now lines counted stays = by (faulty lines) refl counted
  where
    by : (n : ℕ) → faulty lines ≡ n → (before + n + besides ≤ now) ⊎ (2 ^ 64 - 1 ≤ now) → n ≡ 0
    by zero is c = refl
    by (suc n) is (inl le) = absurd (stays (let rose : min (before + 1) (2 ^ 64 - 1) ≤ now = omega (arith, le) in rose))
    by (suc n) is (inr full) = absurd (stays (let rose : min (before + 1) (2 ^ 64 - 1) ≤ now = omega (arith, full) in rose))

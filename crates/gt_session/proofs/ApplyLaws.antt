-- A line that applies entries has a course exactly where it can be done.
use Rattle.std.proofs.Common.{◌≡◌, ℕ, ◌≤◌, Bool, true, false, cond, ◌&&◌, nat_eq, nat_le, List, Option, Some, None, Result, refl, sym, ap, ◌∙◌, subst, arith}
use Rattle.std.proofs.lemmas.Bool.Decides.{nat_tests}
use Rattle.gt_model.specs.declared.done.Done.{Done}
use Rattle.gt_model.specs.declared.event.Event.{Event}
use Rattle.gt_model.specs.declared.event.Event.TheVariants.{Apply}
use Rattle.gt_model.specs.declared.refusal.Refusal.{Refusal}
use Rattle.gt_model.specs.declared.who.Who.{Who}
use Rattle.gt_script.specs.declared.form.Form.{Form}
use Rattle.gt_script.specs.declared.form.Form.TheVariants as line
use Rattle.gt_session.specs.Sessions.{Session}
use Rattle.gt_session.specs.Courses.{MapEvent, Turned, Course, asks, can_apply, course, has_course}
use Rattle.gt_session.specs.Calls.{Takes, Does}

-- of the one partition that is there, and 1 to 16
can_apply-only : (partition n : ℕ) → can_apply partition n ≡ true → (partition ≡ 1) × (1 ≤ n) × (n ≤ 16)
can_apply-only partition n can = by (nat_eq partition 1) (nat_le 1 n) (nat_le n 16) refl refl refl can
  where
    by : (one some most : Bool) → nat_eq partition 1 ≡ one → nat_le 1 n ≡ some → nat_le n 16 ≡ most → (one && some && most) ≡ true → (partition ≡ 1) × (1 ≤ n) × (n ≤ 16)
    by true true true a b c is = (grind (arith, nat_tests), grind (arith, nat_tests), grind (arith, nat_tests))
    by true true false a b c is = absurd (cc is)
    by true false most a b c is = absurd (cc is)
    by false some most a b c is = absurd (cc is)

module _ (s : Session) (form : Form) (partition n : ℕ) (is : form ≡ line.Apply partition n) where
  -- what a line can do that has a course
  pub can_of : (course s form ≡ None → ⊥) → can_apply partition n ≡ true
  can_of some = by (can_apply partition n) (λ none. some (ap (course s) is ∙ none))
    where
      by : (can : Bool) → (cond can (Some (asks partition (Apply n))) None ≡ None → ⊥) → can ≡ true
      by true some = refl
      by false some = absurd (some refl)

  pub only_of : (course s form ≡ None → ⊥) → (partition ≡ 1) × (1 ≤ n) × (n ≤ 16)
  only_of some = can_apply-only partition n (can_of some)

  -- a line that applies does what was asked
  pub does_apply :
      {P : Type 0} (Did : ℕ → Who → Event → Result Done Refusal → Option ℕ → P → P → Type 0) (Mapped : Who → List ℕ → MapEvent → Result (Option ℕ) Refusal → P → P → Type 0) (who : Who) (turned : Turned) (old new : P)
      → (course s form ≡ None → ⊥) → Takes Did Mapped who s (asks partition (Apply n)) turned old new → Does Did Mapped who s (course s form) turned old new
  does_apply Did Mapped who turned old new some takes =
      let D : Option Course → Type 0 = λ c. Does Did Mapped who s c turned old new in
      subst D (sym (ap (course s) is ∙ ap (λ (can : Bool). cond can (Some (asks partition (Apply n))) None) (can_of some))) takes

-- a form that has a course has one in each session
pub has_so : (s : Session) (form : Form) → has_course form ≡ true → course s form ≡ None → ⊥
has_so s (line.Create path None) has none = absurd cc
has_so s (line.Create path (Some near)) has none = absurd (cc has)
has_so s (line.Begin path from) has none = absurd cc
has_so s (line.Apply partition n) has none = by (can_apply partition n) has none
  where
    by : (can : Bool) → can ≡ true → cond can (Some (asks partition (Apply n))) None ≡ None → ⊥
    by true is none = absurd cc
    by false is none = absurd (cc is)
has_so s form has none = absurd cc

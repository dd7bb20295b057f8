-- Requests of built forms alone.
use Rattle.std.proofs.Common.{◌≡◌, ℕ, zero, suc, ◌+◌, ◌<◌, Bool, true, false, not, cond, List, [], ◌∷◌, length, get_or, Option, Some, None, refl, sym, ap, ◌∙◌, arith, subst}
use Rattle.std.proofs.lemmas.Iterator.Adapters.{position_from-zero}
use Rattle.std.specs.List.{All, position, position_from}
use Rattle.std.specs.Option.{option_map}
use Rattle.gt_script.specs.declared.form.Form.{Form}
use Rattle.gt_script.specs.declared.form.Form.TheVariants.{Create, Restart}
use Rattle.gt_script.specs.declared.request.Request.{Request}
use Rattle.gt_session.specs.Courses.{has_course}
use Rattle.gt_prog.specs.Script.{HasSession, is_built, not_built}

-- a form that is built and isn't a restart is one that a session does
pub built_course : (form : Form) → is_built form ≡ true → (form ≡ Restart → ⊥) → has_course form ≡ true
built_course Restart is other = absurd (other refl)
built_course (Create path None) is other = refl
built_course (Create path (Some near)) is other = is
built_course form is other = is

none_passes : {X : Type 0} (p : X → Bool) (xs : List X) (begin i : ℕ) (d : X) → position_from p begin xs ≡ None → i < length xs → p (get_or xs i d) ≡ false
none_passes {X = X} p [] begin i d is lt = absurd (omega (arith, lt))
none_passes {X = X} p (x ∷ xs) begin i d is lt = by (p x) refl is i lt (none_passes p xs (begin + 1))
  where
    by : (t : Bool) → p x ≡ t → cond t (Some begin) (position_from p (begin + 1) xs) ≡ None → (i : ℕ) → i < length (x ∷ xs) → ((i : ℕ) (d : X) → position_from p (begin + 1) xs ≡ None → i < length xs → p (get_or xs i d) ≡ false) → p (get_or (x ∷ xs) i d) ≡ false
    by true e is i lt more = absurd (cc)
    by false e is zero lt more = e
    by false e is (suc i) lt more = more i d is (omega (arith, lt))

no_place : (o : Option ℕ) → option_map (λ i. i + 1) o ≡ None → o ≡ None
no_place None is = refl
no_place (Some i) is = absurd (cc)

surely : (b : Bool) → not b ≡ false → b ≡ true
surely true is = refl
surely false is = absurd (cc)

pub built_at : (requests : List Request) (i : ℕ) (request : Request) → i < length requests → request ≡ get_or requests i request → not_built requests ≡ None → is_built request.form ≡ true
built_at requests i request lt is none =
    let p : Request → Bool = λ r. not (is_built r.form) in
    let all : p (get_or requests i request) ≡ false = none_passes p requests 0 i request (sym (position_from-zero p requests) ∙ no_place (position p requests) none) lt in
    surely (is_built request.form) (ap p is ∙ all)

pub session_at : (requests : List Request) (i : ℕ) (request : Request) → i < length requests → request ≡ get_or requests i request → All HasSession requests → HasSession request
session_at requests i request lt is all = subst HasSession (sym is) (all i request lt)

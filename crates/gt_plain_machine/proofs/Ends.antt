-- What an effect comes to, and where that ends.
use Rattle.std.proofs.Common.{◌≡◌, ℕ, Bool, true, false, ◌&&◌, ◌||◌, nat_eq, List, [], ◌∷◌, refl, sym, subst, Result, Ok, Err, IfOk}
use Rattle.gt_model.specs.declared.done.Done.{Done}
use Rattle.gt_model.specs.declared.refusal.Refusal.{Refusal}
use Rattle.gt_model.specs.Machine.{State, Pin, Effect, refuses, answers, adds, opens, works, applies, removes, by_units, by_dropped, Ends, is_live, is_live_as}
use Rattle.gt_plain_machine.specs.declared.effects.PlainEffect.{PlainEffect}
use Rattle.gt_plain_machine.specs.declared.effects.PlainEffect.TheVariants.{Refuses, Answers, Adds, Opens, Works, Applies, Removes}
use Rattle.gt_plain_machine.specs.States.{as_effect, ComesTo}

itself : (p : PlainEffect) → ComesTo (as_effect p) (as_effect p)
itself (Refuses refusal pins) = refl
itself (Answers done pins) = refl
itself (Adds e done pins) = refl
itself (Opens p) = refl
itself (Works pin n) = refl
itself (Applies a) = refl
itself (Removes floor done) = refl

-- what is equal to it comes to it
pub comes : (e : Effect) (p : PlainEffect) → as_effect p ≡ e → ComesTo e (as_effect p)
comes e p is = subst (λ (f : Effect). ComesTo f (as_effect p)) is (itself p)

-- an effect ends where that ends to which it comes
pub ends : (e end : Effect) (s : State) (answer : Result Done Refusal) (new : State) → ComesTo e end → Ends end s answer new → Ends e s answer new
ends (refuses refusal pins) end s answer new is done = subst (λ (f : Effect). Ends f s answer new) (sym is) done
ends (answers d pins) end s answer new is done = subst (λ (f : Effect). Ends f s answer new) (sym is) done
ends (adds e d pins) end s answer new is done = subst (λ (f : Effect). Ends f s answer new) (sym is) done
ends (opens p) end s answer new is done = subst (λ (f : Effect). Ends f s answer new) (sym is) done
ends (works pin n) end s answer new is done = subst (λ (f : Effect). Ends f s answer new) (sym is) done
ends (applies a) end s answer new is done = subst (λ (f : Effect). Ends f s answer new) (sym is) done
ends (removes floor d) end s answer new is done = subst (λ (f : Effect). Ends f s answer new) (sym is) done
ends (by_units c path job more) end s answer new is done = (is.0, is.1, ends (more is.0) end s answer new is.2 done)
ends (by_dropped c path job more) end s answer new is done = (is.0, is.1, ends (more is.0) end s answer new is.2 done)

-- the same where there is an answer
pub ends_ok : {E : Type 0} (r : Result (Result Done Refusal) E) (e end : Effect) (s new : State) → ComesTo e end → IfOk r (λ answer. Ends end s answer new) → IfOk r (λ answer. Ends e s answer new)
ends_ok (Ok answer) e end s new is done = ends e end s answer new is done
ends_ok (Err error) e end s new is done = tt

-- what is live of a kind is live
pub live : (kind : Pin → Bool) (pins : List Pin) (number : ℕ) → is_live_as kind pins number ≡ true → is_live pins number ≡ true
live kind [] number is = is
live kind (p ∷ ps) number is = by (nat_eq p.number number) (kind p) is (live kind ps number)
  where
    by : (a b : Bool) → ((a && b) || is_live_as kind ps number) ≡ true → (is_live_as kind ps number ≡ true → is_live ps number ≡ true) → (a || is_live ps number) ≡ true
    by true b is more = refl
    by false b is more = more is

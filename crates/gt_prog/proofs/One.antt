-- The one partition, among the partitions of sessions.
use Rattle.std.proofs.Common.{◌≡◌, ℕ, Bool, true, false, cond, nat_eq, List, [], Option, Some, Result, Ok, refl, sym, ap, subst, arith}
use Rattle.std.proofs.Math.Path.{fun_ext}
use Rattle.std.proofs.lemmas.Bool.Decides.{nat_tests}
use Rattle.std.specs.List.{IsAmong}
use Rattle.gt_model.specs.declared.done.Done.{Done}
use Rattle.gt_model.specs.declared.event.Event.{Event}
use Rattle.gt_model.specs.declared.refusal.Refusal.{Refusal}
use Rattle.gt_model.specs.declared.who.Who.{Who}
use Rattle.gt_session.specs.Sessions.{Session}
use Rattle.gt_session.specs.Courses.{MapEvent, Turned}
use Rattle.gt_session.specs.Calls.{with_live, Answers, Follows}
use Rattle.gt_prog.specs.One.{in_one, Mapped}

-- ---- what is live

pub one_with : (old new : List ℕ) (p : ℕ) → p ≡ 1 → in_one new ≡ with_live (in_one old) p new
one_with old new p is = subst (λ (q : ℕ). in_one new ≡ with_live (in_one old) q new) (sym is) (fun_ext (λ n. by_test (nat_eq n 1)))
  where
    by_test : (b : Bool) → cond b new [] ≡ cond b new (cond b old [])
    by_test true = refl
    by_test false = refl

pub one_at : (numbers : List ℕ) (p : ℕ) → p ≡ 1 → in_one numbers p ≡ numbers
one_at numbers p is = ap (in_one numbers) is

pub one_held : (numbers : List ℕ) (p n : ℕ) → IsAmong (in_one numbers p) n → (p ≡ 1) × IsAmong numbers n
one_held numbers p n h = by_test (nat_eq p 1) refl h
  where
    by_test : (b : Bool) → nat_eq p 1 ≡ b → IsAmong (cond b numbers []) n → (p ≡ 1) × IsAmong numbers n
    by_test true t among = (grind (arith, nat_tests), among)
    by_test false t among = absurd (omega (arith, among.1.0))

-- where a path is
pub home_one : (p : ℕ) → Some 1 ≡ Some p → p ≡ 1
home_one p is = let same : 1 ≡ p = cc (is) in sym same

-- ---- what the map finds

-- the answer that follows is the one of the one partition
pub found_one : {P : Type 0} (Did : ℕ → Who → Event → Result Done Refusal → Option ℕ → P → P → Type 0) (who : Who) (s : Session) (path : List ℕ) (e : MapEvent) (event : ℕ → Event) (found : Result (Option ℕ) Refusal) (turned : Turned) (old mid new : P)
    → Mapped who path e found old mid → Follows Did Mapped who s event found turned mid new → Answers Did Mapped who s 1 (event 1) turned old new
found_one {P = P} Did who s path e event found turned old mid new mapped h =
    let here : Follows Did Mapped who s event (Ok (Some 1)) turned mid new = subst (λ (f : Result (Option ℕ) Refusal). Follows Did Mapped who s event f turned mid new) mapped.0 h in
    subst (λ (p : P). Answers Did Mapped who s 1 (event 1) turned p new) mapped.1 here.1

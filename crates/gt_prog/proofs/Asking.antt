-- What a line that a session does, and the end of all sessions, keep of the partition.
use Rattle.std.proofs.Common.{◌≡◌, ℕ, ◌≤◌, Bool, IsTrue, List, Result, refl, ap, arith}
use Rattle.gt_disk.specs.Files.{View, Rose}
use Rattle.gt_model.specs.declared.done.Done.{Done}
use Rattle.gt_model.specs.declared.refusal.Refusal.{Refusal}
use Rattle.gt_model.specs.Machine.{is_faulty}
use Rattle.gt_part.specs.Shown.{Shown}
use Rattle.gt_script.specs.declared.form.Form.{Form}
use Rattle.gt_session.specs.Sessions.{Session}
use Rattle.gt_session.specs.Together.{Requests, GiveUp}
use Rattle.gt_prog.specs.One.{LocalDid, Mapped}
use Rattle.gt_prog.proofs.Faultless.{requests_keeps, requests_rises, give_up_keeps}

module _ {D : Type 0} (tells : Bool) (view : D → View) (fault_count call_count : D → ℕ) where
  module _ (number session : ℕ) (form : Form) (answer : Result Done Refusal) (olds news : List Session) (old new : Shown D) (h : Requests (LocalDid tells view fault_count call_count) Mapped number session form answer olds news old new) where
    pub asked_limits : new.limits ≡ old.limits
    asked_limits = requests_keeps (LocalDid tells view fault_count call_count) old new (new.limits ≡ old.limits) (λ same. ap (λ (p : Shown D). p.limits) same) (λ partition who e a given call. call.2.limits) number session form answer olds news h

    pub asked_later : fault_count old.disk ≤ fault_count new.disk
    asked_later =
        requests_keeps (LocalDid tells view fault_count call_count) old new (fault_count old.disk ≤ fault_count new.disk) (λ same. let is : fault_count new.disk ≡ fault_count old.disk = ap (λ (p : Shown D). fault_count p.disk) same in omega (arith, is)) (λ partition who e a given call. call.2.cause.later) number session form
        answer olds news h

    pub asked_fault : IsTrue (is_faulty answer) → Rose (fault_count old.disk) (fault_count new.disk)
    asked_fault faulty = requests_rises (LocalDid tells view fault_count call_count) old new (Rose (fault_count old.disk) (fault_count new.disk)) is_faulty (λ n a within. within.sure) refl (λ partition who e a given call is. call.2.cause.fault is) number session form answer olds news h faulty

  pub ended_later : (ss : List Session) (old new : Shown D) → GiveUp (LocalDid tells view fault_count call_count) ss old new → fault_count old.disk ≤ fault_count new.disk
  ended_later ss old new h =
      give_up_keeps (LocalDid tells view fault_count call_count) (λ p q. fault_count p.disk ≤ fault_count q.disk) (λ p. omega arith) (λ p q r first then. omega (arith, first, then)) (λ partition who e a given p q call. call.2.cause.later) ss old new h

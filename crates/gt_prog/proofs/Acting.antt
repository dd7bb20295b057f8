-- Lines over any disk, from calls of the partition.
use Rattle.std.proofs.Common.{◌≡◌, ℕ, Bool, true, List, [], ◌∷◌, ◌++◌, map, Option, Result, Ok, refl, sym, ap, subst}
use Rattle.gt_disk.specs.Files.{View}
use Rattle.gt_model.specs.declared.done.Done.{Done}
use Rattle.gt_model.specs.declared.done.Done.TheVariants.{Restarted}
use Rattle.gt_model.specs.declared.event.Event.{Event}
use Rattle.gt_model.specs.declared.limits.Limits.{Limits}
use Rattle.gt_model.specs.declared.refusal.Refusal.{Refusal}
use Rattle.gt_model.specs.declared.who.Who.{Who}
use Rattle.gt_model.specs.Machine.{Recovered, opening}
use Rattle.gt_part.specs.Shown.{Shown, memory}
use Rattle.gt_script.specs.declared.form.Form.{Form}
use Rattle.gt_script.specs.declared.form.Form.TheVariants.{Restart}
use Rattle.gt_session.specs.Sessions.{Session, forgotten}
use Rattle.gt_session.specs.Courses.{MapEvent, has_course}
use Rattle.gt_session.specs.Together.{Requests, GiveUp}
use Rattle.gt_session.proofs.Mapping.{give_up_map, requests_map}
use Rattle.gt_prog.specs.One.{LocalDid, Mapped}
use Rattle.gt_prog.specs.Lines.{Line, new_sessions}
use Rattle.gt_prog.specs.AnyDisk.{Running, Footing, running_in, running_of, footing, opened_over, LocalActed, Reopens, ActsBy, AreActed, ActedLines, ActedWhole}

pub acted_then : (one two : List Line) (old mid new : Footing) → AreActed one old mid → AreActed two mid new → AreActed (one ++ two) old new
acted_then [] two old mid new first then = subst (λ (s : Footing). AreActed two s new) first then
acted_then (line ∷ one) two old mid new first then = (first.0, first.1, acted_then one two first.0 mid new first.2 then)

-- one line more
pub acted_more : (lines : List Line) (line : Line) (old mid new : Footing) → AreActed lines old mid → ActsBy line.request.form line mid new → AreActed (lines ++ line ∷ []) old new
acted_more lines line old mid new first then = acted_then lines (line ∷ []) old mid new first (new, then, refl)

acted_form : (form : Form) (line : Line) (old new : Footing) → has_course form ≡ true → Requests LocalActed Mapped line.number line.request.session line.request.form line.answer old.sessions new.sessions old.running new.running → ActsBy form line old new
acted_form Restart line old new has h = absurd (cc (has))
acted_form form line old new has h = h

module _ {D : Type 0} (tells : Bool) (view : D → View) (fault_count call_count : D → ℕ) where
  acts : (partition : ℕ) (who : Who) (e : Event) (a : Result Done Refusal) (given : Option ℕ) (p q : Shown D) → LocalDid tells view fault_count call_count partition who e a given p q → LocalActed partition who e a given (running_of p) (running_of q)
  acts partition who e a given p q call = (call.0, call.1, call.2.limits, call.2.acts (memory p) refl)

  maps : (who : Who) (path : List ℕ) (e : MapEvent) (found : Result (Option ℕ) Refusal) (p q : Shown D) → Mapped who path e found p q → Mapped who path e found (running_of p) (running_of q)
  maps who path e found p q h = (h.0, ap (λ (x : Shown D). running_of x) h.1)

  -- a session asks
  pub acts_asked : (line : Line) (olds news : List Session) (p q : Shown D) → has_course line.request.form ≡ true → Requests (LocalDid tells view fault_count call_count) Mapped line.number line.request.session line.request.form line.answer olds news p q
      → ActsBy line.request.form line (footing olds (running_of p)) (footing news (running_of q))
  acts_asked line olds news p q course h =
      acted_form line.request.form line (footing olds (running_of p)) (footing news (running_of q)) course
      (requests_map (LocalDid tells view fault_count call_count) LocalActed (λ x. running_of x) acts Mapped Mapped maps line.number line.request.session line.request.form line.answer olds news p q h)

  -- each session gives up what it has open
  pub acts_ended : (ss : List Session) (p q : Shown D) → GiveUp (LocalDid tells view fault_count call_count) ss p q → GiveUp LocalActed ss (running_of p) (running_of q)
  acts_ended ss p q h = give_up_map (LocalDid tells view fault_count call_count) LocalActed (λ x. running_of x) acts ss p q h

-- everything is mounted again
pub acts_restarted : {D : Type 0} (line : Line) (olds news : List Session) (p q : Shown D) (r : Recovered) → line.request.form ≡ Restart → line.answer ≡ Ok Restarted → news ≡ map forgotten olds → q.limits ≡ p.limits → memory q ≡ opening r
    → ActsBy line.request.form line (footing olds (running_of p)) (footing news (running_of q))
acts_restarted line olds news p q r form answer forgets limits opens =
    let reopens : Reopens line (footing olds (running_of p)) (footing news (running_of q)) = record { answer = answer; sessions = forgets; limits = limits; recovered = r; opens = opens } in
    subst (λ (f : Form). ActsBy f line (footing olds (running_of p)) (footing news (running_of q))) (sym form) reopens

-- ---- from a partition that is opened

module _ {D : Type 0} (p : Shown D) (limits : Limits) (r : Recovered) (limits_is : p.limits ≡ limits) (opens : memory p ≡ opening r) (lines : List Line) where
  begins_so : footing new_sessions (running_of p) ≡ opened_over limits r
  begins_so = λ i. footing new_sessions (running_in (limits_is i) (opens i))

  begun_so : (stand : Footing) → AreActed lines (footing new_sessions (running_of p)) stand → AreActed lines (opened_over limits r) stand
  begun_so stand did = subst (λ (old : Footing). AreActed lines old stand) begins_so did

  pub acted_lines : (end : Footing) × AreActed lines (footing new_sessions (running_of p)) end → ActedLines limits lines
  acted_lines h = record { recovered = r; end = h.0; did = begun_so h.0 h.1 }

  pub acted_whole : (end : Running) → (stand : Footing) × AreActed lines (footing new_sessions (running_of p)) stand × GiveUp LocalActed stand.sessions stand.running end → ActedWhole limits lines
  acted_whole end h = record { recovered = r; stand = h.0; did = begun_so h.0 h.1; end = end; ends = h.2 }

-- How the plain functions see a state, what the files recover to, and what an event comes to.
use Rattle.std.specs.Prelude.{◌≡◌, ◌+◌, ℕ, List, [], ◌∷◌}
use Rattle.gt_model.specs.declared.done.Done.TheVariants.{HouseDone}
use Rattle.gt_model.specs.declared.limits.Limits.{Limits}
use Rattle.gt_model.specs.declared.refusal.Refusal.TheVariants.{LogFull}
use Rattle.gt_model.specs.Contents.{Content}
use Rattle.gt_model.specs.Conflicts.{job_conflict}
use Rattle.gt_model.specs.Jobs.{AreUnits, Drops, job_change}
use Rattle.gt_model.specs.Machine.{State, Pin, Work, Recovered, Effect, refuses, answers, adds, opens, works, applies, removes, by_units, by_dropped, unless, first_refusal, next_entry, entries_past, is_full, front}
use Rattle.gt_plain_machine.specs.declared.state.PlainState.{PlainState}
use Rattle.gt_plain_machine.specs.declared.state.PlainRecovered.{PlainRecovered}
use Rattle.gt_plain_machine.specs.declared.effects.PlainEffect.{PlainEffect}
use Rattle.gt_plain_machine.specs.declared.effects.PlainEffect.TheVariants.{Refuses, Answers, Adds, Opens, Works, Applies, Removes}

abbrev pub as_state : PlainState → State
as_state s = record {
  begin = s.begin;
  base = s.base;
  log = s.log;
  doubt = s.doubt;
  pins = s.pins;
  applied = s.applied;
  epoch = s.epoch;
  manifest_next = s.manifest_next;
  turning = s.turning;
  floor = s.floor;
  next = s.next;
}

abbrev pub as_recovered : PlainRecovered → Recovered
as_recovered r = record { epoch = r.epoch; applied = r.applied; next = r.next; base = r.base; log = r.log }

abbrev pub as_effect : PlainEffect → Effect
as_effect (Refuses refusal pins) = refuses refusal pins
as_effect (Answers done pins) = answers done pins
as_effect (Adds e done pins) = adds e done pins
as_effect (Opens p) = opens p
as_effect (Works pin n) = works pin n
as_effect (Applies a) = applies a
as_effect (Removes floor done) = removes floor done

-- An effect comes to another: it is that one, or it is that one once the number of a job's units, or the names that it drops, are known.
abbrev pub ComesTo : Effect → Effect → Type 0
ComesTo (by_units c path job more) end = (units : ℕ) × AreUnits c path job units × ComesTo (more units) end
ComesTo (by_dropped c path job more) end = (dropped : List (List ℕ)) × Drops c path job dropped × ComesTo (more dropped) end
ComesTo effect end = effect ≡ end

-- what the commit of a job comes to once the names that it drops are known
abbrev pub closed_with : Limits → State → Pin → Work → List Pin → Content → List (List ℕ) → Effect
closed_with limits s p w pins c dropped =
    unless (job_conflict c p.path w.job dropped (entries_past s p.position)) pins
    (first_refusal pins ((is_full limits s, LogFull) ∷ []) (adds (next_entry s p.path (job_change w.job w.file dropped)) (HouseDone (front s + 1)) pins))

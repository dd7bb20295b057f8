-- States whose contents are sound, and the events that are known to leave them so.
use Rattle.std.specs.Prelude.{◌≡◌}
use Rattle.std.specs.List.{All}
use Rattle.sha1.specs.Sha1.{sha1}
use Rattle.gt_model.specs.declared.event.Event.{Event}
use Rattle.gt_model.specs.declared.event.Event.TheVariants.{Link, Commit, HouseCommit}
use Rattle.gt_model.specs.Soundness.{AreSound}
use Rattle.gt_model.specs.Needed.{AreNeeded}
use Rattle.gt_model.specs.Machine.{State, line}

-- The content after each front of the log with its doubt last is sound, and each entry says what it needs.
pub record IsSoundState (s : State) : Type 0 where
  pub contents : AreSound s.base (line s)
  pub needed : AreNeeded (line s)

-- The records of a commit have their names. Links and commits of jobs aren't known yet; no call makes one. Any other event brings no record.
abbrev pub IsKnown : Event → Type 0
IsKnown (Commit pin refs records) = All (λ a. sha1 a.whole ≡ a.name) records
IsKnown (Link path pool) = ⊥
IsKnown (HouseCommit pin) = ⊥
IsKnown event = Unit {0}

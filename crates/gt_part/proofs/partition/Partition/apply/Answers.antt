use Rattle.std.proofs.Common.{◌≡◌, Option, Some, None, refl, ◌∙◌, arith}
use Rattle.std.specs.Option.{option_map}
use Rattle.gt_manifest.specs.declared.manifest.Manifest.{Manifest}
use Rattle.gt_journal.specs.Ledger.{applying}
use Rattle.gt_part.proofs.Calling.{stepped_called, not_called}
use Rattle.gt_part.proofs.partition.Partition.apply.Goals as goal

pub returns-in-Err-clause-called : goal.returns-in-Err-clause-called
returns-in-Err-clause-called g c = rw (← c.self.view_is) (not_called _ _ _ _ _ _ _ _ _ c.take_room.ensures.opening c.take_room.ensures.same refl refl)

-- no manifest is in doubt where no application is
flat_of : (o : Option Manifest) → option_map applying o ≡ None → o ≡ None
flat_of None is = refl
flat_of (Some m) is = absurd (cc is)

pub returns-clause-called : goal.returns-clause-called
returns-clause-called g c = rw (← c.self.view_is) (
    let e = c.apply-ended.ensures in
    stepped_called _ _ _ _ _ _ _ _ _ _ _ _ _ _ refl (c.note.ensures.answer ∙ c.of.ensures.answer) c.of.ensures.kept c.tick-tick.ensures refl refl (c.note.ensures.opening ∙ c.take_room.ensures.opening) c.take_room.ensures.same c.note.ensures.turns tt e.step e.cause
    (λ few. omega (arith, e.counted few.0 (flat_of c.self.inside.state.journal.base.doubt few.1))) e.goes e.remembers)

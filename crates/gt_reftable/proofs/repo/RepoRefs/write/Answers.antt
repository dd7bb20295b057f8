use Rattle.std.proofs.Common.{ap, ◌∙◌}
use Rattle.std.specs.FinMap as map
use Rattle.gt_slots.specs.Slots.{items_of}
use Rattle.gt_reftable.specs.Tracks.{Track, trimmed}
use Rattle.gt_reftable.proofs.WriteLaws.{wrote}
use Rattle.gt_reftable.proofs.repo.RepoRefs.write.Goals as goal

pub returns : goal.returns
returns c =
    let new : Track = record { lives = c.self.inside.lives; refs = c.self.inside.refs; current = c.trim.new.self } in
    wrote c.args.position c.args.updates.now c.args.self.now c.put_updates.new.self new c.requires.after c.put_updates.ensures.newest c.put_updates.ensures.since c.put_updates.ensures.earlier c.put_updates.ensures.others
    (ap (λ (t : Track). t.lives) c.self.view_is)
    (ap (λ (t : Track). t.refs) c.self.view_is)
    (λ x. c.trim.ensures x ∙ ap (λ (t : Track). trimmed c.args.position c.args.updates.now x (items_of (map.get t.current x))) c.self.view_is)

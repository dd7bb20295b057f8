use Rattle.std.proofs.Common.{◌≡◌, Some, Option, IfSome, sym, subst, arith}
use Rattle.std.proofs.lemmas.Grind.{common_steps}
use Rattle.gt_versions.proofs.Keys.{at_key}
use Rattle.gt_reftable.specs.Tracks.{Track}
use Rattle.gt_reftable.specs.Table.{IsUnborn}
use Rattle.gt_reftable.proofs.TableLaws.{unborn}
use Rattle.gt_reftable.proofs.preparing.add_repo.Goals as goal

pub returns-in-Ok-insert-clause-here : goal.returns-in-Ok-insert-clause-here
returns-in-Ok-insert-clause-here c =
    let found : at_key c.insert.new.self.entries c.args.path.now ≡ Some c.prepare.new.self = grind (arith, common_steps) in
    let P : Option Track → Type 0 = λ s. IfSome s IsUnborn in
    subst P (sym found) (unborn c.new-repo.result c.prepare.new.self c.new-repo.ensures.lives c.new-repo.ensures.refs c.new-repo.ensures.current c.prepare.ensures.same)

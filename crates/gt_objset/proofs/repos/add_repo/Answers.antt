use Rattle.std.proofs.Common.{◌≡◌, Some, Option, IfSome, sym, subst, arith}
use Rattle.std.proofs.lemmas.Grind.{common_steps}
use Rattle.gt_versions.proofs.Keys.{at_key}
use Rattle.gt_objset.specs.Track.{Track, IsUnborn}
use Rattle.gt_objset.proofs.StepLaws.{new_unborn}
use Rattle.gt_objset.proofs.repos.add_repo.Goals as goal

pub returns-in-Ok-insert-clause-here : goal.returns-in-Ok-insert-clause-here
returns-in-Ok-insert-clause-here c =
    let found : at_key c.insert.new.self.entries c.args.path.now ≡ Some c.new.result = grind (arith, common_steps) in
    let P : Option Track → Type 0 = λ s. IfSome s IsUnborn in
    subst P (sym found) (new_unborn c.new.result c.new.ensures.lives c.new.ensures.kinds c.new.ensures.pools c.new.ensures.objects)

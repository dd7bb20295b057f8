use Rattle.std.proofs.Common.{◌≡◌, false}
use Rattle.gt_versions.specs.Versions.{is_last}
use Rattle.gt_versions.proofs.VersionLaws.{kept_last, taken_last, not_last}
use Rattle.gt_versions.proofs.versions.drop_same.Goals as goal

pub returns-in-Ok-clause-items : goal.returns-in-Ok-clause-items
returns-in-Ok-clause-items g c = kept_last c.args.position c.args.items.now.items c.pop.new.self.items c.push.new.self.items c.in-Some.last c.in-Some.ensures.items c.in-Ok.ensures.items c.if-last-position.true

pub returns-in-Ok-clause-room : goal.returns-in-Ok-clause-room
returns-in-Ok-clause-room g c = λ t. let off : is_last c.args.position c.args.items.now.items ≡ false = not_last c.args.position c.args.items.now.items c.pop.new.self.items c.in-Some.last c.in-Some.ensures.items c.if-last-position.true in let no : ⊥ = cc in absurd no

pub returns-else-last-position-clause-items : goal.returns-else-last-position-clause-items
returns-else-last-position-clause-items g c = taken_last c.args.position c.args.items.now.items c.pop.new.self.items c.in-Some.last c.in-Some.ensures.items c.if-last-position.false

use Rattle.std.proofs.Common.{arith}
use Rattle.gt_objset.proofs.TableLaws.{none_up}
use Rattle.gt_objset.proofs.AgreeLaws.{empty_agrees, empty_placed}
use Rattle.gt_objset.proofs.MemberLaws.{none_cover}
use Rattle.gt_objset.proofs.objset.ObjSet.start.Goals as goal

pub invariant_of-result : goal.invariant_of-result
invariant_of-result c = record { order = omega arith; newest = none_up c.args.floor c.new.result.entries c.new.ensures.empty; covers = none_cover c.args.floor c.new-2.result.entries c.new.result.entries c.new.ensures.empty }

pub returns-clause-empty : goal.returns-clause-empty
returns-clause-empty c = empty_agrees c.args.floor c.new.result.entries c.new-2.result.entries c.none.result c.new-3.result c.new.ensures.empty

pub returns-clause-placed : goal.returns-clause-placed
returns-clause-placed c = empty_placed c.args.floor c.new.result.entries c.new-2.result.entries c.none.result c.new-3.result c.new.ensures.empty

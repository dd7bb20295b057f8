use Rattle.std.proofs.Common.{◌≡◌, sym}
use Rattle.std.proofs.lemmas.Result.{on_ok_weaker}
use Rattle.std.specs.FinMap as map
use Rattle.gt_model.specs.Contents.{Names}
use Rattle.gt_session.specs.Pieces.{names_of}
use Rattle.gt_session.proofs.TableLaws.{value_gone, value_put}
use Rattle.gt_session.proofs.listing.set_value.Goals as goal

pub returns-then-eq : goal.returns-then-eq
returns-then-eq c = value_gone c.args.table.now.entries c.remove.new.self.entries c.args.name.now c.in-Some.new c.args.new c.in-Some.is (sym c.if-eq.ensures) c.remove.ensures.updates.0

pub returns-in-Ok : goal.returns-in-Ok
returns-in-Ok c =
    let old : Names = names_of c.args.table.now.entries in
    let new : Names = names_of c.insert_value.new.table.entries in
    on_ok_weaker {P = new ≡ map.insert old c.in-Ok.name c.in-Some.new} c.insert_value.result (λ put. value_put old new c.args.name.now c.in-Some.new c.args.new c.in-Some.is (sym c.if-eq.ensures) (rw c.in-Ok.ensures.cases at put)) c.insert_value.ensures

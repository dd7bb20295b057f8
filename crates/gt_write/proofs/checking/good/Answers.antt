use Rattle.std.proofs.Common.{◌≡◌, IsTrue, sym, subst, arith, ap}
use Rattle.gt_model.specs.declared.entry.Entry.{Entry}
use Rattle.gt_model.specs.Contents.{fits}
use Rattle.gt_verify.specs.Refusing.{ready_of}
use Rattle.gt_write.specs.Checking.{write_of}
use Rattle.gt_write.proofs.Writes.{write_fits}
use Rattle.gt_write.proofs.checking.good.Goals as goal

pub returns-in-Ok-clause-checked : goal.returns-in-Ok-clause-checked
returns-in-Ok-clause-checked g c =
    let front = g.L.Look.content c.args.content.now in
    let path = c.args.path.now in
    let staged = c.args.stage.now.staged in
    let ready = ready_of c.args.ready in
    let is : c.in-Ok.entry ≡ write_of c.args.front front path staged ready = c.in-Ok.ensures.entry front c.requires in
    record {
      ready = ready;
      good = c.requires;
      entry = is;
      adds = record {
        spelled = c.in-Ok.ensures.spelled front c.requires;
        next = ap (λ (e : Entry). e.position) is;
        fit = subst (λ (e : Entry). IsTrue (fits front e)) (sym is) (write_fits front path staged ready c.requires);
        room = omega (arith, c.if-limits-front.false);
      };
    }

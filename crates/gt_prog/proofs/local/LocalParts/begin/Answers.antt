use Rattle.std.proofs.Common.{ℕ, refl, sym, subst}
use Rattle.std.specs.Option.{option_map}
use Rattle.gt_model.specs.Machine.{State}
use Rattle.gt_part.specs.Shown.{memory}
use Rattle.gt_session.specs.Calls.{GivesPass}
use Rattle.gt_prog.specs.One.{in_one}
use Rattle.gt_prog.proofs.One.{home_one}
use Rattle.gt_prog.proofs.Passes.{begun_seen, numbers}
use Rattle.gt_prog.proofs.local.LocalParts.begin.Goals as goal

pub returns-clause-gives : goal.returns-clause-gives
returns-clause-gives g c =
    let stepped = c.begin.ensures.called.exact refl (memory c.self.inside.partition) refl in
    let gives = begun_seen c.self.inside.partition c.args.self.now c.self.view_is c.args.partition c.self.inside.partition.limits c.args.path.now c.args.seen c.begin.result stepped.after c.begin.new.pass (home_one c.args.partition c.requires.home) stepped.step c.begin.ensures.gives in
    let P : State → Type 0 = λ s. GivesPass c.begin.result (option_map (λ (n : ℕ). n) c.begin.new.pass) c.args.partition (in_one (numbers c.args.self.now.live)) (in_one (numbers s.pins)) in
    subst P (sym stepped.stands) gives

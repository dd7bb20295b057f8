use Rattle.std.proofs.Common.{◌<◌, ◌≤◌, length, ap, ◌∙◌, refl, arith}
use Rattle.gt_session.proofs.TogetherLaws.{get_at, length_forgotten, forgotten_step, forgotten_all}
use Rattle.gt_session.proofs.together.forget_each.Goals as goal

pub loop-i-preserved : goal.loop-i-preserved
loop-i-preserved g c =
    let within : c.loop-i.i < length c.loop-i.all.items = omega (arith, c.loop-i.all.ok.0, c.args.all.now.ok.0, ap length c.loop-i.invariant, length_forgotten c.loop-i.i c.args.all.now.items) in
    forgotten_step c.loop-i.i c.args.all.now.items c.loop-i.all.items _ c.index_mut.result.now c.forget.new.self c.loop-i.invariant
    (get_at c.loop-i.all.items c.loop-i.i c.index_mut.result.now within c.index_mut.ensures.value) c.forget.ensures refl

pub returns : goal.returns
returns g c =
    let past : length c.args.all.now.items ≤ c.loop-i.i = omega (arith, c.args.all.now.ok.0) in
    c.loop-i.invariant ∙ forgotten_all c.loop-i.i c.args.all.now.items past

use Rattle.std.proofs.Common.{◌≡◌, ◌<◌, ◌≤◌, ℕ, length, Option, Some, slice_get, sym, ap, subst, ◌∙◌, refl, arith, List}
use Rattle.gt_session.specs.Sessions.{Session, pass_in}
use Rattle.gt_session.specs.Calls.{LeavesOthers}
use Rattle.gt_session.proofs.TogetherLaws.{get_at, length_forgotten, forgotten_here, forgotten_step, forgotten_all, held_set, gave_up_more}
use Rattle.gt_session.proofs.together.end_each.Goals as goal

pub loop-i-preserved : goal.loop-i-preserved
loop-i-preserved g c =
    let olds = c.args.all.now.items in
    let i = c.loop-i.i in
    let s = c.index_mut.result.now in
    let within : i < length c.loop-i.all.items = omega (arith, c.loop-i.all.ok.0, c.args.all.now.ok.0, ap length c.loop-i.invariant.forgotten, length_forgotten i olds) in
    let here : slice_get c.loop-i.all.items i ≡ Some s = get_at c.loop-i.all.items i s within c.index_mut.ensures.value in
    let first : slice_get olds i ≡ Some s = sym (ap (λ (l : List Session). slice_get l i) c.loop-i.invariant.forgotten ∙ forgotten_here i olds) ∙ here in
    let live = g.P.Parts.live c.loop-i.parts in
    let leaves : LeavesOthers (pass_in s) (pass_in c.end.new.self) live (g.P.Parts.live c.end.new.parts) =
    subst (λ (holds : Option (ℕ × ℕ)). LeavesOthers (pass_in s) holds live (g.P.Parts.live c.end.new.parts)) (ap (λ (t : Session). pass_in t) (sym c.end.ensures.session)) c.end.ensures.passes in
    record {
      forgotten = forgotten_step i olds c.loop-i.all.items _ s c.end.new.self c.loop-i.invariant.forgotten here c.end.ensures.session refl;
      held = held_set c.loop-i.all.items i s c.end.new.self live (g.P.Parts.live c.end.new.parts) c.loop-i.invariant.held here leaves;
      ends = gave_up_more g.P.Parts.did c.args.parts.now olds i s c.loop-i.parts c.end.new.parts first c.end.ensures.aborts c.loop-i.invariant.ends;
    }

pub returns-clause-sessions : goal.returns-clause-sessions
returns-clause-sessions g c =
    let past : length c.args.all.now.items ≤ c.loop-i.i = omega (arith, c.args.all.now.ok.0) in
    c.loop-i.invariant.forgotten ∙ forgotten_all c.loop-i.i c.args.all.now.items past

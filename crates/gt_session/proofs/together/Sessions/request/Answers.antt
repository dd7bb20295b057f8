use Rattle.std.proofs.Common.{◌-◌, ◌<◌, length, sym, subst, refl, arith, List}
use Rattle.std.proofs.Math.ListN.{set}
use Rattle.gt_session.specs.Sessions.{Session}
use Rattle.gt_session.specs.Together.{AreHeld, Requests}
use Rattle.gt_session.proofs.ApplyLaws.{has_so}
use Rattle.gt_session.proofs.NumberLaws.{does_number}
use Rattle.gt_session.proofs.TogetherLaws.{get_at, numbered_set, held_set, requested}
use Rattle.gt_session.proofs.together.Sessions.request.Goals as goal

pub invariant_of-self : goal.invariant_of-self
invariant_of-self g c =
    let i = c.args.session - 1 in
    let within : i < length c.self.inside.all.items = omega (arith, c.self.invariant.count) in
    numbered_set c.self.inside.all.items i c.index_mut.result.now c.request.new.self c.self.invariant (get_at c.self.inside.all.items i c.index_mut.result.now within c.index_mut.ensures.value)
    (does_number g.P.Parts.did g.P.Parts.mapped (record { session = c.index_mut.result.now.number; line = c.args.line }) c.index_mut.result.now c.args.form.now (c.request.result, c.request.new.self) c.args.parts.now c.request.new.parts c.request.ensures.does)

pub request-requires-clause-built : goal.request-requires-clause-built
request-requires-clause-built g c = has_so c.index_mut.result.now c.args.form.now c.requires.built

pub returns-clause-does : goal.returns-clause-does
returns-clause-does g c =
    let i = c.args.session - 1 in
    let within : i < length c.self.inside.all.items = omega (arith, c.self.invariant.count) in
    let olds = c.self.inside.all.items in
    let F : List Session → Type 0 = λ ss. Requests g.P.Parts.did g.P.Parts.mapped c.args.line c.args.session c.args.form.now c.request.result ss (set olds i c.request.new.self) c.args.parts.now c.request.new.parts in
    subst F c.self.view_is
    (requested g.P.Parts.did g.P.Parts.mapped c.args.line c.args.session c.args.form.now c.request.result olds (set olds i c.request.new.self) c.index_mut.result.now c.request.new.self c.args.parts.now c.request.new.parts
    c.self.invariant c.requires.least (get_at olds i c.index_mut.result.now within c.index_mut.ensures.value) refl c.request.ensures.does)

pub returns-clause-held : goal.returns-clause-held
returns-clause-held g c =
    let i = c.args.session - 1 in
    let within : i < length c.self.inside.all.items = omega (arith, c.self.invariant.count) in
    held_set c.self.inside.all.items i c.index_mut.result.now c.request.new.self _ _ (subst (λ (ss : List Session). AreHeld ss (g.P.Parts.live c.args.parts.now)) (sym c.self.view_is) c.requires.held)
    (get_at c.self.inside.all.items i c.index_mut.result.now within c.index_mut.ensures.value) c.request.ensures.passes

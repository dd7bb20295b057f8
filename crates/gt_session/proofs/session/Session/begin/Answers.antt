use Rattle.std.proofs.Common.{◌≡◌, None, ap, inr, refl, sym, ◌∙◌}
use Rattle.gt_session.specs.Sessions.{Session}
use Rattle.gt_session.proofs.CourseLaws.{seen_shut, path_refused}
use Rattle.gt_session.proofs.session.Session.begin.Goals as goal

pub returns-in-Err-clause-takes : goal.returns-in-Err-clause-takes
returns-in-Err-clause-takes g c =
    let f = g.T.Numbered.number in
    let shut : c.args.self.now.open ≡ None = ap (λ (s : Session). s.open) (sym c.self.view_is ∙ seen_shut f c.self.inside.number c.self.inside.seen c.self.inside.partition c.self.inside.stage c.self.inside.pass (sym c.if-is_some.ensures)) in
    path_refused g.P.Parts.did g.P.Parts.mapped (record { session = c.args.self.now.number; line = c.args.line }) c.args.self.now c.args.parts.now c.args.path.now _ c.in-Err.refusal (inr (refl, refl)) shut c.in-Err.ensures.err

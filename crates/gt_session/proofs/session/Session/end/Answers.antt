use Rattle.std.proofs.Common.{ap, sym, refl, ◌∙◌}
use Rattle.gt_session.specs.Sessions.{Session, pass_in}
use Rattle.gt_session.proofs.CourseLaws.{seen_open}
use Rattle.gt_session.proofs.PassLaws.{ended_pass}
use Rattle.gt_session.proofs.session.Session.end.Goals as goal

pub returns-clause-passes : goal.returns-clause-passes
returns-clause-passes g c =
    let f = g.T.Numbered.number in
    ended_pass c.self.inside.partition (f c.in-Some.pass) (pass_in c.args.self.now) _ (g.P.Parts.live c.args.parts.now) (g.P.Parts.live c.abort.new.self)
    (ap (λ (s : Session). pass_in s) (sym c.self.view_is ∙ seen_open f c.self.inside.number c.self.inside.seen c.self.inside.partition c.self.inside.stage c.self.inside.pass c.in-Some.pass (sym c.take.ensures.value ∙ c.in-Some.is)))
    refl c.abort.ensures.live

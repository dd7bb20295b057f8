use Rattle.std.proofs.Common.{ap, sym}
use Rattle.gt_session.specs.Sessions.{Session, pass_in}
use Rattle.gt_session.proofs.PassLaws.{committed_pass}
use Rattle.gt_session.proofs.session.Session.commit.Goals as goal

pub returns-clause-passes : goal.returns-clause-passes
returns-clause-passes g c =
    committed_pass g.T.Numbered.number c.self.inside.partition c.self.inside.stage c.self.inside.pass c.commit-answer.new.pass c.commit-answer.result (pass_in c.args.self.now) _ _
    (ap (λ (s : Session). pass_in s) (sym c.self.view_is)) c.requires.held c.if-is_none.ensures c.commit-answer.ensures.ended c.commit-answer.ensures.open

use Rattle.std.proofs.Common.{ℕ, ap, sym, ◌∙◌}
use Rattle.gt_session.specs.Courses.{check}
use Rattle.gt_session.specs.Pieces.{open_with, session_with}
use Rattle.gt_session.proofs.CourseLaws.{seen_open, reference_taken}
use Rattle.gt_session.proofs.session.Session.verify.Goals as goal

pub returns-in-Ok-old_value-clause-takes : goal.returns-in-Ok-old_value-clause-takes
returns-in-Ok-old_value-clause-takes g c =
    reference_taken g.P.Parts.did g.P.Parts.mapped c.args.line (λ s o w v. check s o w v) c.args.self.now _ c.self.inside.number c.self.inside.seen c.self.inside.partition (g.T.Numbered.number c.in-Some.pass) c.self.inside.stage c.put_check.new.stage
    c.args.word.now c.in-Ok.name c.args.old c.in-Ok-old_value.old c.put_check.result c.args.parts.now c.old_value.new.parts
    (sym c.self.view_is ∙ seen_open g.T.Numbered.number c.self.inside.number c.self.inside.seen c.self.inside.partition c.self.inside.stage c.self.inside.pass c.in-Some.pass c.in-Some.is)
    (ap (λ (n : ℕ). session_with c.self.inside.number c.self.inside.seen (open_with c.self.inside.partition n c.put_check.new.stage)) c.old_value.ensures.pass)
    c.in-Ok.ensures.ok.0 c.in-Ok.ensures.ok.1 c.in-Ok-old_value.ensures.finds c.put_check.ensures

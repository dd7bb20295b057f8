use Rattle.std.proofs.Common.{◌≡◌, ℕ, Option, ap, refl, subst, ◌∙◌}
use Rattle.std.specs.Option.{option_map}
use Rattle.gt_model.specs.declared.event.Event.TheVariants.{Begin}
use Rattle.gt_session.specs.Sessions.{Session, heard}
use Rattle.gt_session.specs.Courses.{seen_from}
use Rattle.gt_session.proofs.CourseLaws.{begun_seen}
use Rattle.gt_session.proofs.PassLaws.{gives_begins, given_pass, pass_seen-is}
use Rattle.gt_session.proofs.session.Session.begin_there.Goals as goal

pub returns-clause-answers : goal.returns-clause-answers
returns-clause-answers g c =
    let f = g.T.Numbered.number in
    let p = c.args.partition in
    let a = c.begin-answer.result in
    let given : Option ℕ = option_map f c.begin-answer.new.pass in
    let seen : c.seen_from-seen.result ≡ seen_from c.args.self.now p c.args.from = c.seen_from-seen.ensures ∙ ap (λ (s : Session). seen_from s p c.args.from) c.self.view_is in (
      given,
      gives_begins a given p _ _ c.args.path.now (seen_from c.args.self.now p c.args.from) c.begin-answer.ensures.gives,
      subst (λ (n : ℕ). g.P.Parts.did p c.args.who (Begin c.args.path.now n) a given c.args.parts.now c.begin-answer.new.self) seen c.begin-answer.ensures.did,
      begun_seen f c.args.self.now p a c.self.inside.number c.hear.new.seen c.new.result c.begin-answer.new.pass (ap (λ (s : Session). s.number) c.self.view_is) c.requires.shut (c.hear.ensures ∙ ap (λ (s : Session). heard s.seen p a) c.self.view_is) c.new.ensures,
    )

pub returns-clause-passes : goal.returns-clause-passes
returns-clause-passes g c =
    let f = g.T.Numbered.number in
    let p = c.args.partition in
    given_pass c.begin-answer.result (option_map f c.begin-answer.new.pass) p _ _ _ _ refl (pass_seen-is f p c.new.result c.begin-answer.new.pass) c.begin-answer.ensures.gives

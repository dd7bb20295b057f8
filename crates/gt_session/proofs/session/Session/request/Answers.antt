use Rattle.std.proofs.Common.{◌≡◌, false, None, refl, rules}
use Rattle.gt_model.specs.declared.event.Event.TheVariants as event
use Rattle.gt_script.specs.declared.form.Form.TheVariants as line
use Rattle.gt_session.specs.Courses.{with_path, with_open, unless_open, finds, reads, ask, assign, list_in, seen_from}
use Rattle.gt_session.proofs.ApplyLaws.{only_of, does_apply}
use Rattle.gt_session.proofs.CourseLaws.{does_as}
use Rattle.gt_session.proofs.session.Session.request.Goals as goal

pub returns-in-Create-default-None-clause-does : goal.returns-in-Create-default-None-clause-does
returns-in-Create-default-None-clause-does g c =
    let i = c.in-Create-default-None in
    let s = c.args.self.now in
    let is : c.args.form.now ≡ line.Create i.path None = search rules in
    does_as g.P.Parts.did g.P.Parts.mapped _ s _ _ _ c.args.form.now (line.Create i.path None) (λ w. with_path w (finds w (assign None) (λ p. event.Create w false))) i.path _ is refl
    c.as_slice.ensures c.create.ensures.takes

pub returns-in-Delete-clause-does : goal.returns-in-Delete-clause-does
returns-in-Delete-clause-does g c =
    let i = c.in-Delete in
    let s = c.args.self.now in
    does_as g.P.Parts.did g.P.Parts.mapped _ s _ _ _ c.args.form.now (line.Delete i.path) (λ w. with_path w (finds w ask (λ p. event.Delete w))) i.path _ i.is refl c.as_slice-in-Delete.ensures c.delete.ensures.takes

pub returns-in-Begin-clause-does : goal.returns-in-Begin-clause-does
returns-in-Begin-clause-does g c =
    let i = c.in-Begin in
    let s = c.args.self.now in
    does_as g.P.Parts.did g.P.Parts.mapped _ s _ _ _ c.args.form.now (line.Begin i.path i.from) (λ w. unless_open s (with_path w (finds w ask (λ p. event.Begin w (seen_from s p i.from))))) i.path _
    i.is refl c.as_slice-in-Begin.ensures c.begin.ensures.takes

pub returns-in-List-clause-does : goal.returns-in-List-clause-does
returns-in-List-clause-does g c =
    let i = c.in-List in
    let s = c.args.self.now in
    does_as g.P.Parts.did g.P.Parts.mapped _ s _ _ _ c.args.form.now (line.List i.prefix) (λ w. with_open s (λ o. reads o.partition (event.ListRefs o.pin w) (list_in s o w))) i.prefix _ i.is refl c.as_slice-in-List.ensures c.list.ensures.takes

pub apply-requires-clause-one : goal.apply-requires-clause-one
apply-requires-clause-one g c = (only_of c.args.self.now c.args.form.now c.in-Apply.partition c.in-Apply.n c.in-Apply.is c.requires.built).0

pub apply-requires-clause-some : goal.apply-requires-clause-some
apply-requires-clause-some g c = (only_of c.args.self.now c.args.form.now c.in-Apply.partition c.in-Apply.n c.in-Apply.is c.requires.built).1

pub apply-requires-clause-most : goal.apply-requires-clause-most
apply-requires-clause-most g c = (only_of c.args.self.now c.args.form.now c.in-Apply.partition c.in-Apply.n c.in-Apply.is c.requires.built).2

pub returns-in-Apply-clause-does : goal.returns-in-Apply-clause-does
returns-in-Apply-clause-does g c =
    let i = c.in-Apply in
    does_apply c.args.self.now c.args.form.now i.partition i.n i.is g.P.Parts.did g.P.Parts.mapped _ _ _ _ c.requires.built c.apply.ensures.takes

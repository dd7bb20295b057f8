use Rattle.std.proofs.Common.{◌++◌, ◌∷◌, [], List, sym, ap, subst, ◌∙◌, arith}
use Rattle.gt_pack.specs.declared.placed.Placed.{Placed}
use Rattle.gt_pack.specs.Spelling.{Packed, place}
use Rattle.gt_pack.specs.Building.{Built, IsWritten}
use Rattle.gt_pack.proofs.BuildLaws.{short, built, builder_push, built_push, written_push}
use Rattle.gt_pack.proofs.builder.PackBuilder.add.Goals as goal

pub spelled_item-requires : goal.spelled_item-requires
spelled_item-requires g c = short c.args.whole.now c.requires.good

pub overflow_cast-len : goal.overflow_cast-len
overflow_cast-len g c = omega (arith, short c.args.whole.now c.requires.good)

pub invariant_of-self-2 : goal.invariant_of-self-2
invariant_of-self-2 g c =
    let p : Packed = record { name = c.args.name; whole = c.args.whole.now } in
    let grown = c.add.ensures.items ∙ ap (λ (z : List Placed). z ++ place c.self.inside.next p ∷ []) c.reserve.ensures.same in
    builder_push c.self.inside.count c.self.inside.next _ c.self.inside.items.0 _ p grown (omega arith) c.self.invariant
    (rw (← c.self.view_is) at c.requires.room)
    (rw (← c.self.view_is) at c.requires.rises)
    c.requires.good

pub returns-clause-written : goal.returns-clause-written
returns-clause-written g c = λ tells ps h.
    let p : Packed = record { name = c.args.name; whole = c.args.whole.now } in
    let old : Built = built c.self.inside.file c.self.inside.count c.self.inside.next c.self.inside.items.0 in
    let grown = c.add.ensures.items ∙ ap (λ (z : List Placed). z ++ place c.self.inside.next p ∷ []) c.reserve.ensures.same in
    let is = built_push c.self.inside.file c.self.inside.count c.self.inside.next _ c.self.inside.items.0 _ p grown (omega arith) in
    let piece = c.deref.ensures.value ∙ c.in_ok-item.ensures.spelled in
    let before = subst (λ (b : Built). IsWritten b ps (g.D.Disk.view c.args.disk.now)) (sym c.self.view_is) h in
    subst (λ (b : Built). IsWritten b (ps ++ p ∷ []) (g.D.Disk.view c.append.new.self)) (sym is)
    (written_push old ps p c.deref.result.now (g.D.Disk.view c.args.disk.now) (g.D.Disk.view c.append.new.self) piece c.spelled_item.ensures.long (rw (← c.self.view_is) at c.requires.rises) c.requires.good (c.in_ok-append.ensures.appended tells) before)

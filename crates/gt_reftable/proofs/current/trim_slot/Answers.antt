use Rattle.std.proofs.Common.{is_some, sym, ap, ◌∙◌}
use Rattle.gt_reftable.proofs.CurrentLaws.{trim_removed, trim_kept, none_of, some_of}
use Rattle.gt_reftable.proofs.current.trim_slot.Goals as goal

pub returns-then-is_none : goal.returns-then-is_none
returns-then-is_none c = trim_removed c.args.position c.args.name.now c.args.refs.now c.remove.new.self c.remove.ensures (sym c.value.ensures ∙ none_of c.value.result c.is_none.result c.is_none.ensures c.if-is_none.true)

pub returns-else-is_none : goal.returns-else-is_none
returns-else-is_none c = trim_kept c.args.position c.args.name.now c.args.refs.now (ap is_some (sym c.value.ensures) ∙ some_of c.value.result c.is_none.result c.is_none.ensures c.if-is_none.false)

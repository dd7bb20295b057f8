use Rattle.std.proofs.Common.{◌≡◌, length, refl, arith, true}
use Rattle.std.proofs.lemmas.Bool.{lt-ltb}
use Rattle.gt_object.specs.Trees.{more_entries, entry_at, tree_entries}
use Rattle.gt_object.specs.Grammar.{fault}
use Rattle.gt_object.proofs.Loops.{going_on}
use Rattle.gt_object.proofs.tree.bad_tree.Goals as goal

pub entries-init : goal.entries-init
unfolding tree_entries
entries-init c = record { within = omega arith; going = (length c.args.content.now, omega arith, refl) }

pub entries-preserved : goal.entries-preserved
entries-preserved c =
    let b = c.args.content.now in
    let f = c.in-Some.ensures.value in
    let w = c.in-Some.ensures.within in
    let m : more_entries c.args.content.now c.entries.at ≡ true = lt-ltb _ _ c.entries-test.true in
    record { within = w.1; going = going_on (more_entries c.args.content.now) (entry_at c.args.content.now) (length c.args.content.now) c.entries.at c.in-Some.found.next f.0 (fault (tree_entries c.args.content.now)) m f.1 w.0 w.1 c.entries.invariant.going }

use Rattle.std.proofs.Common.{◌≡◌, ◌∙◌, refl, arith, true, subst, sym, List, ℕ, [], length}
use Rattle.std.proofs.lemmas.Bool.{lt-ltb, le-ltb}
use Rattle.gt_object.specs.Trees.{more_entries, entry_at}
use Rattle.gt_object.proofs.Noting.{TreeDoing, note_one, doing_begins, doing_on, doing_ends, doing_bad, tree_done}
use Rattle.gt_object.proofs.Submodules.{submodule_of}
use Rattle.gt_object.proofs.deps.tree_deps.Goals as goal

pub entries-init : goal.entries-init
entries-init c =
    let P : List (List ℕ) → Type 0 = λ n. TreeDoing c.args.content.now 0 n in
    let b = c.args.content.now in
    let begins : TreeDoing c.args.content.now 0 [] = doing_begins (more_entries c.args.content.now) (entry_at c.args.content.now) (length c.args.content.now) note_one 0 [] in
    record { within = omega arith; agrees = λ q. rw (c.new-set.ensures.empty, c.new-names.ensures) refl; doing = subst P (sym c.new-names.ensures) begins }

pub entries-preserved : goal.entries-preserved
entries-preserved c =
    let m : more_entries c.args.content.now c.entries.at ≡ true = lt-ltb _ _ c.entries-test.true in
    let f = c.in-Some.ensures.value in
    let w = c.in-Some.ensures.within in
    let inv = c.entries.invariant in
    let made : c.note_entry.new.names ≡ note_one c.entries.names f.0 = c.in-Ok.ensures.noted ∙ rw (f.2, f.3, submodule_of c.args.content.now c.entries.at f.0 c.in-Some.found.next c.entries.invariant.within f.1) refl in
    record {
      within = w.1;
      agrees = c.in-Ok.ensures.agrees;
      doing = doing_on (more_entries c.args.content.now) (entry_at c.args.content.now) (length c.args.content.now) note_one 0 [] c.entries.at c.in-Some.found.next f.0 c.entries.names c.note_entry.new.names m f.1 w.0 w.1 made inv.doing;
    }

pub returns-in-None : goal.returns-in-None
returns-in-None c = tree_done c.args.content.now c.entries.names (λ all h. absurd (doing_bad (more_entries c.args.content.now) (entry_at c.args.content.now) (length c.args.content.now) note_one 0 [] c.entries.at c.entries.names (lt-ltb _ _ c.entries-test.true) c.in-None.ensures.value c.entries.invariant.doing all h))

pub returns : goal.returns
returns c = tree_done c.args.content.now c.entries.names (doing_ends (more_entries c.args.content.now) (entry_at c.args.content.now) (length c.args.content.now) note_one 0 [] c.entries.at c.entries.names (le-ltb _ _ c.entries-test.false) c.entries.invariant.doing)

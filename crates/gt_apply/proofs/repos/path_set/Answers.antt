use Rattle.std.proofs.Common.{◌≡◌, ◌∙◌, ◌+◌, ◌∷◌, ◌||◌, List, ap, sym, add-one, drop, map}
use Rattle.std.specs.BTreeSet as set
use Rattle.std.specs.List.{list_any}
use Rattle.std.specs.Ordering.{eq_by_cmp}
use Rattle.gt_model.specs.Contents.{key_cmp}
use Rattle.gt_model.specs.declared.entry.Entry.{Entry}
use Rattle.gt_versions.proofs.Keys.{flip}
use Rattle.gt_apply.proofs.DraftLaws.{next-item}
use Rattle.gt_apply.proofs.WriteLaws.{noted}
use Rattle.gt_apply.proofs.repos.path_set.Goals as goal

pub loop-entry-preserved : goal.loop-entry-preserved
loop-entry-preserved c = λ q.
    let rest : List Entry = drop (c.loop-entry.entry-index + 1) c.args.entries.now in
    let cut : drop c.loop-entry.entry-index c.args.entries.now ≡ c.entry-item.result ∷ rest = rw add-one (next-item c.args.entries.now c.loop-entry.entry-index c.entry-item.result c.loop-entry-test.true c.entry-item.is) in
    noted (set.contains key_cmp c.loop-entry.paths q) (set.contains key_cmp c.insert.new.self q) (eq_by_cmp key_cmp q c.in_ok-path.path) (eq_by_cmp key_cmp c.in_ok-path.path q)
    (list_any (eq_by_cmp key_cmp q) (map (λ e. e.path) rest)) (list_any (eq_by_cmp key_cmp q) (map (λ e. e.path) c.args.entries.now))
    (c.in_ok-insert.ensures.updates.0 q) (flip c.in_ok-path.path q)
    (ap (λ p. set.contains key_cmp c.loop-entry.paths q || (eq_by_cmp key_cmp q p || list_any (eq_by_cmp key_cmp q) (map (λ e. e.path) rest))) c.in_ok-path.ensures
    ∙ ap (λ (l : List Entry). set.contains key_cmp c.loop-entry.paths q || list_any (eq_by_cmp key_cmp q) (map (λ e. e.path) l)) (sym cut)
    ∙ c.loop-entry.invariant q)

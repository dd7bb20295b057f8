use Rattle.std.proofs.Common.{◌≡◌, ◌+◌, ◌∷◌, ◌∙◌, ◌||◌, ap, sym, drop, true, cond}
use Rattle.std.specs.BTreeSet as set
use Rattle.gt_model.specs.Contents.{key_cmp}
use Rattle.gt_versions.proofs.Keys.{flip}
use Rattle.gt_objset.proofs.SlotLaws.{item_of}
use Rattle.gt_objset.proofs.MergeLaws.{has, one_more}
use Rattle.gt_objset.proofs.merging.insert_all.Goals as goal

pub loop-name-preserved : goal.loop-name-preserved
loop-name-preserved c =
    let step : drop c.loop-name.name-index c.args.names.now ≡ c.name-item.result ∷ drop (c.loop-name.name-index + 1) c.args.names.now = item_of c.args.names.now c.loop-name.name-index c.name-item.result c.loop-name-test.true c.name-item.is in
    λ x. one_more x c.name-item.result (drop (c.loop-name.name-index + 1) c.args.names.now) c.args.names.now (set.contains key_cmp c.insert.new.self x) (set.contains key_cmp c.loop-name.all x) _
    (c.in-Ok.ensures.updates.0 x ∙ ap (λ b. cond b true (set.contains key_cmp c.loop-name.all x)) (flip c.name-item.result x))
    (ap (λ l. has x l || set.contains key_cmp c.loop-name.all x) (sym step) ∙ c.loop-name.invariant x)

use Rattle.std.proofs.Common.{◌≡◌, ◌++◌, [], ◌∷◌, arith, sym, refl, ◌∙◌}
use Rattle.std.proofs.lemmas.Grind.{common_steps}
use Rattle.gt_disk.specs.declared.call.Call.TheVariants.{Sync}
use Rattle.gt_disk.proofs.Kept.{shows_kept, settled_sync, synced_already, shows_at, settled_at}
use Rattle.gt_disk.proofs.Replay.{synced}
use Rattle.gt_disk.proofs.records.Records.sync.Goals as goal

pub returns-then-swap_remove-clause-moment : goal.returns-then-swap_remove-clause-moment
returns-then-swap_remove-clause-moment c =
    let is : c.push.new.self.items ≡ c.args.self.now.calls.items ++ Sync c.args.file ∷ [] = grind (arith, common_steps) in
    rw is (synced c.args.self.now.start c.args.self.now.calls.items c.args.file)

pub returns-else-swap_remove-clause-moment : goal.returns-else-swap_remove-clause-moment
returns-else-swap_remove-clause-moment c =
    synced_already c.args.self.now.start c.args.self.now.calls.items c.args.self.now.pending.keys c.args.file c.args.self.now.still (sym c.swap_remove.ensures.found ∙ c.if-swap_remove.false)

pub invariant_of-self-clause-same : goal.invariant_of-self-clause-same
invariant_of-self-clause-same c =
    let is : c.push.new.self.items ≡ c.args.self.now.calls.items ++ Sync c.args.file ∷ [] = grind (arith, common_steps) in
    shows_at c.args.self.now.start _ _ c.args.self.now.files (sym is) (shows_kept c.args.self.now.start c.args.self.now.calls.items (Sync c.args.file) c.args.self.now.files (λ cell. refl) c.args.self.now.same)

pub invariant_of-self-clause-still : goal.invariant_of-self-clause-still
invariant_of-self-clause-still c =
    let is : c.push.new.self.items ≡ c.args.self.now.calls.items ++ Sync c.args.file ∷ [] = grind (arith, common_steps) in
    settled_at c.args.self.now.start _ _ _ (sym is) (settled_sync c.args.self.now.start c.args.self.now.calls.items c.args.file c.args.self.now.pending.keys c.swap_remove.new.self.keys c.swap_remove.ensures.updates.0 c.args.self.now.still)

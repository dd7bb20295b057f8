use Rattle.std.proofs.Common.{◌≡◌, ◌++◌, [], ◌∷◌, Some, None, true, cond, arith, ap, sym, refl, ◌∙◌}
use Rattle.std.proofs.lemmas.Grind.{common_steps}
use Rattle.std.specs.List.{list_any}
use Rattle.gt_disk.specs.declared.file_id.FileId.{FileId}
use Rattle.gt_disk.specs.declared.call.Call.TheVariants.{Remove}
use Rattle.gt_disk.specs.Files.{Becomes, loose}
use Rattle.gt_disk.specs.Calls.{view_of, same_file, content}
use Rattle.gt_disk.proofs.Kept.{puts_update, shows_call, settled_call, shows_at, settled_at}
use Rattle.gt_disk.proofs.Replay.{becomes_remove}
use Rattle.gt_disk.proofs.records.Records.remove.Goals as goal

pub returns-in-Some-clause-moment : goal.returns-in-Some-clause-moment
returns-in-Some-clause-moment c =
    let is : c.push.new.self.items ≡ c.args.self.now.calls.items ++ Remove c.args.file true ∷ [] = grind (arith, common_steps) in
    let was : (view_of c.args.self.now.start c.args.self.now.calls.items).reads c.args.file ≡ Some c.in-Some.field-0.items = c.args.self.now.same c.args.file ∙ ap content (sym c.in-Some.ensures.value) in
    let moment : Becomes c.args.file loose (view_of c.args.self.now.start c.args.self.now.calls.items) (view_of c.args.self.now.start c.push.new.self.items) = rw is (becomes_remove c.args.self.now.start c.args.self.now.calls.items c.args.file true) in
    rw was moment

pub invariant_of-self-clause-same : goal.invariant_of-self-clause-same
invariant_of-self-clause-same c =
    let is : c.push.new.self.items ≡ c.args.self.now.calls.items ++ Remove c.args.file true ∷ [] = grind (arith, common_steps) in
    shows_at c.args.self.now.start _ _ c.remove.new.self (sym is)
    (shows_call c.args.self.now.start c.args.self.now.calls.items (Remove c.args.file true) c.args.self.now.files c.remove.new.self None
    (puts_update c.args.self.now.files c.remove.new.self c.args.file None c.remove.ensures.updates.0) refl c.args.self.now.same)

pub invariant_of-self-clause-still : goal.invariant_of-self-clause-still
invariant_of-self-clause-still c =
    let is : c.push.new.self.items ≡ c.args.self.now.calls.items ++ Remove c.args.file true ∷ [] = grind (arith, common_steps) in
    let adds : (q : FileId) → list_any (same_file q) c.insert.new.self.keys ≡ cond (same_file c.args.file q) true (list_any (same_file q) c.args.self.now.pending.keys) = (rw c.unwrap.ensures at c.insert.ensures.updates).0 in
    settled_at c.args.self.now.start _ _ _ (sym is) (settled_call c.args.self.now.start c.args.self.now.calls.items (Remove c.args.file true) c.args.self.now.pending.keys c.insert.new.self.keys adds c.args.self.now.still)

use Rattle.std.proofs.Common.{◌≡◌, ◌++◌, [], ◌∷◌, Some, true, cond, arith, sym, rules}
use Rattle.std.proofs.lemmas.Grind.{common_steps}
use Rattle.std.specs.List.{list_any}
use Rattle.gt_disk.specs.declared.file_id.FileId.{FileId}
use Rattle.gt_disk.specs.declared.call.Call.TheVariants.{Write}
use Rattle.gt_disk.specs.Calls.{same_file}
use Rattle.gt_disk.proofs.Kept.{puts_update, shows_call, settled_call, shows_at, settled_at}
use Rattle.gt_disk.proofs.Replay.{becomes_write}
use Rattle.gt_disk.proofs.records.Records.write.Goals as goal

pub returns-clause-moment : goal.returns-clause-moment
returns-clause-moment c =
    let is : c.push.new.self.items ≡ c.args.self.now.calls.items ++ Write c.args.file c.in_ok-record.record ∷ [] = grind (arith, common_steps) in
    rw (c.make_room.ensures.same.1, is) (becomes_write c.args.self.now.start c.args.self.now.calls.items c.args.file c.in_ok-record.record)

pub invariant_of-self-2-clause-same : goal.invariant_of-self-2-clause-same
invariant_of-self-2-clause-same c =
    let is : c.push.new.self.items ≡ c.args.self.now.calls.items ++ Write c.args.file c.in_ok-record.record ∷ [] = grind (arith, common_steps) in
    let copy : Some c.in_ok-record.record.items ≡ Some c.in_ok-content.content.items = search rules in
    rw (c.make_room.ensures.same.1)
    (shows_at c.args.self.now.start _ _ c.insert.new.self (sym is)
    (shows_call c.args.self.now.start c.args.self.now.calls.items (Write c.args.file c.in_ok-record.record) c.args.self.now.files c.insert.new.self (Some c.in_ok-content.content.items)
    (puts_update c.args.self.now.files c.insert.new.self c.args.file (Some c.in_ok-content.content) (rw (c.make_room.ensures.same.2) at c.in_default.ensures.updates.0)) copy c.args.self.now.same))

pub invariant_of-self-2-clause-still : goal.invariant_of-self-2-clause-still
invariant_of-self-2-clause-still c =
    let is : c.push.new.self.items ≡ c.args.self.now.calls.items ++ Write c.args.file c.in_ok-record.record ∷ [] = grind (arith, common_steps) in
    let adds : (q : FileId) → list_any (same_file q) c.insert-2.new.self.keys ≡ cond (same_file c.args.file q) true (list_any (same_file q) c.args.self.now.pending.keys) = rw (← c.make_room.ensures.items.1) (rw c.unwrap.ensures at c.insert-2.ensures.updates).0 in
    rw (c.make_room.ensures.same.1)
    (settled_at c.args.self.now.start _ _ _ (sym is) (settled_call c.args.self.now.start c.args.self.now.calls.items (Write c.args.file c.in_ok-record.record) c.args.self.now.pending.keys c.insert-2.new.self.keys adds c.args.self.now.still))

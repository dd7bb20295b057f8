use Rattle.std.proofs.Common.{◌≡◌, ◌++◌, [], ◌∷◌, List, true, cond, take, ℕ, arith, ap, sym, ◌∙◌, rules}
use Rattle.std.proofs.lemmas.Grind.{common_steps}
use Rattle.std.specs.List.{list_any}
use Rattle.gt_disk.specs.declared.file_id.FileId.{FileId}
use Rattle.gt_disk.specs.declared.call.Call.TheVariants.{Append}
use Rattle.gt_disk.specs.Files.{Content, appended}
use Rattle.gt_disk.specs.Calls.{same_file, content_of, cell_at}
use Rattle.gt_disk.proofs.Kept.{shows_call, settled_call, shows_at, settled_at}
use Rattle.gt_disk.proofs.Replay.{becomes_append}
use Rattle.gt_disk.specs.Contents.{Puts}
use Rattle.gt_disk.proofs.records.Records.append.Goals as goal

pub returns-clause-moment : goal.returns-clause-moment
returns-clause-moment c =
    let is : c.push.new.self.items ≡ c.args.self.now.calls.items ++ Append c.args.file c.in_ok-record.record c.args.kept ∷ [] = grind (arith, common_steps) in
    let copied : c.in_ok-record.record.items ≡ c.args.piece.now = search rules in
    rw (c.make_room.ensures.same.1, is) (becomes_append c.args.self.now.start c.args.self.now.calls.items c.args.file c.in_ok-record.record c.args.kept c.args.piece.now copied)

pub invariant_of-self-2-clause-same : goal.invariant_of-self-2-clause-same
invariant_of-self-2-clause-same c =
    let is : c.push.new.self.items ≡ c.args.self.now.calls.items ++ Append c.args.file c.in_ok-record.record c.args.kept ∷ [] = grind (arith, common_steps) in
    let copied : c.in_ok-record.record.items ≡ c.args.piece.now = search rules in
    let before : Content = content_of c.args.self.now.files c.args.file in
    let longer : Content = appended before (take c.args.kept c.args.piece.now) in
    let puts : Puts c.args.self.now.files c.extend_file.new.files c.args.file longer = rw (c.make_room.ensures.same.2) at c.in_ok-extend_file.ensures.ok in
    let shown : appended (cell_at c.args.self.now.start c.args.file c.args.self.now.calls.items).shown (take c.args.kept c.in_ok-record.record.items) ≡ longer =
    ap (λ (x : Content). appended x (take c.args.kept c.in_ok-record.record.items)) (c.args.self.now.same c.args.file) ∙ ap (λ (l : List ℕ). appended before (take c.args.kept l)) copied in
    rw (c.make_room.ensures.same.1)
    (shows_at c.args.self.now.start _ _ c.extend_file.new.files (sym is)
    (shows_call c.args.self.now.start c.args.self.now.calls.items (Append c.args.file c.in_ok-record.record c.args.kept) c.args.self.now.files c.extend_file.new.files longer puts shown c.args.self.now.same))

pub invariant_of-self-2-clause-still : goal.invariant_of-self-2-clause-still
invariant_of-self-2-clause-still c =
    let is : c.push.new.self.items ≡ c.args.self.now.calls.items ++ Append c.args.file c.in_ok-record.record c.args.kept ∷ [] = grind (arith, common_steps) in
    let adds : (q : FileId) → list_any (same_file q) c.insert.new.self.keys ≡ cond (same_file c.args.file q) true (list_any (same_file q) c.args.self.now.pending.keys) = rw (← c.make_room.ensures.items.1) (rw c.unwrap.ensures at c.insert.ensures.updates).0 in
    rw (c.make_room.ensures.same.1)
    (settled_at c.args.self.now.start _ _ _ (sym is) (settled_call c.args.self.now.start c.args.self.now.calls.items (Append c.args.file c.in_ok-record.record c.args.kept) c.args.self.now.pending.keys c.insert.new.self.keys adds c.args.self.now.still))

use Rattle.std.proofs.Common.{◌≡◌, ℕ, ◌+◌, sym, subst}
use Rattle.std.specs.FinMap as map
use Rattle.gt_reftable.specs.Table.{AllUpTo}
use Rattle.gt_reftable.proofs.TableLaws.{up_in_tree, room_in_tree, added_up}
use Rattle.gt_reftable.proofs.RefsLaws.{added}
use Rattle.gt_reftable.proofs.table.RefTable.with.Goals as goal

pub add_next-requires-clause-newest : goal.add_next-requires-clause-newest
add_next-requires-clause-newest c = up_in_tree c.self.inside.front c.self.inside.repos.entries c.self.invariant

pub add_next-requires-clause-room : goal.add_next-requires-clause-room
add_next-requires-clause-room c = let room = rw (← c.self.view_is) at c.requires.prepared in room_in_tree (c.self.inside.front + 1) c.args.entry.now.change c.self.inside.repos.entries c.args.entry.now.path room

pub invariant_of-self : goal.invariant_of-self
invariant_of-self c =
    let is : c.args.entry.now.position ≡ c.self.inside.front + 1 = rw (← c.self.view_is) at c.requires.next in
    let P : ℕ → Type 0 = λ n. AllUpTo n (map.from_entries c.add_next.new.repos.entries) in
    subst P (sym is) (added_up c.self.inside.front c.args.entry.now c.self.inside.repos.entries c.add_next.new.repos.entries c.add_next.ensures)

pub returns : goal.returns
returns c =
    let is : c.args.entry.now.position ≡ c.self.inside.front + 1 = rw (← c.self.view_is) at c.requires.next in
    rw (← c.self.view_is) (added c.self.inside.floor c.self.inside.front c.args.entry.now.position c.args.entry.now c.self.inside.repos.entries c.add_next.new.repos.entries is c.add_next.ensures)

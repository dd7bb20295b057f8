use Rattle.gt_reftable.proofs.TableLaws.{up_in_tree}
use Rattle.gt_reftable.proofs.SeedLaws.{seeded_table, seeded_up, unseeded_table}
use Rattle.gt_reftable.proofs.table.RefTable.seed.Goals as goal

pub seed_ref-requires : goal.seed_ref-requires
seed_ref-requires c = up_in_tree c.self.inside.front c.self.inside.repos.entries c.self.invariant

pub invariant_of-self : goal.invariant_of-self
invariant_of-self c = seeded_up c.seed_ref.result c.self.inside.front c.args.path.now c.args.name.now c.args.value c.self.inside.repos.entries c.seed_ref.new.repos.entries (up_in_tree c.self.inside.front c.self.inside.repos.entries c.self.invariant) c.seed_ref.ensures.ok c.seed_ref.ensures.err

pub returns-clause-ok : goal.returns-clause-ok
returns-clause-ok c =
    let start = rw (← c.self.view_is) at c.requires.start in
    rw (← c.self.view_is) (seeded_table c.seed_ref.result c.self.inside.floor c.self.inside.front c.args.path.now c.args.name.now c.args.value c.self.inside.repos.entries c.seed_ref.new.repos.entries start c.seed_ref.ensures.ok)

pub returns-clause-err : goal.returns-clause-err
returns-clause-err c = rw (← c.self.view_is) (unseeded_table c.seed_ref.result c.self.inside.floor c.self.inside.front c.self.inside.repos.entries c.seed_ref.new.repos.entries c.seed_ref.ensures.err)

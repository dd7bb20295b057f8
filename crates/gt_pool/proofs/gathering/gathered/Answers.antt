use Rattle.std.proofs.Common.{rules, ◌≡◌, subst}
use Rattle.gt_pool.specs.Counting.{times, below}
use Rattle.gt_pool.specs.Known.{Claiming}
use Rattle.gt_pool.proofs.GatherLemmas.{none_home, one_home, all_home}
use Rattle.gt_pool.proofs.gathering.gathered.Goals as goal

pub workers-init : goal.workers-init
workers-init g c = none_home c.args.claims.now c.args.workers.items _ _ _ _ c.from_vec-left.ensures c.new-all.ensures c.new-kits.ensures c.requires.claimer c.requires.some.1 c.requires.home

pub workers-preserved : goal.workers-preserved
workers-preserved g c = one_home c.args.claims.now c.args.workers.items c.workers.left c.pop.new.self c.in-Some.worker c.workers.claimer c.join.new.claimer c.workers.all c.append.new.all c.workers.kits c.push.new.self
    c.in-Some.ensures c.workers.invariant c.join.ensures.of c.join.ensures.parts c.join.ensures.claims c.join.ensures.finished c.in_ok-append.ensures c.in_ok-push.ensures.ok

pub returns-clause-once : goal.returns-clause-once
returns-clause-once g c = all_home c.args.claims.now c.args.workers.items c.workers.left c.workers.claimer c.workers.all c.workers.kits c.args.claims.now.count (search rules) c.workers.invariant (λ x. let P : Claiming → Type 0 = λ k. times x k.claims ≡ below x c.args.claims.now.count in subst P c.all-2.ensures.same (c.all-2.ensures.each x))

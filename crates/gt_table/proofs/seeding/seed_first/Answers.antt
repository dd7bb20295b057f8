use Rattle.std.proofs.Common.{ap, ◌∙◌, sym, is_some}
use Rattle.gt_objset.specs.Table.{head_at}
use Rattle.gt_table.proofs.LeftLaws.{left_skipped, ok_left}
use Rattle.gt_table.proofs.seeding.seed_first.Goals as goal

pub returns-then-has_repo : goal.returns-then-has_repo
returns-then-has_repo c =
    let there = ap (λ n. is_some (head_at c.args.objects.now n c.args.repo.now.path)) (sym c.floor.ensures) ∙ sym c.has_repo.ensures.table ∙ c.if-has_repo.true in
    λ begin rest all h. left_skipped begin c.args.repo.now rest all c.args.refs.now c.args.objects.now h there

pub returns : goal.returns
returns c =
    let none = ap (λ n. is_some (head_at c.args.objects.now n c.args.repo.now.path)) (sym c.floor.ensures) ∙ sym c.has_repo.ensures.table ∙ c.if-has_repo.false in
    ok_left c.seed_refs.result c.args.repo.now c.as_slice.result.now c.as_slice-2.result.now c.args.refs.now c.seed_refs.new.refs c.args.objects.now c.seed_repo.new.objects c.as_slice.ensures c.as_slice-2.ensures none c.in_default.ensures c.seed_refs.ensures

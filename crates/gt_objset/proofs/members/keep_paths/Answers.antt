use Rattle.std.proofs.Common.{rules, ◌∙◌, sym, ap, is_some}
use Rattle.std.specs.BTreeMap as tree
use Rattle.std.specs.Cmp.{eq_by_cmp_equiv}
use Rattle.std.specs.Cmp.Lexicographic.{nat_list_cmp_total}
use Rattle.std.specs.List.{list_any}
use Rattle.std.specs.Ordering.{eq_by_cmp}
use Rattle.std.proofs.lemmas.Fn.{filter_same}
use Rattle.std.proofs.lemmas.Map.Made.{is_member-filter}
use Rattle.gt_model.specs.Contents.{key_cmp}
use Rattle.gt_versions.proofs.Keys.{at_key-same}
use Rattle.gt_objset.proofs.members.keep_paths.Goals as goal

pub returns-clause-kept : goal.returns-clause-kept
returns-clause-kept c = λ path.
    ap (list_any (λ n. eq_by_cmp key_cmp path n)) (filter_same _ (λ k. is_some (tree.get key_cmp c.args.repos.now k)) _ (λ k b g t. search rules) _ _ c.retain.ensures.filtered)
    ∙ is_member-filter (eq_by_cmp_equiv nat_list_cmp_total) (λ k. is_some (tree.get key_cmp c.args.repos.now k)) path (λ k t. ap is_some (sym (at_key-same c.args.repos.now.entries path k t))) c.args.paths.now.keys

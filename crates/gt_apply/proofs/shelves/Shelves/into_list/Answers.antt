use Rattle.std.proofs.Common.{◌≡◌, ◌∙◌, List, ℕ, IfOk, subst, sym, ap, map as map_list}
use Rattle.std.specs.FinMap as map
use Rattle.gt_manifest.specs.declared.manifest.RepoFiles.{RepoFiles}
use Rattle.gt_versions.proofs.Keys.{entries_of}
use Rattle.gt_apply.specs.Plan.{Shelves}
use Rattle.gt_apply.proofs.shelves.Shelves.into_list.Goals as goal

pub returns : goal.returns
returns c =
    subst (λ (es : List (List ℕ × RepoFiles)). IfOk c.list_of.result (λ list. list ≡ map_list (λ e. e.1) es))
    (sym (entries_of c.self.inside.tree.entries c.list_of.ensures.ordered) ∙ ap (λ (m : Shelves). map.entries m) c.self.view_is) c.list_of.ensures.list

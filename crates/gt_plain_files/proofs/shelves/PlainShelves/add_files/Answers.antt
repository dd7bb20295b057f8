use Rattle.std.proofs.Common.{◌≡◌, ◌∙◌, ◌++◌, ℕ, List, ap, sym, subst, OnOk, flat_map}
use Rattle.std.specs.FinMap as map
use Rattle.std.specs.FinMap.{FinMap}
use Rattle.gt_model.specs.Contents.{key_cmp}
use Rattle.gt_model.specs.NamedFiles.{Shelf, shelf_files}
use Rattle.gt_plain.proofs.Maps.{entries_of}
use Rattle.gt_plain_files.proofs.shelves.PlainShelves.add_files.Goals as goal

pub returns : goal.returns
returns c =
    subst (λ (es : List (List ℕ × Shelf)). OnOk c.add_all.result (c.add_all.new.files.items ≡ c.args.files.now.items ++ flat_map (λ e. shelf_files e.1) es))
    (sym (entries_of c.self.inside.tree.entries c.add_all.ensures.ordered) ∙ ap (λ (m : FinMap key_cmp Shelf). map.entries m) c.self.view_is) c.add_all.ensures.files

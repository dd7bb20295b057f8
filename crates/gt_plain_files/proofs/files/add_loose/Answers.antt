use Rattle.std.proofs.Common.{◌≡◌, ◌∙◌, ◌++◌, ℕ, List, [], ◌∷◌, refl, ap, map as map_list, subst, OnOk}
use Rattle.std.specs.FinMap as map
use Rattle.gt_disk.specs.declared.file_id.FileId.{FileId}
use Rattle.gt_model.specs.NamedFiles.{file}
use Rattle.gt_plain_files.proofs.files.add_loose.Goals as goal

fused : (es : List (List ℕ × ℕ)) → map_list (file 7) (map_list (λ r. r.1) es) ≡ map_list (λ r. file 7 r.1) es
fused [] = refl
fused (e ∷ es) = ap (λ (files : List FileId). file 7 e.1 ∷ files) (fused es)

pub returns : goal.returns
returns c =
    subst (λ (more : List FileId). OnOk c.add_each.result (c.add_each.new.files.items ≡ c.args.files.now.items ++ more))
    (ap (λ (numbers : List ℕ). map_list (file 7) numbers) (c.deref.ensures.value ∙ c.in_ok-numbers.ensures) ∙ fused (map.entries c.args.shelf.now.refs)) c.add_each.ensures

use Rattle.std.proofs.Common.{ℕ, List, Some, ◌∙◌, ap}
use Rattle.gt_disk.specs.Files.{still}
use Rattle.gt_disk.specs.Kinds.{manifest_file}
use Rattle.gt_base.proofs.Switches.{switching}
use Rattle.gt_base.proofs.switching.switch_files.Goals as goal

pub returns-in-Ok-append_synced-clause-any_moment : goal.returns-in-Ok-append_synced-clause-any_moment
returns-in-Ok-append_synced-clause-any_moment g c told epoch next counts =
    switching epoch c.manifest_file.result (c.manifest_file.ensures ∙ ap manifest_file next) c.args.to.now _ _ _ counts (c.write_synced.ensures.run told)
    (c.in-Ok-write_synced.ensures.still told ∙ ap (λ (b : List ℕ). still (Some b)) (c.deref.ensures.value ∙ c.in-Ok.ensures.text)) (c.append_synced.ensures.run told)

pub returns-in-Err-Failed-append_synced-clause-any_moment : goal.returns-in-Err-Failed-append_synced-clause-any_moment
returns-in-Err-Failed-append_synced-clause-any_moment g c told epoch next counts =
    switching epoch c.manifest_file.result (c.manifest_file.ensures ∙ ap manifest_file next) c.args.to.now _ _ _ counts (c.write_synced.ensures.run told)
    (c.in-Ok-write_synced.ensures.still told ∙ ap (λ (b : List ℕ). still (Some b)) (c.deref.ensures.value ∙ c.in-Ok.ensures.text)) (c.append_synced.ensures.run told)

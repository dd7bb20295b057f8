use Rattle.std.proofs.Common.{◌≡◌, ◌∙◌, ℕ, [], Some, ap, subst, map as map_list}
use Rattle.std.proofs.lemmas.Result.{on_ok_weaker}
use Rattle.gt_applied.specs.Applied.{to_packed}
use Rattle.gt_disk.specs.Files.{now, still}
use Rattle.gt_disk.specs.Kinds.{pack_file}
use Rattle.gt_pack.specs.Building.{Built}
use Rattle.gt_pack.specs.Spelling.{pack}
use Rattle.gt_checkpoint.proofs.files.write_pack.Goals as goal

pub returns-clause-kept : goal.returns-clause-kept
returns-clause-kept g c told =
    let file : c.add_records.new.builder.file ≡ c.args.number = c.add_records.ensures.file ∙ ap (λ (b : Built). b.file) c.in_ok-builder.ensures.begun in
    on_ok_weaker c.end.result
    (λ lasts. subst (λ (n : ℕ). now (g.D.Disk.view c.end.new.disk) (pack_file n) ≡ still (Some (pack (map_list to_packed c.args.records.now)))) file
    (lasts (map_list to_packed c.args.records.now) (c.in_ok-add_records.ensures.written told [] (c.in_ok-builder.ensures.written told))).still)
    (c.end.ensures.lasts told)

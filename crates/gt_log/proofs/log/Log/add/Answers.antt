use Rattle.std.proofs.Common.{◌+◌, ◌∙◌, ap, refl}
use Rattle.gt_log.specs.State.{LogState}
use Rattle.gt_log.proofs.Stages.{adding, added, doubted}
use Rattle.gt_log.proofs.Images.{adding_images, stands_recovers, doubts_recovers}
use Rattle.gt_log.proofs.log.Log.add.Goals as goal

pub returns-in-Ok-append_synced-clause-any_moment : goal.returns-in-Ok-append_synced-clause-any_moment
returns-in-Ok-append_synced-clause-any_moment g c told first entries counts stands =
    adding first entries c.args.bytes.now (c.self.inside.len + 1) (ap (λ (s : LogState). s.len + 1) c.self.view_is ∙ counts) _ _ _ stands (rw c.entry_file.ensures at (c.write_synced.ensures.run told)) (rw c.entry_file.ensures at (c.in-Ok.ensures.still told)) (c.append_synced.ensures.run told)

pub returns-in-Err-Failed-append_synced-clause-any_moment : goal.returns-in-Err-Failed-append_synced-clause-any_moment
returns-in-Err-Failed-append_synced-clause-any_moment g c told first entries counts stands =
    adding first entries c.args.bytes.now (c.self.inside.len + 1) (ap (λ (s : LogState). s.len + 1) c.self.view_is ∙ counts) _ _ _ stands (rw c.entry_file.ensures at (c.write_synced.ensures.run told)) (rw c.entry_file.ensures at (c.in-Ok.ensures.still told)) (c.append_synced.ensures.run told)

pub returns-in-Err-Failed-append_synced-clause-after : goal.returns-in-Err-Failed-append_synced-clause-after
returns-in-Err-Failed-append_synced-clause-after g c told first entries counts stands =
    let failed = rw c.in-Err-Failed-append_synced.field-0-is at c.in-Err-Failed-append_synced.ensures.doubt in
    doubted first entries c.args.bytes.now (c.self.inside.len + 1) (ap (λ (s : LogState). s.len + 1) c.self.view_is ∙ counts) _ _ _ stands (rw c.entry_file.ensures at (c.write_synced.ensures.run told)) (rw c.entry_file.ensures at (c.in-Ok.ensures.still told)) (c.append_synced.ensures.run told) (failed told refl)

pub returns-in-Ok-append_synced-clause-after : goal.returns-in-Ok-append_synced-clause-after
returns-in-Ok-append_synced-clause-after g c told first entries counts stands =
    added first entries c.args.bytes.now (c.self.inside.len + 1) (ap (λ (s : LogState). s.len + 1) c.self.view_is ∙ counts) _ _ _ stands (rw c.entry_file.ensures at (c.write_synced.ensures.run told)) (rw c.entry_file.ensures at (c.in-Ok.ensures.still told)) (c.append_synced.ensures.run told) (c.in-Ok-append_synced.ensures.still told)

pub returns-in-Ok-append_synced-clause-images : goal.returns-in-Ok-append_synced-clause-images
returns-in-Ok-append_synced-clause-images g c told first entries counts stands =
    adding_images first entries c.args.bytes.now _ _ _ (adding first entries c.args.bytes.now (c.self.inside.len + 1) (ap (λ (s : LogState). s.len + 1) c.self.view_is ∙ counts) _ _ _ stands (rw c.entry_file.ensures at (c.write_synced.ensures.run told)) (rw c.entry_file.ensures at (c.in-Ok.ensures.still told)) (c.append_synced.ensures.run told))

pub returns-in-Err-Failed-append_synced-clause-images : goal.returns-in-Err-Failed-append_synced-clause-images
returns-in-Err-Failed-append_synced-clause-images g c told first entries counts stands =
    adding_images first entries c.args.bytes.now _ _ _ (adding first entries c.args.bytes.now (c.self.inside.len + 1) (ap (λ (s : LogState). s.len + 1) c.self.view_is ∙ counts) _ _ _ stands (rw c.entry_file.ensures at (c.write_synced.ensures.run told)) (rw c.entry_file.ensures at (c.in-Ok.ensures.still told)) (c.append_synced.ensures.run told))

pub returns-in-Ok-append_synced-clause-images_after : goal.returns-in-Ok-append_synced-clause-images_after
returns-in-Ok-append_synced-clause-images_after g c told first entries counts stands =
    stands_recovers first _ _ (added first entries c.args.bytes.now (c.self.inside.len + 1) (ap (λ (s : LogState). s.len + 1) c.self.view_is ∙ counts) _ _ _ stands (rw c.entry_file.ensures at (c.write_synced.ensures.run told)) (rw c.entry_file.ensures at (c.in-Ok.ensures.still told)) (c.append_synced.ensures.run told) (c.in-Ok-append_synced.ensures.still told))

pub returns-in-Err-Failed-append_synced-clause-images_after : goal.returns-in-Err-Failed-append_synced-clause-images_after
returns-in-Err-Failed-append_synced-clause-images_after g c told first entries counts stands =
    let failed = rw c.in-Err-Failed-append_synced.field-0-is at c.in-Err-Failed-append_synced.ensures.doubt in
    doubts_recovers first entries c.args.bytes.now _ (doubted first entries c.args.bytes.now (c.self.inside.len + 1) (ap (λ (s : LogState). s.len + 1) c.self.view_is ∙ counts) _ _ _ stands (rw c.entry_file.ensures at (c.write_synced.ensures.run told)) (rw c.entry_file.ensures at (c.in-Ok.ensures.still told)) (c.append_synced.ensures.run told) (failed told refl))

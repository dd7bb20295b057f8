use Rattle.std.proofs.Common.{ap}
use Rattle.gt_manifest.specs.declared.manifest.Manifest.{Manifest}
use Rattle.gt_manifest.specs.declared.version.Version.TheVariants.{Second}
use Rattle.gt_base.proofs.SwitchImages.{since_images, after_images}
use Rattle.gt_base.proofs.base.Base.switch.Goals as goal

pub returns-clause-images : goal.returns-clause-images
returns-clause-images g c told limits gate before after old_is new_is may =
    since_images limits gate before after _ _ may (g.met.D.Disk.shows c.args.disk.now told) c.args.self.now.manifest.epoch (ap (λ (m : Manifest). m.epoch) old_is) c.args.to new_is c.requires.epoch (c.law_a_manifest_is_read_again.ensures Second c.args.to c.requires.fits)
    c.switch_files-answer.result _ _ (c.switch_files-answer.ensures.any_moment told c.args.self.now.manifest.epoch c.requires.epoch)

pub returns-clause-images_after : goal.returns-clause-images_after
returns-clause-images_after g c told limits gate before after old_is new_is may =
    after_images limits gate before after _ _ may (g.met.D.Disk.shows c.args.disk.now told) c.args.self.now.manifest.epoch (ap (λ (m : Manifest). m.epoch) old_is) c.args.to new_is c.requires.epoch (c.law_a_manifest_is_read_again.ensures Second c.args.to c.requires.fits)
    c.switch_files-answer.result _ (c.switch_files-answer.ensures.after told c.args.self.now.manifest.epoch c.requires.epoch)

pub returns-clause-any_moment : goal.returns-clause-any_moment
returns-clause-any_moment g c told counts = c.switch_files-answer.ensures.any_moment told c.args.self.now.manifest.epoch c.requires.epoch counts

use Rattle.std.proofs.Common.{ap, sym, ◌∙◌, find, option_map}
use Rattle.gt_model.specs.Contents.{Content, is_this, least_member}
use Rattle.gt_plain.proofs.Maps.{entries_of}
use Rattle.gt_plain.proofs.content.PlainContent.least_member.Goals as goal

pub returns : goal.returns
returns c =
    c.least_with_pool.ensures.least ∙ ap (λ es. option_map (λ e. e.0) (find (λ e. is_this e.1.pool c.args.pool.now) es)) (sym (entries_of c.self.inside.repos.entries c.least_with_pool.ensures.ordered))
    ∙ ap (λ (m : Content). least_member m c.args.pool.now) c.self.view_is

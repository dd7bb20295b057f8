use Rattle.std.proofs.Common.{ℕ, List, Option, ap, sym, ◌∙◌}
use Rattle.std.specs.Option.{option_copied}
use Rattle.std.specs.FinMap as map
use Rattle.gt_model.specs.Contents.{Repo, own_of}
use Rattle.gt_model.proofs.Checks.{entries-empty}
use Rattle.gt_plain_jobs.proofs.objects.owned.Goals as goal

pub returns-in-None : goal.returns-in-None
returns-in-None c = c.new.ensures.items ∙ sym (ap (λ (o : Option Repo). map.entries (own_of o)) (sym c.get.ensures ∙ ap option_copied c.in-None.is) ∙ entries-empty (List ℕ))

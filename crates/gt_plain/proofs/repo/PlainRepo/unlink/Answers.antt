use Rattle.std.proofs.Common.{◌≡◌, None, ap, sym, ◌∙◌}
use Rattle.std.specs.Option.{option_copied}
use Rattle.gt_model.specs.Contents.{Repo, Names, union}
use Rattle.gt_plain.specs.Plain.{or_empty}
use Rattle.gt_plain.proofs.Union.{union-empty}
use Rattle.gt_plain.proofs.repo.PlainRepo.unlink.Goals as goal

pub returns-in-None : goal.returns-in-None
returns-in-None c =
    let own : Names = c.args.self.now.own in
    let is : c.self.inside.own ≡ union own (or_empty (option_copied c.args.pool)) =
    ap (λ (r : Repo). r.own) c.self.view_is ∙ sym (union-empty own) ∙ ap (λ p. union own (or_empty (option_copied p))) (sym c.in-None.is) in
    λ i. record { refs = (c.self.view_is i).refs; own = is i; pool = None; is_pool = (c.self.view_is i).is_pool }

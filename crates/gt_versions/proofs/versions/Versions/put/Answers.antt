use Rattle.std.proofs.Common.{◌≡◌, ap, ◌∙◌, ◌++◌, ◌∷◌, []}
use Rattle.gt_versions.specs.Versions.{put_at, IsUpTo}
use Rattle.gt_versions.proofs.VersionLaws.{ascending-put}
use Rattle.gt_versions.proofs.versions.Versions.put.Goals as goal

pub invariant_of-self : goal.invariant_of-self
invariant_of-self g c =
    let e : c.push.new.self.items ≡ put_at c.args.position c.args.value c.self.inside.items.items = c.in-Ok.ensures.items ∙ ap (λ l. l ++ (c.args.position, c.args.value) ∷ []) c.drop_same.ensures.items in
    let u : IsUpTo c.args.position c.self.inside.items.items = rw (← c.self.view_is) at c.requires.after in
    rw e (ascending-put c.args.position c.args.value c.self.inside.items.items c.self.invariant u)

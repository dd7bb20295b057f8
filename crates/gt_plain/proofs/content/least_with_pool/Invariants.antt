use Rattle.std.proofs.Common.{◌≡◌, find, option_map}
use Rattle.gt_model.specs.Contents.{is_this}
use Rattle.gt_plain.proofs.content.least_with_pool.Given as goal

-- what is left answers as all do
abbrev pub invariant-loop-path : goal.invariant-loop-path
invariant-loop-path l = option_map (λ e. e.0) (find (λ e. is_this e.1.pool l.pool) l.path-iterator) ≡ option_map (λ e. e.0) (find (λ e. is_this e.1.pool l.pool) l.repos.entries)

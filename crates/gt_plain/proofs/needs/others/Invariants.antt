use Rattle.std.proofs.Common.{◌≡◌, ◌++◌, [], drop, filter, not}
use Rattle.gt_plain.specs.Plain.{staged}
use Rattle.gt_model.specs.Verdicts.{is_added}
use Rattle.gt_plain.proofs.needs.others.Given as goal

-- what was found, and what is left to look through
abbrev pub invariant-loop-name : goal.invariant-loop-name
invariant-loop-name l =
    l.others.items ++ filter (λ name. not (is_added l.content l.path (staged [] l.records) name)) (drop l.name-index l.names) ≡ filter (λ name. not (is_added l.content l.path (staged [] l.records) name)) l.names

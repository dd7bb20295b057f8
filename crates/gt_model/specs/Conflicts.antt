-- What stands in the way of a job: entries behind the position that it read.
use Rattle.std.specs.Prelude.{ℕ, Bool, true, false, ◌&&◌, ◌||◌, List, [], ◌∷◌, find, Option, None, if◌then◌else◌}
use Rattle.std.specs.List.{list_any}
use Rattle.std.specs.Option.{option_map, option_or, unwrap_or}
use Rattle.gt_model.specs.declared.added.Added.{Added}
use Rattle.gt_model.specs.declared.change.Change.{Change}
use Rattle.gt_model.specs.declared.change.Change.TheVariants.{Create, Link, Write}
use Rattle.gt_model.specs.declared.entry.Entry.{Entry}
use Rattle.gt_model.specs.declared.job.Job.{Job}
use Rattle.gt_model.specs.declared.job.Job.TheVariants.{Prune, Unlink}
use Rattle.gt_model.specs.declared.refusal.Refusal.{Refusal}
use Rattle.gt_model.specs.declared.refusal.Refusal.TheVariants.{HousekeepingConflict, PrunedObject}
use Rattle.gt_model.specs.Contents.{Content, pool_of, is_this}
use Rattle.gt_model.specs.Verdicts.{same_name, first_some}
use Rattle.gt_model.specs.Needed.{needed_by}

-- a repository's pool, or itself where it has none
abbrev pub head : Content → List ℕ → List ℕ
head c path = unwrap_or (pool_of c path) path

-- The family of a repository is it alone, or where it is or has a pool, the pool and all its members.
abbrev pub is_kin : Content → List ℕ → List ℕ → Bool
is_kin c path other = same_name (head c other) (head c path)

abbrev pub is_prune : Job → Bool
is_prune Prune = true
is_prune job = false

abbrev pub is_unlink : Job → Bool
is_unlink Unlink = true
is_unlink job = false

abbrev pub adds_some : List Added → Bool
adds_some [] = false
adds_some (a ∷ added) = true

-- Another job's change, a link and a deletion in the family are in the way; of an unlink also what adds a record to the pool.
abbrev pub is_change_in_way : Content → List ℕ → Job → List ℕ → Change → Bool
is_change_in_way c path job other (Create pool) = false
is_change_in_way c path job other (Link pool) = is_kin c path other || is_kin c path pool
is_change_in_way c path job other (Write refs needed added) = is_unlink job && adds_some added && is_this (pool_of c path) other
is_change_in_way c path job other change = is_kin c path other

abbrev pub is_in_way : Content → List ℕ → Job → Entry → Bool
is_in_way c path job e = is_change_in_way c path job e.path e.change

-- the least dropped name on which an entry of the family relies
abbrev pub pruned_by : Content → List ℕ → List (List ℕ) → Entry → Option Refusal
pruned_by c path dropped e =
    if is_kin c path e.path then option_map (λ n. PrunedObject n e.position) (find (λ n. list_any (same_name n) dropped) (needed_by e.change)) else None

-- what refuses a job that drops these names, over the content that it read and the entries since: the first entry in its way, else for a prune the first that relies on a dropped name
abbrev pub job_conflict : Content → List ℕ → Job → List (List ℕ) → List Entry → Option Refusal
job_conflict c path job dropped since =
    option_or (option_map (λ e. HousekeepingConflict e.position) (find (is_in_way c path job) since))
    (if is_prune job then first_some (pruned_by c path dropped) since else None)

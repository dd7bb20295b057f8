-- When the manifest of a plan has its spelling.
use Rattle.std.specs.Prelude.{◌≡◌, ℕ, ◌+◌, ◌-◌, ◌<◌, ◌≤◌, ◌^◌, Bool, List, [], ◌∷◌, ◌++◌, length, nat_eq, All, Option, Some}
use Rattle.std.specs.List.{flat_map, IsDistinct}
use Rattle.std.specs.Option.{option_map}
use Rattle.std.specs.FinMap as map
use Rattle.gt_entry.specs.Fits.{IsEntry}
use Rattle.gt_manifest.specs.declared.manifest.Manifest.{Manifest}
use Rattle.gt_manifest.specs.declared.manifest.RepoFiles.{RepoFiles}
use Rattle.gt_manifest.specs.declared.version.Version.TheVariants.{Second}
use Rattle.gt_manifest.specs.Whole.{file_numbers, IsFileNumber, Fits}
use Rattle.gt_model.specs.declared.change.Change.{Change}
use Rattle.gt_model.specs.declared.change.Change.TheVariants.{Repack, Prune, PackRefs, Unlink}
use Rattle.gt_model.specs.declared.entry.Entry.{Entry}
use Rattle.gt_model.specs.Batches.{new_files}
use Rattle.gt_model.specs.Contents.{Content, Repo, after_all, IsLegal}
use Rattle.gt_model.specs.Soundness.{HasGoodPool}
use Rattle.gt_apply.specs.Plan.{shelves_of}

-- ---- the repositories of a manifest

-- whether it is a pool, and the pool that it has
abbrev pub Head : Type 0
Head = Bool × Option (List ℕ)

abbrev pub files_head : RepoFiles → Head
files_head r = (r.is_pool, r.pool)

abbrev pub repo_head : Repo → Head
repo_head r = (r.is_pool, r.pool)

-- The manifest lists the repositories of this content, each with its pool.
abbrev pub Lists : Manifest → Content → Type 0
Lists m c = (path : List ℕ) → option_map files_head (map.get (shelves_of m.repos) path) ≡ option_map repo_head (map.get c path)

-- A pool has no pool, and what a repository has as its pool is a pool.
abbrev pub HasGoodPools : Content → Type 0
HasGoodPools c = (path : List ℕ) (r : Repo) → map.get c path ≡ Some r → HasGoodPool c r

-- ---- the files of jobs

abbrev pub job_file : Change → List ℕ
job_file (Repack file dropped) = file ∷ []
job_file (Prune file dropped) = file ∷ []
job_file (PackRefs file) = file ∷ []
job_file (Unlink file) = file ∷ []
job_file change = []

abbrev pub job_files : List Entry → List ℕ
job_files entries = flat_map (λ e. job_file e.change) entries

-- Each job's file has a number from 1 up to below the next one, which no other job has and the manifest doesn't name.
pub record HasJobFiles (from : Manifest) (next : ℕ) (entries : List Entry) : Type 0 where
  pub numbers : All (IsFileNumber next) (job_files entries)
  pub once : IsDistinct nat_eq (flat_map file_numbers from.repos ++ job_files entries)

-- ---- what an application begins with

-- The manifest has its spelling and lists the repositories of a content. The entries have the types of their fields and are the next ones past the applied position, each fits the content before it, and behind them pools are pools. Their jobs' files are below the next free number, and the manifest's too. The new manifest's numbers take 8 bytes.
pub record IsNext (from : Manifest) (next : ℕ) (entries : List Entry) (c : Content) : Type 0 where
  pub fits : Fits Second from
  pub lists : Lists from c
  pub typed : All IsEntry entries
  pub legal : IsLegal c (from.applied + 1) entries
  pub pools : HasGoodPools (after_all c entries)
  pub jobs : HasJobFiles from next entries
  pub free : from.next ≤ next
  pub epoch : from.epoch < 2 ^ 64 - 1
  pub applied : from.applied + length entries < 2 ^ 64
  pub files : next + new_files entries < 2 ^ 64

-- The counts of its lists take 4 bytes.
pub record IsShort (m : Manifest) : Type 0 where
  pub repos : length m.repos < 2 ^ 32
  pub lists : All (λ r. (length r.packs < 2 ^ 32) × (length r.loose < 2 ^ 32)) m.repos

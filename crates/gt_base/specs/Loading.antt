-- What the loading of a base answers.
use Rattle.std.specs.Prelude.{ℕ, nat_lt, Bool, List, map, Option, Result, Ok, Err, if◌then◌else◌}
use Rattle.std.specs.Option.{option_map, unwrap_or}
use Rattle.gt_disk.specs.Kinds.{turn_file}
use Rattle.gt_log.specs.Log.{content_length}
use Rattle.gt_log.specs.declared.mount_cause.MountCause.{MountCause}
use Rattle.gt_manifest.specs.declared.manifest.Manifest.{Manifest}
use Rattle.gt_manifest.specs.declared.manifest.RepoFiles.{RepoFiles}
use Rattle.gt_model.specs.declared.limits.Limits.{Limits}
use Rattle.gt_reading.specs.Reading.{Reading, damaged, ask}
use Rattle.gt_base.specs.declared.held.BaseRepo.{BaseRepo}
use Rattle.gt_base.specs.Recovery.{Based, base_in}

-- A base, as clauses see it: its manifest, and the next one while it is in doubt whether that counts.
pub record BaseState : Type 0 where
  pub manifest : Manifest
  pub doubt : Option Manifest

-- the next free file number of the manifest that may count, or else of the one that does
abbrev pub next_in : BaseState → ℕ
next_in b = unwrap_or (option_map (λ to. to.next) b.doubt) b.manifest.next

-- The base of an epoch, which may not be past the limit.
abbrev pub limited : Limits → ℕ → ℕ → Reading Based
limited limits gate epoch = if nat_lt limits.epochs epoch then damaged (turn_file, limits.epochs) else base_in epoch gate

-- Turn's length is the epoch.
abbrev pub turn_then : Limits → ℕ → Reading Based
turn_then limits gate = ask turn_file (λ turn. limited limits gate (content_length turn))

-- the base and what its files have, as one
abbrev pub as_based : Result (BaseState × List BaseRepo) MountCause → Result Based MountCause
as_based (Ok x) = Ok (record { manifest = x.0.manifest; repos = x.1 })
as_based (Err cause) = Err cause

-- ---- what was read, and what is listed

-- a repository's path, whether it is a pool, and the pool that it has
abbrev pub Heading : Type 0
Heading = List ℕ × (Bool × Option (List ℕ))

abbrev pub headings : List BaseRepo → List Heading
headings repos = map (λ r. (r.path, (r.is_pool, r.pool))) repos

abbrev pub manifest_headings : List RepoFiles → List Heading
manifest_headings repos = map (λ r. (r.path, (r.is_pool, r.pool))) repos

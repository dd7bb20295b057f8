-- What files load to that go on from others: over a later base, or with an entry more.
use Rattle.std.specs.Prelude.{◌≡◌, ℕ, ◌+◌, ◌≤◌, [], ◌∷◌, ◌++◌, length, take, drop, Ok}
use Rattle.gt_disk.specs.Files.{Files}
use Rattle.gt_disk.specs.Kinds.{gate_file, turn_file}
use Rattle.gt_log.specs.Log.{content_length}
use Rattle.gt_model.specs.declared.entry.Entry.{Entry}
use Rattle.gt_model.specs.declared.limits.Limits.{Limits}
use Rattle.gt_model.specs.Contents.{Content, after_all}
use Rattle.gt_reading.specs.Reading.{run}
use Rattle.gt_reading.specs.Frames.{Agree}
use Rattle.gt_base.specs.Entries.{entry_in}
use Rattle.gt_base.specs.Held.{content_of}
use Rattle.gt_base.specs.Recovery.{Based, Loaded, base_in}
use Rattle.gt_ahead.specs.Files.{base_files, log_files}

-- this base, in which so many entries of the log are applied, and the rest of the log
abbrev pub moved_on : Loaded → Based → ℕ → Loaded
moved_on old new count = record { base = new; log = drop count old.log }

-- A base in which so many entries more are applied: it has the content after them.
pub record IsLater (old : Loaded) (new : Based) (count : ℕ) : Type 0 where
  pub some : count ≤ length old.log
  pub applied : new.manifest.applied ≡ old.base.manifest.applied + count
  pub content : content_of new.repos ≡ after_all (content_of old.base.repos) (take count old.log)

-- The second files have a later base, the same gate, and the rest of the log as the first have it.
pub record ReadsOn (limits : Limits) (old : Loaded) (new : Based) (count : ℕ) (a b : Files) : Type 0 where
  pub gate : content_length (b gate_file) ≡ content_length (a gate_file)
  pub turn : content_length (b turn_file) ≡ new.manifest.epoch
  pub few : new.manifest.epoch ≤ limits.epochs
  pub later : IsLater old new count
  pub base : run b (base_in new.manifest.epoch (content_length (b gate_file))) ≡ Ok new
  pub rest : Agree a b (log_files (drop count old.log))

-- ---- an entry more

-- the content at the end of the log
abbrev pub last_content : Loaded → Content
last_content x = after_all (content_of x.base.repos) x.log

abbrev pub with_entry : Loaded → Entry → Loaded
with_entry old e = record { base = old.base; log = old.log ++ e ∷ [] }

-- The second files have the base and the log of the first. Their gate is one longer, and the entry of that position is there and fits.
pub record AddsOn (limits : Limits) (old : Loaded) (e : Entry) (a b : Files) : Type 0 where
  pub gate : content_length (b gate_file) ≡ content_length (a gate_file) + 1
  pub turn : content_length (b turn_file) ≡ content_length (a turn_file)
  pub within : content_length (b gate_file) ≤ limits.positions
  pub same : Agree a b (base_files old.base.manifest ++ log_files old.log)
  pub entry : run b (entry_in (last_content old) (content_length (b gate_file))) ≡ Ok e

-- How the loading of a log ends.
use Rattle.std.specs.Prelude.{◌≡◌, ◌≢◌, ℕ, ◌≤◌, List, None, Result, Ok, Err, OnOk, IfErr, IsErrOf}
use Rattle.gt_base.specs.Answers.{Blames}
use Rattle.gt_base.specs.Loading.{BaseState}
use Rattle.gt_base.specs.Recovery.{Loaded}
use Rattle.gt_disk.specs.declared.file_id.FileId.{FileId}
use Rattle.gt_disk.specs.Files.{Rose}
use Rattle.gt_log.specs.declared.log_error.LogError.{LogError}
use Rattle.gt_log.specs.declared.log_error.LogError.TheVariants.{Memory as NoMemory}
use Rattle.gt_log.specs.declared.mount_cause.MountCause.{MountCause}
use Rattle.gt_model.specs.declared.entry.Entry.{Entry}
use Rattle.gt_model.specs.Batches.{next_past}
use Rattle.gt_model.specs.Machine.{Recovered}
use Rattle.gt_reading.specs.Reading.{Damage}
use Rattle.gt_table.specs.Table.{Past, Tables}
use Rattle.gt_journal.specs.Ledger.{Ledger, ground}

-- an entry of a file, with the file named where it is damaged
abbrev pub in_file : FileId → Result Entry ℕ → Result Entry Damage
in_file file (Ok e) = Ok e
in_file file (Err at) = Err (file, at)

-- The entries of the files are loaded, with the next free file number, or the first damage is named.
abbrev pub Loads : Result (List Entry) Damage → Result (Tables × ℕ) MountCause → Type 0
Loads read (Ok x) = read ≡ Ok x.0.past.log
Loads read (Err cause) = Blames read cause

-- What was recovered, as a base and the tables over it have it.
abbrev pub loaded_of : BaseState → Past → Loaded
loaded_of b past = record { base = record { manifest = b.manifest; repos = past.repos }; log = past.log }

-- A base and a log past it are loaded, or the first damage is named.
abbrev pub LoadsAll : Result Loaded Damage → Result (BaseState × Tables × ℕ) MountCause → Type 0
LoadsAll read (Ok x) = read ≡ Ok (loaded_of x.0 x.1.past)
LoadsAll read (Err cause) = Blames read cause

-- What the files recover to is opened, with nothing in doubt, or the first damage is named.
abbrev pub Opens : Result Recovered Damage → Result Ledger MountCause → Type 0
Opens recovered (Ok l) = (recovered ≡ Ok (ground l)) × (l.doubt ≡ None)
Opens recovered (Err cause) = Blames recovered cause

-- The next free file number is above each file that an entry has.
abbrev pub IsNumbered : Ledger → Type 0
IsNumbered l = l.next ≡ next_past l.base.manifest.next l.past.log

-- A failing disk is blamed where its count of faults rose, and only there, of an entry that is added.
pub record HasAddCause (before after : ℕ) (result : Result (Unit {0}) LogError) : Type 0 where
  pub later : before ≤ after
  pub ok : OnOk result (after ≡ before)
  pub failed : IfErr result (λ e. e ≢ NoMemory → Rose before after)
  pub memory : IsErrOf result NoMemory → after ≡ before

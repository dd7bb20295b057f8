-- A log in memory over a base, and the files that hold both.
use Rattle.std.specs.Prelude.{◌≡◌, ℕ, ◌+◌, ◌-◌, ◌<◌, ◌≤◌, not, ◌&&◌, nat_eq, Bool, true, List, length, drop, map, Option, Some, None}
use Rattle.std.specs.List.{AllByRecursion}
use Rattle.std.specs.Option.{option_map}
use Rattle.gt_base.specs.Held.{content_of, HoldsPacks}
use Rattle.gt_base.specs.Loading.{BaseState}
use Rattle.gt_base.specs.Recovery.{Based, base_in, manifest_in}
use Rattle.gt_base.specs.Spelling.{encode, AreSpelled}
use Rattle.gt_base.specs.Switching.{Counts}
use Rattle.gt_base.specs.declared.held.BaseRepo.{BaseRepo}
use Rattle.gt_disk.specs.declared.file_id.FileId.{FileId}
use Rattle.gt_disk.specs.Files.{States, still, View, now}
use Rattle.gt_disk.specs.Kinds.{turn_file, manifest_file}
use Rattle.gt_log.specs.declared.log_error.LogError.{LogError}
use Rattle.gt_log.specs.declared.log_error.LogError.TheVariants.{Untouched, Unsure, Memory}
use Rattle.gt_log.specs.Log.{Stands, Doubts}
use Rattle.gt_manifest.specs.declared.manifest.Manifest.{Manifest}
use Rattle.gt_manifest.specs.declared.version.Version.TheVariants.{Second}
use Rattle.gt_manifest.specs.Spelling.{manifest}
use Rattle.gt_model.specs.declared.entry.Entry.{Entry}
use Rattle.gt_model.specs.declared.limits.Limits.{Limits}
use Rattle.gt_model.specs.Contents.{Content, IsLegal}
use Rattle.gt_model.specs.Machine as machine
use Rattle.gt_model.specs.Machine.{Pin, State, Applying, Recovered, with_doubt, line, content_at, entries_past, IsTurningIn}
use Rattle.gt_reading.specs.Counting.{IsTurning}
use Rattle.gt_reading.specs.Frames.{GoesWell}
use Rattle.gt_table.specs.Table.{Past, Tables, base, front, floor}

-- a log over a base, the position past which files have its entries, and an entry that may be in it or not; the manifests of the files: the one that counts, and the next one while it may count; and the next free file number
pub record Ledger : Type 0 where
  pub past : Past
  pub floor : ℕ
  pub doubt : Option Entry
  pub base : BaseState
  pub next : ℕ

-- as tables have the log, and from where it is kept
abbrev pub ledger_of : Tables → Option Entry → BaseState → ℕ → Ledger
ledger_of t doubt b next = record { past = t.past; floor = floor t; doubt = doubt; base = b; next = next }

-- what the application of a manifest comes to
abbrev pub applying : Manifest → Applying
applying m = record { position = m.applied; next = m.next }

-- the machine's state of a partition
abbrev pub state_of : Ledger → List Pin → State
state_of l pins = record {
  begin = l.past.begin;
  base = base l.past;
  log = l.past.log;
  doubt = l.doubt;
  pins = pins;
  applied = l.base.manifest.applied;
  epoch = l.base.manifest.epoch;
  manifest_next = l.base.manifest.next;
  turning = option_map applying l.base.doubt;
  floor = l.floor;
  next = l.next;
}

-- what its files recover to as it is opened, where nothing is in doubt
abbrev pub ground : Ledger → Recovered
ground l = record { epoch = l.base.manifest.epoch; applied = l.past.begin; next = l.base.manifest.next; base = base l.past; log = l.past.log }

-- the same over another log and another doubt
abbrev pub changed : Ledger → List Entry → Option Entry → Ledger
changed l log doubt = record l { past = record l.past { log = log }; doubt = doubt }

-- the entries past the floor
abbrev pub past_floor : Ledger → List Entry
past_floor l = drop (l.floor - l.past.begin) l.past.log

-- the position of the last entry
abbrev pub front_of : Ledger → ℕ
front_of l = front l.past

-- what is in doubt once an entry wasn't added
abbrev pub doubt_after : LogError → Entry → Option Entry
doubt_after Untouched e = None
doubt_after Unsure e = Some e
doubt_after Memory e = None

-- ---- the files

-- a log that is legal over a content, and spelled
abbrev pub IsKept : Content → ℕ → List Entry → Type 0
IsKept c first log = IsLegal c first log × AreSpelled log

abbrev pub FilesHave : ℕ → List Entry → Option Entry → States → Type 0
FilesHave first log None states = Stands first (map encode log) states
FilesHave first log (Some e) states = Doubts first (map encode log) (encode e) states

-- The files have the log of a ledger past its floor, with its doubt, and the whole log is legal and spelled.
pub record HasLog (l : Ledger) (states : States) : Type 0 where
  pub files : FilesHave (l.floor + 1) (past_floor l) l.doubt states
  pub legal : IsKept (base l.past) (l.past.begin + 1) (with_doubt l.past.log l.doubt)

-- Whatever a stop leaves, under each gate that counts this position, the base of this epoch is read by files that are still, with this content.
pub record HasBase (limits : Limits) (epoch applied next : ℕ) (c : Content) (states : States) : Type 0 where
  pub few : epoch ≤ limits.epochs
  pub based : Based
  pub reads : (gate : ℕ) → applied ≤ gate → GoesWell (base_in epoch gate) (λ b. b ≡ based) states
  pub epoch_is : based.manifest.epoch ≡ epoch
  pub applied_is : based.manifest.applied ≡ applied
  pub next_is : based.manifest.next ≡ next
  pub content : content_of based.repos ≡ c

-- The files have the base of the state's applied position.
abbrev pub HasApplied : Limits → State → States → Type 0
HasApplied limits s states = HasBase limits s.epoch s.applied s.manifest_next (content_at s s.applied) states

-- Turn counts this epoch; or that or the next, whose base the files have too. The contents are those of the log, by position.
abbrev pub HasTurn : Limits → ℕ → (ℕ → Content) → Option Applying → States → Type 0
HasTurn limits epoch contents None states = Counts epoch states
HasTurn limits epoch contents (Some a) states = IsTurning epoch (states turn_file) × HasBase limits (epoch + 1) a.position a.next (contents a.position) states

-- The floor stands between where the log begins and the applied position, this one between the floor and the front, and one in doubt past it.
pub record AreApplied (s : State) : Type 0 where
  pub begins : s.begin ≤ s.floor
  pub from : s.floor ≤ s.applied
  pub to : s.applied ≤ machine.front s
  pub turn : IsTurningIn s.applied (machine.front s) s.next s.turning

-- The files have the log of a state past its floor, with its doubt; and the base of its applied position, with that in doubt.
pub record Stored (limits : Limits) (s : State) (states : States) : Type 0 where
  pub files : FilesHave (s.floor + 1) (entries_past s s.floor) s.doubt states
  pub legal : IsKept s.base (s.begin + 1) (line s)
  pub within : s.begin + length (line s) ≤ limits.positions
  pub order : AreApplied s
  pub base : HasApplied limits s states
  pub turn : HasTurn limits s.epoch (content_at s) s.turning states

-- ---- what memory has of the files

-- A repository's packs have numbers below this one.
abbrev pub HasPacksBelow : ℕ → BaseRepo → Type 0
HasPacksBelow next r = AllByRecursion (λ p. p.number < next) r.packs

-- Whatever a stop leaves of the files under this gate, the manifest of its epoch is this one.
abbrev pub HasManifest : Manifest → States → Type 0
HasManifest m states = GoesWell (manifest_in m.epoch m.applied) (λ x. x ≡ m) states

-- the manifest that may count lasts in its file
abbrev pub HasNext : ℕ → Option Manifest → States → Type 0
HasNext epoch None states = Unit {0}
HasNext epoch (Some to) states = states (manifest_file (epoch + 1)) ≡ still (Some (manifest Second to))

-- The files have what memory knows of them beside the state: the packs of the base that was opened, as they were read, and the manifests.
pub record Remembers (l : Ledger) (states : States) : Type 0 where
  pub packs : HoldsPacks l.past.repos states
  pub below : AllByRecursion (HasPacksBelow l.next) l.past.repos
  pub manifest : HasManifest l.base.manifest states
  pub doubt : HasNext l.base.manifest.epoch l.base.doubt states

-- what memory has of a base: what was read of it at the opening, its manifests, and the next free number
abbrev pub Known : Type 0
Known = List BaseRepo × (BaseState × ℕ)

abbrev pub known : Ledger → Known
known l = (l.past.repos, (l.base, l.next))

-- ---- files apart from the log

-- neither the gate nor an entry's file
abbrev pub is_based : FileId → Bool
is_based f = not (nat_eq f.kind 1) && not (nat_eq f.kind 4)

-- No file but the log's changes.
abbrev pub KeepsBase : View → View → Type 0
KeepsBase v w = (f : FileId) → is_based f ≡ true → now w f ≡ now v f

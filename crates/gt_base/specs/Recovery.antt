-- What the files of a partition recover to, and by which files.
use Rattle.std.specs.Prelude.{ℕ, zero, suc, ◌+◌, ◌-◌, ◌==◌, not, nat_lt, List, [], ◌∷◌, Result, Ok, Err, if◌then◌else◌}
use Rattle.gt_disk.specs.declared.file_id.FileId.{FileId}
use Rattle.gt_disk.specs.Files.{Files, States}
use Rattle.gt_disk.specs.Kinds.{gate_file, turn_file, manifest_file, pack_file, packed_file, loose_file}
use Rattle.gt_log.specs.Log.{content_length}
use Rattle.gt_manifest.specs.declared.manifest.Loose.{Loose}
use Rattle.gt_manifest.specs.declared.manifest.RepoFiles.{RepoFiles}
use Rattle.gt_manifest.specs.declared.manifest.Manifest.{Manifest}
use Rattle.gt_manifest.specs.Whole.{manifest_of}
use Rattle.gt_model.specs.declared.entry.Entry.{Entry}
use Rattle.gt_model.specs.declared.limits.Limits.{Limits}
use Rattle.gt_model.specs.declared.reference.RefValue.{RefValue}
use Rattle.gt_model.specs.Machine.{Recovered}
use Rattle.gt_pack.specs.declared.placed.Placed.{Placed}
use Rattle.gt_pack.specs.Reading.{pack_of}
use Rattle.gt_reading.specs.Reading.{Damage, Reading, done, damaged, ask, run, asked, ◌>>=◌, file_in, list_in}
use Rattle.gt_reading.specs.Frames.{AreStill}
use Rattle.gt_reftext.specs.declared.packed_ref.PackedRef.{PackedRef}
use Rattle.gt_reftext.specs.Loose.{value_of}
use Rattle.gt_reftext.specs.Packed.{packed_of, line_begin}
use Rattle.gt_base.specs.Packs.{PackFile}
use Rattle.gt_base.specs.declared.held.BaseRepo.{BaseRepo}
use Rattle.gt_base.specs.Held.{content_of}
use Rattle.gt_base.specs.Entries.{entries_in}

-- ---- the files of a repository

-- a pack that is in its grammar
abbrev pub pack_as : ℕ → List ℕ → Result (List Placed) ℕ → Result PackFile ℕ
pack_as number bytes (Ok places) = Ok (record { number = number; bytes = bytes })
pack_as number bytes (Err at) = Err at

abbrev pub pack_in : ℕ → Reading PackFile
pack_in number = file_in (pack_file number) (λ bytes. pack_as number bytes (pack_of bytes))

-- the references of a packed file, or the place where its first bad line begins
abbrev pub listed : List ℕ → Result (List PackedRef) ℕ → Result (List PackedRef) ℕ
listed bytes (Ok list) = Ok list
listed bytes (Err line) = Err (line_begin bytes line)

-- 0 is no packed file
abbrev pub packed_in : ℕ → Reading (List PackedRef)
packed_in zero = done []
packed_in (suc n) = file_in (packed_file (suc n)) (λ bytes. listed bytes (packed_of bytes))

abbrev pub with_name : List ℕ → Result (List ℕ) ℕ → Result RefValue ℕ
with_name name (Ok value) = Ok (record { name = name; value = value })
with_name name (Err at) = Err at

abbrev pub loose_in : Loose → Reading RefValue
loose_in l = file_in (loose_file l.file) (λ bytes. with_name l.name (value_of bytes))

abbrev pub repo_in : RepoFiles → Reading BaseRepo
repo_in r =
    list_in pack_in r.packs >>= λ packs.
    packed_in r.packed >>= λ packed.
    list_in loose_in r.loose >>= λ loose.
    done (record { path = r.path; is_pool = r.is_pool; pool = r.pool; packs = packs; packed = packed; loose = loose })

-- ---- the manifest

-- Epoch 0 has no file.
abbrev pub first_manifest : Manifest
first_manifest = record { epoch = 0; applied = 0; next = 1; repos = [] }

-- It is of this epoch, and applies no more than the gate counts.
abbrev pub checked : ℕ → ℕ → Result Manifest ℕ → Result Manifest ℕ
checked epoch gate (Ok m) = if not (m.epoch == epoch) then Err 4 else if nat_lt gate m.applied then Err 12 else Ok m
checked epoch gate (Err at) = Err at

abbrev pub manifest_in : ℕ → ℕ → Reading Manifest
manifest_in zero gate = done first_manifest
manifest_in (suc n) gate = file_in (manifest_file (suc n)) (λ bytes. checked (suc n) gate (manifest_of bytes))

-- a manifest, and what the files that it names have
pub record Based : Type 0 where
  pub manifest : Manifest
  pub repos : List BaseRepo

abbrev pub based_on : Manifest → Reading Based
based_on m = list_in repo_in m.repos >>= λ repos. done (record { manifest = m; repos = repos })

abbrev pub base_in : ℕ → ℕ → Reading Based
base_in epoch gate = manifest_in epoch gate >>= based_on

-- ---- the whole

-- a base, and the log past it
pub record Loaded : Type 0 where
  pub base : Based
  pub log : List Entry

abbrev pub log_on : ℕ → Based → Reading Loaded
log_on gate b = entries_in (content_of b.repos) (b.manifest.applied + 1) (gate - b.manifest.applied) >>= λ log. done (record { base = b; log = log })

-- what an epoch and a gate of this length recover to
unfoldable pub counted : Limits → ℕ → ℕ → Reading Loaded
counted limits epoch gate =
    if nat_lt limits.positions gate then damaged (gate_file, limits.positions)
    else if nat_lt limits.epochs epoch then damaged (turn_file, limits.epochs)
    else base_in epoch gate >>= log_on gate

-- the gate's length counts the entries, and turn's is the epoch
abbrev pub recovery : Limits → Reading Loaded
recovery limits = ask gate_file (λ gate. ask turn_file (λ turn. counted limits (content_length turn) (content_length gate)))

-- the files by which files recover
abbrev pub files_by : Limits → Files → List FileId
files_by limits files = asked files (recovery limits)

abbrev pub recovered : Loaded → Recovered
recovered x = record { epoch = x.base.manifest.epoch; applied = x.base.manifest.applied; next = x.base.manifest.next; base = content_of x.base.repos; log = x.log }

abbrev pub all_recovered : Result Loaded Damage → Result Recovered Damage
all_recovered (Ok x) = Ok (recovered x)
all_recovered (Err damage) = Err damage

-- what files recover to, or the first damage
abbrev pub recover : Limits → Files → Result Recovered Damage
recover limits files = all_recovered (run files (recovery limits))

-- the files that an image recovers by, but for those whose lengths count
abbrev pub data_files : Limits → Files → List FileId
data_files limits files = asked files (counted limits (content_length (files turn_file)) (content_length (files gate_file)))

-- The files by which an image recovers are still, but for those whose lengths count.
abbrev pub Keeps : Limits → Files → States → Type 0
Keeps limits image states = AreStill states (data_files limits image)

-- the files whose lengths count entries and manifests
abbrev pub counters : List FileId
counters = gate_file ∷ turn_file ∷ []

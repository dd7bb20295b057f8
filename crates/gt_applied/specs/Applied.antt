-- What files hold after an application of entries.
use Rattle.std.specs.Prelude.{◌≡◌, ℕ, ◌+◌, ◌<◌, ◌^◌, List, length, All, map as map_list, Some, Ok}
use Rattle.std.specs.List.{AllByRecursion}
use Rattle.gt_apply.specs.Plan.{planned_files}
use Rattle.gt_apply.specs.declared.new_file.NewContent.{NewContent}
use Rattle.gt_apply.specs.declared.new_file.NewContent.TheVariants.{Pack, Loose as LooseValue}
use Rattle.gt_apply.specs.declared.new_file.NewFile.{NewFile}
use Rattle.gt_base.specs.Built.{IsBuilt}
use Rattle.gt_base.specs.Held.{content_of}
use Rattle.gt_base.specs.Recovery.{Based, based_on}
use Rattle.gt_bytes.specs.Standing.{IsBytes}
use Rattle.gt_disk.specs.Files.{Files}
use Rattle.gt_entry.specs.Fits.{IsEntry}
use Rattle.gt_manifest.specs.Whole.{Fits}
use Rattle.gt_manifest.specs.declared.version.Version.TheVariants.{Second}
use Rattle.gt_model.specs.Contents.{IsLegal}
use Rattle.gt_model.specs.declared.added.Added.{Added}
use Rattle.gt_model.specs.declared.entry.Entry.{Entry}
use Rattle.gt_pack.specs.Spelling.{Packed, pack}
use Rattle.gt_reading.specs.Reading.{run, asked}
use Rattle.gt_reftext.specs.Loose.{loose}

-- ---- new files

abbrev pub to_packed : Added → Packed
to_packed a = record { name = a.name; whole = a.whole }

abbrev pub bytes_of : NewContent → List ℕ
bytes_of (Pack records) = pack (map_list to_packed records)
bytes_of (LooseValue value) = loose value

-- Each of these is there, with what it has.
abbrev pub AreWritten : Files → List NewFile → Type 0
AreWritten files news = AllByRecursion (λ n. files n.file ≡ Some (bytes_of n.content)) news

-- Its spelling is read again: the count of a pack's records fits its 4 bytes, and a value is of bytes.
abbrev pub HasSpelling : NewContent → Type 0
HasSpelling (Pack records) = length records < 2 ^ 32
HasSpelling (LooseValue value) = IsBytes value

abbrev pub HaveSpellings : List NewFile → Type 0
HaveSpellings news = AllByRecursion (λ n. HasSpelling n.content) news

-- ---- an application

-- The first files hold this base. The entries are the next ones, legal over its content, and of kinds that are built. The second files are as the first where these hold the base, and have the new files too, of which each is read again.
pub record Applies (from : Based) (next : ℕ) (entries : List Entry) (a b : Files) : Type 0 where
  pub based : run a (based_on from.manifest) ≡ Ok from
  pub fits : Fits Second from.manifest
  pub legal : IsLegal (content_of from.repos) (from.manifest.applied + 1) entries
  pub typed : All IsEntry entries
  pub built : All IsBuilt entries
  pub spelled : HaveSpellings (planned_files next entries)
  pub same : AllByRecursion (λ f. b f ≡ a f) (asked a (based_on from.manifest))
  pub written : AreWritten b (planned_files next entries)

-- An application as the files see it: the files that it adds are written, and then its manifest counts.
use Rattle.std.specs.Prelude.{◌≡◌, ◌≢◌, ◌⊎◌, ℕ, ◌+◌, ◌<◌, ◌≤◌, List, [], ◌∷◌, length, Some, Result, Ok, Err}
use Rattle.std.specs.List.{AllByRecursion}
use Rattle.gt_applied.specs.Applied.{bytes_of, HaveSpellings}
use Rattle.gt_apply.specs.declared.new_file.NewContent.{NewContent}
use Rattle.gt_apply.specs.declared.new_file.NewContent.TheVariants.{Pack, Loose}
use Rattle.gt_apply.specs.declared.new_file.NewFile.{NewFile}
use Rattle.gt_base.specs.Switching.{Counts, Turns, IsSwitched}
use Rattle.gt_base.specs.declared.switch_error.SwitchError.{SwitchError}
use Rattle.gt_base.specs.declared.switch_error.SwitchError.TheVariants.{Untouched, Unsure, Memory}
use Rattle.gt_disk.specs.declared.file_id.FileId.{FileId}
use Rattle.gt_disk.specs.Files.{States, still}
use Rattle.gt_disk.specs.Kinds.{turn_file, manifest_file}
use Rattle.gt_manifest.specs.declared.manifest.Manifest.{Manifest}

-- ---- new files

-- Each of these is there as its content is spelled, and lasts.
abbrev pub AreKept : List NewFile → States → Type 0
AreKept news states = AllByRecursion (λ n. states n.file ≡ still (Some (bytes_of n.content))) news

-- how many device calls write a file: a pack's head, each record, its index and a sync; the text of a reference and a sync
abbrev pub calls_for : NewContent → ℕ
calls_for (Pack records) = length records + 3
calls_for (Loose value) = 2

abbrev pub calls_of : List NewFile → ℕ
calls_of [] = 0
calls_of (n ∷ news) = calls_for n.content + calls_of news

-- ---- what stays

-- no file of an application from this epoch and this free number: neither turn nor the next manifest, and a pack or a file of references only with a lower number
abbrev pub IsApart : ℕ → ℕ → FileId → Type 0
IsApart epoch next g = (g ≢ turn_file) × (g ≢ manifest_file (epoch + 1)) × (5 ≤ g.kind → g.number < next)

abbrev pub StandApart : ℕ → ℕ → States → States → Type 0
StandApart epoch next before states = (g : FileId) → IsApart epoch next g → states g ≡ before g

-- ---- moments

-- Turn counts this epoch or the next, whose manifest lasts, and so do the files that it adds.
pub record Advances (epoch : ℕ) (to : Manifest) (news : List NewFile) (states : States) : Type 0 where
  pub turns : Turns epoch to states
  pub spelled : HaveSpellings news
  pub kept : AreKept news states

-- Turn counts the next epoch.
pub record Advanced (epoch : ℕ) (to : Manifest) (news : List NewFile) (states : States) : Type 0 where
  pub switched : IsSwitched epoch to states
  pub spelled : HaveSpellings news
  pub kept : AreKept news states

-- what a moment of an application is like while the append to turn may have begun, and while it can't have
abbrev pub Going : ℕ → ℕ → Manifest → List NewFile → States → States → Type 0
Going epoch next to news before states = (Counts epoch states ⊎ Advances epoch to news states) × StandApart epoch next before states

abbrev pub Staying : ℕ → ℕ → States → States → Type 0
Staying epoch next before states = Counts epoch states × StandApart epoch next before states

-- what each moment of an application is like, by its answer
abbrev pub AdvanceMoment : Result Unit SwitchError → ℕ → ℕ → Manifest → List NewFile → States → States → Type 0
AdvanceMoment (Ok x) epoch next to news before states = Going epoch next to news before states
AdvanceMoment (Err Untouched) epoch next to news before states = Staying epoch next before states
AdvanceMoment (Err Unsure) epoch next to news before states = Going epoch next to news before states
AdvanceMoment (Err Memory) epoch next to news before states = Staying epoch next before states

-- what stands after it
abbrev pub AfterAdvance : Result Unit SwitchError → ℕ → ℕ → Manifest → List NewFile → States → States → Type 0
AfterAdvance (Ok x) epoch next to news before states = Advanced epoch to news states × StandApart epoch next before states
AfterAdvance (Err Untouched) epoch next to news before states = Staying epoch next before states
AfterAdvance (Err Unsure) epoch next to news before states = Advances epoch to news states × StandApart epoch next before states
AfterAdvance (Err Memory) epoch next to news before states = Staying epoch next before states

-- A good script over a good disk comes to its end, where nothing fails.
use Rattle.std.proofs.Common.{◌≡◌, ◌⊎◌, inl, inr, ⊎_elim, ℕ, Bool, List, Option, Ok, Err, IfSome, refl, sym, ◌∙◌, subst}
use Rattle.gt_disk.specs.declared.file_id.FileId.{FileId}
use Rattle.gt_disk.specs.Files.{View, Rose}
use Rattle.gt_model.specs.declared.limits.Limits.{Limits}
use Rattle.gt_script.specs.declared.request.Request.{Request}
use Rattle.gt_prog.specs.declared.status.Status.{Status}
use Rattle.gt_prog.specs.declared.status.Status.TheVariants.{Done, Usage, ReadFault, WriteFault, DiskFault, Damaged, Memory, BadInput, NotYet}
use Rattle.gt_prog.specs.Script.{ScriptFault, script_of}
use Rattle.gt_prog.specs.Lines.{Stays}
use Rattle.gt_prog.specs.Statuses.{AreGood, RoseEither, ReadsInput, WorkEnds, input_limit}

-- It is done, or memory was wanted.
abbrev pub Completes : Status → Type 0
Completes status = (status ≡ Done) ⊎ (status ≡ Memory)

module _ (tells : Bool) (words : List (List ℕ)) (input : Option (List ℕ)) (disk : View) (good : AreGood tells words input disk) where
  -- the script isn't at fault
  faultless : (bad : ScriptFault) → IfSome input (λ bytes. script_of input_limit bytes ≡ Err bad) → ⊥
  faultless bad is = by (subst (λ (i : Option (List ℕ)). IfSome i (λ bytes. script_of input_limit bytes ≡ Err bad)) good.told is)
    where
      by : script_of input_limit good.bytes ≡ Err bad → ⊥
      by e = absurd (let no : Ok good.requests ≡ Err bad = sym good.script ∙ e in cc (no))

  pub input_completes : (status : Status) (before after : ℕ) → ReadsInput (Err status) input → (status ≡ ReadFault → Rose before after) → Stays before after → Completes status
  input_completes Done before after reads rose stays = absurd reads
  input_completes Usage before after reads rose stays = absurd reads
  input_completes ReadFault before after reads rose stays = absurd (stays (rose refl))
  input_completes WriteFault before after reads rose stays = absurd reads
  input_completes (DiskFault n) before after reads rose stays = absurd reads
  input_completes (Damaged n file at) before after reads rose stays = absurd reads
  input_completes Memory before after reads rose stays = inr refl
  input_completes (BadInput line at) before after reads rose stays = absurd (faultless _ reads)
  input_completes (NotYet line) before after reads rose stays = absurd (faultless _ reads)

module _ (tells : Bool) (limits : Limits) (requests : List Request) (old new : View) (before after : ℕ) (written out : Option (List ℕ)) (sink_before sink_after host_before host_after : ℕ) where
  pub work_completes : (status : Status) → WorkEnds tells limits requests old new before after written out status → (status ≡ WriteFault → Rose sink_before sink_after)
      → ((disk : ℕ) → status ≡ DiskFault disk → (disk ≡ 1) × RoseEither host_before host_after before after) → ((disk : ℕ) (file : FileId) (at : ℕ) → status ≡ Damaged disk file at → ⊥)
      → Stays sink_before sink_after → Stays host_before host_after → Stays before after → Completes status
  work_completes Done ends wrote failed sound sink host disk = inl refl
  work_completes Usage ends wrote failed sound sink host disk = absurd ends
  work_completes ReadFault ends wrote failed sound sink host disk = absurd ends
  work_completes WriteFault ends wrote failed sound sink host disk = absurd (sink (wrote refl))
  work_completes (DiskFault n) ends wrote failed sound sink host disk = absurd (⊎_elim host disk (failed n refl).1)
  work_completes (Damaged n file at) ends wrote failed sound sink host disk = absurd (sound n file at refl)
  work_completes Memory ends wrote failed sound sink host disk = inr refl
  work_completes (BadInput line at) ends wrote failed sound sink host disk = absurd ends
  work_completes (NotYet line) ends wrote failed sound sink host disk = absurd ends

-- A disk with one entry, which creates a repository.
use Rattle.std.proofs.Common.{◌≡◌, ℕ, ◌≤◌, not, is_some, ◌&&◌, Bool, true, cond, [], ◌∷◌, Option, Some, None, Result, Ok, Err, refl, ◌∙◌, ap, arith}
use Rattle.std.specs.FinMap.{get-empty}
use Rattle.gt_bytes.specs.Reading.{text_at}
use Rattle.gt_disk.specs.Kinds.{entry_file}
use Rattle.gt_entry.specs.Reading.{path_at, flag_at, change_at, version_at, body_at, top_at, entry_of as entry_spelled}
use Rattle.gt_entry.specs.Spelling.{change as spelled_change, spelling}
use Rattle.gt_manifest.specs.declared.version.Version.TheVariants.{Second}
use Rattle.gt_manifest.specs.Whole.{Fits, IsWhole, repo_here}
use Rattle.gt_manifest.proofs.WholeLemmas.{whole_is}
use Rattle.gt_model.specs.declared.entry.Entry.{Entry}
use Rattle.gt_model.specs.declared.limits.Limits.{Limits}
use Rattle.gt_model.specs.Contents.{Repo, key_cmp, nothing, changed, after_all, fits as entry_fits}
use Rattle.gt_reading.specs.Reading.{run, parsed}
use Rattle.gt_base.specs.Built.{is_built}
use Rattle.gt_base.specs.Entries.{fitting, entry_in}
use Rattle.gt_base.specs.Held.{content_of}
use Rattle.gt_base.specs.Spelling.{encode, decode}
use Rattle.gt_base.specs.Recovery.{recovery}
use Rattle.gt_ahead.specs.Example.{path, no_files, nothing_loaded, creation, one_entry, one_entry_states, one_loaded, created_epoch}
use Rattle.gt_ahead.specs.Loads.{Loads}
use Rattle.gt_ahead.specs.Switches.{MaySwitchOn}
use Rattle.gt_ahead.proofs.Added.{adds_on_at}
use Rattle.gt_ahead.proofs.Empty.{nothing_is}
use Rattle.gt_ahead.proofs.Frame.{one_loads}

decoded : decode 1 (Some (encode creation)) ≡ Ok creation
unfolding text_at path_at flag_at change_at version_at body_at top_at entry_spelled spelled_change spelling
decoded = refl

fits_nothing : (is_built creation.change && entry_fits nothing creation) ≡ true
fits_nothing = ap (λ (o : Option Repo). not (is_some o)) (get-empty key_cmp path)

entry_here : run one_entry (entry_in nothing 1) ≡ Ok creation
entry_here =
    ap (λ (o : Result Entry ℕ). run one_entry (parsed (entry_file 1) (fitting nothing o))) decoded
    ∙ ap (λ (b : Bool). run one_entry (parsed (entry_file 1) (cond b (Ok creation) (Err 0)))) fits_nothing

pub one_is : (limits : Limits) → 1 ≤ limits.positions → run one_entry (recovery limits) ≡ Ok one_loaded
one_is limits within = adds_on_at limits nothing_loaded creation 0 0 no_files one_entry (nothing_is limits) within tt entry_here

pub one_loads_it : (limits : Limits) → 1 ≤ limits.positions → Loads limits (one_loaded ∷ []) one_entry_states
one_loads_it limits within = one_loads limits one_entry_states one_entry one_loaded (λ f. refl) (one_is limits within) ((Some (1 ∷ []), refl), ((None, refl), ((Some (encode creation), refl), tt)))

content_is : content_of created_epoch.repos ≡ after_all nothing (creation ∷ [])
unfolding changed
content_is = refl

whole : IsWhole created_epoch.manifest
unfolding repo_here
whole = whole_is Second created_epoch.manifest refl

fits : Fits Second created_epoch.manifest
fits = (
  (
    (omega arith, (omega arith, (omega arith, refl))),
    (
      omega arith,
      (((((omega arith, refl), refl), (tt, tt)), (((omega arith, tt), (omega arith, (omega arith, tt))), ((omega arith, refl), (omega arith, refl)))), tt),
    ),
  ),
  whole,
)

pub may_apply : (limits : Limits) → 1 ≤ limits.positions → 1 ≤ limits.epochs → MaySwitchOn limits 1 one_loaded created_epoch 1 one_entry_states one_entry
may_apply limits within few = record {
  gate_counts = record { bytes = Some (1 ∷ []); gate_still = refl; length = refl };
  turn_counts = record { turn = None; turn_still = refl; length = refl };
  old_is = one_loads_it limits within;
  next = refl;
  few = few;
  fits = fits;
  later = record { some = omega arith; applied = refl; content = content_is };
  new_is = refl;
  new_still = tt;
}

-- A disk without files.
use Rattle.std.proofs.Common.{◌≡◌, ◌≤◌, [], ◌∷◌, None, Ok, refl, arith}
use Rattle.gt_manifest.specs.declared.version.Version.TheVariants.{Second}
use Rattle.gt_manifest.specs.Whole.{Fits}
use Rattle.gt_manifest.proofs.WholeLemmas.{whole_is}
use Rattle.gt_model.specs.declared.limits.Limits.{Limits}
use Rattle.gt_reading.specs.Reading.{run}
use Rattle.gt_base.specs.Recovery.{recovery}
use Rattle.gt_ahead.specs.Example.{no_files, no_states, nothing_loaded, first_epoch}
use Rattle.gt_ahead.specs.Loads.{Loads}
use Rattle.gt_ahead.specs.Switches.{MaySwitchOn}
use Rattle.gt_ahead.proofs.Frame.{one_loads}
use Rattle.gt_ahead.proofs.Parts.{counted_is}

pub nothing_is : (limits : Limits) → run no_files (recovery limits) ≡ Ok nothing_loaded
nothing_is limits = counted_is limits no_files 0 0 nothing_loaded.base [] (omega arith) (omega arith) refl refl

pub nothing_loads : (limits : Limits) → Loads limits (nothing_loaded ∷ []) no_states
nothing_loads limits = one_loads limits no_states no_files nothing_loaded (λ f. refl) (nothing_is limits) ((None, refl), ((None, refl), tt))

fits : Fits Second first_epoch.manifest
fits = (
  ((omega arith, (omega arith, (omega arith, refl))), (omega arith, tt)),
  whole_is Second first_epoch.manifest refl,
)

pub may_switch : (limits : Limits) → 1 ≤ limits.epochs → MaySwitchOn limits 0 nothing_loaded first_epoch 0 no_states no_files
may_switch limits few = record {
  gate_counts = record { bytes = None; gate_still = refl; length = refl };
  turn_counts = record { turn = None; turn_still = refl; length = refl };
  old_is = nothing_loads limits;
  next = refl;
  few = few;
  fits = fits;
  later = record { some = omega arith; applied = refl; content = refl };
  new_is = refl;
  new_still = tt;
}

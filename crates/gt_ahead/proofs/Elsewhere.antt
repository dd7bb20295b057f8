-- Device calls on files that hold nothing of what loads.
use Rattle.std.proofs.Common.{◌≡◌, ◌≢◌, List, [], ◌∷◌, refl, ◌∙◌, ap}
use Rattle.std.specs.List.{AllByRecursion}
use Rattle.gt_disk.specs.declared.file_id.FileId.{FileId}
use Rattle.gt_disk.specs.Files.{States, IsImage, View, now}
use Rattle.gt_disk.specs.Kinds.{gate_file, turn_file}
use Rattle.gt_disk.specs.Moments.{Since, AnyState}
use Rattle.gt_disk.proofs.Steps.{since_join, since_none, since_quiet, since_runs}
use Rattle.gt_log.specs.Log.{content_length}
use Rattle.gt_model.specs.declared.limits.Limits.{Limits}
use Rattle.gt_reading.specs.Frames.{Calls}
use Rattle.gt_reading.proofs.Framing.{some_content, mend_other, earlier, earlier_is, touches_runs, since_now}
use Rattle.gt_reading.proofs.Programs.{every_weaker}
use Rattle.gt_base.specs.Recovery.{Loaded}
use Rattle.gt_ahead.specs.Files.{data_files_of, HoldsNothingOf}
use Rattle.gt_ahead.specs.Loads.{Loads, IsElsewhere, AllElseStands, RunsOn}
use Rattle.gt_ahead.proofs.Frame.{of_one, loads_over, loads_at}

module _ (limits : Limits) (xs : List Loaded) where
  -- a file apart
  loads_beside : (f : FileId) (before states : States) → ((g : FileId) → g ≢ f → states g ≡ before g) → IsElsewhere xs f → Loads limits xs before → Loads limits xs states
  loads_beside f before states others elsewhere loads image is =
      let was : IsImage before (earlier f before states others image) = earlier_is f before states others image is in
      let w = loads (earlier f before states others image) was in
      let apart : HoldsNothingOf w.what f = of_one (λ x. HoldsNothingOf x f) xs w.what elsewhere w.has in
      let same_gate : earlier f before states others image gate_file ≡ image gate_file = mend_other f (some_content (before f)) image gate_file apart.0 in
      let same_turn : earlier f before states others image turn_file ≡ image turn_file = mend_other f (some_content (before f)) image turn_file apart.1.0 in
      loads_at limits xs states image _ _ (content_length (image turn_file)) (content_length (image gate_file)) (ap content_length same_turn) (ap content_length same_gate)
      (loads_over before states (earlier f before states others image) image was is limits _ _ xs w (every_weaker (λ g. g ≢ f) (λ g. states g ≡ before g) others (data_files_of w.what) apart.1.1))

  module _ (base : States) (all : List FileId) where
    abbrev Kept : States → Type 0
    Kept states = Loads limits xs states × AllElseStands all base states

    abbrev AreAmong : List FileId → Type 0
    AreAmong fs = (g : FileId) → AllByRecursion (λ f. g ≢ f) all → AllByRecursion (λ f. g ≢ f) fs

    kept_all : (fs : List FileId) (v w : View) → RunsOn fs v w → AllByRecursion (IsElsewhere xs) fs → AreAmong fs → Kept (now v) → Since Kept v w
    kept_all [] v w calls elsewhere among kept = since_quiet Kept v v w (since_none Kept v) calls
    kept_all (f ∷ fs) v w (u, first, rest) elsewhere among kept =
        let step : Since Kept v u = since_runs f AnyState Kept v u first (λ s any others. (
          loads_beside f (now v) s others elsewhere.0 kept.0,
          λ g apart. others g (among g apart).0 ∙ kept.1 g apart,
        )) in
        since_join Kept v u w step (kept_all fs u w rest elsewhere.1 (λ g apart. (among g apart).1) (since_now Kept v u step kept))

  pub runs_elsewhere : (files : List FileId) (v w : View) → RunsOn files v w → AllByRecursion (IsElsewhere xs) files → Loads limits xs (now v) → Since (λ states. Loads limits xs states × AllElseStands files (now v) states) v w
  runs_elsewhere files v w calls elsewhere loads = kept_all (now v) files files v w calls elsewhere (λ g apart. apart) (loads, λ g apart. refl)

  pub calls_elsewhere : (files : List FileId) (v w : View) → Calls files v w → AllByRecursion (IsElsewhere xs) files → Loads limits xs (now v) → Since (λ states. Loads limits xs states × AllElseStands files (now v) states) v w
  calls_elsewhere files v w calls = runs_elsewhere files v w (as_runs files v w calls)
    where
      as_runs : (fs : List FileId) (v w : View) → Calls fs v w → RunsOn fs v w
      as_runs [] v w calls = calls
      as_runs (f ∷ fs) v w (u, first, rest) = (u, touches_runs f v u first, as_runs fs u w rest)

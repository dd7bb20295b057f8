-- Calls on the two files whose lengths count.
use Rattle.std.proofs.Common.{◌≡◌, ◌≢◌, inl, inr, ℕ, ◌+◌, List, ◌++◌, refl, sym, ◌∙◌, ap, arith}
use Rattle.std.specs.List.{AllByRecursion}
use Rattle.gt_disk.specs.declared.file_id.FileId.{FileId}
use Rattle.gt_disk.specs.Files.{Files, States, IsImage, View, now}
use Rattle.gt_disk.specs.Kinds.{gate_file, turn_file}
use Rattle.gt_disk.specs.Moments.{Since, Runs, AnyState, Narrows}
use Rattle.gt_disk.proofs.Steps.{runs_now, since_runs}
use Rattle.gt_log.specs.Log.{content_length}
use Rattle.gt_log.proofs.Images.{image_still}
use Rattle.gt_model.specs.declared.limits.Limits.{Limits}
use Rattle.gt_reading.proofs.Framing.{some_content, mend_other, earlier, earlier_is}
use Rattle.gt_reading.proofs.Programs.{every_weaker}
use Rattle.gt_base.specs.Recovery.{Loaded}
use Rattle.gt_base.specs.Switching.{Counts}
use Rattle.gt_ahead.specs.Files.{data_files_of}
use Rattle.gt_ahead.specs.Loads.{LoadsAt, Loads, LoadsUnder, LoadsOver, HasBothEpochs, HasBothLogs, IsCounter, GateCounts, IsBetween}
use Rattle.gt_ahead.proofs.Frame.{loads_over, loads_at, loads_weaker, one_of_first, one_of_second}
use Rattle.gt_ahead.proofs.Older.{other_kind, kinds_apart}

gate_not_turn : gate_file ≢ turn_file
gate_not_turn = other_kind gate_file turn_file (λ e. omega (arith, e))

turn_not_gate : turn_file ≢ gate_file
turn_not_gate = other_kind turn_file gate_file (λ e. omega (arith, e))

module _ (limits : Limits) where
  -- where a file that counts alone differs, what other files hold stays
  beside : (c : FileId) → ((x : Loaded) → AllByRecursion (λ g. g ≢ c) (data_files_of x)) → (before states : States) (others : (g : FileId) → g ≢ c → states g ≡ before g) (image : Files) (is : IsImage states image) (xs : List Loaded) (epoch gate : ℕ)
      → LoadsAt limits epoch gate xs before (earlier c before states others image) → LoadsAt limits epoch gate xs states image
  beside c apart before states others image is xs epoch gate w =
      loads_over before states (earlier c before states others image) image (earlier_is c before states others image is) is limits epoch gate xs w (every_weaker (λ g. g ≢ c) (λ g. states g ≡ before g) others (data_files_of w.what) (apart w.what))

  -- ---- turn

  under_beside : (epoch : ℕ) (xs : List Loaded) (before states : States) → ((g : FileId) → g ≢ turn_file → states g ≡ before g) → LoadsUnder limits epoch xs before → LoadsUnder limits epoch xs states
  under_beside epoch xs before states others loads image is =
      let w = loads (earlier turn_file before states others image) (earlier_is turn_file before states others image is) in
      let same : earlier turn_file before states others image gate_file ≡ image gate_file = mend_other turn_file (some_content (before turn_file)) image gate_file gate_not_turn in
      loads_at limits xs states image epoch (content_length (earlier turn_file before states others image gate_file)) epoch (content_length (image gate_file)) refl (ap content_length same)
      (beside turn_file (λ x. kinds_apart x turn_file (omega arith)) before states others image is xs epoch (content_length (earlier turn_file before states others image gate_file)) w)

  epochs_beside : (epoch : ℕ) (olds news : List Loaded) (before states : States) → ((g : FileId) → g ≢ turn_file → states g ≡ before g) → HasBothEpochs limits epoch olds news before → HasBothEpochs limits epoch olds news states
  epochs_beside epoch olds news before states others has = record {
    old = under_beside epoch olds before states others has.old;
    new = under_beside (epoch + 1) news before states others has.new;
  }

  pub turn_either : (epoch : ℕ) (olds news : List Loaded) (states : States) → HasBothEpochs limits epoch olds news states → IsBetween epoch (states turn_file) → Loads limits (olds ++ news) states
  turn_either epoch olds news states has turning image is = elim (turning (image turn_file) (is turn_file)) [
    | inl here ↦ loads_at limits (olds ++ news) states image epoch (content_length (image gate_file)) (content_length (image turn_file)) (content_length (image gate_file)) (sym here) refl
        (loads_weaker limits olds (olds ++ news) states image epoch (content_length (image gate_file)) (one_of_first olds news) (has.old image is))
    | inr next ↦ loads_at limits (olds ++ news) states image (epoch + 1) (content_length (image gate_file)) (content_length (image turn_file)) (content_length (image gate_file)) (sym next) refl
        (loads_weaker limits news (olds ++ news) states image (epoch + 1) (content_length (image gate_file)) (one_of_second olds news) (has.new image is))
  ]

  pub turn_decides : (epoch : ℕ) (xs : List Loaded) (states : States) → LoadsUnder limits epoch xs states → Counts epoch states → Loads limits xs states
  turn_decides epoch xs states loads counts image is =
      let length_is : content_length (image turn_file) ≡ epoch = ap content_length (image_still states image turn_file counts.turn is counts.turn_still) ∙ counts.length in
      loads_at limits xs states image epoch (content_length (image gate_file)) (content_length (image turn_file)) (content_length (image gate_file)) (sym length_is) refl (loads image is)

  pub turned : (epoch : ℕ) (olds news : List Loaded) (v w : View) → HasBothEpochs limits epoch olds news (now v) → Runs turn_file (IsBetween epoch) v w
      → Since (λ states. HasBothEpochs limits epoch olds news states × Loads limits (olds ++ news) states) v w
  turned epoch olds news v w has runs = since_runs turn_file (IsBetween epoch) (λ states. HasBothEpochs limits epoch olds news states × Loads limits (olds ++ news) states) v w runs
      (λ s between others. let here = epochs_beside epoch olds news (now v) s others has in (here, turn_either epoch olds news s here between))

  pub epochs_kept : (epoch : ℕ) (olds news : List Loaded) (v w : View) → HasBothEpochs limits epoch olds news (now v) → Runs turn_file AnyState v w → HasBothEpochs limits epoch olds news (now w)
  epochs_kept epoch olds news v w has runs = epochs_beside epoch olds news (now v) (now w) (runs_now turn_file AnyState v w runs) has

  -- ---- the gate

  over_beside : (gate : ℕ) (xs : List Loaded) (before states : States) → ((g : FileId) → g ≢ gate_file → states g ≡ before g) → LoadsOver limits gate xs before → LoadsOver limits gate xs states
  over_beside gate xs before states others loads image is =
      let w = loads (earlier gate_file before states others image) (earlier_is gate_file before states others image is) in
      let same : earlier gate_file before states others image turn_file ≡ image turn_file = mend_other gate_file (some_content (before gate_file)) image turn_file turn_not_gate in
      loads_at limits xs states image (content_length (earlier gate_file before states others image turn_file)) gate (content_length (image turn_file)) gate (ap content_length same) refl
      (beside gate_file (λ x. kinds_apart x gate_file (omega arith)) before states others image is xs (content_length (earlier gate_file before states others image turn_file)) gate w)

  logs_beside : (gate : ℕ) (olds news : List Loaded) (before states : States) → ((g : FileId) → g ≢ gate_file → states g ≡ before g) → HasBothLogs limits gate olds news before → HasBothLogs limits gate olds news states
  logs_beside gate olds news before states others has = record {
    old = over_beside gate olds before states others has.old;
    new = over_beside (gate + 1) news before states others has.new;
  }

  pub gate_either : (gate : ℕ) (olds news : List Loaded) (states : States) → HasBothLogs limits gate olds news states → IsBetween gate (states gate_file) → Loads limits (olds ++ news) states
  gate_either gate olds news states has turning image is = elim (turning (image gate_file) (is gate_file)) [
    | inl here ↦ loads_at limits (olds ++ news) states image (content_length (image turn_file)) gate (content_length (image turn_file)) (content_length (image gate_file)) refl (sym here)
        (loads_weaker limits olds (olds ++ news) states image (content_length (image turn_file)) gate (one_of_first olds news) (has.old image is))
    | inr next ↦ loads_at limits (olds ++ news) states image (content_length (image turn_file)) (gate + 1) (content_length (image turn_file)) (content_length (image gate_file)) refl (sym next)
        (loads_weaker limits news (olds ++ news) states image (content_length (image turn_file)) (gate + 1) (one_of_second olds news) (has.new image is))
  ]

  pub gate_decides : (gate : ℕ) (xs : List Loaded) (states : States) → LoadsOver limits gate xs states → GateCounts gate states → Loads limits xs states
  gate_decides gate xs states loads counts image is =
      let length_is : content_length (image gate_file) ≡ gate = ap content_length (image_still states image gate_file counts.bytes is counts.gate_still) ∙ counts.length in
      loads_at limits xs states image (content_length (image turn_file)) gate (content_length (image turn_file)) (content_length (image gate_file)) refl (sym length_is) (loads image is)

  pub gated : (gate : ℕ) (olds news : List Loaded) (v w : View) → HasBothLogs limits gate olds news (now v) → Runs gate_file (IsBetween gate) v w
      → Since (λ states. HasBothLogs limits gate olds news states × Loads limits (olds ++ news) states) v w
  gated gate olds news v w has runs = since_runs gate_file (IsBetween gate) (λ states. HasBothLogs limits gate olds news states × Loads limits (olds ++ news) states) v w runs
      (λ s between others. let here = logs_beside gate olds news (now v) s others has in (here, gate_either gate olds news s here between))

  pub logs_kept : (gate : ℕ) (olds news : List Loaded) (v w : View) → HasBothLogs limits gate olds news (now v) → Runs gate_file AnyState v w → HasBothLogs limits gate olds news (now w)
  logs_kept gate olds news v w has runs = logs_beside gate olds news (now v) (now w) (runs_now gate_file AnyState v w runs) has

  -- ---- calls that leave nothing new

  counters_apart : (c : FileId) → IsCounter c → (x : Loaded) → AllByRecursion (λ g. g ≢ c) (data_files_of x)
  counters_apart c (inl gate) x = kinds_apart x c (let kinds : c.kind ≡ 1 = ap (λ (f : FileId). f.kind) gate in omega (arith, kinds))
  counters_apart c (inr turn) x = kinds_apart x c (let kinds : c.kind ≡ 2 = ap (λ (f : FileId). f.kind) turn in omega (arith, kinds))

  pub narrowed : (xs : List Loaded) (c : FileId) (v w : View) → IsCounter c → Runs c AnyState v w → Narrows v w → Loads limits xs (now v) → Since (Loads limits xs) v w
  narrowed xs c v w counter runs narrows loads = record {
    later = narrows.later;
    past = narrows.past;
    each = λ m lt le image is.
        let before : IsImage (now v) image = narrows.each m lt le image is in
        let old = loads image before in
        loads_over (now v) (w.at m) image image before is limits (content_length (image turn_file)) (content_length (image gate_file)) xs old
        (every_weaker (λ g. g ≢ c) (λ g. w.at m g ≡ now v g) (runs.others m lt le) (data_files_of old.what) (counters_apart c counter old.what));
  }

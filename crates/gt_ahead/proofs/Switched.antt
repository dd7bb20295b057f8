-- A switch to the next epoch.
use Rattle.std.proofs.Common.{◌≡◌, ◌≢◌, inl, inr, ℕ, zero, suc, ◌+◌, ◌<◌, ◌≤◌, List, [], ◌∷◌, drop, Some, Result, Ok, Err, refl, sym, ◌∙◌, ap, subst, arith}
use Rattle.std.specs.List.{flat_map, AllByRecursion}
use Rattle.gt_disk.specs.declared.file_id.FileId.{FileId}
use Rattle.gt_disk.specs.Files.{Files, States, IsImage, View, still}
use Rattle.gt_disk.specs.Kinds.{gate_file, turn_file, manifest_file, entry_file, pack_file, packed_file, loose_file}
use Rattle.gt_disk.specs.Moments.{Since}
use Rattle.gt_log.specs.Log.{content_length}
use Rattle.gt_log.proofs.Images.{image_still}
use Rattle.gt_manifest.specs.declared.version.Version.TheVariants.{Second}
use Rattle.gt_manifest.specs.Spelling.{manifest}
use Rattle.gt_manifest.proofs.ManifestLemmas.{manifest_again}
use Rattle.gt_model.specs.declared.entry.Entry.{Entry}
use Rattle.gt_model.specs.declared.limits.Limits.{Limits}
use Rattle.gt_reading.specs.Reading.{run, asked}
use Rattle.gt_reading.specs.Frames.{IsStill, AreStill, Well}
use Rattle.gt_reading.proofs.Programs.{run_then, every_weaker}
use Rattle.gt_base.specs.Recovery.{Based, Loaded, manifest_in, based_on, base_in, counted}
use Rattle.gt_base.specs.Switching.{OthersStand, Switching, Staying, SwitchMoment, AfterSwitch}
use Rattle.gt_base.specs.declared.switch_error.SwitchError.{SwitchError}
use Rattle.gt_base.specs.declared.switch_error.SwitchError.TheVariants.{Untouched, Unsure, Memory}
use Rattle.gt_ahead.specs.Files.{manifest_files, repo_files, base_files, log_files, data_files_of}
use Rattle.gt_ahead.specs.Later.{moved_on}
use Rattle.gt_ahead.specs.Loads.{LoadsAt, Loads, LoadsUnder, HasBothEpochs}
use Rattle.gt_ahead.specs.Switches.{MaySwitchOn, SwitchLoads, LoadsAfterSwitch}
use Rattle.gt_ahead.proofs.Asked.{asks_counted, asks_based}
use Rattle.gt_ahead.proofs.Counters.{turn_either, turn_decides}
use Rattle.gt_ahead.proofs.Frame.{of_one, all_same, all_still, well_over, loads_over, loads_at, loads_weaker, one_of_first}
use Rattle.gt_ahead.proofs.Lists.{all_append, all_front, each_of}
use Rattle.gt_ahead.proofs.Manifests.{manifest_there}
use Rattle.gt_ahead.proofs.MovedOn.{goes_on_at, later_within}
use Rattle.gt_ahead.proofs.Older.{other_kind, data_kinds, repos_kinds}

all_dropped : (P : FileId → Type 0) (n : ℕ) (log : List Entry) → AllByRecursion P (log_files log) → AllByRecursion P (log_files (drop n log))
all_dropped P zero log all = all
all_dropped P (suc n) [] all = tt
all_dropped P (suc n) (e ∷ es) all = all_dropped P n es all.1

module _ (limits : Limits) (gate : ℕ) (old : Loaded) (new : Based) (count : ℕ) (before : States) (files : Files) (shows : IsImage before files) (may : MaySwitchOn limits gate old new count before files) where
  abbrev epoch : ℕ
  epoch = old.base.manifest.epoch

  abbrev next : FileId
  next = manifest_file (old.base.manifest.epoch + 1)

  abbrev text : List ℕ
  text = manifest Second new.manifest

  abbrev moved : Loaded
  moved = moved_on old new count

  -- ---- what was read before

  gate_length : content_length (files gate_file) ≡ gate
  gate_length = ap content_length (image_still before files gate_file may.gate_counts.bytes shows may.gate_counts.gate_still) ∙ may.gate_counts.length

  turn_length : content_length (files turn_file) ≡ epoch
  turn_length = ap content_length (image_still before files turn_file may.turn_counts.turn shows may.turn_counts.turn_still) ∙ may.turn_counts.length

  loaded : LoadsAt limits epoch gate (old ∷ []) before files
  loaded = loads_at limits (old ∷ []) before files (content_length (files turn_file)) (content_length (files gate_file)) epoch gate turn_length gate_length (may.old_is files shows)

  loaded_is : loaded.what ≡ old
  loaded_is = of_one (λ x. x ≡ old) (old ∷ []) loaded.what (refl, tt) loaded.has

  old_is : run files (counted limits epoch gate) ≡ Ok old
  old_is = loaded.is ∙ ap Ok loaded_is

  old_still : AreStill before (data_files_of old)
  old_still = subst (AreStill before) (asks_counted files limits epoch gate old old_is) loaded.steady

  log_still : AreStill before (log_files (drop count old.log))
  log_still = all_dropped (λ f. IsStill (before f)) count old.log (all_front (λ f. IsStill (before f)) (base_files old.base.manifest) (log_files old.log) old_still).1

  new_by : asked files (based_on new.manifest) ≡ flat_map repo_files new.manifest.repos
  new_by = asks_based files new.manifest new may.new_is

  -- ---- neither turn nor the next manifest

  abbrev IsOther : FileId → Type 0
  IsOther f = (f ≢ turn_file) × (f ≢ next)

  of_kind : (f : FileId) → f.kind ≢ 2 → f.kind ≢ 3 → IsOther f
  of_kind f two three = (other_kind f turn_file two, other_kind f next three)

  old_other : AllByRecursion IsOther (data_files_of old)
  old_other = data_kinds IsOther (λ n. of_kind (pack_file n) (λ e. omega (arith, e)) (λ e. omega (arith, e))) (λ n. of_kind (packed_file n) (λ e. omega (arith, e)) (λ e. omega (arith, e))) (λ n. of_kind (loose_file n) (λ e. omega (arith, e)) (λ e. omega (arith, e)))
      old (other_kind (manifest_file epoch) turn_file (λ e. omega (arith, e)), λ same. let n : epoch ≡ epoch + 1 = ap (λ (f : FileId). f.number) same in omega (arith, n))
      (each_of (λ (e : Entry). IsOther (entry_file e.position)) (λ e. of_kind (entry_file e.position) (λ k. omega (arith, k)) (λ k. omega (arith, k))) old.log)

  repos_other : AllByRecursion IsOther (flat_map repo_files new.manifest.repos)
  repos_other = repos_kinds IsOther (λ n. of_kind (pack_file n) (λ e. omega (arith, e)) (λ e. omega (arith, e))) (λ n. of_kind (packed_file n) (λ e. omega (arith, e)) (λ e. omega (arith, e))) (λ n. of_kind (loose_file n) (λ e. omega (arith, e)) (λ e. omega (arith, e))) new.manifest.repos

  log_other : AllByRecursion IsOther (log_files (drop count old.log))
  log_other = all_dropped IsOther count old.log (all_front IsOther (base_files old.base.manifest) (log_files old.log) old_other).1

  -- ---- a moment

  module _ (states : States) (others : OthersStand epoch before states) where
    abbrev Stands : FileId → Type 0
    Stands f = states f ≡ before f

    stand : (fs : List FileId) → AllByRecursion IsOther fs → AllByRecursion Stands fs
    stand = every_weaker IsOther Stands (λ f other. others f other.0 other.1)

    gate_here : (image : Files) → IsImage states image → content_length (image gate_file) ≡ gate
    gate_here image is =
        ap content_length (image_still states image gate_file may.gate_counts.bytes is (others gate_file (other_kind gate_file turn_file (λ e. omega (arith, e))) (other_kind gate_file next (λ e. omega (arith, e))) ∙ may.gate_counts.gate_still))
        ∙ may.gate_counts.length

    old_under : LoadsUnder limits epoch (old ∷ []) states
    old_under image is =
        loads_at limits (old ∷ []) states image epoch gate epoch (content_length (image gate_file)) refl (sym (gate_here image is))
        (loads_over before states files image shows is limits epoch gate (old ∷ []) loaded (stand (data_files_of loaded.what) (subst (λ (x : Loaded). AllByRecursion IsOther (data_files_of x)) (sym loaded_is) old_other)))

    module _ (lasts : states next ≡ still (Some text)) where
      new_base : (image : Files) → IsImage states image → run image (base_in new.manifest.epoch gate) ≡ Ok new
      new_base image is =
          let there : image (manifest_file new.manifest.epoch) ≡ Some text = ap (λ (n : ℕ). image (manifest_file n)) may.next ∙ image_still states image next (Some text) is lasts in
          let some : 0 < new.manifest.epoch = omega (arith, may.next) in
          let reads = manifest_there image new.manifest.epoch gate text new.manifest some there (manifest_again Second new.manifest may.fits) refl in_gate in
          let w : Well (based_on new.manifest) (λ b. b ≡ new) states image = well_over before states files image shows is (based_on new.manifest) (λ b. b ≡ new) (record { what = new; is = may.new_is; has = refl; steady = subst (AreStill before) (sym new_by) may.new_still })
          (subst (AllByRecursion Stands) (sym new_by) (stand (flat_map repo_files new.manifest.repos) repos_other)) in
          run_then (manifest_in new.manifest.epoch gate) based_on image new.manifest reads ∙ w.is ∙ ap Ok w.has
        where
          in_gate : new.manifest.applied ≤ gate
          in_gate = later_within limits files old new count epoch gate old_is may.later

      new_under : LoadsUnder limits (epoch + 1) (moved ∷ []) states
      new_under image is =
          let here : run image (counted limits new.manifest.epoch gate) ≡ Ok moved =
          goes_on_at limits old new count epoch gate files image old_is may.later may.few (new_base image is)
          (all_same before states files image shows is (log_files (drop count old.log)) (stand (log_files (drop count old.log)) log_other) log_still) in
          let kept : (fs : List FileId) → AllByRecursion IsOther fs → AreStill before fs → AreStill states fs = λ fs other steady. all_still before states files image shows is fs (stand fs other) steady in
          let next_still : IsStill (states (manifest_file new.manifest.epoch)) = (Some text, ap (λ (n : ℕ). states (manifest_file n)) may.next ∙ lasts) in
          let steady : AreStill states (data_files_of moved) =
          all_append (λ f. IsStill (states f)) (base_files new.manifest) (log_files (drop count old.log))
          (all_append (λ f. IsStill (states f)) (manifest_files new.manifest.epoch) (flat_map repo_files new.manifest.repos) (single new.manifest.epoch next_still)
          (kept (flat_map repo_files new.manifest.repos) repos_other may.new_still))
          (kept (log_files (drop count old.log)) log_other log_still) in
          let w : LoadsAt limits new.manifest.epoch gate (moved ∷ []) states image = record { what = moved; is = here; has = inl refl; steady = subst (AreStill states) (sym (asks_counted image limits new.manifest.epoch gate moved here)) steady } in
          loads_at limits (moved ∷ []) states image new.manifest.epoch gate (epoch + 1) (content_length (image gate_file)) may.next (sym (gate_here image is)) w
        where
          single : (n : ℕ) → IsStill (states (manifest_file n)) → AreStill states (manifest_files n)
          single zero h = tt
          single (suc n) h = (h, tt)

      both_under : HasBothEpochs limits epoch (old ∷ []) (moved ∷ []) states
      both_under = record { old = old_under; new = new_under }

  staying_loads : (states : States) → Staying epoch before states → Loads limits (old ∷ []) states
  staying_loads states (counts, others) = turn_decides limits epoch (old ∷ []) states (old_under states others) counts

  switching_loads : (states : States) → Switching epoch new.manifest before states → Loads limits (old ∷ moved ∷ []) states
  switching_loads states (stage, others) = elim stage [
    | inl counts ↦ λ image is. loads_weaker limits (old ∷ []) (old ∷ moved ∷ []) states image (content_length (image turn_file)) (content_length (image gate_file)) (one_of_first (old ∷ []) (moved ∷ [])) (staying_loads states (counts, others) image is)
    | inr turns ↦ turn_either limits epoch (old ∷ []) (moved ∷ []) states (both_under states others turns.next) turns.turn.lengths
  ]

  moment_loads : (result : Result Unit SwitchError) (states : States) → SwitchMoment result epoch new.manifest before states → SwitchLoads result limits old moved states
  moment_loads (Ok x) states moment = switching_loads states moment
  moment_loads (Err Untouched) states moment = staying_loads states moment
  moment_loads (Err Unsure) states moment = switching_loads states moment
  moment_loads (Err Memory) states moment = staying_loads states moment

  pub since_loads : (result : Result Unit SwitchError) (v w : View) → Since (SwitchMoment result epoch new.manifest before) v w → Since (SwitchLoads result limits old moved) v w
  since_loads result v w s = record { later = s.later; past = s.past; each = λ m lt le. moment_loads result (w.at m) (s.each m lt le) }

  pub end_loads : (result : Result Unit SwitchError) (states : States) → AfterSwitch result epoch new.manifest before states → LoadsAfterSwitch result limits old moved states
  end_loads (Ok x) states ((counts, lasts), others) = turn_decides limits (epoch + 1) (moved ∷ []) states (new_under states others lasts) counts
  end_loads (Err Untouched) states stay = staying_loads states stay
  end_loads (Err Unsure) states (turns, others) =
      let both = both_under states others turns.next in (both, turn_either limits epoch (old ∷ []) (moved ∷ []) states both turns.turn.lengths)
  end_loads (Err Memory) states stay = staying_loads states stay

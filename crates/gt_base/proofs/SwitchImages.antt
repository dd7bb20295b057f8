-- What a stop leaves at each moment of a switch: the old base, or the new one.
use Rattle.std.proofs.Common.{◌≡◌, ◌≢◌, inl, inr, ℕ, zero, suc, ◌+◌, ◌<◌, ◌≤◌, Bool, true, false, not, ◌&&◌, cond, eqb, ltb, List, [], ◌∷◌, ◌++◌, Some, Result, Ok, Err, refl, sym, ◌∙◌, ap, subst, arith}
use Rattle.std.proofs.lemmas.Bool.{true≢false, eq-eqb, ne_eqb, le-ltb}
use Rattle.std.specs.List.{AllByRecursion}
use Rattle.gt_disk.specs.declared.file_id.FileId.{FileId}
use Rattle.gt_disk.specs.Files.{Content as FileContent, FileState, Files, States, View, still, Leaves, IsImage}
use Rattle.gt_disk.specs.Kinds.{turn_file, manifest_file, pack_file, packed_file, loose_file}
use Rattle.gt_disk.specs.Moments.{Since}
use Rattle.gt_log.specs.Log.{content_length}
use Rattle.gt_manifest.specs.declared.manifest.Loose.{Loose}
use Rattle.gt_manifest.specs.declared.manifest.RepoFiles.{RepoFiles}
use Rattle.gt_manifest.specs.declared.manifest.Manifest.{Manifest}
use Rattle.gt_manifest.specs.declared.version.Version.TheVariants.{Second}
use Rattle.gt_manifest.specs.Spelling.{manifest}
use Rattle.gt_manifest.specs.Whole.{manifest_of}
use Rattle.gt_model.specs.declared.limits.Limits.{Limits}
use Rattle.gt_pack.specs.Reading.{pack_of}
use Rattle.gt_reftext.specs.Loose.{value_of}
use Rattle.gt_reftext.specs.Packed.{packed_of}
use Rattle.gt_reading.specs.Counting.{IsTurning}
use Rattle.gt_reading.specs.Frames.{AreStill, Well, GoesWell}
use Rattle.gt_reading.specs.Reading.{Reading, done, damaged, run, asked, AsksOnly, parsed, parsed_file, one_more, list_in}
use Rattle.gt_reading.proofs.Apart.{well_apart}
use Rattle.gt_reading.proofs.Counters.{decided}
use Rattle.gt_reading.proofs.Programs.{agree, run_then, asked_then, asks_only, asks_file, only_then, only_file, only_each}
use Rattle.gt_base.specs.Loading.{limited}
use Rattle.gt_base.specs.Recovery.{Based, based_on, base_in, checked, manifest_in, repo_in, loose_in, packed_in, pack_in, pack_as, listed, with_name}
use Rattle.gt_base.specs.Switching.{Counts, OthersStand, Switching, Staying, SwitchMoment, AfterSwitch, IsBased, IsThis, IsEither, MaySwitch, SwitchImages, ImagesAfterSwitch}
use Rattle.gt_base.specs.declared.switch_error.SwitchError.{SwitchError}
use Rattle.gt_base.specs.declared.switch_error.SwitchError.TheVariants.{Untouched, Unsure, Memory}

-- ---- a base asks for no turn, and for one manifest at most

-- neither turn nor the manifest of this epoch
abbrev is_other : ℕ → FileId → Bool
is_other n f = not (eqb f.kind 2) && not (eqb f.kind 3 && eqb f.number n)

module _ (n : ℕ) where
  abbrev IsOther : FileId → Type 0
  IsOther f = is_other n f ≡ true

  not_turn : (f : FileId) → IsOther f → f ≢ turn_file
  not_turn f other is = true≢false (sym other ∙ ap (is_other n) is)

  not_next : (f : FileId) → IsOther f → f ≢ manifest_file n
  not_next f other is = true≢false (sym other ∙ ap (is_other n) is ∙ ap not (eq-eqb n n refl))

  only_pack : (number : ℕ) → AsksOnly IsOther (pack_in number)
  only_pack number = only_file IsOther (pack_file number) (λ bytes. pack_as number bytes (pack_of bytes)) refl

  only_packed : (number : ℕ) → AsksOnly IsOther (packed_in number)
  only_packed zero = tt
  only_packed (suc k) = only_file IsOther (packed_file (suc k)) (λ bytes. listed bytes (packed_of bytes)) refl

  only_loose : (l : Loose) → AsksOnly IsOther (loose_in l)
  only_loose l = only_file IsOther (loose_file l.file) (λ bytes. with_name l.name (value_of bytes)) refl

  only_list : {A B : Type 0} (read : A → Reading B) → ((x : A) → AsksOnly IsOther (read x)) → (xs : List A) → AsksOnly IsOther (list_in read xs)
  only_list read only xs = only_each IsOther (one_more read) (λ ys x. only_then IsOther (read x) (λ y. done (ys ++ y ∷ [])) (only x) (λ y. tt)) [] xs

  only_repo : (r : RepoFiles) → AsksOnly IsOther (repo_in r)
  only_repo r =
      only_then IsOther (list_in pack_in r.packs) _ (only_list pack_in only_pack r.packs) (λ packs.
      only_then IsOther (packed_in r.packed) _ (only_packed r.packed) (λ packed.
      only_then IsOther (list_in loose_in r.loose) _ (only_list loose_in only_loose r.loose) (λ loose. tt)))

  only_based : (m : Manifest) → AsksOnly IsOther (based_on m)
  only_based m = only_then IsOther (list_in repo_in m.repos) _ (only_list repo_in only_repo m.repos) (λ repos. tt)

  only_manifest : (epoch gate : ℕ) → epoch ≢ n → AsksOnly IsOther (manifest_in epoch gate)
  only_manifest zero gate ne = tt
  only_manifest (suc e) gate ne = only_file IsOther (manifest_file (suc e)) (λ bytes. checked (suc e) gate (manifest_of bytes)) (ap not (ne_eqb (suc e) n ne))

  only_limited : (limits : Limits) (gate epoch : ℕ) → epoch ≢ n → AsksOnly IsOther (limited limits gate epoch)
  only_limited limits gate epoch ne = by (ltb limits.epochs epoch)
    where
      by : (b : Bool) → AsksOnly IsOther (cond b (damaged (turn_file, limits.epochs)) (base_in epoch gate))
      by true = tt
      by false = only_then IsOther (manifest_in epoch gate) based_on (only_manifest epoch gate ne) only_based

-- ---- a manifest that lasts is read

checks : (k gate : ℕ) (m : Manifest) → m.epoch ≡ k → m.applied ≤ gate → checked k gate (Ok m) ≡ Ok m
checks k gate m is few =
    ap (λ (b : Bool). cond (not b) (Err 4) (cond (ltb gate m.applied) (Err 12) (Ok m))) (eq-eqb m.epoch k is)
    ∙ ap (λ (b : Bool). cond b (Err 12) (Ok m)) (le-ltb gate m.applied few)

reads_manifest : (k gate : ℕ) (m : Manifest) (image : Files) → 0 < k → m.epoch ≡ k → m.applied ≤ gate → manifest_of (manifest Second m) ≡ Ok m → image (manifest_file k) ≡ Some (manifest Second m)
    → (run image (manifest_in k gate) ≡ Ok m) × (asked image (manifest_in k gate) ≡ manifest_file k ∷ [])
reads_manifest zero gate m image some is few again there = absurd (omega arith)
reads_manifest (suc e) gate m image some is few again there =
    let grammar : List ℕ → Result Manifest ℕ = λ bytes. checked (suc e) gate (manifest_of bytes) in (
      ap (λ (c : FileContent). run image (parsed_file (manifest_file (suc e)) grammar c)) there
          ∙ ap (λ (x : Result Manifest ℕ). run image (parsed (manifest_file (suc e)) (checked (suc e) gate x))) again
          ∙ ap (λ (x : Result Manifest ℕ). run image (parsed (manifest_file (suc e)) x)) (checks (suc e) gate m is few),
      asks_file (manifest_file (suc e)) grammar image,
    )

-- a file that is still is the same in each image
image_still : (states : States) (image : Files) (f : FileId) (x : FileContent) → IsImage states image → states f ≡ still x → image f ≡ x
image_still states image f x is s = subst (λ (t : FileState). Leaves t (image f)) s (is f)

turn_length : (states : States) (n : ℕ) → Counts n states → (image : Files) → IsImage states image → content_length (image turn_file) ≡ n
turn_length states n c image is = ap content_length (image_still states image turn_file c.turn is c.turn_still) ∙ c.length

-- ---- the images

module _ (limits : Limits) (gate : ℕ) (old new : Based) (before : States) (files : Files) (may : MaySwitch limits gate old new before files) (shows : IsImage before files)
    (epoch : ℕ) (epoch_is : old.manifest.epoch ≡ epoch) (to : Manifest) (new_is : new.manifest ≡ to) (next_is : to.epoch ≡ epoch + 1) (again : manifest_of (manifest Second to) ≡ Ok to) where
  abbrev next : FileId
  next = manifest_file (epoch + 1)

  at_first : Counts epoch before
  at_first = subst (λ (e : ℕ). Counts e before) epoch_is may.counts

  old_before : GoesWell (limited limits gate epoch) (IsThis old) before
  old_before image is = subst (λ (k : ℕ). Well (limited limits gate k) (IsThis old) before image) (turn_length before epoch at_first image is) (may.old_is image is)

  new_epoch : new.manifest.epoch ≡ epoch + 1
  new_epoch = ap (λ (m : Manifest). m.epoch) new_is ∙ next_is

  module _ (states : States) (others : OthersStand epoch before states) where
    same : (f : FileId) → IsOther (epoch + 1) f → states f ≡ before f
    same f other = others f (not_turn (epoch + 1) f other) (not_next (epoch + 1) f other)

    old_here : GoesWell (limited limits gate epoch) (IsThis old) states
    old_here = well_apart (is_other (epoch + 1)) before states same (limited limits gate epoch) (IsThis old) (only_limited (epoch + 1) limits gate epoch (λ is. omega arith)) old_before

    old_based : Counts epoch states → IsBased limits gate (IsThis old) states
    old_based c image is = subst (λ (k : ℕ). Well (limited limits gate k) (IsThis old) states image) (sym (turn_length states epoch c image is)) (old_here image is)

    same_each : (image : Files) → IsImage states image → (fs : List FileId) → AllByRecursion (IsOther (epoch + 1)) fs → AreStill before fs → AllByRecursion (λ f. image f ≡ files f) fs
    same_each image is [] other steady = tt
    same_each image is (f ∷ fs) other steady = (
      image_still states image f steady.0.0 is (same f other.0 ∙ steady.0.1) ∙ sym (image_still before files f steady.0.0 shows steady.0.1),
      same_each image is fs other.1 steady.1,
    )

    still_each : (fs : List FileId) → AllByRecursion (IsOther (epoch + 1)) fs → AreStill before fs → AreStill states fs
    still_each [] other steady = tt
    still_each (f ∷ fs) other steady = ((steady.0.0, same f other.0 ∙ steady.0.1), still_each fs other.1 steady.1)

    module _ (next_still : states next ≡ still (Some (manifest Second to))) where
      new_base : (image : Files) → IsImage states image → Well (base_in (epoch + 1) gate) (IsThis new) states image
      new_base image is =
          let there : image next ≡ Some (manifest Second new.manifest) = image_still states image next (Some (manifest Second to)) is next_still ∙ ap (λ (m : Manifest). Some (manifest Second m)) (sym new_is) in
          let reads = reads_manifest (epoch + 1) gate new.manifest image (omega arith) new_epoch may.applied (subst (λ (m : Manifest). manifest_of (manifest Second m) ≡ Ok m) (sym new_is) again) there in
          let named : List FileId = asked files (based_on new.manifest) in
          let asks : AllByRecursion (IsOther (epoch + 1)) named = asks_only (IsOther (epoch + 1)) (based_on new.manifest) files (only_based (epoch + 1) new.manifest) in
          let answers = agree (based_on new.manifest) files image (same_each image is named asks may.new_still) in
          let by_files : asked image (base_in (epoch + 1) gate) ≡ next ∷ named =
          asked_then (manifest_in (epoch + 1) gate) based_on image new.manifest reads.0
          ∙ ap (λ (fs : List FileId). fs ++ asked image (based_on new.manifest)) reads.1
          ∙ ap (λ (fs : List FileId). next ∷ fs) answers.1 in
          record {
            what = new;
            is = run_then (manifest_in (epoch + 1) gate) based_on image new.manifest reads.0 ∙ answers.0 ∙ may.new_is;
            has = refl;
            steady = subst (AreStill states) (sym by_files) ((Some (manifest Second to), next_still), still_each named asks may.new_still);
          }

      new_here : GoesWell (limited limits gate (epoch + 1)) (IsThis new) states
      new_here image is =
          subst (λ (b : Bool). Well (cond b (damaged (turn_file, limits.epochs)) (base_in (epoch + 1) gate)) (IsThis new) states image)
          (sym (le-ltb limits.epochs (epoch + 1) (omega (arith, may.few, new_epoch)))) (new_base image is)

      either_based : IsTurning epoch (states turn_file) → IsBased limits gate (IsEither old new) states
      either_based turning image is = decided turn_file (limited limits gate) (IsThis old) (IsThis new) epoch states old_here new_here turning image is

      new_based : Counts (epoch + 1) states → IsBased limits gate (IsThis new) states
      new_based c image is = subst (λ (k : ℕ). Well (limited limits gate k) (IsThis new) states image) (sym (turn_length states (epoch + 1) c image is)) (new_here image is)

  staying_images : (states : States) → Staying epoch before states → IsBased limits gate (IsThis old) states
  staying_images states stay = old_based states stay.1 stay.0

  switching_images : (states : States) → Switching epoch to before states → IsBased limits gate (IsEither old new) states
  switching_images states s image is = elim s.0 [
    | inl counts ↦
        let w = old_based states s.1 counts image is in
        record { what = w.what; is = w.is; has = inl w.has; steady = w.steady }
    | inr turns ↦ either_based states s.1 turns.next turns.turn image is
  ]

  moment_images : (result : Result Unit SwitchError) (states : States) → SwitchMoment result epoch to before states → SwitchImages result limits gate old new states
  moment_images (Ok x) states moment = switching_images states moment
  moment_images (Err Untouched) states moment = staying_images states moment
  moment_images (Err Unsure) states moment = switching_images states moment
  moment_images (Err Memory) states moment = staying_images states moment

  pub since_images : (result : Result Unit SwitchError) (v w : View) → (Counts epoch before → Since (SwitchMoment result epoch to before) v w) → Since (SwitchImages result limits gate old new) v w
  since_images result v w moments =
      let s = moments at_first in
      record { later = s.later; past = s.past; each = λ m lt le. moment_images result (w.at m) (s.each m lt le) }

  end_images : (result : Result Unit SwitchError) (states : States) → AfterSwitch result epoch to before states → ImagesAfterSwitch result limits gate old new states
  end_images (Ok x) states s = new_based states s.1 s.0.1 s.0.0
  end_images (Err Untouched) states s = staying_images states s
  end_images (Err Unsure) states s = either_based states s.1 s.0.next s.0.turn
  end_images (Err Memory) states s = staying_images states s

  pub after_images : (result : Result Unit SwitchError) (states : States) → (Counts epoch before → AfterSwitch result epoch to before states) → ImagesAfterSwitch result limits gate old new states
  after_images result states after = end_images result states (after at_first)

-- The stages of a switch, and of the settling of a doubt.
use Rattle.std.proofs.Common.{◌≡◌, ◌≢◌, ◌⊎◌, inl, inr, ⊎_elim, ℕ, ◌+◌, [], ◌∷◌, Some, refl, sym, ◌∙◌, ap, subst, arith, length-append}
use Rattle.std.specs.Option.{unwrap_or}
use Rattle.gt_disk.specs.declared.file_id.FileId.{FileId}
use Rattle.gt_disk.specs.Files.{Content as FileContent, FileState, States, View, now, still, appended, IsImage}
use Rattle.gt_disk.specs.Kinds.{turn_file, manifest_file}
use Rattle.gt_disk.specs.Moments.{Since, Runs, AnyState, Growing, Lasting}
use Rattle.gt_disk.proofs.Steps.{runs_now, since_join, since_runs}
use Rattle.gt_log.specs.Log.{content_length}
use Rattle.gt_manifest.specs.declared.manifest.Manifest.{Manifest}
use Rattle.gt_manifest.specs.declared.version.Version.TheVariants.{Second}
use Rattle.gt_manifest.specs.Spelling.{manifest}
use Rattle.gt_reading.specs.Counting.{IsTurning}
use Rattle.gt_reading.proofs.Counters.{still_turns, grown_turns}
use Rattle.gt_reading.proofs.Framing.{since_now}
use Rattle.gt_base.specs.Switching.{Counts, Turns, OthersStand, Switching, Staying}

apart : (a b : ℕ) → a ≡ 3 → b ≡ 2 → a ≢ b
apart a b three two is = omega arith

manifest_not_turn : (n : ℕ) → manifest_file n ≢ turn_file
manifest_not_turn n is = apart 3 2 refl refl (ap (λ (f : FileId). f.kind) is)

-- ---- turn, which is still, grown by a byte, or still and longer by it

longer : (epoch : ℕ) (x : FileContent) → content_length x ≡ epoch → content_length (appended x (1 ∷ [])) ≡ epoch + 1
longer epoch x size = length-append (unwrap_or x []) (1 ∷ []) ∙ ap (λ (n : ℕ). n + 1) size

growing_turns : (epoch : ℕ) (x : FileContent) (s : FileState) → content_length x ≡ epoch → Growing x (1 ∷ []) s → IsTurning epoch s
growing_turns epoch x s size (inl is) = subst (IsTurning epoch) (sym is) (still_turns epoch x (inl size))
growing_turns epoch x s size (inr (inl is)) = subst (IsTurning epoch) (sym is) (grown_turns epoch x size)
growing_turns epoch x s size (inr (inr is)) = subst (IsTurning epoch) (sym is) (still_turns epoch (appended x (1 ∷ [])) (inr (longer epoch x size)))

-- ---- a switch

module _ (epoch : ℕ) (file : FileId) (at : file ≡ manifest_file (epoch + 1)) where
  not_turn : file ≢ turn_file
  not_turn is = manifest_not_turn (epoch + 1) (sym at ∙ is)

  staying_at : (before states : States) → Counts epoch before → ((g : FileId) → g ≢ file → states g ≡ before g) → Staying epoch before states
  staying_at before states c others = (
    record { turn = c.turn; turn_still = others turn_file (λ is. not_turn (sym is)) ∙ c.turn_still; length = c.length },
    λ g other not_next. others g (λ is. not_next (is ∙ at)),
  )

  module _ (to : Manifest) (v w x : View) (c : Counts epoch (now v)) (r : Runs file AnyState v w) (is : now w file ≡ still (Some (manifest Second to))) (opens : (y : FileContent) → now w turn_file ≡ still y → Runs turn_file (Growing y (1 ∷ [])) w x) where
    between : Staying epoch (now v) (now w)
    between = staying_at (now v) (now w) c (runs_now file AnyState v w r)

    abbrev turn : FileContent
    turn = between.0.turn

    grows : Runs turn_file (Growing turn (1 ∷ [])) w x
    grows = opens turn between.0.turn_still

    next_at : (states : States) → ((g : FileId) → g ≢ turn_file → states g ≡ now w g) → states (manifest_file (epoch + 1)) ≡ still (Some (manifest Second to))
    next_at states others = others (manifest_file (epoch + 1)) (manifest_not_turn (epoch + 1)) ∙ ap (now w) (sym at) ∙ is

    turns_at : (states : States) → Growing turn (1 ∷ []) (states turn_file) → ((g : FileId) → g ≢ turn_file → states g ≡ now w g) → Turns epoch to states
    turns_at states growing others = record {
      turn = growing_turns epoch turn (states turn_file) between.0.length growing;
      next = next_at states others;
    }

    others_at : (states : States) → ((g : FileId) → g ≢ turn_file → states g ≡ now w g) → OthersStand epoch (now v) states
    others_at states others g other not_next = others g other ∙ between.1 g other not_next

    pub switching : Since (Switching epoch to (now v)) v x
    switching =
        since_join (Switching epoch to (now v)) v w x
        (since_runs file AnyState (Switching epoch to (now v)) v w r (λ states any others. let stay = staying_at (now v) states c others in (inl stay.0, stay.1)))
        (since_runs turn_file (Growing turn (1 ∷ [])) (Switching epoch to (now v)) w x grows (λ states growing others. (inr (turns_at states growing others), others_at states others)))

-- ---- a doubt

module _ (epoch : ℕ) (to : Manifest) (v w : View) (t : Turns epoch to (now v)) (shows : IsImage (now v) v.reads) (r : Runs turn_file (Lasting (now v turn_file) (v.reads turn_file)) v w) where
  abbrev shown : FileContent
  shown = v.reads turn_file

  length_is : (content_length shown ≡ epoch) ⊎ (content_length shown ≡ epoch + 1)
  length_is = t.turn.lengths shown (shows turn_file)

  next_on : (states : States) → ((g : FileId) → g ≢ turn_file → states g ≡ now v g) → states (manifest_file (epoch + 1)) ≡ still (Some (manifest Second to))
  next_on states others = others (manifest_file (epoch + 1)) (manifest_not_turn (epoch + 1)) ∙ t.next

  turns_on : (states : States) → Lasting (now v turn_file) shown (states turn_file) → ((g : FileId) → g ≢ turn_file → states g ≡ now v g) → Turns epoch to states
  turns_on states lasting others = record {
    turn = ⊎_elim (λ same. subst (IsTurning epoch) (sym same) t.turn) (λ is. subst (IsTurning epoch) (sym is) (still_turns epoch shown length_is)) lasting;
    next = next_on states others;
  }

  -- a device failed
  pub doubts_on : Turns epoch to (now w)
  doubts_on = since_now (Turns epoch to) v w (since_runs turn_file (Lasting (now v turn_file) shown) (Turns epoch to) v w r turns_on) t

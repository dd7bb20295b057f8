-- Changes of files that a program never asks for, many at once.
use Rattle.std.proofs.Common.{◌≡◌, Bool, true, false, cond, List, [], ◌∷◌, refl, sym, ◌∙◌, ap, subst}
use Rattle.std.specs.List.{AllByRecursion}
use Rattle.gt_disk.specs.declared.file_id.FileId.{FileId}
use Rattle.gt_disk.specs.Files.{Content as FileContent, FileState, Leaves, Files, States, IsImage}
use Rattle.gt_reading.specs.Reading.{Reading, AsksOnly, run, asked}
use Rattle.gt_reading.specs.Frames.{AreStill, Well, GoesWell}
use Rattle.gt_reading.proofs.Programs.{agree, asks_only, every_weaker}
use Rattle.gt_reading.proofs.Framing.{some_content, leaves_some}

module _ (here : FileId → Bool) (before states : States) (same : (f : FileId) → here f ≡ true → states f ≡ before f) where
  abbrev Here : FileId → Type 0
  Here f = here f ≡ true

  -- an image from before that differs at the others alone
  abbrev as_before : Files → Files
  as_before image f = cond (here f) (image f) (some_content (before f))

  as_before_is : (image : Files) → IsImage states image → IsImage before (as_before image)
  as_before_is image is f = by (here f) refl
    where
      by : (b : Bool) → here f ≡ b → Leaves (before f) (cond b (image f) (some_content (before f)))
      by true there = subst (λ (s : FileState). Leaves s (image f)) (same f there) (is f)
      by false there = leaves_some (before f)

  here_same : (image : Files) (f : FileId) → Here f → image f ≡ as_before image f
  here_same image f there = sym (ap (λ (b : Bool). cond b (image f) (some_content (before f))) there)

  all_still : (fs : List FileId) → AllByRecursion Here fs → AreStill before fs → AreStill states fs
  all_still [] there still = tt
  all_still (f ∷ fs) there still = ((still.0.0, same f there.0 ∙ still.0.1), all_still fs there.1 still.1)

  pub well_apart : {A : Type 0} (r : Reading A) (P : A → Type 0) → AsksOnly Here r → GoesWell r P before → GoesWell r P states
  well_apart r P only well image is =
      let old = well (as_before image) (as_before_is image is) in
      let asks = asks_only Here r (as_before image) only in
      let answer = agree r (as_before image) image (every_weaker Here (λ f. image f ≡ as_before image f) (here_same image) (asked (as_before image) r) asks) in
      record {
        what = old.what;
        is = answer.0 ∙ old.is;
        has = old.has;
        steady = subst (AreStill states) (sym answer.1) (all_still (asked (as_before image) r) asks old.steady);
      }

-- A file that counts by its length decides between two.
use Rattle.std.proofs.Common.{◌≡◌, ◌≢◌, ◌⊎◌, inl, inr, ℕ, ◌+◌, ◌≤◌, List, [], length, refl, sym, ◌∙◌, ap, subst, arith, length-append}
use Rattle.std.proofs.lemmas.Bool.{cases_lt}
use Rattle.std.specs.Option.{unwrap_or}
use Rattle.gt_disk.specs.declared.file_id.FileId.{FileId}
use Rattle.gt_disk.specs.Files.{Content as FileContent, still, grown, Leaves, Files, States}
use Rattle.gt_log.specs.Log.{content_length}
use Rattle.gt_reading.specs.Reading.{Reading}
use Rattle.gt_reading.specs.Frames.{Unasked, AreStill, Well, GoesWell}
use Rattle.gt_reading.specs.Counting.{IsTurning}
use Rattle.gt_reading.proofs.Framing.{well_frame}

module _ {A : Type 0} (c : FileId) (rest : ℕ → Reading A) (P Q : A → Type 0) (n : ℕ) where
  abbrev pub Either : A → Type 0
  Either x = P x ⊎ Q x

  -- whatever a stop leaves, the program that its length chooses goes well
  whole : (R : A → Type 0) → ((x : A) → R x → Either x) → (states : States) (image : Files) (m : ℕ) → content_length (image c) ≡ m → Well (rest m) R states image → Well (rest (content_length (image c))) Either states image
  whole R h states image m is well =
      let w : Well (rest (content_length (image c))) R states image = subst (λ (k : ℕ). Well (rest k) R states image) (sym is) well in
      record { what = w.what; is = w.is; has = h w.what w.has; steady = w.steady }

  pub decided : (states : States) → GoesWell (rest n) P states → GoesWell (rest (n + 1)) Q states → IsTurning n (states c) → (image : Files) → ((file : FileId) → Leaves (states file) (image file)) → Well (rest (content_length (image c))) Either states image
  decided states old new turning image is = elim (turning.lengths (image c) (is c)) [
    | inl here ↦ whole P (λ x p. inl p) states image n here (old image is)
    | inr next ↦ whole Q (λ x q. inr q) states image (n + 1) next (new image is)
  ]

-- ---- lengths

short : (n k : ℕ) → k ≤ 1 → (n + k ≡ n) ⊎ (n + k ≡ n + 1)
short n k le = elim (cases_lt 0 k) [ inl lt ↦ inr (omega arith) | inr ge ↦ inl (omega arith) ]

pub still_turns : (count : ℕ) (x : FileContent) → (content_length x ≡ count) ⊎ (content_length x ≡ count + 1) → IsTurning count (still x)
still_turns count x is = record { counting = (x, inl refl); lengths = λ y same. subst (λ (z : FileContent). (content_length z ≡ count) ⊎ (content_length z ≡ count + 1)) (sym same) is }

pub grown_turns : (count : ℕ) (x : FileContent) → content_length x ≡ count → IsTurning count (grown x 1)
grown_turns count x is = record { counting = (x, inr refl); lengths = by }
  where
    by : (y : FileContent) → Leaves (grown x 1) y → (content_length y ≡ count) ⊎ (content_length y ≡ count + 1)
    by y (inl none) = inl (ap content_length none.1 ∙ sym (ap content_length none.0) ∙ is)
    by y (inr (more, few, same)) =
        let long : content_length y ≡ count + length more = ap content_length same ∙ length-append (unwrap_or x []) more ∙ ap (λ (n : ℕ). n + length more) is in
        elim (short count (length more) few) [ inl a ↦ inl (long ∙ a) | inr b ↦ inr (long ∙ b) ]

-- What was written stays while other files are written.
use Rattle.std.proofs.Common.{◌≡◌, ◌≢◌, ℕ, ◌+◌, ◌<◌, List, [], ◌∷◌, length, get_or, take, drop, Some, refl, sym, ◌∙◌, ap, subst}
use Rattle.std.specs.List.{AllByRecursion}
use Rattle.gt_applied.specs.Applied.{bytes_of, HasSpelling, HaveSpellings}
use Rattle.gt_apply.specs.declared.new_file.NewFile.{NewFile}
use Rattle.gt_disk.specs.declared.file_id.FileId.{FileId}
use Rattle.gt_disk.specs.Files.{States, View, now, still}
use Rattle.gt_disk.specs.Moments.{Since, Runs, AnyState}
use Rattle.gt_disk.proofs.Steps.{runs_now, since_join, since_runs}
use Rattle.gt_reading.proofs.Framing.{since_now}
use Rattle.gt_applied.proofs.Typed.{all_append}
use Rattle.gt_checkpoint.specs.Advancing.{AreKept, calls_for, calls_of}
use Rattle.gt_checkpoint.specs.Writing.{StandInRow, OnlyThese}
use Rattle.gt_checkpoint.proofs.Lists.{drop_next, take_next, of_all}
use Rattle.gt_checkpoint.proofs.Rows.{others_before}

-- where none of these files has changed
pub still_kept : (fs : List NewFile) (before states : States) → AllByRecursion (λ x. states x.file ≡ before x.file) fs → AreKept fs before → AreKept fs states
still_kept [] before states same kept = tt
still_kept (x ∷ fs) before states same kept = (same.0 ∙ kept.0, still_kept fs before states same.1 kept.1)

same_others : (f : FileId) (fs : List NewFile) (before states : States) → ((g : FileId) → g ≢ f → states g ≡ before g) → AllByRecursion (λ x. x.file ≢ f) fs → AllByRecursion (λ x. states x.file ≡ before x.file) fs
same_others f [] before states others ne = tt
same_others f (x ∷ fs) before states others ne = (others x.file ne.0, same_others f fs before states others ne.1)

module _ (fs : List NewFile) (i : ℕ) (f : NewFile) (lt : i < length fs) (is : f ≡ get_or fs i f) where
  pub spelled_more : HaveSpellings (take i fs) → HasSpelling f.content → HaveSpellings (take (i + 1) fs)
  spelled_more h one = subst HaveSpellings (sym (take_next fs i f lt is)) (all_append (λ x. HasSpelling x.content) (take i fs) (f ∷ []) h (one, tt))

  pub counted_more : calls_of (drop i fs) ≡ calls_for f.content + calls_of (drop (i + 1) fs)
  counted_more = ap calls_of (drop_next fs i f lt is)

  pub kept_more : (n : ℕ) → StandInRow n fs → (v w : View) → Runs f.file AnyState v w → now w f.file ≡ still (Some (bytes_of f.content)) → AreKept (take i fs) (now v) → AreKept (take (i + 1) fs) (now w)
  kept_more n row v w r here kept =
      subst (λ (xs : List NewFile). AreKept xs (now w)) (sym (take_next fs i f lt is))
      (all_append (λ x. now w x.file ≡ still (Some (bytes_of x.content))) (take i fs) (f ∷ [])
      (still_kept (take i fs) (now v) (now w) (same_others f.file (take i fs) (now v) (now w) (runs_now f.file AnyState v w r) (others_before n fs i f lt is row)) kept)
      (here, tt))

  pub only_more : (u v w : View) → Since (OnlyThese fs (now u)) u v → Runs f.file AnyState v w → Since (OnlyThese fs (now u)) u w
  only_more u v w s r =
      since_join (OnlyThese fs (now u)) u v w s
      (since_runs f.file AnyState (OnlyThese fs (now u)) v w r (λ states any others g apart.
      others g (of_all (λ x. g ≢ x.file) fs i f lt is apart) ∙ since_now (OnlyThese fs (now u)) u v s (λ h none. refl) g apart))

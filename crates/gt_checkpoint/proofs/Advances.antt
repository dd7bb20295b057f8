-- What each moment of an application is like: while its files are written, and while its manifest comes to count.
use Rattle.std.proofs.Common.{◌≡◌, ◌≢◌, ◌⊎◌, inl, inr, ⊎_elim, ℕ, ◌+◌, List, [], ◌∷◌, Result, Ok, Err, refl, sym, ◌∙◌, subst, arith}
use Rattle.std.specs.List.{AllByRecursion}
use Rattle.gt_applied.specs.Applied.{HaveSpellings}
use Rattle.gt_apply.specs.declared.new_file.NewFile.{NewFile}
use Rattle.gt_base.specs.Switching.{Counts, Turns, OthersStand, SwitchMoment, AfterSwitch}
use Rattle.gt_base.specs.declared.switch_error.SwitchError.{SwitchError}
use Rattle.gt_base.specs.declared.switch_error.SwitchError.TheVariants.{Untouched, Unsure, Memory}
use Rattle.gt_disk.specs.Files.{States, View, now}
use Rattle.gt_disk.specs.Kinds.{turn_file, manifest_file}
use Rattle.gt_disk.specs.Moments.{Since}
use Rattle.gt_disk.proofs.Steps.{since_join}
use Rattle.gt_manifest.specs.declared.manifest.Manifest.{Manifest}
use Rattle.gt_reading.proofs.Framing.{since_now}
use Rattle.gt_checkpoint.specs.Advancing.{AreKept, StandApart, Going, Staying, AdvanceMoment, AfterAdvance}
use Rattle.gt_checkpoint.specs.Writing.{StandInRow, OnlyThese}
use Rattle.gt_checkpoint.proofs.Rows.{none_of_kind, none_apart}
use Rattle.gt_checkpoint.proofs.Kept.{still_kept}

since_weaker : (P Q : States → Type 0) (v w : View) → ((states : States) → P states → Q states) → Since P v w → Since Q v w
since_weaker P Q v w imp s = record { later = s.later; past = s.past; each = λ m lt le. imp (w.at m) (s.each m lt le) }

module _ (epoch next : ℕ) (to : Manifest) (news : List NewFile) (row : StandInRow next news) where
  -- ---- while files are written

  stays_only : (before states : States) → Counts epoch before → OnlyThese news before states → Staying epoch next before states
  stays_only before states c only = (
    record { turn = c.turn; turn_still = only turn_file (none_of_kind turn_file (omega arith) next news row) ∙ c.turn_still; length = c.length },
    λ g apart. only g (none_apart epoch next g apart next news (omega arith) row),
  )

  at_moment : (result : Result Unit SwitchError) (before states : States) → Staying epoch next before states → AdvanceMoment result epoch next to news before states
  at_moment (Ok x) before states s = (inl s.0, s.1)
  at_moment (Err Untouched) before states s = s
  at_moment (Err Unsure) before states s = (inl s.0, s.1)
  at_moment (Err Memory) before states s = s

  pub while_writing : (result : Result Unit SwitchError) (v w : View) → Counts epoch (now v) → Since (OnlyThese news (now v)) v w → Since (AdvanceMoment result epoch next to news (now v)) v w
  while_writing result v w c s =
      since_weaker (OnlyThese news (now v)) (AdvanceMoment result epoch next to news (now v)) v w (λ states only. at_moment result (now v) states (stays_only (now v) states c only)) s

  only_now : (v w : View) → Since (OnlyThese news (now v)) v w → OnlyThese news (now v) (now w)
  only_now v w s = since_now (OnlyThese news (now v)) v w s (λ g none. refl)

  -- ---- a file that wasn't written

  pub after_failing : (e : SwitchError) (v w : View) → (let r : Result Unit SwitchError = Err e in r ≢ Err Unsure) → Counts epoch (now v) → Since (OnlyThese news (now v)) v w → AfterAdvance (Err e) epoch next to news (now v) (now w)
  after_failing Untouched v w sure c s = stays_only (now v) (now w) c (only_now v w s)
  after_failing Unsure v w sure c s = absurd (sure refl)
  after_failing Memory v w sure c s = stays_only (now v) (now w) c (only_now v w s)

  -- ---- while the manifest comes to count

  module _ (spelled : HaveSpellings news) (v w : View) (c : Counts epoch (now v)) (s : Since (OnlyThese news (now v)) v w) (kept : AreKept news (now w)) where
    between : Staying epoch next (now v) (now w)
    between = stays_only (now v) (now w) c (only_now v w s)

    apart_on : (states : States) → OthersStand epoch (now w) states → StandApart epoch next (now v) states
    apart_on states others g apart = others g apart.0 apart.1 ∙ between.1 g apart

    kept_on : (states : States) → OthersStand epoch (now w) states → AreKept news states
    kept_on states others = still_kept news (now w) states (same next news row) kept
      where
        same : (n : ℕ) (fs : List NewFile) → StandInRow n fs → AllByRecursion (λ x. states x.file ≡ now w x.file) fs
        same n fs in_row = all fs (none_of_kind turn_file (omega arith) n fs in_row) (none_of_kind (manifest_file (epoch + 1)) (omega arith) n fs in_row)
          where
            all : (gs : List NewFile) → AllByRecursion (λ x. turn_file ≢ x.file) gs → AllByRecursion (λ x. manifest_file (epoch + 1) ≢ x.file) gs → AllByRecursion (λ x. states x.file ≡ now w x.file) gs
            all [] turn manifest = tt
            all (x ∷ gs) turn manifest = (others x.file (λ is. turn.0 (sym is)) (λ is. manifest.0 (sym is)), all gs turn.1 manifest.1)

    going : (states : States) → (Counts epoch states ⊎ Turns epoch to states) × OthersStand epoch (now w) states → Going epoch next to news (now v) states
    going states m = (⊎_elim inl (λ turns. inr (record { turns = turns; spelled = spelled; kept = kept_on states m.1 })) m.0, apart_on states m.1)

    moment : (result : Result Unit SwitchError) (states : States) → SwitchMoment result epoch to (now w) states → AdvanceMoment result epoch next to news (now v) states
    moment (Ok x) states m = going states m
    moment (Err Untouched) states m = (m.0, apart_on states m.1)
    moment (Err Unsure) states m = going states m
    moment (Err Memory) states m = (m.0, apart_on states m.1)

    pub while_switching : (result : Result Unit SwitchError) (x : View) (made : Manifest) → made ≡ to → (Counts epoch (now w) → Since (SwitchMoment result epoch made (now w)) w x) → Since (AdvanceMoment result epoch next to news (now v)) v x
    while_switching result x made is switch =
        since_join (AdvanceMoment result epoch next to news (now v)) v w x (while_writing result v w c s)
        (since_weaker (SwitchMoment result epoch to (now w)) (AdvanceMoment result epoch next to news (now v)) w x (moment result)
        (subst (λ (m : Manifest). Since (SwitchMoment result epoch m (now w)) w x) is (switch between.0)))

    end : (result : Result Unit SwitchError) (states : States) → AfterSwitch result epoch to (now w) states → AfterAdvance result epoch next to news (now v) states
    end (Ok x) states m = (record { switched = m.0; spelled = spelled; kept = kept_on states m.1 }, apart_on states m.1)
    end (Err Untouched) states m = (m.0, apart_on states m.1)
    end (Err Unsure) states m = (record { turns = m.0; spelled = spelled; kept = kept_on states m.1 }, apart_on states m.1)
    end (Err Memory) states m = (m.0, apart_on states m.1)

    pub after_switching : (result : Result Unit SwitchError) (states : States) (made : Manifest) → made ≡ to → (Counts epoch (now w) → AfterSwitch result epoch made (now w) states) → AfterAdvance result epoch next to news (now v) states
    after_switching result states made is switch = end result states (subst (λ (m : Manifest). AfterSwitch result epoch m (now w) states) is (switch between.0))

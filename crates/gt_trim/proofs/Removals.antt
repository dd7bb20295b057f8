-- Files that are removed one after the other.
use Rattle.std.proofs.Common.{◌≡◌, ◌≢◌, ◌⊎◌, inl, inr, ℕ, ◌+◌, ◌<◌, true, false, List, [], ◌∷◌, ◌++◌, length, get_or, take, None, refl, sym, ◌∙◌, ap, subst, arith}
use Rattle.std.proofs.lemmas.Bool.{cases_lt}
use Rattle.std.proofs.lemmas.List.{take_more}
use Rattle.gt_disk.specs.declared.file_id.FileId.{FileId}
use Rattle.gt_disk.specs.Files.{FileState, States, View, now, still}
use Rattle.gt_disk.specs.Moments.{Since, Runs}
use Rattle.gt_disk.proofs.Steps.{cases_file, runs_now, since_join, since_runs}
use Rattle.gt_trim.specs.Removing.{AreGone, Going, LeavesOthers, OnlyRemoves, ReadsOthers}
use Rattle.gt_trim.specs.Unnamed.{is_among}
use Rattle.gt_trim.proofs.Among.{among_at}

-- at the end of moments
pub since_now : (P : States → Type 0) (v w : View) → Since P v w → P (now v) → P (now w)
since_now P v w s p = elim (cases_lt v.clock w.clock) [
  | inl lt ↦ s.each w.clock lt (omega arith)
  | inr ge ↦
      let same : v.clock ≡ w.clock = omega (arith, s.later) in
      subst (λ (m : ℕ). P (w.at m)) same (subst P (sym (s.past v.clock (omega arith))) p)
]

-- what goes on from a state that goes on from another
going_on : (a b c : FileState) → Going a b → Going b c → Going a c
going_on a b c first (inl same) = subst (Going a) (sym same) first
going_on a b c first (inr later) = inr later

gone_append : (states : States) (fs : List FileId) (f : FileId) → AreGone fs states → states f ≡ still None → AreGone (fs ++ f ∷ []) states
gone_append states [] f gone here = (here, tt)
gone_append states (x ∷ fs) f gone here = (gone.0, gone_append states fs f gone.1 here)

-- what was gone stays so while another file, or the same once more, is removed
gone_kept : (f : FileId) (before states : States) → states f ≡ still None → ((g : FileId) → g ≢ f → states g ≡ before g) → (fs : List FileId) → AreGone fs before → AreGone fs states
gone_kept f before states here others [] gone = tt
gone_kept f before states here others (x ∷ fs) gone = (by (cases_file x f), gone_kept f before states here others fs gone.1)
  where
    by : (x ≡ f) ⊎ (x ≢ f) → states x ≡ still None
    by (inl same) = ap states same ∙ here
    by (inr other) = others x other ∙ gone.0

apart : (files : List FileId) (f g : FileId) → is_among files f ≡ true → is_among files g ≡ false → g ≢ f
apart files f g there none same = absurd (let e : is_among files f ≡ is_among files g = ap (is_among files) (sym same) in cc (e, there, none))

-- the file at a place of them is removed
module _ (files : List FileId) (i : ℕ) (d : FileId) (lt : i < length files) where
  abbrev f : FileId
  f = get_or files i d

  pub gone_more : (v w : View) → Runs f (Going (now v f)) v w → now w f ≡ still None → AreGone (take i files) (now v) → AreGone (take (i + 1) files) (now w)
  gone_more v w run here gone =
      subst (λ (fs : List FileId). AreGone fs (now w)) (sym (take_more files i d lt))
      (gone_append (now w) (take i files) f (gone_kept f (now v) (now w) here (runs_now f (Going (now v f)) v w run) (take i files) gone) here)

  pub reads_more : (u v w : View) → Runs f (Going (now v f)) v w → ReadsOthers files u.reads v.reads → ReadsOthers files u.reads w.reads
  reads_more u v w run reads g none = run.reads_others g (apart files f g (among_at files i d lt) none) ∙ reads g none

  pub others_more : (u v w : View) → Runs f (Going (now v f)) v w → Since (LeavesOthers files (now u)) u v → Since (LeavesOthers files (now u)) u w
  others_more u v w run s =
      since_join (LeavesOthers files (now u)) u v w s
      (since_runs f (Going (now v f)) (LeavesOthers files (now u)) v w run (λ states going others g none.
      others g (apart files f g (among_at files i d lt) none) ∙ since_now (LeavesOthers files (now u)) u v s (λ h out. refl) g none))

  pub going_more : (u v w : View) → Runs f (Going (now v f)) v w → Since (OnlyRemoves files (now u)) u v → Since (OnlyRemoves files (now u)) u w
  going_more u v w run s =
      since_join (OnlyRemoves files (now u)) u v w s
      (since_runs f (Going (now v f)) (OnlyRemoves files (now u)) v w run (λ states going others g there. by states going others g there (cases_file g f)))
    where
      before : OnlyRemoves files (now u) (now v)
      before = since_now (OnlyRemoves files (now u)) u v s (λ h there. inl refl)

      by : (states : States) → Going (now v f) (states f) → ((g : FileId) → g ≢ f → states g ≡ now v g) → (g : FileId) → is_among files g ≡ true → (g ≡ f) ⊎ (g ≢ f) → Going (now u g) (states g)
      by states going others g there (inl same) = subst (λ (h : FileId). Going (now u h) (states h)) (sym same) (going_on (now u f) (now v f) (states f) (before f (among_at files i d lt)) going)
      by states going others g there (inr other) = subst (Going (now u g)) (sym (others g other)) (before g there)

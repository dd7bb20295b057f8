-- Device calls on files that aren't asked for.
use Rattle.std.proofs.Common.{◌≡◌, ◌≢◌, ◌⊎◌, inl, inr, ℕ, List, [], ◌∷◌, ◌++◌, Some, None, Result, refl, sym, ◌∙◌, ap, subst, arith}
use Rattle.std.proofs.lemmas.Bool.{cases_lt}
use Rattle.std.specs.Option.{unwrap_or}
use Rattle.std.specs.List.{AllByRecursion}
use Rattle.gt_disk.specs.declared.file_id.FileId.{FileId}
use Rattle.gt_disk.specs.Files.{Content as FileContent, FileState, still, grown, loose, Leaves, Files, States, IsImage, View, now}
use Rattle.gt_disk.specs.Moments.{Since, Runs, AnyState}
use Rattle.gt_disk.proofs.Steps.{cases_file, runs_becomes, runs_synced, runs_unchanged, since_runs, since_join, since_none, since_quiet}
use Rattle.gt_reading.specs.Reading.{Damage, Reading, run, asked}
use Rattle.gt_reading.specs.Frames.{Gives, AnswersAs, Unasked, AreStill, Well, GoesWell, Touches, Calls}
use Rattle.gt_reading.proofs.Programs.{agree, every_weaker}

-- ---- images

-- a content that a stop may leave
pub some_content : FileState → FileContent
some_content (still x) = x
some_content (grown x k) = Some (unwrap_or x [] ++ [])
some_content loose = None

pub leaves_some : (s : FileState) → Leaves s (some_content s)
unfolding some_content
leaves_some (still x) = refl
leaves_some (grown x k) = inr ([], omega arith, refl)
leaves_some loose = tt

pub some_image : (states : States) → IsImage states (λ g. some_content (states g))
some_image states g = leaves_some (states g)

abbrev pub either : (f : FileId) (x : FileContent) (image : Files) (g : FileId) → (g ≡ f) ⊎ (g ≢ f) → FileContent
either f x image g (inl same) = x
either f x image g (inr other) = image g

-- the same files but for this one
abbrev pub mend : FileId → FileContent → Files → Files
mend f x image g = either f x image g (cases_file g f)

pub mend_other : (f : FileId) (x : FileContent) (image : Files) (g : FileId) → g ≢ f → mend f x image g ≡ image g
mend_other f x image g ne = by (cases_file g f)
  where
    by : (d : (g ≡ f) ⊎ (g ≢ f)) → either f x image g d ≡ image g
    by (inl same) = absurd (ne same)
    by (inr other) = refl

module _ (f : FileId) (before states : States) (others : (g : FileId) → g ≢ f → states g ≡ before g) where
  -- an image from before that differs at this file alone
  abbrev pub earlier : Files → Files
  earlier image = mend f (some_content (before f)) image

  pub earlier_is : (image : Files) → IsImage states image → IsImage before (earlier image)
  earlier_is image is g = by (cases_file g f)
    where
      by : (d : (g ≡ f) ⊎ (g ≢ f)) → Leaves (before g) (either f (some_content (before f)) image g d)
      by (inl same) = subst (λ (h : FileId). Leaves (before h) (some_content (before f))) (sym same) (leaves_some (before f))
      by (inr other) = subst (λ (s : FileState). Leaves s (image g)) (others g other) (is g)

  module _ {A : Type 0} (r : Reading A) (unasked : Unasked r before f) (image : Files) (is : IsImage states image) where
    pub same_answer : (run image r ≡ run (earlier image) r) × (asked image r ≡ asked (earlier image) r)
    same_answer = agree r (earlier image) image (every_weaker (λ g. g ≢ f) (λ g. image g ≡ earlier image g) (λ g ne. sym (mend_other f (some_content (before f)) image g ne)) (asked (earlier image) r) (unasked (earlier image) (earlier_is image is)))

    pub same_gives : (P : Result A Damage → List FileId → Type 0) → P (run (earlier image) r) (asked (earlier image) r) → P (run image r) (asked image r)
    same_gives P p = subst (λ (x : Result A Damage). P x (asked image r)) (sym same_answer.0) (subst (λ (x : List FileId). P (run (earlier image) r) x) (sym same_answer.1) p)

  all_steady : (fs : List FileId) → AllByRecursion (λ g. g ≢ f) fs → AreStill before fs → AreStill states fs
  all_steady [] ne steady = tt
  all_steady (g ∷ fs) ne steady = ((steady.0.0, others g ne.0 ∙ steady.0.1), all_steady fs ne.1 steady.1)

  pub gives_frame : {A : Type 0} (r : Reading A) (P : Result A Damage → List FileId → Type 0) → Unasked r before f → Gives r P before → Gives r P states
  gives_frame r P unasked gives image is = same_gives r unasked image is P (gives (earlier image) (earlier_is image is))

  pub well_frame : {A : Type 0} (r : Reading A) (P : A → Type 0) → Unasked r before f → GoesWell r P before → GoesWell r P states
  well_frame r P unasked well image is =
      let old = well (earlier image) (earlier_is image is) in
      let same = same_answer r unasked image is in
      record {
        what = old.what;
        is = same.0 ∙ old.is;
        has = old.has;
        steady = subst (AreStill states) (sym same.1) (all_steady (asked (earlier image) r) (unasked (earlier image) (earlier_is image is)) old.steady);
      }

-- ---- device calls

pub touches_runs : (f : FileId) (v w : View) → Touches f v w → Runs f AnyState v w
touches_runs f v w (inl b) = runs_becomes f b.0 AnyState v w b.1 tt
touches_runs f v w (inr (inl s)) = runs_synced f AnyState v w s tt tt
touches_runs f v w (inr (inr (inl u))) = runs_unchanged f AnyState v w u tt
touches_runs f v w (inr (inr (inr q))) = record {
  later = omega (arith, q.clock);
  past = λ m le. ap (λ (a : ℕ → States). a m) q.at;
  this = λ m lt le. tt;
  others = λ m lt le. absurd (omega (arith, q.clock));
  reads_others = λ g ne. ap (λ (r : Files). r g) q.reads;
}

pub since_now : (P : States → Type 0) (v w : View) → Since P v w → P (now v) → P (now w)
since_now P v w s p = elim (cases_lt v.clock w.clock) [
  | inl lt ↦ s.each w.clock lt (omega arith)
  | inr ge ↦
      let same : v.clock ≡ w.clock = omega (arith, s.later) in
      subst (λ (m : ℕ). P (w.at m)) same (subst P (sym (s.past v.clock (omega arith))) p)
]

pub gives_kept : {A : Type 0} (r : Reading A) (P : Result A Damage → List FileId → Type 0) (f : FileId) (v w : View) → Touches f v w → Unasked r (now v) f → Gives r P (now v) → Since (Gives r P) v w
gives_kept r P f v w touches unasked gives = since_runs f AnyState (Gives r P) v w (touches_runs f v w touches) (λ s any others. gives_frame f (now v) s others r P unasked gives)

pub well_kept : {A : Type 0} (r : Reading A) (P : A → Type 0) (f : FileId) (v w : View) → Touches f v w → Unasked r (now v) f → GoesWell r P (now v) → Since (GoesWell r P) v w
well_kept r P f v w touches unasked well = since_runs f AnyState (GoesWell r P) v w (touches_runs f v w touches) (λ s any others. well_frame f (now v) s others r P unasked well)

-- what wasn't asked for before such a call isn't after it
pub unasked_kept : {A : Type 0} (r : Reading A) (f : FileId) (v w : View) → Touches f v w → Unasked r (now v) f → (gs : List FileId) → AllByRecursion (Unasked r (now v)) gs → AllByRecursion (Unasked r (now w)) gs
unasked_kept r f v w touches unasked gs = every_weaker (Unasked r (now v)) (Unasked r (now w)) (λ g h. since_now (λ s. Unasked r s g) v w (gives_kept r (λ answer files. AllByRecursion (λ x. x ≢ g) files) f v w touches unasked h) h) gs

pub calls_kept : {A : Type 0} (r : Reading A) (P : A → Type 0) (fs gs : List FileId) (v w : View) → Calls fs v w → AllByRecursion (Unasked r (now v)) fs → AllByRecursion (Unasked r (now v)) gs → GoesWell r P (now v)
    → Since (GoesWell r P) v w × AllByRecursion (Unasked r (now w)) gs
calls_kept r P [] gs v w calls unasked others well =
    let same : now w ≡ now v = ap (λ (m : ℕ). w.at m) calls.clock ∙ ap (λ (a : ℕ → States). a v.clock) calls.at in
    (since_quiet (GoesWell r P) v v w (since_none (GoesWell r P) v) calls, subst (λ (s : States). AllByRecursion (Unasked r s) gs) (sym same) others)
calls_kept r P (f ∷ fs) gs v w (u, first, rest) unasked others well =
    let step = well_kept r P f v u first unasked.0 well in
    let more = calls_kept r P fs gs u w rest (unasked_kept r f v u first unasked.0 fs unasked.1) (unasked_kept r f v u first unasked.0 gs others) (since_now (GoesWell r P) v u step well) in
    (since_join (GoesWell r P) v u w step more.0, more.1)

pub answers_kept : {A : Type 0} (r : Reading A) (f : FileId) (v w : View) → Touches f v w → Unasked r (now v) f → Since (AnswersAs r (now v)) v w
answers_kept r f v w touches unasked = gives_kept r (λ answer files. (old : Files) × IsImage (now v) old × (answer ≡ run old r) × (files ≡ asked old r)) f v w touches unasked (λ image is. (image, is, refl, refl))

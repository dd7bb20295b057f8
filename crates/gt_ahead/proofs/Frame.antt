-- What loads stays, where the files that hold it do.
use Rattle.std.proofs.Common.{◌≡◌, inl, inr, ℕ, List, [], ◌∷◌, ◌++◌, Ok, refl, sym, ◌∙◌, ap, subst}
use Rattle.std.specs.List.{AllByRecursion}
use Rattle.gt_disk.specs.declared.file_id.FileId.{FileId}
use Rattle.gt_disk.specs.Files.{Files, States, IsImage}
use Rattle.gt_disk.specs.Kinds.{gate_file, turn_file}
use Rattle.gt_log.specs.Log.{content_length}
use Rattle.gt_log.proofs.Images.{image_still}
use Rattle.gt_model.specs.declared.limits.Limits.{Limits}
use Rattle.gt_reading.specs.Reading.{Reading, run, asked}
use Rattle.gt_reading.specs.Frames.{AreStill, Well}
use Rattle.gt_reading.proofs.Programs.{agree}
use Rattle.gt_base.specs.Recovery.{Loaded, counted, recovery}
use Rattle.gt_ahead.specs.Files.{data_files_of, files_of}
use Rattle.gt_ahead.specs.Loads.{IsOneOf, LoadsAt, Loads}
use Rattle.gt_ahead.proofs.Asked.{asks_counted}

-- what holds of each of these holds of one of them
pub of_one : (P : Loaded → Type 0) (xs : List Loaded) (x : Loaded) → AllByRecursion P xs → IsOneOf xs x → P x
of_one P [] x all one = absurd one
of_one P (y ∷ ys) x all (inl same) = subst P (sym same) all.0
of_one P (y ∷ ys) x all (inr later) = of_one P ys x all.1 later

module _ (before states : States) (old image : Files) (was : IsImage before old) (is : IsImage states image) where
  abbrev pub Stands : FileId → Type 0
  Stands f = states f ≡ before f

  pub all_same : (fs : List FileId) → AllByRecursion Stands fs → AreStill before fs → AllByRecursion (λ f. image f ≡ old f) fs
  all_same [] same steady = tt
  all_same (f ∷ fs) same steady = (
    image_still states image f steady.0.0 is (same.0 ∙ steady.0.1) ∙ sym (image_still before old f steady.0.0 was steady.0.1),
    all_same fs same.1 steady.1,
  )

  pub all_still : (fs : List FileId) → AllByRecursion Stands fs → AreStill before fs → AreStill states fs
  all_still [] same steady = tt
  all_still (f ∷ fs) same steady = ((steady.0.0, same.0 ∙ steady.0.1), all_still fs same.1 steady.1)

  -- what a program answers by files that are still it answers over each image of states in which they are as they were
  pub well_over : {A : Type 0} (r : Reading A) (P : A → Type 0) (w : Well r P before old) → AllByRecursion Stands (asked old r) → Well r P states image
  well_over r P w same =
      let answer = agree r old image (all_same (asked old r) same w.steady) in
      record {
        what = w.what;
        is = answer.0 ∙ w.is;
        has = w.has;
        steady = subst (AreStill states) (sym answer.1) (all_still (asked old r) same w.steady);
      }

  -- so what loads stays, where its data files do
  pub loads_over : (limits : Limits) (epoch gate : ℕ) (xs : List Loaded) (w : LoadsAt limits epoch gate xs before old) → AllByRecursion Stands (data_files_of w.what) → LoadsAt limits epoch gate xs states image
  loads_over limits epoch gate xs w same = well_over (counted limits epoch gate) (IsOneOf xs) w (subst (AllByRecursion Stands) (sym (asks_counted old limits epoch gate w.what w.is)) same)

-- lengths that are the same
pub loads_at : (limits : Limits) (xs : List Loaded) (states : States) (image : Files) (epoch gate e g : ℕ) → epoch ≡ e → gate ≡ g → LoadsAt limits epoch gate xs states image → LoadsAt limits e g xs states image
loads_at limits xs states image epoch gate e g same_epoch same_gate w =
    subst (λ (k : ℕ). LoadsAt limits e k xs states image) same_gate (subst (λ (k : ℕ). LoadsAt limits k gate xs states image) same_epoch w)

-- ---- of more

pub one_of_first : (xs ys : List Loaded) (x : Loaded) → IsOneOf xs x → IsOneOf (xs ++ ys) x
one_of_first [] ys x one = absurd one
one_of_first (y ∷ xs) ys x (inl same) = inl same
one_of_first (y ∷ xs) ys x (inr later) = inr (one_of_first xs ys x later)

pub one_of_second : (xs ys : List Loaded) (x : Loaded) → IsOneOf ys x → IsOneOf (xs ++ ys) x
one_of_second [] ys x one = one
one_of_second (y ∷ xs) ys x one = inr (one_of_second xs ys x one)

pub loads_weaker : (limits : Limits) (xs ys : List Loaded) (states : States) (image : Files) (epoch gate : ℕ) → ((x : Loaded) → IsOneOf xs x → IsOneOf ys x) → LoadsAt limits epoch gate xs states image → LoadsAt limits epoch gate ys states image
loads_weaker limits xs ys states image epoch gate h w = record { what = w.what; is = w.is; has = h w.what w.has; steady = w.steady }

-- ---- one image for all

-- where one image loads by files that are still, each does
pub one_loads : (limits : Limits) (states : States) (a : Files) (x : Loaded) → IsImage states a → run a (recovery limits) ≡ Ok x → AreStill states (files_of x) → Loads limits (x ∷ []) states
one_loads limits states a x is_a loaded steady image is =
    let by = asks_counted a limits (content_length (a turn_file)) (content_length (a gate_file)) x loaded in
    let w : LoadsAt limits (content_length (a turn_file)) (content_length (a gate_file)) (x ∷ []) states a = record { what = x; is = loaded; has = inl refl; steady = subst (AreStill states) (sym by) steady.1.1 } in
    let same_turn : a turn_file ≡ image turn_file = image_still states a turn_file steady.1.0.0 is_a steady.1.0.1 ∙ sym (image_still states image turn_file steady.1.0.0 is steady.1.0.1) in
    let same_gate : a gate_file ≡ image gate_file = image_still states a gate_file steady.0.0 is_a steady.0.1 ∙ sym (image_still states image gate_file steady.0.0 is steady.0.1) in
    loads_at limits (x ∷ []) states image (content_length (a turn_file)) (content_length (a gate_file)) (content_length (image turn_file)) (content_length (image gate_file)) (ap content_length same_turn) (ap content_length same_gate)
    (loads_over states states a image is_a is limits (content_length (a turn_file)) (content_length (a gate_file)) (x ∷ []) w (each_stands (data_files_of x)))
  where
    each_stands : (fs : List FileId) → AllByRecursion (λ f. states f ≡ states f) fs
    each_stands [] = tt
    each_stands (f ∷ fs) = (refl, each_stands fs)

pub one_recovery : (limits : Limits) (states : States) (a image : Files) (x : Loaded) → IsImage states a → run a (recovery limits) ≡ Ok x → AreStill states (files_of x) → IsImage states image → run image (recovery limits) ≡ Ok x
one_recovery limits states a image x is_a loaded steady is =
    let w = one_loads limits states a x is_a loaded steady image is in
    w.is ∙ ap Ok (of_one (λ y. y ≡ x) (x ∷ []) w.what (refl, tt) w.has)

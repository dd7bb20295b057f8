-- What stays where a device call changes only files that aren't asked for.
use Rattle.std.specs.Prelude.{◌≡◌, ◌≢◌, ◌⊎◌, List, [], ◌∷◌, Result, Ok}
use Rattle.std.specs.List.{AllByRecursion}
use Rattle.gt_disk.specs.declared.file_id.FileId.{FileId}
use Rattle.gt_disk.specs.Files.{Content as FileContent, FileState, still, Files, States, IsImage, View, Becomes, Synced, Unchanged, Quiet}
use Rattle.gt_reading.specs.Reading.{Damage, Reading, run, asked}

-- Files agree on these.
abbrev pub Agree : Files → Files → List FileId → Type 0
Agree a b files = AllByRecursion (λ f. b f ≡ a f) files

-- Over whatever a stop leaves P holds of the answer and the files that were asked for.
abbrev pub Gives : {A : Type 0} → Reading A → (Result A Damage → List FileId → Type 0) → States → Type 0
Gives r P states = (image : Files) → IsImage states image → P (run image r) (asked image r)

-- Whatever a stop leaves now, it could have left something before of which the program answers the same and asks for the same.
abbrev pub AnswersAs : {A : Type 0} → Reading A → States → States → Type 0
AnswersAs r before states = Gives r (λ answer files. (old : Files) × IsImage before old × (answer ≡ run old r) × (files ≡ asked old r)) states

-- Whatever a stop leaves, the program doesn't ask for this file.
abbrev pub Unasked : {A : Type 0} → Reading A → States → FileId → Type 0
Unasked r states f = Gives r (λ answer files. AllByRecursion (λ g. g ≢ f) files) states

abbrev pub IsStill : FileState → Type 0
IsStill s = (x : FileContent) × (s ≡ still x)

-- Each of these files is still.
abbrev pub AreStill : States → List FileId → Type 0
AreStill states files = AllByRecursion (λ f. IsStill (states f)) files

-- The program answers what has P, by files that are still.
pub record Well {A : Type 0} (r : Reading A) (P : A → Type 0) (states : States) (image : Files) : Type 0 where
  pub what : A
  pub is : run image r ≡ Ok what
  pub has : P what
  pub steady : AreStill states (asked image r)

abbrev pub GoesWell : {A : Type 0} → Reading A → (A → Type 0) → States → Type 0
GoesWell r P states = (image : Files) → IsImage states image → Well r P states image

-- a device call that changes this file at most, whatever it answers
abbrev pub Touches : FileId → View → View → Type 0
Touches f v w = ((s : FileState) × Becomes f s v w) ⊎ Synced f v w ⊎ Unchanged v w ⊎ Quiet v w

-- such calls one after the other, of these files in order
abbrev pub Calls : List FileId → View → View → Type 0
Calls [] v w = Quiet v w
Calls (f ∷ fs) v w = (u : View) × Touches f v u × Calls fs u w

-- What a stage holds, and what each call makes of it.
use Rattle.std.specs.Prelude.{◌≡◌, ℕ, ◌+◌, nat_le, nat_lt, Bool, true, false, not, ◌&&◌, List, [], ◌∷◌, length, map, find, sum_by, Option, Some, None, Result, Ok, Err, if◌then◌else◌, All}
use Rattle.std.specs.List.{list_any, IsDistinct}
use Rattle.std.specs.Option.{option_map}
use Rattle.sha1.specs.Sha1.{sha1}
use Rattle.gt_model.specs.declared.added.Added.{Added}
use Rattle.gt_model.specs.declared.update.RefUpdate.{RefUpdate}
use Rattle.gt_model.specs.Contents.{and_then}
use Rattle.gt_model.specs.Verdicts.{Staged, same_name}
use Rattle.gt_stage.specs.declared.error.StageError.{StageError}
use Rattle.gt_stage.specs.declared.error.StageError.TheVariants.{StageFull, Memory}

-- what is staged, and the limits: of the bytes of its records together, and of its references
pub record Holding : Type 0 where
  pub staged : Staged
  pub max_bytes : ℕ
  pub max_refs : ℕ

abbrev pub empty_stage : ℕ → ℕ → Holding
empty_stage bytes refs = record { staged = record { refs = []; records = [] }; max_bytes = bytes; max_refs = refs }

-- ---- references

abbrev pub has_ref : List RefUpdate → List ℕ → Bool
has_ref refs name = list_any (λ u. same_name name u.name) refs

-- The new value of a reference that is staged: its place and its old value stay, and a check becomes an update. One that isn't staged goes last.
abbrev pub with_set : List RefUpdate → List ℕ → List ℕ → List ℕ → List RefUpdate
with_set [] name old new = record { name = name; old = old; new = Some new } ∷ []
with_set (u ∷ us) name old new = if same_name name u.name then record u { new = Some new } ∷ us else u ∷ with_set us name old new

-- A check changes nothing of a reference that is staged. Of one that isn't, it goes last.
abbrev pub with_check : List RefUpdate → List ℕ → List ℕ → List RefUpdate
with_check [] name old = record { name = name; old = old; new = None } ∷ []
with_check (u ∷ us) name old = if same_name name u.name then u ∷ us else u ∷ with_check us name old

abbrev pub staged_set : Holding → List ℕ → List ℕ → List ℕ → Holding
staged_set h name old new = record h { staged = record h.staged { refs = with_set h.staged.refs name old new } }

abbrev pub staged_check : Holding → List ℕ → List ℕ → Holding
staged_check h name old = record h { staged = record h.staged { refs = with_check h.staged.refs name old } }

-- a reference more than the limit
abbrev pub is_over_refs : Holding → List ℕ → Bool
is_over_refs h name = not (has_ref h.staged.refs name) && nat_le h.max_refs (length h.staged.refs)

-- the new value that is staged, zero for a deletion; none for a check
abbrev pub own_ref : List RefUpdate → List ℕ → Option (List ℕ)
own_ref refs name = and_then (find (λ u. same_name name u.name) refs) (λ u. u.new)

-- ---- records

abbrev pub has_record : List Added → List ℕ → Bool
has_record records name = list_any (λ a. same_name name a.name) records

-- A record goes last under its name. Where one of that name is staged, that one stays.
abbrev pub with_put : List Added → List ℕ → List Added
with_put [] whole = record { name = sha1 whole; whole = whole } ∷ []
with_put (a ∷ as') whole = if same_name (sha1 whole) a.name then a ∷ as' else a ∷ with_put as' whole

abbrev pub staged_put : Holding → List ℕ → Holding
staged_put h whole = record h { staged = record h.staged { records = with_put h.staged.records whole } }

-- the bytes of records together
abbrev pub size : List Added → ℕ
size records = sum_by (λ a. length a.whole) records

-- a new record that makes more bytes than the limit
abbrev pub is_over_bytes : Holding → List ℕ → Bool
is_over_bytes h whole = not (has_record h.staged.records (sha1 whole)) && nat_lt h.max_bytes (size h.staged.records + length whole)

-- the record that is staged under a name
abbrev pub own_record : List Added → List ℕ → Option (List ℕ)
own_record records name = option_map (λ a. a.whole) (find (λ a. same_name name a.name) records)

-- ---- both

-- An answer has its reason: `StageFull` comes exactly where it would be over the limit.
abbrev pub HasReason : {A : Type 0} → Bool → Result A StageError → Type 0
HasReason over (Ok answer) = over ≡ false
HasReason over (Err StageFull) = over ≡ true
HasReason over (Err Memory) = over ≡ false

-- no name stands twice
abbrev pub IsEachOnce : List (List ℕ) → Type 0
IsEachOnce names = IsDistinct same_name names

-- No reference and no record is staged twice, and each record has its name.
pub record IsClean (s : Staged) : Type 0 where
  pub refs : IsEachOnce (map (λ u. u.name) s.refs)
  pub records : IsEachOnce (map (λ a. a.name) s.records)
  pub named : All (λ a. sha1 a.whole ≡ a.name) s.records

-- What a refusal says of a text.
use Rattle.std.specs.Prelude.{◌≡◌, ℕ, Option, Some, None}
use Rattle.gt_name.specs.declared.error.NameError.{NameError}
use Rattle.gt_name.specs.declared.error.NameError.TheVariants.{BadRef, BadPath, Memory}

-- the rule and the place are those of the first broken rule; memory is wanted only for a text that breaks none
abbrev pub IsBadRef : Option (ℕ × ℕ) → NameError → Type 0
IsBadRef broken (BadRef rule at) = broken ≡ Some (rule, at)
IsBadRef broken (BadPath at) = ⊥
IsBadRef broken Memory = broken ≡ None

-- the place is that of the first broken rule; memory is wanted only for a text that breaks none
abbrev pub IsBadPath : Option ℕ → NameError → Type 0
IsBadPath broken (BadPath at) = broken ≡ Some at
IsBadPath broken (BadRef rule at) = ⊥
IsBadPath broken Memory = broken ≡ None

-- A name's text: 40 hex digits in lower case.
use Rattle.std.specs.Prelude.{ℕ, Bool, List, length, min, nat_le, ◌&&◌, ◌||◌, ◌==◌, not, take, if◌then◌else◌, Option, Some, None, position}
use Rattle.gt_name.specs.Broken.{or_else}

-- no hex digit in lower case
abbrev pub is_other : ℕ → Bool
is_other b = not ((nat_le 48 b && nat_le b 57) || (nat_le 97 b && nat_le b 102))

-- the first bad place of a text that is to be 40 digits: the first other byte among the first 40, else the shorter of its length and 40
abbrev pub bad_name : List ℕ → Option ℕ
bad_name t = or_else (position is_other (take (min (length t) 40) t)) (if length t == 40 then None else Some (min (length t) 40))

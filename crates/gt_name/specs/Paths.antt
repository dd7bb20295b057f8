-- The rules of a repository's path. Each is a sentence over the whole text: where it is broken, or none.
use Rattle.std.specs.Prelude.{◌≡◌, ℕ, Bool, List, length, not, nat_le, nat_lt, ◌&&◌, ◌||◌, ◌==◌, if◌then◌else◌, Option, Some, None, position, codes, nat_eq}
use Rattle.std.specs.List.{ends_with}
use Rattle.gt_name.specs.declared.component.ComponentFault.TheVariants.{Improper}
use Rattle.gt_name.specs.Broken.{or_else}
use Rattle.gt_name.specs.Components.{faulty_component}

-- It has 1 to 255 bytes.
abbrev pub path_length : List ℕ → Option ℕ
path_length t = if length t == 0 then Some 0 else (if nat_lt 255 (length t) then Some 255 else None)

-- a letter in lower case, a digit, or one of . _ - /
abbrev pub is_path_byte : ℕ → Bool
is_path_byte b = (nat_le 97 b && nat_le b 122) || (nat_le 45 b && nat_le b 57) || b == 95

-- Each byte is one of those.
abbrev pub path_byte : List ℕ → Option ℕ
path_byte t = position (λ b. not (is_path_byte b)) t

-- No component is empty, `.` or `..`.
abbrev pub path_component : List ℕ → Option ℕ
path_component t = faulty_component Improper t

-- It ends in `.git`.
abbrev pub path_end : List ℕ → Option ℕ
path_end t = if ends_with nat_eq t (codes ".git") then None else Some (length t)

-- where the first broken rule is broken
abbrev pub bad_path : List ℕ → Option ℕ
bad_path t = or_else (path_length t) (or_else (path_byte t) (or_else (path_component t) (path_end t)))

abbrev pub IsPath : List ℕ → Type 0
IsPath t = bad_path t ≡ None

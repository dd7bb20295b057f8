-- The rules of a reference's name. Each is a sentence over the whole text: where it is broken, or none.
use Rattle.std.specs.Prelude.{◌≡◌, ℕ, suc, Bool, List, [], ◌∷◌, length, ◌-◌, nat_lt, ◌||◌, ◌==◌, if◌then◌else◌, Option, Some, None, position, codes, nat_eq}
use Rattle.std.specs.List.{starts_with, ends_with, list_any}
use Rattle.std.specs.Option.{option_map}
use Rattle.gt_name.specs.declared.component.ComponentFault.TheVariants.{Empty, BeginsWithDot, EndsWithLock}
use Rattle.gt_name.specs.Broken.{first_of}
use Rattle.gt_name.specs.Components.{faulty_component}

-- 1. It has at most 1,024 bytes.
abbrev pub ref_length : List ℕ → Option ℕ
ref_length t = if nat_lt 1024 (length t) then Some 1024 else None

-- 2. It begins with `refs/`.
abbrev pub ref_begin : List ℕ → Option ℕ
ref_begin t = if starts_with nat_eq t (codes "refs/") then None else Some 0

-- a control byte, DEL, or one of space ~ ^ : ? * [ \
abbrev pub is_forbidden : ℕ → Bool
is_forbidden b = nat_lt b 32 || b == 127 || list_any (λ c. b == c) (codes " ~^:?*[\\")

-- 3. No byte is one of those.
abbrev pub ref_byte : List ℕ → Option ℕ
ref_byte t = position is_forbidden t

-- 4. No component is empty.
abbrev pub ref_empty : List ℕ → Option ℕ
ref_empty t = faulty_component Empty t

-- 5. No component begins with a dot.
abbrev pub ref_dot : List ℕ → Option ℕ
ref_dot t = faulty_component BeginsWithDot t

-- the first place from which on the text begins with this one
abbrev pub first_text : List ℕ → List ℕ → Option ℕ
first_text part [] = if starts_with nat_eq [] part then Some 0 else None
first_text part (b ∷ rest) = if starts_with nat_eq (b ∷ rest) part then Some 0 else option_map suc (first_text part rest)

-- 6. It has no two dots side by side.
abbrev pub ref_dots : List ℕ → Option ℕ
ref_dots t = first_text (codes "..") t

-- 7. It has no `@{`.
abbrev pub ref_brace : List ℕ → Option ℕ
ref_brace t = first_text (codes "@{") t

-- 8. No component ends with `.lock`.
abbrev pub ref_lock : List ℕ → Option ℕ
ref_lock t = faulty_component EndsWithLock t

-- 9. It does not end with a dot.
abbrev pub ref_end : List ℕ → Option ℕ
ref_end t = if ends_with nat_eq t (codes ".") then Some (length t - 1) else None

-- the rule of this number, with the place where it is broken
abbrev pub by_rule : ℕ → Option ℕ → Option (ℕ × ℕ)
by_rule rule broken = option_map (λ at. (rule, at)) broken

-- the first broken rule, and where it is broken
unfoldable pub bad_ref : List ℕ → Option (ℕ × ℕ)
bad_ref t =
    first_of (
    by_rule 1 (ref_length t)
    ∷ by_rule 2 (ref_begin t)
    ∷ by_rule 3 (ref_byte t)
    ∷ by_rule 4 (ref_empty t)
    ∷ by_rule 5 (ref_dot t)
    ∷ by_rule 6 (ref_dots t)
    ∷ by_rule 7 (ref_brace t)
    ∷ by_rule 8 (ref_lock t)
    ∷ by_rule 9 (ref_end t)
    ∷ []
    )

abbrev pub IsRefName : List ℕ → Type 0
IsRefName t = bad_ref t ≡ None

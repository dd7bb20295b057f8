-- The components of a text: what stands between its slashes. One begins at the text's begin and one after each slash.
use Rattle.std.specs.Prelude.{ℕ, suc, Bool, true, List, [], ◌∷◌, length, ◌||◌, ◌&&◌, ◌==◌, if◌then◌else◌, Option, Some, None, codes, nat_eq}
use Rattle.std.specs.Option.{option_map}
use Rattle.std.specs.List.{before_first, starts_with, ends_with}
use Rattle.std.specs.Cmp.Lexicographic.{pointwise}
use Rattle.gt_name.specs.declared.component.ComponentFault.{ComponentFault}
use Rattle.gt_name.specs.declared.component.ComponentFault.TheVariants.{Improper, Empty, BeginsWithDot, EndsWithLock}

abbrev pub is_slash : ℕ → Bool
is_slash b = b == 47

-- the component that begins here
abbrev pub component : List ℕ → List ℕ
component rest = before_first is_slash rest

abbrev pub is_text : List ℕ → List ℕ → Bool
is_text t c = pointwise nat_eq c t

-- what may be wrong with a component
abbrev pub has_fault : ComponentFault → List ℕ → Bool
has_fault Improper c = length c == 0 || is_text (codes ".") c || is_text (codes "..") c
has_fault Empty c = length c == 0
has_fault BeginsWithDot c = starts_with nat_eq c (codes ".")
has_fault EndsWithLock c = ends_with nat_eq c (codes ".lock")

-- the place where the first component with a fault begins, from a place on where one begins or not
abbrev pub faulty_from : ComponentFault → Bool → List ℕ → Option ℕ
faulty_from fault begins [] = if begins && has_fault fault [] then Some 0 else None
faulty_from fault begins (b ∷ rest) = if begins && has_fault fault (component (b ∷ rest)) then Some 0 else option_map suc (faulty_from fault (is_slash b) rest)

-- the place where the first component with this fault begins
abbrev pub faulty_component : ComponentFault → List ℕ → Option ℕ
faulty_component fault t = faulty_from fault true t

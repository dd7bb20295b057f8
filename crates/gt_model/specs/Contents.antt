-- What a partition holds, and what the entries of a log make of it.
use Rattle.std.specs.Prelude.{◌≡◌, ℕ, ◌+◌, ◌-◌, Bool, false, not, ◌&&◌, is_some, is_none, nat_eq, IsTrue, List, [], ◌∷◌, ◌++◌, fold, find, take, replicate, Option, Some, None, if◌then◌else◌}
use Rattle.std.specs.List.{list_all}
use Rattle.std.specs.Option.{option_map, option_or, unwrap_or}
use Rattle.std.specs.Ordering.{nat_cmp}
use Rattle.std.specs.Cmp.Lexicographic.{slice_cmp, pointwise}
use Rattle.std.specs.declared.cmp.Ordering.{Ordering}
use Rattle.std.specs.FinMap as map
use Rattle.std.specs.FinMap.{FinMap}
use Rattle.gt_model.specs.declared.added.Added.{Added}
use Rattle.gt_model.specs.declared.change.Change.{Change}
use Rattle.gt_model.specs.declared.change.Change.TheVariants.{Create, Delete, Link, Write, Repack, Prune, PackRefs, Unlink}
use Rattle.gt_model.specs.declared.entry.Entry.{Entry}
use Rattle.gt_model.specs.declared.update.RefUpdate.{RefUpdate}

-- ---- names

-- names, references and paths go by the order of their bytes
abbrev pub key_cmp : List ℕ → List ℕ → Ordering
key_cmp = slice_cmp nat_cmp

-- the name of no object
abbrev pub zero : List ℕ
zero = replicate 20 0

abbrev pub is_zero : List ℕ → Bool
is_zero name = pointwise nat_eq name zero

-- ---- contents

-- a repository: what each reference names, the record of each own object, the path of its pool, and whether it is a pool
pub record Repo : Type 0 where
  pub refs : FinMap key_cmp (List ℕ)
  pub own : FinMap key_cmp (List ℕ)
  pub pool : Option (List ℕ)
  pub is_pool : Bool

-- repositories by their paths
abbrev pub Content : Type 0
Content = FinMap key_cmp Repo

abbrev pub nothing : Content
nothing = map.empty

abbrev pub new_repo : Bool → Repo
new_repo pool = record { refs = map.empty; own = map.empty; pool = None; is_pool = pool }

abbrev pub and_then : {A B : Type 0} → Option A → (A → Option B) → Option B
and_then None f = None
and_then (Some a) f = f a

abbrev pub has_repo : Content → List ℕ → Bool
has_repo c path = is_some (map.get c path)

-- what a reference names
abbrev pub value : Content → List ℕ → List ℕ → Option (List ℕ)
value c path name = and_then (map.get c path) (λ r. map.get r.refs name)

-- the record of an own object
abbrev pub own : Content → List ℕ → List ℕ → Option (List ℕ)
own c path name = and_then (map.get c path) (λ r. map.get r.own name)

abbrev pub pool_of : Content → List ℕ → Option (List ℕ)
pool_of c path = and_then (map.get c path) (λ r. r.pool)

-- the record that is seen under a name: the own one, else the pool's
abbrev pub found : Content → List ℕ → List ℕ → Option (List ℕ)
found c path name = option_or (own c path name) (and_then (pool_of c path) (λ pool. own c pool name))

abbrev pub is_visible : Content → List ℕ → List ℕ → Bool
is_visible c path name = is_some (found c path name)

abbrev pub is_pool_in : Option Repo → Bool
is_pool_in None = false
is_pool_in (Some r) = r.is_pool

abbrev pub is_pool : Content → List ℕ → Bool
is_pool c path = is_pool_in (map.get c path)

abbrev pub is_this : Option (List ℕ) → List ℕ → Bool
is_this None path = false
is_this (Some p) path = pointwise nat_eq p path

-- the least repository that has this pool
abbrev pub least_member : Content → List ℕ → Option (List ℕ)
least_member c pool = option_map (λ e. e.0) (find (λ e. is_this e.1.pool pool) (map.entries c))

-- ---- the content after a change

abbrev pub Names : Type 0
Names = FinMap key_cmp (List ℕ)

-- A reference gets its new value, or goes where that is zero. A check leaves it.
abbrev pub with_value : Names → List ℕ → Option (List ℕ) → Names
with_value refs name None = refs
with_value refs name (Some new) = if is_zero new then map.remove refs name else map.insert refs name new

abbrev pub with_refs : Names → List RefUpdate → Names
with_refs refs updates = fold (λ r u. with_value r u.name u.new) refs updates

abbrev pub with_added : Names → List Added → Names
with_added own added = fold (λ o a. map.insert o a.name a.whole) own added

abbrev pub without : Names → List (List ℕ) → Names
without own dropped = fold (λ o n. map.remove o n) own dropped

abbrev pub own_of : Option Repo → Names
own_of None = map.empty
own_of (Some r) = r.own

abbrev pub pool_own : Content → Option (List ℕ) → Names
pool_own c None = map.empty
pool_own c (Some pool) = own_of (map.get c pool)

-- the first one's entries, and the second's where the first has none
abbrev pub union : Names → Names → Names
union a b = map.from_entries (map.entries a ++ map.entries b)

-- it owns what it saw, and has no pool
abbrev pub unlinked : Content → Repo → Repo
unlinked c r = record r { own = union r.own (pool_own c r.pool); pool = None }

abbrev pub change_repo : Option Repo → Content → List ℕ → (Repo → Repo) → Content
change_repo None c path f = c
change_repo (Some r) c path f = map.insert c path (f r)

-- the repository at a path is changed, if there is one
abbrev pub at_repo : Content → List ℕ → (Repo → Repo) → Content
at_repo c path f = change_repo (map.get c path) c path f

-- the content after a change of the repository at a path
unfoldable pub changed : Content → List ℕ → Change → Content
changed c path (Create pool) = map.insert c path (new_repo pool)
changed c path Delete = map.remove c path
changed c path (Link pool) = at_repo c path (λ r. record r { pool = Some pool })
changed c path (Write refs needed added) = at_repo c path (λ r. record r { refs = with_refs r.refs refs; own = with_added r.own added })
changed c path (Repack file dropped) = at_repo c path (λ r. record r { own = without r.own dropped })
changed c path (Prune file dropped) = at_repo c path (λ r. record r { own = without r.own dropped })
changed c path (PackRefs file) = c
changed c path (Unlink file) = at_repo c path (unlinked c)

abbrev pub after : Content → Entry → Content
after c e = changed c e.path e.change

-- the content after a log
abbrev pub after_all : Content → List Entry → Content
after_all c [] = c
after_all c (e ∷ es) = after_all (after c e) es

-- the content at a position of a log that begins after this position, over this content
abbrev pub at : ℕ → Content → List Entry → ℕ → Content
at begin base log position = after_all base (take (position - begin) log)

-- ---- which changes fit

-- the value at a reference, zero where there is none
abbrev pub value_or_zero : Content → List ℕ → List ℕ → List ℕ
value_or_zero c path name = unwrap_or (value c path name) zero

-- An update or a check finds its old value.
abbrev pub finds_old : Content → List ℕ → RefUpdate → Bool
finds_old c path u = pointwise nat_eq u.old (value_or_zero c path u.name)

-- A created path isn't there yet, and any other is. A deleted pool has no member. A link is to a pool, of a repository that is none and has none. Each old value is found, an added name isn't visible, a dropped one is the repository's own. What is unlinked has a pool.
abbrev pub change_fits : Content → List ℕ → Change → Bool
change_fits c path (Create pool) = not (has_repo c path)
change_fits c path Delete = has_repo c path && is_none (least_member c path)
change_fits c path (Link pool) = has_repo c path && is_pool c pool && not (is_pool c path) && is_none (pool_of c path)
change_fits c path (Write refs needed added) = has_repo c path && list_all (finds_old c path) refs && list_all (λ a. not (is_visible c path a.name)) added
change_fits c path (Repack file dropped) = has_repo c path && list_all (λ n. is_some (own c path n)) dropped
change_fits c path (Prune file dropped) = has_repo c path && list_all (λ n. is_some (own c path n)) dropped
change_fits c path (PackRefs file) = has_repo c path
change_fits c path (Unlink file) = has_repo c path && is_some (pool_of c path)

abbrev pub fits : Content → Entry → Bool
fits c e = change_fits c e.path e.change

-- The entries stand at the positions from this one on, and each fits the content just before it.
abbrev pub IsLegal : Content → ℕ → List Entry → Type 0
IsLegal c position [] = Unit {0}
IsLegal c position (e ∷ es) = (e.position ≡ position) × IsTrue (fits c e) × IsLegal (after c e) (position + 1) es

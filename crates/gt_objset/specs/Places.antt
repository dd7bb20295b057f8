-- Where the records of a content stand: for each own object its file, the place in it, and the length.
use Rattle.std.specs.Prelude.{ℕ, ◌+◌, ◌*◌, Bool, is_none, if◌then◌else◌, List, [], ◌∷◌, length, take, ◌-◌, sum_by, map as map_list, Option, Some, None}
use Rattle.std.specs.List.{list_any}
use Rattle.std.specs.Option.{option_map, option_or, unwrap_or}
use Rattle.std.specs.Ordering.{eq_by_cmp}
use Rattle.std.specs.FinMap as map
use Rattle.gt_model.specs.declared.added.Added.{Added}
use Rattle.gt_model.specs.declared.change.Change.{Change}
use Rattle.gt_model.specs.declared.change.Change.TheVariants.{Create, Delete, Link, Write, Repack, Prune, PackRefs, Unlink}
use Rattle.gt_model.specs.declared.entry.Entry.{Entry}
use Rattle.gt_model.specs.declared.update.RefUpdate.{RefUpdate}
use Rattle.gt_model.specs.Contents.{key_cmp, Content, and_then, after}
use Rattle.gt_objset.specs.declared.place.Place.{Place}

-- ---- the records in the file of an entry

-- The bytes of an update or a check: its name behind two bytes of length, the old value, one byte that tells a check where the entry has any, and, but for a check, the new value.
abbrev pub ref_bytes : Bool → RefUpdate → ℕ
ref_bytes checks u = 2 + length u.name + 20 + (if checks then 1 else 0) + (if is_none u.new then 0 else 20)

-- Where the first added record's item begins: behind the word of four bytes, the position (8), the path behind its length (2), the kind (1), the references, the needed names and the count of records; each list begins with its count (4).
abbrev pub added_begin : List ℕ → List RefUpdate → List (List ℕ) → ℕ
added_begin path refs needed = 27 + length path + sum_by (ref_bytes (list_any (λ u. is_none u.new) refs)) refs + 20 * length needed

-- What is said of own objects is a list of names, each with its place from now on, or none where it goes.

-- the added records of the entry with this number, whose first item begins here; a record stands behind its name (20) and its length (4)
abbrev pub placed : ℕ → ℕ → List Added → List (List ℕ × Option Place)
placed number begin [] = []
placed number begin (a ∷ as') =
    (a.name, Some (record { file = record { kind = 4; number = number }; at = begin + 24; len = length a.whole })) ∷ placed number (begin + 24 + length a.whole) as'

abbrev pub gone : List (List ℕ) → List (List ℕ × Option Place)
gone names = map_list (λ n. (n, None)) names

-- the last that is said of a name, or else what was found before
abbrev pub last_put : List (List ℕ × Option Place) → List ℕ → Option (Option Place) → Option (Option Place)
last_put [] x found = found
last_put (e ∷ es) x found = last_put es x (if eq_by_cmp key_cmp x e.0 then Some e.1 else found)

-- ---- a content, with places for its records

-- what a repository is, but for its references and objects
pub record Head : Type 0 where
  pub is_pool : Bool
  pub pool : Option (List ℕ)

abbrev pub head_in : Content → List ℕ → Option Head
head_in c path = option_map (λ r. record { is_pool = r.is_pool; pool = r.pool }) (map.get c path)

abbrev pub pool_in : Option Head → Option (List ℕ)
pool_in head = and_then head (λ h. h.pool)

-- the place of the record that is seen under a name: the own one, else the pool's
abbrev pub seen : Option Head → (List ℕ → List ℕ → Option Place) → List ℕ → List ℕ → Option Place
seen head own path x = option_or (own path x) (and_then (pool_in head) (λ pool. own pool x))

abbrev pub head_here : Change → Option Head → Option Head
head_here (Create pool) head = Some (record { is_pool = pool; pool = None })
head_here Delete head = None
head_here (Link pool) head = option_map (λ h. record { is_pool = h.is_pool; pool = Some pool }) head
head_here (Write refs needed added) head = head
head_here (Repack file dropped) head = head
head_here (Prune file dropped) head = head
head_here (PackRefs file) head = head
head_here (Unlink file) head = option_map (λ h. record { is_pool = h.is_pool; pool = None }) head

-- an own object through a change of its repository, which is there
abbrev pub own_here : Change → ℕ → List ℕ → Option Head → (List ℕ → List ℕ → Option Place) → List ℕ → Option Place
own_here (Create pool) n path head own x = None
own_here Delete n path head own x = None
own_here (Link pool) n path head own x = own path x
own_here (Write refs needed added) n path head own x = unwrap_or (last_put (placed n (added_begin path refs needed) added) x None) (own path x)
own_here (Repack file dropped) n path head own x = unwrap_or (last_put (gone dropped) x None) (own path x)
own_here (Prune file dropped) n path head own x = unwrap_or (last_put (gone dropped) x None) (own path x)
own_here (PackRefs file) n path head own x = own path x
own_here (Unlink file) n path head own x = seen head own path x

-- where no repository is, nothing is own
abbrev pub own_if : Option Head → Option Place → Option Place
own_if None place = None
own_if (Some h) place = place

-- heads and places after an entry
abbrev pub head_after : Entry → List ℕ → Option Head → Option Head
head_after e path head = if eq_by_cmp key_cmp path e.path then head_here e.change head else head

abbrev pub own_after : Entry → Option Head → (List ℕ → List ℕ → Option Place) → List ℕ → List ℕ → Option Place
own_after e head own path x = if eq_by_cmp key_cmp path e.path then own_if head (own_here e.change e.position e.path head own x) else own path x

-- the places after a log over a content with these
abbrev pub places_after : Content → (List ℕ → List ℕ → Option Place) → List Entry → List ℕ → List ℕ → Option Place
places_after c own [] = own
places_after c own (e ∷ es) = places_after (after c e) (own_after e (head_in c e.path) own) es

-- the places at a position of a log that begins after this one
abbrev pub places_at : ℕ → Content → (List ℕ → List ℕ → Option Place) → List Entry → ℕ → List ℕ → List ℕ → Option Place
places_at begin base own log position = places_after base own (take (position - begin) log)

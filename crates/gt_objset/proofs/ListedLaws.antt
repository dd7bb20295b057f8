-- The lists of a table are those of the content.
use Rattle.std.proofs.Common.{◌≡◌, ℕ, ◌≤◌, arith, Bool, true, false, cond, is_some, length, List, [], ◌∷◌, Option, Some, None, Result, Ok, Err, IfOk, refl, sym, ap, ◌∙◌, filter, find as list_find, map as list_map}
use Rattle.std.specs.List.Sorted.{IsStrictlySortedBy}
use Rattle.std.specs.FinMap as map
use Rattle.std.specs.FinMap.{FinMap, from_entries, get-empty, len-empty, len-entries}
use Rattle.gt_model.specs.declared.entry.Entry.{Entry}
use Rattle.gt_model.specs.Contents.{key_cmp, Content, Repo, and_then, own_of, pool_of, is_this, least_member, at}
use Rattle.gt_versions.specs.Versions.{last_at}
use Rattle.gt_versions.proofs.Keys.{at_key, get_key, entries_of}
use Rattle.gt_objset.specs.declared.place.Place.{Place}
use Rattle.gt_objset.specs.declared.head.HeadChange.{HeadChange}
use Rattle.gt_objset.specs.Places.{pool_in}
use Rattle.gt_objset.specs.Track.{Track, items_of, life_at, own_in_track, own_of as own_since}
use Rattle.gt_objset.specs.Table.{head_in_slot, own_in_slot}
use Rattle.gt_objset.specs.Agree.{Agrees}
use Rattle.gt_objset.specs.Lists.{own_names, members, all_paths}
use Rattle.gt_objset.proofs.TableLaws.{PoolSets, table}
use Rattle.gt_objset.proofs.TakenLaws.{none_since}
use Rattle.gt_objset.proofs.AgreeLaws.{shows_repo, shows_pool, shows_own}
use Rattle.gt_objset.proofs.ListLaws.{listed, listed_both, first, find-first, keys_of_values, first_of_values}

passed : {A : Type 0} (b : Bool) (a : A) → is_some (cond b (Some a) None) ≡ b
passed true a = refl
passed false a = refl

there_passed : (s : Option Track) (p : ℕ) → is_some (cond (is_some (head_in_slot s p)) s None) ≡ is_some (head_in_slot s p)
there_passed None p = refl
there_passed (Some t) p = passed (is_some (head_in_slot (Some t) p)) t

member_passed : (s : Option Track) (p : ℕ) (pool : List ℕ) → is_some (cond (is_this (pool_in (head_in_slot s p)) pool) s None) ≡ is_this (pool_in (head_in_slot s p)) pool
member_passed None p pool = refl
member_passed (Some t) p pool = passed (is_this (pool_in (head_in_slot (Some t) p)) pool) t

repo_passed : (o : Option Repo) (pool : List ℕ) → is_some (cond (is_this (and_then o (λ r. r.pool)) pool) o None) ≡ is_this (and_then o (λ r. r.pool)) pool
repo_passed None pool = refl
repo_passed (Some r) pool = passed (is_this r.pool pool) r

abbrev none_slot : Option (List (ℕ × Option Place) × ℕ)
none_slot = None

own_passed : (life : Option ℕ) (s : Option (List (ℕ × Option Place) × ℕ)) (p : ℕ) → is_some (cond (is_some (own_since life (last_at (items_of s) p None))) s None) ≡ is_some (own_since life (last_at (items_of s) p None))
own_passed life None p = ap (λ o. is_some (cond (is_some o) none_slot None)) (none_since life) ∙ sym (ap is_some (none_since life))
own_passed life (Some s) p = passed (is_some (own_since life (last_at s.0 p None))) s

own_there : (o : Option Repo) (x : List ℕ) → is_some (and_then o (λ r. map.get r.own x)) ≡ is_some (map.get (own_of o) x)
own_there None x = ap is_some (sym (get-empty key_cmp x))
own_there (Some r) x = refl

no_items : {A : Type 0} (xs : List A) → length xs ≡ 0 → xs ≡ []
no_items [] e = refl
no_items (x ∷ xs) e = let no : ⊥ = omega arith in absurd no

none_names : [] ≡ map.keys (own_of None)
none_names = sym (ap (list_map (λ (e : List ℕ × List ℕ). e.0)) (no_items (map.entries (own_of None)) (sym (len-entries (own_of None)) ∙ len-empty key_cmp (List ℕ))))

absent : (o : Option Repo) → is_some o ≡ false → o ≡ None
absent None e = refl
absent (Some r) e = let no : ⊥ = cc in absurd no

module _ (floor front : ℕ) (es : List (List ℕ × Track)) (sets : PoolSets) (head : HeadChange) (puts : List (List ℕ × Option Place)) (p : ℕ) (low : floor ≤ p) (high : p ≤ front)
    (base : Content) (log : List Entry) (h : Agrees (table floor front es sets head puts) base log) where
  abbrev now : Content
  now = at floor base log p

  abbrev repos : FinMap key_cmp Track
  repos = from_entries es

  tree_keys : IsStrictlySortedBy key_cmp (list_map (λ e. e.0) es) → list_map (λ e. e.0) es ≡ map.keys repos
  tree_keys s = sym (ap (list_map (λ (e : List ℕ × Track). e.0)) (entries_of es s))

  pub paths_listed : IsStrictlySortedBy key_cmp (list_map (λ e. e.0) es) → filter (λ q. is_some (head_in_slot (at_key es q) p)) (list_map (λ e. e.0) es) ≡ all_paths now
  paths_listed s =
      let tests : (λ q. is_some (head_in_slot (at_key es q) p)) ≡ (λ q. is_some (head_in_slot (map.get repos q) p)) = λ i q. ap (λ w. is_some (head_in_slot w p)) (sym (get_key es q)) i in
      ap (filter (λ q. is_some (head_in_slot (at_key es q) p))) (tree_keys s)
      ∙ ap (λ test. filter test (map.keys repos)) tests
      ∙ listed repos (λ q. is_some (head_in_slot (map.get repos q) p)) now (λ q. there_passed (map.get repos q) p ∙ shows_repo (table floor front es sets head puts) base log p h low high q)

  members_both : (pool : List ℕ) → IsStrictlySortedBy key_cmp (list_map (λ e. e.0) es) → filter (λ q. is_this (pool_in (head_in_slot (at_key es q) p)) pool) (list_map (λ e. e.0) es) ≡ filter (λ q. is_this (pool_of now q) pool) (map.keys now)
  members_both pool s =
      let tests : (λ q. is_this (pool_in (head_in_slot (at_key es q) p)) pool) ≡ (λ q. is_this (pool_in (head_in_slot (map.get repos q) p)) pool) = λ i q. ap (λ w. is_this (pool_in (head_in_slot w p)) pool) (sym (get_key es q)) i in
      ap (filter (λ q. is_this (pool_in (head_in_slot (at_key es q) p)) pool)) (tree_keys s)
      ∙ ap (λ test. filter test (map.keys repos)) tests
      ∙ listed_both repos (λ q. is_this (pool_in (head_in_slot (map.get repos q) p)) pool) now (λ q. is_this (pool_of now q) pool)
      (λ q. member_passed (map.get repos q) p pool ∙ ap (λ o. is_this o pool) (shows_pool (table floor front es sets head puts) base log p h low high q) ∙ sym (repo_passed (map.get now q) pool))

  pub members_listed : (pool : List ℕ) → IsStrictlySortedBy key_cmp (list_map (λ e. e.0) es) → filter (λ q. is_this (pool_in (head_in_slot (at_key es q) p)) pool) (list_map (λ e. e.0) es) ≡ members now pool
  members_listed pool s = members_both pool s ∙ sym (keys_of_values (λ (o : Option Repo). is_this (and_then o (λ r. r.pool)) pool) now)

  pub least_listed : (pool : List ℕ) → IsStrictlySortedBy key_cmp (list_map (λ e. e.0) es) → list_find (λ q. is_this (pool_in (head_in_slot (at_key es q) p)) pool) (list_map (λ e. e.0) es) ≡ least_member now pool
  least_listed pool s =
      find-first (λ q. is_this (pool_in (head_in_slot (at_key es q) p)) pool) (list_map (λ e. e.0) es)
      ∙ ap first (members_both pool s)
      ∙ sym (find-first (λ q. is_this (pool_of now q) pool) (map.keys now))
      ∙ sym (first_of_values (λ (o : Option Repo). is_this (and_then o (λ r. r.pool)) pool) now)

  own_shown : (path x : List ℕ) (slot : Option Track) → slot ≡ at_key es path → is_some (own_in_slot slot p x) ≡ is_some (map.get (own_of (map.get now path)) x)
  own_shown path x slot e =
      ap (λ s. is_some (own_in_slot s p x)) (e ∙ sym (get_key es path))
      ∙ shows_own (table floor front es sets head puts) base log p h low high path x
      ∙ own_there (map.get now path) x

  pub own_listed : (path : List ℕ) (t : Track) → Some t ≡ at_key es path → filter (λ x. is_some (own_in_track t p x)) (map.keys t.objects) ≡ own_names now path
  own_listed path t e = listed t.objects (λ x. is_some (own_in_track t p x)) (own_of (map.get now path)) (λ x. own_passed (life_at t p) (map.get t.objects x) p ∙ own_shown path x (Some t) e)

  pub none_listed : (path : List ℕ) → None ≡ at_key es path → [] ≡ own_names now path
  none_listed path e =
      let gone : map.get now path ≡ None = absent (map.get now path) (sym (shows_repo (table floor front es sets head puts) base log p h low high path) ∙ ap (λ s. is_some (head_in_slot s p)) (get_key es path ∙ sym e)) in
      none_names ∙ sym (ap (λ o. map.keys (own_of o)) gone)

pub ok_listed : {A E : Type 0} (res : Result (List A) E) (xs : List A) (D : Content → List Entry → Type 0) (ys : Content → List Entry → List A)
    → ((base : Content) (log : List Entry) → D base log → xs ≡ ys base log)
    → IfOk res (λ zs. zs ≡ xs) → IfOk res (λ zs. (base : Content) (log : List Entry) → D base log → zs ≡ ys base log)
ok_listed (Ok zs) xs D ys e h = λ base log d. h ∙ e base log d
ok_listed (Err r) xs D ys e h = tt

-- What a base has, put piece by piece into both tables.
use Rattle.std.proofs.Common.{◌≡◌, ℕ, ◌+◌, ◌-◌, ◌<◌, ◌≤◌, Bool, true, false, cond, ◌&&◌, drop, length, get_or, List, [], ◌∷◌, fold, Option, Some, None, Result, Ok, Err, OnOk, IsSome, refl, sym, ap, ◌∙◌, subst, arith}
use Rattle.std.proofs.lemmas.List.{drop_more}
use Rattle.std.specs.Cmp.{eq_by_cmp_equiv}
use Rattle.std.specs.Cmp.Lexicographic.{nat_list_cmp_total}
use Rattle.std.specs.FinMap as map
use Rattle.std.specs.FinMap.{from_entries, get-insert, get-empty, same_map}
use Rattle.std.specs.Option.{option_map, option_or}
use Rattle.std.specs.Ordering.{eq_by_cmp}
use Rattle.gt_base.specs.declared.held.BaseRepo.{BaseRepo}
use Rattle.gt_base.specs.Held.{items_of, to_place, place_in, place_of, with_loose}
use Rattle.gt_base.specs.Packs.{PackFile}
use Rattle.gt_model.specs.Contents.{key_cmp, Names}
use Rattle.gt_model.specs.declared.reference.RefValue.{RefValue}
use Rattle.gt_objset.specs.Places.{Head}
use Rattle.gt_objset.specs.Seeds.{SeedsRepo, SeedsObject}
use Rattle.gt_objset.specs.Table as objects
use Rattle.gt_objset.specs.Table.{head_at, own_at}
use Rattle.gt_objset.specs.declared.place.Place.{Place}
use Rattle.gt_pack.specs.Index.{find_in}
use Rattle.gt_pack.specs.declared.placed.Placed.{Placed}
use Rattle.gt_reftable.specs.Table as refs
use Rattle.gt_reftable.specs.Table.{refs_at, Seeds}
use Rattle.gt_versions.proofs.Keys.{at_key, get_key, key_cmp-IsAntisymmetric}
use Rattle.gt_table.specs.Seeds.{PutsPlaces, PutsRepo, PutsRefs, head_of}
use Rattle.gt_base.proofs.Finding.{same_test, one_path}

pub itself : (path : List ℕ) → eq_by_cmp key_cmp path path ≡ true
itself path = (eq_by_cmp_equiv nat_list_cmp_total).refl path

-- ---- places

pub none_put : (path : List ℕ) (f : List ℕ → Option Place) (t : objects.Table) → ((x : List ℕ) → f x ≡ None) → PutsPlaces path f t t
none_put path f t none = record {
  floor = refl;
  front = refl;
  heads = λ q. refl;
  own = λ q x. by (eq_by_cmp key_cmp q path) (own_at t t.floor q x) ∙ sym (ap (λ p. cond (eq_by_cmp key_cmp q path) (option_or p (own_at t t.floor q x)) (own_at t t.floor q x)) (none x));
}
  where
    by : (b : Bool) (o : Option Place) → o ≡ cond b (option_or None o) o
    by true o = refl
    by false o = refl

-- what is put later hides what was put before
pub more_put : (path : List ℕ) (f g h : List ℕ → Option Place) (a b c : objects.Table) → ((x : List ℕ) → h x ≡ option_or (g x) (f x)) → PutsPlaces path f a b → PutsPlaces path g b c → PutsPlaces path h a c
more_put path f g h a b c is one two = record {
  floor = two.floor ∙ one.floor;
  front = two.front ∙ one.front;
  heads = λ q. ap (λ n. head_at c n q) (sym one.floor) ∙ two.heads q ∙ ap (λ n. head_at b n q) one.floor ∙ one.heads q;
  own = λ q x.
      ap (λ n. own_at c n q x) (sym one.floor) ∙ two.own q x
      ∙ ap (λ o. cond (eq_by_cmp key_cmp q path) (option_or (g x) o) o) (ap (λ n. own_at b n q x) one.floor ∙ one.own q x)
      ∙ by (eq_by_cmp key_cmp q path) (g x) (f x) (own_at a a.floor q x)
      ∙ sym (ap (λ p. cond (eq_by_cmp key_cmp q path) (option_or p (own_at a a.floor q x)) (own_at a a.floor q x)) (is x));
}
  where
    by : (b : Bool) (p r o : Option Place) → cond b (option_or p (cond b (option_or r o) o)) (cond b (option_or r o) o) ≡ cond b (option_or (option_or p r) o) o
    by true None r o = refl
    by true (Some p) r o = refl
    by false p r o = refl

pub one_put : {A E : Type 0} (res : Result A E) (path name : List ℕ) (place : Place) (old new : objects.Table) → OnOk res (SeedsObject path name place old new) → OnOk res (PutsPlaces path (λ x. cond (eq_by_cmp key_cmp x name) (Some place) None) old new)
one_put (Err e) path name place old new h = tt
one_put (Ok r) path name place old new h = record {
  floor = h.floor;
  front = h.front;
  heads = h.heads;
  own = λ q x. h.own q x ∙ by (eq_by_cmp key_cmp q path) (eq_by_cmp key_cmp x name) (own_at old old.floor q x);
}
  where
    by : (a b : Bool) (o : Option Place) → cond (a && b) (Some place) o ≡ cond a (option_or (cond b (Some place) None) o) o
    by true true o = refl
    by true false o = refl
    by false b o = refl

-- the items from an index on
abbrev pub placed_from : ℕ → List Placed → ℕ → List ℕ → Option Place
placed_from number items i x = option_map (to_place number) (find_in (drop i items) x)

pub item_more : (number : ℕ) (items : List Placed) (i j : ℕ) (e : Placed) (x : List ℕ) → drop i items ≡ e ∷ drop j items
    → placed_from number items i x ≡ option_or (cond (eq_by_cmp key_cmp x e.name) (Some (to_place number (e.place, e.len))) None) (placed_from number items j x)
item_more number items i j e x is =
    ap (λ l. option_map (to_place number) (find_in l x)) is
    ∙ ap (λ b. option_map (to_place number) (cond b (Some (e.place, e.len)) (find_in (drop j items) x))) (same_test e.name x)
    ∙ by (eq_by_cmp key_cmp x e.name)
  where
    by : (b : Bool) → option_map (to_place number) (cond b (Some (e.place, e.len)) (find_in (drop j items) x)) ≡ option_or (cond b (Some (to_place number (e.place, e.len))) None) (placed_from number items j x)
    by true = refl
    by false = refl

-- a walk from the last one to the first: what stands behind an index, and the one before it
pub one_back : {A : Type 0} (xs : List A) (i : ℕ) (x : A) → 0 < i → i ≤ length xs → x ≡ get_or xs (i - 1) x → drop (i - 1) xs ≡ x ∷ drop i xs
one_back xs i x some within is =
    let next : i - 1 + 1 ≡ i = omega arith in
    drop_more xs (i - 1) x (omega arith) ∙ ap (λ y. y ∷ drop (i - 1 + 1) xs) (sym is) ∙ ap (λ n. x ∷ drop n xs) next

pub pack_more : (packs : List PackFile) (i j : ℕ) (p : PackFile) (x : List ℕ) → drop i packs ≡ p ∷ drop j packs → place_of (drop i packs) x ≡ option_or (place_in p x) (place_of (drop j packs) x)
pack_more packs i j p x is = ap (λ l. place_of l x) is

pub pack_put : (path : List ℕ) (p : PackFile) (number : ℕ) (items : List Placed) (a b : objects.Table) → number ≡ p.number → items ≡ items_of p → PutsPlaces path (λ x. option_map (to_place number) (find_in items x)) a b → PutsPlaces path (place_in p) a b
pack_put path p number items a b is_number is_items h =
    let N : ℕ → Type 0 = λ n. PutsPlaces path (λ x. option_map (to_place n) (find_in items x)) a b in
    let I : List Placed → Type 0 = λ l. PutsPlaces path (λ x. option_map (to_place p.number) (find_in l x)) a b in
    subst I is_items (subst N is_number h)

pub repo_put : {A E : Type 0} (res : Result A E) (r : BaseRepo) (head : Head) (a b c : objects.Table) → head ≡ head_of r → SeedsRepo r.path head a b → OnOk res (PutsPlaces r.path (place_of r.packs) b c) → OnOk res (PutsRepo r a c)
repo_put (Err e) r head a b c is one two = tt
repo_put (Ok y) r head a b c is one two = record {
  floor = two.floor ∙ one.floor;
  front = two.front ∙ one.front;
  heads = λ q.
      ap (λ n. head_at c n q) (sym one.floor) ∙ two.heads q ∙ ap (λ n. head_at b n q) one.floor ∙ one.heads q
      ∙ ap (λ h. cond (eq_by_cmp key_cmp q r.path) (Some h) (head_at a a.floor q)) is;
  own = λ q x.
      ap (λ n. own_at c n q x) (sym one.floor) ∙ two.own q x
      ∙ ap (λ o. cond (eq_by_cmp key_cmp q r.path) (option_or (place_of r.packs x) o) o) (ap (λ n. own_at b n q x) one.floor ∙ one.own q x)
      ∙ by (eq_by_cmp key_cmp q r.path) (place_of r.packs x) (own_at a a.floor q x);
}
  where
    by : (b : Bool) (p o : Option Place) → cond b (option_or p (cond b None o)) (cond b None o) ≡ cond b p o
    by true None o = refl
    by true (Some p) o = refl
    by false p o = refl

-- the repository that was put is there
pub now_there : (path : List ℕ) (head : Head) (a b : objects.Table) → SeedsRepo path head a b → IsSome (head_at b b.floor path)
now_there path head a b h =
    let is : head_at b b.floor path ≡ Some head = ap (λ n. head_at b n path) h.floor ∙ h.heads path ∙ ap (λ t. cond t (Some head) (head_at a a.floor path)) (itself path) in
    let P : Option Head → Type 0 = λ o. IsSome o in
    subst P (sym is) refl

pub still_there : (path : List ℕ) (f : List ℕ → Option Place) (a b : objects.Table) → PutsPlaces path f a b → IsSome (head_at a a.floor path) → IsSome (head_at b b.floor path)
still_there path f a b h there =
    let is : head_at b b.floor path ≡ head_at a a.floor path = ap (λ n. head_at b n path) h.floor ∙ h.heads path in
    let P : Option Head → Type 0 = λ o. IsSome o in
    subst P (sym is) there

-- ---- references

-- Of these entries some are put, and the rest makes the others.
pub record NamesLeft (path : List ℕ) (all rest : List (List ℕ × List ℕ)) (old new : refs.Table) : Type 0 where
  pub floor : new.floor ≡ old.floor
  pub front : new.front ≡ old.front
  pub others : (q : List ℕ) → eq_by_cmp key_cmp q path ≡ false → refs_at new old.floor q ≡ refs_at old old.floor q
  pub here : (q x : List ℕ) → eq_by_cmp key_cmp q path ≡ true → option_or (map.get (refs_at new old.floor q) x) (at_key rest x) ≡ at_key all x

pub names_began : (path : List ℕ) (all rest : List (List ℕ × List ℕ)) (t : refs.Table) → rest ≡ all → refs_at t t.floor path ≡ map.empty → NamesLeft path all rest t t
names_began path all rest t is none = record {
  floor = refl;
  front = refl;
  others = λ q f. refl;
  here = λ q x same.
      ap (λ m. option_or (map.get m x) (at_key rest x)) (ap (refs_at t t.floor) (one_path q path same) ∙ none)
      ∙ ap (λ o. option_or o (at_key rest x)) (get-empty key_cmp x)
      ∙ ap (λ l. at_key l x) is;
}

pub names_more : (path k v : List ℕ) (all rest : List (List ℕ × List ℕ)) (a b c : refs.Table) → at_key all k ≡ Some v → NamesLeft path all ((k, v) ∷ rest) a b → Seeds path k v b c → NamesLeft path all rest a c
names_more path k v all rest a b c found h s = record {
  floor = s.floor ∙ h.floor;
  front = s.front ∙ h.front;
  others = λ q f. moved q ∙ ap (λ t. cond t (map.insert (refs_at b a.floor q) k v) (refs_at b a.floor q)) f ∙ h.others q f;
  here = λ q x same.
      ap (λ m. option_or (map.get m x) (at_key rest x)) (moved q ∙ ap (λ t. cond t (map.insert (refs_at b a.floor q) k v) (refs_at b a.floor q)) same)
      ∙ ap (λ o. option_or o (at_key rest x)) (get-insert nat_list_cmp_total (refs_at b a.floor q) k v x)
      ∙ by (eq_by_cmp key_cmp x k) q x same refl;
}
  where
    moved : (q : List ℕ) → refs_at c a.floor q ≡ cond (eq_by_cmp key_cmp q path) (map.insert (refs_at b a.floor q) k v) (refs_at b a.floor q)
    moved q = ap (λ n. refs_at c n q) (sym h.floor) ∙ s.refs q ∙ ap (λ n. cond (eq_by_cmp key_cmp q path) (map.insert (refs_at b n q) k v) (refs_at b n q)) h.floor

    by : (t : Bool) (q x : List ℕ) → eq_by_cmp key_cmp q path ≡ true → eq_by_cmp key_cmp x k ≡ t → option_or (cond t (Some v) (map.get (refs_at b a.floor q) x)) (at_key rest x) ≡ at_key all x
    by true q x same is = sym found ∙ ap (at_key all) (sym (one_path x k is))
    by false q x same is = ap (λ t. option_or (map.get (refs_at b a.floor q) x) (cond t (Some v) (at_key rest x))) (sym is) ∙ h.here q x same

pub names_done : (path : List ℕ) (all rest : List (List ℕ × List ℕ)) (a b : refs.Table) → rest ≡ [] → NamesLeft path all rest a b → PutsRefs path (from_entries all) a b
names_done path all rest a b is h = record {
  floor = h.floor;
  front = h.front;
  refs = λ q. by (eq_by_cmp key_cmp q path) q refl;
}
  where
    alone : (o : Option (List ℕ)) → o ≡ option_or o None
    alone None = refl
    alone (Some v) = refl

    by : (t : Bool) (q : List ℕ) → eq_by_cmp key_cmp q path ≡ t → refs_at b a.floor q ≡ cond (eq_by_cmp key_cmp q path) (from_entries all) (refs_at a a.floor q)
    by true q same =
        same_map nat_list_cmp_total key_cmp-IsAntisymmetric (refs_at b a.floor q) (from_entries all) (λ x.
        alone (map.get (refs_at b a.floor q) x)
        ∙ ap (λ l. option_or (map.get (refs_at b a.floor q) x) (at_key l x)) (sym is)
        ∙ h.here q x same
        ∙ sym (get_key all x))
        ∙ ap (λ t. cond t (from_entries all) (refs_at a a.floor q)) (sym same)
    by false q same = h.others q same ∙ ap (λ t. cond t (from_entries all) (refs_at a a.floor q)) (sym same)

pub loose_more : (values : List RefValue) (i : ℕ) (v : RefValue) (old new whole : Names) → drop i values ≡ v ∷ drop (i + 1) values → new ≡ with_loose old v → fold with_loose old (drop i values) ≡ whole
    → fold with_loose new (drop (i + 1) values) ≡ whole
loose_more values i v old new whole is put h = ap (λ m. fold with_loose m (drop (i + 1) values)) put ∙ sym (ap (fold with_loose old) is) ∙ h

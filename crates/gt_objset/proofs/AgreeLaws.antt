-- A table that agrees with the content of its log does so after one more entry, and shows that content.
use Rattle.std.proofs.Common.{◌≡◌, ℕ, ◌+◌, ◌-◌, ◌≤◌, ◌⊎◌, ⊎_elim, Bool, true, false, ◌||◌, is_some, List, [], ◌∷◌, ◌++◌, length, take, zero, suc, Option, Some, None, nat_le, inl, inr, refl, sym, ap, ◌∙◌, arith, length-append}
use Rattle.std.proofs.lemmas.Bool.Decides.{nat_tests}
use Rattle.std.proofs.lemmas.List.{take-append-le, take_all}
use Rattle.std.specs.Option.{option_map, option_or}
use Rattle.std.specs.FinMap as map
use Rattle.std.specs.FinMap.{from_entries, get-empty}
use Rattle.gt_model.specs.declared.entry.Entry.{Entry}
use Rattle.gt_model.specs.Contents.{Content, Repo, and_then, own, pool_of, has_repo, is_pool, is_pool_in, is_visible, after, after_all, at, nothing, key_cmp}
use Rattle.gt_model.proofs.Logs.{after_all-append}
use Rattle.gt_objset.specs.declared.place.Place.{Place}
use Rattle.gt_objset.specs.Places.{head_in, pool_in, seen, head_after, own_after, places_after, places_at}
use Rattle.gt_objset.specs.declared.head.HeadChange.{HeadChange}
use Rattle.gt_objset.specs.Track.{Track, is_pool_of}
use Rattle.gt_objset.specs.Table.{Table, head_in_slot, own_in_slot, head_at, own_at, place_at, Adds}
use Rattle.gt_objset.specs.Agree.{Agrees, ArePlaced, ArePlacedBy}
use Rattle.gt_objset.proofs.TableLaws.{PoolSets, table}
use Rattle.gt_objset.proofs.ContentLaws.{head_of_repo, head_in-after, placed-after}

places_after-append : (c : Content) (places : List ℕ → List ℕ → Option Place) (log : List Entry) (e : Entry) → places_after c places (log ++ e ∷ []) ≡ own_after e (head_in (after_all c log) e.path) (places_after c places log)
places_after-append c places [] e = refl
places_after-append c places (f ∷ log) e = places_after-append (after c f) (own_after f (head_in c f.path) places) log e

pub placed_all : (c : Content) (places : List ℕ → List ℕ → Option Place) (log : List Entry) → ArePlaced c places → ArePlaced (after_all c log) (places_after c places log)
placed_all c places [] h = h
placed_all c places (e ∷ log) h = placed_all (after c e) (own_after e (head_in c e.path) places) log (placed-after c places h e)

below_or_next : (p n : ℕ) → p ≤ n + 1 → (p ≤ n) ⊎ (p ≡ n + 1)
below_or_next p n l = by_test (nat_le p n) refl
  where
    by_test : (b : Bool) → nat_le p n ≡ b → (p ≤ n) ⊎ (p ≡ n + 1)
    by_test true t = let h : p ≤ n = grind (arith, nat_tests) in inl h
    by_test false t = let h : p ≡ n + 1 = grind (arith, nat_tests) in inr h

earlier_part : (f g p : ℕ) (log : List Entry) (e : Entry) → g ≡ f → p - f ≤ length log → take (p - f) log ≡ take (p - g) (log ++ e ∷ [])
earlier_part f g p log e s l = sym (ap (λ n. take (p - n) (log ++ e ∷ [])) s ∙ take-append-le (p - f) log (e ∷ []) l)

whole_part : (f g p : ℕ) (log : List Entry) (e : Entry) → g ≡ f → p ≡ f + length log + 1 → take (p - g) (log ++ e ∷ []) ≡ log ++ e ∷ []
whole_part f g p log e s l = take_all (p - g) (log ++ e ∷ []) (omega (arith, length-append log (e ∷ [])))

old_part : (f p : ℕ) (log : List Entry) → p ≡ f + length log → take (p - f) log ≡ log
old_part f p log l = take_all (p - f) log (omega arith)

module _ (old new : Table) (base : Content) (log : List Entry) (e : Entry) (h : Agrees old base log) (a : Adds e old new) where
  heads_here : (path : List ℕ) → head_at old old.front path ≡ head_in (after_all base log) path
  heads_here path =
      let i : old.front ≡ old.floor + length log = h.front in
      h.heads old.front path (omega arith) (omega arith) ∙ ap (λ es. head_in (after_all base es) path) (old_part old.floor old.front log i)

  own_here : ArePlaced (after_all base log) (own_at old old.front)
  own_here path x =
      let i : old.front ≡ old.floor + length log = h.front in
      h.own old.front path x (omega arith) (omega arith) ∙ ap (λ es. is_some (own (after_all base es) path x)) (old_part old.floor old.front log i)

  head_first : (p : ℕ) (path : List ℕ) → old.floor ≤ p → p ≤ old.front → head_at new p path ≡ head_in (at new.floor base (log ++ e ∷ []) p) path
  head_first p path low l =
      let i : old.front ≡ old.floor + length log = h.front in
      a.head_before p path l ∙ h.heads p path low l ∙ ap (λ es. head_in (after_all base es) path) (earlier_part old.floor new.floor p log e a.floor (omega arith))

  head_second : (p : ℕ) (path : List ℕ) → p ≡ old.front + 1 → head_at new p path ≡ head_in (at new.floor base (log ++ e ∷ []) p) path
  head_second p path l =
      let i : old.front ≡ old.floor + length log = h.front in
      ap (λ n. head_at new n path) l ∙ a.head_next path ∙ ap (head_after e path) (heads_here path)
      ∙ sym (head_in-after (after_all base log) e path)
      ∙ sym (ap (λ c. head_in c path) (after_all-append base log (e ∷ [])))
      ∙ sym (ap (λ es. head_in (after_all base es) path) (whole_part old.floor new.floor p log e a.floor (omega arith)))

  own_first : (p : ℕ) (path x : List ℕ) → old.floor ≤ p → p ≤ old.front → is_some (own_at new p path x) ≡ is_some (own (at new.floor base (log ++ e ∷ []) p) path x)
  own_first p path x low l =
      let i : old.front ≡ old.floor + length log = h.front in
      ap is_some (a.own_before p path x l) ∙ h.own p path x low l ∙ ap (λ es. is_some (own (after_all base es) path x)) (earlier_part old.floor new.floor p log e a.floor (omega arith))

  own_second : (p : ℕ) (path x : List ℕ) → p ≡ old.front + 1 → is_some (own_at new p path x) ≡ is_some (own (at new.floor base (log ++ e ∷ []) p) path x)
  own_second p path x l =
      let i : old.front ≡ old.floor + length log = h.front in
      ap (λ n. is_some (own_at new n path x)) l ∙ ap is_some (a.own_next path x)
      ∙ ap (λ o. is_some (own_after e o (own_at old old.front) path x)) (heads_here e.path)
      ∙ placed-after (after_all base log) (own_at old old.front) own_here e path x
      ∙ sym (ap (λ c. is_some (own c path x)) (after_all-append base log (e ∷ [])))
      ∙ sym (ap (λ es. is_some (own (after_all base es) path x)) (whole_part old.floor new.floor p log e a.floor (omega arith)))

  pub agrees_more : Agrees new base (log ++ e ∷ [])
  agrees_more = record {
    front = let f : new.front ≡ old.front + 1 = a.front in let g : new.floor ≡ old.floor = a.floor in let i : old.front ≡ old.floor + length log = h.front in omega (arith, length-append log (e ∷ []));
    heads = λ p path low high.
        let f : new.front ≡ old.front + 1 = a.front in
        let g : new.floor ≡ old.floor = a.floor in
        let low1 : old.floor ≤ p = omega arith in
        ⊎_elim (λ (l : p ≤ old.front). head_first p path low1 l) (λ (l : p ≡ old.front + 1). head_second p path l) (below_or_next p old.front (omega arith));
    own = λ p path x low high.
        let f : new.front ≡ old.front + 1 = a.front in
        let g : new.floor ≡ old.floor = a.floor in
        let low1 : old.floor ≤ p = omega arith in
        ⊎_elim (λ (l : p ≤ old.front). own_first p path x low1 l) (λ (l : p ≡ old.front + 1). own_second p path x l) (below_or_next p old.front (omega arith));
  }

  module _ (places : List ℕ → List ℕ → Option Place) (k : ArePlacedBy old base places log) where
    places_here : (path x : List ℕ) → own_at old old.front path x ≡ places_after base places log path x
    places_here path x =
        let i : old.front ≡ old.floor + length log = h.front in
        k.own old.front path x (omega arith) (omega arith) ∙ ap (λ es. places_after base places es path x) (old_part old.floor old.front log i)

    place_first : (p : ℕ) (path x : List ℕ) → old.floor ≤ p → p ≤ old.front → own_at new p path x ≡ places_at new.floor base places (log ++ e ∷ []) p path x
    place_first p path x low l =
        let i : old.front ≡ old.floor + length log = h.front in
        a.own_before p path x l ∙ k.own p path x low l ∙ ap (λ es. places_after base places es path x) (earlier_part old.floor new.floor p log e a.floor (omega arith))

    place_second : (p : ℕ) (path x : List ℕ) → p ≡ old.front + 1 → own_at new p path x ≡ places_at new.floor base places (log ++ e ∷ []) p path x
    place_second p path x l =
        let i : old.front ≡ old.floor + length log = h.front in
        let own_eq : own_at old old.front ≡ places_after base places log = λ i path x. places_here path x i in
        ap (λ n. own_at new n path x) l ∙ a.own_next path x
        ∙ ap (λ o. own_after e o (own_at old old.front) path x) (heads_here e.path)
        ∙ ap (λ own. own_after e (head_in (after_all base log) e.path) own path x) own_eq
        ∙ sym (ap (λ own. own path x) (places_after-append base places log e))
        ∙ sym (ap (λ es. places_after base places es path x) (whole_part old.floor new.floor p log e a.floor (omega arith)))

    pub placed_more : ArePlacedBy new base places (log ++ e ∷ [])
    placed_more = record {
      placed = k.placed;
      own = λ p path x low high.
          let f : new.front ≡ old.front + 1 = a.front in
          let g : new.floor ≡ old.floor = a.floor in
          let low1 : old.floor ≤ p = omega arith in
          ⊎_elim (λ (l : p ≤ old.front). place_first p path x low1 l) (λ (l : p ≡ old.front + 1). place_second p path x l) (below_or_next p old.front (omega arith));
    }

-- ---- what a table shows

is_some-head : (s : Option Repo) → is_some (option_map head_of_repo s) ≡ is_some s
is_some-head None = refl
is_some-head (Some r) = refl

pool-head : (s : Option Repo) → is_pool_of (option_map head_of_repo s) ≡ is_pool_in s
pool-head None = refl
pool-head (Some r) = refl

member-head : (s : Option Repo) → pool_in (option_map head_of_repo s) ≡ and_then s (λ r. r.pool)
member-head None = refl
member-head (Some r) = refl

is_some-or : {A : Type 0} (o p : Option A) → is_some (option_or o p) ≡ (is_some o || is_some p)
is_some-or None p = refl
is_some-or (Some a) p = refl

module _ (c : Content) (places : List ℕ → List ℕ → Option Place) (h : ArePlaced c places) where
  pool_shown : (pool : Option (List ℕ)) (x : List ℕ) → is_some (and_then pool (λ p. places p x)) ≡ is_some (and_then pool (λ p. own c p x))
  pool_shown None x = refl
  pool_shown (Some p) x = h p x

  pub seen_visible : (path x : List ℕ) → is_some (seen (head_in c path) places path x) ≡ is_visible c path x
  seen_visible path x =
      is_some-or (places path x) (and_then (pool_in (head_in c path)) (λ p. places p x))
      ∙ ap (λ b. b || is_some (and_then (pool_in (head_in c path)) (λ p. places p x))) (h path x)
      ∙ ap (λ b. is_some (own c path x) || b) (ap (λ o. is_some (and_then o (λ p. places p x))) (member-head (map.get c path)) ∙ pool_shown (pool_of c path) x)
      ∙ sym (is_some-or (own c path x) (and_then (pool_of c path) (λ p. own c p x)))

module _ (t : Table) (base : Content) (log : List Entry) (p : ℕ) (h : Agrees t base log) (low : t.floor ≤ p) (high : p ≤ t.front) where
  pub shows_repo : (path : List ℕ) → is_some (head_at t p path) ≡ has_repo (at t.floor base log p) path
  shows_repo path = ap is_some (h.heads p path low high) ∙ is_some-head (map.get (at t.floor base log p) path)

  pub shows_is_pool : (path : List ℕ) → is_pool_of (head_at t p path) ≡ is_pool (at t.floor base log p) path
  shows_is_pool path = ap is_pool_of (h.heads p path low high) ∙ pool-head (map.get (at t.floor base log p) path)

  pub shows_pool : (path : List ℕ) → pool_in (head_at t p path) ≡ pool_of (at t.floor base log p) path
  shows_pool path = ap pool_in (h.heads p path low high) ∙ member-head (map.get (at t.floor base log p) path)

  pub shows_own : (path x : List ℕ) → is_some (own_at t p path x) ≡ is_some (own (at t.floor base log p) path x)
  shows_own path x = h.own p path x low high

  pub shows_visible : (path x : List ℕ) → is_some (place_at t p path x) ≡ is_visible (at t.floor base log p) path x
  shows_visible path x = ap (λ o. is_some (seen o (own_at t p) path x)) (h.heads p path low high) ∙ seen_visible (at t.floor base log p) (own_at t p) shows_own path x

  pub shows_place : (places : List ℕ → List ℕ → Option Place) → ArePlacedBy t base places log → (path x : List ℕ) → place_at t p path x ≡ seen (head_in (at t.floor base log p) path) (places_at t.floor base places log p) path x
  shows_place places k path x =
      let own_eq : own_at t p ≡ places_at t.floor base places log p = λ i path x. k.own p path x low high i in
      ap (λ o. seen o (own_at t p) path x) (h.heads p path low high)
      ∙ ap (λ own. seen (head_in (at t.floor base log p) path) own path x) own_eq

-- ---- the empty table

abbrev no_entries : List Entry
no_entries = []

take_none : (n : ℕ) → take n no_entries ≡ no_entries
take_none zero = refl
take_none (suc n) = refl

module _ (floor : ℕ) (es : List (List ℕ × Track)) (sets : PoolSets) (head : HeadChange) (puts : List (List ℕ × Option Place)) (e : es ≡ []) where
  none_there : (path : List ℕ) → map.get (from_entries {R = key_cmp} es) path ≡ None
  none_there path = ap (λ fs. map.get (from_entries {R = key_cmp} fs) path) e ∙ get-empty key_cmp path

  none_own : (path x : List ℕ) → is_some (own nothing path x) ≡ false
  none_own path x = ap (λ o. is_some (and_then o (λ (r : Repo). map.get r.own x))) (get-empty key_cmp path)

  pub empty_agrees : Agrees (table floor floor es sets head puts) nothing []
  empty_agrees = record {
    front = omega arith;
    heads = λ p path low high. ap (λ s. head_in_slot s p) (none_there path) ∙ sym (ap (λ es. head_in (after_all nothing es) path) (take_none (p - floor)) ∙ ap (option_map head_of_repo) (get-empty key_cmp path));
    own = λ p path x low high. ap (λ s. is_some (own_in_slot s p x)) (none_there path) ∙ sym (ap (λ es. is_some (own (after_all nothing es) path x)) (take_none (p - floor)) ∙ none_own path x);
  }

  pub empty_placed : ArePlacedBy (table floor floor es sets head puts) nothing (λ path x. None) []
  empty_placed = record {
    placed = λ path x. sym (none_own path x);
    own = λ p path x low high. ap (λ s. own_in_slot s p x) (none_there path) ∙ sym (ap (λ es. places_after nothing (λ path x. None) es path x) (take_none (p - floor)));
  }

-- ---- a floor that was seeded

seeded_part : (t : Table) (p : ℕ) → t.front ≡ t.floor → t.floor ≤ p → p ≤ t.front → p ≡ t.floor
seeded_part t p e low high = omega arith

module _ (t : Table) (base : Content) (places : List ℕ → List ℕ → Option Place) (e : t.front ≡ t.floor) (h : ArePlaced base places)
    (heads : (path : List ℕ) → head_at t t.floor path ≡ head_in base path) (own_here : (path x : List ℕ) → own_at t t.floor path x ≡ places path x) where
  pub seeded_agrees : Agrees t base []
  seeded_agrees = record {
    front = omega arith;
    heads = λ p path low high. ap (λ q. head_at t q path) (seeded_part t p e low high) ∙ heads path ∙ sym (ap (λ es. head_in (after_all base es) path) (take_none (p - t.floor)));
    own = λ p path x low high. ap (λ q. is_some (own_at t q path x)) (seeded_part t p e low high) ∙ ap is_some (own_here path x) ∙ h path x ∙ sym (ap (λ es. is_some (own (after_all base es) path x)) (take_none (p - t.floor)));
  }

  pub seeded_placed : ArePlacedBy t base places []
  seeded_placed = record {
    placed = h;
    own = λ p path x low high. ap (λ q. own_at t q path x) (seeded_part t p e low high) ∙ own_here path x ∙ sym (ap (λ es. places_after base places es path x) (take_none (p - t.floor)));
  }

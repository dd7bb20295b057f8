-- What a repository takes from its pool, name by name.
use Rattle.std.proofs.Common.{◌≡◌, ℕ, Bool, true, false, cond, ◌||◌, is_some, List, [], ◌∷◌, Option, Some, None, refl, sym, ap, ◌∙◌, map as list_map}
use Rattle.std.specs.List.{list_any}
use Rattle.std.specs.Option.{option_map, option_or, unwrap_or}
use Rattle.std.specs.Ordering.{eq_by_cmp}
use Rattle.std.specs.FinMap as map
use Rattle.std.specs.FinMap.{FinMap, from_entries, contains_key-keys}
use Rattle.std.specs.List.Sorted.{IsStrictlySortedBy}
use Rattle.gt_model.specs.Contents.{key_cmp}
use Rattle.gt_versions.specs.Versions.{last_at}
use Rattle.gt_versions.proofs.Keys.{get-same, entries_of}
use Rattle.gt_objset.specs.declared.place.Place.{Place}
use Rattle.gt_objset.specs.Places.{last_put}
use Rattle.gt_objset.specs.Track.{Track, items_of, own_of, life_at, own_in_track, taken}
use Rattle.gt_objset.proofs.SlotLaws.{last_put-found}

abbrev pub one_taken : List ℕ → Option Place → List (List ℕ × Option Place) → List (List ℕ × Option Place)
one_taken n None rest = rest
one_taken n (Some place) rest = (n, Some place) ∷ rest

-- what is taken of these names
abbrev pub taken_list : (List ℕ → Option Place) → (List ℕ → Option Place) → List (List ℕ) → List (List ℕ × Option Place)
taken_list own pool [] = []
taken_list own pool (n ∷ ns) = one_taken n (taken (own n) (pool n)) (taken_list own pool ns)

abbrev pub keys_of : FinMap key_cmp (List (ℕ × Option Place) × ℕ) → List (List ℕ)
keys_of m = map.keys m

-- a name in no repository's objects isn't own
pub own-same : (t : Track) (p : ℕ) (a b : List ℕ) → eq_by_cmp key_cmp a b ≡ true → own_in_track t p b ≡ own_in_track t p a
own-same t p a b e = ap (λ s. own_of (life_at t p) (last_at (items_of s) p None)) (get-same t.objects a b e)

module _ (own pool : List ℕ → Option Place) (same_own : (a b : List ℕ) → eq_by_cmp key_cmp a b ≡ true → own b ≡ own a) (same_pool : (a b : List ℕ) → eq_by_cmp key_cmp a b ≡ true → pool b ≡ pool a) where
  taken-last : (ns : List (List ℕ)) (x : List ℕ) → last_put (taken_list own pool ns) x None ≡ cond (list_any (eq_by_cmp key_cmp x) ns) (option_map Some (taken (own x) (pool x))) None
  taken-last [] x = refl
  taken-last (n ∷ ns) x = by (eq_by_cmp key_cmp x n) refl (taken (own n) (pool n)) refl (taken-last ns x)
    where
      any : Bool
      any = list_any (eq_by_cmp key_cmp x) ns

      none : (b : Bool) → option_map Some (taken (own x) (pool x)) ≡ None → cond b (option_map Some (taken (own x) (pool x))) None ≡ option_map Some (taken (own x) (pool x))
      none true e = refl
      none false e = sym e

      some : (b : Bool) (pl : Place) → option_map Some (taken (own x) (pool x)) ≡ Some (Some pl) → option_or (cond b (option_map Some (taken (own x) (pool x))) None) (Some (Some pl)) ≡ option_map Some (taken (own x) (pool x))
      some true pl e = ap (λ o. option_or o (Some (Some pl))) e ∙ sym e
      some false pl e = sym e

      alike : eq_by_cmp key_cmp x n ≡ true → taken (own n) (pool n) ≡ taken (own x) (pool x)
      alike t = ap (λ o. taken o (pool n)) (same_own x n t) ∙ ap (taken (own x)) (same_pool x n t)

      or_none : (o : Option (Option Place)) → option_or o None ≡ o
      or_none None = refl
      or_none (Some y) = refl

      by : (b : Bool) → eq_by_cmp key_cmp x n ≡ b → (o : Option Place) → taken (own n) (pool n) ≡ o
          → last_put (taken_list own pool ns) x None ≡ cond (list_any (eq_by_cmp key_cmp x) ns) (option_map Some (taken (own x) (pool x))) None
          → last_put (one_taken n o (taken_list own pool ns)) x None ≡ cond (b || list_any (eq_by_cmp key_cmp x) ns) (option_map Some (taken (own x) (pool x))) None
      by true t None e h = h ∙ none (list_any (eq_by_cmp key_cmp x) ns) (ap (option_map Some) (sym (alike t) ∙ e))
      by false t None e h = h
      by true t (Some pl) e h =
          last_put-found (taken_list own pool ns) x (cond (eq_by_cmp key_cmp x n) (Some (Some pl)) None)
          ∙ ap (option_or (last_put (taken_list own pool ns) x None)) (ap (λ v. cond v (Some (Some pl)) None) t)
          ∙ ap (λ o. option_or o (Some (Some pl))) h
          ∙ some (list_any (eq_by_cmp key_cmp x) ns) pl (ap (option_map Some) (sym (alike t) ∙ e))
      by false t (Some pl) e h =
          last_put-found (taken_list own pool ns) x (cond (eq_by_cmp key_cmp x n) (Some (Some pl)) None)
          ∙ ap (option_or (last_put (taken_list own pool ns) x None)) (ap (λ v. cond v (Some (Some pl)) None) t)
          ∙ or_none (last_put (taken_list own pool ns) x None)
          ∙ h

  -- Where every own object of the pool is among these names, what is taken makes the repository own all that it saw.
  pub taken_all : (ns : List (List ℕ)) (x : List ℕ) → (list_any (eq_by_cmp key_cmp x) ns ≡ false → pool x ≡ None) → unwrap_or (last_put (taken_list own pool ns) x None) (own x) ≡ option_or (own x) (pool x)
  taken_all ns x h = ap (λ o. unwrap_or o (own x)) (taken-last ns x) ∙ by (list_any (eq_by_cmp key_cmp x) ns) refl
    where
      whole : (o p : Option Place) → unwrap_or (option_map Some (taken o p)) o ≡ option_or o p
      whole None None = refl
      whole None (Some q) = refl
      whole (Some q) p = refl

      left : (o : Option Place) → o ≡ option_or o None
      left None = refl
      left (Some q) = refl

      by : (b : Bool) → list_any (eq_by_cmp key_cmp x) ns ≡ b → unwrap_or (cond b (option_map Some (taken (own x) (pool x))) None) (own x) ≡ option_or (own x) (pool x)
      by true t = whole (own x) (pool x)
      by false t = left (own x) ∙ ap (option_or (own x)) (sym (h t))

-- ---- the names that are gone through

pub none_since : (life : Option ℕ) → own_of life None ≡ None
none_since None = refl
none_since (Some c) = refl

absent : (o : Option (List (ℕ × Option Place) × ℕ)) → is_some o ≡ false → o ≡ None
absent None e = refl
absent (Some s) e = let no : ⊥ = cc in absurd no

pub not_own : (t : Track) (p : ℕ) (x : List ℕ) → list_any (eq_by_cmp key_cmp x) (keys_of t.objects) ≡ false → own_in_track t p x ≡ None
not_own t p x e =
    ap (λ s. own_of (life_at t p) (last_at (items_of s) p None)) (absent (map.get t.objects x) (contains_key-keys t.objects x ∙ e))
    ∙ none_since (life_at t p)

pub keys_in_tree : (es : List (List ℕ × (List (ℕ × Option Place) × ℕ))) → IsStrictlySortedBy key_cmp (list_map (λ e. e.0) es) → list_map (λ e. e.0) es ≡ keys_of (from_entries es)
keys_in_tree es h = sym (ap (list_map (λ (e : List ℕ × (List (ℕ × Option Place) × ℕ)). e.0)) (entries_of es h))

pub taken_whole : (s t : Track) (p : ℕ) (puts : List (List ℕ × Option Place)) → puts ≡ taken_list (own_in_track s p) (own_in_track t p) (keys_of t.objects) → (x : List ℕ) → unwrap_or (last_put puts x None) (own_in_track s p x) ≡ option_or (own_in_track s p x) (own_in_track t p x)
taken_whole s t p puts e x =
    ap (λ ps. unwrap_or (last_put ps x None) (own_in_track s p x)) e
    ∙ taken_all (own_in_track s p) (own_in_track t p) (own-same s p) (own-same t p) (keys_of t.objects) x (not_own t p x)

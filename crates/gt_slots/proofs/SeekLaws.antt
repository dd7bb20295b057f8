-- The search for the first that stands in a folder.
use Rattle.std.proofs.Common.{◌≡◌, ℕ, suc, ◌+◌, ◌<◌, ◌≤◌, nat_eq, Bool, true, false, cond, ◌&&◌, List, [], ◌∷◌, ◌++◌, length, drop, slice_index_or, Option, Some, None, refl, sym, ap, ◌∙◌}
use Rattle.std.specs.List.{starts_with}
use Rattle.std.specs.Option.{option_or}
use Rattle.gt_slots.specs.Pages.{all, page, rest}
use Rattle.gt_slots.specs.Listing.{begins}
use Rattle.gt_slots.specs.Clashing.{stands, standing, seek, sought}
use Rattle.gt_slots.proofs.PlaceLaws.{rest_end}
use Rattle.gt_slots.proofs.ListLaws.{item_of, rest_split, rest_is}

-- ---- a name and a text behind a folder

and_assoc : (a b c : Bool) → (a && (b && c)) ≡ ((a && b) && c)
and_assoc true b c = refl
and_assoc false b c = refl

pub under_parts : (name folder t : List ℕ) → starts_with nat_eq name (folder ++ t) ≡ (starts_with nat_eq name folder && starts_with nat_eq (drop (length folder) name) t)
under_parts name [] t = refl
under_parts [] (y ∷ ys) t = refl
under_parts (x ∷ xs) (y ∷ ys) t = ap (λ b. nat_eq y x && b) (under_parts xs ys t) ∙ and_assoc (nat_eq y x) (starts_with nat_eq xs ys) (starts_with nat_eq (drop (length ys) xs) t)

-- ---- a search in two parts

module _ (c p : ℕ) (gone : List (List ℕ)) (prefix : List ℕ) where
  pub seek-append : (xs ys : List (List ℕ × (List (ℕ × Option (List ℕ)) × ℕ))) → seek c p gone prefix (xs ++ ys) ≡ option_or (seek c p gone prefix xs) (seek c p gone prefix ys)
  seek-append [] ys = refl
  seek-append (x ∷ xs) ys = by (seek-append xs ys) (begins prefix x) (stands c p gone x)
    where
      by : seek c p gone prefix (xs ++ ys) ≡ option_or (seek c p gone prefix xs) (seek c p gone prefix ys) → (a b : Bool)
          → cond a (cond b (Some (Some x.0)) (seek c p gone prefix (xs ++ ys))) (Some None) ≡ option_or (cond a (cond b (Some (Some x.0)) (seek c p gone prefix xs)) (Some None)) (seek c p gone prefix ys)
      by more true true = refl
      by more true false = more
      by more false b = refl

  module _ (ps : List (List (List ℕ × (List (ℕ × Option (List ℕ)) × ℕ)))) (i : ℕ) (item slots : List (List ℕ × (List (ℕ × Option (List ℕ)) × ℕ))) (l : i < length ps) (is : item ≡ slice_index_or ps i item) (same : slots ≡ item) (inv : seek c p gone prefix (all (drop i ps)) ≡ seek c p gone prefix (all ps)) where
    here : seek c p gone prefix (all ps) ≡ option_or (seek c p gone prefix slots) (seek c p gone prefix (all (drop (i + 1) ps)))
    here =
        sym inv
        ∙ ap (λ q. seek c p gone prefix (all q)) (item_of ps i item l is)
        ∙ seek-append item (all (drop (i + 1) ps))
        ∙ ap (λ q. option_or (seek c p gone prefix q) (seek c p gone prefix (all (drop (i + 1) ps)))) (sym same)

    pub seek_found : (o : Option (List ℕ)) → Some o ≡ seek c p gone prefix slots → o ≡ sought (seek c p gone prefix (all ps))
    seek_found o h = sym (ap sought (here ∙ ap (λ q. option_or q (seek c p gone prefix (all (drop (i + 1) ps)))) (sym h)))

    pub seek_more : None ≡ seek c p gone prefix slots → seek c p gone prefix (all (drop (i + 1) ps)) ≡ seek c p gone prefix (all ps)
    seek_more h = sym (here ∙ ap (λ q. option_or q (seek c p gone prefix (all (drop (i + 1) ps)))) (sym h))

  pub from_found : (ps : List (List (List ℕ × (List (ℕ × Option (List ℕ)) × ℕ)))) (i j : ℕ) (slots : List (List ℕ × (List (ℕ × Option (List ℕ)) × ℕ))) (o : Option (List ℕ)) → i < length ps → slots ≡ drop j (page ps i) → Some o ≡ seek c p gone prefix slots → o ≡ sought (seek c p gone prefix (rest ps i j))
  from_found ps i j slots o l a h =
      sym (ap sought (ap (seek c p gone prefix) (rest_is c p prefix ps i j l ∙ ap (λ q. q ++ all (drop (suc i) ps)) (sym a)) ∙ seek-append slots (all (drop (suc i) ps)) ∙ ap (λ q. option_or q (seek c p gone prefix (all (drop (suc i) ps)))) (sym h)))

  pub from_next : (ps : List (List (List ℕ × (List (ℕ × Option (List ℕ)) × ℕ)))) (i j : ℕ) (slots : List (List ℕ × (List (ℕ × Option (List ℕ)) × ℕ))) (tail : List (List (List ℕ × (List (ℕ × Option (List ℕ)) × ℕ)))) → i < length ps → slots ≡ drop j (page ps i) → tail ≡ drop (i + 1) ps
      → None ≡ seek c p gone prefix slots → sought (seek c p gone prefix (all tail)) ≡ sought (seek c p gone prefix (rest ps i j))
  from_next ps i j slots tail l a b h = sym (ap sought (ap (seek c p gone prefix) (rest_split c p prefix ps i j slots tail l a b) ∙ seek-append slots (all tail) ∙ ap (λ q. option_or q (seek c p gone prefix (all tail))) (sym h)))

  pub from_out : (ps : List (List (List ℕ × (List (ℕ × Option (List ℕ)) × ℕ)))) (i j : ℕ) → length ps ≤ i → None ≡ sought (seek c p gone prefix (rest ps i j))
  from_out ps i j l = sym (ap (λ q. sought (seek c p gone prefix q)) (rest_end ps i j l))

-- ---- a folder that stands

pub stands_found : (c p : ℕ) (gone : List (List ℕ)) (folder : List ℕ) (s : List ℕ × (List (ℕ × Option (List ℕ)) × ℕ)) (o : Option (List (ℕ × Option (List ℕ)) × ℕ)) (b : Bool) → Some s.1 ≡ o → s.0 ≡ folder → b ≡ stands c p gone s → cond b (Some s.0) None ≡ standing c p gone folder o
stands_found c p gone folder s o b e k h =
    ap (λ x. cond x (Some s.0) None) h
    ∙ ap (λ n. cond (stands c p gone (n, s.1)) (Some n) None) k
    ∙ ap (standing c p gone folder) e

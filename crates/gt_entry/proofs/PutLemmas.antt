-- A list that is written item by item.
use Rattle.std.proofs.Common.{◌≡◌, ℕ, ◌+◌, ◌<◌, take, List, [], ◌∷◌, ◌++◌, length, get_or, sym, ap, ◌∙◌, append_assoc}
use Rattle.std.specs.List.{All, flat_map}
use Rattle.std.proofs.lemmas.List.{take_more, append-nil}
use Rattle.std.proofs.lemmas.List.Concat.{flat_map-cons, flat_map-append}
use Rattle.std.proofs.lemmas.List.Elements.{All-more}

module _ {A : Type 0} (xs : List A) (i : ℕ) (x : A) (lt : i < length xs) (is : x ≡ get_or xs i x) where
  -- the spelling of one item more, behind what stood there and the count
  pub one_more : (s : A → List ℕ) (o n y z : List ℕ) → y ≡ o ++ (n ++ flat_map s (take i xs)) → z ≡ y ++ s x → z ≡ o ++ (n ++ flat_map s (take (i + 1) xs))
  one_more s o n y z so_far put =
      let whole : take (i + 1) xs ≡ take i xs ++ x ∷ [] = take_more xs i x lt ∙ ap (λ (a : A). take i xs ++ a ∷ []) (sym is) in
      let last : flat_map s (x ∷ []) ≡ s x = flat_map-cons s x [] ∙ append-nil (s x) in
      let more : flat_map s (take (i + 1) xs) ≡ flat_map s (take i xs) ++ s x = ap (flat_map s) whole ∙ flat_map-append s (take i xs) (x ∷ []) ∙ ap (λ (t : List ℕ). flat_map s (take i xs) ++ t) last in
      let parts : (o ++ (n ++ flat_map s (take i xs))) ++ s x ≡ o ++ (n ++ (flat_map s (take i xs) ++ s x)) = append_assoc o (n ++ flat_map s (take i xs)) (s x) ∙ ap (λ (t : List ℕ). o ++ t) (append_assoc n (flat_map s (take i xs)) (s x)) in
      put ∙ ap (λ (t : List ℕ). t ++ s x) so_far ∙ parts ∙ ap (λ (t : List ℕ). o ++ (n ++ t)) (sym more)

  -- what holds of one item more
  pub all_more : (P : A → Type 0) → All P (take i xs) → P x → All P (take (i + 1) xs)
  all_more P so_far p = All-more P xs i x lt so_far (rw (← is) p)

-- A name against a text with a slash behind it.
use Rattle.std.proofs.Common.{◌≡◌, ℕ, Bool, true, false, cond, nat_lt, nat_eq, ◌==◌, ◌&&◌, List, [], ◌∷◌, ◌++◌, length, drop, codes, Some, slice_get, refl, sym, ap, ◌∙◌, arith}
use Rattle.std.proofs.lemmas.Bool.Decides.{nat_tests}
use Rattle.std.specs.List.{starts_with}
use Rattle.std.specs.declared.cmp.Ordering.TheVariants.{Less, Equal, Greater}
use Rattle.std.specs.Ordering.{is_lt, ordering_then}
use Rattle.std.specs.Cmp.{nat_cmp_is}
use Rattle.gt_model.specs.Contents.{key_cmp}
use Rattle.gt_slots.specs.Pages.{is_before}

pub first_true : (a b : Bool) → (a && b) ≡ true → a ≡ true
first_true true b h = refl
first_true false b h = h

pub second_true : (a b : Bool) → (a && b) ≡ true → b ≡ true
second_true true b h = h
second_true false b h = let no : ⊥ = cc in absurd no

second_false : (a b : Bool) → a ≡ true → (a && b) ≡ false → b ≡ false
second_false true b t h = h
second_false false b t h = let no : ⊥ = cc in absurd no

pub before_inside : (name text : List ℕ) → starts_with nat_eq name text ≡ true → is_before name (text ++ codes "/") ≡ is_before (drop (length text) name) (codes "/")
before_inside name [] h = refl
before_inside [] (y ∷ ys) h = let no : ⊥ = cc in absurd no
before_inside (x ∷ xs) (y ∷ ys) h =
    let t : nat_eq y x ≡ true = first_true (nat_eq y x) (starts_with nat_eq xs ys) h in
    let same : x ≡ y = grind (arith, nat_tests) in
    ap (λ o. is_lt (ordering_then o (key_cmp xs (ys ++ codes "/")))) (sym (nat_cmp_is x y Equal same))
    ∙ before_inside xs ys (second_true (nat_eq y x) (starts_with nat_eq xs ys) h)

pub before_outside : (name text : List ℕ) → starts_with nat_eq name text ≡ false → is_before name (text ++ codes "/") ≡ is_before name text
before_outside name [] h = let no : ⊥ = cc in absurd no
before_outside [] (y ∷ ys) h = refl
before_outside (x ∷ xs) (y ∷ ys) h = by (nat_lt x y) refl (x == y) refl (before_outside xs ys)
  where
    by : (a : Bool) → nat_lt x y ≡ a → (b : Bool) → (x == y) ≡ b → (starts_with nat_eq xs ys ≡ false → is_before xs (ys ++ codes "/") ≡ is_before xs ys)
        → is_lt (ordering_then (cond a Less (cond b Equal Greater)) (key_cmp xs (ys ++ codes "/"))) ≡ is_lt (ordering_then (cond a Less (cond b Equal Greater)) (key_cmp xs ys))
    by true s b t more = refl
    by false s true t more = more (second_false (nat_eq y x) (starts_with nat_eq xs ys) (grind (arith, nat_tests)) h)
    by false s false t more = refl

pub rest_before : (rest : List ℕ) (b : ℕ) → Some b ≡ slice_get rest 0 → nat_lt b 47 ≡ is_before rest (47 ∷ [])
rest_before [] b h = let no : ⊥ = cc in absurd no
rest_before (x ∷ xs) b h = let same : b ≡ x = cc in ap (λ n. nat_lt n 47) same ∙ by (nat_lt x 47) refl (x == 47) refl
  where
    behind : (ys : List ℕ) → is_lt (key_cmp ys []) ≡ false
    behind [] = refl
    behind (y ∷ ys) = refl

    by : (a : Bool) → nat_lt x 47 ≡ a → (b : Bool) → (x == 47) ≡ b → a ≡ is_lt (ordering_then (cond a Less (cond b Equal Greater)) (key_cmp xs []))
    by true s b t = refl
    by false s true t = sym (behind xs)
    by false s false t = refl

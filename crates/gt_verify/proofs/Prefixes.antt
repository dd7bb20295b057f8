-- Texts in byte order, and texts that begin with others.
use Rattle.std.proofs.Common.{◌≡◌, ℕ, Bool, true, false, ◌&&◌, List, [], ◌∷◌, ◌++◌, length, take, drop, refl, sym, ap, ◌∙◌, nat_eq}
use Rattle.std.specs.declared.cmp.Ordering.{Ordering}
use Rattle.std.specs.declared.cmp.Ordering.TheVariants.{Less, Equal, Greater}
use Rattle.std.specs.List.{starts_with}
use Rattle.std.specs.Ordering.{nat_cmp, is_lt, is_gt, ordering_then, ordering_reverse}
use Rattle.std.specs.Cmp.{tied_itself, upto, nat_cmp_total, nat_eq_equiv}
use Rattle.std.specs.Cmp.Lexicographic.{pointwise, same_text, nat_list_cmp_total, nat_list_eq_equiv}
use Rattle.std.specs.FinMap.{nat_cmp-IsAntisymmetric}
use Rattle.std.proofs.lemmas.List.{take-append-drop}
use Rattle.std.proofs.Math.Seq.{take-append_seam}
use Rattle.gt_model.specs.Contents.{key_cmp}
use Rattle.gt_verify.proofs.InOrder.{key_cmp-same}

-- ---- the order

not_gt_flip : (o : Ordering) → is_lt o ≡ false → is_gt (ordering_reverse o) ≡ false
not_gt_flip Less e = cc
not_gt_flip Equal e = refl
not_gt_flip Greater e = refl

not_lt_flip : (o : Ordering) → is_gt o ≡ false → is_lt (ordering_reverse o) ≡ false
not_lt_flip Less e = refl
not_lt_flip Equal e = refl
not_lt_flip Greater e = cc

-- where y isn't below x, x isn't above y
pub up_to : (x y : List ℕ) → is_lt (key_cmp y x) ≡ false → is_gt (key_cmp x y) ≡ false
up_to x y h = ap is_gt (nat_list_cmp_total.antisymm x y) ∙ not_gt_flip (key_cmp y x) h

pub not_below : (x y : List ℕ) → is_gt (key_cmp x y) ≡ false → is_lt (key_cmp y x) ≡ false
not_below x y h = ap is_lt (nat_list_cmp_total.antisymm y x) ∙ not_lt_flip (key_cmp x y) h

pub up_to-trans : (x y z : List ℕ) → is_gt (key_cmp x y) ≡ false → is_gt (key_cmp y z) ≡ false → is_gt (key_cmp x z) ≡ false
up_to-trans x y z = upto nat_list_cmp_total x y z

pub up_to-same : (x : List ℕ) → is_gt (key_cmp x x) ≡ false
up_to-same x = ap is_gt (tied_itself nat_list_cmp_total x)

both_equal : (o : Ordering) → is_gt o ≡ false → is_lt o ≡ false → o ≡ Equal
both_equal Less g l = cc
both_equal Equal g l = refl
both_equal Greater g l = cc

pub up_to-both : (x y : List ℕ) → is_gt (key_cmp x y) ≡ false → is_lt (key_cmp x y) ≡ false → x ≡ y
up_to-both x y g l = key_cmp-same x y (both_equal (key_cmp x y) g l)

-- ---- fronts

-- a front isn't above the whole
pub front_up_to : (p r : List ℕ) → is_gt (key_cmp p (p ++ r)) ≡ false
front_up_to [] [] = refl
front_up_to [] (x ∷ r) = refl
front_up_to (a ∷ p) r = ap (λ (o : Ordering). is_gt (ordering_then o (key_cmp p (p ++ r)))) (tied_itself nat_cmp_total a) ∙ front_up_to p r

-- what begins with a text is that text and a rest
pub rest_of : (q p : List ℕ) → starts_with nat_eq q p ≡ true → q ≡ p ++ drop (length p) q
rest_of q p t = sym (take-append-drop (length p) q) ∙ ap (λ (f : List ℕ). f ++ drop (length p) q) (sym (same_text p (take (length p) q) (sym t)))

pub begins : (p r : List ℕ) → starts_with nat_eq (p ++ r) p ≡ true
begins p r = ap (pointwise nat_eq p) (take-append_seam p r) ∙ nat_list_eq_equiv.refl p

pub begins_up_to : (q p : List ℕ) → starts_with nat_eq q p ≡ true → is_gt (key_cmp p q) ≡ false
begins_up_to q p t = ap (λ (x : List ℕ). is_gt (key_cmp p x)) (rest_of q p t) ∙ front_up_to p (drop (length p) q)

-- what lies between a text and one that begins with it begins with it too
pub between : (p x r : List ℕ) → is_lt (key_cmp x p) ≡ false → is_gt (key_cmp x (p ++ r)) ≡ false → starts_with nat_eq x p ≡ true
between [] x r g l = refl
between (a ∷ p) [] r g l = cc
between (a ∷ p) (b ∷ x) r g l =
    elim (nat_cmp b a) as (λ o. nat_cmp b a ≡ o → is_lt (ordering_then o (key_cmp x p)) ≡ false → is_gt (ordering_then o (key_cmp x (p ++ r))) ≡ false → (nat_eq a b && pointwise nat_eq p (take (length p) x)) ≡ true) [
      | Less ↦ λ e h k. cc
      | Greater ↦ λ e h k. cc
      | Equal ↦ λ e h k. ap (λ (n : ℕ). nat_eq a n && pointwise nat_eq p (take (length p) x)) (nat_cmp-IsAntisymmetric b a e)
          ∙ ap (λ (t : Bool). t && pointwise nat_eq p (take (length p) x)) (nat_eq_equiv.refl a) ∙ between p x r h k
    ] refl g l

-- What a tree has at each key after `retain`.
use Rattle.std.proofs.Common.{◌≡◌, ℕ, Bool, true, false, cond, List, [], ◌∷◌, Option, Some, None, refl, sym, ap, ◌∙◌, subst, map as list_map}
use Rattle.std.specs.BTreeMap.{is_at}
use Rattle.std.specs.List.{AllByRecursion}
use Rattle.std.specs.List.Sorted.{IsStrictlySortedBy}
use Rattle.std.specs.Map.Calls.{RetainsPairs}
use Rattle.std.specs.Ordering.{is_eq}
use Rattle.std.specs.declared.cmp.Ordering.TheVariants.{Less}
use Rattle.gt_model.specs.Contents.{key_cmp}
use Rattle.gt_versions.proofs.Keys.{at_key}
use Rattle.gt_objset.specs.Raised.{Retained}
use Rattle.gt_objset.proofs.MemberLaws.{same_key}

module _ {X : Type 0} where
  -- a key that stands before the others is none of them
  not_later : (x k : List ℕ) (es : List (List ℕ × X)) → is_at (key_cmp x) k ≡ true → AllByRecursion (λ y. key_cmp k y ≡ Less) (list_map (λ e. e.0) es) → at_key es x ≡ None
  not_later x k [] t h = refl
  not_later x k (e ∷ es) t h =
      let off : is_at (key_cmp x) e.0 ≡ false = ap (λ q. is_eq (key_cmp q e.0)) (same_key x k t) ∙ ap is_eq h.0 in
      ap (λ b. cond b (Some e.1) (at_key es x)) off ∙ not_later x k es t h.1

  module _ {F : Type 0} (T : F → List ℕ → X → Bool → X → F → Type 0) (P : X → X → Type 0) (test : X → Bool) (f : F)
      (each : (k : List ℕ) (v : X) (b : Bool) (w : X) (g : F) → T f k v b w g → (b ≡ test w) × P v w × (g ≡ f)) where
    pub retained : (es kept : List (List ℕ × X)) → IsStrictlySortedBy key_cmp (list_map (λ e. e.0) es) → RetainsPairs T f es kept → (x : List ℕ) → Retained P test (at_key es x) (at_key kept x)
    unfolding IsStrictlySortedBy
    retained [] kept s h x = ap (λ l. at_key l x) h
    retained (e ∷ es) kept s h x =
        let told = each e.0 e.1 h.0 h.1 h.2 h.4 in
        let G : F → Type 0 = λ g. RetainsPairs T g es h.3 in
        by h.0 h.1 h.3 told.0 told.1 h.6 s.0 (retained es h.3 s.1 (subst G told.2 h.5) x) (is_at (key_cmp x) e.0) refl
      where
        by : (b : Bool) (w : X) (rest : List (List ℕ × X)) → b ≡ test w → P e.1 w → kept ≡ cond b ((e.0, w) ∷ rest) rest → AllByRecursion (λ y. key_cmp e.0 y ≡ Less) (list_map (λ e. e.0) es)
            → Retained P test (at_key es x) (at_key rest x) → (c : Bool) → is_at (key_cmp x) e.0 ≡ c → Retained P test (cond c (Some e.1) (at_key es x)) (at_key kept x)
        by b w rest i p k s ih true t = (w, p, ap (λ l. at_key l x) k ∙ of_true b ∙ ap (λ b. cond b (Some w) None) i)
          where
            none : at_key rest x ≡ None
            none = let Q : Option X → Type 0 = λ o. Retained P test o (at_key rest x) in subst Q (not_later x e.0 es t s) ih

            of_true : (b : Bool) → at_key (cond b ((e.0, w) ∷ rest) rest) x ≡ cond b (Some w) None
            of_true true = ap (λ c. cond c (Some w) (at_key rest x)) t
            of_true false = none
        by b w rest i p k s ih false t = let Q : Option X → Type 0 = λ o. Retained P test (at_key es x) o in subst Q (sym (ap (λ l. at_key l x) k ∙ of_false b)) ih
          where
            of_false : (b : Bool) → at_key (cond b ((e.0, w) ∷ rest) rest) x ≡ at_key rest x
            of_false true = ap (λ c. cond c (Some w) (at_key rest x)) t
            of_false false = refl

-- Lists of entries in the order of their keys.
use Rattle.std.proofs.Common.{◌≡◌, ℕ, Bool, true, false, cond, ◌&&◌, T, List, [], ◌∷◌, ◌++◌, Some, None, refl, sym, ap, ◌∙◌, subst}
use Rattle.std.specs.declared.cmp.Ordering.{Ordering}
use Rattle.std.specs.declared.cmp.Ordering.TheVariants.{Less, Equal, Greater}
use Rattle.std.specs.Ordering.{is_lt, is_eq}
use Rattle.std.specs.Cmp.Lexicographic.{nat_list_cmp_total}
use Rattle.std.specs.FinMap.{is_sorted}
use Rattle.std.specs.FinMap.Entries.{below_all}
use Rattle.gt_model.specs.Contents.{key_cmp}
use Rattle.gt_versions.proofs.Keys.{at_key, flip}
use Rattle.gt_slots.specs.Pages.{is_before, AllBefore, NoneBefore, ends_before}

pub both : (a b : Bool) → T a → T b → T (a && b)
both true b p q = q
both false b p q = absurd p

pub front_of : (a b : Bool) → T (a && b) → T a
front_of true b p = tt
front_of false b p = p

pub back_of : (a b : Bool) → T (a && b) → T b
back_of true b p = p
back_of false b p = absurd p

less_of : (o : Ordering) → T (is_lt o) → o ≡ Less
less_of Less h = refl
less_of Equal h = absurd h
less_of Greater h = absurd h

pub less_by : (o : Ordering) → is_lt o ≡ true → o ≡ Less
less_by Less h = refl
less_by Equal h = let no : ⊥ = cc in absurd no
less_by Greater h = let no : ⊥ = cc in absurd no

lt_of : (o : Ordering) → o ≡ Less → is_lt o ≡ true
lt_of o e = ap is_lt e

pub T_of : (o : Ordering) → o ≡ Less → T (is_lt o)
T_of o e = subst (λ r. T (is_lt r)) (sym e) tt

apart : (o : Ordering) → is_lt o ≡ true → is_eq o ≡ false
apart Less h = refl
apart Equal h = let no : ⊥ = cc in absurd no
apart Greater h = let no : ⊥ = cc in absurd no

-- what is before one that is before a text is before it
pub before_less : (a b t : List ℕ) → T (is_lt (key_cmp a b)) → is_before b t ≡ true → is_before a t ≡ true
before_less a b t l h = lt_of (key_cmp a t) (nat_list_cmp_total.trans a b t (less_of (key_cmp a b) l) (less_by (key_cmp b t) h))

-- what is behind one that isn't before a text isn't either
pub after_more : (a b t : List ℕ) → T (is_lt (key_cmp a b)) → is_before a t ≡ false → is_before b t ≡ false
after_more a b t l h = by (is_before b t) refl
  where
    by : (c : Bool) → is_before b t ≡ c → c ≡ false
    by true e = let yes : is_before a t ≡ true = before_less a b t l e in let no : ⊥ = cc in absurd no
    by false e = refl

module _ {X : Type 0} where
  pub sorted_left : (xs ys : List (List ℕ × X)) → T (is_sorted key_cmp (xs ++ ys)) → T (is_sorted key_cmp xs)
  sorted_left [] ys h = tt
  sorted_left (x ∷ xs) ys h = both (below_all key_cmp x.0 xs) (is_sorted key_cmp xs) (left xs (front_of (below_all key_cmp x.0 (xs ++ ys)) (is_sorted key_cmp (xs ++ ys)) h)) (sorted_left xs ys (back_of (below_all key_cmp x.0 (xs ++ ys)) (is_sorted key_cmp (xs ++ ys)) h))
    where
      left : (zs : List (List ℕ × X)) → T (below_all key_cmp x.0 (zs ++ ys)) → T (below_all key_cmp x.0 zs)
      left [] b = tt
      left (z ∷ zs) b = both (is_lt (key_cmp x.0 z.0)) (below_all key_cmp x.0 zs) (front_of (is_lt (key_cmp x.0 z.0)) (below_all key_cmp x.0 (zs ++ ys)) b) (left zs (back_of (is_lt (key_cmp x.0 z.0)) (below_all key_cmp x.0 (zs ++ ys)) b))

  pub sorted_right : (xs ys : List (List ℕ × X)) → T (is_sorted key_cmp (xs ++ ys)) → T (is_sorted key_cmp ys)
  sorted_right [] ys h = h
  sorted_right (x ∷ xs) ys h = sorted_right xs ys (back_of (below_all key_cmp x.0 (xs ++ ys)) (is_sorted key_cmp (xs ++ ys)) h)

  -- ---- all before, none before

  pub before-append : (t : List ℕ) (xs ys : List (List ℕ × X)) → AllBefore t xs → AllBefore t ys → AllBefore t (xs ++ ys)
  before-append t [] ys a b = b
  before-append t (x ∷ xs) ys a b = (a.0, before-append t xs ys a.1 b)

  pub all_before : (t : List ℕ) (es : List (List ℕ × X)) → T (is_sorted key_cmp es) → ends_before t es ≡ true → AllBefore t es
  all_before t [] s h = tt
  all_before t (e ∷ []) s h = (h, tt)
  all_before t (e ∷ f ∷ es) s h =
      let more : AllBefore t (f ∷ es) = all_before t (f ∷ es) (back_of (below_all key_cmp e.0 (f ∷ es)) (is_sorted key_cmp (f ∷ es)) s) h in
      (before_less e.0 f.0 t (front_of (is_lt (key_cmp e.0 f.0)) (below_all key_cmp e.0 es) (front_of (below_all key_cmp e.0 (f ∷ es)) (is_sorted key_cmp (f ∷ es)) s)) more.0, more)

  pub ends_all : (t : List ℕ) (es : List (List ℕ × X)) → AllBefore t es → ends_before t es ≡ true
  ends_all t [] h = refl
  ends_all t (e ∷ []) h = h.0
  ends_all t (e ∷ f ∷ es) h = ends_all t (f ∷ es) h.1

  none_behind : (a t : List ℕ) (es : List (List ℕ × X)) → is_before a t ≡ false → T (below_all key_cmp a es) → NoneBefore t es
  none_behind a t [] h b = tt
  none_behind a t (e ∷ es) h b = (after_more a e.0 t (front_of (is_lt (key_cmp a e.0)) (below_all key_cmp a es) b) h, none_behind a t es h (back_of (is_lt (key_cmp a e.0)) (below_all key_cmp a es) b))

  pub none_before : (t : List ℕ) (e : List ℕ × X) (es : List (List ℕ × X)) → T (is_sorted key_cmp (e ∷ es)) → is_before e.0 t ≡ false → NoneBefore t (e ∷ es)
  none_before t e es s h = (h, none_behind e.0 t es h (front_of (below_all key_cmp e.0 es) (is_sorted key_cmp es) s))

  -- ---- look-ups

  pub look_past : (q : List ℕ) (xs ys : List (List ℕ × X)) → AllBefore q xs → at_key (xs ++ ys) q ≡ at_key ys q
  look_past q [] ys h = refl
  look_past q (x ∷ xs) ys h = ap (λ b. cond b (Some x.1) (at_key (xs ++ ys) q)) (flip q x.0 ∙ apart (key_cmp x.0 q) h.0) ∙ look_past q xs ys h.1

  pub none_above : (q : List ℕ) (es : List (List ℕ × X)) → T (below_all key_cmp q es) → at_key es q ≡ None
  none_above q [] h = refl
  none_above q (e ∷ es) h =
      ap (λ b. cond b (Some e.1) (at_key es q)) (ap is_eq (less_of (key_cmp q e.0) (front_of (is_lt (key_cmp q e.0)) (below_all key_cmp q es) h)))
      ∙ none_above q es (back_of (is_lt (key_cmp q e.0)) (below_all key_cmp q es) h)

  pub below_less : (a b : List ℕ) (es : List (List ℕ × X)) → key_cmp a b ≡ Less → T (below_all key_cmp b es) → T (below_all key_cmp a es)
  below_less a b [] l h = tt
  below_less a b (e ∷ es) l h =
      both (is_lt (key_cmp a e.0)) (below_all key_cmp a es)
      (T_of (key_cmp a e.0) (nat_list_cmp_total.trans a b e.0 l (less_of (key_cmp b e.0) (front_of (is_lt (key_cmp b e.0)) (below_all key_cmp b es) h))))
      (below_less a b es l (back_of (is_lt (key_cmp b e.0)) (below_all key_cmp b es) h))

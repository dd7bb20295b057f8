-- What a text that keeps the rules is like, and which of two texts is less.
use Rattle.std.proofs.Common.{◌≡◌, ℕ, ◌<◌, Bool, true, false, not, cond, ltb, List, [], ◌∷◌, ◌++◌, length, get_or, Option, Some, None, position, refl, sym, arith}
use Rattle.std.proofs.lemmas.Bool.Decides.{nat_tests}
use Rattle.std.proofs.lemmas.List.Sums.{fails_before_first}
use Rattle.std.specs.List.{position_or_len}
use Rattle.std.specs.declared.cmp.Ordering.TheVariants.{Less, Equal}
use Rattle.std.specs.Ordering.{nat_cmp}
use Rattle.std.specs.Cmp.{nat_cmp_is}
use Rattle.std.specs.Cmp.Lexicographic.{slice_cmp}
use Rattle.gt_name.specs.Broken.{or_else}
use Rattle.gt_name.specs.Paths.{bad_path, path_byte}
use Rattle.gt_name.specs.References.{bad_ref, by_rule, ref_length, ref_begin, ref_byte}

-- ---- the order of bytes

pub less_where_differ : (same left right : List ℕ) (a b : ℕ) → a < b → slice_cmp nat_cmp (same ++ a ∷ left) (same ++ b ∷ right) ≡ Less
less_where_differ [] left right a b below = rw (sym (nat_cmp_is a b Less below)) refl
less_where_differ (x ∷ same) left right a b below = rw (sym (nat_cmp_is x x Equal refl)) (less_where_differ same left right a b below)

pub less_where_shorter : (same rest : List ℕ) (next : ℕ) → slice_cmp nat_cmp same (same ++ next ∷ rest) ≡ Less
less_where_shorter [] rest next = refl
less_where_shorter (x ∷ same) rest next = rw (sym (nat_cmp_is x x Equal refl)) (less_where_shorter same rest next)

-- ---- no rule is broken

none_left : {A : Type 0} (a b : Option A) → or_else a b ≡ None → (a ≡ None) × (b ≡ None)
none_left None b e = (refl, e)
none_left (Some x) b e = cc

none_by_rule : (rule : ℕ) (broken : Option ℕ) → by_rule rule broken ≡ None → broken ≡ None
none_by_rule rule None e = refl
none_by_rule rule (Some at) e = cc

-- where a test gives a place, it failed; where it gives none, it passed
pub failed : {A : Type 0} (b : Bool) (x : A) → cond b (Some x) None ≡ None → b ≡ false
failed true x e = cc
failed false x e = refl

pub passed : {A : Type 0} (b : Bool) (x : A) → cond b None (Some x) ≡ None → b ≡ true
passed true x e = refl
passed false x e = cc

-- where no element passes, each fails
pub all_fail : (p : ℕ → Bool) (t : List ℕ) → position p t ≡ None → (k d : ℕ) → k < length t → p (get_or t k d) ≡ false
all_fail p t e k d within =
    let none = failed (ltb (position_or_len p t) (length t)) (position_or_len p t) e in
    fails_before_first p t k d (grind (arith, nat_tests, none))

pub not_false : (b : Bool) → not b ≡ false → b ≡ true
not_false true e = refl
not_false false e = cc

-- what a reference's name keeps
pub kept_by_reference : (t : List ℕ) → bad_ref t ≡ None → (ref_length t ≡ None) × (ref_begin t ≡ None) × (ref_byte t ≡ None)
unfolding bad_ref
kept_by_reference t e =
    let long = none_left _ _ e in
    let begin = none_left _ _ long.1 in
    let byte = none_left _ _ begin.1 in
    (none_by_rule 1 _ long.0, none_by_rule 2 _ begin.0, none_by_rule 3 _ byte.0)

-- what a path keeps
pub kept_by_path : (t : List ℕ) → bad_path t ≡ None → path_byte t ≡ None
kept_by_path t e = (none_left _ _ (none_left _ _ e).1).0

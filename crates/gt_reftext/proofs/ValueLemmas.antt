-- No reference that was read has the value of no object.
use Rattle.std.proofs.Common.{◌≡◌, ℕ, zero, suc, ◌+◌, Bool, true, false, not, cond, eqb, ltb, List, [], ◌∷◌, length, take, drop, map, slice_index, Option, Some, None, Result, Ok, Err, refl, subst, arith}
use Rattle.std.specs.Prelude.{codes, nat_eq, is_none, IfOk, option_and_then}
use Rattle.std.specs.List.{AllByRecursion, AllPass, starts_with}
use Rattle.std.specs.Ordering.{nat_cmp, match_ordering}
use Rattle.std.specs.declared.cmp.Ordering.TheVariants.{Less, Equal, Greater}
use Rattle.std.specs.Cmp.Lexicographic.{slice_cmp}
use Rattle.std.specs.BTreeMap.{insert_entry}
use Rattle.gt_name.specs.References.{bad_ref}
use Rattle.gt_reftext.specs.declared.packed_ref.PackedRef.{PackedRef}
use Rattle.gt_reftext.specs.declared.error.RefTextError.{RefTextError}
use Rattle.gt_reftext.specs.Lines.{parts_of, name_of, ref_line, is_zero, is_header, good_reference}
use Rattle.gt_reftext.specs.Packed.{Entry, PackedSoFar, put, has_name, with_ref, with_peeled, after_line, or_bad, read_parts, read_from, to_ref, list_of, packed_of}
use Rattle.gt_reftext.specs.Answers.{Gives}

-- ---- entries and lines so far

abbrev IsObject : List ℕ → Type 0
IsObject value = is_zero value ≡ false

abbrev AreObjects : List Entry → Type 0
AreObjects es = AllByRecursion (λ e. IsObject e.1.0) es

abbrev LastIsObject : Option PackedRef → Type 0
LastIsObject None = Unit {0}
LastIsObject (Some r) = IsObject r.value

abbrev Holds : PackedSoFar → Type 0
Holds s = AreObjects s.0 × LastIsObject s.1

insert_holds : (es : List Entry) (k : List ℕ) (v : List ℕ × Option (List ℕ)) → AreObjects es → IsObject v.0 → AreObjects (insert_entry (slice_cmp nat_cmp) es k v)
insert_holds [] k v h g = (g, tt)
insert_holds (e ∷ es) k v h g =
    elim (slice_cmp nat_cmp k e.0) as (λ o. AreObjects (match_ordering o ((k, v) ∷ e ∷ es) ((e.0, v) ∷ es) (e ∷ insert_entry (slice_cmp nat_cmp) es k v))) [
      | Less ↦ (g, h)
      | Equal ↦ (g, h.1)
      | Greater ↦ (h.0, insert_holds es k v h.1 g)
    ]

put_holds : (es : List Entry) (last : Option PackedRef) → AreObjects es → LastIsObject last → AreObjects (put es last)
put_holds es None h g = h
put_holds es (Some r) h g = insert_holds es r.name (r.value, r.peeled) h g

-- ---- one line

abbrev some : {A : Type 0} → A → Option A
some x = Some x

is_some : {A : Type 0} (x y : A) → some x ≡ Some y → x ≡ y
is_some x y e = cc

no_some : {A : Type 0} (y : A) (X : Type 0) → (let n : Option A = None in n) ≡ Some y → X
no_some y X e = absurd cc

-- what holds on both ways of a test
both : {A : Type 0} (c : Bool) (o p : Option A) (y : A) (X : Type 0) → (o ≡ Some y → X) → (p ≡ Some y → X) → cond c o p ≡ Some y → X
both true o p y X f g e = f e
both false o p y X f g e = g e

abbrev plain : List ℕ → List ℕ → PackedRef
plain name value = record { name = name; value = value; peeled = None }

reference_by : (c : Bool) (value name : List ℕ) (r : PackedRef) → is_zero value ≡ c → cond c None (cond (is_none (bad_ref name)) (some (plain name value)) None) ≡ Some r → IsObject r.value
reference_by true value name r t e = no_some r (IsObject r.value) e
reference_by false value name r t e =
    both (is_none (bad_ref name)) (some (plain name value)) None r (IsObject r.value) (λ g. subst (λ (q : PackedRef). IsObject q.value) (is_some (plain name value) r g) t) (no_some r (IsObject r.value)) e

reference_holds : (value name : List ℕ) (r : PackedRef) → good_reference value name ≡ Some r → IsObject r.value
reference_holds value name r e = reference_by (is_zero value) value name r refl e

named_holds : (name : Option (List ℕ)) (text : List ℕ) (r : PackedRef) → option_and_then (λ value. good_reference value text) name ≡ Some r → IsObject r.value
named_holds None text r e = no_some r (IsObject r.value) e
named_holds (Some value) text r e = reference_holds value text r e

line_holds : (line : List ℕ) (r : PackedRef) → ref_line line ≡ Some r → IsObject r.value
unfolding ref_line
line_holds line r e =
    let X : Type 0 = IsObject r.value in
    let found : Option PackedRef = option_and_then (λ value. good_reference value (drop 41 line)) (name_of (take 40 line)) in
    both (ltb (length line) 41) None (cond (eqb (slice_index line 40) 32) found None) r X (no_some r X)
    (both (eqb (slice_index line 40) 32) found None r X (named_holds (name_of (take 40 line)) (drop 41 line) r) (no_some r X)) e

with_ref_holds : (s : PackedSoFar) (found : Option PackedRef) (next : PackedSoFar) → Holds s → ((r : PackedRef) → found ≡ Some r → IsObject r.value) → with_ref s found ≡ Some next → Holds next
with_ref_holds s None next h g e = no_some next (Holds next) e
with_ref_holds s (Some r) next h g e =
    let made : PackedSoFar = (put s.0 s.1, Some r) in
    let holds : Holds made = (put_holds s.0 s.1 h.0 h.1, g r refl) in
    both (has_name s r.name) None (some made) next (Holds next) (no_some next (Holds next)) (λ f. subst Holds (is_some made next f) holds) e

with_peeled_holds : (es : List Entry) (last : Option PackedRef) (name : Option (List ℕ)) (next : PackedSoFar) → Holds (es, last) → with_peeled es last name ≡ Some next → Holds next
with_peeled_holds es None name next h e = no_some next (Holds next) e
with_peeled_holds es (Some r) None next h e = no_some next (Holds next) e
with_peeled_holds es (Some r) (Some p) next h e =
    let made : PackedSoFar = (es, Some (record { name = r.name; value = r.value; peeled = Some p })) in
    both (is_none r.peeled) (some made) None next (Holds next) (λ f. subst Holds (is_some made next f) h) (no_some next (Holds next)) e

after_holds : (n : ℕ) (s : PackedSoFar) (line : List ℕ) (next : PackedSoFar) → Holds s → after_line n s line ≡ Some next → Holds next
unfolding after_line
after_holds n s line next h e =
    let peeled : Option PackedSoFar = with_peeled s.0 s.1 (name_of (drop 1 line)) in
    let named : Option PackedSoFar = with_ref s (ref_line line) in
    let caret : Bool = starts_with nat_eq line (codes "^") in
    both (is_header n line) (some s) (cond caret peeled named) next (Holds next)
    (λ f. subst Holds (is_some s next f) h)
    (both caret peeled named next (Holds next) (with_peeled_holds s.0 s.1 (name_of (drop 1 line)) next h) (with_ref_holds s (ref_line line) next h (line_holds line)))
    e

-- ---- all lines

went_on : {A B : Type 0} (n : ℕ) (o : Option A) (f : A → Result B ℕ) (y : B) → or_bad n o f ≡ Ok y → (x : A) × (o ≡ Some x) × (f x ≡ Ok y)
went_on n None f y e = absurd cc
went_on n (Some x) f y e = (x, refl, e)

kept : {A : Type 0} (c : Bool) (n : ℕ) (x y : A) → cond c (Ok x) (Err n) ≡ Ok y → x ≡ y
kept true n x y e = cc
kept false n x y e = absurd cc

parts_hold : (more : List (List ℕ)) (part : List ℕ) (n : ℕ) (s t : PackedSoFar) → Holds s → read_parts s n part more ≡ Ok t → Holds t
parts_hold [] part n s t h e = subst Holds (kept (eqb (length part) 0) n s t e) h
parts_hold (next ∷ more) part n s t h e =
    let w = went_on n (after_line n s part) (λ u. read_parts u (n + 1) next more) t e in
    parts_hold more next (n + 1) w.0 t (after_holds n s part w.0 h w.1) w.2

from_holds : (n : ℕ) (s t : PackedSoFar) (text : List ℕ) → Holds s → read_from s n text ≡ Ok t → Holds t
unfolding read_from
from_holds n s t text h e = parts_hold (parts_of text).1 (parts_of text).0 n s t h e

abbrev NoneIsZero : List PackedRef → Type 0
NoneIsZero list = AllPass (λ r. not (is_zero r.value)) list

values_pass : (es : List Entry) → AreObjects es → NoneIsZero (map to_ref es)
values_pass [] h k d lt = absurd (omega (arith, lt))
values_pass (e ∷ es) h zero d lt = rw h.0 refl
values_pass (e ∷ es) h (suc k) d lt = values_pass es h.1 k d (omega (arith, lt))

abbrev done : {A : Type 0} → A → Result A ℕ
done x = Ok x

is_done : {A : Type 0} (x y : A) → done x ≡ Ok y → x ≡ y
is_done x y e = cc

list_holds : (r : Result PackedSoFar ℕ) (list : List PackedRef) → ((t : PackedSoFar) → r ≡ Ok t → Holds t) → list_of r ≡ Ok list → NoneIsZero list
list_holds (Ok t) list h e = subst NoneIsZero (is_done (map to_ref (put t.0 t.1)) list e) (values_pass (put t.0 t.1) (put_holds t.0 t.1 (h t refl).0 (h t refl).1))
list_holds (Err n) list h e = absurd cc

pub none_is_zero : (text : List ℕ) (r : Result (List PackedRef) RefTextError) → Gives r (packed_of text) → IfOk r (AllPass (λ r. not (is_zero r.value)))
none_is_zero text (Ok list) given = list_holds (read_from ([], None) 1 text) list (λ t e. from_holds 1 ([], None) t text (tt, tt) e) given
none_is_zero text (Err e) given = tt

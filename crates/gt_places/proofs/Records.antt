-- The records that a write adds stand where they are placed.
use Rattle.std.proofs.Common.{◌≡◌, ◌⊎◌, inl, ℕ, ◌+◌, Bool, true, false, cond, List, [], ◌∷◌, ◌++◌, length, take, drop, Option, Some, None, refl, sym, ◌∙◌, ap, subst, arith, length-append, append_assoc, slice_get, slice_range}
use Rattle.std.proofs.lemmas.List.{drop_at, take_at}
use Rattle.std.specs.List.{AllByRecursion, flat_map}
use Rattle.std.specs.Option.{unwrap_or}
use Rattle.std.specs.Ordering.{eq_by_cmp}
use Rattle.std.specs.Int.{w32, to_be_bytes}
use Rattle.std.specs.Cmp.Lexicographic.{nat_list_cmp_total}
use Rattle.std.specs.FinMap as map
use Rattle.std.specs.FinMap.{get-insert}
use Rattle.gt_bytes.proofs.StandingLaws.{range_is}
use Rattle.gt_object.specs.Whole.{why_not}
use Rattle.gt_model.specs.declared.added.Added.{Added}
use Rattle.gt_model.specs.declared.entry.Entry.{Entry}
use Rattle.gt_model.specs.Contents.{Names, key_cmp, with_added}
use Rattle.gt_model.proofs.Values.{some_same}
use Rattle.gt_entry.specs.Spelling.{item, spelling}
use Rattle.gt_entry.specs.Fits.{IsAdded}
use Rattle.gt_objset.specs.declared.place.Place.{Place}
use Rattle.gt_objset.specs.Places.{placed, last_put}
use Rattle.gt_places.specs.Standing.{StandsAt}
use Rattle.gt_places.proofs.Cases.{AreGood}

-- what is said of records of a base, beside those of a log's entries
abbrev pub Bases : Type 1
Bases = List ℕ → Place → Type 0

-- the record stands at the place, with its length there, and is a good one; or it is of the base
abbrev pub IsGood : Bases → ℕ → List Entry → List ℕ → Place → Type 0
IsGood Base begin log whole place = (StandsAt begin log place whole × (place.len ≡ length whole) × (why_not whole ≡ None)) ⊎ Base whole place

-- what is between a front and a rest
range_between : (bytes front part rest : List ℕ) (at : ℕ) → at ≡ length front → bytes ≡ front ++ (part ++ rest) → slice_range bytes at (at + length part) ≡ part
range_between bytes front part rest at begins is =
    range_is bytes at (length part)
    ∙ ap (λ (b : List ℕ). take (length part) (drop at b)) is
    ∙ ap (take (length part)) (drop_at front (part ++ rest) at (sym begins))
    ∙ take_at part rest (length part) refl

some_place : (p q : Place) → Some p ≡ Some q → p ≡ q
some_place p q e = ap (λ o. unwrap_or o p) e

module _ (Base : Bases) (start : ℕ) (log : List Entry) (index number : ℕ) (e : Entry) (there : slice_get log index ≡ Some e) (numbered : number ≡ index + (start + 1)) where
  -- the place of an added record whose item begins here
  abbrev place_of : ℕ → Added → Place
  place_of begin a = record { file = record { kind = 4; number = number }; at = begin + 24; len = length a.whole }

  -- an item: the name and the length, 24 bytes, and then the record
  item_good : (front rest : List ℕ) (begin : ℕ) (a : Added) → IsAdded a → begin ≡ length front → spelling e ≡ front ++ (item a ++ rest) → IsGood Base start log a.whole (place_of begin a)
  item_good front rest begin a typed begins is =
      let head : List ℕ = a.name ++ to_be_bytes w32 (length a.whole) in
      let name : length a.name ≡ 20 = typed.name in
      let ahead : begin + 24 ≡ length (front ++ head) = omega (arith, length-append front head, length-append a.name (to_be_bytes w32 (length a.whole))) in
      let parts : spelling e ≡ (front ++ head) ++ (a.whole ++ rest) = is ∙ simp append_assoc in inl (
        record {
          number = index;
          entry = e;
          file = ap (λ (n : ℕ). record { kind = 4; number = n }) numbered;
          there = there;
          stands = range_between (spelling e) (front ++ head) a.whole rest (begin + 24) ahead parts;
        },
        refl,
        typed.whole,
      )

  item_length : (a : Added) → IsAdded a → length (item a) ≡ 24 + length a.whole
  item_length a typed =
      let name : length a.name ≡ 20 = typed.name in
      omega (arith, length-append a.name (to_be_bytes w32 (length a.whole) ++ a.whole))

  -- a name that is added gets the last of its records, and the place of that one
  pub added_good : (added : List Added) (front : List ℕ) (begin : ℕ) → AllByRecursion IsAdded added → begin ≡ length front → spelling e ≡ front ++ flat_map item added
      → (m : Names) (x : List ℕ) (found : Option (Option Place)) (old : Option Place) → AreGood (IsGood Base start log) (map.get m x) (unwrap_or found old)
      → AreGood (IsGood Base start log) (map.get (with_added m added) x) (unwrap_or (last_put (placed number begin added) x found) old)
  added_good [] front begin typed begins is m x found old good = good
  added_good (a ∷ rest) front begin typed begins is m x found old good =
      let longer : begin + 24 + length a.whole ≡ length (front ++ item a) = omega (arith, length-append front (item a), item_length a typed.0) in
      added_good rest (front ++ item a) (begin + 24 + length a.whole) typed.1 longer (is ∙ sym (append_assoc front (item a) (flat_map item rest)))
      (map.insert m a.name a.whole) x (cond (eq_by_cmp key_cmp x a.name) (Some (Some (place_of begin a))) found) old by_name
    where
      here : IsGood Base start log a.whole (place_of begin a)
      here = item_good front (flat_map item rest) begin a typed.0 begins is

      by : (b : Bool) → AreGood (IsGood Base start log) (cond b (Some a.whole) (map.get m x)) (unwrap_or (cond b (Some (Some (place_of begin a))) found) old)
      by true = λ whole at is put. subst (λ (p : Place). IsGood Base start log whole p) (some_place (place_of begin a) at put) (subst (λ (w : List ℕ). IsGood Base start log w (place_of begin a)) (some_same a.whole whole is) here)
      by false = good

      by_name : AreGood (IsGood Base start log) (map.get (map.insert m a.name a.whole) x) (unwrap_or (cond (eq_by_cmp key_cmp x a.name) (Some (Some (place_of begin a))) found) old)
      by_name whole at is put = by (eq_by_cmp key_cmp x a.name) whole at (sym (get-insert nat_list_cmp_total m a.name a.whole x) ∙ is) put

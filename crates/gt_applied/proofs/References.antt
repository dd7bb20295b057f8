-- The references of a repository whose loose files have new numbers for some names.
use Rattle.std.proofs.Common.{◌≡◌, ℕ, ◌+◌, Bool, true, false, cond, ◌&&◌, T, List, [], ◌∷◌, fold, Option, Some, None, refl, sym, ap, ◌∙◌, map as map_list}
use Rattle.std.specs.Option.{option_map, option_or}
use Rattle.std.specs.Ordering.{eq_by_cmp, is_lt, is_eq}
use Rattle.std.specs.Cmp.Lexicographic.{nat_list_cmp_total}
use Rattle.std.specs.FinMap as map
use Rattle.std.specs.FinMap.{FinMap, find, is_sorted, get-insert, get-empty, get-entries, entries_sorted}
use Rattle.std.specs.FinMap.Entries.{below_all, find_tied}
use Rattle.std.specs.declared.cmp.Ordering.{Ordering}
use Rattle.std.specs.declared.cmp.Ordering.TheVariants.{Less, Equal, Greater}
use Rattle.gt_disk.specs.Files.{Files}
use Rattle.gt_model.specs.Contents.{key_cmp, Names, with_value, with_refs}
use Rattle.gt_model.specs.declared.update.RefUpdate.{RefUpdate}
use Rattle.gt_model.proofs.Repositories.{is_eq-true}
use Rattle.gt_model.proofs.Values.{given, get-with_value}
use Rattle.gt_apply.specs.Plan.{with_update, to_loose}
use Rattle.gt_apply.specs.Steps.{with_numbers}
use Rattle.gt_base.specs.Held.{with_loose}
use Rattle.gt_applied.proofs.Shown.{value_shown, loose_shown}

-- ---- the last value that is written

-- An update is a value over the one before, and later ones come over earlier ones.
updated : (m last : Names) (old : Option (List ℕ)) (us : List RefUpdate) (q : List ℕ) → map.get m q ≡ given (map.get last q) old → map.get (with_refs m us) q ≡ given (map.get (fold with_update last us) q) old
updated m last old [] q h = h
updated m last old (u ∷ us) q h = updated (with_value m u.name u.new) (with_update last u) old us q (get-with_value m u.name u.new q ∙ by u.new)
  where
    check : (b : Bool) → cond b (map.get m q) (map.get m q) ≡ given (map.get last q) old
    check true = h
    check false = h

    put : (b : Bool) (value : List ℕ) → cond b (given (Some value) (map.get m q)) (map.get m q) ≡ given (cond b (Some value) (map.get last q)) old
    put true value = refl
    put false value = h

    by : (new : Option (List ℕ)) → cond (eq_by_cmp key_cmp q u.name) (given new (map.get m q)) (map.get m q) ≡ given (map.get (with_update last (record u { new = new })) q) old
    by None = check (eq_by_cmp key_cmp q u.name)
    by (Some value) = put (eq_by_cmp key_cmp q u.name) value ∙ ap (λ (o : Option (List ℕ)). given o old) (sym (get-insert nat_list_cmp_total last u.name value q))

pub last_value : (m : Names) (us : List RefUpdate) (q : List ℕ) → map.get (with_refs m us) q ≡ given (map.get (fold with_update map.empty us) q) (map.get m q)
last_value m us q = updated m map.empty (map.get m q) us q (sym (ap (λ (o : Option (List ℕ)). given o (map.get m q)) (get-empty key_cmp q)))

-- ---- entries in order

pub both : (a b : Bool) → T (a && b) → T a × T b
both true b h = (tt, h)
both false b h = absurd h

less_apart : (o : Ordering) → T (is_lt o) → is_eq o ≡ false
less_apart Less h = refl
less_apart Equal h = absurd h
less_apart Greater h = absurd h

pub none_below : {X : Type 0} (k : List ℕ) (es : List (List ℕ × X)) → T (below_all key_cmp k es) → find key_cmp k es ≡ None
none_below k [] low = refl
none_below k (e ∷ es) low =
    let parts = both (is_lt (key_cmp k e.0)) (below_all key_cmp k es) low in
    ap (λ b. cond b (Some e.1) (find key_cmp k es)) (less_apart (key_cmp k e.0) parts.0) ∙ none_below k es parts.1

-- what is behind an entry isn't found under its key
pub none_behind : {X : Type 0} (k q : List ℕ) (es : List (List ℕ × X)) → T (below_all key_cmp k es) → eq_by_cmp key_cmp q k ≡ true → find key_cmp q es ≡ None
none_behind k q es low t = sym (find_tied key_cmp nat_list_cmp_total q k (is_eq-true (key_cmp q k) t) es) ∙ none_below k es low

-- ---- loose values over packed ones

pub loose_over : (files : Files) (refs : Names) (es : List (List ℕ × ℕ)) (q : List ℕ) → T (is_sorted key_cmp es)
    → map.get (fold with_loose refs (map_list (loose_shown files) (map_list to_loose es))) q ≡ given (option_map (value_shown files) (find key_cmp q es)) (map.get refs q)
loose_over files refs [] q h = refl
loose_over files refs (e ∷ es) q h =
    let parts = both (below_all key_cmp e.0 es) (is_sorted key_cmp es) h in
    loose_over files (with_value refs e.0 (Some (value_shown files e.1))) es q parts.1
    ∙ ap (given (option_map (value_shown files) (find key_cmp q es))) (get-with_value refs e.0 (Some (value_shown files e.1)) q)
    ∙ by (eq_by_cmp key_cmp q e.0) refl parts.0
  where
    by : (b : Bool) → eq_by_cmp key_cmp q e.0 ≡ b → T (below_all key_cmp e.0 es)
        → given (option_map (value_shown files) (find key_cmp q es)) (cond b (given (Some (value_shown files e.1)) (map.get refs q)) (map.get refs q)) ≡ given (option_map (value_shown files) (cond b (Some e.1) (find key_cmp q es))) (map.get refs q)
    by true t low = ap (λ (o : Option ℕ). given (option_map (value_shown files) o) (given (Some (value_shown files e.1)) (map.get refs q))) (none_behind e.0 q es low t)
    by false t low = refl

-- ---- new numbers

-- Each of these values stands in the file of its number, from this number on.
abbrev pub Valued : Files → ℕ → List (List ℕ × List ℕ) → Type 0
Valued files n [] = Unit {0}
Valued files n (v ∷ vs) = (value_shown files n ≡ v.1) × Valued files (n + 1) vs

-- new values are shown over old ones
pub numbers_over : (files : Files) (m : FinMap key_cmp ℕ) (n : ℕ) (vs : List (List ℕ × List ℕ)) (q : List ℕ) → T (is_sorted key_cmp vs) → Valued files n vs
    → option_map (value_shown files) (map.get (with_numbers m n vs) q) ≡ option_or (find key_cmp q vs) (option_map (value_shown files) (map.get m q))
numbers_over files m n [] q h w = refl
numbers_over files m n (v ∷ vs) q h w =
    let parts = both (below_all key_cmp v.0 vs) (is_sorted key_cmp vs) h in
    numbers_over files (map.insert m v.0 n) (n + 1) vs q parts.1 w.1
    ∙ ap (λ (o : Option ℕ). option_or (find key_cmp q vs) (option_map (value_shown files) o)) (get-insert nat_list_cmp_total m v.0 n q)
    ∙ by (eq_by_cmp key_cmp q v.0) refl parts.0
  where
    by : (b : Bool) → eq_by_cmp key_cmp q v.0 ≡ b → T (below_all key_cmp v.0 vs)
        → option_or (find key_cmp q vs) (option_map (value_shown files) (cond b (Some n) (map.get m q))) ≡ option_or (cond b (Some v.1) (find key_cmp q vs)) (option_map (value_shown files) (map.get m q))
    by true t low = ap (λ (o : Option (List ℕ)). option_or o (Some (value_shown files n))) (none_behind v.0 q vs low t) ∙ ap Some w.0
    by false t low = refl

-- ---- both

given-or : (a b old : Option (List ℕ)) → given (option_or a b) old ≡ given a (given b old)
given-or None b old = refl
given-or (Some x) b old = refl

-- References with new files are the old ones with the updates that these files have the values of.
pub refs_follow : (files : Files) (packed before : Names) (m : FinMap key_cmp ℕ) (n : ℕ) (us : List RefUpdate) (q : List ℕ)
    → before ≡ fold with_loose packed (map_list (loose_shown files) (map_list to_loose (map.entries m)))
    → Valued files n (map.entries (fold with_update map.empty us))
    → map.get (fold with_loose packed (map_list (loose_shown files) (map_list to_loose (map.entries (with_numbers m n (map.entries (fold with_update map.empty us))))))) q ≡ map.get (with_refs before us) q
refs_follow files packed before m n us q is w =
    let last : Names = fold with_update map.empty us in
    let vs : List (List ℕ × List ℕ) = map.entries (fold with_update map.empty us) in
    let news : FinMap key_cmp ℕ = with_numbers m n (map.entries (fold with_update map.empty us)) in
    let old : Option (List ℕ) = option_map (value_shown files) (map.get m q) in
    let was : map.get before q ≡ given (option_map (value_shown files) (map.get m q)) (map.get packed q) =
    ap (λ (r : Names). map.get r q) is ∙ loose_over files packed (map.entries m) q (entries_sorted m) ∙ ap (λ (o : Option ℕ). given (option_map (value_shown files) o) (map.get packed q)) (sym (get-entries m q)) in
    loose_over files packed (map.entries news) q (entries_sorted news)
    ∙ ap (λ (o : Option ℕ). given (option_map (value_shown files) o) (map.get packed q)) (sym (get-entries news q))
    ∙ ap (λ (o : Option (List ℕ)). given o (map.get packed q)) (numbers_over files m n vs q (entries_sorted last) w)
    ∙ given-or (find key_cmp q vs) old (map.get packed q)
    ∙ ap (given (find key_cmp q vs)) (sym was)
    ∙ ap (λ (o : Option (List ℕ)). given o (map.get before q)) (sym (get-entries last q))
    ∙ sym (last_value before us q)

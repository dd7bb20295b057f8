-- The walk over the whole list goes to its end exactly where each file number is in range and stands once, and pools stand.
use Rattle.std.proofs.Common.{◌≡◌, ℕ, ◌+◌, Bool, true, false, cond, eqb, List, [], ◌∷◌, ◌++◌, length, Result, Ok, Err, refl, sym, ap, subst, ◌∙◌, arith}
use Rattle.std.specs.Prelude.{◌↔◌, IsTrue, is_ok, nat_eq, nat_le, nat_lt, not, ◌&&◌, ◌||◌, ◌==◌, ⊤, Any, Option, Some, None, bytes_eq}
use Rattle.std.specs.List.{list_any, flat_map, AllByRecursion, IsDistinct}
use Rattle.std.specs.Ordering.{nat_cmp}
use Rattle.std.specs.BTreeSet.{insert_key}
use Rattle.std.specs.BTreeMap.{is_at}
use Rattle.std.proofs.lemmas.Bool.{and_parts, and_from, or_parts, or_from, not-true, not_from_false, leb-true, ltb-true, le-leb, lt-ltb}
use Rattle.std.proofs.lemmas.Bool.Decides.{nat_tests}
use Rattle.std.proofs.lemmas.List.{append-nil}
use Rattle.std.proofs.lemmas.List.Concat.{flat_map_single}
use Rattle.std.proofs.lemmas.List.Elements.{All-from_recursion, recursion_from_All}
use Rattle.std.proofs.lemmas.List.Folds.{Any-from_list_any, list_any-from_Any}
use Rattle.std.proofs.lemmas.Slice.Eq.{bytes_eq-Decides}
use Rattle.gt_bytes.specs.Reading.{◌>>=◌}
use Rattle.gt_bytes.proofs.Steps.{bind_ok, kept_ok, ok_is}
use Rattle.gt_manifest.specs.declared.manifest.RepoFiles.{RepoFiles}
use Rattle.gt_manifest.specs.declared.manifest.Manifest.{Manifest}
use Rattle.gt_manifest.specs.declared.version.Version.{Version}
use Rattle.gt_manifest.specs.Whole.{State, past, walk, number_here, packed_here, loose_here, pool_stands, pool_size, pool_here, lasts_size, repo_here, whole, packed_number, file_of, file_numbers, IsFileNumber, IsPoolAt, MayHavePool, PoolStands, IsWhole}

-- ---- the numbers so far

abbrev has : List ℕ → ℕ → Bool
has ks n = list_any (is_at (nat_cmp n)) ks

-- the numbers behind some more
abbrev after : List ℕ → List ℕ → List ℕ
after ks [] = ks
after ks (n ∷ ns) = after (insert_key nat_cmp ks n) ns

-- Each of some more is in range and none of those before it.
abbrev May : ℕ → List ℕ → List ℕ → Type 0
May next ks [] = ⊤
May next ks (n ∷ ns) = (IsFileNumber next n × (has ks n ≡ false)) × May next (insert_key nat_cmp ks n) ns

-- a number is there if it was put in, or was there before
has_insert : (ks : List ℕ) (k q : ℕ) → has (insert_key nat_cmp ks k) q ≡ (eqb k q || has ks q)
has_insert [] k q = grind (arith, nat_tests)
has_insert (x ∷ ks) k q = let again : has (insert_key nat_cmp ks k) q ≡ (eqb k q || has ks q) = has_insert ks k q in grind (arith, nat_tests)

after_append : (ks xs ys : List ℕ) → after ks (xs ++ ys) ≡ after (after ks xs) ys
after_append ks [] ys = refl
after_append ks (x ∷ xs) ys = after_append (insert_key nat_cmp ks x) xs ys

may_parts : (next : ℕ) (ks xs ys : List ℕ) → May next ks (xs ++ ys) → May next ks xs × May next (after ks xs) ys
may_parts next ks [] ys h = (tt, h)
may_parts next ks (x ∷ xs) ys h = let r = may_parts next (insert_key nat_cmp ks x) xs ys h.1 in ((h.0, r.0), r.1)

may_both : (next : ℕ) (ks xs ys : List ℕ) → May next ks xs → May next (after ks xs) ys → May next ks (xs ++ ys)
may_both next ks [] ys h k = k
may_both next ks (x ∷ xs) ys h k = (h.0, may_both next (insert_key nat_cmp ks x) xs ys h.1 k)

-- ---- in range, once, and none of those before

abbrev IsNew : List ℕ → ℕ → Type 0
IsNew ks n = has ks n ≡ false

new_parts : (ks : List ℕ) (n : ℕ) (ns : List ℕ) → AllByRecursion (IsNew (insert_key nat_cmp ks n)) ns → AllByRecursion (λ m. nat_eq n m ≡ false) ns × AllByRecursion (IsNew ks) ns
new_parts ks n [] h = (tt, tt)
new_parts ks n (m ∷ ns) h =
    let p = or_parts (eqb n m) (has ks m) (sym (has_insert ks n m) ∙ h.0) in
    let r = new_parts ks n ns h.1 in
    ((p.0, r.0), (p.1, r.1))

new_both : (ks : List ℕ) (n : ℕ) (ns : List ℕ) → AllByRecursion (λ m. nat_eq n m ≡ false) ns → AllByRecursion (IsNew ks) ns → AllByRecursion (IsNew (insert_key nat_cmp ks n)) ns
new_both ks n [] h k = tt
new_both ks n (m ∷ ns) h k = (has_insert ks n m ∙ or_from (eqb n m) (has ks m) h.0 k.0, new_both ks n ns h.1 k.1)

may_from : (next : ℕ) (ks ns : List ℕ) → AllByRecursion (IsFileNumber next) ns → IsDistinct nat_eq ns → AllByRecursion (IsNew ks) ns → May next ks ns
unfolding IsDistinct
may_from next ks [] range once new = tt
may_from next ks (n ∷ ns) range once new = ((range.0, new.0), may_from next (insert_key nat_cmp ks n) ns range.1 once.1 (new_both ks n ns once.0 new.1))

may_is : (next : ℕ) (ks ns : List ℕ) → May next ks ns → AllByRecursion (IsFileNumber next) ns × IsDistinct nat_eq ns × AllByRecursion (IsNew ks) ns
unfolding IsDistinct
may_is next ks [] h = (tt, tt, tt)
may_is next ks (n ∷ ns) h =
    let r = may_is next (insert_key nat_cmp ks n) ns h.1 in
    let p = new_parts ks n ns r.2 in
    ((h.0.0, r.0), (p.0, r.1), (h.0.1, p.1))

none_before : (ns : List ℕ) → AllByRecursion (IsNew []) ns
none_before [] = tt
none_before (n ∷ ns) = (refl, none_before ns)

-- ---- what a step does

abbrev done : State → Result State ℕ
done s = Ok s

-- It goes on exactly where the item is good and its numbers may stand, and then has them too.
record Steps {A : Type 0} (next : ℕ) (P : A → Type 0) (numbers : A → List ℕ) (step : State → A → Result State ℕ) : Type 0 where
  takes : (ks : List ℕ) (at : ℕ) (x : A) (t : State) → step (ks, at) x ≡ Ok t → P x × May next ks (numbers x) × (t.0 ≡ after ks (numbers x))
  goes : (ks : List ℕ) (at : ℕ) (x : A) → P x → May next ks (numbers x) → (b : ℕ) × (step (ks, at) x ≡ Ok (after ks (numbers x), b))

-- behind some bytes
behind : {A : Type 0} {next : ℕ} {P : A → Type 0} {f : A → List ℕ} {step : State → A → Result State ℕ} (size : A → ℕ) → Steps next P f step → Steps next P f (λ s x. step (past s (size x)) x)
behind size h = record { takes = λ ks at x t e. h.takes ks (at + size x) x t e; goes = λ ks at x p m. h.goes ks (at + size x) x p m }

-- of a part of the item
of_part : {A B : Type 0} {next : ℕ} {P : A → Type 0} {f : A → List ℕ} {step : State → A → Result State ℕ} (part : B → A) → Steps next P f step → Steps next (λ x. P (part x)) (λ x. f (part x)) (λ s x. step s (part x))
of_part part h = record { takes = λ ks at x t e. h.takes ks at (part x) t e; goes = λ ks at x p m. h.goes ks at (part x) p m }

-- one, and then another
two : {A : Type 0} {next : ℕ} {P Q : A → Type 0} {f g : A → List ℕ} {step more : State → A → Result State ℕ} → Steps next P f step → Steps next Q g more
    → Steps next (λ x. P x × Q x) (λ x. f x ++ g x) (λ s x. step s x >>= λ t. more t x)
two {A} {next} {P} {Q} {f} {g} {step} {more} h k = record {
  takes = λ ks at x t e.
      let p = bind_ok (step (ks, at) x) (λ t. more t x) t e in
      let a = h.takes ks at x p.0 p.1 in
      let b = k.takes p.0.0 p.0.1 x t p.2 in
      let N : List ℕ → Type 0 = λ ns. May next ns (g x) × (t.0 ≡ after ns (g x)) in
      let c : N (after ks (f x)) = subst N a.2 (b.1, b.2) in
      ((a.0, b.0), may_both next ks (f x) (g x) a.1 c.0, c.1 ∙ sym (after_append ks (f x) (g x)));
  goes = λ ks at x p m.
      let n = may_parts next ks (f x) (g x) m in
      let a = h.goes ks at x p.0 n.0 in
      let b = k.goes (after ks (f x)) a.0 x p.1 n.1 in
      (b.0, rw (a.1, after_append ks (f x) (g x)) b.1);
}

-- said in other words
same : {A : Type 0} {next : ℕ} {P : A → Type 0} {f : A → List ℕ} {step : State → A → Result State ℕ} (Q : A → Type 0) (g : A → List ℕ) → Steps next P f step → ((x : A) → P x → Q x) → ((x : A) → Q x → P x) → ((x : A) → f x ≡ g x) → Steps next Q g step
same {A} {next} {P} {f} {step} Q g h to from is = record {
  takes = λ ks at x t e.
      let a = h.takes ks at x t e in
      let N : List ℕ → Type 0 = λ ns. May next ks ns × (t.0 ≡ after ks ns) in
      let c : N (g x) = subst N (is x) (a.1, a.2) in
      (to x a.0, c.0, c.1);
  goes = λ ks at x p m.
      let a = h.goes ks at x (from x p) (subst (May next ks) (sym (is x)) m) in
      (a.0, rw (sym (is x)) a.1);
}

walk_takes : {A : Type 0} {next : ℕ} {P : A → Type 0} {f : A → List ℕ} {step : State → A → Result State ℕ} → Steps next P f step → (ks : List ℕ) (at : ℕ) (xs : List A) (t : State) → walk step (ks, at) xs ≡ Ok t
    → AllByRecursion P xs × May next ks (flat_map f xs) × (t.0 ≡ after ks (flat_map f xs))
walk_takes h ks at [] t e = (tt, tt, ap (λ (s : State). s.0) (sym (ok_is (ks, at) t e)))
walk_takes {A} {next} {P} {f} {step} h ks at (x ∷ xs) t e =
    let p = bind_ok (step (ks, at) x) (λ t. walk step t xs) t e in
    let a = h.takes ks at x p.0 p.1 in
    let b = walk_takes h p.0.0 p.0.1 xs t p.2 in
    let N : List ℕ → Type 0 = λ ns. May next ns (flat_map f xs) × (t.0 ≡ after ns (flat_map f xs)) in
    let c : N (after ks (f x)) = subst N a.2 (b.1, b.2) in
    ((a.0, b.0), may_both next ks (f x) (flat_map f xs) a.1 c.0, c.1 ∙ sym (after_append ks (f x) (flat_map f xs)))

walk_goes : {A : Type 0} {next : ℕ} {P : A → Type 0} {f : A → List ℕ} {step : State → A → Result State ℕ} → Steps next P f step → (ks : List ℕ) (at : ℕ) (xs : List A) → AllByRecursion P xs → May next ks (flat_map f xs)
    → (b : ℕ) × (walk step (ks, at) xs ≡ Ok (after ks (flat_map f xs), b))
walk_goes h ks at [] p m = (at, refl)
walk_goes {A} {next} {P} {f} {step} h ks at (x ∷ xs) p m =
    let n = may_parts next ks (f x) (flat_map f xs) m in
    let a = h.goes ks at x p.0 n.0 in
    let b = walk_goes h (after ks (f x)) a.0 xs p.1 n.1 in
    (b.0, rw (a.1, after_append ks (f x) (flat_map f xs)) b.1)

walks : {A : Type 0} {next : ℕ} {P : A → Type 0} {f : A → List ℕ} {step : State → A → Result State ℕ} → Steps next P f step → Steps next (AllByRecursion P) (flat_map f) (walk step)
walks h = record { takes = λ ks at xs t e. walk_takes h ks at xs t e; goes = λ ks at xs p m. walk_goes h ks at xs p m }

-- ---- the steps over a repository

-- one file number
numbers_step : (next : ℕ) → Steps next (λ n. ⊤) (λ n. n ∷ []) (number_here next)
numbers_step next = record {
  takes = λ ks at n t e.
      let k = kept_ok ((nat_le 1 n && nat_lt n next) && not (has ks n)) at (insert_key nat_cmp ks n, at + 8) t e in
      let p = and_parts (nat_le 1 n && nat_lt n next) (not (has ks n)) k.0 in
      let q = and_parts (nat_le 1 n) (nat_lt n next) p.0 in
      (tt, (((leb-true 1 n q.0, ltb-true n next q.1), not-true (has ks n) p.1), tt), ap (λ (s : State). s.0) (sym k.1));
  goes = λ ks at n p m.
      let range : (nat_le 1 n && nat_lt n next) ≡ true = and_from (nat_le 1 n) (nat_lt n next) (le-leb 1 n m.0.0.0) (lt-ltb n next m.0.0.1) in
      (at + 8, rw (range, m.0.1) refl);
}

packed_takes : (next : ℕ) (c : Bool) (ks : List ℕ) (at n : ℕ) (t : State) → cond c (done (past (ks, at) 8)) (number_here next (ks, at) n) ≡ Ok t
    → ⊤ × May next ks (cond c [] (n ∷ [])) × (t.0 ≡ after ks (cond c [] (n ∷ [])))
packed_takes next true ks at n t e = (tt, tt, ap (λ (s : State). s.0) (sym (ok_is (ks, at + 8) t e)))
packed_takes next false ks at n t e = (numbers_step next).takes ks at n t e

packed_goes : (next : ℕ) (c : Bool) (ks : List ℕ) (at n : ℕ) → May next ks (cond c [] (n ∷ []))
    → (b : ℕ) × (cond c (done (past (ks, at) 8)) (number_here next (ks, at) n) ≡ Ok (after ks (cond c [] (n ∷ [])), b))
packed_goes next true ks at n m = (at + 8, refl)
packed_goes next false ks at n m = (numbers_step next).goes ks at n tt m

packed_step : (next : ℕ) → Steps next (λ n. ⊤) packed_number (packed_here next)
packed_step next = record { takes = λ ks at n t e. packed_takes next (n == 0) ks at n t e; goes = λ ks at n p m. packed_goes next (n == 0) ks at n m }

-- a pool of the list, by its test and in words
is_pool_at : (path : List ℕ) (r : RepoFiles) → (r.is_pool && bytes_eq r.path path) ≡ true → IsPoolAt path r
is_pool_at path r h = let p = and_parts r.is_pool (bytes_eq r.path path) h in (p.0, (bytes_eq-Decides r.path path).0 p.1)

pool_at_is : (path : List ℕ) (r : RepoFiles) → IsPoolAt path r → (r.is_pool && bytes_eq r.path path) ≡ true
pool_at_is path r h = and_from r.is_pool (bytes_eq r.path path) h.0 ((bytes_eq-Decides r.path path).1 h.1)

pool_stands_is : (all : List RepoFiles) (b : Bool) (o : Option (List ℕ)) → pool_stands all b o ≡ true → MayHavePool all b o
pool_stands_is all b None h = tt
pool_stands_is all b (Some path) h =
    let p = and_parts (not b) (list_any (λ r. r.is_pool && bytes_eq r.path path) all) h in
    let a = Any-from_list_any (λ (r : RepoFiles). r.is_pool && bytes_eq r.path path) all p.1 in
    (not-true b p.0, (a.0, a.1, a.2, a.3, is_pool_at path a.1 a.4))

stands_from : (all : List RepoFiles) (b : Bool) (o : Option (List ℕ)) → MayHavePool all b o → pool_stands all b o ≡ true
stands_from all b None h = refl
stands_from all b (Some path) h =
    let a : Any (λ (r : RepoFiles). (r.is_pool && bytes_eq r.path path) ≡ true) all = (h.1.0, h.1.1, h.1.2, h.1.3, pool_at_is path h.1.1 h.1.4) in
    and_from (not b) (list_any (λ r. r.is_pool && bytes_eq r.path path) all) (not_from_false b h.0) (list_any-from_Any (λ (r : RepoFiles). r.is_pool && bytes_eq r.path path) all a)

pool_step : (all : List RepoFiles) (next : ℕ) → Steps next (PoolStands all) (λ r. []) (pool_here all)
pool_step all next = record {
  takes = λ ks at r t e.
      let k = kept_ok (pool_stands all r.is_pool r.pool) at (ks, at + pool_size r.pool) t e in
      (pool_stands_is all r.is_pool r.pool k.0, tt, ap (λ (s : State). s.0) (sym k.1));
  goes = λ ks at r p m. (at + pool_size r.pool, rw (stands_from all r.is_pool r.pool p) refl);
}

last_step : (next size : ℕ) → Steps next (λ (r : RepoFiles). ⊤) (λ r. []) (λ s r. Ok (past s size))
last_step next size = record { takes = λ ks at r t e. (tt, tt, ap (λ (s : State). s.0) (sym (ok_is (ks, at + size) t e))); goes = λ ks at r p m. (at + size, refl) }

all_items : {A : Type 0} (xs : List A) → AllByRecursion (λ x. ⊤) xs
all_items [] = tt
all_items (x ∷ xs) = (tt, all_items xs)

loose_step : (next : ℕ) → Steps next (λ l. ⊤) (λ l. l.file ∷ []) (loose_here next)
loose_step next = behind (λ l. 2 + length l.name) (of_part (λ l. l.file) (numbers_step next))

one_each : (ns : List ℕ) → flat_map (λ n. n ∷ []) ns ≡ ns
one_each [] = refl
one_each (n ∷ ns) = ap (λ (r : List ℕ). n ∷ r) (one_each ns)

numbers_are : (r : RepoFiles) → flat_map (λ n. n ∷ []) r.packs ++ (packed_number r.packed ++ (flat_map (λ l. file_of l ∷ []) r.loose ++ [])) ≡ file_numbers r
numbers_are r = rw (one_each r.packs, append-nil (flat_map (λ l. file_of l ∷ []) r.loose), flat_map_single file_of r.loose) refl

repo_step : (all : List RepoFiles) (v : Version) (next : ℕ) → Steps next (PoolStands all) file_numbers (repo_here all v next)
unfolding repo_here
repo_step all v next =
    let pool = behind (λ (r : RepoFiles). 3 + length r.path) (pool_step all next) in
    let packs = behind (λ (r : RepoFiles). 4) (of_part (λ (r : RepoFiles). r.packs) (walks (numbers_step next))) in
    let packed = of_part (λ (r : RepoFiles). r.packed) (packed_step next) in
    let loose = behind (λ (r : RepoFiles). 4) (of_part (λ (r : RepoFiles). r.loose) (walks (loose_step next))) in
    same (PoolStands all) file_numbers (two pool (two packs (two packed (two loose (last_step next (lasts_size v))))))
    (λ r p. p.0) (λ r p. (p, (all_items r.packs, (tt, (all_items r.loose, tt))))) numbers_are

-- ---- the whole list

-- an answer is there
is_there : (r : Result State ℕ) → is_ok r ≡ true → (a : State) × (r ≡ Ok a)
is_there (Ok a) e = (a, refl)
is_there (Err d) e = absurd cc

pub whole_is : (v : Version) (m : Manifest) → is_ok (whole v m) ≡ true → IsWhole m
whole_is v m e =
    let a = is_there (whole v m) e in
    let w = walk_takes (repo_step m.repos v m.next) [] 32 m.repos a.0 a.1 in
    let h = may_is m.next [] (flat_map file_numbers m.repos) w.1 in
    record {
      numbers = All-from_recursion (IsFileNumber m.next) (flat_map file_numbers m.repos) h.0;
      once = h.1;
      pools = All-from_recursion (PoolStands m.repos) m.repos w.0;
    }

pub whole_goes : (v : Version) (m : Manifest) → IsWhole m → is_ok (whole v m) ≡ true
whole_goes v m h =
    let ns : List ℕ = flat_map file_numbers m.repos in
    let may = may_from m.next [] ns (recursion_from_All (IsFileNumber m.next) ns h.numbers) h.once (none_before ns) in
    let w = walk_goes (repo_step m.repos v m.next) [] 32 m.repos (recursion_from_All (PoolStands m.repos) m.repos h.pools) may in
    rw w.1 refl

pub whole_iff : (v : Version) (m : Manifest) → IsTrue (is_ok (whole v m)) ↔ IsWhole m
whole_iff v m = (whole_is v m, whole_goes v m)

-- The records that are added: their names in order, and what each mentions.
use Rattle.std.proofs.Common.{◌≡◌, ℕ, Bool, true, false, cond, not, ◌&&◌, ◌||◌, is_some, List, [], ◌∷◌, ◌++◌, map, find, filter, Option, Some, None, refl, sym, ap, ◌∙◌}
use Rattle.std.specs.Prelude.{T}
use Rattle.std.specs.declared.cmp.Ordering.{Ordering}
use Rattle.std.specs.declared.cmp.Ordering.TheVariants.{Less, Equal, Greater}
use Rattle.std.specs.List.{list_any, filter_map, flat_map}
use Rattle.std.specs.Option.{option_map, option_or}
use Rattle.std.specs.Ordering.{eq_by_cmp, is_lt, is_eq, ordering_reverse}
use Rattle.std.specs.Cmp.{tied_itself}
use Rattle.std.specs.Cmp.Lexicographic.{nat_list_cmp_total, texts_ties}
use Rattle.std.specs.FinMap as map
use Rattle.std.specs.FinMap.{FinMap, entries, entries_sorted, get-entries, get-from_entries, contains_key-keys}
use Rattle.std.specs.FinMap.Entries as keyed
use Rattle.std.specs.FinMap.Entries.{where_key, below_all, is_sorted, is_some-find, is_sorted-where_key, find-where_key}
use Rattle.gt_object.specs.Whole.{deps}
use Rattle.gt_model.specs.declared.added.Added.{Added}
use Rattle.gt_model.specs.Contents.{Content, key_cmp, is_visible}
use Rattle.gt_model.specs.Verdicts.{Staged, same_name, first_some, ascending, added_records}
use Rattle.gt_stage.specs.Staging.{own_record}
use Rattle.gt_verify.specs.declared.needing.Needing.{Needing}
use Rattle.gt_verify.specs.Checks.{unseen, names_of, all_needing, deps_of}
use Rattle.gt_verify.proofs.InOrder.{has, keys_in, key_cmp-same, same_sorted, has-ascending}

-- ---- each entry is found under its key

abbrev Each : {X : Type 0} → (List ℕ × X → Type 0) → List (List ℕ × X) → Type 0
Each P [] = Unit {0}
Each P (e ∷ es) = P e × Each P es

each_map : {X : Type 0} (P Q : List ℕ × X → Type 0) → ((e : List ℕ × X) → P e → Q e) → (es : List (List ℕ × X)) → Each P es → Each Q es
each_map P Q f [] h = tt
each_map P Q f (e ∷ es) h = (f e h.0, each_map P Q f es h.1)

first : (a b : Bool) → T (a && b) → T a
first true b p = tt
first false b p = p

second : (a b : Bool) → T (a && b) → T b
second true b p = p
second false b p = absurd p

less : (o : Ordering) → T (is_lt o) → o ≡ Less
less Less p = refl
less Equal p = absurd p
less Greater p = absurd p

-- a lower key isn't met
skips : {X : Type 0} (e f : List ℕ × X) (es : List (List ℕ × X)) → T (is_lt (key_cmp e.0 f.0)) → keyed.find key_cmp f.0 (e ∷ es) ≡ keyed.find key_cmp f.0 es
skips {X} e f es below =
    ap (λ (o : Ordering). cond (is_eq o) (Some e.1) (keyed.find key_cmp f.0 es)) (nat_list_cmp_total.antisymm f.0 e.0 ∙ ap ordering_reverse (less (key_cmp e.0 f.0) below))

later : {X : Type 0} (e : List ℕ × X) (es fs : List (List ℕ × X)) → T (below_all key_cmp e.0 fs) → Each (λ f. keyed.find key_cmp f.0 es ≡ Some f.1) fs → Each (λ f. keyed.find key_cmp f.0 (e ∷ es) ≡ Some f.1) fs
later e es [] below h = tt
later e es (f ∷ fs) below h = (skips e f es (first _ _ below) ∙ h.0, later e es fs (second _ _ below) h.1)

found_each : {X : Type 0} (es : List (List ℕ × X)) → T (is_sorted key_cmp es) → Each (λ e. keyed.find key_cmp e.0 es ≡ Some e.1) es
found_each [] h = tt
found_each (e ∷ es) h = (
  ap (λ (o : Ordering). cond (is_eq o) (Some e.1) (keyed.find key_cmp e.0 es)) (tied_itself nat_list_cmp_total e.0),
  later e es es (first _ _ h) (found_each es (second _ _ h)),
)

-- ---- records by their names

abbrev named : List Added → List (List ℕ × Added)
named rs = map (λ a. (a.name, a)) rs

abbrev table : List Added → FinMap key_cmp Added
table rs = map.from_entries (named rs)

tied_same : (x y : List ℕ) → eq_by_cmp key_cmp x y ≡ true → x ≡ y
tied_same x y t = key_cmp-same x y (equal (key_cmp x y) t)
  where
    equal : (o : Ordering) → is_eq o ≡ true → o ≡ Equal
    equal Less e = cc
    equal Equal e = refl
    equal Greater e = cc

found_named : (rs : List Added) (q : List ℕ) (a : Added) → keyed.find key_cmp q (named rs) ≡ Some a → a.name ≡ q
found_named [] q a is = cc
found_named (r ∷ rs) q a is =
    elim (eq_by_cmp key_cmp q r.name) as (λ b. eq_by_cmp key_cmp q r.name ≡ b → cond b (Some r) (keyed.find key_cmp q (named rs)) ≡ Some a → a.name ≡ q) [
      | true ↦ λ t e. ap (λ (x : Added). x.name) (same r a (sym e)) ∙ sym (tied_same q r.name t)
      | false ↦ λ t e. found_named rs q a e
    ] refl is
  where
    same : (x y : Added) → Some y ≡ Some x → y ≡ x
    same x y e = cc

own_named : (rs : List Added) (q : List ℕ) → own_record rs q ≡ option_map (λ a. a.whole) (keyed.find key_cmp q (named rs))
own_named [] q = refl
own_named (r ∷ rs) q =
    ap (λ (b : Bool). option_map (λ (a : Added). a.whole) (cond b (Some r) (find (λ a. same_name q a.name) rs))) (texts_ties q r.name)
    ∙ elim (eq_by_cmp key_cmp q r.name) as (λ b. option_map (λ (a : Added). a.whole) (cond b (Some r) (find (λ a. same_name q a.name) rs)) ≡ option_map (λ (a : Added). a.whole) (cond b (Some r) (keyed.find key_cmp q (named rs)))) [
      | true ↦ refl
      | false ↦ own_named rs q
    ]

-- each record stands under its name, and is the staged one
record Stands (rs : List Added) (e : List ℕ × Added) : Type 0 where
  under : e.1.name ≡ e.0
  own : own_record rs e.1.name ≡ Some e.1.whole

stand : (rs : List Added) (e : List ℕ × Added) → keyed.find key_cmp e.0 (entries (table rs)) ≡ Some e.1 → Stands rs e
stand rs e is =
    let found : keyed.find key_cmp e.0 (named rs) ≡ Some e.1 = sym (get-from_entries nat_list_cmp_total (named rs) e.0) ∙ get-entries (table rs) e.0 ∙ is in
    let name : e.1.name ≡ e.0 = found_named rs e.0 e.1 found in
    record { under = name; own = ap (own_record rs) name ∙ own_named rs e.0 ∙ ap (option_map (λ (a : Added). a.whole)) found }

all_stand : (rs : List Added) → Each (Stands rs) (entries (table rs))
all_stand rs = each_map (λ e. keyed.find key_cmp e.0 (entries (table rs)) ≡ Some e.1) (Stands rs) (stand rs) (entries (table rs)) (found_each (entries (table rs)) (entries_sorted (table rs)))

-- ---- those that pass a test of their names

abbrev passing : (List ℕ → Bool) → List Added → List Added
passing p as' = filter (λ a. p a.name) as'

names_passing : (rs : List Added) (p : List ℕ → Bool) (es : List (List ℕ × Added)) → Each (Stands rs) es → names_of (passing p (map (λ e. e.1) es)) ≡ keys_in (where_key key_cmp p es)
names_passing rs p [] h = refl
names_passing rs p (e ∷ es) h =
    ap (λ (n : List ℕ). names_of (cond (p n) (e.1 ∷ passing p (map (λ x. x.1) es)) (passing p (map (λ x. x.1) es)))) h.0.under
    ∙ elim (p e.0) as (λ b. names_of (cond b (e.1 ∷ passing p (map (λ x. x.1) es)) (passing p (map (λ x. x.1) es))) ≡ keys_in (cond b (e ∷ where_key key_cmp p es) (where_key key_cmp p es))) [
      | true ↦ λ i. h.0.under i ∷ names_passing rs p es h.1 i
      | false ↦ names_passing rs p es h.1
    ]

-- what a record mentions, under its name
abbrev pub mentions : Added → Needing
mentions a = record { name = a.name; deps = deps a.whole }

needing_passing : (rs : List Added) (p : List ℕ → Bool) (es : List (List ℕ × Added)) → Each (Stands rs) es → all_needing rs (names_of (passing p (map (λ e. e.1) es))) ≡ map mentions (passing p (map (λ e. e.1) es))
needing_passing rs p [] h = refl
needing_passing rs p (e ∷ es) h =
    elim (p e.1.name) as (λ b. all_needing rs (names_of (cond b (e.1 ∷ passing p (map (λ x. x.1) es)) (passing p (map (λ x. x.1) es)))) ≡ map mentions (cond b (e.1 ∷ passing p (map (λ x. x.1) es)) (passing p (map (λ x. x.1) es)))) [
      | true ↦ ap (λ (o : Option (List ℕ)). Rattle.std.specs.List.cons_option (option_map (λ whole. record { name = e.1.name; deps = deps whole }) o) (all_needing rs (names_of (passing p (map (λ x. x.1) es))))) h.0.own
          ∙ ap (λ (ns : List Needing). mentions e.1 ∷ ns) (needing_passing rs p es h.1)
      | false ↦ needing_passing rs p es h.1
    ]

and_false : (a : Bool) → (a && false) ≡ false
and_false true = refl
and_false false = refl

has_filter : (p : List ℕ → Bool) (q : List ℕ) (names : List (List ℕ)) → has q (filter p names) ≡ (has q names && p q)
has_filter p q [] = refl
has_filter p q (n ∷ ns) =
    elim (eq_by_cmp key_cmp q n) as (λ b. eq_by_cmp key_cmp q n ≡ b → has q (cond (p n) (n ∷ filter p ns) (filter p ns)) ≡ ((b || has q ns) && p q)) [
      | true ↦ λ t. ap (λ (m : List ℕ). has q (cond (p m) (n ∷ filter p ns) (filter p ns))) (sym (tied_same q n t))
          ∙ elim (p q) as (λ c. has q (filter p ns) ≡ (has q ns && c) → has q (cond c (n ∷ filter p ns) (filter p ns)) ≡ c) [
            | true ↦ λ ih. ap (λ (x : Bool). x || has q (filter p ns)) t
            | false ↦ λ ih. ih ∙ and_false (has q ns)
          ] (has_filter p q ns)
      | false ↦ λ t. elim (p n) as (λ c. has q (cond c (n ∷ filter p ns) (filter p ns)) ≡ has q (filter p ns)) [
        | true ↦ ap (λ (x : Bool). x || has q (filter p ns)) t
        | false ↦ refl
      ] ∙ has_filter p q ns
    ] refl

some_where : {X : Type 0} (b : Bool) (o : Option X) → is_some (cond b o None) ≡ (is_some o && b)
some_where true None = refl
some_where true (Some x) = refl
some_where false None = refl
some_where false (Some x) = refl

keys_named : (rs : List Added) → keys_in (named rs) ≡ names_of rs
keys_named [] = refl
keys_named (r ∷ rs) = ap (λ (ns : List (List ℕ)). r.name ∷ ns) (keys_named rs)

has_where : (rs : List Added) (p : List ℕ → Bool) (q : List ℕ) → has q (keys_in (where_key key_cmp p (entries (table rs)))) ≡ (has q (names_of rs) && p q)
has_where rs p q =
    sym (is_some-find key_cmp q (where_key key_cmp p (entries (table rs))))
    ∙ ap is_some (find-where_key key_cmp p q (λ x t. ap p (sym (key_cmp-same q x t))) (entries (table rs)))
    ∙ some_where (p q) (keyed.find key_cmp q (entries (table rs)))
    ∙ ap (λ (b : Bool). b && p q) (ap is_some (sym (get-entries (table rs) q) ∙ get-from_entries nat_list_cmp_total (named rs) q) ∙ is_some-find key_cmp q (named rs) ∙ ap (has q) (keys_named rs))

names_where : (rs : List Added) (p : List ℕ → Bool) → keys_in (where_key key_cmp p (entries (table rs))) ≡ ascending (filter p (names_of rs))
names_where rs p =
    same_sorted (where_key key_cmp p (entries (table rs))) (entries (map.from_entries (map (λ name. (name, name)) (filter p (names_of rs))))) (is_sorted-where_key key_cmp p (entries (table rs)) (entries_sorted (table rs))) (entries_sorted (map.from_entries (map (λ name. (name, name)) (filter p (names_of rs)))))
    (λ q. has_where rs p q ∙ sym (has_filter p q (names_of rs)) ∙ sym (has-ascending (filter p (names_of rs)) q))

-- the names of the added records, in order
pub names-added : (c : Content) (path : List ℕ) (s : Staged) → names_of (added_records c path s) ≡ ascending (unseen c path (names_of s.records))
names-added c path s =
    let p : List ℕ → Bool = λ n. not (is_visible c path n) in
    names_passing s.records p (entries (table s.records)) (all_stand s.records) ∙ names_where s.records p

-- what each of them mentions
pub needing-added : (c : Content) (path : List ℕ) (s : Staged) → all_needing s.records (names_of (added_records c path s)) ≡ map mentions (added_records c path s)
needing-added c path s =
    needing_passing s.records (λ n. not (is_visible c path n)) (entries (table s.records)) (all_stand s.records)

pub first_some-map : {A B X : Type 0} (f : B → Option X) (g : A → B) (xs : List A) → first_some f (map g xs) ≡ first_some (λ x. f (g x)) xs
first_some-map f g [] = refl
first_some-map f g (x ∷ xs) = ap (option_or (f (g x))) (first_some-map f g xs)

pub deps_of-mentions : (as' : List Added) → deps_of (map mentions as') ≡ flat_map (λ a. deps a.whole) as'
deps_of-mentions [] = refl
deps_of-mentions (a ∷ as') = ap (λ (ns : List (List ℕ)). deps a.whole ++ ns) (deps_of-mentions as')

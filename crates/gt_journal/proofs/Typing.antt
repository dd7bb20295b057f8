-- What is read of an entry has the types of its fields, whatever numbers the bytes are.
use Rattle.std.proofs.Common.{◌≡◌, ℕ, zero, suc, ◌+◌, ◌≤◌, Bool, true, false, cond, nat_lt, nat_eq, List, [], ◌∷◌, ◌++◌, length, take, drop, Option, Some, None, Result, Ok, Err, refl, ap, subst, arith, All, slice_range}
use Rattle.std.specs.Prelude.{is_none, IfSome, ◌^◌}
use Rattle.std.specs.Int.{w32, w64}
use Rattle.std.specs.List.{AllByRecursion}
use Rattle.std.proofs.lemmas.Bool.Decides.{nat_tests}
use Rattle.std.proofs.lemmas.List.{length-take-le}
use Rattle.std.proofs.lemmas.List.Elements.{All-from_recursion}
use Rattle.gt_bytes.specs.Reading.{◌>>=◌, byte_at, number_at, name_at, text_at, counted_at, many_at, kept, pair_at, seen_at, all_of}
use Rattle.gt_bytes.proofs.Steps.{bind_ok, guard_ok, kept_ok}
use Rattle.gt_name.specs.Paths.{bad_path, IsPath}
use Rattle.gt_name.specs.References.{bad_ref, IsRefName}
use Rattle.gt_object.specs.Whole.{why_not}
use Rattle.gt_model.specs.declared.added.Added.{Added}
use Rattle.gt_model.specs.declared.change.Change.{Change}
use Rattle.gt_model.specs.declared.change.Change.TheVariants.{Create, Delete, Link, Repack, Prune, PackRefs, Unlink}
use Rattle.gt_model.specs.declared.entry.Entry.{Entry}
use Rattle.gt_model.specs.declared.update.RefUpdate.{RefUpdate}
use Rattle.gt_model.specs.Contents.{Content, after, IsLegal}
use Rattle.gt_entry.specs.declared.version.Version.{Version}
use Rattle.gt_entry.specs.declared.version.Version.TheVariants.{First, Second}
use Rattle.gt_entry.specs.Fits.{IsName, IsUpdate, IsAdded, IsChange, IsEntry}
use Rattle.gt_entry.specs.Reading.{good_path, path_at, good_ref, ref_at, flag_at, is_new, some_at, target_by, target_at, to_update, update_at, above, ascending_at, is_record, record_at, added_name, to_added, added_at, to_write, write_at, packing_at, change_by, change_at, version_at, to_entry, body_at, top_at, checked, entry_of}
use Rattle.gt_entry.specs.Spelling.{same, has_check}
use Rattle.gt_base.specs.Built.{is_built}
use Rattle.gt_base.specs.Spelling.{encode, AreSpelled}

none_is : {A : Type 0} (o : Option A) → is_none o ≡ true → o ≡ None
none_is None e = refl
none_is (Some x) e = absurd (cc (e))

-- ---- readers, one after another

-- whatever is read has this
abbrev Gives : {A : Type 0} → (ℕ → Result (A × ℕ) ℕ) → (A → Type 0) → Type 0
Gives {A} read P = (at : ℕ) (x : A × ℕ) → read at ≡ Ok x → P x.0

seen : {A B : Type 0} (to : A → B) (r : ℕ → Result (A × ℕ) ℕ) (P : A → Type 0) (Q : B → Type 0) → ((a : A) → P a → Q (to a)) → Gives r P → Gives (seen_at to r) Q
seen {A} {B} to r P Q makes gives at y is =
    let f : A × ℕ → Result (B × ℕ) ℕ = λ x. Ok (to x.0, x.1) in
    let b = bind_ok (r at) f y is in
    let e : Ok (to b.0.0, b.0.1) ≡ Ok y = b.2 in
    let pair : (to b.0.0, b.0.1) ≡ y = cc (e) in
    subst Q (ap (λ (p : B × ℕ). p.0) pair) (makes b.0.0 (gives at b.0 b.1))

pair : {A B : Type 0} (r : ℕ → Result (A × ℕ) ℕ) (q : ℕ → Result (B × ℕ) ℕ) (P : A → Type 0) (Q : B → Type 0) → Gives r P → Gives q Q → Gives (pair_at r q) (λ z. P z.0 × Q z.1)
pair {A} {B} r q P Q first second at z is =
    let g : A × ℕ → B × ℕ → Result ((A × B) × ℕ) ℕ = λ x y. Ok ((x.0, y.0), y.1) in
    let a = bind_ok (r at) (λ x. q x.1 >>= g x) z is in
    let b = bind_ok (q a.0.1) (g a.0) z a.2 in
    let e : Ok ((a.0.0, b.0.0), b.0.1) ≡ Ok z = b.2 in
    let all : ((a.0.0, b.0.0), b.0.1) ≡ z = cc (e) in
    subst (λ (z : A × B). P z.0 × Q z.1) (ap (λ (p : (A × B) × ℕ). p.0) all) (first at a.0 a.1, second a.0.1 b.0 b.1)

-- a test that was passed adds what it says
passed : {A : Type 0} (test : A → Bool) (r : ℕ → Result (A × ℕ) ℕ) (P Q : A → Type 0) → ((a : A) → P a → test a ≡ true → Q a) → Gives r P → Gives (λ at. kept test at (r at)) Q
passed {A} test r P Q adds gives at y is =
    let b = bind_ok (r at) (λ x. cond (test x.0) (Ok x) (Err at)) y is in
    let k = kept_ok (test b.0.0) at b.0 y b.2 in
    subst Q (ap (λ (p : A × ℕ). p.0) k.1) (adds b.0.0 (gives at b.0 b.1) k.0)

anything : {A : Type 0} (r : ℕ → Result (A × ℕ) ℕ) → Gives r (λ a. Unit {0})
anything r at x is = tt

all_push : {A : Type 0} (P : A → Type 0) (xs : List A) (x : A) → AllByRecursion P xs → P x → AllByRecursion P (xs ++ x ∷ [])
all_push P [] x all here = (here, tt)
all_push P (y ∷ ys) x all here = (all.0, all_push P ys x all.1 here)

many : {A : Type 0} (item : List A → ℕ → Result (A × ℕ) ℕ) (P : A → Type 0) → ((front : List A) → Gives (item front) P) → (n : ℕ) (front : List A) → AllByRecursion P front → Gives (many_at item n front) (AllByRecursion P)
many {A} item P each zero front all at x is =
    let e : Ok (front, at) ≡ Ok x = is in
    let same : (front, at) ≡ x = cc (e) in
    subst (AllByRecursion P) (ap (λ (p : List A × ℕ). p.0) same) all
many {A} item P each (suc n) front all at x is =
    let b = bind_ok (item front at) (λ y. many_at item n (front ++ y.0 ∷ []) y.1) x is in
    many item P each n (front ++ b.0.0 ∷ []) (all_push P front b.0.0 all (each front at b.0 b.1)) b.0.1 x b.2

counted : {A : Type 0} (item : List A → ℕ → Result (A × ℕ) ℕ) (bytes : List ℕ) (P : A → Type 0) → ((front : List A) → Gives (item front) P) → Gives (counted_at item bytes) (AllByRecursion P)
counted item bytes P each at x is =
    let b = bind_ok (number_at w32 bytes at) (λ n. many_at item n.0 [] n.1) x is in
    many item P each b.0.0 [] tt b.0.1 x b.2

-- ---- the fields

name : (bytes : List ℕ) → Gives (name_at bytes) IsName
name bytes at x is =
    let g = guard_ok (nat_lt (length (drop at bytes)) 20) at (take 20 (drop at bytes), at + 20) x is in
    let enough : 20 ≤ length (drop at bytes) = grind (arith, nat_tests, g.0) in
    subst IsName (ap (λ (p : List ℕ × ℕ). p.0) g.1) (length-take-le 20 (drop at bytes) enough)

path : (bytes : List ℕ) → Gives (path_at bytes) IsPath
unfolding path_at
path bytes = passed good_path (text_at bytes) (λ t. Unit {0}) IsPath (λ t _ good. none_is (bad_path t) good) (anything (text_at bytes))

ref : (bytes : List ℕ) → Gives (ref_at bytes) IsRefName
unfolding ref_at
ref bytes = passed good_ref (text_at bytes) (λ t. Unit {0}) IsRefName (λ t _ good. none_is (bad_ref t) good) (anything (text_at bytes))

abbrev IsNew : Option (List ℕ) → Type 0
IsNew new = IfSome new IsName

some_name : (bytes : List ℕ) → Gives (some_at bytes) IsNew
some_name bytes = seen (λ new. Some new) (name_at bytes) IsName IsNew (λ new is. is) (name bytes)

target : (v : Version) (bytes : List ℕ) → Gives (target_at v bytes) IsNew
unfolding target_at
target First bytes at x is = some_name bytes at x is
target Second bytes at x is =
    let b = bind_ok (flag_at bytes at) (λ moves. target_by bytes moves.0 moves.1) x is in
    by b.0.0 b.0.1 x b.2
  where
    by : (moves : Bool) (next : ℕ) (x : Option (List ℕ) × ℕ) → target_by bytes moves next ≡ Ok x → IsNew x.0
    by true next x e = some_name bytes next x e
    by false next x e =
        let first : (None, next) ≡ x = cc (e) in
        subst IsNew (ap (λ (p : Option (List ℕ) × ℕ). p.0) first) tt

update : (v : Version) (bytes : List ℕ) (front : List RefUpdate) → Gives (update_at v bytes front) IsUpdate
unfolding update_at
update v bytes front =
    seen to_update (pair_at (λ at. kept (is_new front) at (ref_at bytes at)) (pair_at (name_at bytes) (target_at v bytes))) (λ z. IsRefName z.0 × (IsName z.1.0 × IsNew z.1.1)) IsUpdate
    (λ z is. record { name = is.0; old = is.1.0; new = is.1.1 })
    (pair (λ at. kept (is_new front) at (ref_at bytes at)) (pair_at (name_at bytes) (target_at v bytes)) IsRefName (λ z. IsName z.0 × IsNew z.1)
    (passed (is_new front) (ref_at bytes) IsRefName IsRefName (λ t is new. is) (ref bytes))
    (pair (name_at bytes) (target_at v bytes) IsName IsNew (name bytes) (target v bytes)))

ascending : (bytes : List ℕ) (front : List (List ℕ)) → Gives (ascending_at bytes front) IsName
unfolding ascending_at
ascending bytes front = passed (above same front) (name_at bytes) IsName IsName (λ t is up. is) (name bytes)

abbrev IsWhole : List ℕ → Type 0
IsWhole whole = why_not whole ≡ None

whole : (bytes : List ℕ) → Gives (record_at bytes) IsWhole
unfolding record_at
whole bytes at x is =
    let b = bind_ok (number_at w32 bytes at) (λ n. cond (nat_lt (length (drop n.1 bytes)) n.0) (Err n.1) (kept is_record n.1 (Ok (slice_range bytes n.1 (n.1 + n.0), n.1 + n.0)))) x is in
    by (nat_lt (length (drop b.0.1 bytes)) b.0.0) b.0.0 b.0.1 x b.2
  where
    by : (short : Bool) (n next : ℕ) (x : List ℕ × ℕ) → cond short (Err next) (kept is_record next (Ok (slice_range bytes next (next + n), next + n))) ≡ Ok x → IsWhole x.0
    by true n next x e = absurd (cc (e))
    by false n next x e =
        let k = kept_ok (is_record (slice_range bytes next (next + n))) next (slice_range bytes next (next + n), next + n) x e in
        subst IsWhole (ap (λ (p : List ℕ × ℕ). p.0) k.1) (none_is (why_not (slice_range bytes next (next + n))) k.0)

added : (bytes : List ℕ) (front : List Added) → Gives (added_at bytes front) IsAdded
unfolding added_at
added bytes front =
    seen to_added (pair_at (λ at. kept (above added_name front) at (name_at bytes at)) (record_at bytes)) (λ z. IsName z.0 × IsWhole z.1) IsAdded (λ z is. record { name = is.0; whole = is.1 })
    (pair (λ at. kept (above added_name front) at (name_at bytes at)) (record_at bytes) IsName IsWhole (passed (above added_name front) (name_at bytes) IsName IsName (λ t is up. is) (name bytes)) (whole bytes))

-- ---- the whole

-- of a kind that is built, it has its types
abbrev IsTyped : Change → Type 0
IsTyped change = is_built change ≡ true → IsChange change

write : (v : Version) (bytes : List ℕ) → Gives (write_at v bytes) IsTyped
unfolding write_at
write v bytes =
    seen to_write _ (λ z. AllByRecursion IsUpdate z.0 × (AllByRecursion IsName z.1.0 × AllByRecursion IsAdded z.1.1)) IsTyped
    (λ z is built. record { refs = All-from_recursion IsUpdate z.0 is.0; needed = All-from_recursion IsName z.1.0 is.1.0; added = All-from_recursion IsAdded z.1.1 is.1.1 })
    (pair (counted_at (update_at v bytes) bytes) _ (AllByRecursion IsUpdate) (λ z. AllByRecursion IsName z.0 × AllByRecursion IsAdded z.1) (counted (update_at v bytes) bytes IsUpdate (update v bytes))
    (pair (counted_at (ascending_at bytes) bytes) (counted_at (added_at bytes) bytes) (AllByRecursion IsName) (AllByRecursion IsAdded)
    (counted (ascending_at bytes) bytes IsName (ascending bytes)) (counted (added_at bytes) bytes IsAdded (added bytes))))

-- what is read where it isn't built
unbuilt : {A : Type 0} (to : A → Change) (r : ℕ → Result (A × ℕ) ℕ) → ((a : A) → is_built (to a) ≡ false) → Gives (seen_at to r) IsTyped
unbuilt to r not_built = seen to r (λ a. Unit {0}) IsTyped (λ a _ built. absurd (cc (built, not_built a))) (anything r)

-- the first of these kinds, or what is left
chosen : (test : Bool) (one rest : Result (Change × ℕ) ℕ) (x : Change × ℕ) → cond test one rest ≡ Ok x → (one ≡ Ok x → IsTyped x.0) → (rest ≡ Ok x → IsTyped x.0) → IsTyped x.0
chosen true one rest x is first later = first is
chosen false one rest x is first later = later is

abbrev done : Change × ℕ → Result (Change × ℕ) ℕ
done x = Ok x

deleted : (next : ℕ) (x : Change × ℕ) → done (Delete, next) ≡ done x → IsTyped x.0
deleted next x e =
    let same : (Delete, next) ≡ x = cc (e) in
    subst IsTyped (ap (λ (p : Change × ℕ). p.0) same) (λ built. tt)

by_kind : (v : Version) (bytes : List ℕ) (at kind next : ℕ) (x : Change × ℕ) → change_by v bytes at kind next ≡ Ok x → IsTyped x.0
by_kind First bytes at kind next x is =
    chosen (nat_eq kind 1) _ _ x is (λ e. seen (λ pool. Create pool) (flag_at bytes) (λ a. Unit {0}) IsTyped (λ a _ built. tt) (anything (flag_at bytes)) next x e)
    (λ is. chosen (nat_eq kind 2) _ _ x is (λ e. deleted next x e)
    (λ is. chosen (nat_eq kind 3) _ _ x is (λ e. unbuilt (λ pool. Link pool) (path_at bytes) (λ a. refl) next x e)
    (λ is. chosen (nat_eq kind 4) _ _ x is (λ e. write First bytes next x e)
    (λ is. chosen (nat_eq kind 5) _ _ x is (λ e. unbuilt (λ z. Repack z.0 z.1) (packing_at bytes) (λ a. refl) next x e)
    (λ is. chosen (nat_eq kind 6) _ _ x is (λ e. unbuilt (λ z. Prune z.0 z.1) (packing_at bytes) (λ a. refl) next x e)
    (λ is. chosen (nat_eq kind 7) _ _ x is (λ e. unbuilt (λ file. PackRefs file) (number_at w64 bytes) (λ a. refl) next x e)
    (λ is. chosen (nat_eq kind 8) _ _ x is (λ e. unbuilt (λ file. Unlink file) (number_at w64 bytes) (λ a. refl) next x e)
    (λ e. absurd (cc (e))))))))))
by_kind Second bytes at kind next x is = chosen (nat_eq kind 4) _ _ x is (λ e. write Second bytes next x e) (λ e. absurd (cc (e)))

change : (v : Version) (bytes : List ℕ) → Gives (change_at v bytes) IsTyped
unfolding change_at
change v bytes at x is =
    let b = bind_ok (byte_at bytes at) (λ kind. change_by v bytes at kind.0 kind.1) x is in
    by_kind v bytes at b.0.0 b.0.1 x b.2

-- but for its position
abbrev HasTypes : Entry → Type 0
HasTypes e = IsPath e.path × IsTyped e.change

body : (v : Version) (bytes : List ℕ) → Gives (body_at v bytes) HasTypes
unfolding body_at
body v bytes =
    seen to_entry (pair_at (number_at w64 bytes) (pair_at (path_at bytes) (change_at v bytes))) (λ z. Unit {0} × (IsPath z.1.0 × IsTyped z.1.1)) HasTypes (λ z is. is.1)
    (pair (number_at w64 bytes) (pair_at (path_at bytes) (change_at v bytes)) (λ n. Unit {0}) (λ z. IsPath z.0 × IsTyped z.1) (anything (number_at w64 bytes)) (pair (path_at bytes) (change_at v bytes) IsPath IsTyped (path bytes) (change v bytes)))

top : (bytes : List ℕ) → Gives (top_at bytes) (λ z. HasTypes z.1)
unfolding top_at
top bytes at x is =
    let b = bind_ok (version_at bytes at) (λ v. seen_at (λ e. (v.0, e)) (body_at v.0 bytes) v.1) x is in
    seen (λ e. (b.0.0, e)) (body_at b.0.0 bytes) HasTypes (λ z. HasTypes z.1) (λ e is. is) (body b.0.0 bytes) b.0.1 x b.2

checked_typed : (v : Version) (made e : Entry) → checked (v, made) ≡ Ok e → HasTypes made → HasTypes e
checked_typed First made e is typed = let s : Ok made ≡ Ok e = is in let same : made ≡ e = cc (s) in subst HasTypes same typed
checked_typed Second made e is typed = let k = kept_ok (has_check made.change) 0 made e is in subst HasTypes k.1 typed

pub read_typed : (bytes : List ℕ) (e : Entry) → entry_of bytes ≡ Ok e → HasTypes e
unfolding entry_of
read_typed bytes e is =
    let a = bind_ok (all_of (top_at bytes) bytes) checked e is in
    let b = bind_ok (top_at bytes 0) (λ x. cond (nat_eq x.1 (length bytes)) (Ok x.0) (Err x.1)) a.0 a.1 in
    let k = kept_ok (nat_eq b.0.1 (length bytes)) b.0.1 b.0.0 a.0 b.2 in
    checked_typed a.0.0 a.0.1 e a.2 (subst (λ (z : Version × Entry). HasTypes z.1) k.1 (top bytes 0 b.0 b.1))

-- ---- a log

log_typed : (log : List Entry) (c : Content) (p : ℕ) → p + length log ≤ 2 ^ 64 → IsLegal c p log → AreSpelled log → AllByRecursion IsEntry log
log_typed [] c p few legal spelled = tt
log_typed (e ∷ es) c p few legal spelled =
    let t = read_typed (encode e) e spelled.0.1 in (
      record { position = omega (arith, legal.0, few); path = t.0; change = t.1 spelled.0.0 },
      log_typed es (after c e) (p + 1) (omega (arith, few)) legal.2 spelled.1,
    )

pub entries_typed : (log : List Entry) (c : Content) (first : ℕ) → first + length log ≤ 2 ^ 64 → IsLegal c first log → AreSpelled log → All IsEntry log
entries_typed log c first few legal spelled = All-from_recursion IsEntry log (log_typed log c first few legal spelled)

-- What the packs of a base have under a name stands at its place in one of them, and it is a good record.
use Rattle.std.proofs.Common.{◌≡◌, ℕ, zero, suc, ◌+◌, Bool, true, false, cond, ltb, eqb, List, [], ◌∷◌, ◌++◌, length, drop, fold, Option, Some, None, Result, Ok, Err, refl, sym, ap, subst, ◌∙◌, slice_range}
use Rattle.std.specs.Prelude.{bytes_eq}
use Rattle.std.specs.List.{AllByRecursion}
use Rattle.std.specs.Option.{option_map, option_or, is_none}
use Rattle.std.specs.Ordering.{eq_by_cmp}
use Rattle.std.specs.Int.{w32}
use Rattle.std.specs.FinMap as map
use Rattle.std.specs.FinMap.{get-empty}
use Rattle.gt_bytes.specs.Reading.{◌>>=◌, number_at, many_at, pair_at, counted_at}
use Rattle.gt_bytes.proofs.Steps.{bind_ok, kept_ok, ok_is}
use Rattle.gt_disk.specs.Files.{States}
use Rattle.gt_object.specs.declared.error.ObjectError.{ObjectError}
use Rattle.gt_object.specs.Whole.{why_not}
use Rattle.gt_model.specs.Contents.{key_cmp, Names, Repo, and_then, union, own}
use Rattle.gt_objset.specs.declared.place.Place.{Place}
use Rattle.gt_objset.proofs.ContentLaws.{get-union}
use Rattle.gt_pack.specs.declared.placed.Placed.{Placed}
use Rattle.gt_pack.specs.Index.{find_in}
use Rattle.gt_pack.specs.Reading.{magic_at, is_record, last_name, name_above, record_at, to_placed, placed_at, items_at, tail_at, pack_of}
use Rattle.gt_base.specs.declared.held.BaseRepo.{BaseRepo}
use Rattle.gt_base.specs.Held.{places_or_none, items_of, records_of, to_place, place_of, repo_of, repo_at, content_of, places_of, HoldsPack, HoldsPacks, StandsStill}
use Rattle.gt_base.specs.Packs.{PackFile}
use Rattle.gt_base.proofs.Finding.{get-content_of, cut, record_in}

-- ---- what is read of a pack

none_is : (o : Option ObjectError) → is_none o ≡ true → o ≡ None
none_is None e = refl
none_is (Some x) e = absurd cc

-- a good record stands here
abbrev IsRecordAt : List ℕ → ℕ → ℕ → Type 0
IsRecordAt bytes at len = why_not (slice_range bytes at (at + len)) ≡ None

abbrev AreRecords : List ℕ → List Placed → Type 0
AreRecords bytes es = AllByRecursion (λ (e : Placed). IsRecordAt bytes e.place e.len) es

record_good : (bytes : List ℕ) (at : ℕ) (x : (ℕ × ℕ) × ℕ) → record_at bytes at ≡ Ok x → IsRecordAt bytes x.0.0 x.0.1
unfolding record_at
record_good bytes at x e =
    let f : ℕ × ℕ → Result ((ℕ × ℕ) × ℕ) ℕ = λ n. cond (ltb (length (drop n.1 bytes)) n.0) (Err n.1) (cond (is_record (slice_range bytes n.1 (n.1 + n.0))) (Ok ((n.1, n.0), n.1 + n.0)) (Err n.1)) in
    let b = bind_ok (number_at w32 bytes at) f x e in
    rest b.0 (ltb (length (drop b.0.1 bytes)) b.0.0) b.2
  where
    rest : (n : ℕ × ℕ) (b : Bool) → cond b (Err n.1) (cond (is_record (slice_range bytes n.1 (n.1 + n.0))) (Ok ((n.1, n.0), n.1 + n.0)) (Err n.1)) ≡ Ok x → IsRecordAt bytes x.0.0 x.0.1
    rest n true q = absurd cc
    rest n false q =
        let y : (ℕ × ℕ) × ℕ = ((n.1, n.0), n.1 + n.0) in
        let k = kept_ok (is_record (slice_range bytes n.1 (n.1 + n.0))) n.1 y x q in
        subst (λ (z : (ℕ × ℕ) × ℕ). IsRecordAt bytes z.0.0 z.0.1) k.1 (none_is _ k.0)

placed_good : (bytes : List ℕ) (before : List Placed) (at : ℕ) (x : Placed × ℕ) → placed_at bytes before at ≡ Ok x → IsRecordAt bytes x.0.place x.0.len
unfolding placed_at
placed_good bytes before at x e =
    let l : Option (List ℕ) = last_name before in
    let to : (List ℕ × (ℕ × ℕ)) × ℕ → Result (Placed × ℕ) ℕ = λ z. Ok (to_placed z.0, z.1) in
    let a = bind_ok (pair_at (name_above bytes l) (record_at bytes) at) to x e in
    let f : List ℕ × ℕ → Result ((List ℕ × (ℕ × ℕ)) × ℕ) ℕ = λ y. (let g : (ℕ × ℕ) × ℕ → Result ((List ℕ × (ℕ × ℕ)) × ℕ) ℕ = λ z. Ok ((y.0, z.0), z.1) in record_at bytes y.1 >>= g) in
    let b = bind_ok (name_above bytes l at) f a.0 a.1 in
    let g : (ℕ × ℕ) × ℕ → Result ((List ℕ × (ℕ × ℕ)) × ℕ) ℕ = λ z. Ok ((b.0.0, z.0), z.1) in
    let d = bind_ok (record_at bytes b.0.1) g a.0 b.2 in
    let made : (List ℕ × (ℕ × ℕ)) × ℕ = ((b.0.0, d.0.0), d.0.1) in
    let y : Placed × ℕ = (to_placed a.0.0, a.0.1) in
    let P : (List ℕ × (ℕ × ℕ)) × ℕ → Type 0 = λ z. IsRecordAt bytes z.0.1.0 z.0.1.1 in
    subst (λ (z : Placed × ℕ). IsRecordAt bytes z.0.place z.0.len) (ok_is y x a.2) (subst P (ok_is made a.0 d.2) (record_good bytes b.0.1 d.0 d.1))

push : {A : Type 0} (P : A → Type 0) (xs : List A) (x : A) → AllByRecursion P xs → P x → AllByRecursion P (xs ++ x ∷ [])
push P [] x all here = (here, tt)
push P (y ∷ ys) x all here = (all.0, push P ys x all.1 here)

many_good : (bytes : List ℕ) (n : ℕ) (front : List Placed) (at : ℕ) (x : List Placed × ℕ) → many_at (placed_at bytes) n front at ≡ Ok x → AreRecords bytes front → AreRecords bytes x.0
many_good bytes zero front at x e good = let y : List Placed × ℕ = (front, at) in subst (λ (z : List Placed × ℕ). AreRecords bytes z.0) (ok_is y x e) good
many_good bytes (suc n) front at x e good =
    let b = bind_ok (placed_at bytes front at) (λ y. many_at (placed_at bytes) n (front ++ y.0 ∷ []) y.1) x e in
    many_good bytes n (front ++ b.0.0 ∷ []) b.0.1 x b.2 (push (λ (p : Placed). IsRecordAt bytes p.place p.len) front b.0.0 good (placed_good bytes front at b.0 b.1))

items_good : (bytes : List ℕ) (x : List Placed × ℕ) → items_at bytes 0 ≡ Ok x → AreRecords bytes x.0
unfolding items_at
items_good bytes x e =
    let a = bind_ok (magic_at bytes 0) (λ m. counted_at (placed_at bytes) bytes m.1) x e in
    let b = bind_ok (number_at w32 bytes a.0.1) (λ n. many_at (placed_at bytes) n.0 [] n.1) x a.2 in
    many_good bytes b.0.0 [] b.0.1 x b.2 tt

pack_good : (bytes : List ℕ) (es : List Placed) → pack_of bytes ≡ Ok es → AreRecords bytes es
unfolding pack_of
pack_good bytes es e =
    let f : List Placed × ℕ → Result (List Placed) ℕ = λ x. (let g : ℕ × ℕ → Result (List Placed) ℕ = λ y. cond (eqb y.1 (length bytes)) (Ok x.0) (Err y.1) in tail_at bytes x.0 x.1 >>= g) in
    let a = bind_ok (items_at bytes 0) f es e in
    let g : ℕ × ℕ → Result (List Placed) ℕ = λ y. cond (eqb y.1 (length bytes)) (Ok a.0.0) (Err y.1) in
    let b = bind_ok (tail_at bytes a.0.0 a.0.1) g es a.2 in
    let k = kept_ok (eqb b.0.1 (length bytes)) b.0.1 a.0.0 es b.2 in
    subst (AreRecords bytes) k.1 (items_good bytes a.0 a.1)

read_good : (bytes : List ℕ) → AreRecords bytes (places_or_none (pack_of bytes))
read_good bytes = by (pack_of bytes) refl
  where
    by : (o : Result (List Placed) ℕ) → pack_of bytes ≡ o → AreRecords bytes (places_or_none o)
    by (Ok es) is = pack_good bytes es is
    by (Err at) is = tt

-- ---- what is found in a pack

found_good : (bytes : List ℕ) (es : List Placed) (x : List ℕ) (found : ℕ × ℕ) → AreRecords bytes es → find_in es x ≡ Some found → why_not (cut bytes found) ≡ None
found_good bytes [] x found good is = absurd (cc is)
found_good bytes (e ∷ es) x found good is = by (bytes_eq e.name x) is (found_good bytes es x found good.1)
  where
    by : (b : Bool) → cond b (Some (e.place, e.len)) (find_in es x) ≡ Some found → (find_in es x ≡ Some found → why_not (cut bytes found) ≡ None) → why_not (cut bytes found) ≡ None
    by true is later = let same : (e.place, e.len) ≡ found = cc is in subst (λ (f : ℕ × ℕ). why_not (cut bytes f) ≡ None) same good.0
    by false is later = later is

-- ---- what is found in several

-- the record of the first pack that has the name
abbrev first_record : List PackFile → List ℕ → Option (List ℕ)
first_record [] x = None
first_record (p ∷ packs) x = option_or (map.get (records_of p) x) (first_record packs x)

or_none : {A : Type 0} (o : Option A) → option_or o None ≡ o
or_none None = refl
or_none (Some a) = refl

or_or : {A : Type 0} (a b c : Option A) → option_or (option_or a b) c ≡ option_or a (option_or b c)
or_or None b c = refl
or_or (Some x) b c = refl

own_first : (packs : List PackFile) (m : Names) (x : List ℕ) → map.get (fold (λ own p. union own (records_of p)) m packs) x ≡ option_or (map.get m x) (first_record packs x)
own_first [] m x = sym (or_none (map.get m x))
own_first (p ∷ packs) m x =
    own_first packs (union m (records_of p)) x
    ∙ ap (λ (o : Option (List ℕ)). option_or o (first_record packs x)) (get-union m (records_of p) x)
    ∙ or_or (map.get m x) (map.get (records_of p) x) (first_record packs x)

-- ---- what stands in the files

there_in : (states : States) (packs : List PackFile) (x whole : List ℕ) (place : Place) → AllByRecursion (HoldsPack states) packs → first_record packs x ≡ Some whole → place_of packs x ≡ Some place → StandsStill states place whole
there_in states [] x whole place held has here = absurd (cc has)
there_in states (p ∷ packs) x whole place held has here =
    by (find_in (items_of p) x) refl (sym (ap (λ (o : Option (List ℕ)). option_or o (first_record packs x)) (record_in p x)) ∙ has) here (there_in states packs x whole place held.1)
  where
    by : (o : Option (ℕ × ℕ)) → find_in (items_of p) x ≡ o → option_or (option_map (cut p.bytes) o) (first_record packs x) ≡ Some whole → option_or (option_map (to_place p.number) o) (place_of packs x) ≡ Some place
        → (first_record packs x ≡ Some whole → place_of packs x ≡ Some place → StandsStill states place whole) → StandsStill states place whole
    by None is has here later = later has here
    by (Some found) is has here later =
        let one : cut p.bytes found ≡ whole = cc has in
        let two : to_place p.number found ≡ place = cc here in
        let there : StandsStill states (to_place p.number found) (cut p.bytes found) = record { bytes = p.bytes; file = held.0; is = refl; good = found_good p.bytes (items_of p) x found (read_good p.bytes) is } in
        subst (λ (q : Place). StandsStill states q whole) two (subst (StandsStill states (to_place p.number found)) one there)

repo_in : (P : BaseRepo → Type 0) (repos : List BaseRepo) (path : List ℕ) (r : BaseRepo) → AllByRecursion P repos → repo_at repos path ≡ Some r → P r
repo_in P [] path r all is = absurd (cc is)
repo_in P (q ∷ repos) path r all is = by (eq_by_cmp key_cmp path q.path) is (repo_in P repos path r all.1)
  where
    by : (b : Bool) → cond b (Some q) (repo_at repos path) ≡ Some r → (repo_at repos path ≡ Some r → P r) → P r
    by true is later = let same : q ≡ r = cc is in subst P same all.0
    by false is later = later is

-- The record that a base has under a name stands at its place.
pub based_there : (states : States) (repos : List BaseRepo) (path x whole : List ℕ) (place : Place) → HoldsPacks repos states → own (content_of repos) path x ≡ Some whole → places_of repos path x ≡ Some place → StandsStill states place whole
based_there states repos path x whole place held has here =
    by (repo_at repos path) refl (sym (ap (λ (o : Option Repo). and_then o (λ (r : Repo). map.get r.own x)) (get-content_of repos path)) ∙ has) here
  where
    by : (o : Option BaseRepo) → repo_at repos path ≡ o → and_then (option_map repo_of o) (λ (r : Repo). map.get r.own x) ≡ Some whole → and_then o (λ (r : BaseRepo). place_of r.packs x) ≡ Some place → StandsStill states place whole
    by None is has here = absurd (cc has)
    by (Some r) is has here =
        let mine : AllByRecursion (HoldsPack states) r.packs = repo_in (λ (q : BaseRepo). AllByRecursion (HoldsPack states) q.packs) repos path r held is in
        let first : first_record r.packs x ≡ Some whole = sym (own_first r.packs map.empty x ∙ ap (λ (o : Option (List ℕ)). option_or o (first_record r.packs x)) (get-empty key_cmp x)) ∙ has in
        there_in states r.packs x whole place mine first here

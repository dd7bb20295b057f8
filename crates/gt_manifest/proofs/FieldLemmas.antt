-- Each part of a manifest is read exactly where its spelling stands.
use Rattle.std.proofs.Common.{◌≡◌, ℕ, ◌+◌, ◌^◌, ◌<◌, ◌≤◌, Bool, true, false, cond, eqb, ltb, List, [], ◌∷◌, ◌++◌, length, drop, Option, Some, None, Result, Ok, Err, refl, ap, subst, ◌∙◌, arith}
use Rattle.std.specs.Prelude.{codes, nat_eq, nat_le}
use Rattle.std.specs.List.{starts_with}
use Rattle.std.specs.Int.{w64}
use Rattle.std.proofs.lemmas.Bool.{le-ltb, eqb-true}
use Rattle.std.proofs.lemmas.Bool.Decides.{Decides-eqb}
use Rattle.std.proofs.lemmas.List.{length-drop, length-append, nil_from_length, drop-drop}
use Rattle.std.proofs.lemmas.Slice.Eq.{starts_is}
use Rattle.gt_bytes.specs.Spelling.{text, counted, Follows}
use Rattle.gt_bytes.specs.Reading.{◌>>=◌, byte_at, number_at, text_at, counted_at, kept, pair_at, seen_at}
use Rattle.gt_bytes.specs.Standing.{IsBytes, Stands, IsField}
use Rattle.gt_bytes.proofs.Steps.{bind_ok, ok_is}
use Rattle.gt_bytes.proofs.StandingLaws.{Stands-then, Stands-first, Stands-same}
use Rattle.gt_bytes.proofs.FieldLaws.{number_field, byte_field, text_field, wide64}
use Rattle.gt_bytes.proofs.CombinatorLaws.{pair_field, seen_field, kept_field}
use Rattle.gt_bytes.proofs.ListLaws.{counted_field}
use Rattle.gt_manifest.specs.declared.manifest.Loose.{Loose}
use Rattle.gt_manifest.specs.declared.manifest.RepoFiles.{RepoFiles}
use Rattle.gt_manifest.specs.declared.version.Version.{Version}
use Rattle.gt_manifest.specs.declared.version.Version.TheVariants.{First, Second}
use Rattle.gt_manifest.specs.Spelling.{number, flag, pool_text, loose, owner, files, lasts, repo, magic, head, body, good_path, good_ref, name_of, path_of, above, IsNumber, IsPath, IsRef, IsPool, MayLoose, AreNumbers, AreLoose, IsOwner, AreFiles, AreLasts, MayRepo, IsHead, FitsFields}
use Rattle.gt_manifest.specs.Reading.{then_at, path_at, ref_at, flag_of, flag_at, pool_of, pool_at, number_item, to_loose, loose_at, owner_at, files_at, position_at, lasts_at, to_repo, repo_at, next_at, head_at, version_at, to_manifest, top_at}

-- a field, and then another that depends on it
then_field : {A B : Type 0} (bytes : List ℕ) (r : ℕ → Result (A × ℕ) ℕ) (s : A → List ℕ) (F : A → Type 0) (q : A → ℕ → Result (B × ℕ) ℕ) (t : A → B → List ℕ) (G : A → B → Type 0)
    → IsField bytes r s F → ((a : A) → IsField bytes (q a) (t a) (G a)) → IsField {A = A × B} bytes (then_at r q) (λ p. s p.0 ++ t p.0 p.1) (λ p. F p.0 × G p.0 p.1)
then_field {A} {B} bytes r s F q t G one two = record { takes = takes; again = again }
  where
    takes : IsBytes bytes → (at : ℕ) (x : (A × B) × ℕ) → at ≤ length bytes → then_at r q at ≡ Ok x → Stands bytes at (s x.0.0 ++ t x.0.0 x.0.1) x.1 × (F x.0.0 × G x.0.0 x.0.1)
    takes good at x le e =
        let f : A × ℕ → Result ((A × B) × ℕ) ℕ = λ x. (let g : B × ℕ → Result ((A × B) × ℕ) ℕ = λ y. Ok ((x.0, y.0), y.1) in q x.0 x.1 >>= g) in
        let a = bind_ok (r at) f x e in
        let g : B × ℕ → Result ((A × B) × ℕ) ℕ = λ y. Ok ((a.0.0, y.0), y.1) in
        let b = bind_ok (q a.0.0 a.0.1) g x a.2 in
        let h = one.takes good at a.0 le a.1 in
        let k = (two a.0.0).takes good a.0.1 b.0 h.0.within b.1 in
        let made : (A × B) × ℕ = ((a.0.0, b.0.0), b.0.1) in
        let P : (A × B) × ℕ → Type 0 = λ y. Stands bytes at (s y.0.0 ++ t y.0.0 y.0.1) y.1 × (F y.0.0 × G y.0.0 y.0.1) in
        subst P (ok_is made x b.2) (Stands-then bytes at (s a.0.0) a.0.1 (t a.0.0 b.0.0) b.0.1 h.0 k.0, (h.1, k.1))

    again : (at : ℕ) (x : A × B) (next : ℕ) → at ≤ length bytes → Stands bytes at (s x.0 ++ t x.0 x.1) next → F x.0 × G x.0 x.1 → then_at r q at ≡ Ok (x, next)
    again at x next le st fits =
        let p = Stands-first bytes at (s x.0) (t x.0 x.1) next le st in
        rw (one.again at x.0 (at + length (s x.0)) le p.0 fits.0, (two x.0).again (at + length (s x.0)) x.1 next p.0.within p.1 fits.1) refl

-- ---- single fields

path_field : (bytes : List ℕ) → IsField bytes (path_at bytes) text IsPath
unfolding path_at
path_field bytes = kept_field bytes (text_at bytes) text (λ x. length x < 2 ^ 16) good_path (text_field bytes)

ref_field : (bytes : List ℕ) → IsField bytes (ref_at bytes) text IsRef
unfolding ref_at
ref_field bytes = kept_field bytes (text_at bytes) text (λ x. length x < 2 ^ 16) good_ref (text_field bytes)

big_field : (bytes : List ℕ) → IsField bytes (number_at w64 bytes) number IsNumber
big_field bytes = number_field bytes w64 (2 ^ 64) wide64

flag_takes : (bytes : List ℕ) (at b m : ℕ) (x : Bool × ℕ) → Stands bytes at (b ∷ []) m → flag_of at b m ≡ Ok x → Stands bytes at (flag x.0) x.1 × Unit {0}
flag_takes bytes at b m x st e = by (eqb b 0) refl (eqb b 1) refl e
  where
    by : (c : Bool) → eqb b 0 ≡ c → (d : Bool) → eqb b 1 ≡ d → cond c (Ok (false, m)) (cond d (Ok (true, m)) (Err at)) ≡ Ok x → Stands bytes at (flag x.0) x.1 × Unit {0}
    by true p d q f = let y : Bool × ℕ = (false, m) in let Q : Bool × ℕ → Type 0 = λ y. Stands bytes at (flag y.0) y.1 × Unit {0} in subst Q (ok_is y x f) (Stands-same bytes at (b ∷ []) (flag false) m (ap (λ (k : ℕ). k ∷ []) (eqb-true _ _ p)) st, tt)
    by false p true q f = let y : Bool × ℕ = (true, m) in let Q : Bool × ℕ → Type 0 = λ y. Stands bytes at (flag y.0) y.1 × Unit {0} in subst Q (ok_is y x f) (Stands-same bytes at (b ∷ []) (flag true) m (ap (λ (k : ℕ). k ∷ []) (eqb-true _ _ q)) st, tt)
    by false p false q f = absurd cc

flag_field : (bytes : List ℕ) → IsField bytes (flag_at bytes) flag (λ b. Unit {0})
unfolding flag_at
flag_field bytes = record { takes = takes; again = again }
  where
    takes : IsBytes bytes → (at : ℕ) (x : Bool × ℕ) → at ≤ length bytes → flag_at bytes at ≡ Ok x → Stands bytes at (flag x.0) x.1 × Unit {0}
    takes good at x le e =
        let b = bind_ok (byte_at bytes at) (λ b. flag_of at b.0 b.1) x e in
        flag_takes bytes at b.0.0 b.0.1 x ((byte_field bytes).takes good at b.0 le b.1).0 b.2

    again : (at : ℕ) (x : Bool) (next : ℕ) → at ≤ length bytes → Stands bytes at (flag x) next → Unit {0} → flag_at bytes at ≡ Ok (x, next)
    again at true next le s fits = rw ((byte_field bytes).again at 1 next le s (omega arith)) refl
    again at false next le s fits = rw ((byte_field bytes).again at 0 next le s (omega arith)) refl

pool_takes : (bytes : List ℕ) (at : ℕ) (p : List ℕ) (m : ℕ) (x : Option (List ℕ) × ℕ) → Stands bytes at (text p) m → length p < 2 ^ 16 → pool_of at p m ≡ Ok x → Stands bytes at (pool_text x.0) x.1 × IsPool x.0
pool_takes bytes at p m x st lt e = by (eqb (length p) 0) refl (good_path p) refl e
  where
    P : Option (List ℕ) × ℕ → Type 0
    P y = Stands bytes at (pool_text y.0) y.1 × IsPool y.0

    by : (c : Bool) → eqb (length p) 0 ≡ c → (d : Bool) → good_path p ≡ d → cond c (Ok (None, m)) (cond d (Ok (Some p, m)) (Err at)) ≡ Ok x → Stands bytes at (pool_text x.0) x.1 × IsPool x.0
    by true q d g f =
        let y : Option (List ℕ) × ℕ = (None, m) in
        let none : p ≡ [] = nil_from_length p (eqb-true _ _ q) in
        subst P (ok_is y x f) (Stands-same bytes at (text p) (text []) m (ap text none) st, tt)
    by false q true g f =
        let y : Option (List ℕ) × ℕ = (Some p, m) in
        subst P (ok_is y x f) (st, (lt, g))
    by false q false g f = absurd cc

not_zero : (n : ℕ) → 0 < n → eqb n 0 ≡ false
not_zero n lt = by (eqb n 0) refl
  where
    by : (b : Bool) → eqb n 0 ≡ b → b ≡ false
    by true e = absurd (omega (arith, eqb-true _ _ e, lt))
    by false e = refl

pool_some : (at : ℕ) (p : List ℕ) (next : ℕ) → 0 < length p → good_path p ≡ true → pool_of at p next ≡ Ok (Some p, next)
pool_some at p next lt good = rw (good, not_zero (length p) lt) refl

pool_field : (bytes : List ℕ) → IsField bytes (pool_at bytes) pool_text IsPool
unfolding pool_at
pool_field bytes = record { takes = takes; again = again }
  where
    takes : IsBytes bytes → (at : ℕ) (x : Option (List ℕ) × ℕ) → at ≤ length bytes → pool_at bytes at ≡ Ok x → Stands bytes at (pool_text x.0) x.1 × IsPool x.0
    takes good at x le e =
        let t = bind_ok (text_at bytes at) (λ t. pool_of at t.0 t.1) x e in
        let h = (text_field bytes).takes good at t.0 le t.1 in
        pool_takes bytes at t.0.0 t.0.1 x h.0 h.1 t.2

    again : (at : ℕ) (x : Option (List ℕ)) (next : ℕ) → at ≤ length bytes → Stands bytes at (pool_text x) next → IsPool x → pool_at bytes at ≡ Ok (x, next)
    again at None next le s fits = rw ((text_field bytes).again at [] next le s (omega arith)) refl
    again at (Some []) next le s fits = absurd (let g = fits.1 in cc)
    again at (Some (b ∷ rest)) next le s fits = ap (λ (r : Result (List ℕ × ℕ) ℕ). r >>= λ t. pool_of at t.0 t.1) ((text_field bytes).again at (b ∷ rest) next le s fits.0) ∙ pool_some at (b ∷ rest) next (omega arith) fits.1

numbers_field : (bytes : List ℕ) → IsField bytes (counted_at (number_item bytes) bytes) (counted number) AreNumbers
unfolding number_item
numbers_field bytes = counted_field bytes (number_item bytes) number (λ before n. IsNumber n) (λ before. big_field bytes)

loose_field : (bytes : List ℕ) (before : List Loose) → IsField bytes (loose_at bytes before) loose (MayLoose before)
unfolding loose_at
loose_field bytes before =
    let name = kept_field bytes (ref_at bytes) text IsRef (above name_of before) (ref_field bytes) in
    let all = pair_field bytes (λ at. kept (above name_of before) at (ref_at bytes at)) text (λ x. IsRef x × (above name_of before x ≡ true)) (number_at w64 bytes) number IsNumber name (big_field bytes) in
    seen_field bytes (pair_at (λ at. kept (above name_of before) at (ref_at bytes at)) (number_at w64 bytes)) (λ p. text p.0 ++ number p.1) (λ p. (IsRef p.0 × (above name_of before p.0 ≡ true)) × IsNumber p.1) to_loose (λ l. (l.name, l.file)) (λ l. refl) (λ p. refl) all

-- ---- a repository

owner_field : (bytes : List ℕ) (before : List RepoFiles) → IsField bytes (owner_at bytes before) owner (IsOwner before)
unfolding owner_at
owner_field bytes before =
    let path = kept_field bytes (path_at bytes) text IsPath (above path_of before) (path_field bytes) in
    let two = pair_field bytes (flag_at bytes) flag (λ b. Unit {0}) (pool_at bytes) pool_text IsPool (flag_field bytes) (pool_field bytes) in
    pair_field bytes (λ at. kept (above path_of before) at (path_at bytes at)) text (λ x. IsPath x × (above path_of before x ≡ true)) (pair_at (flag_at bytes) (pool_at bytes)) (λ p. flag p.0 ++ pool_text p.1) (λ p. Unit {0} × IsPool p.1) path two

files_field : (bytes : List ℕ) → IsField bytes (files_at bytes) files AreFiles
unfolding files_at
files_field bytes =
    let more = counted_field bytes (loose_at bytes) loose MayLoose (loose_field bytes) in
    let two = pair_field bytes (number_at w64 bytes) number IsNumber (counted_at (loose_at bytes) bytes) (counted loose) AreLoose (big_field bytes) more in
    pair_field bytes (counted_at (number_item bytes) bytes) (counted number) AreNumbers (pair_at (number_at w64 bytes) (counted_at (loose_at bytes) bytes)) (λ p. number p.0 ++ counted loose p.1) (λ p. IsNumber p.0 × AreLoose p.1) (numbers_field bytes) two

position_field : (applied : ℕ) (bytes : List ℕ) → IsField bytes (position_at applied bytes) number (λ n. IsNumber n × (nat_le n applied ≡ true))
unfolding position_at
position_field applied bytes = kept_field bytes (number_at w64 bytes) number IsNumber (λ n. nat_le n applied) (big_field bytes)

lasts_field : (v : Version) (applied : ℕ) (bytes : List ℕ) → IsField bytes (lasts_at v applied bytes) (lasts v) (AreLasts v applied)
unfolding lasts_at
lasts_field First applied bytes = record { takes = takes; again = again }
  where
    takes : IsBytes bytes → (at : ℕ) (x : (ℕ × ℕ) × ℕ) → at ≤ length bytes → lasts_at First applied bytes at ≡ Ok x → Stands bytes at [] x.1 × ((x.0.0 ≡ 0) × (x.0.1 ≡ 0))
    takes good at x le e =
        let y : (ℕ × ℕ) × ℕ = ((0, 0), at) in
        let P : (ℕ × ℕ) × ℕ → Type 0 = λ z. Stands bytes at [] z.1 × ((z.0.0 ≡ 0) × (z.0.1 ≡ 0)) in
        subst P (ok_is y x e) (record { parts = refl; after = omega arith; within = le }, (refl, refl))

    again : (at : ℕ) (x : ℕ × ℕ) (next : ℕ) → at ≤ length bytes → Stands bytes at [] next → (x.0 ≡ 0) × (x.1 ≡ 0) → lasts_at First applied bytes at ≡ Ok (x, next)
    again at x next le st zeros =
        let here : next ≡ at = omega (arith, st.after) in
        rw (here, zeros.0, zeros.1) refl
lasts_field Second applied bytes = pair_field bytes (position_at applied bytes) number (λ n. IsNumber n × (nat_le n applied ≡ true)) (position_at applied bytes) number (λ n. IsNumber n × (nat_le n applied ≡ true)) (position_field applied bytes) (position_field applied bytes)

abbrev parts_of_repo : RepoFiles → (List ℕ × (Bool × Option (List ℕ))) × ((List ℕ × (ℕ × List Loose)) × (ℕ × ℕ))
parts_of_repo r = ((r.path, (r.is_pool, r.pool)), ((r.packs, (r.packed, r.loose)), (r.repacked, r.refs_packed)))

repo_field : (v : Version) (applied : ℕ) (bytes : List ℕ) (before : List RepoFiles) → IsField bytes (repo_at v applied bytes before) (repo v) (MayRepo v applied before)
unfolding repo_at
repo_field v applied bytes before =
    let two = pair_field bytes (files_at bytes) files AreFiles (lasts_at v applied bytes) (lasts v) (AreLasts v applied) (files_field bytes) (lasts_field v applied bytes) in
    let all = pair_field bytes (owner_at bytes before) owner (IsOwner before) (pair_at (files_at bytes) (lasts_at v applied bytes)) (λ p. files p.0 ++ lasts v p.1) (λ p. AreFiles p.0 × AreLasts v applied p.1) (owner_field bytes before) two in
    seen_field bytes (pair_at (owner_at bytes before) (pair_at (files_at bytes) (lasts_at v applied bytes))) (λ p. owner p.0 ++ (files p.1.0 ++ lasts v p.1.1)) (λ p. IsOwner before p.0 × (AreFiles p.1.0 × AreLasts v applied p.1.1)) to_repo parts_of_repo (λ r. refl) (λ p. refl) all

-- ---- the whole

next_field : (bytes : List ℕ) → IsField bytes (next_at bytes) number (λ n. IsNumber n × (nat_le 1 n ≡ true))
unfolding next_at
next_field bytes = kept_field bytes (number_at w64 bytes) number IsNumber (λ n. nat_le 1 n) (big_field bytes)

head_field : (bytes : List ℕ) → IsField bytes (head_at bytes) head IsHead
unfolding head_at
head_field bytes =
    let two = pair_field bytes (number_at w64 bytes) number IsNumber (next_at bytes) number (λ n. IsNumber n × (nat_le 1 n ≡ true)) (big_field bytes) (next_field bytes) in
    pair_field bytes (number_at w64 bytes) number IsNumber (pair_at (number_at w64 bytes) (next_at bytes)) (λ p. number p.0 ++ number p.1) (λ p. IsNumber p.0 × (IsNumber p.1 × (nat_le 1 p.1 ≡ true))) (big_field bytes) two

body_field : (bytes : List ℕ) (v : Version) → IsField bytes (seen_at to_manifest (then_at (head_at bytes) (λ h. counted_at (repo_at v h.1.0 bytes) bytes))) (body v) (FitsFields v)
body_field bytes v =
    let all = then_field bytes (head_at bytes) head IsHead (λ h. counted_at (repo_at v h.1.0 bytes) bytes) (λ h. counted (repo v)) (λ h xs. (length xs < 2 ^ 32) × Follows (MayRepo v h.1.0) [] xs) (head_field bytes) (λ h. counted_field bytes (repo_at v h.1.0 bytes) (repo v) (MayRepo v h.1.0) (repo_field v h.1.0 bytes)) in
    seen_field bytes (then_at (head_at bytes) (λ h. counted_at (repo_at v h.1.0 bytes) bytes)) (λ p. head p.0 ++ counted (repo v) p.1) (λ p. IsHead p.0 × ((length p.1 < 2 ^ 32) × Follows (MayRepo v p.0.1.0) [] p.1)) to_manifest (λ m. ((m.epoch, (m.applied, m.next)), m.repos)) (λ m. refl) (λ p. refl) all

-- four bytes that are there
word_stands : (bytes : List ℕ) (at : ℕ) (word : List ℕ) → at ≤ length bytes → length word ≡ 4 → starts_with nat_eq (drop at bytes) word ≡ true → Stands bytes at word (at + 4)
word_stands bytes at word le four e =
    let w : drop at bytes ≡ word ++ drop (length word) (drop at bytes) = (starts_is Decides-eqb (drop at bytes) word (starts_with nat_eq (drop at bytes) word) refl).0 e in
    let room : at + 4 ≤ length bytes = omega (arith, ap length w, four, length-append word (drop (length word) (drop at bytes)), length-drop at bytes) in
    record { parts = w ∙ ap (λ (t : List ℕ). word ++ t) (ap (λ (n : ℕ). drop n (drop at bytes)) four ∙ drop-drop 4 at bytes); after = omega (arith, four); within = room }

version_field : (bytes : List ℕ) → IsField bytes (version_at bytes) magic (λ v. Unit {0})
unfolding version_at
version_field bytes = record { takes = takes; again = again }
  where
    takes : IsBytes bytes → (at : ℕ) (x : Version × ℕ) → at ≤ length bytes → version_at bytes at ≡ Ok x → Stands bytes at (magic x.0) x.1 × Unit {0}
    takes good at x le e = by (ltb (length (drop at bytes)) 4) (starts_with nat_eq (drop at bytes) (codes "GTM1")) refl (starts_with nat_eq (drop at bytes) (codes "GTM2")) refl e
      where
        P : Version × ℕ → Type 0
        P y = Stands bytes at (magic y.0) y.1 × Unit {0}

        by : (a : Bool) → (b : Bool) → starts_with nat_eq (drop at bytes) (codes "GTM1") ≡ b → (c : Bool) → starts_with nat_eq (drop at bytes) (codes "GTM2") ≡ c → cond a (Err at) (cond b (Ok (First, at + 4)) (cond c (Ok (Second, at + 4)) (Err at))) ≡ Ok x → P x
        by true b p c q f = absurd cc
        by false true p c q f = let y : Version × ℕ = (First, at + 4) in subst P (ok_is y x f) (word_stands bytes at (codes "GTM1") le refl p, tt)
        by false false p true q f = let y : Version × ℕ = (Second, at + 4) in subst P (ok_is y x f) (word_stands bytes at (codes "GTM2") le refl q, tt)
        by false false p false q f = absurd cc

    long : (at : ℕ) (word : List ℕ) (next : ℕ) → Stands bytes at word next → length word ≡ 4 → ltb (length (drop at bytes)) 4 ≡ false
    long at word next st four = le-ltb _ _ (omega (arith, four, ap length st.parts, length-append word (drop next bytes)))

    again : (at : ℕ) (v : Version) (next : ℕ) → at ≤ length bytes → Stands bytes at (magic v) next → Unit {0} → version_at bytes at ≡ Ok (v, next)
    again at First next le st fits =
        let after : next ≡ at + 4 = st.after in
        rw (long at (codes "GTM1") next st refl, st.parts, after) refl
    again at Second next le st fits =
        let after : next ≡ at + 4 = st.after in
        rw (long at (codes "GTM2") next st refl, st.parts, after) refl

pub top_field : (bytes : List ℕ) → IsField bytes (top_at bytes) (λ p. magic p.0 ++ body p.0 p.1) (λ p. Unit {0} × FitsFields p.0 p.1)
unfolding top_at
top_field bytes = then_field bytes (version_at bytes) magic (λ v. Unit {0}) (λ v. seen_at to_manifest (then_at (head_at bytes) (λ h. counted_at (repo_at v h.1.0 bytes) bytes))) body FitsFields (version_field bytes) (body_field bytes)

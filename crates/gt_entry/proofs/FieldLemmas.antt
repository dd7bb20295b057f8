-- Each single field is read exactly where its spelling stands.
use Rattle.std.proofs.Common.{◌≡◌, ℕ, ◌+◌, ◌^◌, ◌<◌, ◌≤◌, Bool, true, false, cond, eqb, ltb, List, [], ◌∷◌, ◌++◌, length, drop, Result, Ok, Err, refl, ap, subst, arith}
use Rattle.std.specs.Prelude.{codes, nat_eq}
use Rattle.std.specs.List.{starts_with}
use Rattle.std.specs.Int.{w64}
use Rattle.std.proofs.lemmas.Bool.{le-ltb, eqb-true}
use Rattle.std.proofs.lemmas.Bool.Decides.{Decides-eqb}
use Rattle.std.proofs.lemmas.List.{length-append}
use Rattle.std.proofs.lemmas.Slice.Eq.{starts_is}
use Rattle.gt_bytes.specs.Spelling.{text}
use Rattle.gt_bytes.specs.Reading.{byte_at, number_at, text_at, seen_at}
use Rattle.gt_bytes.specs.Standing.{IsBytes, Stands, IsField}
use Rattle.gt_bytes.proofs.Steps.{bind_ok, ok_is}
use Rattle.gt_bytes.proofs.StandingLaws.{Stands-from, Stands-same}
use Rattle.gt_bytes.proofs.FieldLaws.{number_field, byte_field, text_field, wide64}
use Rattle.gt_bytes.proofs.CombinatorLaws.{kept_field}
use Rattle.gt_entry.specs.declared.version.Version.{Version}
use Rattle.gt_entry.specs.declared.version.Version.TheVariants.{First, Second}
use Rattle.gt_entry.specs.Fits.{IsNumber}
use Rattle.gt_entry.specs.Reading.{good_path, good_ref, path_at, ref_at, flag_of, flag_at, version_at}
use Rattle.gt_entry.specs.Spelling.{number, flag, magic}
use Rattle.gt_entry.proofs.Allowed.{IsPathText, IsRefText}

pub big_field : (bytes : List ℕ) → IsField bytes (number_at w64 bytes) number IsNumber
big_field bytes = number_field bytes w64 (2 ^ 64) wide64

pub path_field : (bytes : List ℕ) → IsField bytes (path_at bytes) text IsPathText
unfolding path_at
path_field bytes = kept_field bytes (text_at bytes) text (λ x. length x < 2 ^ 16) good_path (text_field bytes)

pub ref_field : (bytes : List ℕ) → IsField bytes (ref_at bytes) text IsRefText
unfolding ref_at
ref_field bytes = kept_field bytes (text_at bytes) text (λ x. length x < 2 ^ 16) good_ref (text_field bytes)

-- ---- a byte that is 0 or 1

flag_takes : (bytes : List ℕ) (at b m : ℕ) (x : Bool × ℕ) → Stands bytes at (b ∷ []) m → flag_of at b m ≡ Ok x → Stands bytes at (flag x.0) x.1 × Unit {0}
flag_takes bytes at b m x st e = by (eqb b 0) refl (eqb b 1) refl e
  where
    P : Bool × ℕ → Type 0
    P y = Stands bytes at (flag y.0) y.1 × Unit {0}

    by : (c : Bool) → eqb b 0 ≡ c → (d : Bool) → eqb b 1 ≡ d → cond c (Ok (false, m)) (cond d (Ok (true, m)) (Err at)) ≡ Ok x → P x
    by true p d q f = let y : Bool × ℕ = (false, m) in subst P (ok_is y x f) (Stands-same bytes at (b ∷ []) (flag false) m (ap (λ (k : ℕ). k ∷ []) (eqb-true _ _ p)) st, tt)
    by false p true q f = let y : Bool × ℕ = (true, m) in subst P (ok_is y x f) (Stands-same bytes at (b ∷ []) (flag true) m (ap (λ (k : ℕ). k ∷ []) (eqb-true _ _ q)) st, tt)
    by false p false q f = absurd cc

pub flag_field : (bytes : List ℕ) → IsField bytes (flag_at bytes) flag (λ b. Unit {0})
unfolding flag_at
flag_field bytes = record { takes = takes; again = again }
  where
    takes : IsBytes bytes → (at : ℕ) (x : Bool × ℕ) → at ≤ length bytes → flag_at bytes at ≡ Ok x → Stands bytes at (flag x.0) x.1 × Unit {0}
    takes good at x le e =
        let b = bind_ok (byte_at bytes at) (λ b. flag_of at b.0 b.1) x e in
        flag_takes bytes at b.0.0 b.0.1 x ((byte_field bytes).takes good at b.0 le b.1).0 b.2

    again : (at : ℕ) (x : Bool) (next : ℕ) → at ≤ length bytes → Stands bytes at (flag x) next → Unit {0} → flag_at bytes at ≡ Ok (x, next)
    again at true next le s fits = rw ((byte_field bytes).again at 1 next le s (omega arith)) refl
    again at false next le s fits = rw ((byte_field bytes).again at 0 next le s (omega arith)) refl

-- ---- the magic

-- a word that is there
word_stands : (bytes : List ℕ) (at : ℕ) (word : List ℕ) → at ≤ length bytes → starts_with nat_eq (drop at bytes) word ≡ true → Stands bytes at word (at + length word)
word_stands bytes at word le e =
    let w : drop at bytes ≡ word ++ drop (length word) (drop at bytes) = (starts_is Decides-eqb (drop at bytes) word (starts_with nat_eq (drop at bytes) word) refl).0 e in
    Stands-from bytes at word (drop (length word) (drop at bytes)) le w

pub version_field : (bytes : List ℕ) → IsField bytes (version_at bytes) magic (λ v. Unit {0})
unfolding version_at
version_field bytes = record { takes = takes; again = again }
  where
    takes : IsBytes bytes → (at : ℕ) (x : Version × ℕ) → at ≤ length bytes → version_at bytes at ≡ Ok x → Stands bytes at (magic x.0) x.1 × Unit {0}
    takes good at x le e = by (ltb (length (drop at bytes)) 4) (starts_with nat_eq (drop at bytes) (codes "GTE1")) refl (starts_with nat_eq (drop at bytes) (codes "GTE2")) refl e
      where
        P : Version × ℕ → Type 0
        P y = Stands bytes at (magic y.0) y.1 × Unit {0}

        by : (a : Bool) → (b : Bool) → starts_with nat_eq (drop at bytes) (codes "GTE1") ≡ b → (c : Bool) → starts_with nat_eq (drop at bytes) (codes "GTE2") ≡ c → cond a (Err at) (cond b (Ok (First, at + 4)) (cond c (Ok (Second, at + 4)) (Err at))) ≡ Ok x → P x
        by true b p c q f = absurd cc
        by false true p c q f = let y : Version × ℕ = (First, at + 4) in subst P (ok_is y x f) (word_stands bytes at (codes "GTE1") le p, tt)
        by false false p true q f = let y : Version × ℕ = (Second, at + 4) in subst P (ok_is y x f) (word_stands bytes at (codes "GTE2") le q, tt)
        by false false p false q f = absurd cc

    long : (at : ℕ) (word : List ℕ) (next : ℕ) → Stands bytes at word next → length word ≡ 4 → ltb (length (drop at bytes)) 4 ≡ false
    long at word next st four = le-ltb _ _ (omega (arith, four, ap length st.parts, length-append word (drop next bytes)))

    again : (at : ℕ) (v : Version) (next : ℕ) → at ≤ length bytes → Stands bytes at (magic v) next → Unit {0} → version_at bytes at ≡ Ok (v, next)
    again at First next le st fits =
        let after : next ≡ at + 4 = st.after in
        rw (long at (codes "GTE1") next st refl, st.parts, after) refl
    again at Second next le st fits =
        let after : next ≡ at + 4 = st.after in
        rw (long at (codes "GTE2") next st refl, st.parts, after) refl

-- ---- a value that is made of a field's

module _ {A B : Type 0} (bytes : List ℕ) (r : ℕ → Result (A × ℕ) ℕ) (s : A → List ℕ) (F : A → Type 0) (to : A → B) (one : IsField bytes r s F) where
  pub made_takes : IsBytes bytes → (at : ℕ) (x : B × ℕ) → at ≤ length bytes → seen_at to r at ≡ Ok x → (a : A) × (to a ≡ x.0) × Stands bytes at (s a) x.1 × F a
  made_takes good at x le e =
      let f : A × ℕ → Result (B × ℕ) ℕ = λ y. Ok (to y.0, y.1) in
      let a = bind_ok (r at) f x e in
      let h = one.takes good at a.0 le a.1 in
      let made : B × ℕ = (to a.0.0, a.0.1) in
      let is = ok_is made x a.2 in
      let P : ℕ → Type 0 = λ n. Stands bytes at (s a.0.0) n in
      (a.0.0, ap (λ (y : B × ℕ). y.0) is, subst P (ap (λ (y : B × ℕ). y.1) is) h.0, h.1)

  pub made_again : (at : ℕ) (a : A) (next : ℕ) → at ≤ length bytes → Stands bytes at (s a) next → F a → seen_at to r at ≡ Ok (to a, next)
  made_again at a next le st fits = rw (one.again at a next le st fits) refl

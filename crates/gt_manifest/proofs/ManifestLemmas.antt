-- A manifest is read exactly from its spellings.
use Rattle.std.proofs.Common.{◌≡◌, ℕ, true, cond, eqb, List, [], ◌++◌, length, drop, Result, Ok, Err, refl, sym, ap, subst, ◌∙◌, arith}
use Rattle.std.specs.Prelude.{IfOk, is_ok}
use Rattle.std.proofs.lemmas.Bool.{eqb-true, eq-eqb}
use Rattle.std.proofs.lemmas.List.{drop_at, length-append, append-nil, drop_all, nil_from_length}
use Rattle.gt_bytes.specs.Reading.{◌>>=◌}
use Rattle.gt_bytes.specs.Standing.{IsBytes, Stands}
use Rattle.gt_bytes.proofs.Steps.{bind_ok, kept_ok, ok_is}
use Rattle.gt_manifest.specs.declared.manifest.Manifest.{Manifest}
use Rattle.gt_manifest.specs.declared.version.Version.{Version}
use Rattle.gt_manifest.specs.declared.error.ManifestError.{ManifestError}
use Rattle.gt_manifest.specs.Spelling.{manifest, FitsFields}
use Rattle.gt_manifest.specs.Reading.{top_at, fields_of}
use Rattle.gt_manifest.specs.Whole.{whole, sound, manifest_of, Fits, IsSpelledBy}
use Rattle.gt_manifest.specs.Answers.{Reads}
use Rattle.gt_manifest.proofs.WholeLemmas.{whole_is, whole_goes}
use Rattle.gt_manifest.proofs.FieldLemmas.{top_field}

fields_take : (bytes : List ℕ) (x : Version × Manifest) → IsBytes bytes → fields_of bytes ≡ Ok x → FitsFields x.0 x.1 × (bytes ≡ manifest x.0 x.1)
unfolding fields_of
fields_take bytes x good h =
    let f : (Version × Manifest) × ℕ → Result (Version × Manifest) ℕ = λ y. cond (eqb y.1 (length bytes)) (Ok y.0) (Err y.1) in
    let a = bind_ok (top_at bytes 0) f x h in
    let k = kept_ok (eqb a.0.1 (length bytes)) a.0.1 a.0.0 x a.2 in
    let t = (top_field bytes).takes good 0 a.0 (omega arith) a.1 in
    let none : drop a.0.1 bytes ≡ [] = drop_all a.0.1 bytes (omega (arith, eqb-true _ _ k.0)) in
    let whole : bytes ≡ manifest a.0.0.0 a.0.0.1 = t.0.parts ∙ ap (λ (r : List ℕ). manifest a.0.0.0 a.0.0.1 ++ r) none ∙ append-nil (manifest a.0.0.0 a.0.0.1) in
    let P : Version × Manifest → Type 0 = λ y. FitsFields y.0 y.1 × (bytes ≡ manifest y.0 y.1) in
    subst P k.1 (t.1.1, whole)

-- what a manifest begins with
begins : (part rest : List ℕ) → Stands (part ++ rest) 0 part (length part)
begins part rest = record { parts = ap (λ (r : List ℕ). part ++ r) (sym (drop_at part rest (length part) refl)); after = omega arith; within = omega (arith, length-append part rest) }

front_again : (v : Version) (m : Manifest) (rest : List ℕ) → FitsFields v m → top_at (manifest v m ++ rest) 0 ≡ Ok ((v, m), length (manifest v m))
front_again v m rest fits = (top_field (manifest v m ++ rest)).again 0 (v, m) (length (manifest v m)) (omega arith) (begins (manifest v m) rest) (tt, fits)

fields_again : (v : Version) (m : Manifest) → FitsFields v m → fields_of (manifest v m) ≡ Ok (v, m)
unfolding fields_of
fields_again v m fits =
    let whole : top_at (manifest v m) 0 ≡ Ok ((v, m), length (manifest v m)) = ap (λ (b : List ℕ). top_at b 0) (sym (append-nil (manifest v m))) ∙ front_again v m [] fits in
    let same : eqb (length (manifest v m)) (length (manifest v m)) ≡ true = eq-eqb _ _ refl in
    rw (whole, same) refl

-- a sum that is Ok goes on
goes_on : {A B : Type 0} (r : Result A ℕ) (b : B) → is_ok r ≡ true → (r >>= λ s. Ok b) ≡ Ok b
goes_on (Ok s) b e = refl
goes_on (Err d) b e = absurd cc

went_on : {A B : Type 0} (r : Result A ℕ) (b c : B) → (r >>= λ s. Ok b) ≡ Ok c → (is_ok r ≡ true) × (b ≡ c)
went_on (Ok s) b c e = (refl, ok_is b c e)
went_on (Err d) b c e = absurd cc

pub manifest_again : (v : Version) (m : Manifest) → Fits v m → manifest_of (manifest v m) ≡ Ok m
manifest_again v m fits = rw (fields_again v m fits.0) (goes_on (whole v m) m (whole_goes v m fits.1))

manifest_takes : (bytes : List ℕ) (m : Manifest) → IsBytes bytes → manifest_of bytes ≡ Ok m → IsSpelledBy bytes m
manifest_takes bytes m good e =
    let a = bind_ok (fields_of bytes) sound m e in
    let f = fields_take bytes a.0 good a.1 in
    let w = went_on (whole a.0.0 a.0.1) a.0.1 m a.2 in
    let P : Manifest → Type 0 = λ y. IsSpelledBy bytes y in
    subst P w.1 (record { version = a.0.0; fits = (f.0, whole_is a.0.0 a.0.1 w.0); bytes_are = f.1 })

-- ---- what the decoder answers

pub is_found : (bytes : List ℕ) (r : Result Manifest ManifestError) → IsBytes bytes → Reads r (manifest_of bytes) → IfOk r (IsSpelledBy bytes)
is_found bytes (Ok m) good given = manifest_takes bytes m good given
is_found bytes (Err e) good given = tt

pub is_read : (bytes : List ℕ) (r : Result Manifest ManifestError) (v : Version) (m : Manifest) → Fits v m → bytes ≡ manifest v m → Reads r (manifest_of bytes) → Reads r (Ok m)
is_read bytes r v m fits is given = subst (λ f. Reads r f) (ap manifest_of is ∙ manifest_again v m fits) given

-- no spelling begins another one
pub no_front : (v w : Version) (a b : Manifest) (rest : List ℕ) → FitsFields v a → FitsFields w b → manifest w b ≡ manifest v a ++ rest → (a ≡ b) × (rest ≡ [])
no_front v w a b rest fa fb e =
    let first : top_at (manifest w b) 0 ≡ Ok ((v, a), length (manifest v a)) = ap (λ (x : List ℕ). top_at x 0) e ∙ front_again v a rest fa in
    let second : top_at (manifest w b) 0 ≡ Ok ((w, b), length (manifest w b)) = ap (λ (x : List ℕ). top_at x 0) (sym (append-nil (manifest w b))) ∙ front_again w b [] fb in
    let x : (Version × Manifest) × ℕ = ((v, a), length (manifest v a)) in
    let y : (Version × Manifest) × ℕ = ((w, b), length (manifest w b)) in
    let is : x ≡ y = ok_is x y (sym first ∙ second) in
    let len : length (manifest v a) ≡ length (manifest w b) = ap (λ (z : (Version × Manifest) × ℕ). z.1) is in
    (ap (λ (z : (Version × Manifest) × ℕ). z.0.1) is, nil_from_length rest (omega (arith, len, ap length e, length-append (manifest v a) rest)))

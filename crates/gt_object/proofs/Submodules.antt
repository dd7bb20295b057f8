-- A mode of at most 7 octal digits is 160000 in value exactly where it is one of two texts.
use Rattle.std.proofs.Common.{◌≡◌, ℕ, zero, suc, ◌+◌, ◌-◌, ◌*◌, ◌≤◌, Bool, true, false, ◌||◌, List, [], ◌∷◌, length, Ok, refl, sym, ap, ◌∙◌, arith, inl, inr, ◌⊎◌}
use Rattle.std.specs.Prelude.{codes, fold, bytes_eq}
use Rattle.std.specs.List.{AllPass}
use Rattle.std.proofs.lemmas.Bool.{leb-true, eqb-true}
use Rattle.std.proofs.lemmas.Slice.Eq.{bytes_eq-Decides}
use Rattle.gt_object.specs.Trees.{is_octal, octal_value, is_submodule, entry_at, TreeEntry}
use Rattle.gt_object.specs.Finds.{is_submodule_text}
use Rattle.gt_object.proofs.TreeLaws.{both, entry_takes}

-- each is an octal digit
abbrev Digits : List ℕ → Type 0
Digits [] = Unit {0}
Digits (x ∷ xs) = (48 ≤ x) × (x ≤ 55) × Digits xs

digits : (xs : List ℕ) → AllPass is_octal xs → Digits xs
digits [] h = tt
digits (x ∷ xs) h =
    let b = both _ _ (h 0 0 (omega arith)) in
    (leb-true _ _ b.0, leb-true _ _ b.1, digits xs (λ k d lt. h (suc k) d (omega arith)))

abbrev step : ℕ → ℕ → ℕ
step value b = 8 * value + (b - 48)

-- texts of one length and one value are one text
same_text : (v w : ℕ) (xs ys : List ℕ) → length xs ≡ length ys → Digits xs → Digits ys → fold step v xs ≡ fold step w ys → (v ≡ w) × (xs ≡ ys)
same_text v w [] [] len a b e = (e, refl)
same_text v w [] (y ∷ ys) len a b e = absurd (omega arith)
same_text v w (x ∷ xs) [] len a b e = absurd (omega arith)
same_text v w (x ∷ xs) (y ∷ ys) len a b e =
    let rest = same_text (step v x) (step w y) xs ys (omega arith) a.2 b.2 e in
    let front = rest.0 in
    let low = a.0 in
    let high = a.1 in
    let low' = b.0 in
    let high' = b.1 in
    let values : v ≡ w = omega arith in
    let heads : x ≡ y = omega arith in
    let f : ℕ → List ℕ → List ℕ = λ z zs. z ∷ zs in
    (values, ap (λ (z : ℕ). f z xs) heads ∙ ap (f y) rest.1)

-- zeros before a text
abbrev padded : ℕ → List ℕ → List ℕ
padded zero xs = xs
padded (suc n) xs = 48 ∷ padded n xs

padded_digits : (n : ℕ) (xs : List ℕ) → Digits xs → Digits (padded n xs)
padded_digits zero xs d = d
padded_digits (suc n) xs d = (omega arith, omega arith, padded_digits n xs d)

length-padded : (n : ℕ) (xs : List ℕ) → length (padded n xs) ≡ n + length xs
length-padded zero xs = omega arith
length-padded (suc n) xs = omega (arith, length-padded n xs)

value-padded : (n : ℕ) (xs : List ℕ) → fold step 0 (padded n xs) ≡ fold step 0 xs
value-padded zero xs = refl
value-padded (suc n) xs = value-padded n xs

head_is : (a b : ℕ) (xs ys : List ℕ) → (a ∷ xs) ≡ (b ∷ ys) → (a ≡ b) × (xs ≡ ys)
head_is a b xs ys e = (cc, cc)

long_digits : Digits (codes "0160000")
long_digits = (omega arith, omega arith, (omega arith, omega arith, (omega arith, omega arith, (omega arith, omega arith, (omega arith, omega arith, (omega arith, omega arith, (omega arith, omega arith, tt)))))))

-- a text of this value is one of two
one_of : (n : ℕ) (mode : List ℕ) → n + length mode ≡ 7 → Digits mode → fold step 0 mode ≡ 57344 → (mode ≡ codes "160000") ⊎ (mode ≡ codes "0160000")
one_of n mode len d e = by n (same_text 0 0 (padded n mode) (codes "0160000") (omega (arith, length-padded n mode)) (padded_digits n mode d) long_digits (value-padded n mode ∙ e)).1
  where
    by : (k : ℕ) → padded k mode ≡ codes "0160000" → (mode ≡ codes "160000") ⊎ (mode ≡ codes "0160000")
    by zero h = inr h
    by (suc zero) h = inl (head_is 48 48 mode (codes "160000") h).1
    by (suc (suc k)) h =
        let inner = (head_is 48 48 (48 ∷ padded k mode) (codes "160000") h).1 in
        absurd (omega (arith, (head_is 48 49 (padded k mode) (codes "60000") inner).0))

-- two tests that hold together are one
same_test : (a b : Bool) → (a ≡ true → b ≡ true) → (b ≡ true → a ≡ true) → a ≡ b
same_test true b f g = sym (f refl)
same_test false true f g = g refl
same_test false false f g = refl

-- the first of two
pub or_left : (a b : Bool) → a ≡ true → (a || b) ≡ true
or_left true b e = refl
or_left false b e = cc

-- the second of two
pub or_right : (a b : Bool) → b ≡ true → (a || b) ≡ true
or_right true b e = refl
or_right false b e = e

-- one of two
pub or_parts : (a b : Bool) → (a || b) ≡ true → (a ≡ true) ⊎ (b ≡ true)
or_parts true b e = inl refl
or_parts false b e = inr e

pub submodule_is : (mode : List ℕ) → length mode ≤ 7 → AllPass is_octal mode → is_submodule_text mode ≡ is_submodule mode
submodule_is mode few octal = same_test (is_submodule_text mode) (is_submodule mode) valued spelled
  where
    valued : is_submodule_text mode ≡ true → is_submodule mode ≡ true
    valued e =
        elim (or_parts (bytes_eq mode (codes "160000")) (bytes_eq mode (codes "0160000")) e) [
          | inl six ↦ (let is : mode ≡ codes "160000" = (bytes_eq-Decides mode (codes "160000")).0 six in rw is refl)
          | inr seven ↦ (let is : mode ≡ codes "0160000" = (bytes_eq-Decides mode (codes "0160000")).0 seven in rw is refl)
        ]

    spelled : is_submodule mode ≡ true → is_submodule_text mode ≡ true
    spelled e =
        let value : octal_value mode ≡ 57344 = eqb-true _ _ e in
        elim (one_of (7 - length mode) mode (omega arith) (digits mode octal) value) [
          | inl six ↦ or_left (bytes_eq mode (codes "160000")) (bytes_eq mode (codes "0160000")) ((bytes_eq-Decides mode (codes "160000")).1 six)
          | inr seven ↦ or_right (bytes_eq mode (codes "160000")) (bytes_eq mode (codes "0160000")) ((bytes_eq-Decides mode (codes "0160000")).1 seven)
        ]

-- the same of an entry that is read
pub submodule_of : (c : List ℕ) (at : ℕ) (e : TreeEntry) (next : ℕ) → at ≤ length c → entry_at c at ≡ Ok (e, next) → is_submodule_text e.mode ≡ is_submodule e.mode
submodule_of c at e next le read = let fits = (entry_takes c at (e, next) le read).1 in submodule_is e.mode fits.few_digits fits.octal

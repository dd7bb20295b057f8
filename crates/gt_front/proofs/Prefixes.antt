-- Beginnings of one list.
use Rattle.std.proofs.Common.{◌≡◌, ◌≤◌, List, [], ◌∷◌, ◌++◌, length, Bool, true, false, true≢false, refl, ap, sym, subst, ◌∙◌, arith, append_assoc, length-append}
use mathlib.Core.List.{IsPrefix}
use Rattle.gt_front.specs.Views.{pick, is_shorter, longer, shorter}

pub prefix_none : {A : Type 0} (xs : List A) → IsPrefix [] xs
prefix_none xs = (xs, refl)

pub prefix_trans : {A : Type 0} (xs ys zs : List A) → IsPrefix xs ys → IsPrefix ys zs → IsPrefix xs zs
prefix_trans xs ys zs p q = (p.0 ++ q.0, sym (append_assoc xs p.0 q.0) ∙ (ap (λ w. w ++ q.0) p.1 ∙ q.1))

-- of two beginnings of one list the shorter begins the longer
pub prefix_shorter : {A : Type 0} (xs ys zs : List A) → IsPrefix xs zs → IsPrefix ys zs → length xs ≤ length ys → IsPrefix xs ys
prefix_shorter [] ys zs p q le = (ys, refl)
prefix_shorter (x ∷ xs) [] zs p q le = absurd (omega arith)
prefix_shorter (x ∷ xs) (y ∷ ys) [] p q le = absurd (cc (p.1))
prefix_shorter (x ∷ xs) (y ∷ ys) (z ∷ zs) p q le =
    let heads : x ≡ y = cc (p.1, q.1) in
    let rest = prefix_shorter xs ys zs (p.0, cc (p.1)) (q.0, cc (q.1)) (omega arith) in
    (rest.0, cc (heads, rest.1))

-- a beginning as long as the whole is the whole
pub prefix_whole : {A : Type 0} (xs ys : List A) → IsPrefix xs ys → length ys ≤ length xs → xs ≡ ys
prefix_whole [] [] p le = refl
prefix_whole [] (y ∷ ys) p le = absurd (omega arith)
prefix_whole (x ∷ xs) [] p le = absurd (cc (p.1))
prefix_whole (x ∷ xs) (y ∷ ys) p le =
    let rest = prefix_whole xs ys (p.0, cc (p.1)) (omega arith) in cc (p.1, rest)

pub prefix_length : {A : Type 0} (xs ys : List A) → IsPrefix xs ys → length xs ≤ length ys
prefix_length xs ys p = omega (arith, sym (ap length p.1) ∙ length-append xs p.0)

pub shorter_is : {A : Type 0} (xs ys : List A) → is_shorter xs ys ≡ true → length xs ≤ length ys
shorter_is [] [] e = omega arith
shorter_is [] (y ∷ ys) e = omega arith
shorter_is (x ∷ xs) [] e = absurd (true≢false (sym e))
shorter_is (x ∷ xs) (y ∷ ys) e = let r = shorter_is xs ys e in omega arith

pub shorter_is_not : {A : Type 0} (xs ys : List A) → is_shorter xs ys ≡ false → length ys ≤ length xs
shorter_is_not [] [] e = omega arith
shorter_is_not [] (y ∷ ys) e = absurd (true≢false e)
shorter_is_not (x ∷ xs) [] e = omega arith
shorter_is_not (x ∷ xs) (y ∷ ys) e = let r = shorter_is_not xs ys e in omega arith

-- what a join makes of two beginnings of one list
pub picked : {A : Type 0} (c : Bool) (xs ys log : List A) → (c ≡ true → length xs ≤ length ys) → (c ≡ false → length ys ≤ length xs) → IsPrefix xs log → IsPrefix ys log → IsPrefix (pick c ys xs) log × IsPrefix (pick c xs ys) (pick c ys xs)
picked true xs ys log up down p q = (q, prefix_shorter xs ys log p q (up refl))
picked false xs ys log up down p q = (p, prefix_shorter ys xs log q p (down refl))

pub merged : {A : Type 0} (b : Bool) (xs ys log : List A) → (b ≡ true → xs ≡ log) → IsPrefix xs log → IsPrefix ys log → IsPrefix (pick b xs (longer xs ys)) log × IsPrefix (pick b ys (shorter xs ys)) (pick b xs (longer xs ys)) × (b ≡ true → pick b xs (longer xs ys) ≡ log)
merged true xs ys log e p q = (p, subst (λ l. IsPrefix ys l) (sym (e refl)) q, e)
merged false xs ys log e p q = let t = picked (is_shorter xs ys) xs ys log (shorter_is xs ys) (shorter_is_not xs ys) p q in (t.0, t.1, (λ b. absurd (true≢false (sym b))))

pub longer_of : {A : Type 0} (c : Bool) (xs ys : List A) → (c ≡ false → length ys ≤ length xs) → IsPrefix xs ys → pick c ys xs ≡ ys
longer_of true xs ys down p = refl
longer_of false xs ys down p = prefix_whole xs ys p (down refl)

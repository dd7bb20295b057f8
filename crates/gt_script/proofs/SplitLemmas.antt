-- The words of a text, cut at its first space.
use Rattle.std.proofs.Common.{◌≡◌, ℕ, suc, ◌+◌, ◌<◌, add-one, drop-cons, Err, Bool, true, false, not, cond, ltb, eqb, List, [], ◌∷◌, length, take, drop, Some, None, position, unwrap_or, refl, ap, arith}
use Rattle.std.proofs.lemmas.Bool.Decides.{nat_tests}
use Rattle.std.proofs.lemmas.List.Sums.{prefix_len-le-length}
use Rattle.std.specs.List.{position_or_len, prefix_len, onto_first}
use Rattle.gt_script.specs.Grammar.{Reader, no_word, maybe}
use Rattle.gt_script.specs.Words.{split, placed}
use Rattle.gt_script.specs.Answers.{behind, left}

-- the place of the first that passes, or the length
pub place-or : (p : ℕ → Bool) (r : List ℕ) → unwrap_or (position p r) (length r) ≡ position_or_len p r
place-or p r = by (ltb (position_or_len p r) (length r)) refl
  where
    by : (b : Bool) → ltb (position_or_len p r) (length r) ≡ b → unwrap_or (cond b (Some (position_or_len p r)) None) (length r) ≡ position_or_len p r
    by true e = refl
    by false e =
        let least = prefix_len-le-length (λ x. not (p x)) r in
        grind (arith, nat_tests, least)

abbrev before : List ℕ → ℕ
before text = prefix_len (λ b. not (eqb b 32)) text

-- the first word, and those behind it
pub split-cut : (text : List ℕ) → split text ≡ take (before text) text ∷ behind (drop (before text) text)
split-cut [] = refl
split-cut (b ∷ rest) =
    elim (eqb b 32) as (λ v. cond v ([] ∷ split rest) (onto_first b (split rest)) ≡ take (cond (not v) (1 + before rest) 0) (b ∷ rest) ∷ behind (drop (cond (not v) (1 + before rest) 0) (b ∷ rest))) [
      | true ↦ refl
      | false ↦
          let one : 1 + before rest ≡ suc (before rest) = omega arith in
          rw (one, split-cut rest) refl
    ]

behind-more : (text : List ℕ) (at : ℕ) → at < length text → behind (drop at text) ≡ split (drop (at + 1) text)
behind-more text at lt = rw (add-one, drop-cons text at 0) refl

-- the words behind a place where the text doesn't end
pub left-more : (text : List ℕ) (at : ℕ) → at < length text → left text at ≡ placed (at + 1) (split (drop (at + 1) text))
left-more text at lt = ap (placed (at + 1)) (behind-more text at lt)

-- there is one at least
pub no_word-more : (text : List ℕ) (at : ℕ) → at < length text → no_word (length text) (left text at) ≡ Err (at + 1)
no_word-more text at lt = rw (left-more text at lt, split-cut (drop (at + 1) text)) refl

-- so what may be left out is read
pub maybe_more : {A : Type 0} (a : A) (read : Reader A) (text : List ℕ) (at : ℕ) → at < length text → maybe a read (length text) (left text at) ≡ read (length text) (left text at)
maybe_more a read text at lt = rw (left-more text at lt, split-cut (drop (at + 1) text)) refl

-- A reference and its file, by the text of its name.
use Rattle.std.proofs.Common.{◌≡◌, ◌⊎◌, inl, inr, ℕ, Bool, true, false, List, Option, Some, None, IsSome, Result, Ok, Err, IsOk, refl, ◌∙◌}
use Rattle.std.specs.Int.{w64}
use Rattle.gt_bytes.specs.Reading.{◌>>=◌, number_at, text_at}
use Rattle.gt_manifest.specs.declared.manifest.Loose.{Loose}
use Rattle.gt_manifest.specs.Spelling.{good_ref, above, name_of}
use Rattle.gt_manifest.specs.Reading.{ref_at, next_name, to_loose, loose_at}

-- what is read behind a name
abbrev with_name : List ℕ → ℕ × ℕ → Result (Loose × ℕ) ℕ
with_name t n = Ok (record { name = t; file = n.0 }, n.1)

-- by its name, if that may stand there, and what is read behind it
abbrev loose_by : ℕ → Option (List ℕ) → Result (ℕ × ℕ) ℕ → Result (Loose × ℕ) ℕ
loose_by at None file = Err at
loose_by at (Some name) file = file >>= with_name name

either : (b : Bool) → (b ≡ true) ⊎ (b ≡ false)
either true = inl refl
either false = inr refl

behind : (t : List ℕ) (file : Result (ℕ × ℕ) ℕ) →
    let f : ℕ × ℕ → Result ((List ℕ × ℕ) × ℕ) ℕ = λ y. Ok ((t, y.0), y.1) in
    let g : (List ℕ × ℕ) × ℕ → Result (Loose × ℕ) ℕ = λ x. Ok (to_loose x.0, x.1) in
    ((file >>= f) >>= g) ≡ (file >>= with_name t)
behind t (Ok n) = refl
behind t (Err e) = refl

loose_is : (bytes : List ℕ) (before : List Loose) (at : ℕ) (t : List ℕ) (after : ℕ) → text_at bytes at ≡ Ok (t, after) → loose_at bytes before at ≡ loose_by at (next_name before t) (number_at w64 bytes after)
unfolding loose_at ref_at
loose_is bytes before at t after text =
    elim (either (good_ref t)) [
      | inl good ↦ elim (either (above name_of before t)) [
        | inl rises ↦ rw (text, good, rises) (behind t (number_at w64 bytes after))
        | inr below ↦ rw (text, good, below) refl
      ]
      | inr bad ↦ elim (either (above name_of before t)) [
        | inl rises ↦ rw (text, bad, rises) refl
        | inr below ↦ rw (text, bad, below) refl
      ]
    ]

module _ (bytes : List ℕ) (before : List Loose) (at : ℕ) (t : List ℕ) (after : ℕ) (text : text_at bytes at ≡ Ok (t, after)) where
  pub none_is : next_name before t ≡ None → loose_at bytes before at ≡ Err at
  none_is e = loose_is bytes before at t after text ∙ rw e refl

  pub cut_is : (fault : ℕ) → IsSome (next_name before t) → number_at w64 bytes after ≡ Err fault → loose_at bytes before at ≡ Err fault
  cut_is fault some e = loose_is bytes before at t after text ∙ rw e (by_name (next_name before t) some)
    where
      by_name : (o : Option (List ℕ)) → IsSome o → loose_by at o (Err fault) ≡ Err fault
      by_name None some = absurd cc
      by_name (Some name) some = refl

  pub some_is : (name : List ℕ) (n : ℕ × ℕ) → next_name before t ≡ Some name → number_at w64 bytes after ≡ Ok n → loose_at bytes before at ≡ Ok (record { name = name; file = n.0 }, n.1)
  some_is name n is e = loose_is bytes before at t after text ∙ rw (is, e) refl

  pub may_be : (n : ℕ × ℕ) → IsSome (next_name before t) → number_at w64 bytes after ≡ Ok n → IsOk (loose_at bytes before at)
  may_be n some e = rw (loose_is bytes before at t after text, e) (by_name (next_name before t) some)
    where
      by_name : (o : Option (List ℕ)) → IsSome o → IsOk (loose_by at o (Ok n))
      by_name None some = absurd cc
      by_name (Some name) some = refl

pub loose_cut : (bytes : List ℕ) (before : List Loose) (at fault : ℕ) → text_at bytes at ≡ Err fault → loose_at bytes before at ≡ Err fault
unfolding loose_at ref_at
loose_cut bytes before at fault e = rw e refl

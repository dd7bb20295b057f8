-- Bytes that are told grow, and are taken, piece by piece.
use Rattle.std.proofs.Common.{◌≡◌, ℕ, ◌+◌, ◌-◌, List, [], ◌++◌, take, drop, length, Option, Some, None, sym, ap, ◌∙◌, refl, append_assoc, arith, length-drop, take_all, take-append-drop, subst}
use Rattle.std.proofs.lemmas.List.{append-nil}
use Rattle.std.proofs.Math.Seq.{take-add}
use Rattle.std.specs.Io.KnownBytes.{Consumes}
use Rattle.gt_outside.specs.Written.{AppendsAll, AppendsFront}

pub appends_then : (u v w : Option (List ℕ)) (a b : List ℕ) → AppendsAll u v a → AppendsAll v w b → AppendsAll u w (a ++ b)
appends_then u v None a b x y = tt
appends_then u None (Some zs) a b x y = absurd y
appends_then None (Some ys) (Some zs) a b x y = absurd x
appends_then (Some xs) (Some ys) (Some zs) a b x y = y ∙ ap (λ (t : List ℕ). t ++ b) x ∙ append_assoc xs a b

pub appends_none : (u : Option (List ℕ)) → AppendsAll u u []
appends_none None = tt
appends_none (Some xs) = sym (append-nil xs)

-- `&bytes[at..]`, as it computes, is what is left
tail_is : (at : ℕ) (bytes : List ℕ) → take (length bytes - at) (drop at bytes) ≡ drop at bytes
tail_is at bytes = take_all (length bytes - at) (drop at bytes) (omega (arith, length-drop at bytes))

pub appends_more : (u v w : Option (List ℕ)) (at n : ℕ) (bytes : List ℕ) → AppendsAll u v (take at bytes) → AppendsAll v w (take n (take (length bytes - at) (drop at bytes))) → AppendsAll u w (take (at + n) bytes)
appends_more u v w at n bytes x y =
    let P : List ℕ → Type 0 = λ t. AppendsAll u w t in
    let Q : List ℕ → Type 0 = λ t. AppendsAll v w (take n t) in
    subst P (sym (take-add at n bytes)) (appends_then u v w (take at bytes) (take n (drop at bytes)) x (subst Q (tail_is at bytes) y))

pub front_more : (u v w : Option (List ℕ)) (at : ℕ) (bytes : List ℕ) → AppendsAll u v (take at bytes) → AppendsFront v w (take (length bytes - at) (drop at bytes)) → AppendsFront u w bytes
front_more u v w at bytes x f = record {
  front = take at bytes ++ f.front;
  back = f.back;
  split = sym (take-append-drop at bytes) ∙ ap (λ (t : List ℕ). take at bytes ++ t) (sym (tail_is at bytes) ∙ f.split) ∙ sym (append_assoc (take at bytes) f.front f.back);
  grown = appends_then u v w (take at bytes) f.front x f.grown;
}

pub front_none : (u : Option (List ℕ)) (bytes : List ℕ) → AppendsFront u u bytes
front_none u bytes = record { front = []; back = bytes; split = refl; grown = appends_none u }

pub consumes_then : (u v w : Option (List ℕ)) (a b : List ℕ) → Consumes u v a → Consumes v w b → Consumes u w (a ++ b)
consumes_then None v w a b x y = tt
consumes_then (Some xs) None w a b x y = absurd x
consumes_then (Some xs) (Some ys) None a b x y = absurd y
consumes_then (Some xs) (Some ys) (Some zs) a b x y = x ∙ ap (λ (t : List ℕ). a ++ t) y ∙ sym (append_assoc a b zs)

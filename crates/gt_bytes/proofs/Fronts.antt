-- What begins with what.
use Rattle.std.proofs.Common.{◌≡◌, ℕ, List, ◌++◌, length, take, drop, sym, ap, ◌∙◌, append_assoc}
use Rattle.std.proofs.lemmas.List.{take-append-drop}
use Rattle.std.proofs.Math.Seq.{take-append_seam}
use Rattle.gt_bytes.specs.Spelling.{IsFront}

-- what is behind a front may be a front's end
pub front_of : (a x b : List ℕ) → IsFront (a ++ x) b → IsFront a b
front_of a x b h =
    let rest : List ℕ = drop (length (a ++ x)) b in
    let whole : b ≡ a ++ (x ++ rest) = sym (take-append-drop (length (a ++ x)) b) ∙ ap (λ (t : List ℕ). t ++ rest) h ∙ append_assoc a x rest in
    ap (take (length a)) whole ∙ take-append_seam a (x ++ rest)

pub front_is : (a x : List ℕ) → IsFront a (a ++ x)
front_is a x = take-append_seam a x

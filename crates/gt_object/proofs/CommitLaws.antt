-- A commit is its lines.
use Rattle.std.proofs.Common.{◌≡◌, ℕ, ◌+◌, ◌≤◌, false, List, [], ◌∷◌, ◌++◌, length, drop, Result, Ok, refl, sym, ap, subst, ◌∙◌, append_assoc, arith, length-append}
use Rattle.std.specs.Prelude.{codes, nat_eq}
use Rattle.std.specs.List.{flat_map, starts_with}
use Rattle.std.proofs.lemmas.List.{drop_at}
use Rattle.gt_bytes.specs.Reading.{◌>>=◌}
use Rattle.gt_bytes.specs.Standing.{IsBytes, Stands}
use Rattle.gt_bytes.proofs.Steps.{bind_ok, ok_is}
use Rattle.gt_bytes.proofs.StandingLaws.{Stands-then, Stands-between}
use Rattle.gt_bytes.proofs.WhileLaws.{Run, while_takes, while_again}
use Rattle.gt_object.specs.Lines.{line, IsId, line_at, more_parents, parent_ids, commit_ids}
use Rattle.gt_object.specs.Laws.{IsCommit}
use Rattle.gt_object.proofs.LineLaws.{line_field, line_some, line_more}

lists_are : (a b : List ℕ) (xs ys : List (List ℕ)) → a ∷ xs ≡ b ∷ ys → (a ≡ b) × (xs ≡ ys)
lists_are a b xs ys e = (cc, cc)

parents_takes : (c : List ℕ) (good : IsBytes c) (at : ℕ) (ids : List (List ℕ)) → at ≤ length c → parent_ids c at ≡ Ok ids → (next : ℕ) × Run c (more_parents c) (line_at (codes "parent ") c) (line (codes "parent ")) IsId (line_field (codes "parent ") c) at ids next
unfolding parent_ids
parents_takes c good at ids le e = while_takes c (more_parents c) (line_at (codes "parent ") c) (line (codes "parent ")) IsId (line_field (codes "parent ") c) good (length c) at ids le e

parents_again : (c : List ℕ) (at : ℕ) (ids : List (List ℕ)) (next : ℕ) → at ≤ length c → Run c (more_parents c) (line_at (codes "parent ") c) (line (codes "parent ")) IsId (line_field (codes "parent ") c) at ids next → parent_ids c at ≡ Ok ids
unfolding parent_ids
parents_again c at ids next le run = while_again c (more_parents c) (line_at (codes "parent ") c) (line (codes "parent ")) IsId (line_field (codes "parent ") c) (line_some (codes "parent ")) (line_more c) ids (length c) at next le (omega arith) run

pub commit_takes : (c : List ℕ) → IsBytes c → (tree : List ℕ) (parents : List (List ℕ)) → commit_ids c ≡ Ok (tree ∷ parents) → IsCommit c tree parents
unfolding commit_ids
commit_takes c good tree parents e =
    let f : List ℕ × ℕ → Result (List (List ℕ)) ℕ = λ t. (parent_ids c t.1 >>= λ ps. Ok (t.0 ∷ ps)) in
    let a = bind_ok (line_at (codes "tree ") c 0) f (tree ∷ parents) e in
    let g : List (List ℕ) → Result (List (List ℕ)) ℕ = λ ps. Ok (a.0.0 ∷ ps) in
    let b = bind_ok (parent_ids c a.0.1) g (tree ∷ parents) a.2 in
    let same = lists_are a.0.0 tree b.0 parents (ok_is (a.0.0 ∷ b.0) (tree ∷ parents) b.2) in
    let t = (line_field (codes "tree ") c).takes good 0 a.0 (omega arith) a.1 in
    let p = parents_takes c good a.0.1 b.0 t.0.within b.1 in
    let both = Stands-then c 0 (line (codes "tree ") a.0.0) a.0.1 (flat_map (line (codes "parent ")) b.0) p.0 t.0 p.1.stands in
    let whole : c ≡ line (codes "tree ") a.0.0 ++ (flat_map (line (codes "parent ")) b.0 ++ drop p.0 c) = both.parts ∙ append_assoc (line (codes "tree ") a.0.0) (flat_map (line (codes "parent ")) b.0) (drop p.0 c) in
    let made : IsCommit c a.0.0 b.0 = record { rest = drop p.0 c; whole = whole; tree_is = t.1; parents_are = p.1.fit; ends = p.1.ends } in
    let P : List ℕ → Type 0 = λ x. IsCommit c x b.0 in
    let Q : List (List ℕ) → Type 0 = λ xs. IsCommit c tree xs in
    subst Q same.1 (subst P same.0 made)

pub commit_again : (c : List ℕ) (tree : List ℕ) (parents : List (List ℕ)) → IsCommit c tree parents → commit_ids c ≡ Ok (tree ∷ parents)
unfolding commit_ids
commit_again c tree parents it =
    let first : List ℕ = line (codes "tree ") tree in
    let lines : List ℕ = flat_map (line (codes "parent ")) parents in
    let P : ℕ → List ℕ → Type 0 = λ n w. Stands w 0 (line (codes "tree ") tree) n in
    let Q : List ℕ → Type 0 = λ w. Stands w (length (line (codes "tree ") tree)) (flat_map (line (codes "parent ")) parents) (length (line (codes "tree ") tree) + length (flat_map (line (codes "parent ")) parents)) in
    let R : List ℕ → Type 0 = λ w. Stands w 0 (line (codes "tree ") tree) (0 + length (line (codes "tree ") tree)) in
    let s = subst R (sym it.whole) (Stands-between [] (line (codes "tree ") tree) (flat_map (line (codes "parent ")) parents ++ it.rest)) in
    let zero_more : 0 + length (line (codes "tree ") tree) ≡ length (line (codes "tree ") tree) = omega arith in
    let S : ℕ → Type 0 = λ n. Stands c 0 (line (codes "tree ") tree) n in
    let front = subst S zero_more s in
    let q = subst Q (sym it.whole) (Stands-between (line (codes "tree ") tree) (flat_map (line (codes "parent ")) parents) it.rest) in
    let regroup : c ≡ (line (codes "tree ") tree ++ flat_map (line (codes "parent ")) parents) ++ it.rest = it.whole ∙ sym (append_assoc (line (codes "tree ") tree) (flat_map (line (codes "parent ")) parents) it.rest) in
    let len : length (line (codes "tree ") tree ++ flat_map (line (codes "parent ")) parents) ≡ length (line (codes "tree ") tree) + length (flat_map (line (codes "parent ")) parents) = length-append (line (codes "tree ") tree) (flat_map (line (codes "parent ")) parents) in
    let end : drop (length (line (codes "tree ") tree) + length (flat_map (line (codes "parent ")) parents)) c ≡ it.rest = ap (drop (length (line (codes "tree ") tree) + length (flat_map (line (codes "parent ")) parents))) regroup ∙ drop_at (line (codes "tree ") tree ++ flat_map (line (codes "parent ")) parents) it.rest (length (line (codes "tree ") tree) + length (flat_map (line (codes "parent ")) parents)) len in
    let ends : more_parents c (length (line (codes "tree ") tree) + length (flat_map (line (codes "parent ")) parents)) ≡ false = ap (λ (z : List ℕ). starts_with nat_eq z (codes "parent ")) end ∙ it.ends in
    let t = (line_field (codes "tree ") c).again 0 tree (length (line (codes "tree ") tree)) (omega arith) front it.tree_is in
    let p = parents_again c (length (line (codes "tree ") tree)) parents (length (line (codes "tree ") tree) + length (flat_map (line (codes "parent ")) parents)) front.within (record { stands = q; fit = it.parents_are; ends = ends }) in
    rw (t, p) refl

-- Where the first fault of a content is.
use Rattle.std.proofs.Common.{◌≡◌, ℕ, ◌+◌, Bool, true, false, cond, List, [], ◌∷◌, ◌++◌, length, drop, Result, Ok, Err, refl, arith, inl, inr, ◌⊎◌}
use Rattle.std.specs.Prelude.{codes}
use Rattle.std.specs.List.{flat_map}
use Rattle.std.proofs.lemmas.Bool.{ltb-true}
use Rattle.std.proofs.lemmas.List.{length-drop}
use Rattle.gt_bytes.specs.Reading.{◌>>=◌}
use Rattle.gt_bytes.specs.Standing.{IsBytes, Stands}
use Rattle.gt_bytes.proofs.StandingLaws.{Stands-then, Stands-from}
use Rattle.gt_bytes.proofs.WhileLaws.{while_fails, step_err}
use Rattle.gt_object.specs.Header.{word}
use Rattle.gt_object.specs.Trees.{IsTreeEntry, tree_entry, entry_at, more_entries, tree_entries}
use Rattle.gt_object.specs.Lines.{line, IsId, line_at, more_parents, parent_ids, commit_ids, has_type, tag_ids}
use Rattle.gt_object.specs.Laws.{BreaksTree, LacksLine, BreaksParent, BreaksType}
use Rattle.gt_object.proofs.TreeLaws.{entry_field, entry_some, entry_more, entry_own}
use Rattle.gt_object.proofs.LineLaws.{line_field, line_some, line_more, line_own, line_lacks, length-line}
use Rattle.gt_object.proofs.TagLaws.{type_again}

abbrev fails : (A : Type 0) → ℕ → Result A ℕ
fails A d = Err d

err_is : (A : Type 0) (a b : ℕ) → fails A a ≡ fails A b → a ≡ b
err_is A a b e = cc

-- what stands from the begin is the front
front_is : (c part : List ℕ) (next : ℕ) → Stands c 0 part next → (c ≡ part ++ drop next c) × (next ≡ length part)
front_is c part next s = (s.parts, omega (arith, s.after))

pub tree_place : (c : List ℕ) (at : ℕ) → IsBytes c → tree_entries c ≡ Err at → BreaksTree c at
unfolding tree_entries
tree_place c at good e =
    let w = while_fails c (more_entries c) (entry_at c) tree_entry IsTreeEntry (entry_field c) entry_some (entry_more c) (entry_own c) good (length c) 0 at (omega arith) (omega arith) e in
    let f = front_is c (flat_map tree_entry w.0) at w.1.stands in
    let inside = w.1.stands.within in
    record {
      entries = w.0;
      rest = drop at c;
      whole = f.0;
      place = f.1;
      entries_are = w.1.fit;
      some = omega (arith, ltb-true _ _ w.1.more_here, length-drop at c);
      none = λ x tail fits is. w.1.none x (at + length (tree_entry x)) (Stands-from c at (tree_entry x) tail inside is) fits;
    }

parents_place : (c tree : List ℕ) (from at : ℕ) → IsBytes c → Stands c 0 (line (codes "tree ") tree) from → IsId tree → parent_ids c from ≡ Err at → BreaksParent c at
unfolding parent_ids
parents_place c tree from at good first id e =
    let w = while_fails c (more_parents c) (line_at (codes "parent ") c) (line (codes "parent ")) IsId (line_field (codes "parent ") c) (line_some (codes "parent ")) (line_more c) (line_own (codes "parent ") c) good (length c) from at first.within (omega arith) e in
    let both = Stands-then c 0 (line (codes "tree ") tree) from (flat_map (line (codes "parent ")) w.0) at first w.1.stands in
    let f = front_is c (line (codes "tree ") tree ++ flat_map (line (codes "parent ")) w.0) at both in
    let inside = both.within in
    record {
      tree = tree;
      parents = w.0;
      rest = drop at c;
      whole = f.0;
      place = f.1;
      tree_is = id;
      parents_are = w.1.fit;
      starts = w.1.more_here;
      none = λ x tail fits is. w.1.none x (at + length (line (codes "parent ") x)) (Stands-from c at (line (codes "parent ") x) tail inside is) fits;
    }

-- a first line that can't be read
first_place : (word c : List ℕ) (at : ℕ) → line_at word c 0 ≡ Err at → (at ≡ 0) × LacksLine word c
first_place word c at e = (line_own word c 0 at e, line_lacks word c 0 at (omega arith) e)

pub commit_place : (c : List ℕ) (at : ℕ) → IsBytes c → commit_ids c ≡ Err at → ((at ≡ 0) × LacksLine (codes "tree ") c) ⊎ BreaksParent c at
unfolding commit_ids
commit_place c at good e =
    let f : List ℕ × ℕ → Result (List (List ℕ)) ℕ = λ t. (parent_ids c t.1 >>= λ ps. Ok (t.0 ∷ ps)) in
    elim (step_err (line_at (codes "tree ") c 0) f at e) [
      | inl bad ↦ inl (first_place (codes "tree ") c at bad)
      | inr found ↦ (
          let t = (line_field (codes "tree ") c).takes good 0 found.0 (omega arith) found.1 in
          let g : List (List ℕ) → Result (List (List ℕ)) ℕ = λ ps. Ok (found.0.0 ∷ ps) in
          elim (step_err (parent_ids c found.0.1) g at found.2) [
            | inl bad ↦ inr (parents_place c found.0.0 found.0.1 at good t.0 t.1 bad)
            | inr ok ↦ absurd (let h = ok.2 in cc)
          ])
    ]

type_place : (c object : List ℕ) (from at : ℕ) → Stands c 0 (line (codes "object ") object) from → IsId object → (b : Bool) → has_type (drop from c) ≡ b → cond b (Ok (object ∷ [])) (fails (List (List ℕ)) from) ≡ Err at → BreaksType c at
type_place c object from at s id true h e = absurd cc
type_place c object from at s id false h e =
    let is : from ≡ at = err_is (List (List ℕ)) from at e in
    let f = front_is c (line (codes "object ") object) from s in
    record {
      object = object;
      rest = drop from c;
      whole = f.0;
      place = omega (arith, is, f.1, length-line (codes "object ") object id);
      object_is = id;
      none = λ kind tail line. (let has = type_again (drop from c) kind tail line in cc);
    }

pub tag_place : (c : List ℕ) (at : ℕ) → IsBytes c → tag_ids c ≡ Err at → ((at ≡ 0) × LacksLine (codes "object ") c) ⊎ BreaksType c at
unfolding tag_ids
tag_place c at good e =
    let f : List ℕ × ℕ → Result (List (List ℕ)) ℕ = λ o. cond (has_type (drop o.1 c)) (Ok (o.0 ∷ [])) (Err o.1) in
    elim (step_err (line_at (codes "object ") c 0) f at e) [
      | inl bad ↦ inl (first_place (codes "object ") c at bad)
      | inr found ↦ (
          let t = (line_field (codes "object ") c).takes good 0 found.0 (omega arith) found.1 in
          inr (type_place c found.0.0 found.0.1 at t.0 t.1 (has_type (drop found.0.1 c)) refl found.2))
    ]

-- A tag is its lines.
use Rattle.std.proofs.Common.{◌≡◌, ℕ, ◌+◌, Bool, true, cond, ◌||◌, List, [], ◌∷◌, ◌++◌, length, drop, Result, Ok, Err, refl, sym, ap, subst, ◌∙◌, arith, inl, inr}
use Rattle.std.specs.Prelude.{codes, nat_eq}
use Rattle.std.specs.List.{starts_with}
use Rattle.std.proofs.lemmas.List.{drop_at}
use Rattle.gt_bytes.specs.Standing.{IsBytes, Stands}
use Rattle.gt_bytes.proofs.Steps.{bind_ok, ok_is}
use Rattle.gt_bytes.proofs.StandingLaws.{Stands-between}
use Rattle.gt_object.specs.declared.kind.Kind.{Kind}
use Rattle.gt_object.specs.declared.kind.Kind.TheVariants.{Commit, Tree, Blob, Tag}
use Rattle.gt_object.specs.Header.{word}
use Rattle.gt_object.specs.Lines.{line, line_at, has_type, tag_ids}
use Rattle.gt_object.specs.Laws.{IsTag}
use Rattle.gt_object.proofs.LineLaws.{cond_ok, begins, begins_again, line_field}
use Rattle.gt_object.proofs.Submodules.{or_parts, or_left, or_right}

-- a type line begins these bytes
record HasType (w : List ℕ) : Type 0 where
  pub kind : Kind
  pub rest : List ℕ
  pub whole : w ≡ codes "type " ++ (word kind ++ 10 ∷ rest)

type_takes : (w : List ℕ) → has_type w ≡ true → HasType w
type_takes w e =
    let a : Bool = starts_with nat_eq w (codes "type commit\n") in
    elim (or_parts (starts_with nat_eq w (codes "type commit\n") || starts_with nat_eq w (codes "type tree\n")) (starts_with nat_eq w (codes "type blob\n") || starts_with nat_eq w (codes "type tag\n")) e) [
      | inl l ↦ elim (or_parts (starts_with nat_eq w (codes "type commit\n")) (starts_with nat_eq w (codes "type tree\n")) l) [
        | inl h ↦ record { kind = Commit; rest = drop 12 w; whole = begins w (codes "type commit\n") h }
        | inr h ↦ record { kind = Tree; rest = drop 10 w; whole = begins w (codes "type tree\n") h }
      ]
      | inr r ↦ elim (or_parts (starts_with nat_eq w (codes "type blob\n")) (starts_with nat_eq w (codes "type tag\n")) r) [
        | inl h ↦ record { kind = Blob; rest = drop 10 w; whole = begins w (codes "type blob\n") h }
        | inr h ↦ record { kind = Tag; rest = drop 9 w; whole = begins w (codes "type tag\n") h }
      ]
    ]

-- a type line begins these bytes
pub type_again : (w : List ℕ) (kind : Kind) (rest : List ℕ) → w ≡ codes "type " ++ (word kind ++ 10 ∷ rest) → has_type w ≡ true
type_again w Commit rest e = or_left _ _ (or_left _ _ (begins_again w (codes "type commit\n") rest e))
type_again w Tree rest e = or_left _ _ (or_right _ _ (begins_again w (codes "type tree\n") rest e))
type_again w Blob rest e = or_right _ _ (or_left _ _ (begins_again w (codes "type blob\n") rest e))
type_again w Tag rest e = or_right _ _ (or_right _ _ (begins_again w (codes "type tag\n") rest e))

pub tag_takes : (c : List ℕ) → IsBytes c → (object : List ℕ) → tag_ids c ≡ Ok (object ∷ []) → IsTag c object
unfolding tag_ids
tag_takes c good object e =
    let f : List ℕ × ℕ → Result (List (List ℕ)) ℕ = λ o. cond (has_type (drop o.1 c)) (Ok (o.0 ∷ [])) (Err o.1) in
    let a = bind_ok (line_at (codes "object ") c 0) f (object ∷ []) e in
    let g = cond_ok (has_type (drop a.0.1 c)) (Ok (a.0.0 ∷ [])) a.0.1 (object ∷ []) a.2 in
    let lists : a.0.0 ∷ [] ≡ object ∷ [] = ok_is (a.0.0 ∷ []) (object ∷ []) g.1 in
    let same : a.0.0 ≡ object = cc in
    let t = (line_field (codes "object ") c).takes good 0 a.0 (omega arith) a.1 in
    let h = type_takes (drop a.0.1 c) g.0 in
    let made : IsTag c a.0.0 = record { kind = h.kind; rest = h.rest; whole = t.0.parts ∙ ap (λ (z : List ℕ). line (codes "object ") a.0.0 ++ z) h.whole; object_is = t.1 } in
    let P : List ℕ → Type 0 = λ x. IsTag c x in
    subst P same made

pub tag_again : (c object : List ℕ) → IsTag c object → tag_ids c ≡ Ok (object ∷ [])
unfolding tag_ids
tag_again c object it =
    let R : List ℕ → Type 0 = λ w. Stands w 0 (line (codes "object ") object) (0 + length (line (codes "object ") object)) in
    let s = subst R (sym it.whole) (Stands-between [] (line (codes "object ") object) (codes "type " ++ (word it.kind ++ 10 ∷ it.rest))) in
    let t = (line_field (codes "object ") c).again 0 object (0 + length (line (codes "object ") object)) (omega arith) s it.object_is in
    let end : drop (0 + length (line (codes "object ") object)) c ≡ codes "type " ++ (word it.kind ++ 10 ∷ it.rest) = ap (drop (0 + length (line (codes "object ") object))) it.whole ∙ drop_at (line (codes "object ") object) (codes "type " ++ (word it.kind ++ 10 ∷ it.rest)) (0 + length (line (codes "object ") object)) (omega arith) in
    let h = type_again (drop (0 + length (line (codes "object ") object)) c) it.kind it.rest end in
    rw (t, h) refl

-- A scan: what was found so far, or else what is left to find, is what the whole text has.
use Rattle.std.proofs.Common.{◌≡◌, ℕ, suc, ◌+◌, ◌<◌, Bool, true, false, not, cond, ltb, ◌&&◌, List, ◌∷◌, length, take, drop, get_or, Option, Some, None, position, refl, ap, ◌∙◌, arith, take_all, length-drop, ◌-◌}
use Rattle.std.proofs.lemmas.Bool.Decides.{nat_tests}
use Rattle.std.proofs.lemmas.List.{drop_more}
use Rattle.std.specs.List.{prefix_len, starts_with}
use Rattle.std.specs.Prelude.{nat_eq}
use Rattle.std.specs.Option.{option_map}
use Rattle.gt_name.specs.declared.component.ComponentFault.{ComponentFault}
use Rattle.gt_name.specs.Broken.{or_else}
use Rattle.gt_name.specs.Components.{component, is_slash, has_fault, faulty_from}
use Rattle.gt_name.specs.References.{first_text}

-- a place counted from here, counted from the text's begin
abbrev pub moved : ℕ → Option ℕ → Option ℕ
moved at place = option_map (λ k. at + k) place

-- one place more is noted
pub noted : (whole found more : Option ℕ) (here : Bool) (at : ℕ) → whole ≡ or_else found (moved at (cond here (Some 0) (option_map suc more)))
    → whole ≡ or_else (or_else found (cond here (Some at) None)) (moved (at + 1) more)
noted whole (Some k) more true at e = e
noted whole (Some k) more false at e = e
noted whole None more true at e = e ∙ ap Some (omega arith)
noted whole None (Some k) false at e = e ∙ ap Some (omega arith)
noted whole None None false at e = e

-- the first place of a test, at a first byte and what follows it
pub position-cons : (p : ℕ → Bool) (b : ℕ) (rest : List ℕ) → position p (b ∷ rest) ≡ cond (p b) (Some 0) (option_map suc (position p rest))
position-cons p b rest = by (p b) (ltb (prefix_len (λ x. not (p x)) rest) (length rest)) refl refl
  where
    by : (here more : Bool) → p b ≡ here → ltb (prefix_len (λ x. not (p x)) rest) (length rest) ≡ more
        → position p (b ∷ rest) ≡ cond here (Some 0) (option_map suc (cond more (Some (prefix_len (λ x. not (p x)) rest)) None))
    by true more e t = grind (arith, nat_tests)
    by false true e t = grind (arith, nat_tests)
    by false false e t = grind (arith, nat_tests)

-- the text from here on, as a slice has it
abbrev pub rest_at : ℕ → List ℕ → List ℕ
rest_at at text = take (length text - at) (drop at text)

rest_at-drop : (at : ℕ) (text : List ℕ) → rest_at at text ≡ drop at text
rest_at-drop at text = take_all (length text - at) (drop at text) (omega (arith, length-drop at text))

module _ (text : List ℕ) (at : ℕ) (within : at < length text) (whole found more : Option ℕ) where
  -- a byte is looked at
  pub byte_noted : (p : ℕ → Bool) → whole ≡ or_else found (moved at (position p (drop at text)))
      → more ≡ or_else found (cond (p (get_or text at 0)) (Some at) None)
      → whole ≡ or_else more (moved (at + 1) (position p (drop (at + 1) text)))
  byte_noted p left here =
      rw here (noted whole found _ (p (get_or text at 0)) at (rw (drop_more text at 0 within, position-cons p (get_or text at 0) (drop (at + 1) text)) at left))

  -- a place is looked at
  pub text_noted : (part : List ℕ) → whole ≡ or_else found (moved at (first_text part (drop at text)))
      → more ≡ or_else found (cond (starts_with nat_eq (rest_at at text) part) (Some at) None)
      → whole ≡ or_else more (moved (at + 1) (first_text part (drop (at + 1) text)))
  text_noted part left here =
      let next = drop_more text at 0 within in
      rw (here, rest_at-drop at text, next) (noted whole found _ (starts_with nat_eq (get_or text at 0 ∷ drop (at + 1) text) part) at (rw next at left))

  -- a component is looked at, if one begins here
  pub component_noted : (fault : ComponentFault) (begins : Bool) → whole ≡ or_else found (moved at (faulty_from fault begins (drop at text)))
      → more ≡ or_else found (cond (begins && has_fault fault (component (rest_at at text))) (Some at) None)
      → whole ≡ or_else more (moved (at + 1) (faulty_from fault (is_slash (get_or text at 0)) (drop (at + 1) text)))
  component_noted fault begins left here =
      let next = drop_more text at 0 within in
      rw (here, rest_at-drop at text, next) (noted whole found _ (begins && has_fault fault (component (get_or text at 0 ∷ drop (at + 1) text))) at (rw next at left))

-- A chain of tags, name by name.
use Rattle.std.proofs.Common.{◌≡◌, ℕ, ◌+◌, ◌-◌, ◌<◌, ◌≤◌, suc, List, [], ◌∷◌, ◌++◌, Some, None, sym, ap, ◌∙◌, arith, append_assoc}
use Rattle.gt_model.specs.Contents.{Content}
use Rattle.gt_model.specs.Jobs.{next_of, none_or, chain}

module _ (c : Content) (path : List ℕ) (count at : ℕ) (name : List ℕ) (front whole : List (List ℕ)) (left : front ++ chain c path (count - at) name ≡ whole) where
  ahead : at < count → chain c path (count - at) name ≡ name ∷ none_or (next_of c path name) (chain c path (count - (at + 1)))
  ahead more = ap (λ n. chain c path n name) (let e : count - at ≡ suc (count - (at + 1)) = omega arith in e)

  -- it goes on
  pub goes_on : at < count → (next : List ℕ) → Some next ≡ next_of c path name → (front ++ name ∷ []) ++ chain c path (count - (at + 1)) next ≡ whole
  goes_on more next e =
      append_assoc front (name ∷ []) (chain c path (count - (at + 1)) next) ∙ ap (λ o. front ++ name ∷ none_or o (chain c path (count - (at + 1)))) e ∙ ap (λ names. front ++ names) (sym (ahead more)) ∙ left

  -- it ends before the count does
  pub ends : at < count → None ≡ next_of c path name → front ++ name ∷ [] ≡ whole
  ends more e = ap (λ o. front ++ name ∷ none_or o (chain c path (count - (at + 1)))) e ∙ ap (λ names. front ++ names) (sym (ahead more)) ∙ left

  -- the count ends
  pub stops : count ≤ at → front ++ name ∷ [] ≡ whole
  stops none = ap (λ n. front ++ chain c path n name) (let e : 0 ≡ count - at = omega arith in e) ∙ left

-- A content that at each path has either nothing or what a sound one has is sound too, where its pools are good.
use Rattle.std.proofs.Common.{◌≡◌, ◌⊎◌, inl, inr, ℕ, is_some, List, Option, Some, None, refl, sym, ◌∙◌, ap, ap₂, IsTrue}
use Rattle.std.specs.Option.{option_or}
use Rattle.std.specs.FinMap as map
use Rattle.gt_model.specs.Contents.{Content, Repo, and_then, value, own, pool_of, found, is_visible}
use Rattle.gt_model.specs.Soundness.{Needs, HasGoodPool, IsSound}
use Rattle.gt_model.proofs.Checks.{some_none}

-- no reference, and nothing that is seen
pub record IsBare (d : Content) (path : List ℕ) : Type 0 where
  pub values : (n : List ℕ) → value d path n ≡ None
  pub owned : (n : List ℕ) → own d path n ≡ None
  pub seen : (n : List ℕ) → found d path n ≡ None

-- the same references, and the same that is seen
pub record IsAlike (c d : Content) (path : List ℕ) : Type 0 where
  pub values : (n : List ℕ) → value d path n ≡ value c path n
  pub owned : (n : List ℕ) → own d path n ≡ own c path n
  pub seen : (n : List ℕ) → found d path n ≡ found c path n

-- a repository is seen as before where it and its pool's objects are as before
pub alike_at : (c d : Content) (path : List ℕ) → map.get d path ≡ map.get c path → ((pool : List ℕ) → pool_of c path ≡ Some pool → (n : List ℕ) → own d pool n ≡ own c pool n) → IsAlike c d path
alike_at c d path same pools = record {
  values = λ n. ap (λ o. and_then o (λ r. map.get r.refs n)) same;
  owned = mine;
  seen = λ n. ap₂ option_or (mine n) (ap (λ o. and_then o (λ pool. own d pool n)) (ap (λ o. and_then o (λ r. r.pool)) same) ∙ through n (pool_of c path) refl);
}
  where
    mine : (n : List ℕ) → own d path n ≡ own c path n
    mine n = ap (λ o. and_then o (λ r. map.get r.own n)) same

    through : (n : List ℕ) (o : Option (List ℕ)) → pool_of c path ≡ o → and_then o (λ pool. own d pool n) ≡ and_then o (λ pool. own c pool n)
    through n None is = refl
    through n (Some pool) is = pools pool is n

-- a pool stays good where it is there as before
pub still_good : (c d : Content) (r : Repo) → ((pool : List ℕ) (p : Repo) → r.pool ≡ Some pool → map.get c pool ≡ Some p → map.get d pool ≡ Some p) → HasGoodPool c r → HasGoodPool d r
still_good c d r kept good = record {
  none = good.none;
  some = λ pool is. let p = good.some pool is in (p.0, kept pool p.0 is p.1, p.2);
}

module _ (c d : Content) (sound : IsSound c) (paths : (path : List ℕ) → IsBare d path ⊎ IsAlike c d path) where
  named : (path n w : List ℕ) → own d path n ≡ Some w → own c path n ≡ Some w
  named path n w e = by (paths path)
    where
      by : IsBare d path ⊎ IsAlike c d path → own c path n ≡ Some w
      by (inl bare) = some_none w (sym e ∙ bare.owned n)
      by (inr alike) = sym (alike.owned n) ∙ e

  referred : (path ref n : List ℕ) → value d path ref ≡ Some n → IsTrue (is_visible d path n)
  referred path ref n e = by (paths path)
    where
      by : IsBare d path ⊎ IsAlike c d path → IsTrue (is_visible d path n)
      by (inl bare) = some_none n (sym e ∙ bare.values ref)
      by (inr alike) = ap is_some (alike.seen n) ∙ sound.referred path ref n (sym (alike.values ref) ∙ e)

  closed : (path n dep : List ℕ) → Needs d path n dep → IsTrue (is_visible d path dep)
  closed path n dep needs = by (paths path)
    where
      by : IsBare d path ⊎ IsAlike c d path → IsTrue (is_visible d path dep)
      by (inl bare) = some_none needs.whole (sym needs.seen ∙ bare.seen n)
      by (inr alike) = ap is_some (alike.seen dep) ∙ sound.closed path n dep (record { whole = needs.whole; seen = sym (alike.seen n) ∙ needs.seen; mentions = needs.mentions })

  pub alike_sound : ((path : List ℕ) (r : Repo) → map.get d path ≡ Some r → HasGoodPool d r) → IsSound d
  alike_sound pools = record { pools = pools; named = λ path n w e. sound.named path n w (named path n w e); referred = referred; closed = closed }

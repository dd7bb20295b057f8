-- The names with which marks begin in a repository, and what a record mentions.
use Rattle.std.proofs.Common.{◌≡◌, ◌⊎◌, inl, inr, ℕ, Bool, true, false, cond, List, [], ◌++◌, is_some, Option, Some, None, IsTrue, refl, sym, ap, subst, ◌∙◌, true≢false}
use Rattle.std.specs.List.{IsAmong}
use Rattle.std.specs.Cmp.Lexicographic.{nat_list_eq_equiv, same_text}
use Rattle.std.specs.FinMap as map
use Rattle.std.specs.FinMap.{get-empty}
use Rattle.gt_model.specs.Contents.{Content, Repo, Names, key_cmp, and_then, value, own, own_of, pool_of, found, is_this}
use Rattle.gt_model.specs.Soundness.{Needs}
use Rattle.gt_model.specs.Verdicts.{same_name, refs_in}
use Rattle.gt_model.specs.Jobs.{owned, IsReferred, IsRoot}
use Rattle.gt_model.proofs.Members.{none, parts, in_front, in_back, in_map}
use Rattle.gt_plain_jobs.specs.Marking.{mentioned_in, mentioned, referred, own_names, root_names}
use Rattle.gt_plain_jobs.proofs.Entries.{mapped, got, listed}

module _ (c : Content) where
  -- ---- what is mentioned

  pub needed : (at name dep : List ℕ) → IsAmong (mentioned c at name) dep → Needs c at name dep
  needed at name dep h = by (found c at name) refl h
    where
      by : (o : Option (List ℕ)) → found c at name ≡ o → IsAmong (mentioned_in o) dep → Needs c at name dep
      by None e h = absurd (none dep h)
      by (Some whole) e h = record { whole = whole; seen = e; mentions = h }

  pub needs_mentioned : (at name dep : List ℕ) → Needs c at name dep → IsAmong (mentioned c at name) dep
  needs_mentioned at name dep n = subst (λ (o : Option (List ℕ)). IsAmong (mentioned_in o) dep) (sym n.seen) n.mentions

  -- ---- references and own objects

  get-refs : (at ref : List ℕ) → value c at ref ≡ map.get (refs_in c at) ref
  get-refs at ref = by (map.get c at)
    where
      by : (o : Option Repo) → and_then o (λ r. map.get r.refs ref) ≡ map.get (elim o as (λ o. Names) [ None ↦ map.empty | Some r ↦ r.refs ]) ref
      by None = sym (get-empty key_cmp ref)
      by (Some r) = refl

  get-own : (at name : List ℕ) → own c at name ≡ map.get (own_of (map.get c at)) name
  get-own at name = by (map.get c at)
    where
      by : (o : Option Repo) → and_then o (λ r. map.get r.own name) ≡ map.get (own_of o) name
      by None = sym (get-empty key_cmp name)
      by (Some r) = refl

  pub is_referred : (at name : List ℕ) → IsAmong (referred c at) name → IsReferred c at name
  is_referred at name h = by (mapped (λ r. r.1) (map.entries (refs_in c at)) name h)
    where
      by : (e : List ℕ × List ℕ) × IsAmong (map.entries (refs_in c at)) e × (name ≡ e.1) → IsReferred c at name
      by (e, h, is) = (e.0, get-refs at e.0 ∙ got (refs_in c at) e.0 e.1 h ∙ ap Some (sym is))

  pub all_referred : (at name : List ℕ) → IsReferred c at name → IsAmong (referred c at) name
  all_referred at name (ref, e) = in_map (λ r. r.1) (map.entries (refs_in c at)) (ref, name) (listed (refs_in c at) ref name (sym (get-refs at ref) ∙ e))

  pub is_own : (at name : List ℕ) → IsAmong (own_names c at) name → IsTrue (is_some (own c at name))
  is_own at name h = by (mapped (λ o. o.0) (owned c at) name h)
    where
      by : (e : List ℕ × List ℕ) × IsAmong (owned c at) e × (name ≡ e.0) → IsTrue (is_some (own c at name))
      by (e, h, is) = ap (λ (n : List ℕ). is_some (own c at n)) is ∙ ap is_some (get-own at e.0 ∙ got (own_of (map.get c at)) e.0 e.1 h)

  pub all_own : (at name : List ℕ) → IsTrue (is_some (own c at name)) → IsAmong (own_names c at) name
  all_own at name h = by (own c at name) refl h
    where
      by : (o : Option (List ℕ)) → own c at name ≡ o → IsTrue (is_some o) → IsAmong (own_names c at) name
      by None e h = absurd (true≢false (sym h))
      by (Some whole) e h = in_map (λ o. o.0) (owned c at) (name, whole) (listed (own_of (map.get c at)) name whole (sym (get-own at name) ∙ e))

  -- ---- roots

  is_this-some : (o : Option (List ℕ)) (path : List ℕ) → is_this o path ≡ true → o ≡ Some path
  is_this-some None path e = absurd (true≢false (sym e))
  is_this-some (Some p) path e = ap Some (same_text p path (sym e))

  this_is : (o : Option (List ℕ)) (path : List ℕ) → o ≡ Some path → is_this o path ≡ true
  this_is o path e = ap (λ (o : Option (List ℕ)). is_this o path) e ∙ nat_list_eq_equiv.refl path

  pub is_root : (path at name : List ℕ) → IsAmong (root_names c path at) name → IsRoot c path at name
  is_root path at name h = by (is_this (pool_of c at) path) (same_name at path) refl refl h
    where
      of_member : pool_of c at ≡ Some path → IsAmong (referred c at) name ⊎ IsAmong (own_names c at) name → IsRoot c path at name
      of_member pool (inl h) = inr (pool, inl (is_referred at name h))
      of_member pool (inr h) = inr (pool, inr (is_own at name h))

      by : (member this : Bool) → is_this (pool_of c at) path ≡ member → same_name at path ≡ this → IsAmong (cond member (referred c at ++ own_names c at) (cond this (referred c at) [])) name → IsRoot c path at name
      by true this m t h = of_member (is_this-some (pool_of c at) path m) (parts (referred c at) (own_names c at) name h)
      by false true m t h = inl (same_text at path (sym t), is_referred at name h)
      by false false m t h = absurd (none name h)

  pub all_roots : (path at name : List ℕ) → IsRoot c path at name → IsAmong (root_names c path at) name
  all_roots path at name (inl (same, ref)) = by (is_this (pool_of c at) path) (same_name at path) (ap (λ (p : List ℕ). same_name p path) same ∙ nat_list_eq_equiv.refl path)
    where
      here : IsAmong (referred c at) name
      here = all_referred at name ref

      by : (member this : Bool) → this ≡ true → IsAmong (cond member (referred c at ++ own_names c at) (cond this (referred c at) [])) name
      by true this t = in_front (referred c at) (own_names c at) name here
      by false true t = here
      by false false t = absurd (true≢false (sym t))
  all_roots path at name (inr (pool, root)) = by (is_this (pool_of c at) path) (this_is (pool_of c at) path pool) (split root)
    where
      split : IsReferred c at name ⊎ IsTrue (is_some (own c at name)) → IsAmong (referred c at ++ own_names c at) name
      split (inl ref) = in_front (referred c at) (own_names c at) name (all_referred at name ref)
      split (inr h) = in_back (referred c at) (own_names c at) name (all_own at name h)

      by : (member : Bool) → member ≡ true → IsAmong (referred c at ++ own_names c at) name → IsAmong (cond member (referred c at ++ own_names c at) (cond (same_name at path) (referred c at) [])) name
      by true m h = h
      by false m h = absurd (true≢false (sym m))

  -- ---- the repositories that have roots

  stands : (at : List ℕ) → IsTrue (is_some (map.get c at)) → IsAmong (map.keys c) at
  stands at h = by (map.get c at) refl h
    where
      by : (o : Option Repo) → map.get c at ≡ o → IsTrue (is_some o) → IsAmong (map.keys c) at
      by None e h = absurd (true≢false (sym h))
      by (Some r) e h = in_map (λ e. e.0) (map.entries c) (at, r) (listed c at r e)

  and_then-some : {A B : Type 0} (o : Option A) (f : A → Option B) (b : B) → and_then o f ≡ Some b → IsTrue (is_some o)
  and_then-some None f b e = cc
  and_then-some (Some a) f b e = refl

  own_stands : (at name : List ℕ) → IsTrue (is_some (own c at name)) → IsTrue (is_some (map.get c at))
  own_stands at name h = by (map.get c at) h
    where
      by : (o : Option Repo) → IsTrue (is_some (and_then o (λ r. map.get r.own name))) → IsTrue (is_some o)
      by None h = absurd (true≢false (sym h))
      by (Some r) h = refl

  ref_stands : (at name : List ℕ) → IsReferred c at name → IsTrue (is_some (map.get c at))
  ref_stands at name (ref, e) = and_then-some (map.get c at) (λ r. map.get r.refs ref) name e

  pub root_stands : (path at name : List ℕ) → IsRoot c path at name → IsAmong (map.keys c) at
  root_stands path at name (inl (same, ref)) = stands at (ref_stands at name ref)
  root_stands path at name (inr (pool, inl ref)) = stands at (ref_stands at name ref)
  root_stands path at name (inr (pool, inr h)) = stands at (own_stands at name h)

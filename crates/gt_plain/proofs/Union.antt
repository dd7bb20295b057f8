-- The union of two maps.
use Rattle.std.proofs.Common.{◌≡◌, ℕ, Bool, true, false, cond, is_some, List, [], ◌∷◌, ◌++◌, Option, Some, None, refl, sym, ◌∙◌, ap}
use Rattle.std.specs.Option.{option_or}
use Rattle.std.specs.Ordering.{eq_by_cmp}
use Rattle.std.specs.Cmp.Lexicographic.{nat_list_cmp_total}
use Rattle.std.specs.BTreeMap.{is_at}
use Rattle.std.specs.FinMap as map
use Rattle.std.specs.FinMap.{FinMap, get-insert, get-empty, get-entries, get-from_entries}
use Rattle.gt_model.specs.Contents.{key_cmp, Names, union}
use Rattle.gt_plain.specs.Plain.{and_missing, with_missing}
use Rattle.gt_plain.proofs.Maps.{same_at_each, at_key, get_key, inserted}
use Rattle.gt_model.proofs.Repositories.{get-alike}

module _ {X : Type 0} where
  or_none : (o : Option X) → option_or o None ≡ o
  or_none None = refl
  or_none (Some x) = refl

  find_append : (es fs : List (List ℕ × X)) (q : List ℕ) → map.find key_cmp q (es ++ fs) ≡ option_or (map.find key_cmp q es) (map.find key_cmp q fs)
  find_append [] fs q = refl
  find_append (e ∷ es) fs q =
      elim (eq_by_cmp key_cmp q e.0) as (λ b. cond b (Some e.1) (map.find key_cmp q (es ++ fs)) ≡ option_or (cond b (Some e.1) (map.find key_cmp q es)) (map.find key_cmp q fs)) [
        | true ↦ refl
        | false ↦ find_append es fs q
      ]

  -- one entry more where its key has none
  get-and_missing : (m : FinMap key_cmp X) (e : List ℕ × X) (q : List ℕ) → map.get (and_missing m e) q ≡ option_or (map.get m q) (cond (eq_by_cmp key_cmp q e.0) (Some e.1) None)
  get-and_missing m e q = by (map.get m e.0) refl
    where
      there : (b : Bool) (x : X) → eq_by_cmp key_cmp q e.0 ≡ b → map.get m e.0 ≡ Some x → map.get m q ≡ option_or (map.get m q) (cond b (Some e.1) None)
      there false x t h = sym (or_none (map.get m q))
      there true x t h = let is : map.get m q ≡ Some x = get-alike m e.0 q t ∙ h in is ∙ sym (ap (λ o. option_or o (Some e.1)) is)

      gone : (b : Bool) → eq_by_cmp key_cmp q e.0 ≡ b → map.get m e.0 ≡ None → cond b (Some e.1) (map.get m q) ≡ option_or (map.get m q) (cond b (Some e.1) None)
      gone false t h = sym (or_none (map.get m q))
      gone true t h = sym (ap (λ o. option_or o (Some e.1)) (get-alike m e.0 q t ∙ h))

      by : (o : Option X) → map.get m e.0 ≡ o → map.get (cond (is_some o) m (map.insert m e.0 e.1)) q ≡ option_or (map.get m q) (cond (eq_by_cmp key_cmp q e.0) (Some e.1) None)
      by None h = get-insert nat_list_cmp_total m e.0 e.1 q ∙ gone (eq_by_cmp key_cmp q e.0) refl h
      by (Some x) h = there (eq_by_cmp key_cmp q e.0) x refl h

  get-with_missing : (m : FinMap key_cmp X) (es : List (List ℕ × X)) (q : List ℕ) → map.get (with_missing m es) q ≡ option_or (map.get m q) (map.find key_cmp q es)
  get-with_missing m [] q = sym (or_none (map.get m q))
  get-with_missing m (e ∷ es) q =
      get-with_missing (and_missing m e) es q ∙ ap (λ o. option_or o (map.find key_cmp q es)) (get-and_missing m e q) ∙ by (map.get m q) (eq_by_cmp key_cmp q e.0)
    where
      by : (o : Option X) (b : Bool) → option_or (option_or o (cond b (Some e.1) None)) (map.find key_cmp q es) ≡ option_or o (cond b (Some e.1) (map.find key_cmp q es))
      by None true = refl
      by None false = refl
      by (Some x) b = refl

  -- entries that are added one by one, each where its key has none
  pub with_missing-empty : (es : List (List ℕ × X)) → with_missing map.empty es ≡ map.from_entries {R = key_cmp} es
  with_missing-empty es = same_at_each _ _ (λ q. get-with_missing map.empty es q ∙ ap (λ o. option_or o (map.find key_cmp q es)) (get-empty key_cmp q) ∙ sym (get-from_entries nat_list_cmp_total es q))

  -- an entry in a tree that has its key, and in one that has not
  pub missing_kept : (es : List (List ℕ × X)) (k : List ℕ) (v : X) → is_some (at_key es k) ≡ true → map.from_entries {R = key_cmp} es ≡ and_missing (map.from_entries es) (k, v)
  missing_kept es k v h = sym (ap (λ b. cond b (map.from_entries es) (map.insert (map.from_entries es) k v)) (ap is_some (get_key es k) ∙ h))

  pub missing_put : (es fs : List (List ℕ × X)) (k : List ℕ) (v : X) → is_some (at_key es k) ≡ false → ((q : List ℕ) → at_key fs q ≡ cond (is_at (key_cmp k) q) (Some v) (at_key es q))
      → map.from_entries {R = key_cmp} fs ≡ and_missing (map.from_entries es) (k, v)
  missing_put es fs k v h updates = inserted es fs k v updates ∙ sym (ap (λ b. cond b (map.from_entries es) (map.insert (map.from_entries es) k v)) (ap is_some (get_key es k) ∙ h))

pub get-union : (a b : Names) (q : List ℕ) → map.get (union a b) q ≡ option_or (map.get a q) (map.get b q)
get-union a b q =
    get-from_entries nat_list_cmp_total (map.entries a ++ map.entries b) q ∙ find_append (map.entries a) (map.entries b) q
    ∙ sym (ap (λ o. option_or o (map.get b q)) (get-entries a q) ∙ ap (option_or (map.find key_cmp q (map.entries a))) (get-entries b q))

pub union-empty : (a : Names) → union a map.empty ≡ a
union-empty a = same_at_each _ _ (λ q. get-union a map.empty q ∙ ap (option_or (map.get a q)) (get-empty key_cmp q) ∙ or_none (map.get a q))

pub with_missing-union : (a b : Names) → with_missing a (map.entries b) ≡ union a b
with_missing-union a b = same_at_each _ _ (λ q. get-with_missing a (map.entries b) q ∙ ap (option_or (map.get a q)) (sym (get-entries b q)) ∙ sym (get-union a b q))

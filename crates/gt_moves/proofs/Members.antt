-- Which entries are of which repository, and which moves are of which entry.
use Rattle.std.proofs.Common.{◌≡◌, ◌⊎◌, inl, inr, ⊎_elim, ℕ, suc, ◌+◌, ◌<◌, Bool, true, false, cond, ◌||◌, List, [], ◌∷◌, ◌++◌, length, filter, Some, refl, sym, ap, ◌∙◌, subst, arith, slice_get, map as map_list}
use Rattle.std.specs.Prelude.{Any}
use Rattle.std.specs.List.{list_any}
use Rattle.std.specs.Ordering.{eq_by_cmp}
use Rattle.std.specs.FinMap as map
use Rattle.std.specs.FinMap.{contains_key-keys}
use Rattle.gt_apply.specs.Plan.{added_by}
use Rattle.gt_apply.proofs.Lists.{In, in-front, in-back, in-last, in-filter, in-map, to-map, in-flat, to-flat}
use Rattle.gt_apply.proofs.WriteLaws.{has-name}
use Rattle.gt_base.proofs.Finding.{same_test, one_path}
use Rattle.gt_model.proofs.Values.{itself}
use Rattle.gt_model.specs.Batches.{is_deletion, files_of, files_at, cut, repos_at, paths_of}
use Rattle.gt_model.specs.Contents.{key_cmp}
use Rattle.gt_model.specs.Verdicts.{same_name}
use Rattle.gt_model.specs.declared.added.Added.{Added}
use Rattle.gt_model.specs.declared.entry.Entry.{Entry}
use Rattle.gt_moves.specs.Moves.{laid_out, moved, moves_by, moves_of, moves_in, moves_at, moves_all, planned_moves}
use Rattle.gt_moves.specs.Within.{IsMoveOf}
use Rattle.gt_moves.specs.declared.moved.Move.{Move}

-- ---- lists

module _ {A : Type 0} where
  pub to_filter : (p : A → Bool) (xs : List A) (v : A) → In xs v → p v ≡ true → In (filter p xs) v
  to_filter p [] v h t = absurd h
  to_filter p (x ∷ xs) v h t = by (p x) refl (λ i. to_filter p xs v i t) h
    where
      by : (b : Bool) → p x ≡ b → (In xs v → In (filter p xs) v) → In (x ∷ xs) v → In (cond b (x ∷ filter p xs) (filter p xs)) v
      by true e more h = ⊎_elim inl (λ i. inr (more i)) h
      by false e more h = ⊎_elim (λ s. absurd (cc (sym t ∙ ap p s ∙ e))) more h

  pub to_any : (P : A → Type 0) (xs : List A) (v : A) → In xs v → P v → Any P xs
  to_any P [] v h p = absurd h
  to_any P (x ∷ xs) v h p = ⊎_elim (λ s. (0, v, omega arith, sym s, p)) (λ i. let r = to_any P xs v i p in (suc r.0, r.1, let lt = r.2 in omega arith, r.3, r.4)) h

  pub to_index : (xs : List A) (v : A) → In xs v → (i : ℕ) × (i < length xs) × (slice_get xs i ≡ Some v)
  to_index [] v h = absurd h
  to_index (x ∷ xs) v h = ⊎_elim (λ s. (0, omega arith, ap Some (sym s))) (λ i. let r = to_index xs v i in (suc r.0, let lt = r.1 in omega arith, r.2)) h

-- ---- the entries of a repository

pub in_cut : (first es own : List Entry) (e : Entry) → In (cut first es) own → In own e → In first e ⊎ In es e
in_cut first [] own e i j = ⊎_elim (λ s. inl (subst (λ (o : List Entry). In o e) s j)) absurd i
in_cut first (x ∷ es) own e i j = by (is_deletion x.change) (λ k. in_cut [] es own e k j) (λ k. in_cut (first ++ x ∷ []) es own e k j) i
  where
    parts : In (first ++ x ∷ []) e → In first e ⊎ In (x ∷ es) e
    parts h = ⊎_elim inl (λ s. inr (inl s)) (in-last first x e h)

    by : (d : Bool) → (In (cut [] es) own → ⊥ ⊎ In es e) → (In (cut (first ++ x ∷ []) es) own → In (first ++ x ∷ []) e ⊎ In es e) → In (cond d ((first ++ x ∷ []) ∷ cut [] es) (cut (first ++ x ∷ []) es)) own → In first e ⊎ In (x ∷ es) e
    by true one two i = ⊎_elim (λ s. parts (subst (λ (o : List Entry). In o e) s j)) (λ k. ⊎_elim absurd (λ l. inr (inr l)) (one k)) i
    by false one two i = ⊎_elim parts (λ l. inr (inr l)) (two i)

pub in_repo : (path : List ℕ) (entries own : List Entry) (e : Entry) → In (repos_at path entries) own → In own e → In entries e
in_repo path entries own e i j = in-filter (λ x. same_name x.path path) entries e (⊎_elim absurd (λ k. k) (in_cut [] (filter (λ x. same_name x.path path) entries) own e i j))

abbrev IsIn : List (List Entry) → Entry → Type 0
IsIn repos e = (own : List Entry) × In repos own × In own e

pub to_cut : (first es : List Entry) (e : Entry) → In first e ⊎ In es e → (own : List Entry) × In (cut first es) own × In own e
to_cut first [] e h = (first, inl refl, ⊎_elim (λ i. i) absurd h)
to_cut first (x ∷ es) e h = by (is_deletion x.change) (λ k. to_cut [] es e (inr k)) (λ k. to_cut (first ++ x ∷ []) es e k)
  where
    by : (d : Bool) → (In es e → IsIn (cut [] es) e) → (In (first ++ x ∷ []) e ⊎ In es e → IsIn (cut (first ++ x ∷ []) es) e) → IsIn (cond d ((first ++ x ∷ []) ∷ cut [] es) (cut (first ++ x ∷ []) es)) e
    by true one two =
        ⊎_elim (λ i. (first ++ x ∷ [], inl refl, in-front first (x ∷ []) e i))
        (λ j. ⊎_elim (λ s. (first ++ x ∷ [], inl refl, in-back first (x ∷ []) e (inl s))) (λ k. let r = one k in (r.0, inr r.1, r.2)) j) h
    by false one two = two (⊎_elim (λ i. inl (in-front first (x ∷ []) e i)) (λ j. ⊎_elim (λ s. inl (in-back first (x ∷ []) e (inl s))) inr j) h)

-- ---- their paths

or_true : (b : Bool) → (b || true) ≡ true
or_true true = refl
or_true false = refl

any_path : (es : List Entry) (e : Entry) → In es e → list_any (eq_by_cmp key_cmp e.path) (map_list (λ x. x.path) es) ≡ true
any_path [] e h = absurd h
any_path (x ∷ es) e h =
    ⊎_elim (λ s. ap (λ (b : Bool). b || list_any (eq_by_cmp key_cmp e.path) (map_list (λ x. x.path) es)) (ap (λ (y : Entry). eq_by_cmp key_cmp e.path y.path) (sym s) ∙ itself e.path))
    (λ i. ap (λ (b : Bool). eq_by_cmp key_cmp e.path x.path || b) (any_path es e i) ∙ or_true (eq_by_cmp key_cmp e.path x.path)) h

any_in : (q : List ℕ) (ps : List (List ℕ)) → list_any (eq_by_cmp key_cmp q) ps ≡ true → In ps q
any_in q [] h = absurd (cc h)
any_in q (p ∷ ps) h = by (eq_by_cmp key_cmp q p) refl (λ t. any_in q ps t) h
  where
    by : (b : Bool) → eq_by_cmp key_cmp q p ≡ b → (list_any (eq_by_cmp key_cmp q) ps ≡ true → In ps q) → (b || list_any (eq_by_cmp key_cmp q) ps) ≡ true → In (p ∷ ps) q
    by true e more h = inl (one_path q p e)
    by false e more h = inr (more h)

to_paths : (entries : List Entry) (e : Entry) → In entries e → In (paths_of entries) e.path
to_paths entries e h =
    let names : List (List ℕ) = map_list (λ x. x.path) entries in
    any_in e.path (paths_of entries)
    (sym (contains_key-keys (map.from_entries {R = key_cmp} (map_list (λ name. (name, name)) names)) e.path) ∙ has-name names e.path ∙ any_path entries e h)

-- ---- the moves of an entry

pub in_moves_of : (k : ℕ) (own : List Entry) (m : Move) → In (moves_of k own) m → (e : Entry) × (a : Added) × In own e × In (added_by e.change) a × (m ≡ moved k (laid_out own) e a)
in_moves_of k own m h =
    let r = in-flat (moves_by k (laid_out own)) own m h in
    let s = in-map (moved k (laid_out own) r.0) (added_by r.0.change) m r.2 in
    (r.0, s.0, r.1, s.1, s.2)

module _ (e : Entry) (a : Added) (adds : In (added_by e.change) a) where
  abbrev Has : List Move → Type 0
  Has ms = (m : Move) × In ms m × IsMoveOf e a m

  has_of : (k : ℕ) (own : List Entry) → In own e → Has (moves_of k own)
  has_of k own i = (
    moved k (laid_out own) e a,
    to-flat (moves_by k (laid_out own)) own e (moved k (laid_out own) e a) i (to-map (moved k (laid_out own) e) (added_by e.change) a adds),
    record { position = refl; path = refl; name = refl },
  )

  has_in : (n : ℕ) (repos : List (List Entry)) (own : List Entry) → In repos own → In own e → Has (moves_in n repos)
  has_in n [] own i j = absurd i
  has_in n (own' ∷ later) own i j =
      ⊎_elim (λ s. let r = has_of n own' (subst (λ (o : List Entry). In o e) s j) in (r.0, in-front (moves_of n own') (moves_in (n + length (files_of own')) later) r.0 r.1, r.2))
      (λ k. let r = has_in (n + length (files_of own')) later own k j in (r.0, in-back (moves_of n own') (moves_in (n + length (files_of own')) later) r.0 r.1, r.2)) i

  module _ (entries : List Entry) (of : In entries e) where
    has_at : (n : ℕ) → Has (moves_at entries n e.path)
    has_at n =
        let r = to_cut [] (filter (λ x. same_name x.path e.path) entries) e (inr (to_filter (λ x. same_name x.path e.path) entries e of (same_test e.path e.path ∙ itself e.path))) in
        has_in n (repos_at e.path entries) r.0 r.1 r.2

    has_all : (n : ℕ) (paths : List (List ℕ)) → In paths e.path → Has (moves_all entries n paths)
    has_all n [] i = absurd i
    has_all n (path ∷ paths) i =
        ⊎_elim
        (λ s. let r = subst (λ (p : List ℕ). Has (moves_at entries n p)) s (has_at n) in (r.0, in-front (moves_at entries n path) (moves_all entries (n + length (files_at path entries)) paths) r.0 r.1, r.2))
        (λ k. let r = has_all (n + length (files_at path entries)) paths k in (r.0, in-back (moves_at entries n path) (moves_all entries (n + length (files_at path entries)) paths) r.0 r.1, r.2)) i

    pub has_move : (next : ℕ) → Any (IsMoveOf e a) (planned_moves next entries)
    has_move next = let r = has_all next (paths_of entries) (to_paths entries e of) in to_any (IsMoveOf e a) (planned_moves next entries) r.0 r.1 r.2

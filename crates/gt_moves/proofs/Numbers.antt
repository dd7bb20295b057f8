-- The numbers from which the files of each repository are counted, and what holds of them.
use Rattle.std.proofs.Common.{◌≡◌, inl, inr, ⊎_elim, ℕ, zero, suc, ◌+◌, ◌≤◌, Bool, true, false, cond, ◌||◌, List, [], ◌∷◌, ◌++◌, length, length-append, flat_map, Some, refl, sym, ap, ◌∙◌, arith, slice_get, map as map_list}
use Rattle.std.specs.List.{list_any}
use Rattle.gt_apply.specs.Plan.{added_by}
use Rattle.gt_apply.proofs.Lists.{In, in-append}
use Rattle.gt_model.specs.Batches as batch
use Rattle.gt_model.specs.Batches.{has_records, written, files_of, files_at, repos_at, paths_of, new_files}
use Rattle.gt_model.specs.Contents.{Content, after, IsLegal}
use Rattle.gt_model.specs.Verdicts.{ascending}
use Rattle.gt_model.specs.declared.added.Added.{Added}
use Rattle.gt_model.specs.declared.change.Change.{Change}
use Rattle.gt_model.specs.declared.change.Change.TheVariants.{Create, Delete, Link, Write, Repack, Prune, PackRefs, Unlink}
use Rattle.gt_model.specs.declared.entry.Entry.{Entry}
use Rattle.gt_moves.specs.Moves.{moves_of, moves_in, moves_at, moves_all, planned_moves}
use Rattle.gt_moves.specs.Within.{IsWithin}
use Rattle.gt_moves.specs.declared.moved.Move.{Move}
use Rattle.gt_moves.proofs.Members.{in_repo, in_moves_of, to_index}

-- ---- repositories, each with the number of its first file

abbrev pub Rows : (ℕ → List Entry → Type 0) → ℕ → List (List Entry) → Type 0
Rows Q n [] = Unit {0}
Rows Q n (own ∷ later) = Q n own × Rows Q (n + length (files_of own)) later

abbrev pub AllRows : (ℕ → List Entry → Type 0) → List Entry → ℕ → List (List ℕ) → Type 0
AllRows Q entries n [] = Unit {0}
AllRows Q entries n (path ∷ paths) = Rows Q n (repos_at path entries) × AllRows Q entries (n + length (files_at path entries)) paths

module _ (Q : ℕ → List Entry → Type 0) where
  abbrev pub Found : Move → Type 0
  Found m = (k : ℕ) × (own : List Entry) × Q k own × In (moves_of k own) m

  in_moves : (n : ℕ) (repos : List (List Entry)) (m : Move) → Rows Q n repos → In (moves_in n repos) m → Found m
  in_moves n [] m rows i = absurd i
  in_moves n (own ∷ later) m rows i =
      ⊎_elim (λ a. (n, own, rows.0, a)) (λ b. in_moves (n + length (files_of own)) later m rows.1 b) (in-append (moves_of n own) (moves_in (n + length (files_of own)) later) m i)

  pub in_all : (entries : List Entry) (n : ℕ) (paths : List (List ℕ)) (m : Move) → AllRows Q entries n paths → In (moves_all entries n paths) m → Found m
  in_all entries n [] m rows i = absurd i
  in_all entries n (path ∷ paths) m rows i =
      ⊎_elim (λ a. in_moves n (repos_at path entries) m rows.0 a) (λ b. in_all entries (n + length (files_at path entries)) paths m rows.1 b)
      (in-append (moves_at entries n path) (moves_all entries (n + length (files_at path entries)) paths) m i)

-- ---- entries with records

adds_records : (change : Change) (a : Added) → In (added_by change) a → has_records change ≡ true
adds_records (Create pool) a h = absurd h
adds_records Delete a h = absurd h
adds_records (Link pool) a h = absurd h
adds_records (Write refs needed []) a h = absurd h
adds_records (Write refs needed (b ∷ added)) a h = refl
adds_records (Repack file dropped) a h = absurd h
adds_records (Prune file dropped) a h = absurd h
adds_records (PackRefs file) a h = absurd h
adds_records (Unlink file) a h = absurd h

or_true : (b : Bool) → (b || true) ≡ true
or_true true = refl
or_true false = refl

pub some_records : (own : List Entry) (e : Entry) (a : Added) → In own e → In (added_by e.change) a → list_any (λ x. has_records x.change) own ≡ true
some_records [] e a i j = absurd i
some_records (x ∷ own) e a i j =
    ⊎_elim (λ s. ap (λ (b : Bool). b || list_any (λ x. has_records x.change) own) (ap (λ (y : Entry). has_records y.change) (sym s) ∙ adds_records e.change a j))
    (λ k. ap (λ (b : Bool). has_records x.change || b) (some_records own e a k j) ∙ or_true (has_records x.change)) i

-- the pack is their first file
pub pack_first : (own : List Entry) → list_any (λ x. has_records x.change) own ≡ true → files_of own ≡ batch.pack ∷ map_list batch.loose (ascending (flat_map (λ e. written e.change) own))
pack_first own any = ap (λ (b : Bool). cond b (batch.pack ∷ []) [] ++ map_list batch.loose (ascending (flat_map (λ e. written e.change) own))) any

-- ---- positions

pub positioned : (c : Content) (p : ℕ) (entries : List Entry) (i : ℕ) (e : Entry) → IsLegal c p entries → slice_get entries i ≡ Some e → e.position ≡ i + p
positioned c p [] i e legal is = absurd (cc is)
positioned c p (x ∷ entries) zero e legal is =
    let same : x ≡ e = cc is in
    ap (λ (y : Entry). y.position) (sym same) ∙ legal.0 ∙ (let none : p ≡ 0 + p = omega arith in none)
positioned c p (x ∷ entries) (suc i) e legal is = positioned (after c x) (p + 1) entries i e legal.2 is ∙ (let same : i + (p + 1) ≡ suc i + p = omega arith in same)

-- ---- moves are within

module _ (next top : ℕ) (entries : List Entry) where
  -- the entries of one repository, whose files have numbers from here on
  pub record IsPart (k : ℕ) (own : List Entry) : Type 0 where
    pub whole : (e : Entry) → In own e → In entries e
    pub from : next ≤ k
    pub below : k + length (files_of own) ≤ top

  part_rows : (n : ℕ) (repos : List (List Entry)) → ((own : List Entry) → In repos own → (e : Entry) → In own e → In entries e) → next ≤ n → n + length (flat_map files_of repos) ≤ top → Rows IsPart n repos
  part_rows n [] whole from below = tt
  part_rows n (own ∷ later) whole from below =
      let long : length (flat_map files_of (own ∷ later)) ≡ length (files_of own) + length (flat_map files_of later) = length-append (files_of own) (flat_map files_of later) in
      (record { whole = whole own (inl refl); from = from; below = omega arith }, part_rows (n + length (files_of own)) later (λ o i. whole o (inr i)) (omega arith) (omega arith))

  pub part_paths : (n : ℕ) (paths : List (List ℕ)) → next ≤ n → n + length (flat_map (λ path. files_at path entries) paths) ≤ top → AllRows IsPart entries n paths
  part_paths n [] from below = tt
  part_paths n (path ∷ paths) from below =
      let long : length (flat_map (λ path. files_at path entries) (path ∷ paths)) ≡ length (files_at path entries) + length (flat_map (λ path. files_at path entries) paths) = length-append (files_at path entries) (flat_map (λ path. files_at path entries) paths) in
      (part_rows n (repos_at path entries) (λ own i e j. in_repo path entries own e i j) from (omega arith), part_paths (n + length (files_at path entries)) paths (omega arith) (omega arith))

module _ (begin next : ℕ) (c : Content) (entries : List Entry) (legal : IsLegal c (begin + 1) entries) where
  pub is_within : (m : Move) → In (planned_moves next entries) m → IsWithin begin next entries m
  is_within m h =
      let top : ℕ = next + new_files entries in
      let (k, own, part, here) = in_all (IsPart next top entries) entries next (paths_of entries) m (part_paths next top entries next (paths_of entries) (omega arith) (omega arith)) h in
      let (e, a, in_own, adds, is) = in_moves_of k own m here in
      let (i, lt, there) = to_index entries e (part.whole e in_own) in
      let position : m.position ≡ i + (begin + 1) = ap (λ (x : Move). x.position) is ∙ positioned c (begin + 1) entries i e legal there in
      let file : m.place.file.number ≡ k = ap (λ (x : Move). x.place.file.number) is in
      let rest : List batch.NewFile = map_list batch.loose (ascending (flat_map (λ e. written e.change) own)) in
      let some : length (files_of own) ≡ length (batch.pack ∷ rest) = ap length (pack_first own (some_records own e a in_own adds)) in
      let lo : next ≤ k = part.from in
      let hi : k + length (files_of own) ≤ top = part.below in
      record {
        number = i;
        entry = e;
        there = there;
        position = position;
        first = omega arith;
        last = omega arith;
        path = ap (λ (x : Move). x.path) is;
        kind = ap (λ (x : Move). x.place.file.kind) is;
        from = omega arith;
        below = omega arith;
      }

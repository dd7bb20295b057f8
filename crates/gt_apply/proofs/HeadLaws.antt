-- Which repositories stand, and which pools they have: the plan beside the content.
use Rattle.std.proofs.Common.{◌≡◌, ℕ, ◌+◌, Bool, true, false, cond, ◌&&◌, not, IsTrue, is_some, List, [], ◌∷◌, ◌++◌, length, Option, Some, None, refl, sym, ap, subst, ◌∙◌, filter, fold}
use Rattle.std.proofs.lemmas.Bool.{and_parts}
use Rattle.std.proofs.lemmas.Grind.{fold-append}
use Rattle.std.specs.Option.{option_map}
use Rattle.std.specs.Ordering.{eq_by_cmp}
use Rattle.std.specs.Cmp.Lexicographic.{nat_list_cmp_total, texts_ties}
use Rattle.std.specs.FinMap as map
use Rattle.std.specs.FinMap.{get-insert, get-remove}
use Rattle.gt_manifest.specs.declared.manifest.RepoFiles.{RepoFiles}
use Rattle.gt_model.specs.Batches as batch
use Rattle.gt_model.specs.Batches.{is_deletion, files_of, cut, repos_at}
use Rattle.gt_model.specs.Contents.{Content, Repo, key_cmp, new_repo, with_refs, with_added, without, unlinked, changed, after, after_all, change_fits, IsLegal}
use Rattle.gt_model.specs.Verdicts.{same_name}
use Rattle.gt_model.specs.declared.change.Change.{Change}
use Rattle.gt_model.specs.declared.change.Change.TheVariants.{Create, Delete, Link, Write, Repack, Prune, PackRefs, Unlink}
use Rattle.gt_model.specs.declared.entry.Entry.{Entry}
use Rattle.gt_model.proofs.Repositories.{get-at_repo, get-alike}
use Rattle.gt_versions.proofs.Keys.{flip}
use Rattle.gt_apply.specs.Plan.{placed, rearranged}
use Rattle.gt_apply.specs.Fitting.{Head, files_head, repo_head}
use Rattle.gt_apply.proofs.SlotLaws.{enter, first_of, start, slot, slots}

-- ---- heads

-- what a change of a repository makes of its head
abbrev turn : Change → Head → Head
turn (Link pool) h = (h.0, Some pool)
turn (Unlink file) h = (h.0, None)
turn change h = h

-- what it makes of the head at its path
abbrev step : Option Head → Change → Option Head
step o (Create pool) = Some (pool, None)
step o Delete = None
step o change = option_map (turn change) o

-- the same, but that a creation is made before
abbrev later : Option Head → Entry → Option Head
later o e = cond (is_deletion e.change) None (option_map (turn e.change) o)

abbrev first : Change → Option Head → Option Head
first (Create pool) o = Some (pool, None)
first change o = o

abbrev begins : List Entry → Option Head → Option Head
begins [] o = o
begins (e ∷ es) o = first e.change o

abbrev head_slot : List Entry → Option Head → Option Head
head_slot own o = fold later (begins own o) own

-- ---- of the files

head-map : (g : RepoFiles → RepoFiles) (h : Head → Head) (o : Option RepoFiles) → ((r : RepoFiles) → files_head (g r) ≡ h (files_head r)) → option_map files_head (option_map g o) ≡ option_map h (option_map files_head o)
head-map g h None e = refl
head-map g h (Some r) e = ap (λ (x : Head). Some x) (e r)

head-placed : (n : ℕ) (files : List batch.NewFile) (r : RepoFiles) → files_head (placed n files r) ≡ files_head r
head-placed n [] r = refl
head-placed n (batch.pack ∷ files) r = head-placed (n + 1) files _
head-placed n (batch.loose name ∷ files) r = head-placed (n + 1) files _

head-rearranged : (position : ℕ) (change : Change) (r : RepoFiles) → files_head (rearranged position change r) ≡ turn change (files_head r)
head-rearranged position (Create pool) r = refl
head-rearranged position Delete r = refl
head-rearranged position (Link pool) r = refl
head-rearranged position (Write refs needed added) r = refl
head-rearranged position (Repack file dropped) r = refl
head-rearranged position (Prune file dropped) r = refl
head-rearranged position (PackRefs file) r = refl
head-rearranged position (Unlink file) r = refl

head-enter : (o : Option RepoFiles) (e : Entry) → option_map files_head (enter o e) ≡ later (option_map files_head o) e
head-enter o e = by (is_deletion e.change)
  where
    by : (b : Bool) → option_map files_head (cond b None (option_map (rearranged e.position e.change) o)) ≡ cond b None (option_map (turn e.change) (option_map files_head o))
    by true = refl
    by false = head-map (rearranged e.position e.change) (turn e.change) o (head-rearranged e.position e.change)

head-all : (own : List Entry) (o : Option RepoFiles) → option_map files_head (fold enter o own) ≡ fold later (option_map files_head o) own
head-all [] o = refl
head-all (e ∷ es) o = head-all es (enter o e) ∙ ap (λ (h : Option Head). fold later h es) (head-enter o e)

head-start : (path : List ℕ) (own : List Entry) (o : Option RepoFiles) → option_map files_head (start path own o) ≡ begins own (option_map files_head o)
head-start path [] o = refl
head-start path (e ∷ es) o = by e.change
  where
    by : (change : Change) → option_map files_head (first_of change path o) ≡ first change (option_map files_head o)
    by (Create pool) = refl
    by Delete = refl
    by (Link pool) = refl
    by (Write refs needed added) = refl
    by (Repack file dropped) = refl
    by (Prune file dropped) = refl
    by (PackRefs file) = refl
    by (Unlink file) = refl

same-map : (o : Option Head) → option_map (λ h. h) o ≡ o
same-map None = refl
same-map (Some h) = refl

head-slot : (path : List ℕ) (n : ℕ) (own : List Entry) (o : Option RepoFiles) → option_map files_head (slot path n own o) ≡ head_slot own (option_map files_head o)
head-slot path n own o =
    head-all own (option_map (placed n (files_of own)) (start path own o))
    ∙ ap (λ (h : Option Head). fold later h own) (head-map (placed n (files_of own)) (λ h. h) (start path own o) (head-placed n (files_of own)) ∙ same-map (option_map files_head (start path own o)) ∙ head-start path own o)

pub head-slots : (path : List ℕ) (n : ℕ) (repos : List (List Entry)) (o : Option RepoFiles) → option_map files_head (slots path n repos o) ≡ fold (λ h own. head_slot own h) (option_map files_head o) repos
head-slots path n [] o = refl
head-slots path n (own ∷ rest) o =
    head-slots path (n + length (files_of own)) rest (slot path n own o)
    ∙ ap (λ (h : Option Head). fold (λ h own. head_slot own h) h rest) (head-slot path n own o)

-- ---- of the content

-- A change finds its repository, but for a creation, which finds none.
abbrev finds : Option Head → Change → Bool
finds o (Create pool) = not (is_some o)
finds o change = is_some o

abbrev pub Goes : Option Head → List Entry → Type 0
Goes o [] = Unit {0}
Goes o (e ∷ es) = (finds o e.change ≡ true) × Goes (step o e.change) es

repo-map : (g : Repo → Repo) (h : Head → Head) (o : Option Repo) → ((r : Repo) → repo_head (g r) ≡ h (repo_head r)) → option_map repo_head (option_map g o) ≡ option_map h (option_map repo_head o)
repo-map g h None e = refl
repo-map g h (Some r) e = ap (λ (x : Head). Some x) (e r)

some-kept : (o : Option Repo) → is_some (option_map repo_head o) ≡ is_some o
some-kept None = refl
some-kept (Some r) = refl

module _ (c : Content) (path q : List ℕ) where
  at : (g : Repo → Repo) (h : Head → Head) → ((r : Repo) → repo_head (g r) ≡ h (repo_head r))
      → option_map repo_head (cond (eq_by_cmp key_cmp q path) (option_map g (map.get c q)) (map.get c q)) ≡ cond (eq_by_cmp key_cmp q path) (option_map h (option_map repo_head (map.get c q))) (option_map repo_head (map.get c q))
  at g h e = by (eq_by_cmp key_cmp q path)
    where
      by : (b : Bool) → option_map repo_head (cond b (option_map g (map.get c q)) (map.get c q)) ≡ cond b (option_map h (option_map repo_head (map.get c q))) (option_map repo_head (map.get c q))
      by true = repo-map g h (map.get c q) e
      by false = refl

  same-by : (b : Bool) (o : Option Head) → o ≡ cond b (option_map (λ h. h) o) o
  same-by true None = refl
  same-by true (Some h) = refl
  same-by false o = refl

  put : (b : Bool) (r : Repo) (o : Option Repo) → option_map repo_head (cond b (Some r) o) ≡ cond b (Some (repo_head r)) (option_map repo_head o)
  put true r o = refl
  put false r o = refl

  gone : (b : Bool) (o : Option Repo) → option_map repo_head (cond b None o) ≡ cond b None (option_map repo_head o)
  gone true o = refl
  gone false o = refl

  head-changed : (change : Change) → option_map repo_head (map.get (changed c path change) q) ≡ cond (eq_by_cmp key_cmp q path) (step (option_map repo_head (map.get c q)) change) (option_map repo_head (map.get c q))
  unfolding changed
  head-changed (Create pool) = ap (option_map repo_head) (get-insert nat_list_cmp_total c path (new_repo pool) q) ∙ put (eq_by_cmp key_cmp q path) (new_repo pool) (map.get c q)
  head-changed Delete = ap (option_map repo_head) (get-remove nat_list_cmp_total c path q) ∙ gone (eq_by_cmp key_cmp q path) (map.get c q)
  head-changed (Link pool) = ap (option_map repo_head) (get-at_repo c path (λ r. record r { pool = Some pool }) q) ∙ at (λ r. record r { pool = Some pool }) (λ h. (h.0, Some pool)) (λ r. refl)
  head-changed (Write refs needed added) =
      ap (option_map repo_head) (get-at_repo c path (λ r. record r { refs = with_refs r.refs refs; own = with_added r.own added }) q) ∙ at (λ r. record r { refs = with_refs r.refs refs; own = with_added r.own added }) (λ h. h) (λ r. refl)
  head-changed (Repack file dropped) = ap (option_map repo_head) (get-at_repo c path (λ r. record r { own = without r.own dropped }) q) ∙ at (λ r. record r { own = without r.own dropped }) (λ h. h) (λ r. refl)
  head-changed (Prune file dropped) = ap (option_map repo_head) (get-at_repo c path (λ r. record r { own = without r.own dropped }) q) ∙ at (λ r. record r { own = without r.own dropped }) (λ h. h) (λ r. refl)
  head-changed (PackRefs file) = same-by (eq_by_cmp key_cmp q path) (option_map repo_head (map.get c q))
  head-changed (Unlink file) = ap (option_map repo_head) (get-at_repo c path (unlinked c) q) ∙ at (unlinked c) (λ h. (h.0, None)) (λ r. refl)

first_true : (a b : Bool) → IsTrue (a && b) → IsTrue a
first_true a b h = (and_parts a b h).0

-- a change that fits finds what it wants
fits-finds : (c : Content) (path : List ℕ) (change : Change) → IsTrue (change_fits c path change) → finds (option_map repo_head (map.get c path)) change ≡ true
fits-finds c path (Create pool) h = ap not (some-kept (map.get c path)) ∙ h
fits-finds c path Delete h = some-kept (map.get c path) ∙ (first_true _ _ h)
fits-finds c path (Link pool) h = some-kept (map.get c path) ∙ (first_true _ _ (first_true _ _ (first_true _ _ h)))
fits-finds c path (Write refs needed added) h = some-kept (map.get c path) ∙ (first_true _ _ (first_true _ _ h))
fits-finds c path (Repack file dropped) h = some-kept (map.get c path) ∙ (first_true _ _ h)
fits-finds c path (Prune file dropped) h = some-kept (map.get c path) ∙ (first_true _ _ h)
fits-finds c path (PackRefs file) h = some-kept (map.get c path) ∙ h
fits-finds c path (Unlink file) h = some-kept (map.get c path) ∙ (first_true _ _ h)

-- ---- the entries of a path

abbrev pub of_path : List ℕ → List Entry → List Entry
of_path path entries = filter (λ e. same_name e.path path) entries

abbrev steps : Option Head → List Entry → Option Head
steps h es = fold (λ h e. step h e.change) h es

same_as : (a q : List ℕ) → same_name a q ≡ eq_by_cmp key_cmp q a
same_as a q = texts_ties a q ∙ flip a q

-- a legal log goes at each path, and makes of its head what the path's entries make
pub legal-goes : (c : Content) (position : ℕ) (entries : List Entry) (q : List ℕ) → IsLegal c position entries
    → Goes (option_map repo_head (map.get c q)) (of_path q entries) × (option_map repo_head (map.get (after_all c entries) q) ≡ steps (option_map repo_head (map.get c q)) (of_path q entries))
legal-goes c position [] q h = (tt, refl)
legal-goes c position (e ∷ es) q h =
    by (same_name e.path q) refl (head-changed c e.path q e.change) (fits-finds c e.path e.change h.1) (legal-goes (after c e) (position + 1) es q h.2)
  where
    now : Option Head
    now = option_map repo_head (map.get c q)

    next : Option Head
    next = option_map repo_head (map.get (after c e) q)

    by : (b : Bool) → same_name e.path q ≡ b
        → next ≡ cond (eq_by_cmp key_cmp q e.path) (step now e.change) now
        → finds (option_map repo_head (map.get c e.path)) e.change ≡ true
        → Goes next (of_path q es) × (option_map repo_head (map.get (after_all (after c e) es) q) ≡ steps next (of_path q es))
        → Goes now (cond b (e ∷ of_path q es) (of_path q es)) × (option_map repo_head (map.get (after_all (after c e) es) q) ≡ steps now (cond b (e ∷ of_path q es) (of_path q es)))
    by true t made found rest =
        let here : eq_by_cmp key_cmp q e.path ≡ true = sym (same_as e.path q) ∙ t in
        let is : next ≡ step now e.change = made ∙ ap (λ b. cond b (step now e.change) now) here in (
          (ap (λ (o : Option Repo). finds (option_map repo_head o) e.change) (get-alike c e.path q here) ∙ found, subst (λ (x : Option Head). Goes x (of_path q es)) is rest.0),
          rest.1 ∙ ap (λ (x : Option Head). steps x (of_path q es)) is,
        )
    by false t made found rest =
        let here : eq_by_cmp key_cmp q e.path ≡ false = sym (same_as e.path q) ∙ t in
        let is : next ≡ now = made ∙ ap (λ b. cond b (step now e.change) now) here in
        (subst (λ (x : Option Head). Goes x (of_path q es)) is rest.0, rest.1 ∙ ap (λ (x : Option Head). steps x (of_path q es)) is)

-- ---- the pieces of a path

-- Once an entry of a piece was made, the repository stands.
abbrev Started : List Entry → Option Head → Type 0
Started [] h = Unit {0}
Started (e ∷ es) h = is_some h ≡ true

some-turned : (f : Head → Head) (h : Option Head) → is_some (option_map f h) ≡ is_some h
some-turned f None = refl
some-turned f (Some x) = refl

stands : (h : Option Head) (change : Change) → is_deletion change ≡ false → finds h change ≡ true → is_some (step h change) ≡ true
stands h (Create pool) n found = refl
stands h Delete n found = cc
stands h (Link pool) n found = some-turned (turn (Link pool)) h ∙ found
stands h (Write refs needed added) n found = some-turned (turn (Write refs needed added)) h ∙ found
stands h (Repack file dropped) n found = some-turned (turn (Repack file dropped)) h ∙ found
stands h (Prune file dropped) n found = some-turned (turn (Prune file dropped)) h ∙ found
stands h (PackRefs file) n found = some-turned (turn (PackRefs file)) h ∙ found
stands h (Unlink file) n found = some-turned (turn (Unlink file)) h ∙ found

-- one entry more in a piece
one-more : (first : List Entry) (e : Entry) (o : Option Head) → Started first (head_slot first o) → finds (head_slot first o) e.change ≡ true → head_slot (first ++ e ∷ []) o ≡ step (head_slot first o) e.change
one-more [] e o started found = by e.change
  where
    by : (change : Change) → later (first change o) (record e { change = change }) ≡ step o change
    by (Create pool) = refl
    by Delete = refl
    by (Link pool) = refl
    by (Write refs needed added) = refl
    by (Repack file dropped) = refl
    by (Prune file dropped) = refl
    by (PackRefs file) = refl
    by (Unlink file) = refl
one-more (x ∷ xs) e o started found =
    fold-append later (first x.change o) (x ∷ xs) (e ∷ []) ∙ by e.change (head_slot (x ∷ xs) o) started found
  where
    by : (change : Change) (h : Option Head) → is_some h ≡ true → finds h change ≡ true → later h (record e { change = change }) ≡ step h change
    by (Create pool) h there found = let no : not (is_some h) ≡ false = ap not there in cc
    by Delete h there found = refl
    by (Link pool) h there found = refl
    by (Write refs needed added) h there found = refl
    by (Repack file dropped) h there found = refl
    by (Prune file dropped) h there found = refl
    by (PackRefs file) h there found = refl
    by (Unlink file) h there found = refl

started-more : (first : List Entry) (e : Entry) (h : Option Head) → is_some h ≡ true → Started (first ++ e ∷ []) h
started-more [] e h there = there
started-more (x ∷ xs) e h there = there

pieces : (first es : List Entry) (o : Option Head) → Started first (head_slot first o) → Goes (head_slot first o) es → fold (λ h own. head_slot own h) o (cut first es) ≡ steps (head_slot first o) es
pieces first [] o started goes = refl
pieces first (e ∷ es) o started goes =
    by (is_deletion e.change) refl
    (pieces [] es (head_slot (first ++ e ∷ []) o) tt (subst (λ (h : Option Head). Goes h es) (sym more) goes.1))
    (λ no. pieces (first ++ e ∷ []) es o
    (started-more first e (head_slot (first ++ e ∷ []) o) (ap is_some more ∙ stands (head_slot first o) e.change no goes.0))
    (subst (λ (h : Option Head). Goes h es) (sym more) goes.1))
  where
    more : head_slot (first ++ e ∷ []) o ≡ step (head_slot first o) e.change
    more = one-more first e o started goes.0

    by : (b : Bool) → is_deletion e.change ≡ b
        → fold (λ h own. head_slot own h) (head_slot (first ++ e ∷ []) o) (cut [] es) ≡ steps (head_slot (first ++ e ∷ []) o) es
        → (is_deletion e.change ≡ false → fold (λ h own. head_slot own h) o (cut (first ++ e ∷ []) es) ≡ steps (head_slot (first ++ e ∷ []) o) es)
        → fold (λ h own. head_slot own h) o (cond b ((first ++ e ∷ []) ∷ cut [] es) (cut (first ++ e ∷ []) es)) ≡ steps (step (head_slot first o) e.change) es
    by true t x y = x ∙ ap (λ (h : Option Head). steps h es) more
    by false t x y = y t ∙ ap (λ (h : Option Head). steps h es) more

-- what a plan makes of the head at a path is what the content has there
pub head-planned : (c : Content) (position : ℕ) (entries : List Entry) (q : List ℕ) (n : ℕ) (o : Option RepoFiles) → IsLegal c position entries → option_map files_head o ≡ option_map repo_head (map.get c q)
    → option_map files_head (slots q n (repos_at q entries) o) ≡ option_map repo_head (map.get (after_all c entries) q)
head-planned c position entries q n o legal same =
    let goes : Goes (option_map repo_head (map.get c q)) (of_path q entries) × (option_map repo_head (map.get (after_all c entries) q) ≡ steps (option_map repo_head (map.get c q)) (of_path q entries)) = legal-goes c position entries q legal in
    head-slots q n (repos_at q entries) o
    ∙ ap (λ (h : Option Head). fold (λ h own. head_slot own h) h (cut [] (of_path q entries))) same
    ∙ pieces [] (of_path q entries) (option_map repo_head (map.get c q)) tt goes.0
    ∙ sym goes.1

-- where no entry is of a path, its head stays
pub head-untouched : (c : Content) (position : ℕ) (entries : List Entry) (q : List ℕ) → IsLegal c position entries → of_path q entries ≡ [] → option_map repo_head (map.get (after_all c entries) q) ≡ option_map repo_head (map.get c q)
head-untouched c position entries q legal none = (legal-goes c position entries q legal).1 ∙ ap (λ (es : List Entry). steps (option_map repo_head (map.get c q)) es) none

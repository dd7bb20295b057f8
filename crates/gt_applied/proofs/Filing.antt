-- The files at a path after the entries of that path hold the repository after them.
use Rattle.std.proofs.Common.{◌≡◌, ℕ, Bool, true, false, cond, List, [], ◌∷◌, ◌++◌, fold, flat_map, Option, Some, None, refl, sym, ap, ◌∙◌, subst, map as map_list}
use Rattle.std.specs.List.{AllByRecursion}
use Rattle.std.specs.Option.{option_map}
use Rattle.std.specs.Ordering.{eq_by_cmp}
use Rattle.std.specs.Cmp.Lexicographic.{nat_list_cmp_total}
use Rattle.std.specs.FinMap as map
use Rattle.std.specs.FinMap.{get-insert, get-remove}
use Rattle.gt_disk.specs.Files.{Files}
use Rattle.gt_entry.specs.Fits.{IsEntry}
use Rattle.gt_manifest.specs.declared.manifest.RepoFiles.{RepoFiles}
use Rattle.gt_base.specs.Built.{is_built, IsBuilt}
use Rattle.gt_model.specs.Batches.{is_deletion, files_of}
use Rattle.gt_model.specs.Contents.{key_cmp, Repo, new_repo}
use Rattle.gt_model.specs.declared.change.Change.{Change}
use Rattle.gt_model.specs.declared.change.Change.TheVariants.{Create, Delete, Link, Write, Repack, Prune, PackRefs, Unlink}
use Rattle.gt_model.specs.declared.entry.Entry.{Entry}
use Rattle.gt_model.proofs.Repositories.{get-alike}
use Rattle.gt_model.proofs.Values.{itself}
use Rattle.gt_apply.specs.Plan.{Shelves, added_by, to_loose, placed, changed, rearranged, no_files, begun, entered, filed_repo}
use Rattle.gt_apply.proofs.DraftLaws.{contents}
use Rattle.gt_apply.proofs.TreeLaws.{entered-other, entered-deletion}
use Rattle.gt_applied.proofs.Objects.{AreNew}
use Rattle.gt_applied.proofs.Typed.{no_entries}
use Rattle.gt_applied.proofs.Repos.{AreThere, IsHeld, wrote, placed_held}
use Rattle.gt_applied.proofs.Courses.{IsQuiet}

-- ---- single steps

get-shelf : (s : Shelves) (path : List ℕ) (f : RepoFiles → RepoFiles) (q : List ℕ) → map.get (changed s path f) q ≡ cond (eq_by_cmp key_cmp q path) (option_map f (map.get s q)) (map.get s q)
get-shelf s path f q = by (map.get s path) refl
  where
    none : (b : Bool) → eq_by_cmp key_cmp q path ≡ b → map.get s path ≡ None → map.get s q ≡ cond b (option_map f (map.get s q)) (map.get s q)
    none true t e = let n : map.get s q ≡ None = get-alike s path q t ∙ e in n ∙ ap (option_map f) (sym n)
    none false t e = refl

    some : (b : Bool) (r : RepoFiles) → eq_by_cmp key_cmp q path ≡ b → map.get s path ≡ Some r → cond b (Some (f r)) (map.get s q) ≡ cond b (option_map f (map.get s q)) (map.get s q)
    some true r t e = sym (ap (option_map f) (get-alike s path q t ∙ e))
    some false r t e = refl

    by : (o : Option RepoFiles) → map.get s path ≡ o → map.get (changed s path f) q ≡ cond (eq_by_cmp key_cmp q path) (option_map f (map.get s q)) (map.get s q)
    by None e = let is : changed s path f ≡ s = rw e refl in ap (λ (t : Shelves). map.get t q) is ∙ none (eq_by_cmp key_cmp q path) refl e
    by (Some r) e =
        let is : changed s path f ≡ map.insert s path (f r) = rw e refl in
        ap (λ (t : Shelves). map.get t q) is ∙ get-insert nat_list_cmp_total s path (f r) q ∙ some (eq_by_cmp key_cmp q path) r refl e

still : (position : ℕ) (change : Change) (r : RepoFiles) → is_built change ≡ true → is_deletion change ≡ false → rearranged position change r ≡ r
still position (Create pool) r b d = refl
still position Delete r b d = absurd (cc d)
still position (Link pool) r b d = absurd (cc b)
still position (Write refs needed added) r b d = refl
still position (Repack file dropped) r b d = absurd (cc b)
still position (Prune file dropped) r b d = absurd (cc b)
still position (PackRefs file) r b d = absurd (cc b)
still position (Unlink file) r b d = absurd (cc b)

-- a creation and a write change no files themselves
pub get-quiet : (s : Shelves) (e : Entry) (q : List ℕ) → IsQuiet e → map.get (entered s e) q ≡ map.get s q
get-quiet s e q quiet =
    ap (λ (t : Shelves). map.get t q) (sym (entered-other s e quiet.1)) ∙ get-shelf s e.path (rearranged e.position e.change) q ∙ by (eq_by_cmp key_cmp q e.path) (map.get s q)
  where
    by : (b : Bool) (o : Option RepoFiles) → cond b (option_map (rearranged e.position e.change) o) o ≡ o
    by true None = refl
    by true (Some r) = ap Some (still e.position e.change r quiet.0 quiet.1)
    by false o = refl

pub get-deletion : (s : Shelves) (e : Entry) (q : List ℕ) → is_deletion e.change ≡ true → map.get (entered s e) q ≡ cond (eq_by_cmp key_cmp q e.path) None (map.get s q)
get-deletion s e q d = ap (λ (t : Shelves). map.get t q) (sym (entered-deletion s e d)) ∙ get-remove nat_list_cmp_total s e.path q

-- ---- other paths

module _ (path q : List ℕ) (other : eq_by_cmp key_cmp q path ≡ false) where
  entered_other : (s : Shelves) (e : Entry) → e.path ≡ path → map.get (entered s e) q ≡ map.get s q
  entered_other s e at = by (is_deletion e.change) refl
    where
      apart : eq_by_cmp key_cmp q e.path ≡ false
      apart = ap (eq_by_cmp key_cmp q) at ∙ other

      by : (d : Bool) → is_deletion e.change ≡ d → map.get (entered s e) q ≡ map.get s q
      by true d = get-deletion s e q d ∙ ap (λ b. cond b None (map.get s q)) apart
      by false d =
          ap (λ (t : Shelves). map.get t q) (sym (entered-other s e d)) ∙ get-shelf s e.path (rearranged e.position e.change) q
          ∙ ap (λ b. cond b (option_map (rearranged e.position e.change) (map.get s q)) (map.get s q)) apart

  all_other : (s : Shelves) (own : List Entry) → AllByRecursion (λ e. e.path ≡ path) own → map.get (fold entered s own) q ≡ map.get s q
  all_other s [] at = refl
  all_other s (e ∷ own) at = all_other (entered s e) own at.1 ∙ entered_other s e at.0

  begun_other : (s : Shelves) (own : List Entry) → AllByRecursion (λ e. e.path ≡ path) own → map.get (begun own s) q ≡ map.get s q
  begun_other s [] at = refl
  begun_other s (e ∷ own) at = by e.change
    where
      by : (change : Change) → map.get (begun (record e { change = change } ∷ own) s) q ≡ map.get s q
      by (Create pool) = get-insert nat_list_cmp_total s e.path (no_files e.path pool) q ∙ ap (λ b. cond b (Some (no_files e.path pool)) (map.get s q)) (ap (eq_by_cmp key_cmp q) at.0 ∙ other)
      by Delete = refl
      by (Link pool) = refl
      by (Write refs needed added) = refl
      by (Repack file dropped) = refl
      by (Prune file dropped) = refl
      by (PackRefs file) = refl
      by (Unlink file) = refl

  pub filed_other : (n : ℕ) (own : List Entry) (s : Shelves) → AllByRecursion (λ e. e.path ≡ path) own → map.get (filed_repo path n own s) q ≡ map.get s q
  filed_other n own s at =
      all_other (changed (begun own s) path (placed n (files_of own))) own at
      ∙ get-shelf (begun own s) path (placed n (files_of own)) q
      ∙ ap (λ b. cond b (option_map (placed n (files_of own)) (map.get (begun own s) q)) (map.get (begun own s) q)) other
      ∙ begun_other s own at

-- ---- entries of the path

pub record IsOwn (path : List ℕ) (e : Entry) : Type 0 where
  pub at : e.path ≡ path
  pub built : IsBuilt e
  pub typed : IsEntry e

abbrev pub AreOwn : List ℕ → List Entry → Type 0
AreOwn path es = AllByRecursion (IsOwn path) es

pub own_at : (path : List ℕ) (es : List Entry) → AreOwn path es → AllByRecursion (λ e. e.path ≡ path) es
own_at path [] own = tt
own_at path (e ∷ es) own = (own.0.at, own_at path es own.1)

pub own_typed : (path : List ℕ) (es : List Entry) → AreOwn path es → AllByRecursion IsEntry es
own_typed path [] own = tt
own_typed path (e ∷ es) own = (own.0.typed, own_typed path es own.1)

abbrev pub NoDeletion : List Entry → Type 0
NoDeletion es = AllByRecursion (λ e. is_deletion e.change ≡ false) es

pub own_quiet : (path : List ℕ) (es : List Entry) → AreOwn path es → NoDeletion es → AllByRecursion IsQuiet es
own_quiet path [] own none = tt
own_quiet path (e ∷ es) own none = ((own.0.built, none.0), own_quiet path es own.1 none.1)

pub all_push : {A : Type 0} (P : A → Type 0) (xs : List A) (x : A) → AllByRecursion P xs → P x → AllByRecursion P (xs ++ x ∷ [])
all_push P [] x all here = (here, tt)
all_push P (y ∷ xs) x all here = (all.0, all_push P xs x all.1 here)

-- ---- what stands at a path

-- There are files at a path exactly where there is a repository, and they hold it.
abbrev pub Stands : Files → List ℕ → Option RepoFiles → Option Repo → Type 0
Stands files path None None = Unit {0}
Stands files path (Some r) (Some x) = IsHeld files path r x
Stands files path None (Some x) = ⊥
Stands files path (Some r) None = ⊥

-- a new repository has no files
pub fresh_held : (files : Files) (path : List ℕ) (pool : Bool) → IsHeld files path (no_files path pool) (new_repo pool)
fresh_held files path pool = record {
  at = refl;
  listed = sym (ap (map_list to_loose) (no_entries ℕ));
  shows = record { packs = tt; packed = refl; loose = tt };
  is = refl;
}

module _ (files : Files) (path : List ℕ) where
  all_quiet : (s : Shelves) (own : List Entry) → AllByRecursion IsQuiet own → map.get (fold entered s own) path ≡ map.get s path
  all_quiet s [] quiet = refl
  all_quiet s (e ∷ own) quiet = all_quiet (entered s e) own quiet.1 ∙ get-quiet s e path quiet.0

  -- the files that new ones are added to
  abbrev pub filed_on : Shelves → ℕ → List Entry → Shelves
  filed_on s n own = fold entered (changed s path (placed n (files_of own))) own

  pub get-filed_on : (s : Shelves) (n : ℕ) (own : List Entry) (o : Option RepoFiles) → AllByRecursion IsQuiet own → map.get s path ≡ o → map.get (filed_on s n own) path ≡ option_map (placed n (files_of own)) o
  get-filed_on s n own o quiet is =
      all_quiet (changed s path (placed n (files_of own))) own quiet
      ∙ get-shelf s path (placed n (files_of own)) path
      ∙ ap (λ b. cond b (option_map (placed n (files_of own)) (map.get s path)) (map.get s path)) (itself path)
      ∙ ap (option_map (placed n (files_of own))) is

  pub held_on : (s : Shelves) (n : ℕ) (own : List Entry) (r : RepoFiles) (x : Repo) → AreOwn path own → NoDeletion own → map.get s path ≡ Some r → IsHeld files path r x → AreNew x.own (flat_map (λ e. added_by e.change) own)
      → AreThere files n (contents own) → Stands files path (map.get (filed_on s n own) path) (Some (wrote x own))
  held_on s n own r x is none here held new there =
      subst (λ (o : Option RepoFiles). Stands files path o (Some (wrote x own))) (sym (get-filed_on s n own (Some r) (own_quiet path own is none) here))
      (placed_held files path r x held own (own_typed path own is) n new there)

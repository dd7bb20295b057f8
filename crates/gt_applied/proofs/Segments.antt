-- The entries of a path, cut behind each deletion: the files at the path follow them, and other paths keep theirs.
use Rattle.std.proofs.Common.{◌≡◌, ℕ, ◌+◌, Bool, true, false, cond, List, [], ◌∷◌, ◌++◌, length, fold, flat_map, Option, Some, None, refl, sym, ap, ◌∙◌, subst, append_assoc, arith}
use Rattle.std.proofs.lemmas.List.{append-nil}
use Rattle.std.proofs.lemmas.List.Sums.{fold-append}
use Rattle.std.specs.List.{AllByRecursion}
use Rattle.std.specs.Ordering.{eq_by_cmp}
use Rattle.std.specs.Cmp.Lexicographic.{nat_list_cmp_total}
use Rattle.std.specs.FinMap as map
use Rattle.std.specs.FinMap.{get-insert}
use Rattle.gt_disk.specs.Files.{Files}
use Rattle.gt_manifest.specs.declared.manifest.RepoFiles.{RepoFiles}
use Rattle.gt_base.specs.Built.{is_built}
use Rattle.gt_model.specs.Batches.{is_deletion, files_of, cut}
use Rattle.gt_model.specs.Contents.{key_cmp, Repo, new_repo}
use Rattle.gt_model.specs.declared.change.Change.{Change}
use Rattle.gt_model.specs.declared.change.Change.TheVariants.{Create, Delete, Link, Write, Repack, Prune, PackRefs, Unlink}
use Rattle.gt_model.specs.declared.entry.Entry.{Entry}
use Rattle.gt_model.proofs.Values.{itself}
use Rattle.gt_apply.specs.declared.new_file.NewContent.{NewContent}
use Rattle.gt_apply.specs.Plan.{Shelves, content_of, placed, changed, no_files, begun, entered, filed_repo, filed_repos}
use Rattle.gt_apply.proofs.DraftLaws.{contents, length-map}
use Rattle.gt_applied.proofs.Repos.{AreThere, IsHeld}
use Rattle.gt_applied.proofs.Courses.{stepped, course, course-append, FitsHere, Legal, legal-append, course_writes}
use Rattle.gt_applied.proofs.Filing.{get-deletion, filed_other, AreOwn, IsOwn, own_quiet, NoDeletion, all_push, Stands, fresh_held, get-filed_on, held_on}

-- ---- one repository

module _ (files : Files) (path : List ℕ) where
  -- where a repository is, none is created
  begun_none : (s : Shelves) (x : Repo) (own : List Entry) → Legal (Some x) own → begun own s ≡ s
  begun_none s x [] legal = refl
  begun_none s x (e ∷ own) legal = by e.change legal.0
    where
      by : (change : Change) → FitsHere (Some x) change → begun (record e { change = change } ∷ own) s ≡ s
      by (Create pool) fits = absurd (cc fits)
      by Delete fits = refl
      by (Link pool) fits = refl
      by (Write refs needed added) fits = refl
      by (Repack file dropped) fits = refl
      by (Prune file dropped) fits = refl
      by (PackRefs file) fits = refl
      by (Unlink file) fits = refl

  on_some : (s : Shelves) (n : ℕ) (own : List Entry) (r : RepoFiles) (x : Repo) → AreOwn path own → NoDeletion own → Legal (Some x) own → map.get s path ≡ Some r → IsHeld files path r x → AreThere files n (contents own)
      → Stands files path (map.get (filed_repo path n own s) path) (course (Some x) own)
  on_some s n own r x is none legal here held there =
      let w = course_writes x own (own_quiet path own is none) legal in
      subst (Stands files path (map.get (filed_repo path n own s) path)) (sym w.0)
      (held_on files path (begun own s) n own r x is none (ap (λ (t : Shelves). map.get t path) (begun_none s x own legal) ∙ here) held w.1 there)

  on_none : (s : Shelves) (n : ℕ) (own : List Entry) → AreOwn path own → NoDeletion own → Legal None own → map.get s path ≡ None → AreThere files n (contents own)
      → Stands files path (map.get (filed_repo path n own s) path) (course None own)
  on_none s n [] is none legal here there = subst (λ (o : Option RepoFiles). Stands files path o None) (sym (get-filed_on files path s n [] None tt here)) tt
  on_none s n (e ∷ own) is none legal here there = by e.change is.0.built none.0 legal.0 legal.1 is none there
    where
      by : (change : Change) → is_built change ≡ true → is_deletion change ≡ false → FitsHere None change → Legal (stepped None change) own → AreOwn path (record e { change = change } ∷ own) → NoDeletion (record e { change = change } ∷ own)
          → AreThere files n (contents (record e { change = change } ∷ own)) → Stands files path (map.get (filed_repo path n (record e { change = change } ∷ own) s) path) (course (stepped None change) own)
      by (Create pool) b d fits legal own_is own_none there =
          let w = course_writes (new_repo pool) own (own_quiet path own own_is.1 own_none.1) legal in
          let made : map.get (map.insert s e.path (no_files e.path pool)) path ≡ Some (no_files path pool) =
          ap (λ (p : List ℕ). map.get (map.insert s p (no_files p pool)) path) own_is.0.at
          ∙ get-insert nat_list_cmp_total s path (no_files path pool) path
          ∙ ap (λ b. cond b (Some (no_files path pool)) (map.get s path)) (itself path) in
          subst (Stands files path (map.get (filed_repo path n (record e { change = Create pool } ∷ own) s) path)) (sym w.0)
          (held_on files path (map.insert s e.path (no_files e.path pool)) n (record e { change = Create pool } ∷ own) (no_files path pool) (new_repo pool)
          (own_is.0, own_is.1) own_none made (fresh_held files path pool) w.1 there)
      by Delete b d fits legal own_is own_none there = absurd (cc d)
      by (Link pool) b d fits legal own_is own_none there = absurd (cc b)
      by (Write refs needed added) b d fits legal own_is own_none there = absurd fits
      by (Repack file dropped) b d fits legal own_is own_none there = absurd (cc b)
      by (Prune file dropped) b d fits legal own_is own_none there = absurd (cc b)
      by (PackRefs file) b d fits legal own_is own_none there = absurd (cc b)
      by (Unlink file) b d fits legal own_is own_none there = absurd (cc b)

  on_any : (s : Shelves) (n : ℕ) (own : List Entry) (o : Option Repo) → AreOwn path own → NoDeletion own → Legal o own → Stands files path (map.get s path) o → AreThere files n (contents own)
      → Stands files path (map.get (filed_repo path n own s) path) (course o own)
  on_any s n own o is none legal stands there = by (map.get s path) o refl legal stands
    where
      by : (r : Option RepoFiles) (x : Option Repo) → map.get s path ≡ r → Legal x own → Stands files path r x → Stands files path (map.get (filed_repo path n own s) path) (course x own)
      by None None here legal held = on_none s n own is none legal here there
      by None (Some x) here legal held = absurd held
      by (Some r) None here legal held = absurd held
      by (Some r) (Some x) here legal held = on_some s n own r x is none legal here held there

  -- a deletion leaves nothing
  deleted : (s : Shelves) (n : ℕ) (first : List Entry) (e : Entry) → e.path ≡ path → is_deletion e.change ≡ true → map.get (filed_repo path n (first ++ e ∷ []) s) path ≡ None
  deleted s n first e at d =
      let t : Shelves = changed (begun (first ++ e ∷ []) s) path (placed n (files_of (first ++ e ∷ []))) in
      ap (λ (u : Shelves). map.get u path) (fold-append entered t first (e ∷ []))
      ∙ get-deletion (fold entered t first) e path d
      ∙ ap (λ b. cond b None (map.get (fold entered t first) path)) (ap (eq_by_cmp key_cmp path) at ∙ itself path)

stepped_gone : (o : Option Repo) (change : Change) → is_deletion change ≡ true → stepped o change ≡ None
stepped_gone o (Create pool) d = absurd (cc d)
stepped_gone o Delete d = refl
stepped_gone o (Link pool) d = absurd (cc d)
stepped_gone o (Write refs needed added) d = absurd (cc d)
stepped_gone o (Repack file dropped) d = absurd (cc d)
stepped_gone o (Prune file dropped) d = absurd (cc d)
stepped_gone o (PackRefs file) d = absurd (cc d)
stepped_gone o (Unlink file) d = absurd (cc d)

-- ---- one after the other

pub there-append : (files : Files) (n : ℕ) (cs ds : List NewContent) → AreThere files n (cs ++ ds) → AreThere files n cs × AreThere files (n + length cs) ds
there-append files n [] ds h = (tt, subst (λ (k : ℕ). AreThere files k ds) (let e : n ≡ n + 0 = omega arith in e) h)
there-append files n (c ∷ cs) ds h =
    let rest = there-append files (n + 1) cs ds h.1 in
    ((h.0, rest.0), subst (λ (k : ℕ). AreThere files k ds) (let e : (n + 1) + length cs ≡ n + length (c ∷ cs) = omega arith in e) rest.1)

there_first : (files : Files) (n : ℕ) (own : List Entry) (later : List (List Entry)) → AreThere files n (flat_map contents (own ∷ later)) → AreThere files n (contents own) × AreThere files (n + length (files_of own)) (flat_map contents later)
there_first files n own later h =
    let parts = there-append files n (contents own) (flat_map contents later) h in
    (parts.0, subst (λ (k : ℕ). AreThere files (n + k) (flat_map contents later)) (length-map (content_of own) (files_of own)) parts.1)

module _ (path q : List ℕ) (other : eq_by_cmp key_cmp q path ≡ false) where
  pub repos_other : (n : ℕ) (first es : List Entry) (s : Shelves) → AllByRecursion (λ e. e.path ≡ path) first → AllByRecursion (λ e. e.path ≡ path) es → map.get (filed_repos path n (cut first es) s) q ≡ map.get s q
  repos_other n first [] s at more = filed_other path q other n first s at
  repos_other n first (e ∷ es) s at more =
      let all : AllByRecursion (λ (e : Entry). e.path ≡ path) (first ++ e ∷ []) = all_push (λ (e : Entry). e.path ≡ path) first e at more.0 in
      by (is_deletion e.change)
      (repos_other (n + length (files_of (first ++ e ∷ []))) [] es (filed_repo path n (first ++ e ∷ []) s) tt more.1 ∙ filed_other path q other n (first ++ e ∷ []) s all)
      (repos_other n (first ++ e ∷ []) es s all more.1)
    where
      by : (d : Bool) → map.get (filed_repos path n ((first ++ e ∷ []) ∷ cut [] es) s) q ≡ map.get s q → map.get (filed_repos path n (cut (first ++ e ∷ []) es) s) q ≡ map.get s q
          → map.get (filed_repos path n (cond d ((first ++ e ∷ []) ∷ cut [] es) (cut (first ++ e ∷ []) es)) s) q ≡ map.get s q
      by true one two = one
      by false one two = two

module _ (files : Files) (path : List ℕ) where
  -- The files at a path follow its entries, whichever of them are of which repository.
  pub repos_stand : (n : ℕ) (first es : List Entry) (s : Shelves) (o : Option Repo) → AreOwn path first → NoDeletion first → AreOwn path es → Legal o (first ++ es) → Stands files path (map.get s path) o
      → AreThere files n (flat_map contents (cut first es)) → Stands files path (map.get (filed_repos path n (cut first es) s) path) (course o (first ++ es))
  repos_stand n first [] s o is none more legal stands there =
      subst (λ (l : List Entry). Stands files path (map.get (filed_repo path n first s) path) (course o l)) (sym (append-nil first))
      (on_any files path s n first o is none (subst (Legal o) (append-nil first) legal) stands (there_first files n first [] there).0)
  repos_stand n first (e ∷ es) s o is none more legal stands there =
      by (is_deletion e.change) refl there
      (λ d h. repos_stand (n + length (files_of (first ++ e ∷ []))) [] es (filed_repo path n (first ++ e ∷ []) s) None tt tt more.1
      (subst (λ (x : Option Repo). Legal x es) (stepped_gone (course o first) e.change d) (legal-append o first (e ∷ es) legal).1.1)
      (subst (λ (r : Option RepoFiles). Stands files path r None) (sym (deleted files path s n first e more.0.at d)) tt)
      (there_first files n (first ++ e ∷ []) (cut [] es) h).1)
      (λ d h. repos_stand n (first ++ e ∷ []) es s o (all_push (IsOwn path) first e is more.0) (all_push (λ (e : Entry). is_deletion e.change ≡ false) first e none d) more.1
      (subst (Legal o) (sym (append_assoc first (e ∷ []) es)) legal) stands h)
    where
      by : (d : Bool) → is_deletion e.change ≡ d → AreThere files n (flat_map contents (cond d ((first ++ e ∷ []) ∷ cut [] es) (cut (first ++ e ∷ []) es)))
          → (is_deletion e.change ≡ true → AreThere files n (flat_map contents ((first ++ e ∷ []) ∷ cut [] es)) → Stands files path (map.get (filed_repos path n ((first ++ e ∷ []) ∷ cut [] es) s) path) (course None es))
          → (is_deletion e.change ≡ false → AreThere files n (flat_map contents (cut (first ++ e ∷ []) es)) → Stands files path (map.get (filed_repos path n (cut (first ++ e ∷ []) es) s) path) (course o ((first ++ e ∷ []) ++ es)))
          → Stands files path (map.get (filed_repos path n (cond d ((first ++ e ∷ []) ∷ cut [] es) (cut (first ++ e ∷ []) es)) s) path) (course o (first ++ e ∷ es))
      by true d h gone here =
          subst (Stands files path (map.get (filed_repos path n ((first ++ e ∷ []) ∷ cut [] es) s) path))
          (sym (course-append o first (e ∷ es) ∙ ap (λ (x : Option Repo). course x es) (stepped_gone (course o first) e.change d))) (gone d h)
      by false d h gone here = subst (λ (l : List Entry). Stands files path (map.get (filed_repos path n (cut (first ++ e ∷ []) es) s) path) (course o l)) (append_assoc first (e ∷ []) es) (here d h)

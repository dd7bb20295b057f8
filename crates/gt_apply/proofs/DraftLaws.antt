-- A draft, repository after repository.
use Rattle.std.proofs.Common.{◌≡◌, ℕ, suc, ◌+◌, ◌≤◌, ◌<◌, List, [], ◌∷◌, ◌++◌, length, get_or, drop, drop-cons, Bor, refl, sym, ap, ◌∙◌, arith, append_assoc, fold, flat_map, map as map_list, length-append}
use Rattle.std.proofs.lemmas.List.{append-nil}
use Rattle.gt_manifest.specs.declared.manifest.Manifest.{Manifest}
use Rattle.gt_manifest.specs.declared.manifest.RepoFiles.{RepoFiles}
use Rattle.gt_model.specs.Batches.{files_of, repos_at, files_at, paths_of, new_files}
use Rattle.gt_model.specs.declared.entry.Entry.{Entry}
use Rattle.gt_apply.specs.declared.filing.Draft.{Draft}
use Rattle.gt_apply.specs.declared.new_file.NewContent.{NewContent}
use Rattle.gt_apply.specs.declared.new_file.NewFile.{NewFile}
use Rattle.gt_apply.specs.Plan.{Shelves, shelves_of, repos_of, content_of, numbered, contents_at, filed_repos, filed_paths, file_for, planned, planned_files}
use Rattle.gt_apply.specs.Steps.{seen, drafted, drafted_at, drafted_all}

-- ---- numbers

pub numbered-append : (n : ℕ) (cs ds : List NewContent) → numbered n (cs ++ ds) ≡ numbered n cs ++ numbered (n + length cs) ds
numbered-append n [] ds = ap (λ (k : ℕ). numbered k ds) (let e : n ≡ n + 0 = omega arith in e)
numbered-append n (c ∷ cs) ds =
    ap (λ (fs : List NewFile). record { file = file_for n c; content = c } ∷ fs)
    (numbered-append (n + 1) cs ds ∙ ap (λ (k : ℕ). numbered (n + 1) cs ++ numbered k ds) (let e : (n + 1) + length cs ≡ n + length (c ∷ cs) = omega arith in e))

pub length-map : {A B : Type 0} (f : A → B) (xs : List A) → length (map_list f xs) ≡ length xs
length-map f [] = refl
length-map f (x ∷ xs) = let e : length (map_list f xs) ≡ length xs = length-map f xs in omega arith

abbrev pub contents : List Entry → List NewContent
contents own = map_list (content_of own) (files_of own)

pub length-contents : (repos : List (List Entry)) → length (flat_map contents repos) ≡ length (flat_map files_of repos)
length-contents [] = refl
length-contents (own ∷ later) =
    let here : length (contents own) ≡ length (files_of own) = length-map (content_of own) (files_of own) in
    let more : length (flat_map contents later) ≡ length (flat_map files_of later) = length-contents later in
    length-append (contents own) (flat_map contents later)
    ∙ (let e : length (contents own) + length (flat_map contents later) ≡ length (files_of own) + length (flat_map files_of later) = omega arith in e)
    ∙ sym (length-append (files_of own) (flat_map files_of later))

-- ---- the repositories of a path

module _ (path : List ℕ) where
  pub repos-shelves : (d : Draft) (repos : List (List Entry)) → (fold (drafted path) d repos).shelves ≡ filed_repos path d.next repos d.shelves
  repos-shelves d [] = refl
  repos-shelves d (own ∷ later) = repos-shelves (drafted path d own) later

  pub repos-next : (d : Draft) (repos : List (List Entry)) → (fold (drafted path) d repos).next ≡ d.next + length (flat_map files_of repos)
  repos-next d [] = let e : d.next ≡ d.next + 0 = omega arith in e
  repos-next d (own ∷ later) =
      let long : length (flat_map files_of (own ∷ later)) ≡ length (files_of own) + length (flat_map files_of later) = length-append (files_of own) (flat_map files_of later) in
      repos-next (drafted path d own) later ∙ (let e : (d.next + length (files_of own)) + length (flat_map files_of later) ≡ d.next + length (flat_map files_of (own ∷ later)) = omega arith in e)

  pub repos-files : (d : Draft) (repos : List (List Entry)) → (fold (drafted path) d repos).files ≡ d.files ++ numbered d.next (flat_map contents repos)
  repos-files d [] = sym (append-nil d.files)
  repos-files d (own ∷ later) =
      repos-files (drafted path d own) later
      ∙ append_assoc d.files (numbered d.next (contents own)) (numbered (d.next + length (files_of own)) (flat_map contents later))
      ∙ ap (λ (fs : List NewFile). d.files ++ fs)
      (ap (λ (k : ℕ). numbered d.next (contents own) ++ numbered (d.next + k) (flat_map contents later)) (sym (length-map (content_of own) (files_of own)))
      ∙ sym (numbered-append d.next (contents own) (flat_map contents later)))

-- ---- all paths

module _ (entries : List Entry) where
  pub at-next : (d : Draft) (path : List ℕ) → (drafted_at entries d path).next ≡ d.next + length (files_at path entries)
  at-next d path = repos-next path d (repos_at path entries)

  length-at : (path : List ℕ) → length (contents_at path entries) ≡ length (files_at path entries)
  length-at path = length-contents (repos_at path entries)

  pub all-next : (d : Draft) (paths : List (List ℕ)) → (drafted_all entries paths d).next ≡ d.next + length (flat_map (λ path. files_at path entries) paths)
  all-next d [] = let e : d.next ≡ d.next + 0 = omega arith in e
  all-next d (path ∷ paths) =
      let long : length (flat_map (λ path. files_at path entries) (path ∷ paths)) ≡ length (files_at path entries) + length (flat_map (λ path. files_at path entries) paths) = length-append (files_at path entries) (flat_map (λ path. files_at path entries) paths) in
      all-next (drafted_at entries d path) paths
      ∙ ap (λ (k : ℕ). k + length (flat_map (λ path. files_at path entries) paths)) (at-next d path)
      ∙ (let e : (d.next + length (files_at path entries)) + length (flat_map (λ path. files_at path entries) paths) ≡ d.next + length (flat_map (λ path. files_at path entries) (path ∷ paths)) = omega arith in e)

  pub all-shelves : (d : Draft) (paths : List (List ℕ)) → (drafted_all entries paths d).shelves ≡ filed_paths entries d.next paths d.shelves
  all-shelves d [] = refl
  all-shelves d (path ∷ paths) =
      all-shelves (drafted_at entries d path) paths
      ∙ ap (λ (k : ℕ). filed_paths entries k paths (drafted_at entries d path).shelves) (at-next d path)
      ∙ ap (λ s. filed_paths entries (d.next + length (files_at path entries)) paths s) (repos-shelves path d (repos_at path entries))

  pub all-files : (d : Draft) (paths : List (List ℕ)) → (drafted_all entries paths d).files ≡ d.files ++ numbered d.next (flat_map (λ path. contents_at path entries) paths)
  all-files d [] = sym (append-nil d.files)
  all-files d (path ∷ paths) =
      all-files (drafted_at entries d path) paths
      ∙ ap (λ (fs : List NewFile). fs ++ numbered (drafted_at entries d path).next (flat_map (λ path. contents_at path entries) paths)) (repos-files path d (repos_at path entries))
      ∙ append_assoc d.files (numbered d.next (contents_at path entries)) (numbered (drafted_at entries d path).next (flat_map (λ path. contents_at path entries) paths))
      ∙ ap (λ (fs : List NewFile). d.files ++ fs)
      (ap (λ (k : ℕ). numbered d.next (contents_at path entries) ++ numbered k (flat_map (λ path. contents_at path entries) paths))
      (at-next d path ∙ ap (λ (k : ℕ). d.next + k) (sym (length-at path)))
      ∙ sym (numbered-append d.next (contents_at path entries) (flat_map (λ path. contents_at path entries) paths)))

-- ---- room

-- numbers don't fall
repos-room : (path : List ℕ) (d : Draft) (own : List Entry) (later : List (List Entry)) → d.next + length (files_of own) ≤ (fold (drafted path) d (own ∷ later)).next
repos-room path d own later = let e : (fold (drafted path) (drafted path d own) later).next ≡ (d.next + length (files_of own)) + length (flat_map files_of later) = repos-next path (drafted path d own) later in omega arith

paths-room : (entries : List Entry) (d : Draft) (path : List ℕ) (paths : List (List ℕ)) → (drafted_at entries d path).next ≤ (drafted_all entries (path ∷ paths) d).next
paths-room entries d path paths = let e : (drafted_all entries paths (drafted_at entries d path)).next ≡ (drafted_at entries d path).next + length (flat_map (λ path. files_at path entries) paths) = all-next entries (drafted_at entries d path) paths in omega arith

pub next-item : {A : Type 0} (xs : List A) (i : ℕ) (x : A) → i < length xs → x ≡ get_or xs i x → drop i xs ≡ x ∷ drop (suc i) xs
next-item {A} xs i x h is = drop-cons xs i x h ∙ ap (λ (y : A). y ∷ drop (suc i) xs) (sym is)

pub repos-left : (path : List ℕ) (d whole : Draft) (repos : List (List (Bor Entry))) (i : ℕ) (own : List (Bor Entry)) (n : ℕ)
    → i < length repos → own ≡ get_or repos i own → fold (drafted path) d (map_list seen (drop i repos)) ≡ whole → whole.next < n → d.next + length (files_of (seen own)) < n
repos-left path d whole repos i own n h is left room =
    let e : fold (drafted path) d (map_list seen (own ∷ drop (suc i) repos)) ≡ whole = ap (λ (l : List (List (Bor Entry))). fold (drafted path) d (map_list seen l)) (sym (next-item repos i own h is)) ∙ left in
    let same : (fold (drafted path) d (seen own ∷ map_list seen (drop (suc i) repos))).next ≡ whole.next = ap (λ (x : Draft). x.next) e in
    let le : d.next + length (files_of (seen own)) ≤ (fold (drafted path) d (seen own ∷ map_list seen (drop (suc i) repos))).next = repos-room path d (seen own) (map_list seen (drop (suc i) repos)) in
    omega arith

pub paths-left : (entries : List Entry) (d whole : Draft) (paths : List (List ℕ)) (i : ℕ) (path : List ℕ) (n : ℕ)
    → i < length paths → path ≡ get_or paths i path → drafted_all entries (drop i paths) d ≡ whole → whole.next < n → (drafted_at entries d path).next < n
paths-left entries d whole paths i path n h is left room =
    let e : drafted_all entries (path ∷ drop (suc i) paths) d ≡ whole = ap (λ (l : List (List ℕ)). drafted_all entries l d) (sym (next-item paths i path h is)) ∙ left in
    let same : (drafted_all entries (path ∷ drop (suc i) paths) d).next ≡ whole.next = ap (λ (x : Draft). x.next) e in
    let le : (drafted_at entries d path).next ≤ (drafted_all entries (path ∷ drop (suc i) paths) d).next = paths-room entries d path (drop (suc i) paths) in
    omega arith

-- ---- the whole plan

module _ (entries : List Entry) (paths : List (List ℕ)) (all : paths ≡ paths_of entries) where
  whole-next : (d : Draft) → (drafted_all entries paths d).next ≡ d.next + new_files entries
  whole-next d = all-next entries d paths ∙ ap (λ (ps : List (List ℕ)). d.next + length (flat_map (λ path. files_at path entries) ps)) all

  pub whole-room : (d : Draft) (n : ℕ) → d.next + new_files entries < n → (drafted_all entries paths d).next < n
  whole-room d n h = let e : (drafted_all entries paths d).next ≡ d.next + new_files entries = whole-next d in omega arith

  module _ (begin d : Draft) (made : d ≡ drafted_all entries paths begin) where
    pub is_planned : (from : Manifest) (repos : List RepoFiles) → begin.shelves ≡ shelves_of from.repos → repos ≡ repos_of d.shelves
        → record { epoch = from.epoch + 1; applied = from.applied + length entries; next = d.next; repos = repos } ≡ planned from begin.next entries
    is_planned from repos first list =
        let number : d.next ≡ begin.next + new_files entries = ap (λ (x : Draft). x.next) made ∙ whole-next begin in
        let same : repos ≡ repos_of (filed_paths entries begin.next (paths_of entries) (shelves_of from.repos)) =
        list
        ∙ ap (λ (x : Draft). repos_of x.shelves) made
        ∙ ap (λ (s : Shelves). repos_of s) (all-shelves entries begin paths)
        ∙ ap (λ (ps : List (List ℕ)). repos_of (filed_paths entries begin.next ps begin.shelves)) all
        ∙ ap (λ (s : Shelves). repos_of (filed_paths entries begin.next (paths_of entries) s)) first in
        λ i. record { epoch = from.epoch + 1; applied = from.applied + length entries; next = number i; repos = same i }

    pub are_planned : begin.files ≡ [] → d.files ≡ planned_files begin.next entries
    are_planned none =
        ap (λ (x : Draft). x.files) made
        ∙ all-files entries begin paths
        ∙ ap (λ (fs : List NewFile). fs ++ numbered begin.next (flat_map (λ path. contents_at path entries) paths)) none
        ∙ ap (λ (ps : List (List ℕ)). numbered begin.next (flat_map (λ path. contents_at path entries) ps)) all

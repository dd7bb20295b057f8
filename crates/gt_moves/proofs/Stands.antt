-- Moved records stand in the packs of new files.
use Rattle.std.proofs.Common.{◌≡◌, inl, inr, ⊎_elim, ℕ, zero, suc, ◌+◌, ◌≤◌, Bool, true, false, cond, List, [], ◌∷◌, ◌++◌, length, flat_map, Option, Some, None, refl, sym, ap, ◌∙◌, subst, arith, slice_get, slice_range, map as map_list}
use Rattle.std.proofs.lemmas.List.Elements.{recursion_from_All}
use Rattle.std.specs.Prelude.{All}
use Rattle.std.specs.List.{AllByRecursion}
use Rattle.std.specs.Option.{unwrap_or}
use Rattle.std.specs.Ordering.{eq_by_cmp}
use Rattle.std.specs.FinMap as map
use Rattle.std.specs.FinMap.{find, get-entries}
use Rattle.gt_applied.specs.Applied.{to_packed, bytes_of, HasSpelling, HaveSpellings}
use Rattle.gt_applied.proofs.Typed.{records_packed}
use Rattle.gt_apply.specs.Plan.{added_by, records_of, to_added, content_of, contents_at, numbered, planned_files}
use Rattle.gt_apply.specs.declared.new_file.NewContent.{NewContent}
use Rattle.gt_apply.specs.declared.new_file.NewFile.{NewFile}
use Rattle.gt_apply.proofs.DraftLaws.{numbered-append, contents, length-map, length-contents}
use Rattle.gt_apply.proofs.Lists.{In, all_of, each}
use Rattle.gt_base.specs.Built.{IsBuilt}
use Rattle.gt_base.proofs.Finding.{same_test, one_path}
use Rattle.gt_checkpoint.specs.Advancing.{AreKept}
use Rattle.gt_disk.specs.Files.{States, still}
use Rattle.gt_disk.specs.Kinds.{pack_file}
use Rattle.gt_entry.specs.Fits.{IsEntry, HasChangeSpelling}
use Rattle.gt_model.specs.Batches as batch
use Rattle.gt_model.specs.Batches.{has_records, written, files_of, files_at, new_files, repos_at, paths_of}
use Rattle.gt_model.specs.Contents.{key_cmp, Content, IsLegal}
use Rattle.gt_model.proofs.Values.{itself}
use Rattle.gt_model.specs.Verdicts.{ascending, same_name}
use Rattle.gt_model.specs.declared.added.Added.{Added}
use Rattle.gt_model.specs.declared.change.Change.{Change}
use Rattle.gt_model.specs.declared.entry.Entry.{Entry}
use Rattle.gt_pack.specs.Index.{find_in}
use Rattle.gt_pack.specs.Spelling.{Packed, place, places, pack, IsPack}
use Rattle.gt_pack.specs.declared.placed.Placed.{Placed}
use Rattle.gt_pack.proofs.FindLaws.{found_at}
use Rattle.gt_pack.proofs.RiseLaws.{places_rise}
use Rattle.gt_pack.proofs.StandLaws as stand
use Rattle.gt_moves.specs.Moves.{packed_of, laid_out, found_in, place_of, planned_moves}
use Rattle.gt_moves.specs.Standing.{last_added, AddsOne, IsCarried, IsStillAt, StandsMoved}
use Rattle.gt_moves.specs.declared.moved.Move.{Move}
use Rattle.gt_moves.proofs.Members.{in_repo, in_moves_of, to_index, to_filter}
use Rattle.gt_moves.proofs.Numbers.{IsPart, part_paths, Rows, AllRows, in_all, some_records, pack_first, positioned}
use Rattle.gt_moves.proofs.Records.{Apart, has_last, last_of, repos_apart, adds_one}

-- ---- one pack

-- what is found in a list of records is one of the pack's
packed_at : (es : List (List ℕ × List ℕ)) (q w : List ℕ) → find key_cmp q es ≡ Some w → (i : ℕ) × (slice_get (map_list to_packed (map_list to_added es)) i ≡ Some (record { name = q; whole = w }))
packed_at [] q w is = absurd (cc is)
packed_at (e ∷ es) q w is = by (eq_by_cmp key_cmp q e.0) refl is (λ i. packed_at es q w i)
  where
    by : (b : Bool) → eq_by_cmp key_cmp q e.0 ≡ b → cond b (Some e.1) (find key_cmp q es) ≡ Some w → (find key_cmp q es ≡ Some w → (i : ℕ) × (slice_get (map_list to_packed (map_list to_added es)) i ≡ Some (record { name = q; whole = w })))
        → (i : ℕ) × (slice_get (map_list to_packed (map_list to_added (e ∷ es))) i ≡ Some (record { name = q; whole = w }))
    by true t is more =
        let name : e.0 ≡ q = sym (one_path q e.0 t) in
        let whole : e.1 ≡ w = cc is in
        (0, (λ j. Some (record { name = name j; whole = whole j })))
    by false t is more = let r = more is in (suc r.0, r.1)

long_at : (at : ℕ) (ps : List Packed) (i : ℕ) (p : Packed) (e : Placed) → slice_get ps i ≡ Some p → slice_get (places at ps) i ≡ Some e → e.len ≡ length p.whole
long_at at [] i p e is placed = absurd (cc is)
long_at at (x ∷ ps) zero p e is placed =
    let one : x ≡ p = cc is in
    let two : place at x ≡ e = cc placed in
    ap (λ (y : Placed). y.len) (sym two) ∙ ap (λ (y : Packed). length y.whole) one
long_at at (x ∷ ps) (suc i) p e is placed = long_at (at + 24 + length x.whole) ps i p e is placed

-- A record of a pack that lasts stands where its name is found.
held_in : (states : States) (k : ℕ) (own : List Entry) (q w : List ℕ) → IsPack (packed_of own) → map.get (records_of own) q ≡ Some w → states (pack_file k) ≡ still (Some (pack (packed_of own))) → IsStillAt states (place_of k (laid_out own) q) w
held_in states k own q w good is kept =
    let ps : List Packed = packed_of own in
    let p : Packed = record { name = q; whole = w } in
    let (i, there) = packed_at (map.entries (records_of own)) q w (sym (get-entries (records_of own) q) ∙ is) in
    let (e, placed, stands) = stand.records_are ps i p good there in
    let found : find_in (places 8 ps) q ≡ Some (e.place, e.len) = ap (λ (x : List ℕ). find_in (places 8 ps) x) (sym stands.name) ∙ found_at None (places 8 ps) i e (places_rise None 8 ps good.1) placed in
    let at : found_in (laid_out own) q ≡ (e.place, e.len) = ap (λ (o : Option (ℕ × ℕ)). unwrap_or o (0, 0)) found in
    record {
      bytes = pack ps;
      lasts = kept;
      stands = ap (λ (x : ℕ × ℕ). slice_range (pack ps) x.0 (x.0 + x.1)) at ∙ stands.whole;
      long = ap (λ (x : ℕ × ℕ). x.1) at ∙ long_at 8 ps i p e there placed;
    }

-- ---- new files

-- A new file is there as its content is spelled, and lasts.
abbrev IsKept : States → NewFile → Type 0
IsKept states n = (states n.file ≡ still (Some (bytes_of n.content))) × HasSpelling n.content

abbrev Kept : States → ℕ → List NewContent → Type 0
Kept states n cs = AllByRecursion (IsKept states) (numbered n cs)

both_kept : (states : States) (fs : List NewFile) → HaveSpellings fs → AreKept fs states → AllByRecursion (IsKept states) fs
both_kept states [] spelled kept = tt
both_kept states (f ∷ fs) spelled kept = ((kept.0, spelled.0), both_kept states fs spelled.1 kept.1)

all_parts : {A : Type 0} (P : A → Type 0) (xs ys : List A) → AllByRecursion P (xs ++ ys) → AllByRecursion P xs × AllByRecursion P ys
all_parts P [] ys h = (tt, h)
all_parts P (x ∷ xs) ys h = let r = all_parts P xs ys h.1 in ((h.0, r.0), r.1)

kept_parts : (states : States) (n k : ℕ) (cs ds : List NewContent) → length cs ≡ k → Kept states n (cs ++ ds) → Kept states n cs × Kept states (n + k) ds
kept_parts states n k cs ds long h =
    let r = all_parts (IsKept states) (numbered n cs) (numbered (n + length cs) ds) (subst (λ (fs : List NewFile). AllByRecursion (IsKept states) fs) (numbered-append n cs ds) h) in
    (r.0, subst (λ (j : ℕ). Kept states (n + j) ds) long r.1)

module _ (states : States) (entries : List Entry) where
  -- the entries of one repository, whose files have numbers from here on
  record IsHere (k : ℕ) (own : List Entry) : Type 0 where
    pub whole : (e : Entry) → In own e → In entries e
    pub apart : Apart own
    pub kept : Kept states k (contents own)

  here_rows : (n : ℕ) (repos : List (List Entry)) → ((own : List Entry) → In repos own → (e : Entry) → In own e → In entries e) → AllByRecursion Apart repos → Kept states n (flat_map contents repos) → Rows IsHere n repos
  here_rows n [] whole apart kept = tt
  here_rows n (own ∷ later) whole apart kept =
      let parts = kept_parts states n (length (files_of own)) (contents own) (flat_map contents later) (length-map (content_of own) (files_of own)) kept in
      (record { whole = whole own (inl refl); apart = apart.0; kept = parts.0 }, here_rows (n + length (files_of own)) later (λ o i. whole o (inr i)) apart.1 parts.1)

  here_paths : ((path : List ℕ) → AllByRecursion Apart (repos_at path entries)) → (n : ℕ) (paths : List (List ℕ)) → Kept states n (flat_map (λ path. contents_at path entries) paths) → AllRows IsHere entries n paths
  here_paths apart n [] kept = tt
  here_paths apart n (path ∷ paths) kept =
      let parts = kept_parts states n (length (files_at path entries)) (contents_at path entries) (flat_map (λ path. contents_at path entries) paths) (length-contents (repos_at path entries)) kept in
      (here_rows n (repos_at path entries) (λ own i e j. in_repo path entries own e i j) (apart path) parts.0, here_paths apart (n + length (files_at path entries)) paths parts.1)

-- what a change adds under a name that it adds once
only_whole : (change : Change) (a : Added) (q w : List ℕ) → a.name ≡ q → In (added_by change) a → AddsOne change q w → a.whole ≡ w
only_whole change a q w name i one =
    let test : same_name a.name q ≡ true = same_test a.name q ∙ ap (λ (x : List ℕ). eq_by_cmp key_cmp q x) name ∙ itself q in
    ⊎_elim (λ s. ap (λ (x : Added). x.whole) s) absurd (subst (λ (l : List Added). In l a) one (to_filter (λ b. same_name b.name q) (added_by change) a i test))

-- the last record that a change adds under the name of one of its records, where it adds each name once
carried_last : (change : Change) (a : Added) → In (added_by change) a → HasChangeSpelling change → last_added change a.name ≡ Some a.whole
carried_last change a i spelled = let (w, last) = has_last change a i in last ∙ ap (λ (x : List ℕ). Some x) (sym (only_whole change a a.name w refl i (adds_one change a.name w spelled last)))

-- ---- moves

module _ (begin next : ℕ) (c : Content) (entries : List Entry) (legal : IsLegal c (begin + 1) entries) where
  pub is_carried : (m : Move) → In (planned_moves next entries) m → IsCarried begin entries m
  is_carried m h =
      let (k, own, part, here) = in_all (IsPart next (next + new_files entries) entries) entries next (paths_of entries) m (part_paths next (next + new_files entries) entries next (paths_of entries) (omega arith) (omega arith)) h in
      let (e, a, in_own, adds, is) = in_moves_of k own m here in
      let (i, lt, there) = to_index entries e (part.whole e in_own) in
      let name : m.name ≡ a.name = ap (λ (x : Move). x.name) is in
      let whole : m.whole.value ≡ a.whole = ap (λ (x : Move). x.whole.value) is in
      record {
        number = i;
        entry = e;
        there = there;
        position = ap (λ (x : Move). x.position) is ∙ positioned c (begin + 1) entries i e legal there;
        carried = λ s. ap (last_added e.change) name ∙ carried_last e.change a adds s ∙ ap (λ (x : List ℕ). Some x) (sym whole);
      }

module _ (begin next : ℕ) (c : Content) (entries : List Entry) (states : States) (legal : IsLegal c (begin + 1) entries) (typed : All IsEntry entries) (built : All IsBuilt entries)
    (spelled : HaveSpellings (planned_files next entries)) (kept : AreKept (planned_files next entries) states) where
  rows : AllRows (IsHere states entries) entries next (paths_of entries)
  rows =
      here_paths states entries (λ path. repos_apart c (begin + 1) entries path (recursion_from_All IsBuilt entries built) legal) next (paths_of entries)
      (both_kept states (planned_files next entries) spelled kept)

  pub stands_moved : (m : Move) → In (planned_moves next entries) m → StandsMoved begin entries states m
  stands_moved m h =
      let (k, own, part, here) = in_all (IsHere states entries) entries next (paths_of entries) m rows h in
      let (e, a, in_own, adds, is) = in_moves_of k own m here in
      let (i, lt, there) = to_index entries e (part.whole e in_own) in
      let (w, last) = has_last e.change a adds in
      let files : files_of own ≡ batch.pack ∷ map_list batch.loose (ascending (flat_map (λ e. written e.change) own)) = pack_first own (some_records own e a in_own adds) in
      let first : Kept states k (map_list (content_of own) (batch.pack ∷ map_list batch.loose (ascending (flat_map (λ e. written e.change) own)))) = subst (λ (fs : List batch.NewFile). Kept states k (map_list (content_of own) fs)) files part.kept in
      let own_typed : AllByRecursion IsEntry own = all_of IsEntry own (λ x j. each IsEntry entries x (recursion_from_All IsEntry entries typed) (part.whole x j)) in
      let name : m.name ≡ a.name = ap (λ (x : Move). x.name) is in
      record {
        number = i;
        entry = e;
        whole = w;
        there = there;
        position = ap (λ (x : Move). x.position) is ∙ positioned c (begin + 1) entries i e legal there;
        path = ap (λ (x : Move). x.path) is;
        adds = ap (last_added e.change) name ∙ last;
        once = λ s. adds_one e.change m.name w s (ap (last_added e.change) name ∙ last);
        own = λ s. ap (λ (x : Move). x.whole.value) is ∙ only_whole e.change a m.name w (sym name) adds (adds_one e.change m.name w s (ap (last_added e.change) name ∙ last));
        held =
            subst (λ (x : Move). IsStillAt states x.place w) (sym is)
            (held_in states k own a.name w (records_packed own own_typed first.0.1) (last_of own e a part.apart in_own adds ∙ last) first.0.0);
      }

-- Of which entries of a log the moves of an application are.
use Rattle.std.proofs.Common.{◌≡◌, inl, inr, ⊎_elim, ℕ, ◌+◌, ◌-◌, ◌<◌, ◌≤◌, List, [], ◌∷◌, length, take, drop, Some, refl, sym, ap, ◌∙◌, arith, subst, slice_get}
use Rattle.gt_apply.specs.Plan.{added_by}
use Rattle.gt_apply.proofs.Lists.{In, in-append}
use Rattle.gt_disk.specs.Files.{States}
use Rattle.gt_model.specs.Batches.{files_of, files_at, repos_at, paths_of}
use Rattle.gt_model.specs.Contents.{Content, IsLegal}
use Rattle.gt_model.specs.declared.added.Added.{Added}
use Rattle.gt_model.specs.declared.entry.Entry.{Entry}
use Rattle.gt_moves.specs.Moves.{laid_out, moved, moves_of, moves_in, moves_at, moves_all, planned_moves}
use Rattle.gt_moves.specs.Standing.{last_added, IsStillAt, StandsMoved}
use Rattle.gt_moves.specs.declared.moved.Move.{Move}
use Rattle.gt_model.proofs.Values.{some_same}
use Rattle.gt_objset.specs.declared.place.Place.{Place}
use Rattle.gt_standing.specs.Standing.{IsMoveHeld}
use Rattle.gt_moves.proofs.Members.{in_repo, in_moves_of, to_index}
use Rattle.gt_moves.proofs.Numbers.{positioned}
use Rattle.gt_standing.proofs.Numbers.{number-take, number-drop}

-- The move is of a record that an entry of a log past the position adds, and goes to a pack.
pub record IsMove (to begin : ℕ) (log : List Entry) (m : Move) : Type 0 where
  pub number : ℕ
  pub entry : Entry
  pub added : Added
  pub there : slice_get log number ≡ Some entry
  pub adds : In (added_by entry.change) added
  pub position : m.position ≡ number + (begin + 1)
  pub past : to < number + (begin + 1)
  pub path : m.path ≡ entry.path
  pub name : m.name ≡ added.name
  pub kind : m.place.file.kind ≡ 5

-- ---- moves of a list of entries

abbrev Of : List Entry → Move → Type 0
Of entries m = (k : ℕ) × (own : List Entry) × (e : Entry) × (a : Added) × In entries e × In (added_by e.change) a × (m ≡ moved k (laid_out own) e a)

in_repos : (entries : List Entry) (n : ℕ) (repos : List (List Entry)) (m : Move) → ((own : List Entry) → In repos own → (e : Entry) → In own e → In entries e) → In (moves_in n repos) m → Of entries m
in_repos entries n [] m whole i = absurd i
in_repos entries n (own ∷ later) m whole i =
    ⊎_elim (λ h. let (e, a, in_own, adds, is) = in_moves_of n own m h in (n, own, e, a, whole own (inl refl) e in_own, adds, is))
    (λ h. in_repos entries (n + length (files_of own)) later m (λ o j. whole o (inr j)) h) (in-append (moves_of n own) (moves_in (n + length (files_of own)) later) m i)

in_paths : (entries : List Entry) (n : ℕ) (paths : List (List ℕ)) (m : Move) → In (moves_all entries n paths) m → Of entries m
in_paths entries n [] m i = absurd i
in_paths entries n (path ∷ paths) m i =
    ⊎_elim (λ h. in_repos entries n (repos_at path entries) m (λ own j e k. in_repo path entries own e j k) h) (λ h. in_paths entries (n + length (files_at path entries)) paths m h)
    (in-append (moves_at entries n path) (moves_all entries (n + length (files_at path entries)) paths) m i)

-- ---- entries that come next

module _ (begin to n : ℕ) (log entries : List Entry) (are : entries ≡ take n (drop (to - begin) log)) where
  pub number_in : (i : ℕ) (e : Entry) → slice_get entries i ≡ Some e → slice_get log ((to - begin) + i) ≡ Some e
  number_in i e is = number-drop (to - begin) log i ((to - begin) + i) e refl (number-take n (drop (to - begin) log) i e (subst (λ (es : List Entry). slice_get es i ≡ Some e) are is))

  -- What a file that is still holds at a move's place is said of the record that the move's entry added.
  pub stood : begin ≤ to → (Held : List ℕ → Place → Type 0) (states : States) → ((whole : List ℕ) (place : Place) → IsStillAt states place whole → Held whole place) → (m : Move) → StandsMoved to entries states m → IsMoveHeld Held begin log m
  stood low Held states still m s e whole there adds =
      let at : m.position ≡ s.number + (to + 1) = s.position in
      let same : (to - begin) + s.number ≡ m.position - (begin + 1) = omega arith in
      let both : Some s.entry ≡ Some e = sym (number_in s.number s.entry s.there) ∙ ap (slice_get log) same ∙ there in
      let entry : s.entry ≡ e = cc both in
      let last : s.whole ≡ whole = some_same s.whole whole (sym s.adds ∙ ap (λ (x : Entry). last_added x.change m.name) entry ∙ adds) in
      subst (λ (w : List ℕ). Held w m.place) last (still s.whole m.place s.held)

module _ (begin to n : ℕ) (base : Content) (log entries : List Entry) (legal : IsLegal base (begin + 1) log) (are : entries ≡ take n (drop (to - begin) log)) where
  pub planned : (next : ℕ) (m : Move) → In (planned_moves next entries) m → IsMove to begin log m
  planned next m h =
      let (k, own, e, a, in_entries, adds, is) = in_paths entries next (paths_of entries) m h in
      let (i, lt, at) = to_index entries e in_entries in
      let there : slice_get log ((to - begin) + i) ≡ Some e = number_in begin to n log entries are i e at in
      record {
        number = (to - begin) + i;
        entry = e;
        added = a;
        there = there;
        adds = adds;
        position = ap (λ (x : Move). x.position) is ∙ positioned base (begin + 1) log ((to - begin) + i) e legal there;
        past = omega arith;
        path = ap (λ (x : Move). x.path) is;
        name = ap (λ (x : Move). x.name) is;
        kind = ap (λ (x : Move). x.place.file.kind) is;
      }

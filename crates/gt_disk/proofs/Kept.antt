-- What a disk in memory keeps true of its parts.
use Rattle.std.proofs.Common.{◌≡◌, ℕ, Bool, true, false, cond, List, [], ◌∷◌, ◌++◌, length, Option, Vec, refl, sym, ◌∙◌, ap, subst, arith}
use Rattle.std.proofs.lemmas.List.{take_all}
use Rattle.std.specs.List.{list_any}
use Rattle.std.specs.declared.alloc.Global.{Global}
use Rattle.std.specs.Ordering.{is_eq}
use Rattle.std.specs.BTreeMap as tree
use Rattle.gt_disk.specs.declared.file_id.FileId.{FileId}
use Rattle.gt_disk.specs.declared.call.Call.{Call}
use Rattle.gt_disk.specs.declared.call.Call.TheVariants.{Sync}
use Rattle.gt_disk.specs.Files.{file_cmp, Content, FileState, still, grown, loose, Leaves, now, Synced}
use Rattle.gt_disk.specs.Calls.{same_file, Contents, content, content_of, Cell, file_of, changed, stepped, cell_at, view_of, is_still}
use Rattle.gt_disk.specs.Contents.{Puts}
use Rattle.gt_disk.specs.Shows.{shows_calls}
use Rattle.gt_disk.proofs.Replay.{same_file-true, is_eq-file_cmp, stepped_same, stepped_other, shown_is, state_is}

-- from what a map's `insert` and `remove` say
pub puts_update : (old new : Contents) (file : FileId) (w : Option (Vec ℕ Global)) → ((q : FileId) → tree.get file_cmp new q ≡ cond (is_eq (file_cmp file q)) w (tree.get file_cmp old q)) → Puts old new file (content w)
puts_update old new file w updates q =
    ap content (updates q ∙ ap (λ (b : Bool). cond b w (tree.get file_cmp old q)) (is_eq-file_cmp file q)) ∙ through (same_file file q)
  where
    through : (b : Bool) → content (cond b w (tree.get file_cmp old q)) ≡ cond b (content w) (content_of old q)
    through true = refl
    through false = refl

module _ (start : Contents) where
  abbrev pub Shows : List Call → Contents → Type 0
  Shows calls files = (f : FileId) → (cell_at start f calls).shown ≡ content_of files f

  abbrev pub Settled : List Call → List FileId → Type 0
  Settled calls pending = (f : FileId) → list_any (same_file f) pending ≡ false → is_still (cell_at start f calls).state ≡ true

  -- the files after one call more
  pub shows_call : (calls : List Call) (c : Call) (old new : Contents) (x : Content) → Puts old new (file_of c) x
      → (changed (cell_at start (file_of c) calls) c).shown ≡ x → Shows calls old → Shows (calls ++ c ∷ []) new
  shows_call calls c old new x puts is shows q = shown_is start calls c q ∙ by (same_file (file_of c) q) refl ∙ sym (puts q)
    where
      by : (b : Bool) → same_file (file_of c) q ≡ b → (stepped q (cell_at start q calls) c).shown ≡ cond (same_file (file_of c) q) x (content_of old q)
      by true same =
          let here : file_of c ≡ q = same_file-true (file_of c) q same in
          ap (λ (s : Cell). s.shown) (stepped_same q (cell_at start q calls) c here)
          ∙ ap (λ (g : FileId). (changed (cell_at start g calls) c).shown) (sym here)
          ∙ is
          ∙ sym (ap (λ (b : Bool). cond b x (content_of old q)) same)
      by false apart =
          ap (λ (s : Cell). s.shown) (stepped_other q (cell_at start q calls) c apart)
          ∙ shows q
          ∙ sym (ap (λ (b : Bool). cond b x (content_of old q)) apart)

  -- a call that shows nothing new
  pub shows_kept : (calls : List Call) (c : Call) (files : Contents) → ((cell : Cell) → (changed cell c).shown ≡ cell.shown) → Shows calls files → Shows (calls ++ c ∷ []) files
  shows_kept calls c files kept shows q = shown_is start calls c q ∙ by (same_file (file_of c) q) ∙ shows q
    where
      by : (b : Bool) → (cond b (changed (cell_at start q calls) c) (cell_at start q calls)).shown ≡ (cell_at start q calls).shown
      by true = kept (cell_at start q calls)
      by false = refl

  -- the file of the call is pending
  pub settled_call : (calls : List Call) (c : Call) (old new : List FileId)
      → ((q : FileId) → list_any (same_file q) new ≡ cond (same_file (file_of c) q) true (list_any (same_file q) old)) → Settled calls old → Settled (calls ++ c ∷ []) new
  settled_call calls c old new adds settled q none = by (same_file (file_of c) q) refl
    where
      by : (b : Bool) → same_file (file_of c) q ≡ b → is_still (cell_at start q (calls ++ c ∷ [])).state ≡ true
      by true same =
          let has : list_any (same_file q) new ≡ true = adds q ∙ ap (λ (b : Bool). cond b true (list_any (same_file q) old)) same in
          absurd (cc (has, none))
      by false apart =
          let before : list_any (same_file q) old ≡ false = sym (ap (λ (b : Bool). cond b true (list_any (same_file q) old)) apart) ∙ sym (adds q) ∙ none in
          ap is_still (state_is start calls c q ∙ ap (λ (s : Cell). s.state) (stepped_other q (cell_at start q calls) c apart)) ∙ settled q before

  -- the file of a sync is still, and not pending any more
  pub settled_sync : (calls : List Call) (file : FileId) (old new : List FileId)
      → ((q : FileId) → list_any (same_file q) new ≡ cond (same_file file q) false (list_any (same_file q) old)) → Settled calls old → Settled (calls ++ Sync file ∷ []) new
  settled_sync calls file old new takes settled q none = ap is_still (state_is start calls (Sync file) q) ∙ by (same_file file q) refl
    where
      by : (b : Bool) → same_file file q ≡ b → is_still (stepped q (cell_at start q calls) (Sync file)).state ≡ true
      by true same = ap (λ (s : Cell). is_still s.state) (stepped_same q (cell_at start q calls) (Sync file) (same_file-true file q same))
      by false apart =
          let before : list_any (same_file q) old ≡ false = sym (ap (λ (b : Bool). cond b false (list_any (same_file q) old)) apart) ∙ sym (takes q) ∙ none in
          ap (λ (s : Cell). is_still s.state) (stepped_other q (cell_at start q calls) (Sync file) apart) ∙ settled q before

  still_is : (s : FileState) (x : Content) → is_still s ≡ true → Leaves s x → s ≡ still x
  still_is (still y) x is leaves = ap still (sym leaves)
  still_is (grown y k) x is leaves = absurd (cc (is))
  still_is loose x is leaves = absurd (cc (is))

  -- a file that isn't pending is still already
  pub synced_already : (calls : List Call) (pending : List FileId) (file : FileId) → Settled calls pending → list_any (same_file file) pending ≡ false → Synced file (view_of start calls) (view_of start calls)
  synced_already calls pending file settled none = record {
    reads = refl;
    later = omega arith;
    past = λ m le. refl;
    during = λ m lt le. absurd (omega arith);
    this =
        still_is (now (view_of start calls) file) ((view_of start calls).reads file)
        (ap is_still (ap (λ (cs : List Call). (cell_at start file cs).state) (take_all (length calls) calls (omega arith))) ∙ settled file none)
        (shows_calls start calls file);
    others = λ g ne. refl;
  }

  pub shows_at : (calls now_calls : List Call) (files : Contents) → calls ≡ now_calls → Shows calls files → Shows now_calls files
  shows_at calls now_calls files is shows = subst (λ (cs : List Call). Shows cs files) is shows

  pub settled_at : (calls now_calls : List Call) (pending : List FileId) → calls ≡ now_calls → Settled calls pending → Settled now_calls pending
  settled_at calls now_calls pending is settled = subst (λ (cs : List Call). Settled cs pending) is settled

-- a file that is given the content that it had
pub puts_same : (old new : Contents) (file : FileId) (x : Content) → Puts old new file x → x ≡ content_of old file → (q : FileId) → content_of new q ≡ content_of old q
puts_same old new file x puts is q = puts q ∙ by (same_file file q) refl
  where
    by : (b : Bool) → same_file file q ≡ b → cond (same_file file q) x (content_of old q) ≡ content_of old q
    by true same = ap (λ (b : Bool). cond b x (content_of old q)) same ∙ is ∙ ap (content_of old) (same_file-true file q same)
    by false apart = ap (λ (b : Bool). cond b x (content_of old q)) apart

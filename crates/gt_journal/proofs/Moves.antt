-- The parts of a call, from what the log of a disk says of them.
use Rattle.std.proofs.Common.{◌≡◌, ◌≢◌, ◌⊎◌, inl, inr, ⊎_elim, ℕ, ◌+◌, ◌-◌, ◌<◌, ◌≤◌, not, ◌&&◌, nat_eq, true, false, List, [], ◌∷◌, ◌++◌, length, map, Option, Some, None, Ok, refl, sym, ◌∙◌, ap, subst, arith, length-append, append-nil}
use Rattle.std.proofs.lemmas.Bool.{cases_lt}
use Rattle.std.proofs.lemmas.List.{length-map, length-drop}
use Rattle.gt_disk.specs.declared.file_id.FileId.{FileId}
use Rattle.gt_disk.specs.Files.{Files, States, View, now, IsImage}
use Rattle.gt_disk.specs.Kinds.{gate_file, entry_file}
use Rattle.gt_disk.specs.Moments.{Since}
use Rattle.gt_disk.proofs.Steps.{since_none}
use Rattle.gt_log.specs.Log.{Recovers, Stands, Doubts, Adding, Staying, AfterSettle}
use Rattle.gt_model.specs.declared.entry.Entry.{Entry}
use Rattle.gt_model.specs.declared.limits.Limits.{Limits}
use Rattle.gt_model.specs.Machine.{Pin, State, with_doubt, SettledEntry}
use Rattle.gt_table.specs.Table.{Tables, base, floor}
use Rattle.gt_history.proofs.Moves.{since_weaken}
use Rattle.gt_base.specs.Spelling.{encode}
use Rattle.gt_journal.specs.Carried.{IsMemory}
use Rattle.gt_journal.specs.Ledger.{Ledger, state_of, changed, past_floor, front_of, IsKept, FilesHave, AreApplied, Stored, is_based, KeepsBase}
use Rattle.gt_journal.specs.Histories.{Gives, GivesThis, GivesEither, Moves, Settling}
use Rattle.gt_journal.proofs.Recovering.{kept_front, map_last, KeepsFiles}
use Rattle.gt_journal.proofs.Steady.{stands_steady, adding_steady}
use Rattle.gt_journal.proofs.Images.{rest_of, rest_more, HasBases, bases_of, bases_kept, bases_more, bases_steady, steady_by, stands_image, log_image, adding_image, doubted_gives}

-- ---- what a call leaves of the state

abbrev pub changed_to : Ledger → List Entry → Option Entry → List Pin → State
changed_to old log doubt pins = state_of (changed old log doubt) pins

-- a ledger that differs in its log and its doubt alone
pub ledger_is : (old new : Ledger) (log : List Entry) (doubt : Option Entry) → new.past ≡ record old.past { log = log } → new.floor ≡ old.floor → new.doubt ≡ doubt → new.base ≡ old.base → new.next ≡ old.next → new ≡ changed old log doubt
ledger_is old new log doubt past_is floor_is doubt_is base_is next_is = λ i. record { past = past_is i; floor = floor_is i; doubt = doubt_is i; base = base_is i; next = next_is i }

-- where as much is gone of a log that begins there
pub floor_kept : (t u : Tables) → t.past.begin ≡ u.past.begin → t.gone ≡ u.gone → floor t ≡ floor u
floor_kept t u begin gone = λ i. begin i + gone i

pub moves_as : (limits : Limits) (old new other : Ledger) (before after : List Pin) (v w : View) → new ≡ other → Moves limits (state_of old before) (state_of other after) v w → Moves limits (state_of old before) (state_of new after) v w
moves_as limits old new other before after v w same moves = subst (λ (l : Ledger). Moves limits (state_of old before) (state_of l after) v w) (sym same) moves

pub settling_as : (limits : Limits) (old new other : Ledger) (before after : List Pin) (v w : View) → new ≡ other → Settling limits (state_of old before) (state_of other after) v w → Settling limits (state_of old before) (state_of new after) v w
settling_as limits old new other before after v w same settling = subst (λ (l : Ledger). Settling limits (state_of old before) (state_of l after) v w) (sym same) settling

-- what was in doubt is in, or is dropped
pub settled_state : (old new : Ledger) (u : Entry) (pins : List Pin) → old.doubt ≡ Some u → (new ≡ changed old old.past.log None) ⊎ (new ≡ changed old (old.past.log ++ u ∷ []) None) → SettledEntry true (state_of old pins) (state_of new pins)
settled_state old new u pins is (inl out) = inl (ap (λ (l : Ledger). state_of l pins) out)
settled_state old new u pins is (inr in_) =
    let whole : with_doubt old.past.log old.doubt ≡ old.past.log ++ u ∷ [] = ap (with_doubt old.past.log) is in
    inr (ap (λ (l : Ledger). state_of l pins) in_ ∙ (λ i. record (state_of old pins) { log = sym whole i; doubt = None }))

pub settled_none : (old new : Ledger) (pins : List Pin) → old.doubt ≡ None → new ≡ old → SettledEntry true (state_of old pins) (state_of new pins)
settled_none old new pins none same = inl (ap (λ (l : Ledger). state_of l pins) same ∙ (λ i. record (state_of old pins) { doubt = none i }))

-- ---- the files

counted : (n : ℕ) (l : Ledger) → n ≡ front_of l → l.past.begin ≤ l.floor → l.floor ≤ front_of l → n + 1 ≡ length (map encode (past_floor l)) + (l.floor + 1)
counted n l is begins within = omega (arith, is, begins, within, length-map (past_floor l) encode, length-drop (l.floor - l.past.begin) l.past.log)

-- the ledger in memory, and the one that the contract names
pub count_of : (n : ℕ) (l old : Ledger) → l ≡ old → n ≡ front_of l → IsMemory l → n + 1 ≡ length (map encode (past_floor old)) + (old.floor + 1)
count_of n l old view is memory = subst (λ (x : Ledger). n + 1 ≡ length (map encode (past_floor x)) + (x.floor + 1)) view (counted n l is memory.begins (let to = memory.carried.now.to in omega (arith, memory.floor, to)))

-- only the gate and the entry's file differ
others_based : (n : ℕ) (before states : States) → ((g : FileId) → g ≢ gate_file → g ≢ entry_file n → states g ≡ before g) → (f : FileId) → is_based f ≡ true → states f ≡ before f
others_based n before states others f is = others f (λ e. by 1 (ap (λ (x : FileId). x.kind) e) is) (λ e. by_entry (ap (λ (x : FileId). x.kind) e) is)
  where
    by : (k : ℕ) → f.kind ≡ 1 → (not (nat_eq f.kind 1) && not (nat_eq f.kind 4)) ≡ true → ⊥
    by k kind is = absurd (cc (ap (λ (n : ℕ). not (nat_eq n 1) && not (nat_eq n 4)) (sym kind) ∙ is))

    by_entry : f.kind ≡ 4 → (not (nat_eq f.kind 1) && not (nat_eq f.kind 4)) ≡ true → ⊥
    by_entry kind is = absurd (cc (ap (λ (n : ℕ). not (nat_eq n 1) && not (nat_eq n 4)) (sym kind) ∙ is))

-- what holds of all files but the log's at each moment holds at the end
others_end : (n : ℕ) (v w : View) (P : States → Type 0) → Since P v w → ((states : States) → P states → (g : FileId) → g ≢ gate_file → g ≢ entry_file n → states g ≡ now v g) → (f : FileId) → is_based f ≡ true → now w f ≡ now v f
others_end n v w P since others f is = elim (cases_lt v.clock w.clock) [
  | inl lt ↦ others_based n (now v) (now w) (others (w.at w.clock) (since.each w.clock lt (omega arith))) f is
  | inr ge ↦
      let same : w.clock ≡ v.clock = omega (arith, ge, since.later) in
      ap (λ (s : States). s f) (ap (λ (k : ℕ). w.at k) same ∙ since.past v.clock (omega arith))
]

module _ (limits : Limits) (old : Ledger) (before after : List Pin) where
  abbrev first : ℕ
  first = old.floor + 1

  abbrev old_log : List Entry
  old_log = old.past.log

  -- what the files have of it
  abbrev rest : List Entry
  rest = past_floor old

  abbrev s : State
  s = state_of old before

  last_is : (u : Entry) → AreApplied s → map encode (rest_of s (old_log ++ u ∷ [])) ≡ map encode rest ++ encode u ∷ []
  last_is u order = ap (map encode) (rest_more s order (u ∷ [])) ∙ map_last rest u

  -- the entry of an update is added
  abbrev pub Added : Entry → View → View → Type 0
  Added u v w = Since (Adding first (map encode rest) (encode u) (now v)) v w

  abbrev MovesOf : State → View → View → Type 0
  MovesOf new v w = Moves limits s new v w

  abbrev SettlingOf : State → View → View → Type 0
  SettlingOf new v w = Settling limits s new v w

  abbrev File : ℕ
  File = length (map encode rest) + first

  -- what is stored, with what the files have of the base and of the log
  stored_of : (s : State) (states : States) → HasBases limits s states → FilesHave (s.floor + 1) (rest_of s s.log) s.doubt states → IsKept s.base (s.begin + 1) (with_doubt s.log s.doubt) → s.begin + length (with_doubt s.log s.doubt) ≤ limits.positions → Stored limits s states
  stored_of s states has files kept within = record { files = files; legal = kept; within = within; order = has.order; base = has.base; turn = has.turn }

  -- the same base with another doubt, and with another entry in the log
  bases_same : (doubt : Option Entry) (states : States) → HasBases limits s states → HasBases limits (changed_to old old_log doubt after) states
  bases_same doubt states has = record { order = record { begins = has.order.begins; from = has.order.from; to = has.order.to; turn = has.order.turn }; base = has.base; turn = has.turn }

  bases_in : (u : Entry) (states : States) → HasBases limits s states → HasBases limits (changed_to old (old_log ++ u ∷ []) None after) states
  bases_in u states has =
      let more = bases_more limits s (u ∷ []) states has in
      record { order = record { begins = more.order.begins; from = more.order.from; to = more.order.to; turn = more.order.turn }; base = more.base; turn = more.turn }

  -- the base at a moment at which only the log's files differ
  bases_at : (v : View) (states : States) → ((g : FileId) → g ≢ gate_file → g ≢ entry_file File → states g ≡ now v g) → HasBases limits s (now v) → HasBases limits s states
  bases_at v states others has = bases_kept limits s (now v) states (others_based File (now v) states others) has

  files_of : (doubt : Option Entry) (states : States) → old.doubt ≡ doubt → Stored limits s states → FilesHave first rest doubt states
  files_of doubt states is stored = subst (λ (d : Option Entry). FilesHave first rest d states) is stored.files

  legal_of : (doubt : Option Entry) (states : States) → old.doubt ≡ doubt → Stored limits s states → IsKept (base old.past) (old.past.begin + 1) (with_doubt old_log doubt)
  legal_of doubt states is stored = subst (λ (d : Option Entry). IsKept (base old.past) (old.past.begin + 1) (with_doubt old_log d)) is stored.legal

  within_of : (doubt : Option Entry) (states : States) → old.doubt ≡ doubt → Stored limits s states → old.past.begin + length (with_doubt old_log doubt) ≤ limits.positions
  within_of doubt states is stored = subst (λ (d : Option Entry). old.past.begin + length (with_doubt old_log d) ≤ limits.positions) is stored.within

  -- each image of a moment of an addition has the entry out, or in where the new state has it
  adding_either : (new : State) (u : Entry) (v : View) (states : States) → HasBases limits s (now v) → IsKept (base old.past) (old.past.begin + 1) (old_log ++ u ∷ []) → old.past.begin + length (old_log ++ u ∷ []) ≤ limits.positions → Adding first (map encode rest) (encode u) (now v) states
      → ((image : Files) → IsImage states image → Recovers first image (map encode (rest ++ u ∷ [])) → KeepsFiles first (rest ++ u ∷ []) states → Gives limits new states image) → GivesEither limits s new states
  adding_either new u v states has more within a in_gives =
      let here = bases_at v states a.others has in
      record {
        steady = steady_by limits states (adding_steady first (map encode rest) (encode u) (now v) states a) (bases_steady limits s states here);
        gives = λ image im. adding_image limits s states here image im u more within new (in_gives image im) (now v) a;
      }

  pub moves_done : (u : Entry) (v w : View) → old.doubt ≡ None → (IsKept (base old.past) (old.past.begin + 1) old_log → IsKept (base old.past) (old.past.begin + 1) (old_log ++ u ∷ [])) → old.past.begin + length old_log < limits.positions
      → (Stands first (map encode rest) (now v) → Added u v w) → (Stands first (map encode rest) (now v) → Stands first (map encode rest ++ encode u ∷ []) (now w)) → MovesOf (changed_to old (old_log ++ u ∷ []) None after) v w
  moves_done u v w none legal room added later = (
    (λ stored.
        let files = files_of None (now v) none stored in
        let more = legal (legal_of None (now v) none stored) in
        let within : old.past.begin + length (old_log ++ u ∷ []) ≤ limits.positions = omega (arith, room, length-append old_log (u ∷ [])) in
        let since = added files in
        let same = others_end File v w (Adding first (map encode rest) (encode u) (now v)) since (λ states a. a.others) in
        let new = changed_to old (old_log ++ u ∷ []) None after in
        let has = bases_of limits s (now v) stored in (
          stored_of new (now w) (bases_in u (now w) (bases_kept limits s (now v) (now w) same has)) (subst (λ (e : List (List ℕ)). Stands first e (now w)) (sym (last_is u stored.order)) (later files)) more within,
          since_weaken (Adding first (map encode rest) (encode u) (now v)) (GivesEither limits s new) v w since (λ states a.
              adding_either new u v states has more within a (λ image im r still.
              let is_rest = sym (rest_more s stored.order (u ∷ [])) in
              stands_image limits new states (bases_in u states (bases_at v states a.others has)) image im (old_log ++ u ∷ []) [] (sym (append-nil (old_log ++ u ∷ []))) (inl refl) (subst (λ (l : List Entry). Recovers first image (map encode l)) is_rest r) (subst (λ (l : List Entry). KeepsFiles first l states) is_rest still) more within)),
        )),
    λ stored. others_end File v w (Adding first (map encode rest) (encode u) (now v)) (added (files_of None (now v) none stored)) (λ states a. a.others),
  )

  pub moves_unsure : (u : Entry) (v w : View) → old.doubt ≡ None → (IsKept (base old.past) (old.past.begin + 1) old_log → IsKept (base old.past) (old.past.begin + 1) (old_log ++ u ∷ [])) → old.past.begin + length old_log < limits.positions
      → (Stands first (map encode rest) (now v) → Added u v w) → (Stands first (map encode rest) (now v) → Doubts first (map encode rest) (encode u) (now w)) → MovesOf (changed_to old old_log (Some u) after) v w
  moves_unsure u v w none legal room added later = (
    (λ stored.
        let files = files_of None (now v) none stored in
        let more = legal (legal_of None (now v) none stored) in
        let within : old.past.begin + length (old_log ++ u ∷ []) ≤ limits.positions = omega (arith, room, length-append old_log (u ∷ [])) in
        let since = added files in
        let same = others_end File v w (Adding first (map encode rest) (encode u) (now v)) since (λ states a. a.others) in
        let new = changed_to old old_log (Some u) after in
        let has = bases_of limits s (now v) stored in (
          stored_of new (now w) (bases_same (Some u) (now w) (bases_kept limits s (now v) (now w) same has)) (later files) more within,
          since_weaken (Adding first (map encode rest) (encode u) (now v)) (GivesEither limits s new) v w since (λ states a.
              adding_either new u v states has more within a (λ image im r still. doubted_gives limits new states (bases_same (Some u) states (bases_at v states a.others has)) image im u more within refl r still)),
        )),
    λ stored. others_end File v w (Adding first (map encode rest) (encode u) (now v)) (added (files_of None (now v) none stored)) (λ states a. a.others),
  )

  -- nothing was added
  pub moves_not : (v w : View) → old.doubt ≡ None → (Stands first (map encode rest) (now v) → Since (Staying first (map encode rest) (now v)) v w) → (Stands first (map encode rest) (now v) → Stands first (map encode rest) (now w)) → MovesOf (changed_to old old_log None after) v w
  moves_not v w none staying later = (
    (λ stored.
        let files = files_of None (now v) none stored in
        let legal = legal_of None (now v) none stored in
        let within = within_of None (now v) none stored in
        let since = staying files in
        let same = others_end File v w (Staying first (map encode rest) (now v)) since (λ states a. a.others) in
        let new = changed_to old old_log None after in
        let has = bases_of limits s (now v) stored in (
          stored_of new (now w) (bases_same None (now w) (bases_kept limits s (now v) (now w) same has)) (later files) legal within,
          since_weaken (Staying first (map encode rest) (now v)) (GivesEither limits s new) v w since (λ states a.
              let here = bases_at v states a.others has in
              record {
                steady = steady_by limits states (stands_steady first (map encode rest) states a.log) (bases_steady limits s states here);
                gives = λ image im. inl (log_image limits s states here image im a.log legal within);
              }),
        )),
    λ stored. others_end File v w (Staying first (map encode rest) (now v)) (staying (files_of None (now v) none stored)) (λ states a. a.others),
  )

  -- ---- settling

  during_doubt : (u : Entry) (v w : View) → old.doubt ≡ Some u → Stored limits s (now v) → Added u v w → Since (GivesThis limits s) v w
  during_doubt u v w is stored since =
      let legal = legal_of (Some u) (now v) is stored in
      let within = within_of (Some u) (now v) is stored in
      let has = bases_of limits s (now v) stored in
      since_weaken (Adding first (map encode rest) (encode u) (now v)) (GivesThis limits s) v w since (λ states a.
      let here = bases_at v states a.others has in
      let either = adding_either s u v states has legal within a (λ image im r still. doubted_gives limits s states here image im u legal within is r still) in
      record { steady = either.steady; gives = λ image im. ⊎_elim (λ out. out) (λ in_. in_) (either.gives image im) })

  -- no file but the log's changes while a doubt is settled
  keeps_settled : (u : Entry) (v w : View) → old.doubt ≡ Some u → (Doubts first (map encode rest) (encode u) (now v) → Added u v w) → Stored limits s (now v) → KeepsBase v w
  keeps_settled u v w is added stored = others_end File v w (Adding first (map encode rest) (encode u) (now v)) (added (files_of (Some u) (now v) is stored)) (λ states a. a.others)

  pub settled_in : (u : Entry) (len : ℕ) (v w : View) → old.doubt ≡ Some u → (Doubts first (map encode rest) (encode u) (now v) → Added u v w)
      → (Doubts first (map encode rest) (encode u) (now v) → AfterSettle (Ok true) first (map encode rest) (encode u) len (now w)) → SettlingOf (changed_to old (old_log ++ u ∷ []) None after) v w
  settled_in u len v w is added later = (
    (λ stored.
        let files = files_of (Some u) (now v) is stored in
        let same = keeps_settled u v w is added stored in (
          stored_of (changed_to old (old_log ++ u ∷ []) None after) (now w) (bases_in u (now w) (bases_kept limits s (now v) (now w) same (bases_of limits s (now v) stored))) (subst (λ (e : List (List ℕ)). Stands first e (now w)) (sym (last_is u stored.order)) (later files).1)
              (legal_of (Some u) (now v) is stored) (within_of (Some u) (now v) is stored),
          during_doubt u v w is stored (added files),
        )),
    keeps_settled u v w is added,
  )

  pub settled_out : (u : Entry) (len : ℕ) (v w : View) → old.doubt ≡ Some u → (Doubts first (map encode rest) (encode u) (now v) → Added u v w)
      → (Doubts first (map encode rest) (encode u) (now v) → AfterSettle (Ok false) first (map encode rest) (encode u) len (now w)) → SettlingOf (changed_to old old_log None after) v w
  settled_out u len v w is added later = (
    (λ stored.
        let files = files_of (Some u) (now v) is stored in
        let same = keeps_settled u v w is added stored in
        let within = within_of (Some u) (now v) is stored in (
          stored_of (changed_to old old_log None after) (now w) (bases_same None (now w) (bases_kept limits s (now v) (now w) same (bases_of limits s (now v) stored))) (later files).1
              (kept_front (base old.past) (old.past.begin + 1) old_log (u ∷ []) (legal_of (Some u) (now v) is stored)) (omega (arith, within, length-append old_log (u ∷ []))),
          during_doubt u v w is stored (added files),
        )),
    keeps_settled u v w is added,
  )

  pub still_in_doubt : (u : Entry) (v w : View) → old.doubt ≡ Some u → (Doubts first (map encode rest) (encode u) (now v) → Added u v w)
      → (Doubts first (map encode rest) (encode u) (now v) → Doubts first (map encode rest) (encode u) (now w)) → SettlingOf (changed_to old old_log (Some u) after) v w
  still_in_doubt u v w is added later = (
    (λ stored.
        let files = files_of (Some u) (now v) is stored in
        let same = keeps_settled u v w is added stored in (
          stored_of (changed_to old old_log (Some u) after) (now w) (bases_same (Some u) (now w) (bases_kept limits s (now v) (now w) same (bases_of limits s (now v) stored))) (later files) (legal_of (Some u) (now v) is stored) (within_of (Some u) (now v) is stored),
          during_doubt u v w is stored (added files),
        )),
    keeps_settled u v w is added,
  )

  -- where nothing is in doubt the disk isn't asked
  pub settling_none : (v : View) → SettlingOf (state_of old after) v v
  settling_none v = ((λ stored. (pins_stored stored, since_none (GivesThis limits s) v)), λ stored f is. refl)
    where
      pins_stored : Stored limits s (now v) → Stored limits (state_of old after) (now v)
      pins_stored stored = record { files = stored.files; legal = stored.legal; within = stored.within; order = record { begins = stored.order.begins; from = stored.order.from; to = stored.order.to; turn = stored.order.turn }; base = stored.base; turn = stored.turn }

-- What the images of a log's files give of the machine's state.
use Rattle.std.proofs.Common.{◌≡◌, ◌⊎◌, inl, inr, ⊎_elim, true, ℕ, ◌+◌, ◌-◌, ◌≤◌, List, [], ◌∷◌, ◌++◌, length, map, take, drop, Option, Some, None, Ok, refl, sym, ◌∙◌, ap, subst, arith, length-append, append-nil}
use Rattle.std.proofs.lemmas.List.{length-map, length-drop, take-append-le}
use Rattle.gt_disk.specs.declared.file_id.FileId.{FileId}
use Rattle.gt_disk.specs.Files.{Files, States, IsImage}
use Rattle.gt_disk.specs.Kinds.{gate_file, turn_file}
use Rattle.gt_log.specs.Log.{content_length, Recovers, KeepsEntries, Stands, Doubts, Adding}
use Rattle.gt_log.proofs.Images.{image_still, stands_recovers, doubts_recovers}
use Rattle.gt_model.specs.declared.entry.Entry.{Entry}
use Rattle.gt_model.specs.declared.limits.Limits.{Limits}
use Rattle.gt_model.specs.Contents.{Content, IsLegal, after_all}
use Rattle.gt_model.specs.Machine as machine
use Rattle.gt_model.specs.Machine.{State, Recovered, Applying, with_doubt, line, content_at, turned, turned_by, recovered_of, SettledEntry, SettledTurn, MayRecover}
use Rattle.gt_history.specs.Crash.{IsSteady, AreSteady}
use Rattle.gt_ahead.proofs.MovedOn.{skip}
use Rattle.gt_base.specs.Entries.{entries_in}
use Rattle.gt_base.specs.Spelling.{encode}
use Rattle.gt_base.specs.Held.{content_of}
use Rattle.gt_base.specs.Recovery.{recover, Keeps, counters}
use Rattle.gt_reading.specs.Counting.{IsCounting, IsTurning}
use Rattle.gt_reading.specs.Reading.{run}
use Rattle.gt_journal.specs.Ledger.{IsKept, FilesHave, HasBase, HasApplied, HasTurn, AreApplied, Stored, is_based}
use Rattle.gt_journal.specs.Histories.{Gives, GivesThis}
use Rattle.gt_journal.proofs.Recovering.{entries_read, log_back, log_still, kept_front, map_last, KeepsFiles, keeps, keeps_front}
use Rattle.gt_journal.proofs.Based.{base_kept, gives_log, with_log, parts_of, recovers_loaded}
use Rattle.gt_journal.proofs.Steady.{stands_steady, doubts_steady}
use Rattle.gt_journal.proofs.Floors.{drop_two, drop_more, content_on, kept_rest}

-- each entry of what recovers fits
pub recovered_legal : (limits : Limits) (files : Files) (r : Recovered) → recover limits files ≡ Ok r → IsLegal r.base (r.applied + 1) r.log
recovered_legal limits files r is =
    let l = recovers_loaded limits files r is in
    let x = l.0 in
    let p = parts_of limits files _ _ x l.1 in
    subst (λ (y : Recovered). IsLegal y.base (y.applied + 1) y.log) l.2 (log_back files (content_of x.base.repos) (x.base.manifest.applied + 1) _ x.log p.log).legal.0

-- ---- a log that goes on

-- the same state with a longer log
abbrev pub with_more : State → List Entry → State
with_more s more = record s { log = s.log ++ more }

content_more : (s : State) (more : List Entry) (position : ℕ) → position ≤ machine.front s → content_at (with_more s more) position ≡ content_at s position
content_more s more position le = ap (after_all s.base) (take-append-le (position - s.begin) s.log more (omega (arith, le)))

pub applied_more : (limits : Limits) (s : State) (more : List Entry) (states : States) → s.applied ≤ machine.front s → HasApplied limits s states → HasApplied limits (with_more s more) states
applied_more limits s more states le has = subst (λ (c : Content). HasBase limits s.epoch s.applied s.manifest_next c states) (sym (content_more s more s.applied le)) has

pub turn_more : (limits : Limits) (s : State) (more : List Entry) (turning : Option Applying) (states : States) → machine.IsTurningIn s.applied (machine.front s) s.next turning → HasTurn limits s.epoch (content_at s) turning states → HasTurn limits s.epoch (content_at (with_more s more)) turning states
turn_more limits s more None states order has = has
turn_more limits s more (Some a) states order has = (has.0, subst (λ (c : Content). HasBase limits (s.epoch + 1) a.position a.next c states) (sym (content_more s more a.position order.1)) has.1)

turning_more : (applied low high next : ℕ) (turning : Option Applying) → low ≤ high → machine.IsTurningIn applied low next turning → machine.IsTurningIn applied high next turning
turning_more applied low high next None le order = tt
turning_more applied low high next (Some a) le order = (order.0, omega (arith, order.1, le), order.2)

pub order_more : (s : State) (more : List Entry) → AreApplied s → AreApplied (with_more s more)
order_more s more order =
    let longer : machine.front s ≤ machine.front (with_more s more) = omega (arith, length-append s.log more) in
    record { begins = order.begins; from = order.from; to = omega (arith, order.to, longer); turn = turning_more s.applied (machine.front s) (machine.front (with_more s more)) s.next s.turning longer order.turn }

-- ---- images of a base and a log

-- An image recovers to this, by files that are still.
abbrev pub GivesLog : Limits → Recovered → States → Files → Type 0
GivesLog limits g states image = (recover limits image ≡ Ok g) × Keeps limits image states

-- the files of the rest of a log
keeps_rest : (first count : ℕ) (log : List Entry) (states : States) → count ≤ length log → KeepsFiles first log states → KeepsFiles (first + count) (drop count log) states
keeps_rest first count log states le still k lt =
    let here = still (k + count) (omega (arith, lt, le, length-drop count log)) in
    (here.0, ap (λ (n : ℕ). states (record { kind = 4; number = n })) (let e : k + (first + count) ≡ k + count + first = omega arith in e) ∙ here.1)

-- the entries of a log that the files of a state have
abbrev pub rest_of : State → List Entry → List Entry
rest_of s log = drop (s.floor - s.begin) log

gone_within : (s : State) → AreApplied s → s.floor - s.begin ≤ length s.log
gone_within s order = omega (arith, order.from, order.to)

pub rest_more : (s : State) → AreApplied s → (more : List Entry) → rest_of s (s.log ++ more) ≡ rest_of s s.log ++ more
rest_more s order more = drop_more (s.floor - s.begin) s.log more (gone_within s order)

module _
    (limits : Limits) (s : State) (order : AreApplied s) (states : States) (image : Files) (is : IsImage states image) (log : List Entry) (more : List Entry) (whole : log ≡ s.log ++ more) (r : Recovers (s.floor + 1) image (map encode (rest_of s log)))
    (still : KeepsFiles (s.floor + 1) (rest_of s log) states) (kept : IsKept s.base (s.begin + 1) log) (within : s.begin + length log ≤ limits.positions) where
  -- nothing is in doubt, and the log is this one
  abbrev there : State
  there = record s { log = log; doubt = None }

  long : length s.log ≤ length log
  long = omega (arith, ap (λ (l : List Entry). length l) whole, length-append s.log more)

  abbrev gone : ℕ
  gone = s.floor - s.begin

  abbrev rest : List Entry
  rest = rest_of s log

  -- the content at the floor
  abbrev at_floor : Content
  at_floor = after_all s.base (take gone log)

  gone_few : gone ≤ length log
  gone_few = omega (arith, gone_within s order, long)

  kept_past : IsKept at_floor (s.floor + 1) rest
  kept_past = subst (λ (first : ℕ). IsKept at_floor first rest) (let e : s.begin + 1 + gone ≡ s.floor + 1 = omega (arith, order.begins) in e) (kept_rest s.base (s.begin + 1) gone log gone_few kept)

  -- a base at a position of the log, and the rest past it
  base_image : (epoch applied next : ℕ) → s.floor ≤ applied → applied ≤ machine.front s → HasBase limits epoch applied next (content_at s applied) states → content_length (image turn_file) ≡ epoch
      → GivesLog limits (with_log epoch applied next (content_at there applied) (drop (applied - s.begin) log)) states image
  base_image epoch applied next from to has turn_is =
      let count : ℕ = applied - s.floor in
      let far : gone + count ≡ applied - s.begin = omega (arith, from, order.begins) in
      let rest_long : length rest ≡ length log - gone = length-drop gone log in
      let some : count ≤ length rest = omega (arith, rest_long, to, long, from, order.begins) in
      let left_long : length (drop (applied - s.begin) log) ≡ length log - (applied - s.begin) = length-drop (applied - s.begin) log in
      let same : content_at there applied ≡ content_at s applied = ap (λ (l : List Entry). after_all s.base (take (applied - s.begin) l)) whole ∙ content_more s more applied to in
      let here = subst (λ (c : Content). HasBase limits epoch applied next c states) (sym same) has in
      let read = skip image count at_floor (s.floor + 1) (length rest) rest (entries_read image at_floor (s.floor + 1) rest r kept_past) some in
      let content_is : after_all at_floor (take count rest) ≡ content_at there applied = content_on s.base gone count log ∙ ap (λ (n : ℕ). after_all s.base (take n log)) far in
      let left_is : drop count rest ≡ drop (applied - s.begin) log = drop_two gone count log ∙ ap (λ (n : ℕ). drop n log) far in
      let first : s.floor + 1 + count ≡ applied + 1 = omega (arith, from) in
      let left : length rest - count ≡ length (drop (applied - s.begin) log) = omega (arith, rest_long, left_long, far) in
      let there_read : run image (entries_in (content_at there applied) (applied + 1) (length (drop (applied - s.begin) log))) ≡ Ok (drop (applied - s.begin) log) = sym (λ i. run image (entries_in (content_is i) (first i) (left i))) ∙ read ∙ ap Ok left_is in
      let files : KeepsFiles (applied + 1) (drop (applied - s.begin) log) states =
      subst (λ (l : List Entry). KeepsFiles (applied + 1) l states) left_is (subst (λ (n : ℕ). KeepsFiles n (drop count rest) states) first (keeps_rest (s.floor + 1) count rest states some still)) in
      gives_log limits epoch applied next (content_at there applied) (drop (applied - s.begin) log) states image here is turn_is (omega (arith, r.count, length-map rest encode, rest_long, left_long, from, to, long, order.begins)) (omega (arith, within, left_long, from, to, long, order.begins)) there_read
      (log_still image states (content_at there applied) (applied + 1) (length (drop (applied - s.begin) log)) (drop (applied - s.begin) log) there_read files)

  -- what the image gives where the state's doubt is settled so
  log_gives : SettledEntry true s there → (turning : Option Applying) → s.turning ≡ turning → HasApplied limits s states → HasTurn limits s.epoch (content_at s) turning states → machine.IsTurningIn s.applied (machine.front s) s.next turning → Gives limits s states image
  log_gives settled None none applied turn in_order =
      let turn_is : image turn_file ≡ turn.turn = image_still states image turn_file turn.turn is turn.turn_still in
      let g = base_image s.epoch s.applied s.manifest_next order.from order.to applied (ap content_length turn_is ∙ turn.length) in
      (recovered_of (record there { turning = None }), g.0, (there, record there { turning = None }, settled, inl refl, refl), g.1)
  log_gives settled (Some a) some applied (turn, later) in_order =
      ⊎_elim
      (λ before.
      let g = base_image s.epoch s.applied s.manifest_next order.from order.to applied before in
      (recovered_of (record there { turning = None }), g.0, (there, record there { turning = None }, settled, inl refl, refl), g.1))
      (λ after.
      let g = base_image (s.epoch + 1) a.position a.next (omega (arith, order.from, in_order.0)) in_order.1 later after in
      (recovered_of (turned there a), g.0, (there, turned there a, settled, inr (ap (turned_by there) (sym some)), refl), g.1))
      (turn.lengths (image turn_file) (is turn_file))

-- ---- states that are stored

-- turn is still, or grown by one byte at most
pub turn_steady : (limits : Limits) (epoch : ℕ) (contents : ℕ → Content) (turning : Option Applying) (states : States) → HasTurn limits epoch contents turning states → IsSteady (states turn_file)
turn_steady limits epoch contents None states turn = subst IsSteady (sym turn.turn_still) tt
turn_steady limits epoch contents (Some a) states (turn, later) = by turn.counting
  where
    by : IsCounting (states turn_file) → IsSteady (states turn_file)
    by (x, inl is) = subst IsSteady (sym is) tt
    by (x, inr is) = subst IsSteady (sym is) (let one : 1 ≤ 1 = omega arith in one)

pub steady_by : (limits : Limits) (states : States) → IsSteady (states gate_file) → IsSteady (states turn_file) → AreSteady (recover limits) (Keeps limits) counters states
steady_by limits states gate turn = (gate, (turn, tt))

-- the base of a state, with its turn
pub record HasBases (limits : Limits) (s : State) (states : States) : Type 0 where
  pub order : AreApplied s
  pub base : HasApplied limits s states
  pub turn : HasTurn limits s.epoch (content_at s) s.turning states

pub bases_of : (limits : Limits) (s : State) (states : States) → Stored limits s states → HasBases limits s states
bases_of limits s states stored = record { order = stored.order; base = stored.base; turn = stored.turn }

pub bases_steady : (limits : Limits) (s : State) (states : States) → HasBases limits s states → IsSteady (states turn_file)
bases_steady limits s states has = turn_steady limits s.epoch (content_at s) s.turning states has.turn

-- what leaves all files but the log's leaves it
pub bases_kept : (limits : Limits) (s : State) (before states : States) → ((f : FileId) → is_based f ≡ true → states f ≡ before f) → HasBases limits s before → HasBases limits s states
bases_kept limits s before states same has = record { order = has.order; base = base_kept limits s.epoch s.applied s.manifest_next (content_at s s.applied) before states same has.base; turn = turn_kept s.turning has.turn }
  where
    turn_kept : (turning : Option Applying) → HasTurn limits s.epoch (content_at s) turning before → HasTurn limits s.epoch (content_at s) turning states
    turn_kept None turn = record { turn = turn.turn; turn_still = same turn_file refl ∙ turn.turn_still; length = turn.length }
    turn_kept (Some a) (turn, later) = (subst (IsTurning s.epoch) (sym (same turn_file refl)) turn, base_kept limits (s.epoch + 1) a.position a.next (content_at s a.position) before states same later)

-- a longer log leaves it
pub bases_more : (limits : Limits) (s : State) (more : List Entry) (states : States) → HasBases limits s states → HasBases limits (with_more s more) states
bases_more limits s more states has = record { order = order_more s more has.order; base = applied_more limits s more states has.order.to has.base; turn = turn_more limits s more s.turning states has.order.turn has.turn }

module _ (limits : Limits) (s : State) (states : States) (has : HasBases limits s states) (image : Files) (is : IsImage states image) where
  -- the image has this log, with which the state's doubt is settled
  pub stands_image : (log more : List Entry) → log ≡ s.log ++ more → SettledEntry true s (record s { log = log; doubt = None }) → Recovers (s.floor + 1) image (map encode (rest_of s log)) → KeepsFiles (s.floor + 1) (rest_of s log) states → IsKept s.base (s.begin + 1) log → s.begin + length log ≤ limits.positions → Gives limits s states image
  stands_image log more whole settled r still kept within = log_gives limits s has.order states image is log more whole r still kept within settled s.turning refl has.base has.turn has.order.turn

  abbrev had : List Entry
  had = rest_of s s.log

  pub log_image : Stands (s.floor + 1) (map encode had) states → IsKept s.base (s.begin + 1) s.log → s.begin + length s.log ≤ limits.positions → Gives limits s states image
  log_image stands kept within =
      stands_image s.log [] (sym (append-nil s.log)) (inl refl) (stands_recovers (s.floor + 1) (map encode had) states stands image is) (keeps (s.floor + 1) had states stands.each) kept within

  -- the same of a log with more behind it
  pub more_image : (more : List Entry) → SettledEntry true s (record s { log = s.log ++ more; doubt = None }) → Recovers (s.floor + 1) image (map encode (had ++ more)) → KeepsFiles (s.floor + 1) (had ++ more) states → IsKept s.base (s.begin + 1) (s.log ++ more) → s.begin + length (s.log ++ more) ≤ limits.positions → Gives limits s states image
  more_image more settled r still kept within =
      let is_rest = sym (rest_more s has.order more) in
      stands_image (s.log ++ more) more refl settled (subst (λ (l : List Entry). Recovers (s.floor + 1) image (map encode l)) is_rest r) (subst (λ (l : List Entry). KeepsFiles (s.floor + 1) l states) is_rest still) kept within

  module _ (u : Entry) (kept : IsKept s.base (s.begin + 1) (s.log ++ u ∷ [])) (within : s.begin + length (s.log ++ u ∷ []) ≤ limits.positions) where
    -- the entry is out, or it is in
    abbrev pub OutOrIn : State → Type 0
    OutOrIn new = Gives limits s states image ⊎ Gives limits new states image

    shorter : s.begin + length s.log ≤ limits.positions
    shorter = omega (arith, within, length-append s.log (u ∷ []))

    -- where the old state and the new one may both have it, as in doubt or in
    pub doubts_image : (new : State) → (Recovers (s.floor + 1) image (map encode (rest_of s s.log ++ u ∷ [])) → KeepsFiles (s.floor + 1) (rest_of s s.log ++ u ∷ []) states → Gives limits new states image)
        → Doubts (s.floor + 1) (map encode (rest_of s s.log)) (encode u) states → OutOrIn new
    doubts_image new in_gives doubts =
        let still : KeepsFiles (s.floor + 1) (rest_of s s.log ++ u ∷ []) states = keeps (s.floor + 1) (had ++ u ∷ []) states (subst (λ (e : List (List ℕ)). KeepsEntries (s.floor + 1) e states) (sym (map_last had u)) doubts.each) in
        ⊎_elim
        (λ out. inl (stands_image s.log [] (sym (append-nil s.log)) (inl refl) out (keeps_front (s.floor + 1) had u states still) (kept_front s.base (s.begin + 1) s.log (u ∷ []) kept) shorter))
        (λ in_. inr (in_gives (subst (λ (e : List (List ℕ)). Recovers (s.floor + 1) image e) (sym (map_last had u)) in_) still))
        (doubts_recovers (s.floor + 1) (map encode had) (encode u) states doubts image is)

    pub adding_image : (new : State) → (Recovers (s.floor + 1) image (map encode (rest_of s s.log ++ u ∷ [])) → KeepsFiles (s.floor + 1) (rest_of s s.log ++ u ∷ []) states → Gives limits new states image)
        → (before : States) → Adding (s.floor + 1) (map encode (rest_of s s.log)) (encode u) before states → OutOrIn new
    adding_image new in_gives before adding = ⊎_elim (λ stands. inl (log_image stands (kept_front s.base (s.begin + 1) s.log (u ∷ []) kept) shorter)) (λ doubts. doubts_image new in_gives doubts) adding.log

-- where the entry is in doubt, the state may have it in
pub doubted_gives : (limits : Limits) (s : State) (states : States) → HasBases limits s states → (image : Files) → IsImage states image → (u : Entry) → IsKept s.base (s.begin + 1) (s.log ++ u ∷ []) → s.begin + length (s.log ++ u ∷ []) ≤ limits.positions → s.doubt ≡ Some u
    → Recovers (s.floor + 1) image (map encode (rest_of s s.log ++ u ∷ [])) → KeepsFiles (s.floor + 1) (rest_of s s.log ++ u ∷ []) states → Gives limits s states image
doubted_gives limits s states has image is u kept within doubted r still =
    more_image limits s states has image is (u ∷ []) (inr (ap (λ (d : Option Entry). record s { log = with_doubt s.log d; doubt = None }) (sym doubted))) r still kept within

gives_by : (limits : Limits) (s : State) (doubt : Option Entry) (states : States) → s.doubt ≡ doubt → HasBases limits s states → FilesHave (s.floor + 1) (rest_of s s.log) doubt states → IsKept s.base (s.begin + 1) (with_doubt s.log doubt) → s.begin + length (with_doubt s.log doubt) ≤ limits.positions → GivesThis limits s states
gives_by limits s None states clear has files kept within = record {
  steady = steady_by limits states (stands_steady (s.floor + 1) (map encode (rest_of s s.log)) states files) (bases_steady limits s states has);
  gives = λ image is. log_image limits s states has image is files kept within;
}
gives_by limits s (Some u) states doubted has files kept within = record {
  steady = steady_by limits states (doubts_steady (s.floor + 1) (map encode (rest_of s s.log)) (encode u) states files) (bases_steady limits s states has);
  gives = λ image is.
      ⊎_elim (λ out. out) (λ in_. in_)
      (doubts_image limits s states has image is u kept within s (doubted_gives limits s states has image is u kept within doubted) files);
}

pub stored_gives : (limits : Limits) (s : State) (states : States) → Stored limits s states → GivesThis limits s states
stored_gives limits s states stored = gives_by limits s s.doubt states refl (bases_of limits s states stored) stored.files stored.legal stored.within

-- An application of entries: what each moment of it leaves, and the machine's state after it.
use Rattle.std.proofs.Common.{◌≡◌, ◌⊎◌, inl, inr, ℕ, ◌+◌, ◌-◌, ◌<◌, ◌≤◌, nat_le, ◌||◌, Bool, true, false, cond, List, [], ◌∷◌, length, take, drop, Option, Some, None, Result, Ok, Err, refl, sym, ◌∙◌, ap, subst, arith, All}
use Rattle.std.specs.Prelude.{◌^◌}
use Rattle.std.specs.List.{AllByRecursion}
use Rattle.std.specs.Option.{option_map}
use Rattle.gt_disk.specs.declared.file_id.FileId.{FileId}
use Rattle.gt_disk.specs.Files.{Files, States, View, now, IsImage, still}
use Rattle.gt_disk.specs.Kinds.{manifest_file, pack_file}
use Rattle.gt_disk.specs.Moments.{Since}
use Rattle.gt_apply.specs.Fitting.{Lists, HasGoodPools, IsNext}
use Rattle.gt_apply.specs.Plan.{planned, planned_files}
use Rattle.gt_applied.specs.Applied.{HaveSpellings}
use Rattle.gt_base.specs.Built.{IsBuilt}
use Rattle.gt_base.specs.Held.{HoldsPack, HoldsPacks}
use Rattle.gt_base.specs.Loading.{BaseState, next_in}
use Rattle.gt_base.specs.Packs.{PackFile}
use Rattle.gt_base.specs.Recovery.{recover, Keeps, counters}
use Rattle.gt_base.specs.Switching.{Counts}
use Rattle.gt_base.specs.declared.held.BaseRepo.{BaseRepo}
use Rattle.gt_base.specs.declared.switch_error.SwitchError.{SwitchError}
use Rattle.gt_base.specs.declared.switch_error.SwitchError.TheVariants.{Unsure}
use Rattle.gt_checkpoint.specs.Advancing.{AreKept, StandApart, Advances, Advanced, Staying, AdvanceMoment, AfterAdvance}
use Rattle.gt_entry.specs.Fits.{IsEntry, HasSpelling}
use Rattle.gt_history.proofs.Moves.{since_weaken, still_old}
use Rattle.gt_manifest.specs.declared.manifest.Manifest.{Manifest}
use Rattle.gt_manifest.specs.declared.version.Version.TheVariants.{Second}
use Rattle.gt_manifest.specs.Spelling.{manifest}
use Rattle.gt_manifest.specs.Whole.{Fits}
use Rattle.gt_model.specs.declared.done.Done.TheVariants.{Applied}
use Rattle.gt_model.specs.declared.entry.Entry.{Entry}
use Rattle.gt_model.specs.declared.event.Event.TheVariants.{Apply}
use Rattle.gt_model.specs.declared.limits.Limits.{Limits}
use Rattle.gt_model.specs.declared.refusal.Refusal.TheVariants as refusal
use Rattle.gt_model.specs.Batches.{new_files}
use Rattle.gt_model.specs.Contents.{Content, after_all, IsLegal}
use Rattle.gt_model.specs.Machine as machine
use Rattle.gt_model.specs.Machine.{Pin, State, Recovered, Applying, content_at, recovered_of, with_doubt, line, turned, turned_by, numbered, has_no_number, applied_by, applies, answers, refuses, effect, Ends, Fails, SettledEntry, SettledTurn, MayRecover}
use Rattle.gt_table.specs.Table.{Tables, base, front, floor, content_at as content_past}
use Rattle.gt_journal.specs.Applying.{next_entries}
use Rattle.gt_journal.specs.Carried.{IsLogged, IsCarried, IsCarriedNext, IsMemory}
use Rattle.gt_journal.specs.Histories.{Gives, GivesEither, Goes}
use Rattle.gt_journal.specs.Ledger.{Ledger, state_of, past_floor, applying, HasBase, HasTurn, HasManifest, HasNext, FilesHave, Stored, Remembers}
use Rattle.gt_journal.proofs.Floors.{drop_two}
use Rattle.gt_journal.proofs.Framed.{log_beside, base_beside, new_base, manifest_beside, manifest_lasts}
use Rattle.gt_journal.proofs.Images.{stored_gives}
use Rattle.gt_journal.proofs.Opened.{below_later}
use Rattle.gt_journal.proofs.Part.{all_part, all_take, legal_part, legal_take, part_within, content_part, take_short, jobs_fit}

-- ---- the entries that are applied

-- they are in memory, since they stand past the floor
pub part_past : (t : Tables) (applied n : ℕ) → floor t ≤ applied → take n (drop (applied - floor t) (drop t.gone t.past.log)) ≡ take n (drop (applied - t.past.begin) t.past.log)
part_past t applied n low = ap (take n) (drop_two t.gone (applied - floor t) t.past.log ∙ ap (λ (k : ℕ). drop k t.past.log) (let e : t.gone + (applied - floor t) ≡ applied - t.past.begin = omega (arith, low) in e))

module _ (l : Ledger) (n : ℕ) (memory : IsMemory l) where
  abbrev m : Manifest
  m = l.base.manifest

  abbrev entries : List Entry
  entries = next_entries l n

  abbrev count : ℕ
  count = m.applied - l.past.begin

  abbrev there : Content
  there = content_past l.past m.applied

  abbrev pub to : Manifest
  to = planned m l.next entries

  carried : IsCarried l.past l.next m
  carried = memory.carried.now

  logged : IsLogged l.past
  logged = memory.logged

  within : count ≤ length l.past.log
  within = omega (arith, carried.to)

  first_is : l.past.begin + 1 + count ≡ m.applied + 1
  first_is = omega (arith, carried.from)

  pub part_legal : IsLegal there (m.applied + 1) entries
  part_legal = subst (λ (p : ℕ). IsLegal there p entries) first_is (legal_part (base l.past) (l.past.begin + 1) count n l.past.log within logged.legal)

  pub part_typed : All IsEntry entries
  part_typed = all_part IsEntry count n l.past.log logged.typed

  pub part_built : All IsBuilt entries
  part_built = all_part IsBuilt count n l.past.log logged.built

  pub part_spelled : All HasSpelling entries
  part_spelled = all_part HasSpelling count n l.past.log logged.spelled

  pub part_short : length entries ≤ n
  part_short = take_short n (drop count l.past.log)

  pub part_there : m.applied + length entries ≤ front l.past
  part_there = let w = part_within count n l.past.log within in omega (arith, w, carried.from)

  -- the content behind them
  pub behind : after_all there entries ≡ content_past l.past (m.applied + length entries)
  behind =
      content_part (base l.past) count n l.past.log
      ∙ ap (λ (k : ℕ). after_all (base l.past) (take k l.past.log)) (let e : count + length entries ≡ m.applied + length entries - l.past.begin = omega (arith, carried.from) in e)

  pools_behind : ((c : Content) (position : ℕ) (es : List Entry) → All IsBuilt es → IsLegal c position es → HasGoodPools c → HasGoodPools (after_all c es)) → HasGoodPools (after_all there entries)
  pools_behind keep =
      let k = count + length entries in
      subst HasGoodPools (sym (content_part (base l.past) count n l.past.log))
      (keep (base l.past) (l.past.begin + 1) (take k l.past.log) (all_take IsBuilt k l.past.log logged.built) (legal_take (base l.past) (l.past.begin + 1) k l.past.log logged.legal) logged.pools)

  -- they may be applied
  pub may_advance : ((c : Content) (position : ℕ) (es : List Entry) → All IsBuilt es → IsLegal c position es → HasGoodPools c → HasGoodPools (after_all c es)) → m.epoch < 2 ^ 64 - 1 → front l.past < 2 ^ 64 → l.next + new_files entries < 2 ^ 64 → IsNext m l.next entries there
  may_advance keep epoch few files = record {
    fits = carried.fits;
    lists = carried.lists;
    typed = part_typed;
    legal = part_legal;
    pools = pools_behind keep;
    jobs = jobs_fit m l.next entries part_built carried.fits.1;
    free = carried.numbers;
    epoch = epoch;
    applied = let w = part_there in omega (arith, w, few);
    files = files;
  }

  -- what memory holds of the manifest after them
  pub to_carried : Fits Second to → Lists to (after_all there entries) → IsCarried l.past (l.next + new_files entries) to
  to_carried fits lists = record {
    fits = fits;
    from = omega (arith, carried.from);
    to = part_there;
    lists = subst (Lists to) behind lists;
    numbers = omega arith;
  }

-- ---- what memory has after it

-- the ledger after an application with this answer
abbrev pub advanced : Ledger → BaseState → ℕ → Ledger
advanced l b next = record l { base = b; next = next }

pub memory_switched : (l : Ledger) (n : ℕ) → (memory : IsMemory l) → l.doubt ≡ None → Fits Second (planned l.base.manifest l.next (next_entries l n)) → Lists (planned l.base.manifest l.next (next_entries l n)) (after_all (content_past l.past l.base.manifest.applied) (next_entries l n))
    → IsMemory (advanced l (record { manifest = planned l.base.manifest l.next (next_entries l n); doubt = None }) (l.next + new_files (next_entries l n)))
memory_switched l n memory clear fits lists = record {
  logged = memory.logged;
  carried = record { now = to_carried l n memory fits lists; later = λ x is. absurd (cc (is)) };
  begins = memory.begins;
  floor = omega (arith, memory.floor);
  doubt = λ e is. absurd (cc (sym clear ∙ is));
}

pub memory_turning : (l : Ledger) (n : ℕ) → (memory : IsMemory l) → l.doubt ≡ None → 1 ≤ length (next_entries l n) → Fits Second (planned l.base.manifest l.next (next_entries l n)) → Lists (planned l.base.manifest l.next (next_entries l n)) (after_all (content_past l.past l.base.manifest.applied) (next_entries l n))
    → IsMemory (advanced l (record { manifest = l.base.manifest; doubt = Some (planned l.base.manifest l.next (next_entries l n)) }) (l.next + new_files (next_entries l n)))
memory_turning l n memory clear some fits lists = record {
  logged = memory.logged;
  carried = record {
    now = let c = memory.carried.now in record { fits = c.fits; from = c.from; to = c.to; lists = c.lists; numbers = omega (arith, c.numbers) };
    later = λ x is.
        let same : planned l.base.manifest l.next (next_entries l n) ≡ x = cc (is) in
        subst (IsCarriedNext l.past (l.next + new_files (next_entries l n)) l.base.manifest) same (record { carried = to_carried l n memory fits lists; epoch = refl; more = omega (arith, some) });
  };
  begins = memory.begins;
  floor = memory.floor;
  doubt = λ e is. absurd (cc (sym clear ∙ is));
}

-- ---- what the machine comes to

-- it has come to nothing, to a refusal, or to an application
module _ (limits : Limits) (l : Ledger) (pins : List Pin) (n : ℕ) where
  abbrev s : State
  s = state_of l pins

  pub nothing_left : next_entries l n ≡ [] → Ends (effect limits s (Apply n)) s (Ok (Applied s.applied)) s
  nothing_left none = subst (λ (es : List Entry). Ends (applied_by limits s es) s (Ok (Applied s.applied)) s) (sym none) (refl, refl)

  module _ (e : Entry) (es : List Entry) (some : next_entries l n ≡ e ∷ es) where
    abbrev a : Applying
    a = record { position = s.applied + length (next_entries l n); next = s.next + new_files (next_entries l n) }

    comes_to : effect limits s (Apply n) ≡ cond (nat_le limits.epochs s.epoch || has_no_number s) (refuses refusal.EpochFull pins) (applies a)
    comes_to = subst (λ (xs : List Entry). applied_by limits s xs ≡ cond (nat_le limits.epochs s.epoch || has_no_number s) (refuses refusal.EpochFull pins) (applies (record { position = s.applied + length xs; next = s.next + new_files xs }))) (sym some) refl

    pub full : (nat_le limits.epochs s.epoch || has_no_number s) ≡ true → Ends (effect limits s (Apply n)) s (Err refusal.EpochFull) s
    full is = subst (λ (x : machine.Effect). Ends x s (Err refusal.EpochFull) s) (sym (comes_to ∙ ap (λ (b : Bool). cond b (refuses refusal.EpochFull pins) (applies a)) is)) (refl, refl)

    pub goes_on : (nat_le limits.epochs s.epoch || has_no_number s) ≡ false → effect limits s (Apply n) ≡ applies a
    goes_on is = comes_to ∙ ap (λ (b : Bool). cond b (refuses refusal.EpochFull pins) (applies a)) is

-- ---- what the files have while nothing new counts

module _ (limits : Limits) (l : Ledger) (memory : IsMemory l) (flat : l.base.doubt ≡ None) (before : List Pin) (states_before : States) (shown : Files) (shows : IsImage states_before shown) (stored : Stored limits (state_of l before) states_before) (remembers : Remembers l states_before) where
  abbrev pub Beside : States → Type 0
  Beside states = StandApart l.base.manifest.epoch l.next states_before states

  pub base_stays : (states : States) → Beside states → HasBase limits l.base.manifest.epoch l.base.manifest.applied l.base.manifest.next (content_past l.past l.base.manifest.applied) states
  base_stays states apart = base_beside limits l.base.manifest l.next memory.carried.now.fits memory.carried.now.numbers (content_past l.past l.base.manifest.applied) states_before shown shows stored.base remembers.manifest states apart

  pub log_stays : (states : States) → Beside states → FilesHave (l.floor + 1) (past_floor l) l.doubt states
  log_stays states apart = log_beside (l.floor + 1) (past_floor l) l.doubt l.base.manifest.epoch l.next states_before states apart stored.files

  -- the old state, where turn counts its epoch
  pub stays : (pins : List Pin) (states : States) → Counts l.base.manifest.epoch states → Beside states → Stored limits (state_of l pins) states
  stays pins states counts apart = record {
    files = log_stays states apart;
    legal = stored.legal;
    within = stored.within;
    order = record { begins = stored.order.begins; from = stored.order.from; to = stored.order.to; turn = stored.order.turn };
    base = base_stays states apart;
    turn = subst (λ (d : Option Manifest). HasTurn limits l.base.manifest.epoch (content_past l.past) (option_map applying d) states) (sym flat) counts;
  }

  -- at a moment of the application
  pub staying_either : (end : State) (states : States) → Counts l.base.manifest.epoch states → Beside states → GivesEither limits (state_of l before) end states
  staying_either end states counts apart = still_old (recover limits) (Keeps limits) counters (state_of l before) end states (stored_gives limits (state_of l before) states (stays before states counts apart))

  -- ---- what memory has of the files

  pack_stays : (states : States) → Beside states → (p : PackFile) → p.number < l.next → HoldsPack states_before p → HoldsPack states p
  pack_stays states apart p lt held =
      apart (pack_file p.number) ((λ e. let kinds : 5 ≡ 2 = ap (λ (f : FileId). f.kind) e in omega (arith, kinds)), (λ e. let kinds : 5 ≡ 3 = ap (λ (f : FileId). f.kind) e in omega (arith, kinds)), λ high. lt) ∙ held

  packs_of : (states : States) → Beside states → (packs : List PackFile) → AllByRecursion (λ p. p.number < l.next) packs → AllByRecursion (HoldsPack states_before) packs → AllByRecursion (HoldsPack states) packs
  packs_of states apart [] below held = tt
  packs_of states apart (p ∷ packs) below held = (pack_stays states apart p below.0 held.0, packs_of states apart packs below.1 held.1)

  pub packs_stay : (states : States) → Beside states → (repos : List BaseRepo) → AllByRecursion (λ r. AllByRecursion (λ p. p.number < l.next) r.packs) repos → HoldsPacks repos states_before → HoldsPacks repos states
  packs_stay states apart [] below held = tt
  packs_stay states apart (r ∷ repos) below held = (packs_of states apart r.packs below.0 held.0, packs_stay states apart repos below.1 held.1)

  pub manifest_stays : (states : States) → Beside states → HasManifest l.base.manifest states
  manifest_stays states apart = manifest_beside limits l.base.manifest l.next memory.carried.now.fits memory.carried.now.numbers (content_past l.past l.base.manifest.applied) states_before shown shows stored.base remembers.manifest states apart

  pub remembers_old : (states : States) → Beside states → Remembers l states
  remembers_old states apart = record {
    packs = packs_stay states apart l.past.repos remembers.below remembers.packs;
    below = remembers.below;
    manifest = manifest_stays states apart;
    doubt = subst (λ (d : Option Manifest). HasNext l.base.manifest.epoch d states) (sym flat) tt;
  }

-- ---- what they have once something counts

module _ (limits : Limits) (l : Ledger) (n : ℕ) (memory : IsMemory l) (clear : l.doubt ≡ None) (flat : l.base.doubt ≡ None) (some : 1 ≤ length (next_entries l n)) (few : l.base.manifest.epoch + 1 ≤ limits.epochs) (fits : Fits Second (planned l.base.manifest l.next (next_entries l n)))
    (before after : List Pin) (states_before : States) (shown : Files) (shows : IsImage states_before shown) (stored : Stored limits (state_of l before) states_before) (remembers : Remembers l states_before) where
  abbrev next : ℕ
  next = l.next + new_files (next_entries l n)

  abbrev new : Manifest
  new = planned l.base.manifest l.next (next_entries l n)

  abbrev in_doubt : Ledger
  in_doubt = advanced l (record { manifest = l.base.manifest; doubt = Some new }) next

  abbrev done : Ledger
  done = advanced l (record { manifest = new; doubt = None }) next

  abbrev old_state : State
  old_state = state_of l before

  abbrev Near : States → Type 0
  Near states = StandApart l.base.manifest.epoch l.next states_before states

  base_goes_on : (states : States) → states (manifest_file (l.base.manifest.epoch + 1)) ≡ still (Some (manifest Second new)) → HaveSpellings (planned_files l.next (next_entries l n)) → AreKept (planned_files l.next (next_entries l n)) states → Near states
      → HasBase limits (l.base.manifest.epoch + 1) new.applied new.next (content_past l.past new.applied) states
  base_goes_on states there spelled kept apart =
      subst (λ (c : Content). HasBase limits (l.base.manifest.epoch + 1) new.applied new.next c states) (behind l n memory)
      (new_base limits l.base.manifest l.next memory.carried.now.fits memory.carried.now.numbers (content_past l.past l.base.manifest.applied) states_before shown shows stored.base remembers.manifest (next_entries l n) (part_legal l n memory) (part_typed l n memory) (part_built l n memory) few fits states there spelled kept apart)

  -- the application in doubt
  pub turns : (pins : List Pin) (states : States) → Advances l.base.manifest.epoch new (planned_files l.next (next_entries l n)) states → Near states → Stored limits (state_of in_doubt pins) states
  turns pins states a apart = record {
    files = log_stays limits l memory flat before states_before shown shows stored remembers states apart;
    legal = stored.legal;
    within = stored.within;
    order = record { begins = stored.order.begins; from = stored.order.from; to = stored.order.to; turn = (omega (arith, some), part_there l n memory, omega arith) };
    base = base_stays limits l memory flat before states_before shown shows stored remembers states apart;
    turn = (a.turns.turn, base_goes_on states a.turns.next a.spelled a.kept apart);
  }

  -- the application counts
  pub counts_on : (pins : List Pin) (states : States) → Advanced l.base.manifest.epoch new (planned_files l.next (next_entries l n)) states → Near states → Stored limits (state_of done pins) states
  counts_on pins states a apart = record {
    files = log_stays limits l memory flat before states_before shown shows stored remembers states apart;
    legal = stored.legal;
    within = stored.within;
    order = record { begins = stored.order.begins; from = omega (arith, stored.order.from); to = part_there l n memory; turn = tt };
    base = base_goes_on states a.switched.1 a.spelled a.kept apart;
    turn = a.switched.0;
  }

  -- ---- what a stop leaves

  -- nothing but the application is in doubt
  entry_is : (entry : State) → SettledEntry true (state_of in_doubt after) entry → entry ≡ record (state_of in_doubt after) { doubt = None }
  entry_is entry (inl is) = is
  entry_is entry (inr is) = is ∙ ap (λ (d : Option Entry). record (state_of in_doubt after) { log = with_doubt l.past.log d; doubt = None }) clear

  split_doubt : (states : States) (image : Files) → Gives limits (state_of in_doubt after) states image → Gives limits old_state states image ⊎ Gives limits (state_of done after) states image
  split_doubt states image (r, is, (entry, turn, one, two, same), keeps) = by two
    where
      by : SettledTurn true entry turn → Gives limits old_state states image ⊎ Gives limits (state_of done after) states image
      by (inl out) =
          let whole : r ≡ recovered_of (record old_state { doubt = None; turning = None }) = same ∙ ap recovered_of (out ∙ ap (λ (e : State). record e { turning = None }) (entry_is entry one)) in
          inl (r, is, (record old_state { doubt = None }, record old_state { doubt = None; turning = None }, inl refl, inl refl, whole), keeps)
      by (inr in_) =
          let whole : r ≡ recovered_of (record (state_of done after) { doubt = None; turning = None }) = same ∙ ap recovered_of (in_ ∙ ap (λ (e : State). turned_by e e.turning) (entry_is entry one)) in
          inr (r, is, (record (state_of done after) { doubt = None }, record (state_of done after) { doubt = None; turning = None }, inl refl, inl refl, whole), keeps)

  going_done : (states : States) → (Counts l.base.manifest.epoch states ⊎ Advances l.base.manifest.epoch new (planned_files l.next (next_entries l n)) states) → Near states → GivesEither limits old_state (state_of done after) states
  going_done states (inl counts) apart = staying_either limits l memory flat before states_before shown shows stored remembers (state_of done after) states counts apart
  going_done states (inr a) apart =
      let g = stored_gives limits (state_of in_doubt after) states (turns after states a apart) in
      record { steady = g.steady; gives = λ image im. split_doubt states image (g.gives image im) }

  going_doubt : (states : States) → (Counts l.base.manifest.epoch states ⊎ Advances l.base.manifest.epoch new (planned_files l.next (next_entries l n)) states) → Near states → GivesEither limits old_state (state_of in_doubt after) states
  going_doubt states (inl counts) apart = staying_either limits l memory flat before states_before shown shows stored remembers (state_of in_doubt after) states counts apart
  going_doubt states (inr a) apart =
      let g = stored_gives limits (state_of in_doubt after) states (turns after states a apart) in
      record { steady = g.steady; gives = λ image im. inr (g.gives image im) }

  pub remembers_turning : (states : States) → Advances l.base.manifest.epoch new (planned_files l.next (next_entries l n)) states → Near states → Remembers in_doubt states
  remembers_turning states a apart = record {
    packs = packs_stay limits l memory flat before states_before shown shows stored remembers states apart l.past.repos remembers.below remembers.packs;
    below = below_later l.next next l.past.repos (omega arith) remembers.below;
    manifest = manifest_stays limits l memory flat before states_before shown shows stored remembers states apart;
    doubt = a.turns.next;
  }

  pub remembers_done : (states : States) → Advanced l.base.manifest.epoch new (planned_files l.next (next_entries l n)) states → Near states → Remembers done states
  remembers_done states a apart = record {
    packs = packs_stay limits l memory flat before states_before shown shows stored remembers states apart l.past.repos remembers.below remembers.packs;
    below = below_later l.next next l.past.repos (omega arith) remembers.below;
    manifest = manifest_lasts new states fits (omega arith) a.switched.1;
    doubt = tt;
  }

-- ---- the whole

module _ (limits : Limits) (l : Ledger) (n : ℕ) (memory : IsMemory l) (clear : l.doubt ≡ None) (flat : l.base.doubt ≡ None) (some : 1 ≤ length (next_entries l n)) (few : l.base.manifest.epoch + 1 ≤ limits.epochs) (v w : View) (shows : IsImage (now v) v.reads) where
  abbrev Going : Result Unit SwitchError → Type 0
  Going result = Counts l.base.manifest.epoch (now v) → Since (AdvanceMoment result l.base.manifest.epoch l.next (planned l.base.manifest l.next (next_entries l n)) (planned_files l.next (next_entries l n)) (now v)) v w

  abbrev Ended : Result Unit SwitchError → Type 0
  Ended result = Counts l.base.manifest.epoch (now v) → AfterAdvance result l.base.manifest.epoch l.next (planned l.base.manifest l.next (next_entries l n)) (planned_files l.next (next_entries l n)) (now v) (now w)

  abbrev ledger_done : Ledger
  ledger_done = advanced l (record { manifest = planned l.base.manifest l.next (next_entries l n); doubt = None }) (l.next + new_files (next_entries l n))

  abbrev ledger_doubt : Ledger
  ledger_doubt = advanced l (record { manifest = l.base.manifest; doubt = Some (planned l.base.manifest l.next (next_entries l n)) }) (l.next + new_files (next_entries l n))

  counts_of : (pins : List Pin) → Stored limits (state_of l pins) (now v) → Counts l.base.manifest.epoch (now v)
  counts_of pins stored = subst (λ (d : Option Manifest). HasTurn limits l.base.manifest.epoch (content_past l.past) (option_map applying d) (now v)) flat stored.turn

  pub done_goes : (before after : List Pin) → Fits Second (planned l.base.manifest l.next (next_entries l n)) → Going (Ok tt) → Ended (Ok tt) → Remembers l (now v) → Goes limits (state_of l before) (state_of ledger_done after) v w
  done_goes before after fits going ended remembers stored =
      let counts = counts_of before stored in
      let end = ended counts in (
        counts_on limits l n memory clear flat some few fits before after (now v) v.reads shows stored remembers after (now w) end.0 end.1,
        since_weaken _ (GivesEither limits (state_of l before) (state_of ledger_done after)) v w (going counts) (λ states a. going_done limits l n memory clear flat some few fits before after (now v) v.reads shows stored remembers states a.0 a.1),
      )

  pub done_remembers : (pins : List Pin) → Fits Second (planned l.base.manifest l.next (next_entries l n)) → Ended (Ok tt) → Stored limits (state_of l pins) (now v) → Remembers l (now v) → Remembers ledger_done (now w)
  done_remembers pins fits ended stored remembers = let end = ended (counts_of pins stored) in remembers_done limits l n memory clear flat some few fits pins pins (now v) v.reads shows stored remembers (now w) end.0 end.1

  pub doubt_goes : (before after : List Pin) → Fits Second (planned l.base.manifest l.next (next_entries l n)) → Going (Err Unsure) → Ended (Err Unsure) → Remembers l (now v) → Goes limits (state_of l before) (state_of ledger_doubt after) v w
  doubt_goes before after fits going ended remembers stored =
      let counts = counts_of before stored in
      let end = ended counts in (
        turns limits l n memory clear flat some few fits before after (now v) v.reads shows stored remembers after (now w) end.0 end.1,
        since_weaken _ (GivesEither limits (state_of l before) (state_of ledger_doubt after)) v w (going counts) (λ states a. going_doubt limits l n memory clear flat some few fits before after (now v) v.reads shows stored remembers states a.0 a.1),
      )

  pub doubt_remembers : (pins : List Pin) → Fits Second (planned l.base.manifest l.next (next_entries l n)) → Ended (Err Unsure) → Stored limits (state_of l pins) (now v) → Remembers l (now v) → Remembers ledger_doubt (now w)
  doubt_remembers pins fits ended stored remembers = let end = ended (counts_of pins stored) in remembers_turning limits l n memory clear flat some few fits pins pins (now v) v.reads shows stored remembers (now w) end.0 end.1

-- where turn counts the old epoch all the time
module _ (limits : Limits) (l : Ledger) (memory : IsMemory l) (flat : l.base.doubt ≡ None) (v w : View) (shows : IsImage (now v) v.reads) where
  counts_still : (pins : List Pin) → Stored limits (state_of l pins) (now v) → Counts l.base.manifest.epoch (now v)
  counts_still pins stored = subst (λ (d : Option Manifest). HasTurn limits l.base.manifest.epoch (content_past l.past) (option_map applying d) (now v)) flat stored.turn

  pub kept_goes : (before after : List Pin) → (Counts l.base.manifest.epoch (now v) → Since (Staying l.base.manifest.epoch l.next (now v)) v w) → (Counts l.base.manifest.epoch (now v) → Staying l.base.manifest.epoch l.next (now v) (now w)) → Remembers l (now v) → Goes limits (state_of l before) (state_of l after) v w
  kept_goes before after going ended remembers stored =
      let counts = counts_still before stored in
      let end = ended counts in (
        stays limits l memory flat before (now v) v.reads shows stored remembers after (now w) end.0 end.1,
        since_weaken (Staying l.base.manifest.epoch l.next (now v)) (GivesEither limits (state_of l before) (state_of l after)) v w (going counts) (λ states a. staying_either limits l memory flat before (now v) v.reads shows stored remembers (state_of l after) states a.0 a.1),
      )

  pub kept_remembers : (pins : List Pin) → (Counts l.base.manifest.epoch (now v) → Staying l.base.manifest.epoch l.next (now v) (now w)) → Stored limits (state_of l pins) (now v) → Remembers l (now v) → Remembers l (now w)
  kept_remembers pins ended stored remembers = let end = ended (counts_still pins stored) in remembers_old limits l memory flat pins (now v) v.reads shows stored remembers (now w) end.1

-- ---- as the code comes to it

abbrev KeepsPools : Type 0
KeepsPools = (c : Content) (position : ℕ) (es : List Entry) → All IsBuilt es → IsLegal c position es → HasGoodPools c → HasGoodPools (after_all c es)

abbrev AddFew : Type 0
AddFew = (es : List Entry) → length es ≤ 16 → All HasSpelling es → new_files es < 2 ^ 62

abbrev ListOn : Type 0
ListOn = (from : Manifest) (next : ℕ) (es : List Entry) (c : Content) → IsNext from next es c → Lists (planned from next es) (after_all c es)

abbrev ledger_done_is : Ledger → ℕ → Ledger
ledger_done_is l n = advanced l (record { manifest = planned l.base.manifest l.next (next_entries l n); doubt = None }) (l.next + new_files (next_entries l n))

abbrev ledger_doubt_is : Ledger → ℕ → Ledger
ledger_doubt_is l n = advanced l (record { manifest = l.base.manifest; doubt = Some (planned l.base.manifest l.next (next_entries l n)) }) (l.next + new_files (next_entries l n))

-- the ledger in memory, and the one that the contract names; and the entries that are applied
module _ (l old : Ledger) (view : l ≡ old) (n : ℕ) (es : List Entry) (is : es ≡ next_entries l n) (memory : IsMemory l) (clear : old.doubt ≡ None) (flat : old.base.doubt ≡ None) (some : 1 ≤ length (next_entries old n)) (most : n ≤ 16) (numbers : old.next < 2 ^ 63) (epoch : old.base.manifest.epoch < 2 ^ 64 - 1) (few : front old.past < 2 ^ 64)
    (keep : KeepsPools) (add : AddFew) where
  clear_here : l.doubt ≡ None
  clear_here = ap (λ (x : Ledger). x.doubt) view ∙ clear

  flat_here : l.base.doubt ≡ None
  flat_here = ap (λ (x : Ledger). x.base.doubt) view ∙ flat

  some_here : 1 ≤ length (next_entries l n)
  some_here = subst (λ (x : Ledger). 1 ≤ length (next_entries x n)) (sym view) some

  next_here : IsNext l.base.manifest l.next (next_entries l n) (content_past l.past l.base.manifest.applied)
  next_here =
      let short = part_short l n memory in
      let files = add (next_entries l n) (omega (arith, short, most)) (part_spelled l n memory) in
      may_advance l n memory keep (omega (arith, epoch, ap (λ (x : Ledger). x.base.manifest.epoch) view)) (omega (arith, few, ap (λ (x : Ledger). front x.past) view)) (omega (arith, files, numbers, ap (λ (x : Ledger). x.next) view))

  pub advances : (c : Content) × IsNext l.base.manifest l.next es c
  advances = (content_past l.past l.base.manifest.applied, subst (λ (xs : List Entry). IsNext l.base.manifest l.next xs (content_past l.past l.base.manifest.applied)) (sym is) next_here)

  done_is : (b : BaseState) (k : ℕ) → b ≡ record { manifest = planned l.base.manifest l.next es; doubt = None } → k ≡ next_in b → advanced l b k ≡ ledger_done_is l n
  done_is b k base_is next_is =
      let whole : b ≡ record { manifest = planned l.base.manifest l.next (next_entries l n); doubt = None } = base_is ∙ ap (λ (xs : List Entry). record { manifest = planned l.base.manifest l.next xs; doubt = None }) is in
      let number : k ≡ l.next + new_files (next_entries l n) = next_is ∙ ap next_in whole in
      λ i. advanced l (whole i) (number i)

  doubt_is : (b : BaseState) (k : ℕ) → b ≡ record { manifest = l.base.manifest; doubt = Some (planned l.base.manifest l.next es) } → k ≡ next_in b → advanced l b k ≡ ledger_doubt_is l n
  doubt_is b k base_is next_is =
      let whole : b ≡ record { manifest = l.base.manifest; doubt = Some (planned l.base.manifest l.next (next_entries l n)) } = base_is ∙ ap (λ (xs : List Entry). record { manifest = l.base.manifest; doubt = Some (planned l.base.manifest l.next xs) }) is in
      let number : k ≡ l.next + new_files (next_entries l n) = next_is ∙ ap next_in whole in
      λ i. advanced l (whole i) (number i)

  fits_here : Fits Second (planned l.base.manifest l.next es) → Fits Second (planned l.base.manifest l.next (next_entries l n))
  fits_here fits = subst (λ (xs : List Entry). Fits Second (planned l.base.manifest l.next xs)) is fits

  pub memory_done : ListOn → (b : BaseState) (k : ℕ) → b ≡ record { manifest = planned l.base.manifest l.next es; doubt = None } → k ≡ next_in b → Fits Second (planned l.base.manifest l.next es) → IsMemory (advanced l b k)
  memory_done lists b k base_is next_is fits =
      subst (λ (x : Ledger). IsMemory x) (sym (done_is b k base_is next_is)) (memory_switched l n memory clear_here (fits_here fits) (lists l.base.manifest l.next (next_entries l n) (content_past l.past l.base.manifest.applied) next_here))

  pub memory_doubted : ListOn → (b : BaseState) (k : ℕ) → b ≡ record { manifest = l.base.manifest; doubt = Some (planned l.base.manifest l.next es) } → k ≡ next_in b → Fits Second (planned l.base.manifest l.next es) → IsMemory (advanced l b k)
  memory_doubted lists b k base_is next_is fits =
      subst (λ (x : Ledger). IsMemory x) (sym (doubt_is b k base_is next_is)) (memory_turning l n memory clear_here some_here (fits_here fits) (lists l.base.manifest l.next (next_entries l n) (content_past l.past l.base.manifest.applied) next_here))

  module _ (limits : Limits) (room : old.base.manifest.epoch < limits.epochs) (v w : View) (shows : IsImage (now v) v.reads) where
    room_here : l.base.manifest.epoch + 1 ≤ limits.epochs
    room_here = omega (arith, room, ap (λ (x : Ledger). x.base.manifest.epoch) view)

    abbrev GoingOver : Result Unit SwitchError → List Entry → Type 0
    GoingOver result xs = Counts l.base.manifest.epoch (now v) → Since (AdvanceMoment result l.base.manifest.epoch l.next (planned l.base.manifest l.next xs) (planned_files l.next xs) (now v)) v w

    abbrev EndedOver : Result Unit SwitchError → List Entry → Type 0
    EndedOver result xs = Counts l.base.manifest.epoch (now v) → AfterAdvance result l.base.manifest.epoch l.next (planned l.base.manifest l.next xs) (planned_files l.next xs) (now v) (now w)

    remembered : Remembers old (now v) → Remembers l (now v)
    remembered r = subst (λ (x : Ledger). Remembers x (now v)) (sym view) r

    pub goes_done : (b : BaseState) (k : ℕ) → b ≡ record { manifest = planned l.base.manifest l.next es; doubt = None } → k ≡ next_in b → Fits Second (planned l.base.manifest l.next es) → GoingOver (Ok tt) es → EndedOver (Ok tt) es → (before after : List Pin) → Remembers old (now v)
        → Goes limits (state_of old before) (state_of (advanced l b k) after) v w
    goes_done b k base_is next_is fits going ended before after r =
        let goes = done_goes limits l n memory clear_here flat_here some_here room_here v w shows before after (fits_here fits) (subst (GoingOver (Ok tt)) is going) (subst (EndedOver (Ok tt)) is ended) (remembered r) in
        subst (λ (x : Ledger). Goes limits (state_of x before) (state_of (advanced l b k) after) v w) view (subst (λ (x : Ledger). Goes limits (state_of l before) (state_of x after) v w) (sym (done_is b k base_is next_is)) goes)

    pub remembers_after : (b : BaseState) (k : ℕ) → b ≡ record { manifest = planned l.base.manifest l.next es; doubt = None } → k ≡ next_in b → Fits Second (planned l.base.manifest l.next es) → EndedOver (Ok tt) es → (pins : List Pin) → Stored limits (state_of old pins) (now v) → Remembers old (now v)
        → Remembers (advanced l b k) (now w)
    remembers_after b k base_is next_is fits ended pins stored r =
        subst (λ (x : Ledger). Remembers x (now w)) (sym (done_is b k base_is next_is))
        (done_remembers limits l n memory clear_here flat_here some_here room_here v w shows pins (fits_here fits) (subst (EndedOver (Ok tt)) is ended) (subst (λ (x : Ledger). Stored limits (state_of x pins) (now v)) (sym view) stored) (remembered r))

    pub goes_doubted : (b : BaseState) (k : ℕ) → b ≡ record { manifest = l.base.manifest; doubt = Some (planned l.base.manifest l.next es) } → k ≡ next_in b → Fits Second (planned l.base.manifest l.next es) → GoingOver (Err Unsure) es → EndedOver (Err Unsure) es → (before after : List Pin) → Remembers old (now v)
        → Goes limits (state_of old before) (state_of (advanced l b k) after) v w
    goes_doubted b k base_is next_is fits going ended before after r =
        let goes = doubt_goes limits l n memory clear_here flat_here some_here room_here v w shows before after (fits_here fits) (subst (GoingOver (Err Unsure)) is going) (subst (EndedOver (Err Unsure)) is ended) (remembered r) in
        subst (λ (x : Ledger). Goes limits (state_of x before) (state_of (advanced l b k) after) v w) view (subst (λ (x : Ledger). Goes limits (state_of l before) (state_of x after) v w) (sym (doubt_is b k base_is next_is)) goes)

    pub remembers_doubted : (b : BaseState) (k : ℕ) → b ≡ record { manifest = l.base.manifest; doubt = Some (planned l.base.manifest l.next es) } → k ≡ next_in b → Fits Second (planned l.base.manifest l.next es) → EndedOver (Err Unsure) es → (pins : List Pin) → Stored limits (state_of old pins) (now v) → Remembers old (now v)
        → Remembers (advanced l b k) (now w)
    remembers_doubted b k base_is next_is fits ended pins stored r =
        subst (λ (x : Ledger). Remembers x (now w)) (sym (doubt_is b k base_is next_is))
        (doubt_remembers limits l n memory clear_here flat_here some_here room_here v w shows pins (fits_here fits) (subst (EndedOver (Err Unsure)) is ended) (subst (λ (x : Ledger). Stored limits (state_of x pins) (now v)) (sym view) stored) (remembered r))

    -- where the old base counts all the time
    pub goes_kept : (b : BaseState) → b ≡ l.base → (Counts l.base.manifest.epoch (now v) → Since (Staying l.base.manifest.epoch l.next (now v)) v w) → (Counts l.base.manifest.epoch (now v) → Staying l.base.manifest.epoch l.next (now v) (now w)) → (before after : List Pin) → Remembers old (now v)
        → Goes limits (state_of old before) (state_of (advanced l b l.next) after) v w
    goes_kept b base_is going ended before after r =
        let goes = kept_goes limits l memory flat_here v w shows before after going ended (remembered r) in
        subst (λ (x : Ledger). Goes limits (state_of x before) (state_of (advanced l b l.next) after) v w) view (subst (λ (x : BaseState). Goes limits (state_of l before) (state_of (advanced l x l.next) after) v w) (sym base_is) goes)

    pub remembers_kept_so : (b : BaseState) → b ≡ l.base → (Counts l.base.manifest.epoch (now v) → Staying l.base.manifest.epoch l.next (now v) (now w)) → (pins : List Pin) → Stored limits (state_of old pins) (now v) → Remembers old (now v) → Remembers (advanced l b l.next) (now w)
    remembers_kept_so b base_is ended pins stored r =
        subst (λ (x : BaseState). Remembers (advanced l x l.next) (now w)) (sym base_is)
        (kept_remembers limits l memory flat_here v w shows pins ended (subst (λ (x : Ledger). Stored limits (state_of x pins) (now v)) (sym view) stored) (remembered r))

-- An application in doubt is settled: turn is made to last, and its length tells whether it counts.
use Rattle.std.proofs.Common.{◌≡◌, ◌≢◌, inl, inr, ℕ, ◌+◌, not, nat_eq, Bool, true, false, List, [], ◌∷◌, Option, Some, None, Result, Ok, Err, refl, sym, ◌∙◌, ap, subst, arith}
use Rattle.std.specs.Prelude.{is_some}
use Rattle.std.specs.List.{AllByRecursion}
use Rattle.std.specs.Option.{option_map}
use Rattle.gt_disk.specs.declared.file_id.FileId.{FileId}
use Rattle.gt_disk.specs.declared.Failed.{Failed as DeviceFailed}
use Rattle.gt_disk.specs.Files.{States, View, now, still}
use Rattle.gt_disk.specs.Kinds.{gate_file, turn_file, manifest_file, entry_file, pack_file}
use Rattle.gt_disk.specs.Moments.{Since, Narrows, Runs, Lasting}
use Rattle.gt_disk.proofs.Steps.{runs_now}
use Rattle.gt_base.specs.Held.{HoldsPack, HoldsPacks}
use Rattle.gt_base.specs.Packs.{PackFile}
use Rattle.gt_base.specs.Recovery.{manifest_in, base_in}
use Rattle.gt_base.specs.Loading.{BaseState}
use Rattle.gt_base.specs.Switching.{Counts, Turns, AfterSettle, settled}
use Rattle.gt_base.specs.declared.held.BaseRepo.{BaseRepo}
use Rattle.gt_manifest.specs.declared.manifest.Manifest.{Manifest}
use Rattle.gt_manifest.specs.declared.version.Version.TheVariants.{Second}
use Rattle.gt_manifest.specs.Spelling.{manifest}
use Rattle.gt_model.specs.declared.limits.Limits.{Limits}
use Rattle.gt_model.specs.Contents.{Content}
use Rattle.gt_model.specs.Machine.{Pin, turned_by, SettledTurn}
use Rattle.gt_reading.proofs.Apart.{well_apart}
use Rattle.gt_table.specs.Table.{content_at as content_past}
use Rattle.gt_journal.specs.Carried.{IsMemory, IsCarriedNext}
use Rattle.gt_journal.specs.Histories.{GivesThis, GoesSettling}
use Rattle.gt_journal.specs.Ledger.{Ledger, state_of, past_floor, applying, HasBase, HasTurn, HasManifest, HasNext, HasPacksBelow, FilesHave, Stored, Remembers, Known, known, is_based, KeepsBase}
use Rattle.gt_journal.proofs.Based.{only_base, only_manifest}
use Rattle.gt_journal.proofs.Framed.{log_kept, manifest_lasts}
use Rattle.gt_journal.proofs.Good.{gives_turning}
use Rattle.gt_journal.proofs.Images.{stored_gives}

-- ---- files but turn

abbrev is_beside : FileId → Bool
is_beside f = not (nat_eq f.kind 2)

abbrev IsBeside : FileId → Type 0
IsBeside f = is_beside f ≡ true

-- a base stays, and a manifest
base_beside_turn : (limits : Limits) (epoch applied next : ℕ) (c : Content) (before states : States) → ((f : FileId) → is_beside f ≡ true → states f ≡ before f) → HasBase limits epoch applied next c before → HasBase limits epoch applied next c states
base_beside_turn limits epoch applied next c before states same has = record {
  few = has.few;
  based = has.based;
  reads = λ gate le. well_apart is_beside before states same (base_in epoch gate) (λ b. b ≡ has.based) (only_base IsBeside (λ n. refl) (λ n. refl) (λ n. refl) (λ n. refl) epoch gate) (has.reads gate le);
  epoch_is = has.epoch_is;
  applied_is = has.applied_is;
  next_is = has.next_is;
  content = has.content;
}

manifest_beside_turn : (m : Manifest) (before states : States) → ((f : FileId) → is_beside f ≡ true → states f ≡ before f) → HasManifest m before → HasManifest m states
manifest_beside_turn m before states same has = well_apart is_beside before states same (manifest_in m.epoch m.applied) (λ x. x ≡ m) (only_manifest IsBeside (λ n. refl) (λ n. refl) (λ n. refl) (λ n. refl) m.epoch m.applied) has

packs_of : (before states : States) → ((n : ℕ) → states (pack_file n) ≡ before (pack_file n)) → (packs : List PackFile) → AllByRecursion (HoldsPack before) packs → AllByRecursion (HoldsPack states) packs
packs_of before states same [] held = tt
packs_of before states same (p ∷ packs) held = (same p.number ∙ held.0, packs_of before states same packs held.1)

packs_stay : (before states : States) → ((n : ℕ) → states (pack_file n) ≡ before (pack_file n)) → (repos : List BaseRepo) → HoldsPacks repos before → HoldsPacks repos states
packs_stay before states same [] held = tt
packs_stay before states same (r ∷ repos) held = (packs_of before states same r.packs held.0, packs_stay before states same repos held.1)

-- ---- where no file but the log's changes

next_kept : (epoch : ℕ) (doubt : Option Manifest) (before states : States) → states (manifest_file (epoch + 1)) ≡ before (manifest_file (epoch + 1)) → HasNext epoch doubt before → HasNext epoch doubt states
next_kept epoch None before states same has = tt
next_kept epoch (Some to) before states same has = same ∙ has

abbrev IsBasedFile : FileId → Type 0
IsBasedFile f = is_based f ≡ true

-- what memory has of the files stays
pub remembers_kept : (l m : Ledger) (v w : View) → known m ≡ known l → KeepsBase v w → Remembers l (now v) → Remembers m (now w)
remembers_kept l m v w same keeps r = record {
  packs = subst (λ (k : Known). HoldsPacks k.0 (now w)) (sym same) (packs_stay (now v) (now w) (λ n. keeps (pack_file n) refl) l.past.repos r.packs);
  below = subst (λ (k : Known). AllByRecursion (HasPacksBelow k.1.1) k.0) (sym same) r.below;
  manifest = subst (λ (k : Known). HasManifest k.1.0.manifest (now w)) (sym same)
      (well_apart is_based (now v) (now w) keeps (manifest_in l.base.manifest.epoch l.base.manifest.applied) (λ x. x ≡ l.base.manifest) (only_manifest IsBasedFile (λ n. refl) (λ n. refl) (λ n. refl) (λ n. refl) l.base.manifest.epoch l.base.manifest.applied) r.manifest);
  doubt = subst (λ (k : Known). HasNext k.1.0.manifest.epoch k.1.0.doubt (now w)) (sym same) (next_kept l.base.manifest.epoch l.base.doubt (now v) (now w) (keeps (manifest_file (l.base.manifest.epoch + 1)) refl) r.doubt);
}

-- ---- where turn alone does

not_turn : (f : FileId) → is_beside f ≡ true → f ≢ turn_file
not_turn f is e = absurd (cc (ap (λ (g : FileId). is_beside g) (sym e) ∙ is))

module _ (l : Ledger) (to : Manifest) (doubted : l.base.doubt ≡ Some to) (memory : IsMemory l) where
  abbrev counted : Ledger
  counted = record l { base = record { manifest = to; doubt = None } }

  abbrev dropped : Ledger
  dropped = record l { base = record { manifest = l.base.manifest; doubt = None } }

  next_of : IsCarriedNext l.past l.next l.base.manifest to
  next_of = memory.carried.later to doubted

  -- ---- memory

  pub memory_counted : IsMemory counted
  memory_counted = record { logged = memory.logged; carried = record { now = next_of.carried; later = λ x is. absurd (cc (is)) }; begins = memory.begins; floor = omega (arith, memory.floor, next_of.more); doubt = memory.doubt }

  pub memory_dropped : IsMemory dropped
  memory_dropped = record { logged = memory.logged; carried = record { now = memory.carried.now; later = λ x is. absurd (cc (is)) }; begins = memory.begins; floor = memory.floor; doubt = memory.doubt }

  -- ---- the machine

  pub settles_in : (pins : List Pin) → SettledTurn true (state_of l pins) (state_of counted pins)
  settles_in pins =
      inr (subst (λ (d : Option Manifest). state_of counted pins ≡ turned_by (record (state_of l pins) { turning = option_map applying d }) (option_map applying d)) (sym doubted) (λ i. record (state_of counted pins) { epoch = next_of.epoch i }))

  pub settles_out : (pins : List Pin) → SettledTurn true (state_of l pins) (state_of dropped pins)
  settles_out pins = inl refl

  -- ---- the files

  module _ (v w : View) (turn : Runs turn_file (Lasting (now v turn_file) (v.reads turn_file)) v w) (narrows : Narrows v w) where
    others : (f : FileId) → is_beside f ≡ true → now w f ≡ now v f
    others f is = runs_now turn_file (Lasting (now v turn_file) (v.reads turn_file)) v w turn f (not_turn f is)

    abbrev HasDoubt : Limits → States → Type 0
    HasDoubt limits states = HasTurn limits l.base.manifest.epoch (content_past l.past) (Some (applying to)) states

    doubt_of : (limits : Limits) (pins : List Pin) (states : States) → Stored limits (state_of l pins) states → HasDoubt limits states
    doubt_of limits pins states stored = subst (λ (d : Option Manifest). HasTurn limits l.base.manifest.epoch (content_past l.past) (option_map applying d) states) doubted stored.turn

    -- turn and the next manifest
    pub turns_of : (limits : Limits) (pins : List Pin) → Stored limits (state_of l pins) (now v) → Remembers l (now v) → Turns l.base.manifest.epoch to (now v)
    turns_of limits pins stored remembers = record {
      turn = (doubt_of limits pins (now v) stored).0;
      next = subst (λ (d : Option Manifest). HasNext l.base.manifest.epoch d (now v)) doubted remembers.doubt;
    }

    log_stays : (limits : Limits) (pins : List Pin) → Stored limits (state_of l pins) (now v) → FilesHave (l.floor + 1) (past_floor l) l.doubt (now w)
    log_stays limits pins stored = log_kept (l.floor + 1) (past_floor l) l.doubt (now v) (now w) (others gate_file refl) (λ n. others (entry_file n) refl) stored.files

    -- whatever a stop leaves meanwhile gives the old state
    pub still_gives : (limits : Limits) (pins : List Pin) → Stored limits (state_of l pins) (now v) → Since (GivesThis limits (state_of l pins)) v w
    still_gives limits pins stored = gives_turning limits (state_of l pins) v w turn narrows (stored_gives limits (state_of l pins) (now v) stored)

    pub goes_in : (limits : Limits) (before after : List Pin) → (Turns l.base.manifest.epoch to (now v) → AfterSettle (Ok true) l.base.manifest.epoch to (now w)) → Remembers l (now v) → GoesSettling limits (state_of l before) (state_of counted after) v w
    goes_in limits before after settled remembers stored =
        let counts = settled (turns_of limits before stored remembers) in
        let base = base_beside_turn limits (l.base.manifest.epoch + 1) to.applied to.next (content_past l.past to.applied) (now v) (now w) others (doubt_of limits before (now v) stored).1 in (
          record {
            files = log_stays limits before stored;
            legal = stored.legal;
            within = stored.within;
            order = record { begins = stored.order.begins; from = omega (arith, stored.order.from, next_of.more); to = next_of.carried.to; turn = tt };
            base = subst (λ (e : ℕ). HasBase limits e to.applied to.next (content_past l.past to.applied) (now w)) (sym next_of.epoch) base;
            turn = subst (λ (e : ℕ). Counts e (now w)) (sym next_of.epoch) counts.0;
          },
          still_gives limits before stored,
        )

    pub goes_out : (limits : Limits) (before after : List Pin) → (Turns l.base.manifest.epoch to (now v) → AfterSettle (Ok false) l.base.manifest.epoch to (now w)) → Remembers l (now v) → GoesSettling limits (state_of l before) (state_of dropped after) v w
    goes_out limits before after settled remembers stored = (
      record {
        files = log_stays limits before stored;
        legal = stored.legal;
        within = stored.within;
        order = record { begins = stored.order.begins; from = stored.order.from; to = stored.order.to; turn = tt };
        base = base_beside_turn limits l.base.manifest.epoch l.base.manifest.applied l.base.manifest.next (content_past l.past l.base.manifest.applied) (now v) (now w) others stored.base;
        turn = settled (turns_of limits before stored remembers);
      },
      still_gives limits before stored,
    )

    pub goes_not : (limits : Limits) (before after : List Pin) → (e : DeviceFailed) → (Turns l.base.manifest.epoch to (now v) → AfterSettle (Err e) l.base.manifest.epoch to (now w)) → Remembers l (now v) → GoesSettling limits (state_of l before) (state_of l after) v w
    goes_not limits before after e settled remembers stored =
        let turns = settled (turns_of limits before stored remembers) in
        let base = base_beside_turn limits (l.base.manifest.epoch + 1) to.applied to.next (content_past l.past to.applied) (now v) (now w) others (doubt_of limits before (now v) stored).1 in (
          record {
            files = log_stays limits before stored;
            legal = stored.legal;
            within = stored.within;
            order = record { begins = stored.order.begins; from = stored.order.from; to = stored.order.to; turn = stored.order.turn };
            base = base_beside_turn limits l.base.manifest.epoch l.base.manifest.applied l.base.manifest.next (content_past l.past l.base.manifest.applied) (now v) (now w) others stored.base;
            turn = subst (λ (d : Option Manifest). HasTurn limits l.base.manifest.epoch (content_past l.past) (option_map applying d) (now w)) (sym doubted) (turns.turn, base);
          },
          still_gives limits before stored,
        )

    -- ---- what memory has of the files

    next_stays : HasNext l.base.manifest.epoch l.base.doubt (now v) → now w (manifest_file (l.base.manifest.epoch + 1)) ≡ still (Some (manifest Second to))
    next_stays has = others (manifest_file (l.base.manifest.epoch + 1)) refl ∙ subst (λ (d : Option Manifest). HasNext l.base.manifest.epoch d (now v)) doubted has

    pub remembers_in : Remembers l (now v) → Remembers counted (now w)
    remembers_in r = record {
      packs = packs_stay (now v) (now w) (λ n. others (pack_file n) refl) l.past.repos r.packs;
      below = r.below;
      manifest = manifest_lasts to (now w) next_of.carried.fits (omega (arith, next_of.epoch)) (ap (λ (e : ℕ). now w (manifest_file e)) next_of.epoch ∙ next_stays r.doubt);
      doubt = tt;
    }

    pub remembers_out : Remembers l (now v) → Remembers dropped (now w)
    remembers_out r = record { packs = packs_stay (now v) (now w) (λ n. others (pack_file n) refl) l.past.repos r.packs; below = r.below; manifest = manifest_beside_turn l.base.manifest (now v) (now w) others r.manifest; doubt = tt }

    pub remembers_still : Remembers l (now v) → Remembers l (now w)
    remembers_still r = record {
      packs = packs_stay (now v) (now w) (λ n. others (pack_file n) refl) l.past.repos r.packs;
      below = r.below;
      manifest = manifest_beside_turn l.base.manifest (now v) (now w) others r.manifest;
      doubt = subst (λ (d : Option Manifest). HasNext l.base.manifest.epoch d (now w)) (sym doubted) (next_stays r.doubt);
    }

-- ---- as the code comes to it

-- what is there is some
some_of : (o : Option Manifest) → is_some o ≡ true → (to : Manifest) × (o ≡ Some to)
some_of None is = absurd (cc is)
some_of (Some to) is = (to, refl)

-- the ledger in memory, and the one that the contract names; and whether the manifest counts
module _ (l old : Ledger) (view : l ≡ old) (memory : IsMemory l) (there : is_some l.base.doubt ≡ true) where
  abbrev to : Manifest
  to = (some_of l.base.doubt there).0

  doubted : l.base.doubt ≡ Some to
  doubted = (some_of l.base.doubt there).1

  abbrev IsSettled : Result Bool DeviceFailed → BaseState → Type 0
  IsSettled r b = (x : Manifest) → l.base.doubt ≡ Some x → b ≡ settled r x l.base

  -- the base after it
  abbrev based : Bool → BaseState
  based true = record { manifest = to; doubt = None }
  based false = record { manifest = l.base.manifest; doubt = None }

  based_is : (counts : Bool) (b : BaseState) → IsSettled (Ok counts) b → b ≡ based counts
  based_is true b is = is to doubted
  based_is false b is = is to doubted

  memory_of : (counts : Bool) → IsMemory (record l { base = based counts })
  memory_of true = memory_counted l to doubted memory
  memory_of false = memory_dropped l to doubted memory

  pub memory_settled : (counts : Bool) (b : BaseState) → IsSettled (Ok counts) b → IsMemory (record l { base = b })
  memory_settled counts b is = subst (λ (x : BaseState). IsMemory (record l { base = x })) (sym (based_is counts b is)) (memory_of counts)

  settles_of : (counts : Bool) (pins : List Pin) → SettledTurn true (state_of l pins) (state_of (record l { base = based counts }) pins)
  settles_of true pins = settles_in l to doubted memory pins
  settles_of false pins = settles_out l to doubted memory pins

  pub settles_so : (counts : Bool) (b : BaseState) → IsSettled (Ok counts) b → (pins : List Pin) → SettledTurn true (state_of old pins) (state_of (record l { base = b }) pins)
  settles_so counts b is pins =
      subst (λ (x : Ledger). SettledTurn true (state_of x pins) (state_of (record l { base = b }) pins)) view
      (subst (λ (x : BaseState). SettledTurn true (state_of l pins) (state_of (record l { base = x }) pins)) (sym (based_is counts b is)) (settles_of counts pins))

  none_of : (counts : Bool) → (based counts).doubt ≡ None
  none_of true = refl
  none_of false = refl

  pub settled_so : (counts : Bool) (b : BaseState) → IsSettled (Ok counts) b → b.doubt ≡ None
  settled_so counts b is = ap (λ (x : BaseState). x.doubt) (based_is counts b is) ∙ none_of counts

  still_is : (e : DeviceFailed) (b : BaseState) → IsSettled (Err e) b → b ≡ l.base
  still_is e b is = is to doubted

  pub memory_still : (e : DeviceFailed) (b : BaseState) → IsSettled (Err e) b → IsMemory (record l { base = b })
  memory_still e b is = subst (λ (x : BaseState). IsMemory (record l { base = x })) (sym (still_is e b is)) memory

  module _ (v w : View) (turn : Runs turn_file (Lasting (now v turn_file) (v.reads turn_file)) v w) (narrows : Narrows v w) where
    abbrev EndsSo : Result Bool DeviceFailed → Type 0
    EndsSo r = (x : Manifest) → Turns l.base.manifest.epoch x (now v) → AfterSettle r l.base.manifest.epoch x (now w)

    remembered : Remembers old (now v) → Remembers l (now v)
    remembered r = subst (λ (x : Ledger). Remembers x (now v)) (sym view) r

    goes_of : (limits : Limits) (counts : Bool) → EndsSo (Ok counts) → (before after : List Pin) → Remembers l (now v) → GoesSettling limits (state_of l before) (state_of (record l { base = based counts }) after) v w
    goes_of limits true ends before after r = goes_in l to doubted memory v w turn narrows limits before after (ends to) r
    goes_of limits false ends before after r = goes_out l to doubted memory v w turn narrows limits before after (ends to) r

    pub goes_so : (limits : Limits) (counts : Bool) (b : BaseState) → IsSettled (Ok counts) b → EndsSo (Ok counts) → (before after : List Pin) → Remembers old (now v) → GoesSettling limits (state_of old before) (state_of (record l { base = b }) after) v w
    goes_so limits counts b is ends before after r =
        subst (λ (x : Ledger). GoesSettling limits (state_of x before) (state_of (record l { base = b }) after) v w) view
        (subst (λ (x : BaseState). GoesSettling limits (state_of l before) (state_of (record l { base = x }) after) v w) (sym (based_is counts b is)) (goes_of limits counts ends before after (remembered r)))

    pub goes_still : (limits : Limits) (e : DeviceFailed) (b : BaseState) → IsSettled (Err e) b → EndsSo (Err e) → (before after : List Pin) → Remembers old (now v) → GoesSettling limits (state_of old before) (state_of (record l { base = b }) after) v w
    goes_still limits e b is ends before after r =
        subst (λ (x : Ledger). GoesSettling limits (state_of x before) (state_of (record l { base = b }) after) v w) view
        (subst (λ (x : BaseState). GoesSettling limits (state_of l before) (state_of (record l { base = x }) after) v w) (sym (still_is e b is)) (goes_not l to doubted memory v w turn narrows limits before after e (ends to) (remembered r)))

    remembers_of : (counts : Bool) → Remembers l (now v) → Remembers (record l { base = based counts }) (now w)
    remembers_of true r = remembers_in l to doubted memory v w turn narrows r
    remembers_of false r = remembers_out l to doubted memory v w turn narrows r

    pub remembers_so : (counts : Bool) (b : BaseState) → IsSettled (Ok counts) b → Remembers old (now v) → Remembers (record l { base = b }) (now w)
    remembers_so counts b is r = subst (λ (x : BaseState). Remembers (record l { base = x }) (now w)) (sym (based_is counts b is)) (remembers_of counts (remembered r))

    pub remembers_so_still : (e : DeviceFailed) (b : BaseState) → IsSettled (Err e) b → Remembers old (now v) → Remembers (record l { base = b }) (now w)
    remembers_so_still e b is r = subst (λ (x : BaseState). Remembers (record l { base = x }) (now w)) (sym (still_is e b is)) (remembers_still l to doubted memory v w turn narrows (remembered r))

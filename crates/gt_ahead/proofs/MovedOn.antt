-- A later base with the rest of the log.
use Rattle.std.proofs.Common.{◌≡◌, ℕ, zero, suc, ◌+◌, ◌-◌, ◌≤◌, List, [], ◌∷◌, length, take, drop, Ok, sym, ◌∙◌, ap, ap₂, subst, arith}
use Rattle.std.specs.List.{AllByRecursion}
use Rattle.gt_disk.specs.Files.{Files}
use Rattle.gt_disk.specs.Kinds.{gate_file, turn_file}
use Rattle.gt_log.specs.Log.{content_length}
use Rattle.gt_model.specs.declared.entry.Entry.{Entry}
use Rattle.gt_model.specs.declared.limits.Limits.{Limits}
use Rattle.gt_model.specs.Contents.{Content, after, after_all}
use Rattle.gt_reading.specs.Reading.{done, run, ◌>>=◌}
use Rattle.gt_reading.specs.Frames.{Agree}
use Rattle.gt_reading.proofs.Programs.{agree, split}
use Rattle.gt_base.specs.Entries.{entry_in, entries_in}
use Rattle.gt_base.specs.Held.{content_of}
use Rattle.gt_base.specs.Recovery.{Based, Loaded, base_in, counted, recovery}
use Rattle.gt_ahead.specs.Files.{log_files}
use Rattle.gt_ahead.specs.Loads.{front}
use Rattle.gt_ahead.specs.Later.{moved_on, IsLater, ReadsOn}
use Rattle.gt_ahead.proofs.Asked.{asks_entries, manifest_read}
use Rattle.gt_ahead.proofs.Parts.{base_parts, parts_of, counted_is, log_in}

-- entries are read from a later one on
pub skip : (files : Files) (count : ℕ) (c : Content) (position more : ℕ) (log : List Entry) → run files (entries_in c position more) ≡ Ok log → count ≤ length log → run files (entries_in (after_all c (take count log)) (position + count) (more - count)) ≡ Ok (drop count log)
skip files zero c position more log is le = ap₂ (λ (p m : ℕ). run files (entries_in c p m)) (let e : position + 0 ≡ position = omega arith in e) (let e : more - 0 ≡ more = omega arith in e) ∙ is
skip files (suc count) c position zero log is le = let none : [] ≡ log = cc (is) in absurd (omega (arith, le, ap length none))
skip files (suc count) c position (suc more) log is le =
    let e = split (entry_in c position) (λ e. entries_in (after c e) (position + 1) more >>= λ es. done (e ∷ es)) files log is in
    let rest = split (entries_in (after c e.first) (position + 1) more) (λ es. done (e.first ∷ es)) files log e.then_is in
    let same : e.first ∷ rest.first ≡ log = cc (rest.then_is) in
    let long : suc (length rest.first) ≡ length log = ap length same in
    let on = skip files count (after c e.first) (position + 1) more rest.first rest.first_is (omega (arith, le, long)) in
    subst (λ (l : List Entry). run files (entries_in (after_all c (take (suc count) l)) (position + suc count) (suc more - suc count)) ≡ Ok (drop (suc count) l)) same
    (ap₂ (λ (p m : ℕ). run files (entries_in (after_all (after c e.first) (take count rest.first)) p m)) (let e : position + suc count ≡ position + 1 + count = omega arith in e) (let e : suc more - suc count ≡ more - count = omega arith in e)
    ∙ on)

log_length : (files : Files) (c : Content) (position more : ℕ) (log : List Entry) → run files (entries_in c position more) ≡ Ok log → length log ≡ more
log_length files c position zero log is = let none : [] ≡ log = cc (is) in sym (ap length none)
log_length files c position (suc more) log is =
    let e = split (entry_in c position) (λ e. entries_in (after c e) (position + 1) more >>= λ es. done (e ∷ es)) files log is in
    let rest = split (entries_in (after c e.first) (position + 1) more) (λ es. done (e.first ∷ es)) files log e.then_is in
    let same : e.first ∷ rest.first ≡ log = cc (rest.then_is) in
    sym (ap length same) ∙ ap suc (log_length files (after c e.first) (position + 1) more rest.first rest.first_is)

-- The gate counts what is applied and what is in the log.
pub front_is : (limits : Limits) (files : Files) (epoch gate : ℕ) (x : Loaded) → run files (counted limits epoch gate) ≡ Ok x → front x ≡ gate
front_is limits files epoch gate x is =
    let parts = parts_of limits files epoch gate x is in
    let low : x.base.manifest.applied ≤ gate = (manifest_read files epoch gate x.base.manifest (base_parts files epoch gate x.base parts.base).manifest).within in
    let long : length x.log ≡ gate - x.base.manifest.applied = log_length files (content_of x.base.repos) (x.base.manifest.applied + 1) (gate - x.base.manifest.applied) x.log parts.log in
    omega (arith, low, long)

-- It counts what a later base applies.
pub later_within : (limits : Limits) (files : Files) (old : Loaded) (new : Based) (count epoch gate : ℕ) → run files (counted limits epoch gate) ≡ Ok old → IsLater old new count → new.manifest.applied ≤ gate
later_within limits files old new count epoch gate is later =
    let whole : old.base.manifest.applied + length old.log ≡ gate = front_is limits files epoch gate old is in
    omega (arith, whole, later.some, later.applied)

pub goes_on_at : (limits : Limits) (old : Loaded) (new : Based) (count epoch gate : ℕ) (a b : Files) → run a (counted limits epoch gate) ≡ Ok old → IsLater old new count → new.manifest.epoch ≤ limits.epochs → run b (base_in new.manifest.epoch gate) ≡ Ok new
    → Agree a b (log_files (drop count old.log)) → run b (counted limits new.manifest.epoch gate) ≡ Ok (moved_on old new count)
goes_on_at limits old new count epoch gate a b is later few base rest =
    let parts = parts_of limits a epoch gate old is in
    let on = skip a count (content_of old.base.repos) (old.base.manifest.applied + 1) (gate - old.base.manifest.applied) old.log parts.log later.some in
    let over_b = agree (entries_in (after_all (content_of old.base.repos) (take count old.log)) (old.base.manifest.applied + 1 + count) (gate - old.base.manifest.applied - count)) a b
    (subst (AllByRecursion (λ f. b f ≡ a f)) (sym (asks_entries a (after_all (content_of old.base.repos) (take count old.log)) (old.base.manifest.applied + 1 + count) (gate - old.base.manifest.applied - count) (drop count old.log) on)) rest) in
    let from : new.manifest.applied + 1 ≡ old.base.manifest.applied + 1 + count = omega (arith, later.applied) in
    let left : gate - new.manifest.applied ≡ gate - old.base.manifest.applied - count = omega (arith, later.applied) in
    let log : run b (log_in gate new) ≡ Ok (drop count old.log) = (λ i. run b (entries_in (later.content i) (from i) (left i))) ∙ over_b.0 ∙ on in
    counted_is limits b new.manifest.epoch gate new (drop count old.log) parts.within few base log

pub goes_on : (limits : Limits) (old : Loaded) (new : Based) (count : ℕ) (a b : Files) → run a (recovery limits) ≡ Ok old → ReadsOn limits old new count a b → run b (recovery limits) ≡ Ok (moved_on old new count)
goes_on limits old new count a b is on =
    (λ i. run b (counted limits (on.turn i) (on.gate i)))
    ∙ goes_on_at limits old new count (content_length (a turn_file)) (content_length (a gate_file)) a b is on.later on.few (ap (λ (n : ℕ). run b (base_in new.manifest.epoch n)) (sym on.gate) ∙ on.base) on.rest

-- One entry more.
use Rattle.std.proofs.Common.{◌≡◌, ℕ, zero, suc, ◌+◌, ◌-◌, ◌≤◌, List, [], ◌∷◌, ◌++◌, Ok, sym, ◌∙◌, ap, subst, arith}
use Rattle.std.specs.List.{AllByRecursion}
use Rattle.gt_disk.specs.Files.{Files}
use Rattle.gt_disk.specs.Kinds.{gate_file, turn_file}
use Rattle.gt_log.specs.Log.{content_length}
use Rattle.gt_model.specs.declared.entry.Entry.{Entry}
use Rattle.gt_model.specs.declared.limits.Limits.{Limits}
use Rattle.gt_model.specs.Contents.{Content, after, after_all}
use Rattle.gt_reading.specs.Reading.{done, run, ◌>>=◌}
use Rattle.gt_reading.specs.Frames.{Agree}
use Rattle.gt_reading.proofs.Programs.{agree, run_then, split}
use Rattle.gt_base.specs.Entries.{entry_in, entries_in}
use Rattle.gt_base.specs.Held.{content_of}
use Rattle.gt_base.specs.Recovery.{Loaded, base_in, counted, recovery}
use Rattle.gt_ahead.specs.Files.{base_files, log_files, data_files_of}
use Rattle.gt_ahead.specs.Later.{with_entry, AddsOn}
use Rattle.gt_ahead.proofs.Asked.{asks_base, asks_entries, manifest_read}
use Rattle.gt_ahead.proofs.Lists.{all_front}
use Rattle.gt_ahead.proofs.Manifests.{base_any}
use Rattle.gt_ahead.proofs.Parts.{base_parts, parts_of, counted_is, log_in}

entries_more : (files : Files) (c : Content) (position more : ℕ) (log : List Entry) (e : Entry) → run files (entries_in c position more) ≡ Ok log → run files (entry_in (after_all c log) (position + more)) ≡ Ok e → run files (entries_in c position (suc more)) ≡ Ok (log ++ e ∷ [])
entries_more files c position zero log e is here =
    let none : [] ≡ log = cc (is) in
    let at : position + 0 ≡ position = omega arith in
    let entry : run files (entry_in c position) ≡ Ok e = subst (λ (l : List Entry). run files (entry_in (after_all c l) position) ≡ Ok e) (sym none) (subst (λ (n : ℕ). run files (entry_in (after_all c log) n) ≡ Ok e) at here) in
    run_then (entry_in c position) (λ x. entries_in (after c x) (position + 1) 0 >>= λ es. done (x ∷ es)) files e entry
    ∙ ap (λ (l : List Entry). Ok (l ++ e ∷ [])) none
entries_more files c position (suc more) log e is here =
    let first = split (entry_in c position) (λ x. entries_in (after c x) (position + 1) more >>= λ es. done (x ∷ es)) files log is in
    let rest = split (entries_in (after c first.first) (position + 1) more) (λ es. done (first.first ∷ es)) files log first.then_is in
    let same : first.first ∷ rest.first ≡ log = cc (rest.then_is) in
    let at : position + suc more ≡ position + 1 + more = omega arith in
    let entry : run files (entry_in (after_all (after c first.first) rest.first) (position + 1 + more)) ≡ Ok e = subst (λ (l : List Entry). run files (entry_in (after_all c l) (position + 1 + more)) ≡ Ok e) (sym same) (subst (λ (n : ℕ). run files (entry_in (after_all c log) n) ≡ Ok e) at here) in
    let later = entries_more files (after c first.first) (position + 1) more rest.first e rest.first_is entry in
    run_then (entry_in c position) (λ x. entries_in (after c x) (position + 1) (suc more) >>= λ es. done (x ∷ es)) files first.first first.first_is
    ∙ run_then (entries_in (after c first.first) (position + 1) (suc more)) (λ es. done (first.first ∷ es)) files (rest.first ++ e ∷ []) later
    ∙ ap (λ (l : List Entry). Ok (l ++ e ∷ [])) same

pub adds_on_at : (limits : Limits) (old : Loaded) (e : Entry) (epoch gate : ℕ) (a b : Files) → run a (counted limits epoch gate) ≡ Ok old → gate + 1 ≤ limits.positions → Agree a b (data_files_of old)
    → run b (entry_in (after_all (content_of old.base.repos) old.log) (gate + 1)) ≡ Ok e → run b (counted limits epoch (gate + 1)) ≡ Ok (with_entry old e)
adds_on_at limits old e epoch gate a b is within same entry =
    let p = parts_of limits a epoch gate old is in
    let low = (manifest_read a epoch gate old.base.manifest (base_parts a epoch gate old.base p.base).manifest).within in
    let both = all_front (λ f. b f ≡ a f) (base_files old.base.manifest) (log_files old.log) same in
    let base_b : run b (base_in epoch gate) ≡ Ok old.base = (agree (base_in epoch gate) a b (subst (AllByRecursion (λ f. b f ≡ a f)) (sym (asks_base a epoch gate old.base p.base)) both.0)).0 ∙ p.base in
    let log_b : run b (log_in gate old.base) ≡ Ok old.log =
    (agree (log_in gate old.base) a b
    (subst (AllByRecursion (λ f. b f ≡ a f)) (sym (asks_entries a (content_of old.base.repos) (old.base.manifest.applied + 1) (gate - old.base.manifest.applied) old.log p.log)) both.1)).0 ∙ p.log in
    let at : gate + 1 ≡ old.base.manifest.applied + 1 + (gate - old.base.manifest.applied) = omega (arith, low) in
    let more : run b (entries_in (content_of old.base.repos) (old.base.manifest.applied + 1) (suc (gate - old.base.manifest.applied))) ≡ Ok (old.log ++ e ∷ []) =
    entries_more b (content_of old.base.repos) (old.base.manifest.applied + 1) (gate - old.base.manifest.applied) old.log e log_b (subst (λ (n : ℕ). run b (entry_in (after_all (content_of old.base.repos) old.log) n) ≡ Ok e) at entry) in
    let left : gate + 1 - old.base.manifest.applied ≡ suc (gate - old.base.manifest.applied) = omega (arith, low) in
    let log : run b (log_in (gate + 1) old.base) ≡ Ok (old.log ++ e ∷ []) = ap (λ (n : ℕ). run b (entries_in (content_of old.base.repos) (old.base.manifest.applied + 1) n)) left ∙ more in
    counted_is limits b epoch (gate + 1) old.base (old.log ++ e ∷ []) within p.few (base_any b epoch gate (gate + 1) old.base base_b (omega (arith, low))) log

pub adds_on : (limits : Limits) (old : Loaded) (e : Entry) (a b : Files) → run a (recovery limits) ≡ Ok old → AddsOn limits old e a b → run b (recovery limits) ≡ Ok (with_entry old e)
adds_on limits old e a b is on =
    (λ i. run b (counted limits (on.turn i) (on.gate i)))
    ∙ adds_on_at limits old e (content_length (a turn_file)) (content_length (a gate_file)) a b is (omega (arith, on.within, on.gate)) on.same
    (subst (λ (n : ℕ). run b (entry_in (after_all (content_of old.base.repos) old.log) n) ≡ Ok e) on.gate on.entry)

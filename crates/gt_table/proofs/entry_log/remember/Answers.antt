use Rattle.std.proofs.Common.{◌≡◌, ℕ, ◌+◌, ◌<◌, ◌≤◌, List, [], ◌∷◌, ◌++◌, length, get_or, take, ap, ◌∙◌, sym, arith}
use Rattle.std.proofs.lemmas.List.{take_more, take_all, map-append, append_assoc}
use Rattle.std.specs.declared.snapshot.Snapshot.{Snapshot}
use Rattle.gt_model.specs.declared.entry.Entry.{Entry}
use Rattle.gt_table.specs.EntryLog.{gone_entries}
use Rattle.gt_table.proofs.entry_log.remember.Goals as goal

one_more : (first old new : List (Snapshot Entry)) (s : Snapshot Entry) (entries : List Entry) (i : ℕ) (e : Entry) → i < length entries → e ≡ get_or entries i e → s.value ≡ e → new ≡ old ++ s ∷ []
    → gone_entries old ≡ gone_entries first ++ take i entries → gone_entries new ≡ gone_entries first ++ take (i + 1) entries
one_more first old new s entries i e low at value more before =
    ap gone_entries more ∙ map-append (λ (s : Snapshot Entry). s.value) old (s ∷ []) ∙ ap (λ (l : List Entry). l ++ s.value ∷ []) before
    ∙ append_assoc (gone_entries first) (take i entries) (s.value ∷ [])
    ∙ ap (λ (l : List Entry). gone_entries first ++ l) (ap (λ (x : Entry). take i entries ++ x ∷ []) (value ∙ at) ∙ sym (take_more entries i e low))

pub loop-entry-preserved : goal.loop-entry-preserved
loop-entry-preserved c =
    let before = c.loop-entry.invariant in
    let more = c.in-Ok.ensures in
    record {
      items = one_more c.args.gone.now.items c.loop-entry.gone.items c.push.new.self.items c.of.result c.args.entries.now c.loop-entry.entry-index c.entry-item.result c.loop-entry-test.true c.entry-item.is c.of.ensures more.items before.items;
      len = omega arith;
      capacity = omega arith;
    }

pub returns : goal.returns
returns c =
    let before = c.loop-entry.invariant in
    let n = c.loop-entry.entry-index in
    let end : length c.args.entries.now ≤ n = c.loop-entry-test.false in
    record {
      items = before.items ∙ ap (λ (l : List Entry). gone_entries c.args.gone.now.items ++ l) (take_all n c.args.entries.now end);
      len = omega arith;
      capacity = before.capacity;
    }

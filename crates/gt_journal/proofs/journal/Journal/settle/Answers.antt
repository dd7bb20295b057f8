use Rattle.std.proofs.Common.{◌≡◌, ◌∙◌, ◌++◌, ◌+◌, ◌∷◌, [], ap, sym, refl, map, inl, inr, None, Some, subst}
use Rattle.gt_table.specs.Table.{Past, front}
use Rattle.gt_journal.specs.Ledger.{Ledger, ledger_of, past_floor}
use Rattle.gt_base.specs.Spelling.{encode}
use Rattle.gt_journal.specs.Carried.{IsMemory}
use Rattle.gt_journal.proofs.Memory.{memory_push}
use Rattle.gt_journal.proofs.Moves.{ledger_is, floor_kept, count_of, settling_as, settled_in, settled_out, still_in_doubt, settled_state}
use Rattle.gt_journal.proofs.journal.Journal.settle.Goals as goal

pub add-requires-clause-room : goal.add-requires-clause-room
add-requires-clause-room g c =
    let here : c.self.inside.doubt ≡ Some c.in-Some.entry = cc in
    c.self.inside.room c.in-Some.entry here

pub invariant_of-self-inside-in-Err : goal.invariant_of-self-inside-in-Err
invariant_of-self-inside-in-Err g c =
    let there : c.self.inside.doubt ≡ Some c.in-Some.entry = cc in (
      c.in-Err.ensures.err.0 ∙ c.self.inside.counts,
      (
        c.self.inside.unmoved,
        (
          c.in-Err.ensures.err.1,
          (
            (λ e is. c.self.inside.built e (there ∙ is)),
            ((λ e is. c.self.inside.after e (there ∙ is)), ((λ e is. c.self.inside.fit e (there ∙ is)), ((λ e is. c.self.inside.room e (there ∙ is)), tt))),
          ),
        ),
      ),
    )

pub invariant_of-self-in-Ok-true : goal.invariant_of-self-in-Ok-true
invariant_of-self-in-Ok-true g c =
    let l : Ledger = ledger_of c.self.inside.table c.self.inside.doubt c.self.inside.base c.self.inside.next in
    let u = c.in-Some.entry in
    let there : l.doubt ≡ Some u = cc in
    let gone : c.take.new.self ≡ None = cc in
    let items : c.add.new.self.past ≡ record l.past { log = l.past.log ++ u ∷ [] } = c.add.ensures.past in
    let stays = floor_kept c.add.new.self c.self.inside.table (ap (λ (p : Past). p.begin) c.add.ensures.past) c.add.ensures.gone in
    let good = c.self.invariant.doubt u there in
    let pushed = memory_push l u c.self.invariant (c.self.inside.after u there) (c.self.inside.fit u there) good.0 good.1 (c.self.inside.built u there) in
    subst (λ (x : Ledger). IsMemory x) (λ i. record { past = sym items i; floor = sym stays i; doubt = sym gone i; base = l.base; next = l.next }) pushed

pub returns-in-Ok-true-clause-moves : goal.returns-in-Ok-true-clause-moves
returns-in-Ok-true-clause-moves g c told =
    let old = c.args.self.now in
    let u = c.in-Some.entry in
    let past : c.self.inside.table.past ≡ old.past = ap (λ (l : Ledger). l.past) c.self.view_is in
    let there : c.self.inside.doubt ≡ Some u = cc in
    let here : old.doubt ≡ Some u = ap (λ (l : Ledger). l.doubt) (sym c.self.view_is) ∙ there in
    let based = ap (λ (l : Ledger). l.base) c.self.view_is in
    let next = ap (λ (l : Ledger). l.next) c.self.view_is in
    let gone : c.take.new.self ≡ None = cc in
    let items : c.add.new.self.past ≡ record old.past { log = old.past.log ++ u ∷ [] } = c.add.ensures.past ∙ ap (λ (p : Past). record p { log = p.log ++ u ∷ [] }) past in
    let floors = floor_kept c.add.new.self c.self.inside.table (ap (λ (p : Past). p.begin) c.add.ensures.past) c.add.ensures.gone ∙ ap (λ (l : Ledger). l.floor) c.self.view_is in
    let is = ledger_is old _ (old.past.log ++ u ∷ []) None items floors gone based next in
    let count = count_of c.self.inside.log.len (ledger_of c.self.inside.table c.self.inside.doubt c.self.inside.base c.self.inside.next) old c.self.view_is c.self.inside.counts c.self.invariant in
    λ limits before after.
    settling_as limits old _ _ before after _ _ is
    (settled_in limits old before after u c.settle.new.self.len _ _ here (c.in-Ok-true.ensures.any_moment told (old.floor + 1) (map encode (past_floor old)) (encode u) count)
    (rw c.in-Ok-true.field-0-test at (c.in-Ok-true.ensures.after told (old.floor + 1) (map encode (past_floor old)) (encode u) count)))

pub returns-in-Ok-false-clause-moves : goal.returns-in-Ok-false-clause-moves
returns-in-Ok-false-clause-moves g c told =
    let old = c.args.self.now in
    let u = c.in-Some.entry in
    let past : c.self.inside.table.past ≡ old.past = ap (λ (l : Ledger). l.past) c.self.view_is in
    let there : c.self.inside.doubt ≡ Some u = cc in
    let here : old.doubt ≡ Some u = ap (λ (l : Ledger). l.doubt) (sym c.self.view_is) ∙ there in
    let based = ap (λ (l : Ledger). l.base) c.self.view_is in
    let next = ap (λ (l : Ledger). l.next) c.self.view_is in
    let gone : c.take.new.self ≡ None = cc in
    let floors = ap (λ (l : Ledger). l.floor) c.self.view_is in
    let is = ledger_is old _ old.past.log None past floors gone based next in
    let count = count_of c.self.inside.log.len (ledger_of c.self.inside.table c.self.inside.doubt c.self.inside.base c.self.inside.next) old c.self.view_is c.self.inside.counts c.self.invariant in
    λ limits before after.
    settling_as limits old _ _ before after _ _ is
    (settled_out limits old before after u c.settle.new.self.len _ _ here (c.in-Ok-false.ensures.any_moment told (old.floor + 1) (map encode (past_floor old)) (encode u) count)
    (rw c.in-Ok-false.field-0-test at (c.in-Ok-false.ensures.after told (old.floor + 1) (map encode (past_floor old)) (encode u) count)))

pub returns-in-Err-clause-moves : goal.returns-in-Err-clause-moves
returns-in-Err-clause-moves g c told =
    let old = c.args.self.now in
    let u = c.in-Some.entry in
    let past : c.self.inside.table.past ≡ old.past = ap (λ (l : Ledger). l.past) c.self.view_is in
    let there : c.self.inside.doubt ≡ Some u = cc in
    let here : old.doubt ≡ Some u = ap (λ (l : Ledger). l.doubt) (sym c.self.view_is) ∙ there in
    let based = ap (λ (l : Ledger). l.base) c.self.view_is in
    let next = ap (λ (l : Ledger). l.next) c.self.view_is in
    let count = count_of c.self.inside.log.len (ledger_of c.self.inside.table c.self.inside.doubt c.self.inside.base c.self.inside.next) old c.self.view_is c.self.inside.counts c.self.invariant in
    λ limits before after.
    let floors = ap (λ (l : Ledger). l.floor) c.self.view_is in
    let is = ledger_is old _ old.past.log (Some u) past floors refl based next in
    settling_as limits old _ _ before after _ _ is
    (still_in_doubt limits old before after u _ _ here (c.in-Err.ensures.any_moment told (old.floor + 1) (map encode (past_floor old)) (encode u) count) (c.in-Err.ensures.after told (old.floor + 1) (map encode (past_floor old)) (encode u) count))

pub returns-in-Ok-true-clause-settles : goal.returns-in-Ok-true-clause-settles
returns-in-Ok-true-clause-settles g c pins =
    let old = c.args.self.now in
    let u = c.in-Some.entry in
    let past : c.self.inside.table.past ≡ old.past = ap (λ (l : Ledger). l.past) c.self.view_is in
    let there : c.self.inside.doubt ≡ Some u = cc in
    let here : old.doubt ≡ Some u = ap (λ (l : Ledger). l.doubt) (sym c.self.view_is) ∙ there in
    let based = ap (λ (l : Ledger). l.base) c.self.view_is in
    let next = ap (λ (l : Ledger). l.next) c.self.view_is in
    let gone : c.take.new.self ≡ None = cc in
    let items : c.add.new.self.past ≡ record old.past { log = old.past.log ++ u ∷ [] } = c.add.ensures.past ∙ ap (λ (p : Past). record p { log = p.log ++ u ∷ [] }) past in
    let floors = floor_kept c.add.new.self c.self.inside.table (ap (λ (p : Past). p.begin) c.add.ensures.past) c.add.ensures.gone ∙ ap (λ (l : Ledger). l.floor) c.self.view_is in
    let is = ledger_is old _ (old.past.log ++ u ∷ []) None items floors gone based next in
    settled_state old _ u pins here (inr is)

pub returns-in-Ok-false-clause-settles : goal.returns-in-Ok-false-clause-settles
returns-in-Ok-false-clause-settles g c pins =
    let old = c.args.self.now in
    let u = c.in-Some.entry in
    let past : c.self.inside.table.past ≡ old.past = ap (λ (l : Ledger). l.past) c.self.view_is in
    let there : c.self.inside.doubt ≡ Some u = cc in
    let here : old.doubt ≡ Some u = ap (λ (l : Ledger). l.doubt) (sym c.self.view_is) ∙ there in
    let based = ap (λ (l : Ledger). l.base) c.self.view_is in
    let next = ap (λ (l : Ledger). l.next) c.self.view_is in
    let gone : c.take.new.self ≡ None = cc in
    let floors = ap (λ (l : Ledger). l.floor) c.self.view_is in
    let is = ledger_is old _ old.past.log None past floors gone based next in
    settled_state old _ u pins here (inl is)

use Rattle.std.proofs.Common.{◌≡◌, ◌++◌, ◌+◌, [], ◌∷◌, refl, sym, map, ap, ◌∙◌, ⊎_elim, None, Some, arith, subst, IsTrue}
use Rattle.gt_table.specs.Table.{Past, base, front, content}
use Rattle.gt_base.specs.Spelling.{encode, IsSpelled}
use Rattle.gt_journal.specs.Ledger.{Ledger, ledger_of, past_floor, IsKept, state_of}
use Rattle.gt_journal.proofs.Moves.{ledger_is, floor_kept, count_of, moves_as, moves_done, moves_unsure, moves_not}
use Rattle.gt_journal.proofs.Memory.{memory_push}
use Rattle.gt_journal.proofs.Recovering.{kept_push}
use Rattle.gt_journal.specs.Carried.{IsMemory}
use Rattle.gt_entry.specs.Fits.{IsEntry}
use Rattle.gt_model.specs.Contents.{fits}
use Rattle.gt_journal.proofs.journal.Journal.add.Goals as goal

pub invariant_of-self-in-Ok : goal.invariant_of-self-in-Ok
invariant_of-self-in-Ok g c =
    let l : Ledger = ledger_of c.self.inside.table c.self.inside.doubt c.self.inside.base c.self.inside.next in
    let u = c.args.entry in
    let past : l.past ≡ c.args.self.now.past = ap (λ (x : Ledger). x.past) c.self.view_is in
    let none : l.doubt ≡ None = ap (λ (x : Ledger). x.doubt) c.self.view_is ∙ c.requires.settled in
    let items : c.add.new.self.past ≡ record l.past { log = l.past.log ++ u ∷ [] } = c.add.ensures.past ∙ ap (λ (p : Past). record p { log = p.log ++ u ∷ [] }) c.prepare.ensures.same in
    let stays = floor_kept c.add.new.self c.self.inside.table (ap (λ (p : Past). p.begin) (c.add.ensures.past ∙ ap (λ (p : Past). record p { log = p.log ++ u ∷ [] }) c.prepare.ensures.same)) (c.add.ensures.gone ∙ c.prepare.ensures.gone) in
    let typed : IsEntry u = ⊎_elim (λ none. absurd (cc (none))) (λ is. is) c.in-Ok.ensures.typed in
    let pushed = memory_push l u c.self.invariant (c.requires.next ∙ ap (λ (p : Past). front p + 1) (sym past)) (subst (λ (p : Past). IsTrue (fits (content p) u)) (sym past) c.requires.fit) typed c.requires.spelled c.requires.built in
    subst (λ (x : Ledger). IsMemory x) (λ i. record { past = sym items i; floor = sym stays i; doubt = sym none i; base = l.base; next = l.next }) pushed

pub returns-in-Ok-clause-ok : goal.returns-in-Ok-clause-ok
returns-in-Ok-clause-ok g c =
    let old = c.args.self.now in
    let u = c.args.entry in
    let past : c.self.inside.table.past ≡ old.past = ap (λ (l : Ledger). l.past) c.self.view_is in
    let none : c.self.inside.doubt ≡ None = ap (λ (l : Ledger). l.doubt) c.self.view_is ∙ c.requires.settled in
    let based = ap (λ (l : Ledger). l.base) c.self.view_is in
    let next = ap (λ (l : Ledger). l.next) c.self.view_is in
    let items : c.add.new.self.past ≡ record old.past { log = old.past.log ++ u ∷ [] } = c.add.ensures.past ∙ ap (λ (p : Past). record p { log = p.log ++ u ∷ [] }) (c.prepare.ensures.same ∙ past) in
    let floors = floor_kept c.add.new.self c.self.inside.table (ap (λ (p : Past). p.begin) (c.add.ensures.past ∙ ap (λ (p : Past). record p { log = p.log ++ u ∷ [] }) c.prepare.ensures.same)) (c.add.ensures.gone ∙ c.prepare.ensures.gone) ∙ ap (λ (l : Ledger). l.floor) c.self.view_is in
    let is = ledger_is old _ (old.past.log ++ u ∷ []) None items floors none based next in
    is

pub returns-in-Err-Untouched-clause-err : goal.returns-in-Err-Untouched-clause-err
returns-in-Err-Untouched-clause-err g c =
    let old = c.args.self.now in
    let u = c.args.entry in
    let past : c.self.inside.table.past ≡ old.past = ap (λ (l : Ledger). l.past) c.self.view_is in
    let none : c.self.inside.doubt ≡ None = ap (λ (l : Ledger). l.doubt) c.self.view_is ∙ c.requires.settled in
    let based = ap (λ (l : Ledger). l.base) c.self.view_is in
    let next = ap (λ (l : Ledger). l.next) c.self.view_is in
    let floors = floor_kept c.prepare.new.self c.self.inside.table (ap (λ (p : Past). p.begin) c.prepare.ensures.same) c.prepare.ensures.gone ∙ ap (λ (l : Ledger). l.floor) c.self.view_is in
    let is = ledger_is old _ old.past.log None (c.prepare.ensures.same ∙ past) floors none based next in
    is

pub returns-in-Err-Memory-clause-err : goal.returns-in-Err-Memory-clause-err
returns-in-Err-Memory-clause-err g c =
    let old = c.args.self.now in
    let u = c.args.entry in
    let past : c.self.inside.table.past ≡ old.past = ap (λ (l : Ledger). l.past) c.self.view_is in
    let none : c.self.inside.doubt ≡ None = ap (λ (l : Ledger). l.doubt) c.self.view_is ∙ c.requires.settled in
    let based = ap (λ (l : Ledger). l.base) c.self.view_is in
    let next = ap (λ (l : Ledger). l.next) c.self.view_is in
    let floors = floor_kept c.prepare.new.self c.self.inside.table (ap (λ (p : Past). p.begin) c.prepare.ensures.same) c.prepare.ensures.gone ∙ ap (λ (l : Ledger). l.floor) c.self.view_is in
    let is = ledger_is old _ old.past.log None (c.prepare.ensures.same ∙ past) floors none based next in
    is

pub returns-in-Err-Unsure-clause-err : goal.returns-in-Err-Unsure-clause-err
returns-in-Err-Unsure-clause-err g c =
    let old = c.args.self.now in
    let u = c.args.entry in
    let past : c.self.inside.table.past ≡ old.past = ap (λ (l : Ledger). l.past) c.self.view_is in
    let none : c.self.inside.doubt ≡ None = ap (λ (l : Ledger). l.doubt) c.self.view_is ∙ c.requires.settled in
    let based = ap (λ (l : Ledger). l.base) c.self.view_is in
    let next = ap (λ (l : Ledger). l.next) c.self.view_is in
    let floors = floor_kept c.prepare.new.self c.self.inside.table (ap (λ (p : Past). p.begin) c.prepare.ensures.same) c.prepare.ensures.gone ∙ ap (λ (l : Ledger). l.floor) c.self.view_is in
    let is = ledger_is old _ old.past.log (Some u) (c.prepare.ensures.same ∙ past) floors refl based next in
    is

pub returns-in-Ok-clause-moves : goal.returns-in-Ok-clause-moves
returns-in-Ok-clause-moves g c told before after =
    let old = c.args.self.now in
    let u = c.args.entry in
    let past : c.self.inside.table.past ≡ old.past = ap (λ (l : Ledger). l.past) c.self.view_is in
    let none : c.self.inside.doubt ≡ None = ap (λ (l : Ledger). l.doubt) c.self.view_is ∙ c.requires.settled in
    let based = ap (λ (l : Ledger). l.base) c.self.view_is in
    let next = ap (λ (l : Ledger). l.next) c.self.view_is in
    let count = count_of c.self.inside.log.len (ledger_of c.self.inside.table c.self.inside.doubt c.self.inside.base c.self.inside.next) old c.self.view_is c.self.inside.counts c.self.invariant in
    let items : c.add.new.self.past ≡ record old.past { log = old.past.log ++ u ∷ [] } = c.add.ensures.past ∙ ap (λ (p : Past). record p { log = p.log ++ u ∷ [] }) (c.prepare.ensures.same ∙ past) in
    let floors = floor_kept c.add.new.self c.self.inside.table (ap (λ (p : Past). p.begin) (c.add.ensures.past ∙ ap (λ (p : Past). record p { log = p.log ++ u ∷ [] }) c.prepare.ensures.same)) (c.add.ensures.gone ∙ c.prepare.ensures.gone) ∙ ap (λ (l : Ledger). l.floor) c.self.view_is in
    let is = ledger_is old _ (old.past.log ++ u ∷ []) None items floors none based next in
    let spelled : IsSpelled u = ⊎_elim (λ none. absurd (cc (none))) (λ is. is) (c.in-Ok.ensures.spelled) in
    let legal : IsKept (base old.past) (old.past.begin + 1) old.past.log → IsKept (base old.past) (old.past.begin + 1) (old.past.log ++ u ∷ []) = λ kept. kept_push (base old.past) (old.past.begin + 1) old.past.log u kept (omega (arith, c.requires.next)) spelled c.requires.fit in
    moves_as c.args.limits.now old _ _ before after _ _ is
    (moves_done c.args.limits.now old before after u _ _ c.requires.settled legal c.requires.room (c.in-Ok.ensures.any_moment told (old.floor + 1) (map encode (past_floor old)) count) (c.in-Ok.ensures.after told (old.floor + 1) (map encode (past_floor old)) count))

pub returns-in-Err-Untouched-clause-moves : goal.returns-in-Err-Untouched-clause-moves
returns-in-Err-Untouched-clause-moves g c told before after =
    let old = c.args.self.now in
    let u = c.args.entry in
    let past : c.self.inside.table.past ≡ old.past = ap (λ (l : Ledger). l.past) c.self.view_is in
    let none : c.self.inside.doubt ≡ None = ap (λ (l : Ledger). l.doubt) c.self.view_is ∙ c.requires.settled in
    let based = ap (λ (l : Ledger). l.base) c.self.view_is in
    let next = ap (λ (l : Ledger). l.next) c.self.view_is in
    let count = count_of c.self.inside.log.len (ledger_of c.self.inside.table c.self.inside.doubt c.self.inside.base c.self.inside.next) old c.self.view_is c.self.inside.counts c.self.invariant in
    let floors = floor_kept c.prepare.new.self c.self.inside.table (ap (λ (p : Past). p.begin) c.prepare.ensures.same) c.prepare.ensures.gone ∙ ap (λ (l : Ledger). l.floor) c.self.view_is in
    let is = ledger_is old _ old.past.log None (c.prepare.ensures.same ∙ past) floors none based next in
    let any_moment = rw c.in-Err-Untouched.field-0-is at c.in-Err-Untouched.ensures.any_moment in
    let later = rw c.in-Err-Untouched.field-0-is at c.in-Err-Untouched.ensures.after in
    moves_as c.args.limits.now old _ _ before after _ _ is
    (moves_not c.args.limits.now old before after _ _ c.requires.settled (any_moment told (old.floor + 1) (map encode (past_floor old)) count) (later told (old.floor + 1) (map encode (past_floor old)) count))

pub returns-in-Err-Memory-clause-moves : goal.returns-in-Err-Memory-clause-moves
returns-in-Err-Memory-clause-moves g c told before after =
    let old = c.args.self.now in
    let u = c.args.entry in
    let past : c.self.inside.table.past ≡ old.past = ap (λ (l : Ledger). l.past) c.self.view_is in
    let none : c.self.inside.doubt ≡ None = ap (λ (l : Ledger). l.doubt) c.self.view_is ∙ c.requires.settled in
    let based = ap (λ (l : Ledger). l.base) c.self.view_is in
    let next = ap (λ (l : Ledger). l.next) c.self.view_is in
    let count = count_of c.self.inside.log.len (ledger_of c.self.inside.table c.self.inside.doubt c.self.inside.base c.self.inside.next) old c.self.view_is c.self.inside.counts c.self.invariant in
    let floors = floor_kept c.prepare.new.self c.self.inside.table (ap (λ (p : Past). p.begin) c.prepare.ensures.same) c.prepare.ensures.gone ∙ ap (λ (l : Ledger). l.floor) c.self.view_is in
    let is = ledger_is old _ old.past.log None (c.prepare.ensures.same ∙ past) floors none based next in
    let any_moment = rw c.in-Err-Memory.field-0-is at c.in-Err-Memory.ensures.any_moment in
    let later = rw c.in-Err-Memory.field-0-is at c.in-Err-Memory.ensures.after in
    moves_as c.args.limits.now old _ _ before after _ _ is
    (moves_not c.args.limits.now old before after _ _ c.requires.settled (any_moment told (old.floor + 1) (map encode (past_floor old)) count) (later told (old.floor + 1) (map encode (past_floor old)) count))

pub returns-in-Err-Unsure-clause-moves : goal.returns-in-Err-Unsure-clause-moves
returns-in-Err-Unsure-clause-moves g c told before after =
    let old = c.args.self.now in
    let u = c.args.entry in
    let past : c.self.inside.table.past ≡ old.past = ap (λ (l : Ledger). l.past) c.self.view_is in
    let none : c.self.inside.doubt ≡ None = ap (λ (l : Ledger). l.doubt) c.self.view_is ∙ c.requires.settled in
    let based = ap (λ (l : Ledger). l.base) c.self.view_is in
    let next = ap (λ (l : Ledger). l.next) c.self.view_is in
    let count = count_of c.self.inside.log.len (ledger_of c.self.inside.table c.self.inside.doubt c.self.inside.base c.self.inside.next) old c.self.view_is c.self.inside.counts c.self.invariant in
    let floors = floor_kept c.prepare.new.self c.self.inside.table (ap (λ (p : Past). p.begin) c.prepare.ensures.same) c.prepare.ensures.gone ∙ ap (λ (l : Ledger). l.floor) c.self.view_is in
    let is = ledger_is old _ old.past.log (Some u) (c.prepare.ensures.same ∙ past) floors refl based next in
    let any_moment = rw c.in-Err-Unsure.field-0-is at c.in-Err-Unsure.ensures.any_moment in
    let later = rw c.in-Err-Unsure.field-0-is at c.in-Err-Unsure.ensures.after in
    let said = rw c.in-Err-Unsure.field-0-is at c.in-Err-Unsure.ensures.spelled in
    let spelled : IsSpelled u = ⊎_elim (λ none. absurd (cc (none))) (λ is. is) said in
    let legal : IsKept (base old.past) (old.past.begin + 1) old.past.log → IsKept (base old.past) (old.past.begin + 1) (old.past.log ++ u ∷ []) = λ kept. kept_push (base old.past) (old.past.begin + 1) old.past.log u kept (omega (arith, c.requires.next)) spelled c.requires.fit in
    moves_as c.args.limits.now old _ _ before after _ _ is
    (moves_unsure c.args.limits.now old before after u _ _ c.requires.settled legal c.requires.room (any_moment told (old.floor + 1) (map encode (past_floor old)) count) (later told (old.floor + 1) (map encode (past_floor old)) count))

pub returns-in-Ok-clause-added : goal.returns-in-Ok-clause-added
returns-in-Ok-clause-added g c before after =
    let old = c.args.self.now in
    let u = c.args.entry in
    let past : c.self.inside.table.past ≡ old.past = ap (λ (l : Ledger). l.past) c.self.view_is in
    let none : c.self.inside.doubt ≡ None = ap (λ (l : Ledger). l.doubt) c.self.view_is ∙ c.requires.settled in
    let based = ap (λ (l : Ledger). l.base) c.self.view_is in
    let next = ap (λ (l : Ledger). l.next) c.self.view_is in
    let items : c.add.new.self.past ≡ record old.past { log = old.past.log ++ u ∷ [] } = c.add.ensures.past ∙ ap (λ (p : Past). record p { log = p.log ++ u ∷ [] }) (c.prepare.ensures.same ∙ past) in
    let floors = floor_kept c.add.new.self c.self.inside.table (ap (λ (p : Past). p.begin) (c.add.ensures.past ∙ ap (λ (p : Past). record p { log = p.log ++ u ∷ [] }) c.prepare.ensures.same)) (c.add.ensures.gone ∙ c.prepare.ensures.gone) ∙ ap (λ (l : Ledger). l.floor) c.self.view_is in
    let is = ledger_is old _ (old.past.log ++ u ∷ []) None items floors none based next in
    ap (λ (l : Ledger). state_of l after) is

use Rattle.gt_table.specs.Table.{front}
use Rattle.std.proofs.Common.{arith, ◌≡◌, inl, inr, ⊎_elim, nat_eq, is_some, Option, Result, Ok, refl, sym, ap, subst, ◌∙◌}
use Rattle.gt_journal.specs.Ledger.{front_of}
use Rattle.sha1.specs.Sha1.{sha1}
use Rattle.gt_model.specs.declared.done.Done.{Done}
use Rattle.gt_model.specs.declared.done.Done.TheVariants.{Finished}
use Rattle.gt_model.specs.declared.refusal.Refusal.{Refusal}
use Rattle.gt_model.specs.Machine.{Pin, pin_of as pin_in}
use Rattle.gt_objset.specs.declared.place.Place.{Place}
use Rattle.gt_pins.specs.Live.{pin_of}
use Rattle.gt_pins.proofs.Positions.{reads_found}
use Rattle.gt_places.specs.Reading.{IsRecordOf, piece}
use Rattle.gt_act.specs.PartitionState.{state_of}
use Rattle.gt_act.specs.Cat.{CatHappens, CatGives}
use Rattle.gt_act.proofs.Looking.{object_read, object_absent, object_without_memory, object_by_fault, object_damaged, held_so}
use Rattle.gt_act.proofs.Stepping.{found_pin}
use Rattle.gt_act.proofs.objects.cat.Goals as goal

pub place_at-requires : goal.place_at-requires
place_at-requires g c =
    let r = reads_found c.args.state.now.journal.floor (front_of c.args.state.now.journal) (λ (p : Pin). nat_eq p.number c.args.pin.now) c.args.state.now.live (pin_of c.get-live.result.now) c.args.state.now.reads c.get-live.ensures in
    record { from = omega (arith, r.0, c.table.ensures.floor); to = omega (arith, r.1, ap front c.table.ensures.past) }

pub returns-in_default-clause-happens : goal.returns-in_default-clause-happens
returns-in_default-clause-happens g c =
    let l = c.args.state.now.journal in
    let pins = c.args.state.now.live in
    let p = pin_of c.get-live.result.now in
    let here : pin_in (state_of c.args.state.now) c.args.pin.now ≡ p = found_pin l pins c.args.pin.now p c.get-live.ensures in
    let limits = c.args.limits.now in
    let hidden = ap (λ (o : Option Place). is_some o) (sym c.in_default.is) ∙ (rw c.table.ensures.past at c.place_at.ensures.visible) in
    subst (λ (a : Result Done Refusal). CatHappens limits (state_of c.args.state.now) c.args.pin.now c.args.name.now a) (sym c.of.ensures.answer) (object_absent limits l pins c.args.pin.now c.requires p here c.args.name.now hidden)

pub returns-in-Ok-clause-happens : goal.returns-in-Ok-clause-happens
returns-in-Ok-clause-happens g c =
    let l = c.args.state.now.journal in
    let pins = c.args.state.now.live in
    let p = pin_of c.get-live.result.now in
    let here : pin_in (state_of c.args.state.now) c.args.pin.now ≡ p = found_pin l pins c.args.pin.now p c.get-live.ensures in
    let limits = c.args.limits.now in
    let visible = ap (λ (o : Option Place). is_some o) (sym c.in-Some.is) ∙ (rw c.table.ensures.past at c.place_at.ensures.visible) in
    object_read limits l pins c.args.pin.now c.requires p here c.args.name.now c.in-Ok.whole visible c.in-Ok.ensures.named

pub returns-in-Ok-clause-kept : goal.returns-in-Ok-clause-kept
returns-in-Ok-clause-kept g c =
    let l = c.args.state.now.journal in
    let pins = c.args.state.now.live in
    let p = pin_of c.get-live.result.now in
    let here : pin_in (state_of c.args.state.now) c.args.pin.now ≡ p = found_pin l pins c.args.pin.now p c.get-live.ensures in
    let limits = c.args.limits.now in
    c.answer.ensures ∙ ap (λ (q : Pin). Ok (Finished q.position)) (sym here)

pub returns-in-Ok-clause-gives : goal.returns-in-Ok-clause-gives
returns-in-Ok-clause-gives g c told =
    let l = c.args.state.now.journal in
    let pins = c.args.state.now.live in
    let p = pin_of c.get-live.result.now in
    let here : pin_in (state_of c.args.state.now) c.args.pin.now ≡ p = found_pin l pins c.args.pin.now p c.get-live.ensures in
    let limits = c.args.limits.now in
    let at = sym (rw c.table.ensures.past at (c.place_at.ensures.unmoved c.table.ensures.unmoved)) ∙ c.in-Some.is in
    held_so limits l pins c.args.pin.now c.requires p here c.args.name.now c.in-Some.place (λ (place : Place). c.in-Ok.whole ≡ piece ((g.D.Disk.view c.args.disk.now).reads place.file) place) at
    (c.in-Ok.ensures.fetches told).0

pub returns-in-Err-Failed-clause-happens : goal.returns-in-Err-Failed-clause-happens
returns-in-Err-Failed-clause-happens g c =
    let l = c.args.state.now.journal in
    let pins = c.args.state.now.live in
    let p = pin_of c.get-live.result.now in
    let here : pin_in (state_of c.args.state.now) c.args.pin.now ≡ p = found_pin l pins c.args.pin.now p c.get-live.ensures in
    let limits = c.args.limits.now in
    let visible = ap (λ (o : Option Place). is_some o) (sym c.in-Some.is) ∙ (rw c.table.ensures.past at c.place_at.ensures.visible) in
    subst (λ (a : Result Done Refusal). CatHappens limits (state_of c.args.state.now) c.args.pin.now c.args.name.now a) (sym c.of-in-Err-Failed.ensures.answer) (object_by_fault limits l pins c.args.pin.now c.requires p here c.args.name.now visible)

pub returns-in-Err-Damaged-clause-happens : goal.returns-in-Err-Damaged-clause-happens
returns-in-Err-Damaged-clause-happens g c =
    let l = c.args.state.now.journal in
    let pins = c.args.state.now.live in
    let p = pin_of c.get-live.result.now in
    let here : pin_in (state_of c.args.state.now) c.args.pin.now ≡ p = found_pin l pins c.args.pin.now p c.get-live.ensures in
    let limits = c.args.limits.now in
    let visible = ap (λ (o : Option Place). is_some o) (sym c.in-Some.is) ∙ (rw c.table.ensures.past at c.place_at.ensures.visible) in
    subst (λ (a : Result Done Refusal). CatHappens limits (state_of c.args.state.now) c.args.pin.now c.args.name.now a) (sym c.of-in-Err-Damaged.ensures.answer)
    (object_damaged limits l pins c.args.pin.now c.requires p here c.args.name.now c.in-Some.place.file _ visible)

pub returns-in-Err-Damaged-clause-gives : goal.returns-in-Err-Damaged-clause-gives
returns-in-Err-Damaged-clause-gives g c told =
    let l = c.args.state.now.journal in
    let pins = c.args.state.now.live in
    let p = pin_of c.get-live.result.now in
    let here : pin_in (state_of c.args.state.now) c.args.pin.now ≡ p = found_pin l pins c.args.pin.now p c.get-live.ensures in
    let limits = c.args.limits.now in
    let files = (g.D.Disk.view c.args.disk.now).reads in
    let at = sym (rw c.table.ensures.past at (c.place_at.ensures.unmoved c.table.ensures.unmoved)) ∙ c.in-Some.is in
    let fetches = rw c.in-Err-Damaged.field-0-is at c.in-Err-Damaged.ensures.fetches in
    let held = held_so limits l pins c.args.pin.now c.requires p here c.args.name.now c.in-Some.place (λ (place : Place). (c.in-Some.place.file ≡ place.file) × (c.in-Some.place.at ≡ place.at) × (IsRecordOf c.args.name.now (piece (files place.file) place) → ⊥)) at
    (refl, refl, fetches told) in
    subst (λ (a : Result Done Refusal). CatGives c.args.state.now.journal.past (state_of c.args.state.now) c.args.pin.now c.args.name.now files a) (sym c.of-in-Err-Damaged.ensures.answer) held

pub returns-in-Err-Memory-clause-happens : goal.returns-in-Err-Memory-clause-happens
returns-in-Err-Memory-clause-happens g c =
    let l = c.args.state.now.journal in
    let pins = c.args.state.now.live in
    let p = pin_of c.get-live.result.now in
    let here : pin_in (state_of c.args.state.now) c.args.pin.now ≡ p = found_pin l pins c.args.pin.now p c.get-live.ensures in
    let limits = c.args.limits.now in
    subst (λ (a : Result Done Refusal). CatHappens limits (state_of c.args.state.now) c.args.pin.now c.args.name.now a) (sym c.of-in-Err-Memory.ensures.answer) (object_without_memory limits l pins c.args.pin.now c.requires p here c.args.name.now)

pub returns-in-Err-Memory-clause-memory : goal.returns-in-Err-Memory-clause-memory
returns-in-Err-Memory-clause-memory g c told is =
    let l = c.args.state.now.journal in
    let pins = c.args.state.now.live in
    let p = pin_of c.get-live.result.now in
    let here : pin_in (state_of c.args.state.now) c.args.pin.now ≡ p = found_pin l pins c.args.pin.now p c.get-live.ensures in
    let files = (g.D.Disk.view c.args.disk.now).reads in
    let at = sym (rw c.table.ensures.past at (c.place_at.ensures.unmoved c.table.ensures.unmoved)) ∙ c.in-Some.is in
    let wants = rw c.in-Err-Memory.field-0-is at c.in-Err-Memory.ensures.memory in
    ⊎_elim (λ same. inl same) (λ named. inr (held_so c.args.limits.now l pins c.args.pin.now c.requires p here c.args.name.now c.in-Some.place (λ (place : Place). sha1 (piece (files place.file) place) ≡ c.args.name.now) at named)) (wants told refl)

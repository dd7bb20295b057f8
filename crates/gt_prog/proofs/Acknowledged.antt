-- The positions that lines were answered are in the log that they have come to.
use Rattle.std.proofs.Common.{◌≡◌, inl, inr, ℕ, ◌≤◌, List, [], ◌∷◌, Option, Result, Ok, refl, sym, ap, subst, arith}
use Rattle.std.specs.List.{AllByRecursion}
use Rattle.gt_disk.specs.Files.{Files, View, now}
use Rattle.gt_model.specs.declared.done.Done.{Done}
use Rattle.gt_model.specs.declared.event.Event.{Event}
use Rattle.gt_model.specs.declared.limits.Limits.{Limits}
use Rattle.gt_model.specs.declared.refusal.Refusal.{Refusal}
use Rattle.gt_model.specs.declared.who.Who.{Who}
use Rattle.gt_model.specs.Histories.{position, last_state}
use Rattle.gt_model.specs.Machine.{State, Recovered, IsInOrder, opening, front}
use Rattle.gt_model.proofs.Steps.{step_grows, step_acked, grown_longer}
use Rattle.gt_model.proofs.Openings.{opening_order, opening_part}
use Rattle.gt_history.proofs.Parts.{recovered_long}
use Rattle.gt_journal.specs.Histories.{Gives, Holds}
use Rattle.gt_base.specs.Recovery.{recover}
use Rattle.gt_script.specs.declared.form.Form.{Form}
use Rattle.gt_script.specs.declared.form.Form.TheVariants.{Restart}
use Rattle.gt_prog.specs.Lines.{Line, Past, Stand, Happened, Restarts, LineBy, AreLines, IsEnd}
use Rattle.gt_prog.specs.Replay.{KeepsAnswers}
use Rattle.gt_prog.proofs.Faultless.{requests_keeps, requests_names, give_up_keeps}

-- its history has come to its state, which is in order
pub record IsPast (start : State) (p : Past) : Type 0 where
  pub leads : last_state start p.happened ≡ p.state
  pub order : IsInOrder p.state

-- a past that goes on, whose log grows
abbrev GoesOn : State → Past → Past → Type 0
GoesOn start p q = IsPast start p → IsPast start q × (front p.state ≤ front q.state)

module _ (limits : Limits) (start : State) where
  same_past : (p q : Past) → q ≡ p → GoesOn start p q
  same_past p q same is = subst (λ (x : Past). IsPast start x × (front p.state ≤ front x.state)) (sym same) (is, omega arith)

  happened_on : (partition : ℕ) (who : Who) (e : Event) (a : Result Done Refusal) (given : Option ℕ) (p q : Past) → Happened limits partition who e a given p q → GoesOn start p q
  happened_on partition who e a given p q (here, gives, step, inl told) is =
      let g = step_grows limits p.state e a q.state is.order step in
      (record { leads = ap (last_state start) told.1; order = g.order }, grown_longer p.state q.state g)
  happened_on partition who e a given p q (here, gives, step, inr none) is = same_past p q none.1 is

  happened_names : (partition : ℕ) (who : Who) (e : Event) (a : Result Done Refusal) (given : Option ℕ) (p q : Past) → Happened limits partition who e a given p q → IsPast start p → position a ≤ front q.state
  happened_names partition who e a given p q h is = step_acked limits p.state e a q.state is.order h.2

  -- ---- one line

  restarts_on : (l : Line) (old new : Stand) → Restarts l old new → GoesOn start old.past new.past
  restarts_on l old new r is =
      let g = opening_part old.past.state new.past.state is.order r.settles in
      (record { leads = ap (last_state start) r.happened; order = g.0 }, g.1.longer)

  line_on : (form : Form) (l : Line) (old new : Stand) → LineBy limits form l old new → GoesOn start old.past new.past
  line_on Restart l old new h = restarts_on l old new h
  line_on form l old new h = requests_keeps (Happened limits) old.past new.past (GoesOn start old.past new.past) (same_past old.past new.past) (λ partition who e a given. happened_on partition who e a given old.past new.past) l.number l.request.session l.request.form l.answer old.sessions new.sessions h

  line_names : (form : Form) (l : Line) (old new : Stand) → LineBy limits form l old new → IsPast start old.past → position l.answer ≤ front new.past.state
  line_names Restart l old new h is = let none : position l.answer ≡ 0 = ap position h.answer in omega (arith, none)
  line_names form l old new h is =
      requests_names (Happened limits) old.past new.past (front new.past.state) (λ partition who e a given happened. happened_names partition who e a given old.past new.past happened is) l.number l.request.session l.request.form l.answer old.sessions new.sessions h

  -- ---- all lines

  abbrev AreNamed : ℕ → List Line → Type 0
  AreNamed n lines = AllByRecursion (λ l. position l.answer ≤ n) lines

  pub still_named : (n m : ℕ) (lines : List Line) → n ≤ m → AreNamed n lines → AreNamed m lines
  still_named n m [] le named = tt
  still_named n m (l ∷ ls) le named = (omega (arith, le, named.0), still_named n m ls le named.1)

  pub lines_named : (lines : List Line) (old new : Stand) → AreLines limits lines old new → IsPast start old.past → IsPast start new.past × (front old.past.state ≤ front new.past.state) × AreNamed (front new.past.state) lines
  lines_named [] old new is past = subst (λ (s : Stand). IsPast start s.past × (front old.past.state ≤ front s.past.state) × AreNamed (front s.past.state) []) (sym is) (past, omega arith, tt)
  lines_named (l ∷ ls) old new (mid, one, more) past =
      let g = line_on l.request.form l old mid one past in
      let rest = lines_named ls mid new more g.0 in
      (rest.0, omega (arith, g.1, rest.1), (omega (arith, line_names l.request.form l old mid one past, rest.1), rest.2))

  pub end_named : (stand : Stand) (end : Past) → IsEnd limits stand end → GoesOn start stand.past end
  end_named stand end h = give_up_keeps (Happened limits) (GoesOn start) (λ p. same_past p p refl)
      (λ p q r first then is. let a = first is in let b = then a.0 in (b.0, omega (arith, a.1, b.1))) happened_on stand.sessions stand.past end h

  -- ---- on the disk

  image_named : (s : State) (v : View) (image : Files) (lines : List Line) → IsInOrder s → Gives limits s (now v) image → AreNamed (front s) lines → (r : Recovered) × (recover limits image ≡ Ok r) × AreNamed (front (opening r)) lines
  image_named s v image lines order (r, is, may, keeps) named = (r, is, still_named (front s) (front (opening r)) lines (recovered_long s r order may) named)

  pub answers_kept : (begin : ℕ) (p : Past) (v : View) (lines : List Line) → Holds limits start begin p.happened v → IsPast start p → AreNamed (front p.state) lines → KeepsAnswers limits v lines
  answers_kept begin p v lines holds is named image im =
      image_named p.state v image lines is.order (subst (λ (s : State). Gives limits s (now v) image) is.leads (holds.ends.gives image im)) named

-- where a history begins
pub begins : (r : Recovered) → IsPast (opening r) (record { state = opening r; happened = [] })
begins r = record { leads = refl; order = opening_order r }

-- What happened before changes nothing of what happens: lines over what was done earlier.
use Rattle.std.proofs.Common.{◌≡◌, inl, inr, ℕ, List, [], ◌∷◌, ◌++◌, Option, Result, true, ap, subst}
use Rattle.gt_model.specs.declared.done.Done.{Done}
use Rattle.gt_model.specs.declared.event.Event.{Event}
use Rattle.gt_model.specs.declared.limits.Limits.{Limits}
use Rattle.gt_model.specs.declared.refusal.Refusal.{Refusal}
use Rattle.gt_model.specs.declared.who.Who.{Who}
use Rattle.gt_model.specs.Histories.{Happening}
use Rattle.gt_script.specs.declared.form.Form.{Form}
use Rattle.gt_script.specs.declared.form.Form.TheVariants.{Restart}
use Rattle.gt_session.specs.Courses.{MapEvent, has_course}
use Rattle.gt_session.proofs.Mapping.{requests_map, give_up_map}
use Rattle.gt_prog.specs.One.{Mapped}
use Rattle.gt_prog.specs.Lines.{Past, Stand, Line, Happened, Restarts, Asked, LineBy, AreLines, IsEnd}

abbrev pub over : List Happening → Past → Past
over older p = record { state = p.state; happened = p.happened ++ older }

abbrev pub stand_over : List Happening → Stand → Stand
stand_over older s = record { sessions = s.sessions; past = over older s.past }

module _ (limits : Limits) (older : List Happening) where
  pub happened_over : (partition : ℕ) (who : Who) (e : Event) (a : Result Done Refusal) (given : Option ℕ) (p q : Past) → Happened limits partition who e a given p q → Happened limits partition who e a given (over older p) (over older q)
  happened_over partition who e a given p q (here, gives, step, inl told) = (here, gives, step, inl (told.0, ap (λ (l : List Happening). l ++ older) told.1))
  happened_over partition who e a given p q (here, gives, step, inr none) = (here, gives, step, inr (none.0, ap (over older) none.1))

  mapped_over : (who : Who) (path : List ℕ) (e : MapEvent) (found : Result (Option ℕ) Refusal) (p q : Past) → Mapped who path e found p q → Mapped who path e found (over older p) (over older q)
  mapped_over who path e found p q (is, same) = (is, ap (over older) same)

  restarts_over : (line : Line) (old new : Stand) → Restarts line old new → Restarts line (stand_over older old) (stand_over older new)
  restarts_over line old new r = record {
    answer = r.answer;
    sessions = r.sessions;
    settles = r.settles;
    tick = r.tick;
    happened = ap (λ (l : List Happening). l ++ older) r.happened;
  }

  asked_over : (line : Line) (old new : Stand) → Asked limits line old new → Asked limits line (stand_over older old) (stand_over older new)
  asked_over line old new h =
      requests_map (Happened limits) (Happened limits) (over older) happened_over Mapped Mapped mapped_over line.number line.request.session line.request.form line.answer old.sessions new.sessions old.past new.past h

  line_over : (form : Form) (line : Line) (old new : Stand) → LineBy limits form line old new → LineBy limits form line (stand_over older old) (stand_over older new)
  line_over Restart line old new h = restarts_over line old new h
  line_over form line old new h = asked_over line old new h

  pub lines_over : (lines : List Line) (old new : Stand) → AreLines limits lines old new → AreLines limits lines (stand_over older old) (stand_over older new)
  lines_over [] old new is = ap (stand_over older) is
  lines_over (line ∷ lines) old new h = (stand_over older h.0, line_over line.request.form line old h.0 h.1, lines_over lines h.0 new h.2)

  pub end_over : (stand : Stand) (new : Past) → IsEnd limits stand new → IsEnd limits (stand_over older stand) (over older new)
  end_over stand new h = give_up_map (Happened limits) (Happened limits) (over older) happened_over stand.sessions stand.past new h

-- first these lines, then those
pub lines_then : (limits : Limits) (one two : List Line) (old mid new : Stand) → AreLines limits one old mid → AreLines limits two mid new → AreLines limits (one ++ two) old new
lines_then limits [] two old mid new first then = subst (λ (s : Stand). AreLines limits two s new) first then
lines_then limits (line ∷ one) two old mid new first then = (first.0, first.1, lines_then limits one two first.0 mid new first.2 then)

-- a line of a form that a session does
pub course_line : (limits : Limits) (form : Form) (line : Line) (old new : Stand) → has_course form ≡ true → Asked limits line old new → LineBy limits form line old new
course_line limits Restart line old new has h = absurd (cc (has))
course_line limits form line old new has h = h

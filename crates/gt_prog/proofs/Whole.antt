-- Over a disk that tells no line finds damage.
use Rattle.std.proofs.Common.{◌≡◌, Bool, true, false, IsTrue, List, [], ◌∷◌, Result, Ok, Err, refl, ap}
use Rattle.std.specs.List.{AllByRecursion}
use Rattle.gt_model.specs.declared.done.Done.{Done}
use Rattle.gt_model.specs.declared.event.Event.{Event}
use Rattle.gt_model.specs.declared.limits.Limits.{Limits}
use Rattle.gt_model.specs.declared.refusal.Refusal.{Refusal}
use Rattle.gt_model.specs.declared.refusal.Refusal.TheVariants.{Damaged}
use Rattle.gt_model.specs.Machine.{State, Step}
use Rattle.gt_model.proofs.Damage.{never_damaged}
use Rattle.gt_script.specs.declared.form.Form.{Form}
use Rattle.gt_script.specs.declared.form.Form.TheVariants.{Restart}
use Rattle.gt_prog.specs.Lines.{Line, Stand, names_damage, Happened, LineBy, AreLines}
use Rattle.gt_prog.proofs.Faultless.{requests_rises}

module _ (limits : Limits) where
  never : (s t : State) (e : Event) (a : Result Done Refusal) → Step limits s e a t → IsTrue (names_damage a) → ⊥
  never s t e (Err (Damaged file at)) step is = never_damaged limits s t e file at step
  never s t e (Err refusal) step is = absurd (cc is)
  never s t e (Ok done) step is = absurd (cc is)

  whole_line : (form : Form) (l : Line) (old new : Stand) → LineBy limits form l old new → names_damage l.answer ≡ false
  whole_line Restart l old new h = ap names_damage h.answer
  whole_line form l old new h = by (names_damage l.answer) refl
    where
      by : (b : Bool) → names_damage l.answer ≡ b → b ≡ false
      by false is = refl
      by true is =
          absurd
          (requests_rises (Happened limits) old.past new.past ⊥ names_damage (λ n a within. within.whole) refl (λ partition who e a given happened damaged. never old.past.state new.past.state e a happened.2 damaged) l.number l.request.session l.request.form l.answer old.sessions new.sessions h
          is)

  pub whole_lines : (lines : List Line) (old new : Stand) → AreLines limits lines old new → AllByRecursion (λ line. names_damage line.answer ≡ false) lines
  whole_lines [] old new h = tt
  whole_lines (line ∷ lines) old new h = (whole_line line.request.form line old h.0 h.1, whole_lines lines h.0 new h.2)

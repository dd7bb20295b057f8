-- How the pieces of a line make its course.
use Rattle.std.proofs.Common.{◌≡◌, ℕ, false, List, Option, Some, None, Result, Ok, Err, refl, sym, ap, ◌∙◌, subst, inl, inr}
use Rattle.std.specs.Option.{option_map, is_some}
use Rattle.gt_name.specs.Paths.{bad_path}
use Rattle.gt_name.specs.References.{bad_ref}
use Rattle.gt_model.specs.declared.done.Done.{Done}
use Rattle.gt_model.specs.declared.event.Event.{Event}
use Rattle.gt_model.specs.declared.event.Event.TheVariants.{GetRef}
use Rattle.gt_model.specs.declared.refusal.Refusal.{Refusal}
use Rattle.gt_model.specs.declared.refusal.Refusal.TheVariants.{BadRef, BadPath, AlreadyOpen, Memory}
use Rattle.gt_model.specs.declared.who.Who.{Who}
use Rattle.gt_script.specs.declared.form.Form.{Form}
use Rattle.gt_stage.specs.Staging.{Holding, empty_stage, own_ref}
use Rattle.gt_session.specs.Sessions.{Open, Session, begun, heard, told}
use Rattle.gt_session.specs.Courses.{MapEvent, Turned, Course, refuses, with_path, unless_open, alone, reads, old_in, with_old, with_open, with_ref, course, opened}
use Rattle.gt_session.specs.Calls.{Takes, Makes, Does}
use Rattle.gt_session.specs.Pieces.{IsCause, path_cause, Turns, TurnsStage, IsOldIn, FindsOwn, FindsOld, open_with, session_with}

module _ {P : Type 0} (Did : ℕ → Who → Event → Result Done Refusal → Option ℕ → P → P → Type 0) (Mapped : Who → List ℕ → MapEvent → Result (Option ℕ) Refusal → P → P → Type 0) (who : Who) (s : Session) (turned : Turned) (old new : P) where
  -- what the session does by itself
  answered : (t u : Turned) → t ≡ u → new ≡ old → Turns s t turned → Takes Did Mapped who s (alone u) turned old new
  answered t u e same (inl is) = inl (is ∙ e, same)
  answered t u e same (inr wants) = inr (wants, same)

  made : (partition : ℕ) (turn : List ℕ → Turned) (v : List ℕ) (answer : Result Done Refusal) → IsOldIn (λ e a. Did partition who e a None) answer (Ok v) → Turns s (turn v) turned → Makes Did Mapped who s (λ done. turn (old_in done)) answer turned
  made partition turn v (Ok done) e (inl is) = inl (is ∙ ap turn cc)
  made partition turn v (Ok done) e (inr wants) = inr wants
  made partition turn v (Err refusal) e t = absurd cc

  own_taken : (partition pin : ℕ) (name : List ℕ) (turn : List ℕ → Turned) (v : List ℕ) (own : Option (List ℕ)) → FindsOwn (λ e a. Did partition who e a None) pin name own (Ok v) old new → Turns s (turn v) turned
      → Takes Did Mapped who s (elim own [ Some own ↦ alone (turn own) | None ↦ reads partition (GetRef pin name) (λ done. turn (old_in done)) ]) turned old new
  own_taken partition pin name turn v (Some own) found t = answered (turn v) (turn own) (ap turn cc) found.1 t
  own_taken partition pin name turn v None found t = inl (found.0, found.1, made partition turn v found.0 found.2 t)

  old_taken : (o : Open) (name : List ℕ) (turn : List ℕ → Turned) (v : List ℕ) (given : Option (List ℕ)) → FindsOld (λ e a. Did o.partition who e a None) o name given (Ok v) old new → Turns s (turn v) turned
      → Takes Did Mapped who s (with_old s o name given turn) turned old new
  old_taken o name turn v (Some given) found t = answered (turn v) (turn given) (ap turn cc) found.1 t
  old_taken o name turn v None found t = own_taken o.partition o.pin name turn v (own_ref o.stage.staged.refs name) found t

-- what is seen of a session that has a pass
pub seen_open : {Q : Type 0} (number_of : Q → ℕ) (number : ℕ) (seen : List ℕ) (partition : ℕ) (stage : Holding) (pass : Option Q) (p : Q) → pass ≡ Some p
    → ◌≡◌ {A = Session} (record { number = number; «open» = option_map (λ q. open_with partition (number_of q) stage) pass; seen = seen }) (session_with number seen (open_with partition (number_of p) stage))
seen_open {Q = Q} number_of number seen partition stage pass p e =
    let F : Option Q → Session = λ o. record { number = number; «open» = option_map (λ q. open_with partition (number_of q) stage) o; seen = seen } in
    ap F e

-- what is seen of a session that has none
pub seen_shut : {Q : Type 0} (number_of : Q → ℕ) (number : ℕ) (seen : List ℕ) (partition : ℕ) (stage : Holding) (pass : Option Q) → is_some pass ≡ false
    → ◌≡◌ {A = Session} (record { number = number; «open» = option_map (λ q. open_with partition (number_of q) stage) pass; seen = seen }) (record { number = number; «open» = None; seen = seen })
seen_shut number_of number seen partition stage None e = refl
seen_shut number_of number seen partition stage (Some p) e = absurd cc

abbrev made_of : ℕ → Option Open → List ℕ → Session
made_of number o seen = record { number = number; «open» = o; seen = seen }

-- what is seen of a session once it was answered to a begin
pub begun_seen : {Q : Type 0} (number_of : Q → ℕ) (s : Session) (partition : ℕ) (answer : Result Done Refusal) (number : ℕ) (seen : List ℕ) (stage : Holding) (pass : Option Q)
    → number ≡ s.number → s.open ≡ None → seen ≡ heard s.seen partition answer → stage ≡ empty_stage 33554432 10000
    → ◌≡◌ {A = Session} (record { number = number; «open» = option_map (λ q. open_with partition (number_of q) stage) pass; seen = seen }) (opened (told s partition answer) partition (option_map number_of pass))
begun_seen number_of s partition answer number seen stage None same shut hears empty =
    ap (λ (n : ℕ). made_of n None seen) same ∙ ap (λ (o : Option Open). made_of s.number o seen) (sym shut) ∙ ap (λ (l : List ℕ). made_of s.number s.open l) hears
begun_seen number_of s partition answer number seen stage (Some p) same shut hears empty =
    let F : Holding → Session = λ h. made_of number (Some (open_with partition (number_of p) h)) seen in
    let o : Option Open = Some (begun partition (number_of p)) in
    ap F empty ∙ ap (λ (n : ℕ). made_of n o seen) same ∙ ap (λ (l : List ℕ). made_of s.number o l) hears

module _ {P : Type 0} (Did : ℕ → Who → Event → Result Done Refusal → Option ℕ → P → P → Type 0) (Mapped : Who → List ℕ → MapEvent → Result (Option ℕ) Refusal → P → P → Type 0) (who : Who) (s : Session) (old : P) where
  -- the path is bad, or memory is wanted for it, where the course may want memory
  path_refused_at : (at : Option ℕ) (course : Course) (refusal : Refusal) → Takes Did Mapped who s course (Err Memory, s) old old → IsCause (option_map BadPath at) refusal → Takes Did Mapped who s (elim at [ None ↦ course | Some p ↦ refuses (BadPath p) ]) (Err refusal, s) old old
  path_refused_at None course refusal may e = subst (λ (r : Refusal). Takes Did Mapped who s course (Err r, s) old old) (sym e) may
  path_refused_at (Some p) course refusal may e = (ap (λ (r : Refusal). (Err r, s)) e, refl)

  -- a path that is refuses, where nothing is open
  pub path_refused : (text : List ℕ) (course : Course) (refusal : Refusal) → Takes Did Mapped who s course (Err Memory, s) old old → s.open ≡ None → IsCause (path_cause text) refusal → Takes Did Mapped who s (unless_open s (with_path text course)) (Err refusal, s) old old
  path_refused text course refusal may shut e =
      let F : Option Open → Type 0 = λ o. Takes Did Mapped who s (elim o [ None ↦ with_path text course | Some p ↦ refuses AlreadyOpen ]) (Err refusal, s) old old in
      subst F (sym shut) (path_refused_at (bad_path text) course refusal may e)

-- a reference is staged with the old value that was found
pub reference_taken :
    {P : Type 0} (Did : ℕ → Who → Event → Result Done Refusal → Option ℕ → P → P → Type 0) (Mapped : Who → List ℕ → MapEvent → Result (Option ℕ) Refusal → P → P → Type 0) (line : ℕ) (turn : Session → Open → List ℕ → List ℕ → Turned) (s end' : Session) (number : ℕ) (seen : List ℕ) (partition pin : ℕ) (stage after : Holding)
    (word name : List ℕ) (given : Option (List ℕ)) (v : List ℕ) (answer : Result Done Refusal) (old new : P)
    → s ≡ session_with number seen (open_with partition pin stage) → end' ≡ session_with number seen (open_with partition pin after) → name ≡ word → bad_ref word ≡ None
    → FindsOld (λ e a. Did partition (record { session = number; line = line }) e a None) (open_with partition pin stage) name given (Ok v) old new
    → TurnsStage (λ s o. turn s o name v) stage answer after
    → Takes Did Mapped (record { session = s.number; line = line }) s (with_open s (λ o. with_ref word (with_old s o word given (turn s o word)))) (answer, end') old new
reference_taken {P = P} Did Mapped line turn s end' number seen partition pin stage after word name given v answer old new es ee en eb found turns =
    let o : Open = open_with partition pin stage in
    let t : Session = session_with number seen o in
    let e : Session = session_with number seen (open_with partition pin after) in
    let who : Who = record { session = number; line = line } in
    let F : List ℕ → Type 0 = λ w. FindsOld (λ e a. Did partition who e a None) o w given (Ok v) old new in
    let T : List ℕ → Type 0 = λ w. Turns t (turn t o w v) (answer, e) in
    let B : Option (ℕ × ℕ) → Type 0 = λ b. Takes Did Mapped who t (elim b [ None ↦ with_old t o word given (turn t o word) | Some bad ↦ refuses (BadRef bad.0 bad.1) ]) (answer, e) old new in
    let E : Session → Type 0 = λ x. Takes Did Mapped who t (with_open t (λ o. with_ref word (with_old t o word given (turn t o word)))) (answer, x) old new in
    let S : Session → Type 0 = λ x. Takes Did Mapped (record { session = x.number; line = line }) x (with_open x (λ o. with_ref word (with_old x o word given (turn x o word)))) (answer, end') old new in
    subst S (sym es) (subst E (sym ee) (subst B (sym eb) (old_taken Did Mapped who t (answer, e) old new o word (turn t o word) v given (subst F en found) (subst T en (turns number seen partition pin)))))

-- a line of a form that is known, done with a word that is known
pub does_as :
    {P : Type 0} (Did : ℕ → Who → Event → Result Done Refusal → Option ℕ → P → P → Type 0) (Mapped : Who → List ℕ → MapEvent → Result (Option ℕ) Refusal → P → P → Type 0) (who : Who) (s : Session) (turned : Turned) (old new : P)
    (form known : Form) (by_word : List ℕ → Course) (word given : List ℕ) → form ≡ known → course s known ≡ Some (by_word word) → given ≡ word → Takes Did Mapped who s (by_word given) turned old new → Does Did Mapped who s (course s form) turned old new
does_as Did Mapped who s turned old new form known by_word word given is comes same takes =
    let D : Option Course → Type 0 = λ c. Does Did Mapped who s c turned old new in
    let W : List ℕ → Type 0 = λ w. Takes Did Mapped who s (by_word w) turned old new in
    subst D (sym (ap (course s) is ∙ comes)) (subst W same takes)

-- What every call keeps a line keeps, and a session's own answers blame no disk and name no position.
use Rattle.std.proofs.Common.{◌≡◌, inl, inr, ℕ, ◌≤◌, Bool, true, false, cond, IsTrue, List, [], ◌∷◌, ◌++◌, length, Option, Some, None, Result, Ok, Err, refl, sym, ap, subst, arith}
use Rattle.gt_name.specs.Paths.{bad_path}
use Rattle.gt_name.specs.References.{bad_ref}
use Rattle.gt_object.specs.declared.kind.Kind.{Kind}
use Rattle.gt_object.specs.declared.error.ObjectError.{ObjectError}
use Rattle.gt_object.specs.declared.error.ObjectError.TheVariants as object
use Rattle.gt_object.specs.Header.{header}
use Rattle.gt_object.specs.Whole.{why_not_new}
use Rattle.gt_model.specs.declared.done.Done.{Done}
use Rattle.gt_model.specs.declared.done.Done.TheVariants as done
use Rattle.gt_model.specs.declared.event.Event.{Event}
use Rattle.gt_model.specs.declared.event.Event.TheVariants as event
use Rattle.gt_model.specs.declared.refusal.Refusal.{Refusal}
use Rattle.gt_model.specs.declared.refusal.Refusal.TheVariants.{BadRef, BadPath, NotOpen, AlreadyOpen, StageFull, Memory}
use Rattle.gt_model.specs.declared.who.Who.{Who}
use Rattle.gt_model.specs.Histories.{position, done_position}
use Rattle.gt_model.specs.Machine.{is_faulty, is_fault}
use Rattle.gt_script.specs.declared.form.Form.{Form}
use Rattle.gt_script.specs.declared.form.Form.TheVariants as line
use Rattle.gt_stage.specs.Staging.{Holding, own_ref, own_record, is_over_refs, is_over_bytes, staged_set, staged_check, staged_put}
use Rattle.gt_prog.specs.Lines.{names_damage}
use Rattle.gt_session.specs.Sessions.{Open, Session}
use Rattle.gt_session.specs.Courses.{Turned, Course, refuses, alone, finds, asks, reads, assign, ask, course, with_path, with_ref, with_open, unless_open, with_old, old_in, staged, put, put_record, set, check, get, cat, value_of, content_of, refusal_of, list_in, can_apply, seen_from}
use Rattle.gt_session.specs.Calls.{Takes, Makes, Does, GivesUp}
use Rattle.gt_session.specs.Together.{Requests, GiveUp}
use Rattle.gt_prog.specs.One.{Mapped}
use Rattle.gt_prog.proofs.One.{found_one}

-- ---- a session's own answers

-- It blames no disk, names no damage, and no position past this one.
pub record IsWithin (n : ℕ) (answer : Result Done Refusal) : Type 0 where
  pub sure : is_faulty answer ≡ false
  pub whole : names_damage answer ≡ false
  pub named : position answer ≤ n

-- no answer of the session's own comes of a failing disk, and none names a position but that of what was read
abbrev pub IsFaultless : Course → Type 0
IsFaultless (refuses refusal) = IsWithin 0 (Err refusal)
IsFaultless (alone turned) = IsWithin 0 turned.0
IsFaultless (finds path e event) = Unit {0}
IsFaultless (asks partition e) = Unit {0}
IsFaultless (reads partition e make) = (d : Done) → IsWithin (done_position d) (make d).0

refusal_within : (r : Refusal) → is_fault r ≡ false → names_damage (Err r) ≡ false → IsWithin 0 (Err r)
refusal_within r is whole = record { sure = is; whole = whole; named = omega arith }

done_within : (n : ℕ) (d : Done) → done_position d ≤ n → IsWithin n (Ok d)
done_within n d le = record { sure = refl; whole = refl; named = le }

within_more : (n : ℕ) (a : Result Done Refusal) → IsWithin 0 a → IsWithin n a
within_more n a w = record { sure = w.sure; whole = w.whole; named = omega (arith, w.named) }

abbrev IsEachFaultless : Option Course → Type 0
IsEachFaultless None = Unit {0}
IsEachFaultless (Some c) = IsFaultless c

path_faultless : (text : List ℕ) (c : Course) → IsFaultless c → IsFaultless (with_path text c)
path_faultless text c ok = by (bad_path text)
  where
    by : (at : Option ℕ) → IsFaultless (elim at [ None ↦ c | Some p ↦ refuses (BadPath p) ])
    by None = ok
    by (Some p) = refusal_within (BadPath p) refl refl

ref_faultless : (text : List ℕ) (c : Course) → IsFaultless c → IsFaultless (with_ref text c)
ref_faultless text c ok = by (bad_ref text)
  where
    by : (bad : Option (ℕ × ℕ)) → IsFaultless (elim bad [ None ↦ c | Some b ↦ refuses (BadRef b.0 b.1) ])
    by None = ok
    by (Some b) = refusal_within (BadRef b.0 b.1) refl refl

module _ (s : Session) where
  open_faultless : (make : Open → Course) → ((o : Open) → IsFaultless (make o)) → IsFaultless (with_open s make)
  open_faultless make ok = by s.open
    where
      by : (o : Option Open) → IsFaultless (elim o [ None ↦ refuses NotOpen | Some x ↦ make x ])
      by None = refusal_within NotOpen refl refl
      by (Some x) = ok x

  shut_faultless : (c : Course) → IsFaultless c → IsFaultless (unless_open s c)
  shut_faultless c ok = by s.open
    where
      by : (o : Option Open) → IsFaultless (elim o [ None ↦ c | Some x ↦ refuses AlreadyOpen ])
      by None = ok
      by (Some x) = refusal_within AlreadyOpen refl refl

  staged_faultless : (o : Open) (over : Bool) (stage : Holding) (d : Done) → done_position d ≡ 0 → IsWithin 0 (staged s o over stage d).0
  staged_faultless o true stage d none = refusal_within StageFull refl refl
  staged_faultless o false stage d none = done_within 0 d (omega (arith, none))

  refusal_faultless : (e : ObjectError) → is_fault (refusal_of e) ≡ false
  refusal_faultless object.TooLarge = refl
  refusal_faultless (object.BadObject at) = refl
  refusal_faultless object.Memory = refl

  refusal_whole : (e : ObjectError) → names_damage (Err (refusal_of e)) ≡ false
  refusal_whole object.TooLarge = refl
  refusal_whole (object.BadObject at) = refl
  refusal_whole object.Memory = refl

  put_faultless : (o : Open) (kind : Kind) (content : List ℕ) → IsWithin 0 (put s o kind content).0
  put_faultless o kind content = by (why_not_new kind content)
    where
      by : (why : Option ObjectError) → (let turned : Turned = elim why [ None ↦ put_record s o (header kind (length content) ++ content) | Some w ↦ (Err (refusal_of w), s) ] in IsWithin 0 turned.0)
      by None = staged_faultless o (is_over_bytes o.stage (header kind (length content) ++ content)) (staged_put o.stage (header kind (length content) ++ content)) _ refl
      by (Some w) = refusal_within (refusal_of w) (refusal_faultless w) (refusal_whole w)

  old_faultless : (o : Open) (name : List ℕ) (old : Option (List ℕ)) (turned : List ℕ → Turned) → ((v : List ℕ) → IsWithin 0 (turned v).0) → IsFaultless (with_old s o name old turned)
  old_faultless o name (Some old) turned ok = ok old
  old_faultless o name None turned ok = by (own_ref o.stage.staged.refs name)
    where
      by : (own : Option (List ℕ)) → IsFaultless (elim own [ Some v ↦ alone (turned v) | None ↦ reads o.partition (event.GetRef o.pin name) (λ d. turned (old_in d)) ])
      by (Some v) = ok v
      by None = λ d. within_more (done_position d) (turned (old_in d)).0 (ok (old_in d))

  get_faultless : (o : Open) (name : List ℕ) → IsFaultless (get s o name)
  get_faultless o name = by (own_ref o.stage.staged.refs name)
    where
      by : (own : Option (List ℕ)) → IsFaultless (elim own [ Some v ↦ alone (Ok (done.Value (value_of v)), s) | None ↦ asks o.partition (event.GetRef o.pin name) ])
      by (Some v) = done_within 0 (done.Value (value_of v)) (omega arith)
      by None = tt

  cat_faultless : (o : Open) (name : List ℕ) → IsFaultless (cat s o name)
  cat_faultless o name = by (own_record o.stage.staged.records name)
    where
      by : (own : Option (List ℕ)) → IsFaultless (elim own [ Some whole ↦ alone (Ok (done.Object whole), s) | None ↦ asks o.partition (event.Cat o.pin name) ])
      by (Some whole) = done_within 0 (done.Object whole) (omega arith)
      by None = tt

  list_faultless : (o : Open) (prefix : List ℕ) (d : Done) → IsWithin (done_position d) (list_in s o prefix d).0
  list_faultless o prefix (done.Refs list) = record { sure = refl; whole = refl; named = omega arith }
  list_faultless o prefix d = done_within (done_position d) d (omega arith)

  apply_faultless : (partition n : ℕ) (can : Bool) → IsEachFaultless (cond can (Some (asks partition (event.Apply n))) None)
  apply_faultless partition n true = tt
  apply_faultless partition n false = tt

  course_faultless : (form : Form) → IsEachFaultless (course s form)
  course_faultless (line.Create path None) = path_faultless path (finds path (assign None) (λ p. event.Create path false)) tt
  course_faultless (line.Delete path) = path_faultless path (finds path ask (λ p. event.Delete path)) tt
  course_faultless (line.Begin path from) = shut_faultless (with_path path (finds path ask (λ p. event.Begin path (seen_from s p from)))) (path_faultless path (finds path ask (λ p. event.Begin path (seen_from s p from))) tt)
  course_faultless (line.Put kind content) = open_faultless (λ o. alone (put s o kind (content_of content))) (λ o. put_faultless o kind (content_of content))
  course_faultless (line.Set name old new) =
      open_faultless (λ o. with_ref name (with_old s o name old (set s o name new)))
      (λ o. ref_faultless name (with_old s o name old (set s o name new)) (old_faultless o name old (set s o name new) (λ v. staged_faultless o (is_over_refs o.stage name) (staged_set o.stage name v new) done.Staged refl)))
  course_faultless (line.Verify name old) =
      open_faultless (λ o. with_ref name (with_old s o name old (check s o name)))
      (λ o. ref_faultless name (with_old s o name old (check s o name)) (old_faultless o name old (check s o name) (λ v. staged_faultless o (is_over_refs o.stage name) (staged_check o.stage name v) done.Checked refl)))
  course_faultless (line.Get name) = open_faultless (λ o. with_ref name (get s o name)) (λ o. ref_faultless name (get s o name) (get_faultless o name))
  course_faultless (line.List prefix) = open_faultless (λ o. reads o.partition (event.ListRefs o.pin prefix) (list_in s o prefix)) (λ o. list_faultless o prefix)
  course_faultless (line.Cat name) = open_faultless (λ o. cat s o name) (λ o. cat_faultless o name)
  course_faultless line.Commit = open_faultless (λ o. asks o.partition (event.Commit o.pin o.stage.staged.refs o.stage.staged.records)) (λ o. tt)
  course_faultless line.Abort = open_faultless (λ o. asks o.partition (event.Abort o.pin)) (λ o. tt)
  course_faultless (line.Apply partition n) = apply_faultless partition n (can_apply partition n)
  course_faultless form = tt

-- ---- what a line keeps

module _ {P : Type 0} (Did : ℕ → Who → Event → Result Done Refusal → Option ℕ → P → P → Type 0) (old new : P) (Keeps : Type 0) (same : new ≡ old → Keeps) (call : (partition : ℕ) (who : Who) (e : Event) (a : Result Done Refusal) (given : Option ℕ) → Did partition who e a given old new → Keeps) where
  takes_keeps : (who : Who) (s : Session) (c : Course) (turned : Turned) → Takes Did Mapped who s c turned old new → Keeps
  takes_keeps who s (refuses refusal) turned h = same h.1
  takes_keeps who s (alone answered) turned (inl h) = same h.1
  takes_keeps who s (alone answered) turned (inr h) = same h.1
  takes_keeps who s (finds path e event) turned (inl h) = let a = found_one Did who s path e event h.1 turned old h.0 new h.2 h.3 in call 1 who (event 1) turned.0 a.0 a.2
  takes_keeps who s (finds path e event) turned (inr h) = same h.1
  takes_keeps who s (asks partition e) turned (inl h) = call partition who e turned.0 h.0 h.2
  takes_keeps who s (asks partition e) turned (inr h) = same h.1.1
  takes_keeps who s (reads partition e make) turned (inl h) = call partition who e h.0 None h.1
  takes_keeps who s (reads partition e make) turned (inr h) = same h.1

  does_keeps : (who : Who) (s : Session) (c : Option Course) (turned : Turned) → Does Did Mapped who s c turned old new → Keeps
  does_keeps who s None turned h = absurd h
  does_keeps who s (Some c) turned h = takes_keeps who s c turned h

  pub requests_keeps : (number session : ℕ) (form : Form) (answer : Result Done Refusal) (olds news : List Session) → Requests Did Mapped number session form answer olds news old new → Keeps
  requests_keeps number session form answer olds news h = does_keeps (record { session = session; line = number }) h.before (course h.before form) (answer, h.after) h.does

-- ---- what the end of all sessions keeps

pub give_up_keeps :
    {P : Type 0} (Did : ℕ → Who → Event → Result Done Refusal → Option ℕ → P → P → Type 0) (Keeps : P → P → Type 0) → ((p : P) → Keeps p p) → ((p q r : P) → Keeps p q → Keeps q r → Keeps p r) → ((partition : ℕ) (who : Who) (e : Event) (a : Result Done Refusal) (given : Option ℕ) (p q : P) → Did partition who e a given p q → Keeps p q)
    → (ss : List Session) (old new : P) → GiveUp Did ss old new → Keeps old new
give_up_keeps {P = P} Did Keeps same join call [] old new h = subst (λ (p : P). Keeps old p) (sym h) (same old)
give_up_keeps {P = P} Did Keeps same join call (s ∷ ss) old new h = join old h.0 new (one s.open h.1) (give_up_keeps Did Keeps same join call ss h.0 new h.2)
  where
    one : (o : Option Open) → GivesUp Did (record { session = s.number; line = 0 }) o old h.0 → Keeps old h.0
    one None e = subst (λ (p : P). Keeps old p) (sym e) (same old)
    one (Some o) e = call o.partition (record { session = s.number; line = 0 }) (event.Abort o.pin) (Ok done.Aborted) None old h.0 e

-- ---- an answer that no session gives by itself comes of a call

module _ {P : Type 0} (Did : ℕ → Who → Event → Result Done Refusal → Option ℕ → P → P → Type 0) (old new : P) (Rises : Type 0) (blames : Result Done Refusal → Bool) (own : (n : ℕ) (a : Result Done Refusal) → IsWithin n a → blames a ≡ false) (wants : blames (Err Memory) ≡ false) (call : (partition : ℕ) (who : Who) (e : Event) (a : Result Done Refusal) (given : Option ℕ) → Did partition who e a given old new → IsTrue (blames a) → Rises) where
  not_blamed : (a b : Result Done Refusal) → a ≡ b → blames b ≡ false → IsTrue (blames a) → Rises
  not_blamed a b same sure is = absurd (cc (ap blames same, sure, is))

  makes_rises : (partition : ℕ) (who : Who) (e : Event) (s : Session) (make : Done → Turned) (a : Result Done Refusal) (turned : Turned) → ((d : Done) → IsWithin (done_position d) (make d).0) → Did partition who e a None old new → Makes Did Mapped who s make a turned → IsTrue (blames turned.0) → Rises
  makes_rises partition who e s make (Ok d) turned ok did (inl is) faulty = not_blamed turned.0 (make d).0 (ap (λ (t : Turned). t.0) is) (own (done_position d) (make d).0 (ok d)) faulty
  makes_rises partition who e s make (Ok d) turned ok did (inr is) faulty = not_blamed turned.0 (Err Memory) (ap (λ (t : Turned). t.0) is) wants faulty
  makes_rises partition who e s make (Err refusal) turned ok did is faulty = call partition who e (Err refusal) None did (subst (λ (t : Turned). IsTrue (blames t.0)) is faulty)

  takes_rises : (who : Who) (s : Session) (c : Course) (turned : Turned) → IsFaultless c → Takes Did Mapped who s c turned old new → IsTrue (blames turned.0) → Rises
  takes_rises who s (refuses refusal) turned ok h faulty = not_blamed turned.0 (Err refusal) (ap (λ (t : Turned). t.0) h.0) (own 0 (Err refusal) ok) faulty
  takes_rises who s (alone answered) turned ok (inl h) faulty = not_blamed turned.0 answered.0 (ap (λ (t : Turned). t.0) h.0) (own 0 answered.0 ok) faulty
  takes_rises who s (alone answered) turned ok (inr h) faulty = not_blamed turned.0 (Err Memory) (ap (λ (t : Turned). t.0) h.0) wants faulty
  takes_rises who s (finds path e event) turned ok (inl h) faulty = let a = found_one Did who s path e event h.1 turned old h.0 new h.2 h.3 in call 1 who (event 1) turned.0 a.0 a.2 faulty
  takes_rises who s (finds path e event) turned ok (inr h) faulty = not_blamed turned.0 (Err Memory) (ap (λ (t : Turned). t.0) h.0) wants faulty
  takes_rises who s (asks partition e) turned ok (inl h) faulty = call partition who e turned.0 h.0 h.2 faulty
  takes_rises who s (asks partition e) turned ok (inr h) faulty = not_blamed turned.0 (Err Memory) (ap (λ (t : Turned). t.0) h.1.0) wants faulty
  takes_rises who s (reads partition e make) turned ok (inl h) faulty = makes_rises partition who e s make h.0 turned ok h.1 h.2 faulty
  takes_rises who s (reads partition e make) turned ok (inr h) faulty = not_blamed turned.0 (Err Memory) (ap (λ (t : Turned). t.0) h.0) wants faulty

  does_rises : (who : Who) (s : Session) (c : Option Course) (turned : Turned) → IsEachFaultless c → Does Did Mapped who s c turned old new → IsTrue (blames turned.0) → Rises
  does_rises who s None turned ok h faulty = absurd h
  does_rises who s (Some c) turned ok h faulty = takes_rises who s c turned ok h faulty

  pub requests_rises : (number session : ℕ) (form : Form) (answer : Result Done Refusal) (olds news : List Session) → Requests Did Mapped number session form answer olds news old new → IsTrue (blames answer) → Rises
  requests_rises number session form answer olds news h faulty =
      does_rises (record { session = session; line = number }) h.before (course h.before form) (answer, h.after) (course_faultless h.before form) h.does faulty

-- ---- a position that an answer names comes of a call

module _ {P : Type 0} (Did : ℕ → Who → Event → Result Done Refusal → Option ℕ → P → P → Type 0) (old new : P) (n : ℕ) (call : (partition : ℕ) (who : Who) (e : Event) (a : Result Done Refusal) (given : Option ℕ) → Did partition who e a given old new → position a ≤ n) where
  -- an answer that is this one
  as_this : (a b : Result Done Refusal) → a ≡ b → position b ≤ n → position a ≤ n
  as_this a b same le = subst (λ (x : Result Done Refusal). position x ≤ n) (sym same) le

  wants : (turned : Turned) (s : Session) → turned ≡ (Err Memory, s) → position turned.0 ≤ n
  wants turned s is = as_this turned.0 (Err Memory) (ap (λ (t : Turned). t.0) is) (omega arith)

  makes_names : (partition : ℕ) (who : Who) (e : Event) (s : Session) (make : Done → Turned) (a : Result Done Refusal) (turned : Turned) → ((d : Done) → IsWithin (done_position d) (make d).0) → Did partition who e a None old new → Makes Did Mapped who s make a turned → position turned.0 ≤ n
  makes_names partition who e s make (Ok d) turned ok did (inl is) = as_this turned.0 (make d).0 (ap (λ (t : Turned). t.0) is) (let le : done_position d ≤ n = call partition who e (Ok d) None did in omega (arith, (ok d).named, le))
  makes_names partition who e s make (Ok d) turned ok did (inr is) = wants turned s is
  makes_names partition who e s make (Err refusal) turned ok did is = as_this turned.0 (Err refusal) (ap (λ (t : Turned). t.0) is) (omega arith)

  takes_names : (who : Who) (s : Session) (c : Course) (turned : Turned) → IsFaultless c → Takes Did Mapped who s c turned old new → position turned.0 ≤ n
  takes_names who s (refuses refusal) turned ok h = as_this turned.0 (Err refusal) (ap (λ (t : Turned). t.0) h.0) (omega arith)
  takes_names who s (alone answered) turned ok (inl h) = as_this turned.0 answered.0 (ap (λ (t : Turned). t.0) h.0) (omega (arith, ok.named))
  takes_names who s (alone answered) turned ok (inr h) = wants turned s h.0
  takes_names who s (finds path e event) turned ok (inl h) = let a = found_one Did who s path e event h.1 turned old h.0 new h.2 h.3 in call 1 who (event 1) turned.0 a.0 a.2
  takes_names who s (finds path e event) turned ok (inr h) = wants turned s h.0
  takes_names who s (asks partition e) turned ok (inl h) = call partition who e turned.0 h.0 h.2
  takes_names who s (asks partition e) turned ok (inr h) = wants turned s h.1.0
  takes_names who s (reads partition e make) turned ok (inl h) = makes_names partition who e s make h.0 turned ok h.1 h.2
  takes_names who s (reads partition e make) turned ok (inr h) = wants turned s h.0

  does_names : (who : Who) (s : Session) (c : Option Course) (turned : Turned) → IsEachFaultless c → Does Did Mapped who s c turned old new → position turned.0 ≤ n
  does_names who s None turned ok h = absurd h
  does_names who s (Some c) turned ok h = takes_names who s c turned ok h

  pub requests_names : (number session : ℕ) (form : Form) (answer : Result Done Refusal) (olds news : List Session) → Requests Did Mapped number session form answer olds news old new → position answer ≤ n
  requests_names number session form answer olds news h = does_names (record { session = session; line = number }) h.before (course h.before form) (answer, h.after) (course_faultless h.before form) h.does

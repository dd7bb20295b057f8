-- A line leaves the number of its session.
use Rattle.std.proofs.Common.{◌≡◌, ℕ, Bool, true, false, cond, List, ◌++◌, length, Option, Some, None, Result, Ok, Err, refl, ap, ◌∙◌, inl, inr}
use Rattle.sha1.specs.Sha1.{sha1}
use Rattle.gt_name.specs.Paths.{bad_path}
use Rattle.gt_name.specs.References.{bad_ref}
use Rattle.gt_object.specs.declared.error.ObjectError.{ObjectError}
use Rattle.gt_object.specs.declared.kind.Kind.{Kind}
use Rattle.gt_object.specs.Header.{header}
use Rattle.gt_object.specs.Whole.{why_not_new}
use Rattle.gt_model.specs.declared.done.Done.{Done}
use Rattle.gt_model.specs.declared.done.Done.TheVariants.{Value, Refs, Object, Named, Staged, Checked}
use Rattle.gt_model.specs.declared.event.Event.{Event}
use Rattle.gt_model.specs.declared.event.Event.TheVariants as event
use Rattle.gt_model.specs.declared.refusal.Refusal.{Refusal}
use Rattle.gt_model.specs.declared.refusal.Refusal.TheVariants.{BadPath, BadRef, NotOpen, AlreadyOpen, NoRepository, Memory}
use Rattle.gt_model.specs.declared.who.Who.{Who}
use Rattle.gt_pins.specs.Ends.{ends}
use Rattle.gt_script.specs.declared.form.Form.{Form}
use Rattle.gt_script.specs.declared.form.Form.TheVariants as line
use Rattle.gt_stage.specs.Staging.{Holding, own_ref, own_record, is_over_refs, is_over_bytes, staged_set, staged_check, staged_put}
use Rattle.gt_session.specs.Sessions.{Open, Session, forgotten, told}
use Rattle.gt_session.specs.Courses.{Turned, Course, MapEvent, ask, assign, alone, finds, asks, reads, refuses, with_path, with_ref, staged, put_record, refusal_of, put, set, check, old_in, with_old, value_of, get, list_in, cat, content_of, can_apply, course, after_event, seen_from}
use Rattle.gt_session.specs.Calls.{Takes, Makes, Answers, Follows, Does}

-- ---- a course that leaves the number

abbrev Keeps : Session → Course → Type 0
Keeps s (alone turned) = turned.1.number ≡ s.number
Keeps s (refuses refusal) = Unit {0}
Keeps s (finds path e event) = Unit {0}
Keeps s (asks partition e) = Unit {0}
Keeps s (reads partition e make) = (done : Done) → (make done).1.number ≡ s.number

path_keeps : (s : Session) (bad : Option ℕ) (c : Course) → Keeps s c → Keeps s (elim bad [ None ↦ c | Some at ↦ refuses (BadPath at) ])
path_keeps s None c k = k
path_keeps s (Some at) c k = tt

ref_keeps : (s : Session) (bad : Option (ℕ × ℕ)) (c : Course) → Keeps s c → Keeps s (elim bad [ None ↦ c | Some b ↦ refuses (BadRef b.0 b.1) ])
ref_keeps s None c k = k
ref_keeps s (Some b) c k = tt

open_keeps : (s : Session) (o : Option Open) (c : Open → Course) → ((o : Open) → Keeps s (c o)) → Keeps s (elim o [ None ↦ refuses NotOpen | Some o ↦ c o ])
open_keeps s None c k = tt
open_keeps s (Some o) c k = k o

shut_keeps : (s : Session) (o : Option Open) (c : Course) → Keeps s c → Keeps s (elim o [ None ↦ c | Some o ↦ refuses AlreadyOpen ])
shut_keeps s None c k = k
shut_keeps s (Some o) c k = tt

staged_number : (s : Session) (o : Open) (over : Bool) (stage : Holding) (done : Done) → (staged s o over stage done).1.number ≡ s.number
staged_number s o true stage done = refl
staged_number s o false stage done = refl

put_at : (s : Session) (why : Option ObjectError) (turn : Turned) → turn.1.number ≡ s.number → (elim why as (λ w. Turned) [ None ↦ turn | Some w ↦ (Err (refusal_of w), s) ]).1.number ≡ s.number
put_at s None turn k = k
put_at s (Some w) turn k = refl

put_number : (s : Session) (o : Open) (kind : Kind) (content : List ℕ) → (put s o kind content).1.number ≡ s.number
put_number s o kind content =
    let whole : List ℕ = header kind (length content) ++ content in
    put_at s (why_not_new kind content) (put_record s o whole) (staged_number s o (is_over_bytes o.stage whole) (staged_put o.stage whole) (Named (sha1 whole)))

own_keeps : (s : Session) (o : Open) (name : List ℕ) (own : Option (List ℕ)) (turn : List ℕ → Turned) → ((v : List ℕ) → (turn v).1.number ≡ s.number) → Keeps s (elim own [ Some v ↦ alone (turn v) | None ↦ reads o.partition (event.GetRef o.pin name) (λ done. turn (old_in done)) ])
own_keeps s o name None turn k = λ done. k (old_in done)
own_keeps s o name (Some v) turn k = k v

old_keeps : (s : Session) (o : Open) (name : List ℕ) (old : Option (List ℕ)) (turn : List ℕ → Turned) → ((v : List ℕ) → (turn v).1.number ≡ s.number) → Keeps s (with_old s o name old turn)
old_keeps s o name (Some v) turn k = k v
old_keeps s o name None turn k = own_keeps s o name (own_ref o.stage.staged.refs name) turn k

get_keeps : (s : Session) (o : Open) (name : List ℕ) (own : Option (List ℕ)) → Keeps s (elim own [ Some v ↦ alone (Ok (Value (value_of v)), s) | None ↦ asks o.partition (event.GetRef o.pin name) ])
get_keeps s o name None = tt
get_keeps s o name (Some v) = refl

cat_keeps : (s : Session) (o : Open) (name : List ℕ) (own : Option (List ℕ)) → Keeps s (elim own [ Some whole ↦ alone (Ok (Object whole), s) | None ↦ asks o.partition (event.Cat o.pin name) ])
cat_keeps s o name None = tt
cat_keeps s o name (Some whole) = refl

list_number : (s : Session) (o : Open) (prefix : List ℕ) (done : Done) → (list_in s o prefix done).1.number ≡ s.number
list_number s o prefix (Refs list) = refl
list_number s o prefix done = refl

abbrev KeepsIf : Session → Option Course → Type 0
KeepsIf s None = Unit {0}
KeepsIf s (Some c) = Keeps s c

apply_keeps : (s : Session) (partition n : ℕ) (can : Bool) → KeepsIf s (cond can (Some (asks partition (event.Apply n))) None)
apply_keeps s partition n true = tt
apply_keeps s partition n false = tt

course_keeps : (s : Session) (form : Form) → KeepsIf s (course s form)
course_keeps s (line.Create path None) = path_keeps s (bad_path path) (finds path (assign None) (λ p. event.Create path false)) tt
course_keeps s (line.Delete path) = path_keeps s (bad_path path) (finds path ask (λ p. event.Delete path)) tt
course_keeps s (line.Begin path from) = shut_keeps s s.open (with_path path (finds path ask (λ p. event.Begin path (seen_from s p from)))) (path_keeps s (bad_path path) (finds path ask (λ p. event.Begin path (seen_from s p from))) tt)
course_keeps s (line.Put kind content) = open_keeps s s.open (λ o. alone (put s o kind (content_of content))) (λ o. put_number s o kind (content_of content))
course_keeps s (line.Set name old new) =
    open_keeps s s.open (λ o. with_ref name (with_old s o name old (set s o name new))) (λ o.
    ref_keeps s (bad_ref name) (with_old s o name old (set s o name new)) (old_keeps s o name old (set s o name new) (λ v. staged_number s o (is_over_refs o.stage name) (staged_set o.stage name v new) Staged)))
course_keeps s (line.Verify name old) =
    open_keeps s s.open (λ o. with_ref name (with_old s o name old (check s o name))) (λ o.
    ref_keeps s (bad_ref name) (with_old s o name old (check s o name)) (old_keeps s o name old (check s o name) (λ v. staged_number s o (is_over_refs o.stage name) (staged_check o.stage name v) Checked)))
course_keeps s (line.Get name) =
    open_keeps s s.open (λ o. with_ref name (get s o name)) (λ o. ref_keeps s (bad_ref name) (get s o name) (get_keeps s o name (own_ref o.stage.staged.refs name)))
course_keeps s (line.List prefix) = open_keeps s s.open (λ o. reads o.partition (event.ListRefs o.pin prefix) (list_in s o prefix)) (λ o. list_number s o prefix)
course_keeps s (line.Cat name) = open_keeps s s.open (λ o. cat s o name) (λ o. cat_keeps s o name (own_record o.stage.staged.records name))
course_keeps s line.Commit = open_keeps s s.open (λ o. asks o.partition (event.Commit o.pin o.stage.staged.refs o.stage.staged.records)) (λ o. tt)
course_keeps s line.Abort = open_keeps s s.open (λ o. asks o.partition (event.Abort o.pin)) (λ o. tt)
course_keeps s (line.Apply partition n) = apply_keeps s partition n (can_apply partition n)
course_keeps s form = tt

-- ---- the session after a call

after_event_number : (s : Session) (partition : ℕ) (given : Option ℕ) (e : Event) (answer : Result Done Refusal) → (after_event s partition given e answer).number ≡ s.number
after_event_number s partition (Some pin) (event.Begin path seen) answer = refl
after_event_number s partition None (event.Begin path seen) answer = refl
after_event_number s partition given (event.Commit pin refs records) answer = by_test (ends answer)
  where
    by_test : (b : Bool) → (cond b (forgotten (told s partition answer)) (told s partition answer)).number ≡ s.number
    by_test true = refl
    by_test false = refl
after_event_number s partition given (event.Abort pin) answer = refl
after_event_number s partition given e answer = refl

-- ---- a line

module _ {P : Type 0} (Did : ℕ → Who → Event → Result Done Refusal → Option ℕ → P → P → Type 0) (Mapped : Who → List ℕ → MapEvent → Result (Option ℕ) Refusal → P → P → Type 0) (who : Who) (s : Session) where
  turned_number : (turned answered : Turned) → turned ≡ answered → answered.1.number ≡ s.number → turned.1.number ≡ s.number
  turned_number turned answered e k = ap (λ (t : Turned). t.1.number) e ∙ k

  made_number : (make : Done → Turned) (answer : Result Done Refusal) (turned : Turned) → ((done : Done) → (make done).1.number ≡ s.number) → Makes Did Mapped who s make answer turned → turned.1.number ≡ s.number
  made_number make (Ok done) turned k (inl is) = turned_number turned (make done) is (k done)
  made_number make (Ok done) turned k (inr wants) = turned_number turned (Err Memory, s) wants refl
  made_number make (Err refusal) turned k is = turned_number turned (Err refusal, s) is refl

  answers_number : (partition : ℕ) (e : Event) (turned : Turned) (old new : P) → Answers Did Mapped who s partition e turned old new → turned.1.number ≡ s.number
  answers_number partition e turned old new h = ap (λ (t : Session). t.number) h.3 ∙ after_event_number s partition h.0 e turned.0

  follows_number : (event : ℕ → Event) (found : Result (Option ℕ) Refusal) (turned : Turned) (old new : P) → Follows Did Mapped who s event found turned old new → turned.1.number ≡ s.number
  follows_number event (Err refusal) turned old new h = turned_number turned (Err refusal, s) h.0 refl
  follows_number event (Ok None) turned old new h = turned_number turned (Err NoRepository, s) h.0 refl
  follows_number event (Ok (Some partition)) turned old new h = answers_number partition (event partition) turned old new h.1

  takes_number : (c : Course) (turned : Turned) (old new : P) → Keeps s c → Takes Did Mapped who s c turned old new → turned.1.number ≡ s.number
  takes_number (refuses refusal) turned old new k h = turned_number turned (Err refusal, s) h.0 refl
  takes_number (alone answered) turned old new k (inl h) = turned_number turned answered h.0 k
  takes_number (alone answered) turned old new k (inr h) = turned_number turned (Err Memory, s) h.0 refl
  takes_number (finds path e event) turned old new k (inl h) = follows_number event h.1 turned h.0 new h.3
  takes_number (finds path e event) turned old new k (inr h) = turned_number turned (Err Memory, s) h.0 refl
  takes_number (asks partition e) turned old new k (inl h) = answers_number partition e turned old new h
  takes_number (asks partition e) turned old new k (inr h) = turned_number turned (Err Memory, s) h.1.0 refl
  takes_number (reads partition e make) turned old new k (inl h) = made_number make h.0 turned k h.2
  takes_number (reads partition e make) turned old new k (inr h) = turned_number turned (Err Memory, s) h.0 refl

  does_at : (c : Option Course) (turned : Turned) (old new : P) → KeepsIf s c → Does Did Mapped who s c turned old new → turned.1.number ≡ s.number
  does_at None turned old new k h = absurd h
  does_at (Some c) turned old new k h = takes_number c turned old new k h

  pub does_number : (form : Form) (turned : Turned) (old new : P) → Does Did Mapped who s (course s form) turned old new → turned.1.number ≡ s.number
  does_number form turned old new h = does_at (course s form) turned old new (course_keeps s form) h

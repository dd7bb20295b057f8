-- What a line of a session comes to: an answer of its own, or a call of a partition.
use Rattle.std.specs.Prelude.{ℕ, Bool, true, false, nat_eq, nat_le, ◌&&◌, List, [], ◌++◌, length, max, map as map_list, Option, Some, None, Result, Ok, Err, codes, bytes_eq, if◌then◌else◌}
use Rattle.std.specs.FinMap as map
use Rattle.hex.specs.Hex.{decode_of}
use Rattle.hex.specs.declared.error.FromHexError.{FromHexError}
use Rattle.sha1.specs.Sha1.{sha1}
use Rattle.gt_name.specs.Paths.{bad_path}
use Rattle.gt_name.specs.References.{bad_ref}
use Rattle.gt_object.specs.declared.kind.Kind.{Kind}
use Rattle.gt_object.specs.declared.error.ObjectError.{ObjectError}
use Rattle.gt_object.specs.declared.error.ObjectError.TheVariants as object
use Rattle.gt_object.specs.Header.{header}
use Rattle.gt_object.specs.Whole.{why_not_new}
use Rattle.gt_model.specs.declared.done.Done.{Done}
use Rattle.gt_model.specs.declared.done.Done.TheVariants.{Value, Refs, Object, Named, Staged, Checked}
use Rattle.gt_model.specs.declared.event.Event.{Event}
use Rattle.gt_model.specs.declared.event.Event.TheVariants as event
use Rattle.gt_model.specs.declared.reference.RefValue.{RefValue}
use Rattle.gt_model.specs.declared.refusal.Refusal.{Refusal}
use Rattle.gt_model.specs.declared.refusal.Refusal.TheVariants.{StageFull, TooLarge, BadObject, BadRef, BadPath, NotOpen, AlreadyOpen, Memory}
use Rattle.gt_model.specs.declared.update.RefUpdate.{RefUpdate}
use Rattle.gt_model.specs.Contents.{key_cmp, zero, is_zero, Names, with_refs}
use Rattle.gt_model.specs.Machine.{references}
use Rattle.gt_pins.specs.Ends.{ends}
use Rattle.gt_script.specs.declared.form.Form.{Form}
use Rattle.gt_script.specs.declared.form.Form.TheVariants as line
use Rattle.gt_stage.specs.Staging.{Holding, own_ref, own_record, is_over_refs, is_over_bytes, staged_set, staged_check, staged_put}
use Rattle.gt_session.specs.Sessions.{Open, Session, begun, with_stage, forgotten, seen_of, told}

-- An answer, and the session after it.
abbrev pub Turned : Type 0
Turned = Result Done Refusal × Session

-- The map of paths is asked for the partition of a path. Or it is to give the path one, where it has none: this one, or one of its own choice.
pub data MapEvent : Type 0 where
  ask : MapEvent
  assign : Option ℕ → MapEvent

-- The session refuses by itself, and wants no memory for it. Or it answers by itself. Or the map says the partition of a path, and the answer is the one there to the event that is made for it; a path without one has no repository. Or the answer is the one of this partition to an event. Or the session makes its own answer of what this partition read for it, whose refusals stand.
pub data Course : Type 0 where
  refuses : Refusal → Course
  alone : Turned → Course
  finds : List ℕ → MapEvent → (ℕ → Event) → Course
  asks : ℕ → Event → Course
  reads : ℕ → Event → (Done → Turned) → Course

-- ---- the words of a line

abbrev pub with_path : List ℕ → Course → Course
with_path text course = elim (bad_path text) [ None ↦ course | Some at ↦ refuses (BadPath at) ]

abbrev pub with_ref : List ℕ → Course → Course
with_ref text course = elim (bad_ref text) [ None ↦ course | Some bad ↦ refuses (BadRef bad.0 bad.1) ]

-- what is to be done with the transaction that is open
abbrev pub with_open : Session → (Open → Course) → Course
with_open s course = elim s.open [ None ↦ refuses NotOpen | Some o ↦ course o ]

abbrev pub unless_open : Session → Course → Course
unless_open s course = elim s.open [ None ↦ course | Some o ↦ refuses AlreadyOpen ]

abbrev pub decoded : Result (List ℕ) FromHexError → List ℕ
decoded (Ok bytes) = bytes
decoded (Err e) = []

-- the content that a word spells in hex digits; `-` is no content
abbrev pub content_of : List ℕ → List ℕ
content_of word = if bytes_eq word (codes "-") then [] else decoded (decode_of word)

-- ---- staging

-- It is staged, or the stage is full.
abbrev pub staged : Session → Open → Bool → Holding → Done → Turned
staged s o over stage done = if over then (Err StageFull, s) else (Ok done, with_stage s o stage)

abbrev pub put_record : Session → Open → List ℕ → Turned
put_record s o whole = staged s o (is_over_bytes o.stage whole) (staged_put o.stage whole) (Named (sha1 whole))

abbrev pub refusal_of : ObjectError → Refusal
refusal_of object.TooLarge = TooLarge
refusal_of (object.BadObject at) = BadObject at
refusal_of object.Memory = Memory

abbrev pub put : Session → Open → Kind → List ℕ → Turned
put s o kind content = elim (why_not_new kind content) [ None ↦ put_record s o (header kind (length content) ++ content) | Some why ↦ (Err (refusal_of why), s) ]

abbrev pub set : Session → Open → List ℕ → List ℕ → List ℕ → Turned
set s o name new old = staged s o (is_over_refs o.stage name) (staged_set o.stage name old new) Staged

abbrev pub check : Session → Open → List ℕ → List ℕ → Turned
check s o name old = staged s o (is_over_refs o.stage name) (staged_check o.stage name old) Checked

-- ---- what the transaction sees: its own stage first

-- the value of a reference as an old value, zero where it isn't there
abbrev pub value_in : Option (List ℕ) → List ℕ
value_in None = zero
value_in (Some v) = v

abbrev pub old_in : Done → List ℕ
old_in (Value value) = value_in value
old_in done = zero

-- an update or a check with the old value that is given, or else the one that the transaction sees
abbrev pub with_old : Session → Open → List ℕ → Option (List ℕ) → (List ℕ → Turned) → Course
with_old s o name (Some old) turned = alone (turned old)
with_old s o name None turned = elim (own_ref o.stage.staged.refs name) [ Some own ↦ alone (turned own) | None ↦ reads o.partition (event.GetRef o.pin name) (λ done. turned (old_in done)) ]

-- a reference's value, none where it is zero
abbrev pub value_of : List ℕ → Option (List ℕ)
value_of v = if is_zero v then None else Some v

abbrev pub get : Session → Open → List ℕ → Course
get s o name = elim (own_ref o.stage.staged.refs name) [ Some own ↦ alone (Ok (Value (value_of own)), s) | None ↦ asks o.partition (event.GetRef o.pin name) ]

abbrev pub as_names : List RefValue → Names
as_names list = map.from_entries {R = key_cmp} (map_list (λ r. (r.name, r.value)) list)

-- the references that were read, with the staged updates laid over them
abbrev pub laid_over : List RefUpdate → List ℕ → List RefValue → List RefValue
laid_over refs prefix list = references (with_refs (as_names list) refs) prefix

abbrev pub list_in : Session → Open → List ℕ → Done → Turned
list_in s o prefix (Refs list) = (Ok (Refs (laid_over o.stage.staged.refs prefix list)), s)
list_in s o prefix done = (Ok done, s)

abbrev pub cat : Session → Open → List ℕ → Course
cat s o name = elim (own_record o.stage.staged.records name) [ Some whole ↦ alone (Ok (Object whole), s) | None ↦ asks o.partition (event.Cat o.pin name) ]

-- ---- the position that a transaction begins from

-- the later of a position and the one that a line names, where it names one
abbrev pub later_of : ℕ → Option ℕ → ℕ
later_of seen None = seen
later_of seen (Some from) = max seen from

-- what has to be seen of a partition: what the session has seen of it, and the position that the line names
abbrev pub seen_from : Session → ℕ → Option ℕ → ℕ
seen_from s partition from = later_of (seen_of s partition) from

-- ---- an application of a log

-- whether so many entries of a partition can be applied: 1 to 16, of the one partition that is there
abbrev pub can_apply : ℕ → ℕ → Bool
can_apply partition n = nat_eq partition 1 && nat_le 1 n && nat_le n 16

-- ---- the whole

-- what a line of a session comes to; lines that no session does yet have no course
abbrev pub course : Session → Form → Option Course
course s (line.Create path None) = Some (with_path path (finds path (assign None) (λ p. event.Create path false)))
course s (line.Delete path) = Some (with_path path (finds path ask (λ p. event.Delete path)))
course s (line.Begin path from) = Some (unless_open s (with_path path (finds path ask (λ p. event.Begin path (seen_from s p from)))))
course s (line.Put kind content) = Some (with_open s (λ o. alone (put s o kind (content_of content))))
course s (line.Set name old new) = Some (with_open s (λ o. with_ref name (with_old s o name old (set s o name new))))
course s (line.Verify name old) = Some (with_open s (λ o. with_ref name (with_old s o name old (check s o name))))
course s (line.Get name) = Some (with_open s (λ o. with_ref name (get s o name)))
course s (line.List prefix) = Some (with_open s (λ o. reads o.partition (event.ListRefs o.pin prefix) (list_in s o prefix)))
course s (line.Cat name) = Some (with_open s (λ o. cat s o name))
course s line.Commit = Some (with_open s (λ o. asks o.partition (event.Commit o.pin o.stage.staged.refs o.stage.staged.records)))
course s line.Abort = Some (with_open s (λ o. asks o.partition (event.Abort o.pin)))
course s (line.Apply partition n) = if can_apply partition n then Some (asks partition (event.Apply n)) else None
course s form = None

-- whether a line of this form has a course
abbrev pub has_course : Form → Bool
has_course (line.Create path None) = true
has_course (line.Delete path) = true
has_course (line.Begin path from) = true
has_course (line.Put kind content) = true
has_course (line.Set name old new) = true
has_course (line.Verify name old) = true
has_course (line.Get name) = true
has_course (line.List prefix) = true
has_course (line.Cat name) = true
has_course line.Commit = true
has_course line.Abort = true
has_course (line.Apply partition n) = can_apply partition n
has_course form = false

-- ---- after a call of a partition

-- whether an event with this answer begins a transaction, which gives a pass
abbrev pub begins : Event → Result Done Refusal → Bool
begins (event.Begin path seen) (Ok done) = true
begins e answer = false

abbrev pub opened : Session → ℕ → Option ℕ → Session
opened s partition None = s
opened s partition (Some pin) = record s { «open» = Some (begun partition pin) }

-- The session after a partition's answer to an event that it asked, with the number of the pass that was given: what began is open under it, and what ended isn't.
abbrev pub after_event : Session → ℕ → Option ℕ → Event → Result Done Refusal → Session
after_event s partition given (event.Begin path seen) answer = opened (told s partition answer) partition given
after_event s partition given (event.Commit pin refs records) answer = if ends answer then forgotten (told s partition answer) else told s partition answer
after_event s partition given (event.Abort pin) answer = forgotten s
after_event s partition given e answer = told s partition answer

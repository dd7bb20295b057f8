-- The machine of one partition: from a state, an event gives an answer and a new state.
use Rattle.std.specs.Prelude.{◌≡◌, ◌⊎◌, ℕ, ◌+◌, ◌-◌, ◌≤◌, zero as none_left, suc, min, nat_le, nat_lt, nat_eq, Bool, true, false, not, ◌&&◌, ◌||◌, is_some, is_none, IsTrue, List, [], ◌∷◌, ◌++◌, length, take, drop, filter, find, fold, map as map_list, Option, Some, None, Result, Ok, Err, if◌then◌else◌}
use Rattle.std.specs.List.{list_any, starts_with, AllByRecursion}
use Rattle.std.specs.Option.{option_map, unwrap_or}
use Rattle.std.specs.FinMap as map
use Rattle.gt_disk.specs.declared.file_id.FileId.{FileId}
use Rattle.gt_model.specs.declared.added.Added.{Added}
use Rattle.gt_model.specs.declared.change.Change.{Change}
use Rattle.gt_model.specs.declared.change.Change.TheVariants.{Create as CreateChange, Delete as DeleteChange, Link as LinkChange, Write}
use Rattle.gt_model.specs.declared.done.Done.{Done}
use Rattle.gt_model.specs.declared.done.Done.TheVariants.{Created, Deleted, Linked, Begun, Committed, Finished, HouseOpen as HouseOpened, HouseDone, Applied, Trimmed, Value, Refs, Object, Aborted, Step as StepDone, Swept}
use Rattle.gt_model.specs.declared.entry.Entry.{Entry}
use Rattle.gt_model.specs.declared.event.Event.{Event}
use Rattle.gt_model.specs.declared.event.Event.TheVariants.{Create, Delete, Link, Begin, GetRef, ListRefs, Cat, Commit, Abort, HouseOpen, HouseStep, HouseCommit, Apply, Trim, Sweep}
use Rattle.gt_model.specs.declared.job.Job.{Job}
use Rattle.gt_model.specs.declared.job.Job.TheVariants.{Repack}
use Rattle.gt_model.specs.declared.limits.Limits.{Limits}
use Rattle.gt_model.specs.declared.reference.RefValue.{RefValue}
use Rattle.gt_model.specs.declared.refusal.Refusal.{Refusal}
use Rattle.gt_model.specs.declared.refusal.Refusal.TheVariants.{NoRepository, RepositoryExists, Behind, PinsFull, Absent, IsPool, NotPool, AlreadyLinked, NotLinked, PoolInUse, LogFull, EpochFull, DeviceFault, Unsure, MapUnsure, Damaged, Memory}
use Rattle.gt_model.specs.declared.update.RefUpdate.{RefUpdate}
use Rattle.gt_model.specs.Contents.{Content, Names, nothing, after_all, at, has_repo, is_pool, pool_of, value, found, least_member}
use Rattle.gt_model.specs.Verdicts.{Staged, Ready, verdict, refs_in, added_records}
use Rattle.gt_model.specs.Jobs.{AreUnits, Drops, job_change}
use Rattle.gt_model.specs.Conflicts.{is_unlink, job_conflict}
use Rattle.gt_model.specs.Batches.{next_past, new_files}

-- ---- states

-- the work of a live job: its kind, the number of its file, how many units are left, and whether the file is ended
pub record Work : Type 0 where
  pub job : Job
  pub file : ℕ
  pub left : ℕ
  pub is_ready : Bool

-- a live transaction, or with work a live job: its number, the position that it reads, and its repository
pub record Pin : Type 0 where
  pub number : ℕ
  pub position : ℕ
  pub path : List ℕ
  pub work : Option Work

abbrev pub reading : ℕ → ℕ → List ℕ → Pin
reading number position path = record { number = number; position = position; path = path; work = None }

-- what an application comes to: the position up to which entries are applied, and the next free file number
pub record Applying : Type 0 where
  pub position : ℕ
  pub next : ℕ

-- a partition since it was opened
pub record State : Type 0 where
  -- the position behind which the log begins, and the content there
  pub begin : ℕ
  pub base : Content
  -- the log, and an entry that may be in the log or not
  pub log : List Entry
  pub doubt : Option Entry
  -- the live transactions and jobs, in order of beginning
  pub pins : List Pin
  -- the position up to which entries are applied, the number of its manifest, the next free file number there, and an application that may count or not
  pub applied : ℕ
  pub epoch : ℕ
  pub manifest_next : ℕ
  pub turning : Option Applying
  -- no position below this one is kept
  pub floor : ℕ
  -- the next free file number
  pub next : ℕ

-- what files recover to: the number of a manifest, the position up to which its files have the entries, the next free file number there, the content at that position, and the log behind it
pub record Recovered : Type 0 where
  pub epoch : ℕ
  pub applied : ℕ
  pub next : ℕ
  pub base : Content
  pub log : List Entry

-- as it is opened over what was recovered: nothing is in doubt and nothing is live
abbrev pub opening : Recovered → State
opening r = record {
  begin = r.applied;
  base = r.base;
  log = r.log;
  doubt = None;
  pins = [];
  applied = r.applied;
  epoch = r.epoch;
  manifest_next = r.next;
  turning = None;
  floor = r.applied;
  next = next_past r.next r.log;
}

-- a log of which nothing has been applied
abbrev pub unapplied : List Entry → Recovered
unapplied log = record { epoch = 0; applied = 0; next = 1; base = nothing; log = log }

abbrev pub with_doubt : List Entry → Option Entry → List Entry
with_doubt log None = log
with_doubt log (Some e) = log ++ e ∷ []

-- the log with its doubt last
abbrev pub line : State → List Entry
line s = with_doubt s.log s.doubt

-- the content at a position of the log with its doubt last
abbrev pub line_at : State → ℕ → Content
line_at s position = at s.begin s.base (line s) position

-- the position of the last entry
abbrev pub front : State → ℕ
front s = s.begin + length s.log

abbrev pub content_at : State → ℕ → Content
content_at s position = at s.begin s.base s.log position

-- the content at the front
abbrev pub content : State → Content
content s = after_all s.base s.log

-- the entries behind a position
abbrev pub entries_past : State → ℕ → List Entry
entries_past s position = drop (position - s.begin) s.log

abbrev pub is_full : Limits → State → Bool
is_full limits s = nat_le limits.positions (front s)

-- No file number from 2^63 on is given out.
abbrev pub has_no_number : State → Bool
has_no_number s = nat_le 9223372036854775808 s.next

-- ---- pins

-- a live pin of this number and of this kind
abbrev pub is_live_as : (Pin → Bool) → List Pin → ℕ → Bool
is_live_as kind pins number = list_any (λ p. nat_eq p.number number && kind p) pins

abbrev pub is_live : List Pin → ℕ → Bool
is_live pins number = list_any (λ p. nat_eq p.number number) pins

abbrev pub is_transaction : Pin → Bool
is_transaction p = is_none p.work

abbrev pub is_job : Pin → Bool
is_job p = is_some p.work

abbrev pub is_ready_work : Option Work → Bool
is_ready_work None = false
is_ready_work (Some w) = w.is_ready

abbrev pub is_ready_job : Pin → Bool
is_ready_job p = is_ready_work p.work

-- the least number from this one on that isn't live, among so many and the next
abbrev pub free_from : List Pin → ℕ → ℕ → ℕ
free_from pins number none_left = number
free_from pins number (suc more) = if is_live pins number then free_from pins (number + 1) more else number

-- the least number that isn't live
abbrev pub free_number : List Pin → ℕ
free_number pins = free_from pins 0 (length pins)

abbrev pub pin_of : State → ℕ → Pin
pin_of s number = unwrap_or (find (λ p. nat_eq p.number number) s.pins) (reading number 0 [])

abbrev pub work_of : Pin → Work
work_of p = unwrap_or p.work (record { job = Repack; file = 0; left = 0; is_ready = false })

abbrev pub released : List Pin → ℕ → List Pin
released pins number = filter (λ p. not (nat_eq p.number number)) pins

abbrev pub with_work : (Work → Work) → Pin → Pin
with_work f p = record p { work = option_map f p.work }

-- the pins with this one's work changed
abbrev pub working : List Pin → ℕ → (Work → Work) → List Pin
working pins number f = map_list (λ p. if nat_eq p.number number then with_work f p else p) pins

-- so many units fewer are left
abbrev pub fewer : ℕ → Work → Work
fewer n w = record w { left = w.left - n }

-- so many units fewer are left, and where none is the file is ended
abbrev pub stepped : ℕ → Work → Work
stepped n w = record w { left = w.left - n; is_ready = nat_le w.left n }

-- the content that a transaction or a job reads
abbrev pub content_of : State → ℕ → Content
content_of s number = content_at s (pin_of s number).position

-- the least of the applied position and of those that are read
abbrev pub low_water : State → ℕ
low_water s = fold (λ low p. min low p.position) s.applied s.pins

-- ---- what an event comes to

-- It is refused, or answered, and these live on; or an entry is added, with this answer. A job is opened, with this pin, or goes on by so many units. Entries are applied. Files are removed, with this floor and this answer. Or it depends on how many units a job has, or on the names that it drops.
pub data Effect : Type 0 where
  refuses : Refusal → List Pin → Effect
  answers : Done → List Pin → Effect
  adds : Entry → Done → List Pin → Effect
  opens : Pin → Effect
  works : ℕ → ℕ → Effect
  applies : Applying → Effect
  removes : ℕ → Done → Effect
  by_units : Content → List ℕ → Job → (ℕ → Effect) → Effect
  by_dropped : Content → List ℕ → Job → (List (List ℕ) → Effect) → Effect

-- the first of these refusals that stands, and else what is left
abbrev pub first_refusal : List Pin → List (Bool × Refusal) → Effect → Effect
first_refusal pins [] effect = effect
first_refusal pins (r ∷ rs) effect = if r.0 then refuses r.1 pins else first_refusal pins rs effect

-- what is left, unless there is a refusal
abbrev pub unless : Option Refusal → List Pin → Effect → Effect
unless None pins effect = effect
unless (Some refusal) pins effect = refuses refusal pins

-- the entry behind the front
abbrev pub next_entry : State → List ℕ → Change → Entry
next_entry s path change = record { position = front s + 1; path = path; change = change }

abbrev pub references : Names → List ℕ → List RefValue
references refs prefix = map_list (λ e. record { name = e.0; value = e.1 }) (filter (λ e. starts_with nat_eq e.0 prefix) (map.entries refs))

abbrev pub object : Option (List ℕ) → List ℕ → List Pin → Effect
object None name pins = refuses (Absent name) pins
object (Some whole) name pins = answers (Object whole) pins

-- A good commit is an entry, with its pin gone; one that fails is gone too. At the limit of the log it stays.
abbrev pub committed : Limits → State → ℕ → Staged → Result Ready Refusal → Effect
committed limits s pin staged (Err refusal) = refuses refusal (released s.pins pin)
committed limits s pin staged (Ok ready) =
    first_refusal s.pins ((is_full limits s, LogFull) ∷ [])
    (adds (next_entry s (pin_of s pin).path (Write ready.refs ready.needed (added_records (content s) (pin_of s pin).path staged))) (Committed (front s + 1)) (released s.pins pin))

-- Where nothing is staged, no check is made.
abbrev pub is_empty : List RefUpdate → List Added → Bool
is_empty [] [] = true
is_empty (u ∷ us) records = false
is_empty [] (a ∷ as') = false

-- a job over the content at the applied position, with the next free file number
abbrev pub opened_job : Limits → State → List ℕ → Job → Content → Effect
opened_job limits s path job c =
    first_refusal s.pins ((nat_le limits.pins (length s.pins), PinsFull) ∷ (not (has_repo c path), NoRepository) ∷ (is_unlink job && is_none (pool_of c path), NotLinked) ∷ (has_no_number s, EpochFull) ∷ [])
    (by_units c path job (λ units. opens (record { number = free_number s.pins; position = s.applied; path = path; work = Some (record { job = job; file = s.next; left = units; is_ready = false }) })))

-- the entry of a job that drops these names, unless an entry behind its position is in its way; its pin is gone
abbrev pub closed_job : Limits → State → Pin → Work → List Pin → Content → Effect
closed_job limits s p w pins c =
    by_dropped c p.path w.job (λ dropped. unless (job_conflict c p.path w.job dropped (entries_past s p.position)) pins
    (first_refusal pins ((is_full limits s, LogFull) ∷ []) (adds (next_entry s p.path (job_change w.job w.file dropped)) (HouseDone (front s + 1)) pins)))

-- these entries are applied, if there are any
abbrev pub applied_by : Limits → State → List Entry → Effect
applied_by limits s [] = answers (Applied s.applied) s.pins
applied_by limits s (e ∷ es) =
    first_refusal s.pins ((nat_le limits.epochs s.epoch || has_no_number s, EpochFull) ∷ [])
    (applies (record { position = s.applied + length (e ∷ es); next = s.next + new_files (e ∷ es) }))

-- what an event comes to where nothing is in doubt and neither the disk nor memory fails
abbrev pub effect : Limits → State → Event → Effect
effect limits s (Create path pool) =
    first_refusal s.pins ((has_repo (content s) path, RepositoryExists) ∷ (is_full limits s, LogFull) ∷ [])
    (adds (next_entry s path (CreateChange pool)) (Created (front s + 1) pool) s.pins)
effect limits s (Delete path) =
    first_refusal s.pins ((not (has_repo (content s) path), NoRepository) ∷ [])
    (unless (option_map PoolInUse (least_member (content s) path)) s.pins
    (first_refusal s.pins ((is_full limits s, LogFull) ∷ []) (adds (next_entry s path DeleteChange) (Deleted (front s + 1)) s.pins)))
effect limits s (Link path pool) =
    first_refusal s.pins ((not (has_repo (content s) path && has_repo (content s) pool), NoRepository) ∷ (is_pool (content s) path, IsPool) ∷ (not (is_pool (content s) pool), NotPool) ∷ (is_some (pool_of (content s) path), AlreadyLinked) ∷ (is_full limits s, LogFull) ∷ [])
    (adds (next_entry s path (LinkChange pool)) (Linked (front s + 1)) s.pins)
effect limits s (Begin path seen) =
    first_refusal s.pins ((nat_lt (front s) seen, Behind seen (front s)) ∷ (nat_le limits.pins (length s.pins), PinsFull) ∷ (not (has_repo (content s) path), NoRepository) ∷ [])
    (answers (Begun (front s)) (s.pins ++ reading (free_number s.pins) (front s) path ∷ []))
effect limits s (GetRef pin name) = answers (Value (value (content_of s pin) (pin_of s pin).path name)) s.pins
effect limits s (ListRefs pin prefix) = answers (Refs (references (refs_in (content_of s pin) (pin_of s pin).path) prefix)) s.pins
effect limits s (Cat pin name) = object (found (content_of s pin) (pin_of s pin).path name) name s.pins
effect limits s (Commit pin refs records) =
    if is_empty refs records then answers (Finished (pin_of s pin).position) (released s.pins pin)
    else committed limits s pin (record { refs = refs; records = records }) (verdict (content s) (pin_of s pin).path (record { refs = refs; records = records }))
effect limits s (Abort pin) = answers Aborted (released s.pins pin)
effect limits s (HouseOpen path job) = opened_job limits s path job (content_at s s.applied)
effect limits s (HouseStep pin n) = if is_ready_job (pin_of s pin) then answers (StepDone true) s.pins else works pin n
effect limits s (HouseCommit pin) = closed_job limits s (pin_of s pin) (work_of (pin_of s pin)) (released s.pins pin) (content_of s pin)
effect limits s (Apply n) = applied_by limits s (take n (entries_past s s.applied))
effect limits s Trim = removes (low_water s) (Trimmed (low_water s))
effect limits s Sweep = removes s.floor Swept

-- An event that names a pin is asked by a live one of its kind: a commit by a transaction's, a step by a job's, a job's commit by a ready job's.
abbrev pub is_asked : State → Event → Bool
is_asked s (GetRef pin name) = is_live s.pins pin
is_asked s (ListRefs pin prefix) = is_live s.pins pin
is_asked s (Cat pin name) = is_live s.pins pin
is_asked s (Commit pin refs records) = is_live_as is_transaction s.pins pin
is_asked s (Abort pin) = is_live s.pins pin
is_asked s (HouseStep pin n) = is_live_as is_job s.pins pin
is_asked s (HouseCommit pin) = is_live_as is_ready_job s.pins pin
is_asked s event = true

-- ---- where it ends

abbrev pub with_pins : State → List Pin → State
with_pins s pins = record s { pins = pins }

abbrev pub with_floor : State → ℕ → State
with_floor s floor = record s { floor = floor }

-- An entry joins the log, and none is in doubt.
abbrev pub with_entry : State → Entry → State
with_entry s e = record s { log = s.log ++ e ∷ []; doubt = None }

-- The job takes the next free file number.
abbrev pub with_job : State → Pin → State
with_job s p = record s { pins = s.pins ++ p ∷ []; next = s.next + 1 }

-- the application counts, by one manifest more
abbrev pub turned : State → Applying → State
turned s a = record s { applied = a.position; epoch = s.epoch + 1; manifest_next = a.next; turning = None }

-- the numbers of an application's files are given out
abbrev pub numbered : State → Applying → State
numbered s a = record s { next = a.next }

-- Where nothing is in doubt: the answer, and the state after it. An entry is in the log, or the disk failed and it is in doubt.
abbrev pub Ends : Effect → State → Result Done Refusal → State → Type 0
Ends (refuses refusal pins) s answer new = (answer ≡ Err refusal) × (new ≡ with_pins s pins)
Ends (answers done pins) s answer new = (answer ≡ Ok done) × (new ≡ with_pins s pins)
Ends (adds e done pins) s answer new =
    ((answer ≡ Ok done) × (new ≡ with_pins (with_entry s e) pins))
    ⊎ ((answer ≡ Err (Unsure e.position)) × (new ≡ record s { doubt = Some e; pins = pins }))
Ends (opens p) s answer new = (answer ≡ Ok (HouseOpened p.position)) × (new ≡ with_job s p)
Ends (works pin n) s answer new =
    (answer ≡ Ok (StepDone (nat_le (work_of (pin_of s pin)).left n))) × (new ≡ with_pins s (working s.pins pin (stepped n)))
Ends (applies a) s answer new = (answer ≡ Ok (Applied a.position)) × (new ≡ turned (numbered s a) a)
Ends (removes floor done) s answer new = (answer ≡ Ok done) × (new ≡ with_floor s floor)
Ends (by_units c path job more) s answer new = (units : ℕ) × AreUnits c path job units × Ends (more units) s answer new
Ends (by_dropped c path job more) s answer new = (dropped : List (List ℕ)) × Drops c path job dropped × Ends (more dropped) s answer new

-- ---- where it stops

-- an answer that is read from the disk
abbrev pub is_object : Done → Bool
is_object (Object whole) = true
is_object done = false

-- A fault of the disk, or an object that isn't at its place, ends a job whose step or commit meets it.
abbrev pub after_fault : State → Event → State
after_fault s (HouseStep pin n) = with_pins s (released s.pins pin)
after_fault s (HouseCommit pin) = with_pins s (released s.pins pin)
after_fault s event = s

-- The disk may fail where an entry is added, an object is read, a job goes on, entries are applied or files are removed. An application is then in doubt, or its numbers are used up, or nothing has changed. The floor has moved or not.
abbrev pub Fails : Event → Effect → State → State → Type 0
Fails event (refuses refusal pins) s new = ⊥
Fails event (answers done pins) s new = IsTrue (is_object done) × (new ≡ s)
Fails event (adds e done pins) s new = new ≡ after_fault s event
Fails event (opens p) s new = ⊥
Fails event (works pin n) s new = new ≡ after_fault s event
Fails event (applies a) s new = (new ≡ s) ⊎ (new ≡ numbered s a) ⊎ (new ≡ record (numbered s a) { turning = Some a })
Fails event (removes floor done) s new = (new ≡ s) ⊎ (new ≡ with_floor s floor)
Fails event (by_units c path job more) s new = (units : ℕ) × AreUnits c path job units × Fails event (more units) s new
Fails event (by_dropped c path job more) s new = (dropped : List (List ℕ)) × Drops c path job dropped × Fails event (more dropped) s new

-- Memory may run out in each event but the end of a transaction or a job. Nothing changes, but that a job may have gone on by some of the units.
abbrev pub RunsOut : Event → State → State → Type 0
RunsOut (Abort pin) s new = ⊥
RunsOut (HouseStep pin n) s new = (some : ℕ) × (some ≤ n) × (new ≡ with_pins s (working s.pins pin (fewer some)))
RunsOut event s new = new ≡ s

-- Where nothing is in doubt, it ends, or the disk fails, or memory runs out.
abbrev pub Acts : Limits → State → Event → Result Done Refusal → State → Type 0
Acts limits s event answer new =
    Ends (effect limits s event) s answer new
    ⊎ ((answer ≡ Err DeviceFault) × Fails event (effect limits s event) s new)
    ⊎ ((answer ≡ Err Memory) × RunsOut event s new)

-- ---- doubts

-- the events that first settle an entry in doubt
abbrev pub settles : Event → Bool
settles (GetRef pin name) = false
settles (ListRefs pin prefix) = false
settles (Cat pin name) = false
settles (Commit pin refs records) = not (is_empty refs records)
settles (Abort pin) = false
settles (HouseStep pin n) = false
settles event = true

-- the events that then settle an application in doubt
abbrev pub settles_turn : Event → Bool
settles_turn (HouseOpen path job) = true
settles_turn (Apply n) = true
settles_turn Trim = true
settles_turn Sweep = true
settles_turn event = false

-- The entry in doubt joins the log, or is dropped.
abbrev pub SettledEntry : Bool → State → State → Type 0
SettledEntry false old new = new ≡ old
SettledEntry true old new = (new ≡ record old { doubt = None }) ⊎ (new ≡ record old { log = line old; doubt = None })

-- what counts once an application in doubt is found to count
abbrev pub turned_by : State → Option Applying → State
turned_by s None = s
turned_by s (Some a) = turned s a

-- The application in doubt counts, or it doesn't. Its file numbers are used up either way.
abbrev pub SettledTurn : Bool → State → State → Type 0
SettledTurn false old new = new ≡ old
SettledTurn true old new = (new ≡ record old { turning = None }) ⊎ (new ≡ turned_by old old.turning)

-- What the event settles is settled.
abbrev pub Settled : Event → State → State → Type 0
Settled event old new = (mid : State) × SettledEntry (settles event) old mid × SettledTurn (settles_turn event) mid new

-- The disk fails while a doubt is settled, which stays. Where it is the second one, the first is settled.
abbrev pub FailsToSettle : Event → State → State → Type 0
FailsToSettle event old new =
    (IsTrue (settles event && is_some old.doubt) × (new ≡ after_fault old event))
    ⊎ (IsTrue (settles_turn event && is_some old.turning) × SettledEntry true old new)

-- ---- steps

-- One event, by a live pin of its kind where it names one: it settles what it settles, and acts. Or the disk fails while it settles, or memory runs out before that.
abbrev pub Step : Limits → State → Event → Result Done Refusal → State → Type 0
Step limits old event answer new =
    IsTrue (is_asked old event) ×
    (((mid : State) × Settled event old mid × Acts limits mid event answer new)
    ⊎ ((answer ≡ Err DeviceFault) × FailsToSettle event old new)
    ⊎ ((answer ≡ Err Memory) × RunsOut event old new))

-- an effect by which objects are read
abbrev pub reads_object : Effect → Bool
reads_object (answers done pins) = is_object done
reads_object (works pin n) = true
reads_object effect = false

-- The disk doesn't hold an object that the event reads at its place.
abbrev pub IsSpoilt : Limits → State → Event → Result Done Refusal → State → Type 0
IsSpoilt limits old event answer new =
    IsTrue (is_asked old event && reads_object (effect limits old event))
    × ((file : FileId) × (place : ℕ) × (answer ≡ Err (Damaged file place)))
    × (new ≡ after_fault old event)

-- One event over any disk, one that doesn't hold what was written to it too.
abbrev pub StepOnAny : Limits → State → Event → Result Done Refusal → State → Type 0
StepOnAny limits old event answer new = Step limits old event answer new ⊎ IsSpoilt limits old event answer new

-- ---- openings

-- what the files have of a state in which nothing is in doubt: what is applied is the base
abbrev pub recovered_of : State → Recovered
recovered_of s = record { epoch = s.epoch; applied = s.applied; next = s.manifest_next; base = content_at s s.applied; log = entries_past s s.applied }

-- The files may recover to this: all that is in doubt is settled.
abbrev pub MayRecover : State → Recovered → Type 0
MayRecover old r = (entry turn : State) × SettledEntry true old entry × SettledTurn true entry turn × (r ≡ recovered_of turn)

-- At an opening all that is in doubt is settled, what is applied is the base, and nothing is live any more.
abbrev pub Settles : State → State → Type 0
Settles old new = (r : Recovered) × MayRecover old r × (new ≡ opening r)

-- ---- what holds of each state

-- A job's position is applied, its file number was given out, and where it is ready no unit is left.
abbrev pub IsWorkIn : ℕ → ℕ → ℕ → Option Work → Type 0
IsWorkIn applied next position None = Unit {0}
IsWorkIn applied next position (Some w) = (position ≤ applied) × (w.file + 1 ≤ next) × (IsTrue w.is_ready → w.left ≡ 0)

-- What is live reads a position between the floor and the front.
abbrev pub IsPinIn : ℕ → ℕ → ℕ → ℕ → Pin → Type 0
IsPinIn floor applied front next p = (floor ≤ p.position) × (p.position ≤ front) × IsWorkIn applied next p.position p.work

-- An application in doubt ends past the applied position, at the front at most, and its numbers were given out.
abbrev pub IsTurningIn : ℕ → ℕ → ℕ → Option Applying → Type 0
IsTurningIn applied front next None = Unit {0}
IsTurningIn applied front next (Some a) = (applied + 1 ≤ a.position) × (a.position ≤ front) × (a.next ≤ next)

-- An entry in doubt stands behind the front.
abbrev pub IsDoubtIn : ℕ → Option Entry → Type 0
IsDoubtIn front None = Unit {0}
IsDoubtIn front (Some e) = e.position ≡ front + 1

-- The base, the floor, the applied position and the front stand in this order, and what is live between the floor and the front.
pub record IsInOrder (s : State) : Type 0 where
  pub base_first : s.begin ≤ s.floor
  pub floor_kept : s.floor ≤ s.applied
  pub applied_is_there : s.applied ≤ front s
  pub numbers : s.manifest_next ≤ s.next
  pub live : AllByRecursion (IsPinIn s.floor s.applied (front s) s.next) s.pins
  pub doubted : IsDoubtIn (front s) s.doubt
  pub turn : IsTurningIn s.applied (front s) s.next s.turning

-- ---- faults

abbrev pub is_fault : Refusal → Bool
is_fault DeviceFault = true
is_fault (Unsure position) = true
is_fault (MapUnsure number) = true
is_fault refusal = false

-- the answers that come of a failing disk
abbrev pub is_faulty : Result Done Refusal → Bool
is_faulty (Ok done) = false
is_faulty (Err refusal) = is_fault refusal

abbrev pub is_memory : Refusal → Bool
is_memory Memory = true
is_memory refusal = false

-- the answers that state and event don't decide: those of a failing disk, and want of memory
abbrev pub is_free : Result Done Refusal → Bool
is_free (Ok done) = false
is_free (Err refusal) = is_fault refusal || is_memory refusal

-- Nothing is in doubt.
abbrev pub is_settled : State → Bool
is_settled s = is_none s.doubt && is_none s.turning

-- the events that always end as they say
abbrev pub is_certain : Event → Bool
is_certain (Abort pin) = true
is_certain event = false

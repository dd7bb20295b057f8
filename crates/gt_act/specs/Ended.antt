-- The answers that take no memory.
use Rattle.std.specs.Prelude.{◌≡◌, Result, Ok, Err}
use Rattle.gt_model.specs.declared.done.Done.{Done}
use Rattle.gt_model.specs.declared.done.Done.TheVariants as done
use Rattle.gt_model.specs.declared.event.Event.{Event}
use Rattle.gt_model.specs.declared.refusal.Refusal.{Refusal}
use Rattle.gt_model.specs.declared.refusal.Refusal.TheVariants as refusal
use Rattle.gt_model.specs.Histories.{kept}
use Rattle.gt_model.specs.Machine.{State}
use Rattle.gt_act.specs.declared.ended.Ended.{Ended}
use Rattle.gt_act.specs.declared.ended.Ended.TheVariants as ended
use Rattle.gt_act.specs.declared.reply.Reply.{Reply}

-- the answer that an end of an event is
abbrev pub answer_of : Ended → Result Done Refusal
answer_of (ended.Created position pool) = Ok (done.Created position pool)
answer_of (ended.Deleted position) = Ok (done.Deleted position)
answer_of (ended.Begun position) = Ok (done.Begun position)
answer_of (ended.Committed position) = Ok (done.Committed position)
answer_of (ended.Finished position) = Ok (done.Finished position)
answer_of (ended.Applied position) = Ok (done.Applied position)
answer_of (ended.Value value) = Ok (done.Value value)
answer_of ended.Aborted = Ok done.Aborted
answer_of ended.NoRepository = Err refusal.NoRepository
answer_of ended.RepositoryExists = Err refusal.RepositoryExists
answer_of (ended.Behind seen front) = Err (refusal.Behind seen front)
answer_of ended.PinsFull = Err refusal.PinsFull
answer_of (ended.Absent name) = Err (refusal.Absent name)
answer_of ended.LogFull = Err refusal.LogFull
answer_of ended.EpochFull = Err refusal.EpochFull
answer_of ended.DeviceFault = Err refusal.DeviceFault
answer_of (ended.Unsure position) = Err (refusal.Unsure position)
answer_of (ended.Damaged file at) = Err (refusal.Damaged file at)
answer_of ended.Memory = Err refusal.Memory

-- What is kept of a reply is what a record keeps of its answer.
abbrev pub IsKeptOf : State → Event → Reply → Type 0
IsKeptOf s e reply = reply.kept ≡ kept s e reply.answer

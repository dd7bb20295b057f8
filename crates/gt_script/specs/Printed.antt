-- The line of each answer: words with one space between each two, and a line feed.
use Rattle.std.specs.Prelude.{ℕ, Bool, true, false, List, [], ◌∷◌, ◌++◌, length, codes, decimal, ◌==◌, if◌then◌else◌, Option, Some, None, Result, Ok, Err}
use Rattle.hex.specs.Hex.{encode_lower}
use Rattle.gt_disk.specs.declared.file_id.FileId.{FileId}
use Rattle.gt_object.specs.declared.kind.Kind.{Kind}
use Rattle.gt_object.specs.Header.{word as kind_text, kind_of}
use Rattle.gt_object.specs.Whole.{content_of}
use Rattle.gt_model.specs.declared.reference.RefValue.{RefValue}
use Rattle.gt_model.specs.declared.needer.Needer.{Needer}
use Rattle.gt_model.specs.declared.needer.Needer.TheVariants.{Ref, Object as NeedingObject}
use Rattle.gt_model.specs.declared.done.Done.{Done}
use Rattle.gt_model.specs.declared.done.Done.TheVariants as done
use Rattle.gt_model.specs.declared.refusal.Refusal.{Refusal}
use Rattle.gt_model.specs.declared.refusal.Refusal.TheVariants as refusal

-- each further word behind a space, and the line feed
abbrev pub further : List (List ℕ) → List ℕ
further [] = 10 ∷ []
further (w ∷ ws) = 32 ∷ (w ++ further ws)

-- the line of a first word and further ones
abbrev pub line : List ℕ → List (List ℕ) → List ℕ
line word ws = word ++ further ws

-- ---- the words of parts of an answer

abbrev pub needer_word : Needer → List ℕ
needer_word (Ref name) = name
needer_word (NeedingObject name) = encode_lower name

-- the kind and the number of a file, in decimal
abbrev pub file_word : FileId → List ℕ
file_word file = decimal file.kind ++ 45 ∷ decimal file.number

-- the value and the name of each reference
abbrev pub refs_words : List RefValue → List (List ℕ)
refs_words [] = []
refs_words (r ∷ rs) = encode_lower r.value ∷ r.name ∷ refs_words rs

abbrev pub kind_word : Option Kind → List ℕ
kind_word None = []
kind_word (Some kind) = kind_text kind

-- a content in hex, or `-` for none
abbrev pub content_word : List ℕ → List ℕ
content_word content = if length content == 0 then codes "-" else encode_lower content

-- ---- the line of each answer

-- `ok`, what was done, and a number
abbrev pub ok_line : List ℕ → ℕ → List ℕ
ok_line word n = line (codes "ok") (word ∷ decimal n ∷ [])

abbrev pub created_line : ℕ → Bool → List ℕ
created_line position true = ok_line (codes "pool") position
created_line position false = ok_line (codes "create") position

abbrev pub value_line : Option (List ℕ) → List ℕ
value_line None = line (codes "noref") []
value_line (Some name) = line (codes "ref") (encode_lower name ∷ [])

abbrev pub step_line : Bool → List ℕ
step_line true = line (codes "ready") []
step_line false = line (codes "more") []

abbrev pub done_line : Done → List ℕ
done_line (done.Created position pool) = created_line position pool
done_line (done.Deleted position) = ok_line (codes "delete") position
done_line (done.Linked position) = ok_line (codes "link") position
done_line (done.Begun position) = ok_line (codes "begin") position
done_line (done.Committed position) = ok_line (codes "commit") position
done_line (done.Finished position) = ok_line (codes "done") position
done_line (done.HouseOpen position) = ok_line (codes "house") position
done_line (done.HouseDone position) = ok_line (codes "close") position
done_line (done.Applied position) = ok_line (codes "apply") position
done_line (done.Trimmed low) = ok_line (codes "trim") low
done_line (done.Value value) = value_line value
done_line (done.Refs list) = line (codes "refs") (decimal (length list) ∷ refs_words list)
done_line (done.Object whole) = line (codes "object") (kind_word (kind_of whole) ∷ content_word (content_of whole) ∷ [])
done_line (done.Named name) = line (codes "name") (encode_lower name ∷ [])
done_line done.Staged = line (codes "ok") (codes "set" ∷ [])
done_line done.Checked = line (codes "ok") (codes "verify" ∷ [])
done_line done.Aborted = line (codes "ok") (codes "abort" ∷ [])
done_line (done.Step ready) = step_line ready
done_line done.Swept = line (codes "ok") (codes "sweep" ∷ [])
done_line done.Restarted = line (codes "ok") (codes "restart" ∷ [])

abbrev pub refusal_line : Refusal → List ℕ
refusal_line refusal.NoRepository = line (codes "norepository") []
refusal_line refusal.RepositoryExists = line (codes "exists") []
refusal_line refusal.RepositoryGone = line (codes "gone") []
refusal_line (refusal.Behind seen front) = line (codes "behind") (decimal seen ∷ decimal front ∷ [])
refusal_line refusal.PinsFull = line (codes "pinsfull") []
refusal_line (refusal.Absent name) = line (codes "absent") (encode_lower name ∷ [])
refusal_line (refusal.ReferenceConflict name expected actual) = line (codes "conflict") (name ∷ codes "expected" ∷ encode_lower expected ∷ codes "actual" ∷ encode_lower actual ∷ [])
refusal_line (refusal.DirectoryConflict name existing) = line (codes "directory") (name ∷ codes "with" ∷ existing ∷ [])
refusal_line (refusal.MissingObject name needed_by) = line (codes "missing") (encode_lower name ∷ codes "for" ∷ needer_word needed_by ∷ [])
refusal_line (refusal.HousekeepingConflict position) = line (codes "houseconflict") (decimal position ∷ [])
refusal_line (refusal.PrunedObject name position) = line (codes "pruned") (encode_lower name ∷ decimal position ∷ [])
refusal_line refusal.LogFull = line (codes "logfull") []
refusal_line refusal.EpochFull = line (codes "epochfull") []
refusal_line refusal.MapFull = line (codes "mapfull") []
refusal_line refusal.StageFull = line (codes "stagefull") []
refusal_line refusal.TooLarge = line (codes "toolarge") []
refusal_line (refusal.BadObject at) = line (codes "badobject") (decimal at ∷ [])
refusal_line (refusal.BadRef rule at) = line (codes "badref") (decimal rule ∷ decimal at ∷ [])
refusal_line (refusal.BadPath at) = line (codes "badpath") (decimal at ∷ [])
refusal_line refusal.IsPool = line (codes "ispool") []
refusal_line refusal.NotPool = line (codes "notpool") []
refusal_line refusal.AlreadyLinked = line (codes "linked") []
refusal_line refusal.NotLinked = line (codes "notlinked") []
refusal_line (refusal.PoolInUse member) = line (codes "poolinuse") (member ∷ [])
refusal_line refusal.OtherPartition = line (codes "elsewhere") []
refusal_line refusal.NotOpen = line (codes "notopen") []
refusal_line refusal.AlreadyOpen = line (codes "alreadyopen") []
refusal_line refusal.NoJob = line (codes "nojob") []
refusal_line refusal.NotReady = line (codes "notready") []
refusal_line refusal.DeviceFault = line (codes "devicefault") []
refusal_line (refusal.Unsure position) = line (codes "unsure") (decimal position ∷ [])
refusal_line (refusal.MapUnsure number) = line (codes "mapunsure") (decimal number ∷ [])
refusal_line (refusal.Damaged file at) = line (codes "damaged") (file_word file ∷ decimal at ∷ [])
refusal_line refusal.Memory = line (codes "memory") []

abbrev pub printed : Result Done Refusal → List ℕ
printed (Ok d) = done_line d
printed (Err r) = refusal_line r

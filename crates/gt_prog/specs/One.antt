-- The one partition as sessions see it.
use Rattle.std.specs.Prelude.{◌≡◌, ℕ, nat_eq, Bool, if◌then◌else◌, List, [], Option, Some, None, Result, Ok}
use Rattle.gt_disk.specs.Files.{View}
use Rattle.gt_model.specs.declared.done.Done.{Done}
use Rattle.gt_model.specs.declared.event.Event.{Event}
use Rattle.gt_model.specs.declared.event.Event.TheVariants.{Begin}
use Rattle.gt_model.specs.declared.refusal.Refusal.{Refusal}
use Rattle.gt_model.specs.declared.who.Who.{Who}
use Rattle.gt_model.specs.Machine.{Pin, free_number}
use Rattle.gt_part.specs.Called.{Called}
use Rattle.gt_part.specs.Shown.{Shown}
use Rattle.gt_session.specs.Courses.{MapEvent}

-- the numbers that are live, by partition: these in the first, and none in the others
abbrev pub in_one : List ℕ → ℕ → List ℕ
in_one numbers = λ n. if nat_eq n 1 then numbers else []

-- the number of the pass that is given with an answer, where these are live: the least that is free, where a transaction begins
abbrev pub given_by : List Pin → Event → Result Done Refusal → Option ℕ
given_by pins (Begin path seen) (Ok done) = Some (free_number pins)
given_by pins e a = None

-- A call of the first partition, which is the only one.
abbrev pub LocalDid : {D : Type 0} → Bool → (D → View) → (D → ℕ) → (D → ℕ) → ℕ → Who → Event → Result Done Refusal → Option ℕ → Shown D → Shown D → Type 0
LocalDid tells view fault_count call_count partition who e answer given old new = (partition ≡ 1) × (given ≡ given_by old.live e answer) × Called tells view fault_count call_count who e answer old new

-- Each path is in the first partition, and the map changes nothing.
abbrev pub Mapped : {P : Type 0} → Who → List ℕ → MapEvent → Result (Option ℕ) Refusal → P → P → Type 0
Mapped who path e found old new = (found ≡ Ok (Some 1)) × (new ≡ old)

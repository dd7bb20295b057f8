-- What a stop at any moment of a history leaves.
use Rattle.std.specs.Prelude.{◌≡◌, ◌⊎◌, ℕ, ◌+◌, ◌≤◌, List, [], ◌∷◌, length, Result, Ok}
use Rattle.std.specs.List.{AllByRecursion}
use Rattle.gt_disk.specs.declared.file_id.FileId.{FileId}
use Rattle.gt_disk.specs.Files.{FileState, still, grown, loose, Files, States, View, now, IsImage}
use Rattle.gt_model.specs.declared.limits.Limits.{Limits}
use Rattle.gt_model.specs.Contents.{IsLegal}
use Rattle.gt_model.specs.Machine.{State, Recovered, MayRecover, opening, front, line, line_at, content_at}
use Rattle.gt_model.specs.Histories.{Happening, tick, last_tick, last_state, acked, around, IsRun}
use Rattle.gt_sound.specs.Sound.{IsSoundState}

-- ---- what is left

-- A stop leaves what is there, or one byte more at most.
abbrev pub IsSteady : FileState → Type 0
IsSteady (still x) = Unit {0}
IsSteady (grown x k) = k ≤ 1
IsSteady loose = ⊥

-- What is opened ends at a position of the state's log with its doubt last, and has the state's content at each position from its base on.
pub record IsOn (s opened : State) : Type 0 where
  pub begins : s.begin ≤ opened.begin
  pub within : front opened ≤ s.begin + length (line s)
  pub each : (position : ℕ) → opened.begin ≤ position → position ≤ front opened → content_at opened position ≡ line_at s position

-- What recovers has all that was acknowledged, and the contents of one of the two states. Each entry fits the content just before it, and each content is sound.
pub record IsSafe (acknowledged : ℕ) (before after : State) (r : Recovered) : Type 0 where
  pub all : acknowledged ≤ front (opening r)
  pub one : IsOn before (opening r) ⊎ IsOn after (opening r)
  pub legal : IsLegal r.base (r.applied + 1) r.log
  pub sound : IsSoundState (opening r)

-- Each of these happenings ends no earlier than the one before it, the first no earlier than this moment.
abbrev pub Ascends : ℕ → List Happening → Type 0
Ascends begin [] = Unit {0}
Ascends begin (h ∷ older) = Ascends begin older × (last_tick begin older ≤ tick h)

-- ---- over a way to recover

-- what files recover to, what has to be still where a stop may leave an image, and the files whose lengths count
module _ {B : Type 0} (recover : Files → Result Recovered B) (Keeps : Files → States → Type 0) (counters : List FileId) where
  abbrev pub AreSteady : States → Type 0
  AreSteady states = AllByRecursion (λ f. IsSteady (states f)) counters

  -- An image of these states gives this state: it recovers to what the state may recover to, by files that are still.
  abbrev pub Gives : State → States → Files → Type 0
  Gives s states image = (r : Recovered) × (recover image ≡ Ok r) × MayRecover s r × Keeps image states

  -- Each image gives this state.
  pub record GivesThis (s : State) (states : States) : Type 0 where
    pub steady : AreSteady states
    pub gives : (image : Files) → IsImage states image → Gives s states image

  -- Each image gives the state before an event or the one after it.
  pub record GivesEither (old new : State) (states : States) : Type 0 where
    pub steady : AreSteady states
    pub gives : (image : Files) → IsImage states image → Gives old states image ⊎ Gives new states image

  -- A disk that may be handed in: whatever a stop leaves recovers to sound contents, of whose entries each says what it needs, by files that are still; what counts is still or grown by one byte at most.
  pub record IsGood (states : States) : Type 0 where
    pub steady : AreSteady states
    pub each : (image : Files) → IsImage states image → (r : Recovered) × (recover image ≡ Ok r) × Keeps image states × IsSoundState (opening r)

  -- Whatever a stop at this moment leaves recovers.
  abbrev pub CrashAt : State → ℕ → (ℕ → States) → List Happening → ℕ → Type 0
  CrashAt start begin at history m =
      (image : Files) → IsImage (at m) image → (r : Recovered) × (recover image ≡ Ok r)
      × IsSafe (acked start history m) (around start begin history m).0 (around start begin history m).1 r

  -- A history holds on a disk: it is a run of the machine whose moments ascend and end by now; at each moment until now the disk may be handed in, and whatever a stop leaves recovers safely; and now the disk has its last state.
  pub record Holds (limits : Limits) (start : State) (begin : ℕ) (history : List Happening) (view : View) : Type 0 where
    pub run : IsRun limits start history
    pub ascends : Ascends begin history
    pub past : last_tick begin history ≤ view.clock
    pub crash : (m : ℕ) → begin ≤ m → m ≤ view.clock → CrashAt start begin view.at history m
    pub good : (m : ℕ) → begin ≤ m → m ≤ view.clock → IsGood (view.at m)
    pub ends : GivesThis (last_state start history) (now view)

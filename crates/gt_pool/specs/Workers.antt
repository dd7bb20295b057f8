-- What holds of a worker, and of the pieces of all.
use Rattle.std.specs.Prelude.{◌≡◌, ℕ, ◌<◌, ◌≤◌, List, [], ◌∷◌, ◌++◌, map, true, false, Option, Some, None, get_or}
use Rattle.std.specs.List.{AllByRecursion}
use Rattle.gt_pool.specs.declared.numbered.Numbered.{Numbered}
use Rattle.gt_pool.specs.declared.worker.Worker.{Worker}
use Rattle.gt_pool.specs.Counting.{times}
use Rattle.gt_pool.specs.Known.{Counted, Queued}
use Rattle.gt_pool.specs.Working.{Chain}

-- the indices of these pieces
abbrev pub indices_of : {P : Type 0} → List (Numbered P) → List ℕ
indices_of xs = map (λ x. x.index) xs

-- Each piece is one that its index may give.
abbrev pub AreGiven : {P : Type 0} → (ℕ → P → Type 0) → List (Numbered P) → Type 0
AreGiven gives xs = AllByRecursion (λ x. gives x.index x.piece) xs

-- A worker that hasn't begun, with one part.
pub record IsReady {K P : Type 0} (claims : Counted) (tickets : Queued) (w : Worker K P) : Type 0 where
  pub claimer : w.claimer ≡ record { of = claims; parts = 1; finished = false; claims = [] }
  pub pass : w.pass.of ≡ tickets
  pub pieces : w.pieces ≡ []

-- How far a worker has come that began with this kit: what it claimed it worked on, unless its memory ran out.
pub record IsAt {K P : Type 0} (gives : ℕ → P → Type 0) (step : K → ℕ → K → Type 0) (claims : Counted) (tickets : Queued) (kit : K) (w : Worker K P) : Type 0 where
  pub of : w.claimer.of ≡ claims
  pub parts : w.claimer.parts ≡ 1
  pub pass : w.pass.of ≡ tickets
  pub pieces : w.short ≡ false → w.claimer.claims ≡ indices_of w.pieces
  pub given : w.short ≡ false → AreGiven gives w.pieces
  pub run : w.short ≡ false → Chain step kit w.claimer.claims w.kit

-- It has come to the end: no number is left, or its memory ran out.
pub record IsDone {K P : Type 0} (gives : ℕ → P → Type 0) (step : K → ℕ → K → Type 0) (claims : Counted) (tickets : Queued) (kit : K) (w : Worker K P) : Type 0 where
  pub so_far : IsAt gives step claims tickets kit w
  pub finished : w.short ≡ false → w.claimer.finished ≡ true

-- A worker that is at the end, with memory for all its pieces.
pub record IsHome {K P : Type 0} (claims : Counted) (w : Worker K P) : Type 0 where
  pub of : w.claimer.of ≡ claims
  pub parts : w.claimer.parts ≡ 1
  pub finished : w.claimer.finished ≡ true

-- the pieces of all, those of the last one first
abbrev pub collected : {K P : Type 0} → List (Worker K P) → List (Numbered P)
collected [] = []
collected (w ∷ ws) = collected ws ++ w.pieces

-- Each place that has a piece has one that its index may give.
abbrev pub AreFilled : {P : Type 0} → (ℕ → P → Type 0) → List (Option P) → Type 0
AreFilled {P} gives slots = (i : ℕ) (p : P) → get_or slots i None ≡ Some p → gives i p

-- Each place that has none has one among the pieces that are left.
abbrev pub AreAwaited : {P : Type 0} → List (Option P) → ℕ → List (Numbered P) → Type 0
AreAwaited slots count left = (i : ℕ) → i < count → get_or slots i None ≡ None → 1 ≤ times i (indices_of left)

-- Each worker has come to the end.
abbrev pub AreDone : {K P : Type 0} → (ℕ → P → Type 0) → (K → ℕ → K → Type 0) → Counted → Queued → List (Worker K P) → List (Worker K P) → Type 0
AreDone gives step claims tickets [] [] = Unit {0}
AreDone gives step claims tickets [] (v ∷ after) = ⊥
AreDone gives step claims tickets (w ∷ before) [] = ⊥
AreDone gives step claims tickets (w ∷ before) (v ∷ after) = IsDone gives step claims tickets w.kit v × AreDone gives step claims tickets before after

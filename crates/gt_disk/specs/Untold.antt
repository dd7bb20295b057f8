-- A disk that tells nothing.
use Rattle.std.specs.Prelude.{ℕ, None}
use Rattle.gt_disk.specs.Files.{View, still}

-- its view, of which the clock alone says anything
abbrev pub untold : ℕ → View
untold clock = record { reads = λ _. None; clock = clock; at = λ _ _. still None }

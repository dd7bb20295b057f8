-- Which of some load: more of them, or those that a length leaves.
use Rattle.std.proofs.Common.{◌≡◌, ◌≢◌, ◌⊎◌, inl, inr, ℕ, List, ◌∙◌, ap}
use Rattle.std.specs.List.{AllByRecursion}
use Rattle.gt_disk.specs.Files.{States}
use Rattle.gt_disk.specs.Kinds.{gate_file, turn_file}
use Rattle.gt_log.specs.Log.{content_length}
use Rattle.gt_log.proofs.Images.{image_still}
use Rattle.gt_model.specs.declared.limits.Limits.{Limits}
use Rattle.gt_base.specs.Recovery.{Loaded}
use Rattle.gt_base.specs.Switching.{Counts}
use Rattle.gt_ahead.specs.Loads.{IsOneOf, Loads, GateCounts, front, IsOrOtherEpoch, IsOrOtherFront}
use Rattle.gt_ahead.proofs.Asked.{manifest_read}
use Rattle.gt_ahead.proofs.Frame.{of_one, loads_weaker}
use Rattle.gt_ahead.proofs.MovedOn.{front_is}
use Rattle.gt_ahead.proofs.Parts.{base_parts, parts_of}

pub among_more : (limits : Limits) (xs ys : List Loaded) (states : States) → AllByRecursion (IsOneOf ys) xs → Loads limits xs states → Loads limits ys states
among_more limits xs ys states all loads image is = loads_weaker limits xs ys states image (content_length (image turn_file)) (content_length (image gate_file)) (λ x one. of_one (IsOneOf ys) xs x all one) (loads image is)

-- what is read is one of those that are left
left : (kept : List Loaded) (x : Loaded) (n m : ℕ) → n ≡ m → IsOneOf kept x ⊎ (n ≢ m) → IsOneOf kept x
left kept x n m same (inl one) = one
left kept x n m same (inr other) = absurd (other same)

pub epoch_tells : (limits : Limits) (xs kept : List Loaded) (states : States) (epoch : ℕ) → AllByRecursion (IsOrOtherEpoch epoch kept) xs → Loads limits xs states → Counts epoch states → Loads limits kept states
epoch_tells limits xs kept states epoch all loads counts image is =
    let w = loads image is in
    let p = parts_of limits image (content_length (image turn_file)) (content_length (image gate_file)) w.what w.is in
    let b = base_parts image (content_length (image turn_file)) (content_length (image gate_file)) w.what.base p.base in
    let m = manifest_read image (content_length (image turn_file)) (content_length (image gate_file)) w.what.base.manifest b.manifest in
    let same : w.what.base.manifest.epoch ≡ epoch = m.epoch_is ∙ ap content_length (image_still states image turn_file counts.turn is counts.turn_still) ∙ counts.length in
    record { what = w.what; is = w.is; has = left kept w.what w.what.base.manifest.epoch epoch same (of_one (IsOrOtherEpoch epoch kept) xs w.what all w.has); steady = w.steady }

pub gate_tells : (limits : Limits) (xs kept : List Loaded) (states : States) (gate : ℕ) → AllByRecursion (IsOrOtherFront gate kept) xs → Loads limits xs states → GateCounts gate states → Loads limits kept states
gate_tells limits xs kept states gate all loads counts image is =
    let w = loads image is in
    let same : front w.what ≡ gate = front_is limits image (content_length (image turn_file)) (content_length (image gate_file)) w.what w.is ∙ ap content_length (image_still states image gate_file counts.bytes is counts.gate_still) ∙ counts.length in
    record { what = w.what; is = w.is; has = left kept w.what (front w.what) gate same (of_one (IsOrOtherFront gate kept) xs w.what all w.has); steady = w.steady }

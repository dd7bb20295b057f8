-- What counts entries is still or grown by one byte.
use Rattle.std.proofs.Common.{◌≡◌, ◌≢◌, ◌⊎◌, inr, ⊎_elim, ℕ, ◌+◌, List, [], ◌++◌, length, replicate, Some, refl, sym, ◌∙◌, ap, subst, arith, length-append}
use Rattle.std.specs.Option.{unwrap_or}
use Rattle.std.proofs.lemmas.List.{length-replicate}
use Rattle.gt_disk.specs.declared.file_id.FileId.{FileId}
use Rattle.gt_disk.specs.Files.{Content as FileContent, FileState, still, grown, loose, States, Leaves}
use Rattle.gt_disk.specs.Kinds.{gate_file, turn_file, entry_file}
use Rattle.gt_log.specs.Log.{content_length, Stands, Doubts, Adding}
use Rattle.gt_history.specs.Crash.{IsSteady}

-- a gate that counts one entry more or not
abbrev Counts : ℕ → FileState → Type 0
Counts n s = (y : FileContent) → Leaves s y → (content_length y + 1 ≡ n) ⊎ (content_length y ≡ n)

abbrev zeros : ℕ → List ℕ
zeros k = replicate k 0

zeros_length : (k : ℕ) → length (zeros k) ≡ k
zeros_length k = length-replicate {A = ℕ} k 0

behind_length : (x : FileContent) (k : ℕ) → content_length (Some (unwrap_or x [] ++ zeros k)) ≡ content_length x + k
behind_length x k = length-append (unwrap_or x []) (zeros k) ∙ ap (λ (n : ℕ). length (unwrap_or x []) + n) (zeros_length k)

counts_steady : (n : ℕ) (s : FileState) → Counts n s → IsSteady s
counts_steady n (still x) counts = tt
counts_steady n (grown x k) counts =
    let least = counts (Some (unwrap_or x [] ++ zeros 0)) (inr (zeros 0, omega (arith, zeros_length 0), refl)) in
    let most = counts (Some (unwrap_or x [] ++ zeros k)) (inr (zeros k, omega (arith, zeros_length k), refl)) in
    let short = behind_length x 0 in
    let long = behind_length x k in
    ⊎_elim
    (λ a. ⊎_elim (λ b. omega (arith, a, b, short, long)) (λ b. omega (arith, a, b, short, long)) most)
    (λ a. ⊎_elim (λ b. omega (arith, a, b, short, long)) (λ b. omega (arith, a, b, short, long)) most) least
counts_steady n loose counts =
    let one = counts (Some (zeros (n + 1))) tt in
    absurd (⊎_elim (λ a. omega (arith, a, zeros_length (n + 1))) (λ a. omega (arith, a, zeros_length (n + 1))) one)

pub stands_steady : (first : ℕ) (entries : List (List ℕ)) (states : States) → Stands first entries states → IsSteady (states gate_file)
stands_steady first entries states s = subst IsSteady (sym s.gate_still) tt

pub doubts_steady : (first : ℕ) (entries : List (List ℕ)) (last : List ℕ) (states : States) → Doubts first entries last states → IsSteady (states gate_file)
doubts_steady first entries last states d = counts_steady (length entries + first) (states gate_file) d.gate

pub adding_steady : (first : ℕ) (entries : List (List ℕ)) (last : List ℕ) (before states : States) → Adding first entries last before states → IsSteady (states gate_file)
adding_steady first entries last before states a = ⊎_elim (λ s. stands_steady first entries states s) (λ d. doubts_steady first entries last states d) a.log

turn_not_gate : turn_file ≢ gate_file
turn_not_gate is = let kinds : turn_file.kind ≡ gate_file.kind = ap (λ (f : FileId). f.kind) is in omega (arith, kinds)

turn_not_entry : (n : ℕ) → turn_file ≢ entry_file n
turn_not_entry n is = let kinds : turn_file.kind ≡ (entry_file n).kind = ap (λ (f : FileId). f.kind) is in omega (arith, kinds)

-- what leaves other files than the gate and one entry's leaves turn
pub turn_kept : (n : ℕ) (before states : States) → ((g : FileId) → g ≢ gate_file → g ≢ entry_file n → states g ≡ before g) → IsSteady (before turn_file) → IsSteady (states turn_file)
turn_kept n before states others steady = subst IsSteady (sym (others turn_file turn_not_gate (turn_not_entry n))) steady

pub turn_beside_gate : (before states : States) → ((g : FileId) → g ≢ gate_file → states g ≡ before g) → IsSteady (before turn_file) → IsSteady (states turn_file)
turn_beside_gate before states others steady = subst IsSteady (sym (others turn_file turn_not_gate)) steady

-- Reading a manifest from left to right.
use Rattle.std.specs.Prelude.{ℕ, ◌+◌, Bool, true, false, List, length, drop, Option, Some, None, Result, Ok, Err, codes, nat_eq, nat_lt, nat_le, ◌==◌, if◌then◌else◌}
use Rattle.std.specs.List.{starts_with}
use Rattle.std.specs.Int.{w32, w64}
use Rattle.gt_bytes.specs.Reading.{◌>>=◌, byte_at, number_at, text_at, counted_at, kept, pair_at, seen_at}
use Rattle.gt_manifest.specs.declared.manifest.Loose.{Loose}
use Rattle.gt_manifest.specs.declared.manifest.RepoFiles.{RepoFiles}
use Rattle.gt_manifest.specs.declared.manifest.Manifest.{Manifest}
use Rattle.gt_manifest.specs.declared.version.Version.{Version}
use Rattle.gt_manifest.specs.declared.version.Version.TheVariants.{First, Second}
use Rattle.gt_manifest.specs.Spelling.{good_path, good_ref, above, name_of, path_of}

-- a field, and then another that depends on what it is
abbrev pub then_at : {A B : Type 0} → (ℕ → Result (A × ℕ) ℕ) → (A → ℕ → Result (B × ℕ) ℕ) → ℕ → Result ((A × B) × ℕ) ℕ
then_at {A} {B} r q at = let f : A × ℕ → Result ((A × B) × ℕ) ℕ = λ x. (let g : B × ℕ → Result ((A × B) × ℕ) ℕ = λ y. Ok ((x.0, y.0), y.1) in q x.0 x.1 >>= g) in r at >>= f

unfoldable pub path_at : List ℕ → ℕ → Result (List ℕ × ℕ) ℕ
path_at bytes at = kept good_path at (text_at bytes at)

unfoldable pub ref_at : List ℕ → ℕ → Result (List ℕ × ℕ) ℕ
ref_at bytes at = kept good_ref at (text_at bytes at)

abbrev pub flag_of : ℕ → ℕ → ℕ → Result (Bool × ℕ) ℕ
flag_of at b next = if b == 0 then Ok (false, next) else if b == 1 then Ok (true, next) else Err at

unfoldable pub flag_at : List ℕ → ℕ → Result (Bool × ℕ) ℕ
flag_at bytes at = byte_at bytes at >>= λ b. flag_of at b.0 b.1

-- an empty text is no pool
abbrev pub pool_of : ℕ → List ℕ → ℕ → Result (Option (List ℕ) × ℕ) ℕ
pool_of at path next = if length path == 0 then Ok (None, next) else if good_path path then Ok (Some path, next) else Err at

unfoldable pub pool_at : List ℕ → ℕ → Result (Option (List ℕ) × ℕ) ℕ
pool_at bytes at = text_at bytes at >>= λ t. pool_of at t.0 t.1

unfoldable pub number_item : List ℕ → List ℕ → ℕ → Result (ℕ × ℕ) ℕ
number_item bytes before at = number_at w64 bytes at

-- a good name that is greater than the last one
abbrev pub next_name : List Loose → List ℕ → Option (List ℕ)
next_name before t = if above name_of before t then (if good_ref t then Some t else None) else None

abbrev pub to_loose : List ℕ × ℕ → Loose
to_loose x = record { name = x.0; file = x.1 }

unfoldable pub loose_at : List ℕ → List Loose → ℕ → Result (Loose × ℕ) ℕ
loose_at bytes before at = seen_at to_loose (pair_at (λ at. kept (above name_of before) at (ref_at bytes at)) (number_at w64 bytes)) at

unfoldable pub owner_at : List ℕ → List RepoFiles → ℕ → Result ((List ℕ × (Bool × Option (List ℕ))) × ℕ) ℕ
owner_at bytes before at = pair_at (λ at. kept (above path_of before) at (path_at bytes at)) (pair_at (flag_at bytes) (pool_at bytes)) at

unfoldable pub files_at : List ℕ → ℕ → Result ((List ℕ × (ℕ × List Loose)) × ℕ) ℕ
files_at bytes at = pair_at (counted_at (number_item bytes) bytes) (pair_at (number_at w64 bytes) (counted_at (loose_at bytes) bytes)) at

-- a position up to the applied one
unfoldable pub position_at : ℕ → List ℕ → ℕ → Result (ℕ × ℕ) ℕ
position_at applied bytes at = kept (λ n. nat_le n applied) at (number_at w64 bytes at)

-- `GTM1` stands for the value with both positions 0
unfoldable pub lasts_at : Version → ℕ → List ℕ → ℕ → Result ((ℕ × ℕ) × ℕ) ℕ
lasts_at First applied bytes at = Ok ((0, 0), at)
lasts_at Second applied bytes at = pair_at (position_at applied bytes) (position_at applied bytes) at

abbrev pub to_repo : (List ℕ × (Bool × Option (List ℕ))) × ((List ℕ × (ℕ × List Loose)) × (ℕ × ℕ)) → RepoFiles
to_repo x = record { path = x.0.0; is_pool = x.0.1.0; pool = x.0.1.1; packs = x.1.0.0; packed = x.1.0.1.0; loose = x.1.0.1.1; repacked = x.1.1.0; refs_packed = x.1.1.1 }

unfoldable pub repo_at : Version → ℕ → List ℕ → List RepoFiles → ℕ → Result (RepoFiles × ℕ) ℕ
repo_at v applied bytes before at = seen_at to_repo (pair_at (owner_at bytes before) (pair_at (files_at bytes) (lasts_at v applied bytes))) at

-- the path of the first repository, the first that takes memory
abbrev pub first_path : List ℕ → ℕ → Result (List ℕ × ℕ) ℕ
first_path bytes at = number_at w32 bytes at >>= λ n. if n.0 == 0 then Err n.1 else path_at bytes n.1

-- the next file number is at least 1
unfoldable pub next_at : List ℕ → ℕ → Result (ℕ × ℕ) ℕ
next_at bytes at = kept (λ n. nat_le 1 n) at (number_at w64 bytes at)

unfoldable pub head_at : List ℕ → ℕ → Result ((ℕ × (ℕ × ℕ)) × ℕ) ℕ
head_at bytes at = pair_at (number_at w64 bytes) (pair_at (number_at w64 bytes) (next_at bytes)) at

unfoldable pub version_at : List ℕ → ℕ → Result (Version × ℕ) ℕ
version_at bytes at =
    if nat_lt (length (drop at bytes)) 4 then Err at
    else if starts_with nat_eq (drop at bytes) (codes "GTM1") then Ok (First, at + 4)
    else if starts_with nat_eq (drop at bytes) (codes "GTM2") then Ok (Second, at + 4)
    else Err at

-- all that is read before memory is taken
abbrev pub front_at : List ℕ → ℕ → Result (List ℕ × ℕ) ℕ
front_at bytes at = version_at bytes at >>= λ v. head_at bytes v.1 >>= λ h. first_path bytes h.1

abbrev pub to_manifest : (ℕ × (ℕ × ℕ)) × List RepoFiles → Manifest
to_manifest x = record { epoch = x.0.0; applied = x.0.1.0; next = x.0.1.1; repos = x.1 }

-- all fields
unfoldable pub top_at : List ℕ → ℕ → Result ((Version × Manifest) × ℕ) ℕ
top_at bytes at = then_at (version_at bytes) (λ v. seen_at to_manifest (then_at (head_at bytes) (λ h. counted_at (repo_at v h.1.0 bytes) bytes))) at

-- all fields, with no byte behind them
unfoldable pub fields_of : List ℕ → Result (Version × Manifest) ℕ
fields_of bytes = top_at bytes 0 >>= λ x. if x.1 == length bytes then Ok x.0 else Err x.1

-- What only the whole list of repositories decides, with the place of the first field that may not stand there.
use Rattle.std.specs.Prelude.{◌≡◌, ℕ, ◌+◌, ◌<◌, ◌≤◌, Bool, true, false, List, [], ◌∷◌, ◌++◌, length, map, All, Any, Option, Some, None, Result, Ok, Err, nat_eq, nat_le, nat_lt, ◌&&◌, ◌==◌, not, if◌then◌else◌, bytes_eq, ⊤}
use Rattle.std.specs.List.{list_any, flat_map, IsDistinct}
use Rattle.std.specs.Ordering.{nat_cmp}
use Rattle.std.specs.BTreeSet.{insert_key}
use Rattle.std.specs.BTreeMap.{is_at}
use Rattle.gt_bytes.specs.Reading.{◌>>=◌}
use Rattle.gt_bytes.specs.Answers as fields
use Rattle.gt_bytes.specs.declared.error.FieldError.{FieldError}
use Rattle.gt_manifest.specs.declared.manifest.Loose.{Loose}
use Rattle.gt_manifest.specs.declared.manifest.RepoFiles.{RepoFiles}
use Rattle.gt_manifest.specs.declared.manifest.Manifest.{Manifest}
use Rattle.gt_manifest.specs.declared.version.Version.{Version}
use Rattle.gt_manifest.specs.declared.version.Version.TheVariants.{First, Second}
use Rattle.gt_manifest.specs.declared.whole.Cursor.{Cursor}
use Rattle.gt_manifest.specs.Spelling.{manifest, FitsFields}
use Rattle.gt_manifest.specs.Reading.{fields_of}

-- the file numbers of the fields so far, ascending, and the place of the next field
abbrev pub State : Type 0
State = List ℕ × ℕ

abbrev pub past : State → ℕ → State
past s size = (s.0, s.1 + size)

-- one step for each item; the first fault ends them
abbrev pub walk : {A : Type 0} → (State → A → Result State ℕ) → State → List A → Result State ℕ
walk step s [] = Ok s
walk step s (x ∷ xs) = step s x >>= λ t. walk step t xs

-- a file number: from 1 up to below the next one, and none of those before it
abbrev pub number_here : ℕ → State → ℕ → Result State ℕ
number_here next s n = if (nat_le 1 n && nat_lt n next) && not (list_any (is_at (nat_cmp n)) s.0) then Ok (insert_key nat_cmp s.0 n, s.1 + 8) else Err s.1

-- the packed file; 0 for none
abbrev pub packed_here : ℕ → State → ℕ → Result State ℕ
packed_here next s n = if n == 0 then Ok (past s 8) else number_here next s n

-- the file of a reference, behind its name
abbrev pub loose_here : ℕ → State → Loose → Result State ℕ
loose_here next s l = number_here next (past s (2 + length l.name)) l.file

-- A pool has no pool, and the pool of a member is in the list and is a pool.
abbrev pub pool_stands : List RepoFiles → Bool → Option (List ℕ) → Bool
pool_stands all is_pool None = true
pool_stands all is_pool (Some path) = not is_pool && list_any (λ r. r.is_pool && bytes_eq r.path path) all

abbrev pub pool_size : Option (List ℕ) → ℕ
pool_size None = 2
pool_size (Some path) = 2 + length path

abbrev pub pool_here : List RepoFiles → State → RepoFiles → Result State ℕ
pool_here all s r = if pool_stands all r.is_pool r.pool then Ok (past s (pool_size r.pool)) else Err s.1

abbrev pub lasts_size : Version → ℕ
lasts_size First = 0
lasts_size Second = 16

-- a repository's pool, packs, packed file and loose files
unfoldable pub repo_here : List RepoFiles → Version → ℕ → State → RepoFiles → Result State ℕ
repo_here all v next s r =
    pool_here all (past s (3 + length r.path)) r >>= λ a.
    walk (number_here next) (past a 4) r.packs >>= λ b.
    packed_here next b r.packed >>= λ c.
    walk (loose_here next) (past c 4) r.loose >>= λ d.
    Ok (past d (lasts_size v))

-- the first repository stands behind the magic, three numbers and the count
abbrev pub whole : Version → Manifest → Result State ℕ
whole v m = walk (repo_here m.repos v m.next) ([], 32) m.repos

-- the value, or the place of the first fault
abbrev pub sound : Version × Manifest → Result Manifest ℕ
sound x = whole x.0 x.1 >>= λ s. Ok x.1

-- the manifest of some bytes, or the place of the first field that may not stand there: first of the single fields, then of those that the whole list decides
abbrev pub manifest_of : List ℕ → Result Manifest ℕ
manifest_of bytes = fields_of bytes >>= λ x. sound x

-- ---- what has a spelling

-- the number of the packed file; 0 is none
abbrev pub packed_number : ℕ → List ℕ
packed_number n = if n == 0 then [] else n ∷ []

abbrev pub file_of : Loose → ℕ
file_of l = l.file

-- the file numbers that a repository names, in the order of its fields
abbrev pub file_numbers : RepoFiles → List ℕ
file_numbers r = r.packs ++ (packed_number r.packed ++ map file_of r.loose)

-- from 1 up to below the next one
abbrev pub IsFileNumber : ℕ → ℕ → Type 0
IsFileNumber next n = (1 ≤ n) × (n < next)

-- It is a pool, and has this path.
abbrev pub IsPoolAt : List ℕ → RepoFiles → Type 0
IsPoolAt path r = (r.is_pool ≡ true) × (r.path ≡ path)

-- Nothing is asked where none is named. Else it isn't a pool itself, and the list has that pool.
abbrev pub MayHavePool : List RepoFiles → Bool → Option (List ℕ) → Type 0
MayHavePool all is_pool None = ⊤
MayHavePool all is_pool (Some path) = (is_pool ≡ false) × Any (IsPoolAt path) all

-- A pool has no pool, and the pool of a member is in the list and is a pool.
abbrev pub PoolStands : List RepoFiles → RepoFiles → Type 0
PoolStands all r = MayHavePool all r.is_pool r.pool

-- What only the whole list decides: each file number is from 1 up to below the next one and stands once, and pools stand.
pub record IsWhole (m : Manifest) : Type 0 where
  pub numbers : All (IsFileNumber m.next) (flat_map file_numbers m.repos)
  pub once : IsDistinct nat_eq (flat_map file_numbers m.repos)
  pub pools : All (PoolStands m.repos) m.repos

-- It has this spelling.
abbrev pub Fits : Version → Manifest → Type 0
Fits v m = FitsFields v m × IsWhole m

-- The bytes are a spelling of it.
pub record IsSpelledBy (bytes : List ℕ) (m : Manifest) : Type 0 where
  pub version : Version
  pub fits : Fits version m
  pub bytes_are : bytes ≡ manifest version m

-- ---- the code's answers

abbrev pub seen : Cursor → State
seen g = (g.numbers.keys, g.at)

-- What was answered is what is read, or memory ran out.
abbrev pub Goes : Result Cursor FieldError → Result State ℕ → Type 0
Goes (Ok g) read = read ≡ Ok (seen g)
Goes (Err e) read = fields.Fails e read

-- The first repository's path, which is the first that takes memory.
use Rattle.std.proofs.Common.{◌≡◌, ℕ, zero, suc, ◌+◌, ◌<◌, ◌≤◌, false, cond, eqb, List, Result, Ok, Err, IsOk, refl, subst, arith}
use Rattle.std.specs.Int.{w32}
use Rattle.gt_bytes.specs.Reading.{◌>>=◌, number_at, kept}
use Rattle.gt_manifest.specs.declared.manifest.RepoFiles.{RepoFiles}
use Rattle.gt_manifest.specs.declared.version.Version.{Version}
use Rattle.gt_manifest.specs.Spelling.{above, path_of}
use Rattle.gt_manifest.specs.Reading.{path_at, owner_at, repo_at, first_path}

-- a step that was made was read
read_first : {A B : Type 0} (r : Result A ℕ) (f : A → Result B ℕ) → IsOk (r >>= f) → IsOk r
read_first (Ok x) f ok = refl
read_first (Err e) f ok = absurd cc

pub path_of_kept : (bytes : List ℕ) (before : List RepoFiles) (at : ℕ) → IsOk (kept (above path_of before) at (path_at bytes at)) → IsOk (path_at bytes at)
path_of_kept bytes before at ok = read_first (path_at bytes at) (λ x. cond (above path_of before x.0) (Ok x) (Err at)) ok

pub path_of_owner : (bytes : List ℕ) (before : List RepoFiles) (at : ℕ) → IsOk (owner_at bytes before at) → IsOk (path_at bytes at)
unfolding owner_at
path_of_owner bytes before at ok = path_of_kept bytes before at (read_first (kept (above path_of before) at (path_at bytes at)) _ ok)

pub path_of_repo : (v : Version) (applied : ℕ) (bytes : List ℕ) (before : List RepoFiles) (at : ℕ) → IsOk (repo_at v applied bytes before at) → IsOk (path_at bytes at)
unfolding repo_at
path_of_repo v applied bytes before at ok = path_of_owner bytes before at (read_first (owner_at bytes before at) _ (read_first _ _ ok))

-- how far the loop has come: before the first repository nothing was read, after it its path was
pub record IsBegun (bytes : List ℕ) (from begin i at : ℕ) : Type 0 where
  pub none : i ≡ 0 → at ≡ begin
  pub some : 1 ≤ i → IsOk (first_path bytes from)

-- a path that is read is the first, or comes after it
pub first_read : (bytes : List ℕ) (from count begin i at : ℕ) → number_at w32 bytes from ≡ Ok (count, begin) → i < count → IsBegun bytes from begin i at → IsOk (path_at bytes at) → IsOk (first_path bytes from)
first_read bytes from zero begin i at e lt so_far ok = absurd (omega (arith, lt))
first_read bytes from (suc k) begin zero at e lt so_far ok =
    let some : eqb (suc k) 0 ≡ false = grind arith in
    let P : ℕ → Type 0 = λ n. IsOk (path_at bytes n) in
    rw (e, some) (subst P (so_far.none refl) ok)
first_read bytes from (suc k) begin (suc i) at e lt so_far ok = so_far.some (omega arith)

pub first_begins : (bytes : List ℕ) (from begin : ℕ) → IsBegun bytes from begin 0 begin
first_begins bytes from begin = record { none = λ _. refl; some = λ le. absurd (omega (arith, le)) }

pub first_step : (bytes : List ℕ) (from begin i at : ℕ) → IsOk (first_path bytes from) → IsBegun bytes from begin (i + 1) at
first_step bytes from begin i at ok = record { none = λ e. absurd (omega (arith, e)); some = λ _. ok }

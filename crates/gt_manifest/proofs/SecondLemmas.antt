-- What has the first spelling has the second one, too.
use Rattle.std.proofs.Common.{◌≡◌, ℕ, true, List, [], ◌∷◌, ◌++◌, Result, Ok, Err, arith}
use Rattle.std.specs.Prelude.{IfOk, nat_le}
use Rattle.std.proofs.lemmas.Bool.Decides.{nat_tests}
use Rattle.gt_bytes.specs.Spelling.{Follows}
use Rattle.gt_manifest.specs.declared.manifest.RepoFiles.{RepoFiles}
use Rattle.gt_manifest.specs.declared.manifest.Manifest.{Manifest}
use Rattle.gt_manifest.specs.declared.version.Version.{Version}
use Rattle.gt_manifest.specs.declared.version.Version.TheVariants.{First, Second}
use Rattle.gt_manifest.specs.declared.error.ManifestError.{ManifestError}
use Rattle.gt_manifest.specs.Spelling.{IsNumber, AreLasts, MayRepo}
use Rattle.gt_manifest.specs.Whole.{Fits, IsSpelledBy}

none_fits : (applied n : ℕ) → n ≡ 0 → IsNumber n × (nat_le n applied ≡ true)
none_fits applied n h = (omega (arith, h), grind (arith, nat_tests))

lasts_fit : (applied : ℕ) (p : ℕ × ℕ) → AreLasts First applied p → AreLasts Second applied p
lasts_fit applied p h = (none_fits applied p.0 h.0, none_fits applied p.1 h.1)

repo_fits : (v : Version) (applied : ℕ) (before : List RepoFiles) (r : RepoFiles) → MayRepo v applied before r → MayRepo Second applied before r
repo_fits First applied before r h = (h.0, (h.1.0, lasts_fit applied (r.repacked, r.refs_packed) h.1.1))
repo_fits Second applied before r h = h

repos_fit : (v : Version) (applied : ℕ) (before rs : List RepoFiles) → Follows (MayRepo v applied) before rs → Follows (MayRepo Second applied) before rs
repos_fit v applied before [] h = tt
repos_fit v applied before (r ∷ rs) h = (repo_fits v applied before r h.0, repos_fit v applied (before ++ r ∷ []) rs h.1)

second_fits : (v : Version) (m : Manifest) → Fits v m → Fits Second m
second_fits v m h = ((h.0.0, (h.0.1.0, repos_fit v m.applied [] m.repos h.0.1.1)), h.1)

pub is_written : (bytes : List ℕ) (r : Result Manifest ManifestError) → IfOk r (IsSpelledBy bytes) → IfOk r (Fits Second)
is_written bytes (Ok m) h = second_fits h.version m h.fits
is_written bytes (Err e) h = tt

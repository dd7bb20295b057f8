-- Manifests and bases that are read under any gate that counts their position.
use Rattle.std.proofs.Common.{◌≡◌, ℕ, zero, suc, ◌<◌, ◌≤◌, not, Bool, cond, ltb, List, Some, Result, Ok, Err, ◌∙◌, ap, arith}
use Rattle.std.proofs.lemmas.Bool.{eq-eqb, le-ltb}
use Rattle.gt_disk.specs.Files.{Content as FileContent, Files}
use Rattle.gt_disk.specs.Kinds.{manifest_file}
use Rattle.gt_manifest.specs.declared.manifest.Manifest.{Manifest}
use Rattle.gt_manifest.specs.Whole.{manifest_of}
use Rattle.gt_reading.specs.Reading.{run, parsed, parsed_file}
use Rattle.gt_reading.proofs.Programs.{run_then, gives_file}
use Rattle.gt_base.specs.Recovery.{Based, checked, manifest_in, based_on, base_in}
use Rattle.gt_ahead.proofs.Asked.{checked_is}
use Rattle.gt_ahead.proofs.Parts.{base_parts}

passes : (k gate : ℕ) (m : Manifest) → m.epoch ≡ k → m.applied ≤ gate → checked k gate (Ok m) ≡ Ok m
passes k gate m is few =
    ap (λ (b : Bool). cond (not b) (Err 4) (cond (ltb gate m.applied) (Err 12) (Ok m))) (eq-eqb m.epoch k is)
    ∙ ap (λ (b : Bool). cond b (Err 12) (Ok m)) (le-ltb gate m.applied few)

-- A manifest is read from bytes that read as it, whatever else there is.
pub manifest_there : (files : Files) (k gate : ℕ) (bytes : List ℕ) (m : Manifest) → 0 < k → files (manifest_file k) ≡ Some bytes → manifest_of bytes ≡ Ok m → m.epoch ≡ k → m.applied ≤ gate → run files (manifest_in k gate) ≡ Ok m
manifest_there files zero gate bytes m some there reads is few = absurd (omega (arith, some))
manifest_there files (suc n) gate bytes m some there reads is few =
    ap (λ (c : FileContent). run files (parsed_file (manifest_file (suc n)) (λ text. checked (suc n) gate (manifest_of text)) c)) there
    ∙ ap (λ (x : Result Manifest ℕ). run files (parsed (manifest_file (suc n)) (checked (suc n) gate x))) reads
    ∙ ap (λ (x : Result Manifest ℕ). run files (parsed (manifest_file (suc n)) x)) (passes (suc n) gate m is few)

manifest_any : (files : Files) (epoch gate other : ℕ) (m : Manifest) → run files (manifest_in epoch gate) ≡ Ok m → m.applied ≤ other → run files (manifest_in epoch other) ≡ Ok m
manifest_any files zero gate other m is few = is
manifest_any files (suc n) gate other m is few =
    let g = gives_file (manifest_file (suc n)) (λ bytes. checked (suc n) gate (manifest_of bytes)) files m is in
    let c = checked_is files (suc n) gate (manifest_of g.0) m g.2 in
    manifest_there files (suc n) other g.0 m (omega arith) g.1 c.0 c.1 few

pub base_any : (files : Files) (epoch gate other : ℕ) (b : Based) → run files (base_in epoch gate) ≡ Ok b → b.manifest.applied ≤ other → run files (base_in epoch other) ≡ Ok b
base_any files epoch gate other b is few =
    let p = base_parts files epoch gate b is in
    run_then (manifest_in epoch other) based_on files b.manifest (manifest_any files epoch gate other b.manifest p.manifest few) ∙ p.based

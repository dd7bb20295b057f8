-- How the steps of a plan see what they hold.
use Rattle.std.specs.Prelude.{ℕ, Bool, List, Option}
use Rattle.std.specs.FinMap.{FinMap, code}
use Rattle.std.specs.Coded.{Coded, code_by, coded×, coded_ℕ, coded_bool, coded_list, coded_option}
use Rattle.std.proofs.Common.{refl}
use Rattle.gt_manifest.specs.declared.manifest.Loose.{Loose}
use Rattle.gt_manifest.specs.declared.manifest.RepoFiles.{RepoFiles}
use Rattle.gt_model.specs.Contents.{key_cmp}

abbrev pub key_code : Coded (List ℕ)
key_code = coded_list coded_ℕ

abbrev pub loose_code : Coded Loose
loose_code = code_by (List ℕ × ℕ) (coded× key_code coded_ℕ) (λ l. (l.name, l.file)) (λ p. record { name = p.0; file = p.1 }) (λ _. refl)

-- the path and the pool, the packs and the loose references, and the numbers
abbrev pub files_code : Coded RepoFiles
files_code =
    code_by ((List ℕ × (Bool × Option (List ℕ))) × ((List ℕ × List Loose) × (ℕ × (ℕ × ℕ))))
    (coded× (coded× key_code (coded× coded_bool (coded_option key_code))) (coded× (coded× (coded_list coded_ℕ) (coded_list loose_code)) (coded× coded_ℕ (coded× coded_ℕ coded_ℕ))))
    (λ r. ((r.path, (r.is_pool, r.pool)), ((r.packs, r.loose), (r.packed, (r.repacked, r.refs_packed)))))
    (λ p. record { path = p.0.0; is_pool = p.0.1.0; pool = p.0.1.1; packs = p.1.0.0; packed = p.1.1.0; loose = p.1.0.1; repacked = p.1.1.1.0; refs_packed = p.1.1.1.1 })
    (λ _. refl)

abbrev pub shelves_code : Coded (FinMap key_cmp RepoFiles)
shelves_code = code key_code files_code

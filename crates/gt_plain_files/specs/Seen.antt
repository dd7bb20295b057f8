-- How the plain functions see what they hold.
use Rattle.std.specs.Prelude.{ℕ, List}
use Rattle.std.specs.FinMap.{FinMap, code}
use Rattle.std.specs.Coded.{Coded, code_by, coded×, coded_ℕ, coded_list}
use Rattle.std.proofs.Common.{refl}
use Rattle.gt_model.specs.Contents.{key_cmp}
use Rattle.gt_model.specs.NamedFiles.{Shelf, Taken, Filing}
use Rattle.gt_plain.specs.Plain.{key_code}

abbrev pub numbers_code : Coded (FinMap key_cmp ℕ)
numbers_code = code key_code coded_ℕ

abbrev pub shelf_code : Coded Shelf
shelf_code =
    code_by (List ℕ × (ℕ × FinMap key_cmp ℕ)) (coded× (coded_list coded_ℕ) (coded× coded_ℕ numbers_code))
    (λ s. (s.packs, (s.packed, s.refs))) (λ p. record { packs = p.0; packed = p.1.0; refs = p.1.1 }) (λ _. refl)

abbrev pub shelves_code : Coded (FinMap key_cmp Shelf)
shelves_code = code key_code shelf_code

abbrev pub taken_code : Coded Taken
taken_code = code_by (ℕ × ℕ) (coded× coded_ℕ coded_ℕ) (λ t. (t.position, t.number)) (λ p. record { position = p.0; number = p.1 }) (λ _. refl)

abbrev pub filing_code : Coded Filing
filing_code =
    code_by (FinMap key_cmp Shelf × List Taken) (coded× shelves_code (coded_list taken_code))
    (λ f. (f.shelves, f.taken)) (λ p. record { shelves = p.0; taken = p.1 }) (λ _. refl)

-- A pack as it was read.
use Rattle.std.specs.Prelude.{ℕ, List}
use Rattle.std.specs.Coded.{Coded, code_by, coded×, coded_ℕ, coded_list}
use Rattle.std.proofs.Common.{refl}

-- the number of its file, and its bytes
pub record PackFile : Type 0 where
  pub number : ℕ
  pub bytes : List ℕ

abbrev pub pack_code : Coded PackFile
pack_code = code_by (ℕ × List ℕ) (coded× coded_ℕ (coded_list coded_ℕ)) (λ p. (p.number, p.bytes)) (λ q. record { number = q.0; bytes = q.1 }) (λ _. refl)

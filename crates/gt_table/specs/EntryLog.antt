-- The entries of a log, of which memory has dropped the first ones.
use Rattle.std.specs.Prelude.{ℕ, List, map as map_list}
use Rattle.std.specs.Coded.{Coded, code_by, coded×, coded_ℕ, coded_list}
use Rattle.std.proofs.Common.{refl}
use Rattle.std.specs.declared.snapshot.Snapshot.{Snapshot}
use Rattle.gt_model.specs.contracts.entry.Entry as entry
use Rattle.gt_model.specs.declared.entry.Entry.{Entry}

-- all entries, how many of them were dropped, and for how many more there is room
pub record Logged : Type 0 where
  pub log : List Entry
  pub gone : ℕ
  pub room : ℕ

abbrev pub logged_code : Coded Logged
logged_code = code_by (List Entry × (ℕ × ℕ)) (coded× (coded_list entry.the_row.coded) (coded× coded_ℕ coded_ℕ)) (λ l. (l.log, (l.gone, l.room))) (λ q. record { log = q.0; gone = q.1.0; room = q.1.1 }) (λ _. refl)

abbrev pub gone_entries : List (Snapshot Entry) → List Entry
gone_entries gone = map_list (λ s. s.value) gone

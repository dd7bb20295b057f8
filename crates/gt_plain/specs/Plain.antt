-- How the plain functions see what they hold.
use Rattle.std.specs.Prelude.{ℕ, Bool, is_some, List, fold, Option, Result, Ok, Err, if◌then◌else◌}
use Rattle.std.specs.Option.{unwrap_or}
use Rattle.std.specs.FinMap as map
use Rattle.std.specs.FinMap.{FinMap, code}
use Rattle.std.specs.Coded.{Coded, code_by, coded×, coded_ℕ, coded_bool, coded_list, coded_option}
use Rattle.std.proofs.Common.{refl}
use Rattle.gt_model.specs.declared.added.Added.{Added}
use Rattle.gt_plain.specs.declared.commit.PlainReady.{PlainReady}
use Rattle.gt_model.specs.declared.refusal.Refusal.{Refusal}
use Rattle.gt_model.specs.declared.update.RefUpdate.{RefUpdate}
use Rattle.gt_model.specs.Contents.{key_cmp, Names, Repo}
use Rattle.gt_model.specs.Verdicts.{Staged, Ready}

abbrev pub key_code : Coded (List ℕ)
key_code = coded_list coded_ℕ

abbrev pub names_code : Coded (FinMap key_cmp (List ℕ))
names_code = code key_code key_code

abbrev pub repo_code : Coded Repo
repo_code =
    code_by (Names × (Names × (Option (List ℕ) × Bool))) (coded× names_code (coded× names_code (coded× (coded_option key_code) coded_bool)))
    (λ r. (r.refs, (r.own, (r.pool, r.is_pool)))) (λ p. record { refs = p.0; own = p.1.0; pool = p.1.1.0; is_pool = p.1.1.1 }) (λ _. refl)

abbrev pub content_code : Coded (FinMap key_cmp Repo)
content_code = code key_code repo_code

-- one entry more, where its key has none
abbrev pub and_missing : {X : Type 0} → FinMap key_cmp X → List ℕ × X → FinMap key_cmp X
and_missing m e = if is_some (map.get m e.0) then m else map.insert m e.0 e.1

abbrev pub with_missing : {X : Type 0} → FinMap key_cmp X → List (List ℕ × X) → FinMap key_cmp X
with_missing m es = fold and_missing m es

-- a map, or none
abbrev pub or_empty : Option Names → Names
or_empty names = unwrap_or names map.empty

-- what is staged
abbrev pub staged : List RefUpdate → List Added → Staged
staged refs records = record { refs = refs; records = records }

-- a good commit, as the plain functions give it
abbrev pub ready : PlainReady → Ready
ready r = record { refs = r.refs; needed = r.needed; added = r.added }

abbrev pub answer : Result PlainReady Refusal → Result Ready Refusal
answer (Ok r) = Ok (ready r)
answer (Err refusal) = Err refusal

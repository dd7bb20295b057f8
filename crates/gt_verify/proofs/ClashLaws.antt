-- The directory check: the least reference that an update clashes with, once all updates are laid.
use Rattle.std.proofs.Common.{◌≡◌, ℕ, suc, ◌+◌, ◌<◌, Bool, true, false, not, ◌&&◌, ◌||◌, is_some, List, length, drop, get_or, Option, Some, None, refl, sym, ap, ◌∙◌, subst, add-one, drop-cons}
use Rattle.std.specs.Option.{option_map, option_or}
use Rattle.std.specs.FinMap as map_of
use Rattle.gt_model.specs.declared.refusal.Refusal.TheVariants.{DirectoryConflict}
use Rattle.gt_model.specs.declared.update.RefUpdate.{RefUpdate}
use Rattle.gt_model.specs.Contents.{Content, Names, and_then, with_refs}
use Rattle.gt_model.specs.Verdicts.{first_some, target, clashes, clash, clash_in, refs_in}
use Rattle.gt_stage.specs.Staging.{IsEachOnce}
use Rattle.gt_verify.specs.Checks.{directory_of}
use Rattle.gt_verify.specs.Folders.{has_name, has_same, IsLeast, least_of, moved_names, target_names, Lays}
use Rattle.gt_verify.proofs.LeastLaws.{least_alike, least_one, least_either, find_least}
use Rattle.gt_verify.proofs.LaidLaws.{names, laid}

shared : (t r c g : Bool) → ((t && c) || (r && (c && not g))) ≡ ((t || (r && not g)) && c)
shared true true true g = refl
shared true true false g = refl
shared true false true g = refl
shared true false false g = refl
shared false true true g = last (not g)
  where
    last : (b : Bool) → b ≡ (b && true)
    last true = refl
    last false = refl
shared false true false g = none (not g)
  where
    none : (b : Bool) → false ≡ (b && false)
    none true = refl
    none false = refl
shared false false c g = refl

-- the least of those that are moved to a value, and of those of the content that aren't moved
pub clash_is : (c : Content) (path name : List ℕ) (gone targets : List (List ℕ)) (laid : Names) (staged there : Option (List ℕ))
    → Lays (refs_in c path) gone targets laid → IsLeast (λ q. has_name targets q && clashes name q) staged → there ≡ clash c path name gone → clash_in laid name ≡ least_of staged there
clash_is c path name gone targets laid staged there lays h is =
    let R : Names = refs_in c path in
    let P : Option (List ℕ) → Type 0 = λ o. IsLeast (λ q. is_some (map_of.get R q) && (clashes name q && not (has_name gone q))) o in
    least_one (λ q. is_some (map_of.get laid q) && clashes name q) (clash_in laid name) (least_of staged there) (find_least laid (clashes name))
    (least_alike (λ q. (has_name targets q && clashes name q) || (is_some (map_of.get R q) && (clashes name q && not (has_name gone q)))) (λ q. is_some (map_of.get laid q) && clashes name q) (least_of staged there)
    (λ q. shared (has_name targets q) (is_some (map_of.get R q)) (clashes name q) (has_name gone q) ∙ ap (λ (b : Bool). b && clashes name q) (sym (lays q)))
    (least_either (λ q. has_name targets q && clashes name q) (λ q. is_some (map_of.get R q) && (clashes name q && not (has_name gone q))) staged there h
    (subst P (sym is) (find_least R (λ q. clashes name q && not (has_name gone q))))))

pub no_conflict : (laid : Names) (u : RefUpdate) → clash_in laid u.name ≡ None → directory_of laid u ≡ None
no_conflict laid u none = by (target u)
  where
    by : (o : Option (List ℕ)) → and_then o (λ new. option_map (DirectoryConflict u.name) (clash_in laid u.name)) ≡ None
    by None = refl
    by (Some new) = ap (option_map (DirectoryConflict u.name)) none

pub conflict : (laid : Names) (u : RefUpdate) (existing : List ℕ) → is_some (target u) ≡ true → clash_in laid u.name ≡ Some existing → directory_of laid u ≡ Some (DirectoryConflict u.name existing)
conflict laid u existing some is = by (target u) some
  where
    by : (o : Option (List ℕ)) → is_some o ≡ true → and_then o (λ new. option_map (DirectoryConflict u.name) (clash_in laid u.name)) ≡ Some (DirectoryConflict u.name existing)
    by None e = cc
    by (Some new) e = ap (option_map (DirectoryConflict u.name)) is

-- what the code has laid
pub lays : (us : List RefUpdate) (refs : Names) (gone moved targets all : List (List ℕ)) → IsEachOnce (names us) → has_same gone moved → moved ≡ moved_names us → has_same targets all → all ≡ target_names us → Lays refs gone targets (with_refs refs us)
lays us refs gone moved targets all once like is same made =
    λ q. laid us refs once q ∙ ap (λ (b : Bool). b || (is_some (map_of.get refs q) && not (has_name (moved_names us) q))) (sym (same q ∙ ap (λ (l : List (List ℕ)). has_name l q) made))
    ∙ ap (λ (b : Bool). has_name targets q || (is_some (map_of.get refs q) && not b)) (sym (like q ∙ ap (λ (l : List (List ℕ)). has_name l q) is))

-- ---- the first that fails

module _ {A B : Type 0} (f : A → Option B) (xs : List A) (i : ℕ) (x : A) where
  left : i < length xs → x ≡ get_or xs i x → first_some f (drop i xs) ≡ option_or (f x) (first_some f (drop (i + 1) xs))
  left within is =
      ap (first_some f) (drop-cons xs i x within) ∙ ap (λ (y : A). option_or (f y) (first_some f (drop (suc i) xs))) (sym is) ∙ ap (λ (n : ℕ). option_or (f x) (first_some f (drop n xs))) (sym (add-one i))

  pub passes : i < length xs → x ≡ get_or xs i x → f x ≡ None → first_some f xs ≡ first_some f (drop i xs) → first_some f xs ≡ first_some f (drop (i + 1) xs)
  passes within is none inv = inv ∙ left within is ∙ ap (λ (o : Option B). option_or o (first_some f (drop (i + 1) xs))) none

  pub fails : (r : B) → i < length xs → x ≡ get_or xs i x → f x ≡ Some r → first_some f xs ≡ first_some f (drop i xs) → first_some f xs ≡ Some r
  fails r within is some inv = inv ∙ left within is ∙ ap (λ (o : Option B). option_or o (first_some f (drop (i + 1) xs))) some

-- What holds of each refusal that a check gives holds of a verdict's.
use Rattle.std.proofs.Common.{◌≡◌, Bool, true, false, cond, not, List, [], ◌∷◌, find, Option, Some, None, Result, Ok, Err, sym, ap, subst, ◌∙◌, ℕ}
use Rattle.std.specs.Option.{option_or, option_map}
use Rattle.gt_object.specs.Whole.{deps}
use Rattle.gt_model.specs.declared.needer.Needer.{Needer}
use Rattle.gt_model.specs.declared.needer.Needer.TheVariants.{Ref, Object}
use Rattle.gt_model.specs.declared.refusal.Refusal.{Refusal}
use Rattle.gt_model.specs.declared.refusal.Refusal.TheVariants.{ReferenceConflict, DirectoryConflict, MissingObject, RepositoryGone}
use Rattle.gt_model.specs.Contents.{Content, and_then, has_repo, value_or_zero, finds_old, with_refs}
use Rattle.gt_model.specs.Verdicts.{Staged, Ready, verdict, failed, first_some, conflict, directory, missing_value, missing_dep, target, clash_in, refs_in, is_present, added_records}
use Rattle.gt_verify.specs.Checks.{ready as ready_in}
use Rattle.gt_model.specs.declared.limits.Limits.{Limits}
use Rattle.gt_write.specs.declared.checked.Checked.{Checked}
use Rattle.gt_write.specs.declared.checked.Checked.TheVariants.{Good, Refused, Full, Memory}
use Rattle.gt_write.specs.Checking.{IsChecked, IsRefusedBy}

module _ (P : Refusal → Type 0) (gone : P RepositoryGone) (conflicts : (name expected actual : List ℕ) → P (ReferenceConflict name expected actual)) (clashes : (name existing : List ℕ) → P (DirectoryConflict name existing))
    (lacks : (name : List ℕ) (needer : Needer) → P (MissingObject name needer)) where
  -- the refusal has it, if there is one
  abbrev Has : Option Refusal → Type 0
  Has None = Unit {0}
  Has (Some refusal) = P refusal

  has_first : {A : Type 0} (f : A → Option Refusal) (xs : List A) → ((x : A) → Has (f x)) → Has (first_some f xs)
  has_first f [] each = tt
  has_first f (x ∷ xs) each = by (f x) (each x) (has_first f xs each)
    where
      by : (o : Option Refusal) → Has o → Has (first_some f xs) → Has (option_or o (first_some f xs))
      by None here rest = rest
      by (Some refusal) here rest = here

  has_or : (a b : Option Refusal) → Has a → Has b → Has (option_or a b)
  has_or None b one two = two
  has_or (Some refusal) b one two = one

  has_unless : (b : Bool) (refusal : Refusal) → P refusal → Has (cond b None (Some refusal))
  has_unless true refusal is = tt
  has_unless false refusal is = is

  has_map : {A : Type 0} (f : A → Refusal) (o : Option A) → ((a : A) → P (f a)) → Has (option_map f o)
  has_map f None each = tt
  has_map f (Some a) each = each a

  has_then : {A : Type 0} (o : Option A) (f : A → Option Refusal) → ((a : A) → Has (f a)) → Has (and_then o f)
  has_then None f each = tt
  has_then (Some a) f each = each a

  failed_has : (c : Content) (path : List ℕ) (s : Staged) → Has (failed c path s)
  failed_has c path s = by (has_repo c path)
    where
      by : (b : Bool) → Has (cond b (option_or (conflict c path s) (option_or (directory c path s) (option_or (missing_value c path s) (missing_dep c path s)))) (Some RepositoryGone))
      by false = gone
      by true =
          has_or (conflict c path s) _ (has_first _ s.refs (λ u. has_unless (finds_old c path u) _ (conflicts u.name u.old (value_or_zero c path u.name))))
          (has_or (directory c path s) _ (has_first _ s.refs (λ u. has_then (target u) _ (λ new. has_map (DirectoryConflict u.name) (clash_in (with_refs (refs_in c path) s.refs) u.name) (clashes u.name))))
          (has_or (missing_value c path s) _ (has_first _ s.refs (λ u. has_then (target u) _ (λ new. has_unless (is_present c path s new) _ (lacks new (Ref u.name)))))
          (has_first _ (added_records c path s) (λ a. has_map (λ dep. MissingObject dep (Object a.name)) (find (λ dep. not (is_present c path s dep)) (deps a.whole)) (λ dep. lacks dep (Object a.name))))))

  pub verdict_has : (c : Content) (path : List ℕ) (s : Staged) (refusal : Refusal) → verdict c path s ≡ Err refusal → P refusal
  verdict_has c path s refusal is = by (failed c path s) (failed_has c path s) is
    where
      by : (o : Option Refusal) → Has o → elim o as (λ f. Result Ready Refusal) [ Some r ↦ Err r | None ↦ Ok (ready_in c path s) ] ≡ Err refusal → P refusal
      by None here e = absurd (cc (e))
      by (Some r) here e = let same : r ≡ refusal = cc (e) in subst P same here

-- A refusal of a verdict, unless memory ran out, is what the checks come to.
pub checked_by : (limits : Limits) (front : ℕ) (c : Content) (path : List ℕ) (staged : Staged) (refusal : Refusal) (checked : Checked) → verdict c path staged ≡ Err refusal → IsRefusedBy refusal checked → IsChecked limits front c path staged checked
checked_by limits front c path staged refusal (Good entry) is never = absurd never
checked_by limits front c path staged refusal Full is never = absurd never
checked_by limits front c path staged refusal Memory is done = tt
checked_by limits front c path staged refusal (Refused answer kept) is (one, two) = record { failed = is ∙ ap (λ (r : Refusal). Err r) (sym one); same = two ∙ sym one }

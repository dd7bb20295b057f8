-- The kind of a record, and the one that its header says.
use Rattle.std.proofs.Common.{◌≡◌, ℕ, Bool, true, false, cond, nat_lt, List, length, Option, Some, None, refl, sym, ap, ◌∙◌}
use Rattle.gt_object.specs.declared.kind.Kind.{Kind}
use Rattle.gt_object.specs.declared.kind.Kind.TheVariants.{Commit, Tree, Blob, Tag}
use Rattle.gt_object.specs.declared.error.ObjectError.TheVariants.{TooLarge, BadObject}
use Rattle.gt_object.specs.Header.{kind_of, header_of}
use Rattle.gt_object.specs.Whole.{broken_in, why_not}
use Rattle.gt_object.proofs.Parts.{kind_is}
use Rattle.gt_model.specs.Jobs.{is_tag_header}

abbrev pub is_tag : Kind → Bool
is_tag Tag = true
is_tag kind = false

of_kind : (k : Kind) (n : ℕ) → is_tag k ≡ is_tag_header (Some (k, n))
of_kind Commit n = refl
of_kind Tree n = refl
of_kind Blob n = refl
of_kind Tag n = refl

no_error : (b : Bool) → cond b (Some TooLarge) (Some (BadObject 0)) ≡ None → ⊥
no_error true e = absurd cc
no_error false e = absurd cc

pub tag_kind : (w : List ℕ) (k : Kind) → kind_of w ≡ Some k → why_not w ≡ None → is_tag k ≡ is_tag_header (header_of w)
unfolding why_not
tag_kind w k is good = by (header_of w) refl good
  where
    by : (o : Option (Kind × ℕ)) → header_of w ≡ o → cond (nat_lt 16777216 (length w)) (Some TooLarge) (broken_in w o) ≡ None → is_tag k ≡ is_tag_header o
    by None e f = absurd (no_error (nat_lt 16777216 (length w)) f)
    by (Some (x, n)) e f = let same : x ≡ k = let both : Some x ≡ Some k = sym (kind_is w x n e) ∙ is in cc in ap is_tag (sym same) ∙ of_kind x n

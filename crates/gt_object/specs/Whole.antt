-- When bytes are a record, why they aren't, and what a record needs.
use Rattle.std.specs.Prelude.{◌≡◌, ℕ, ◌+◌, ◌≤◌, ◌++◌, List, [], drop, length, Option, Some, None, nat_lt, if◌then◌else◌}
use Rattle.gt_object.specs.declared.kind.Kind.{Kind}
use Rattle.gt_object.specs.declared.error.ObjectError.{ObjectError}
use Rattle.gt_object.specs.declared.error.ObjectError.TheVariants.{TooLarge, BadObject, Memory}
use Rattle.gt_object.specs.Header.{header, header_of}
use Rattle.gt_object.specs.Grammar.{ids_of, bad_content}
use Rattle.gt_object.specs.Mentions.{distinct_of}

-- a record: the header of a content of the grammar, and the content, at most 16,777,216 bytes
pub record IsRecord (w : List ℕ) : Type 0 where
  pub kind : Kind
  pub content : List ℕ
  pub whole : w ≡ header kind (length content) ++ content
  pub good : bad_content kind content ≡ None
  pub small : length w ≤ 16777216

-- ---- why there is no record

-- a content that begins here is broken at a place of its own
abbrev pub broken_at : ℕ → Option ℕ → Option ObjectError
broken_at begin None = None
broken_at begin (Some at) = Some (BadObject (begin + at))

abbrev pub broken_in : List ℕ → Option (Kind × ℕ) → Option ObjectError
broken_in w None = Some (BadObject 0)
broken_in w (Some x) = broken_at x.1 (bad_content x.0 (drop x.1 w))

-- why the bytes are no record: too many, or no header at 0, or a fault of the content
unfoldable pub why_not : List ℕ → Option ObjectError
why_not w = if nat_lt 16777216 (length w) then Some TooLarge else broken_in w (header_of w)

-- why a content has no record of this kind: too many bytes with its header, or a fault, counted from its begin
abbrev pub why_not_new : Kind → List ℕ → Option ObjectError
why_not_new kind c = if nat_lt 16777216 (length (header kind (length c)) + length c) then Some TooLarge else broken_at 0 (bad_content kind c)

-- The error is the reason; memory runs out only where there is none.
abbrev pub IsReason : Option ObjectError → ObjectError → Type 0
IsReason why TooLarge = why ≡ Some TooLarge
IsReason why (BadObject at) = why ≡ Some (BadObject at)
IsReason why Memory = why ≡ None

-- ---- the parts of a record

abbrev pub content_in : List ℕ → Option (Kind × ℕ) → List ℕ
content_in w None = []
content_in w (Some x) = drop x.1 w

-- the content of a record
abbrev pub content_of : List ℕ → List ℕ
content_of w = content_in w (header_of w)

abbrev pub deps_in : List ℕ → Option (Kind × ℕ) → List (List ℕ)
deps_in w None = []
deps_in w (Some x) = distinct_of (ids_of x.0 (drop x.1 w))

-- the objects that a record needs, each once, in order of first mention
abbrev pub deps : List ℕ → List (List ℕ)
deps w = deps_in w (header_of w)

-- What holds of the fields of each `Record`.
pub record Holds (kind : Kind) (begin : ℕ) (w : List ℕ) : Type 0 where
  pub head : header_of w ≡ Some (kind, begin)
  pub good : bad_content kind (drop begin w) ≡ None
  pub small : length w ≤ 16777216
  pub inside : begin ≤ length w

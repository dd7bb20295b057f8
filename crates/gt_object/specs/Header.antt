-- The header of a record: the word of its kind, a space, the length of its content in decimal digits, and a NUL (Git's object format).
use Rattle.std.specs.Prelude.{ℕ, ◌+◌, ◌-◌, List, [], ◌∷◌, ◌++◌, length, take, drop, Option, Some, None, position, codes, decimal, nat_eq, nat_le, ◌==◌, if◌then◌else◌, bytes_eq}
use Rattle.std.specs.List.{starts_with}
use Rattle.gt_object.specs.declared.kind.Kind.{Kind}
use Rattle.gt_object.specs.declared.kind.Kind.TheVariants.{Commit, Tree, Blob, Tag}

-- the word of a kind
abbrev pub word : Kind → List ℕ
word Commit = codes "commit"
word Tree = codes "tree"
word Blob = codes "blob"
word Tag = codes "tag"

-- the header of a content of this length
abbrev pub header : Kind → ℕ → List ℕ
header kind n = word kind ++ 32 ∷ (decimal n ++ 0 ∷ [])

-- the kind whose word and a space begin the bytes
abbrev pub kind_of : List ℕ → Option Kind
kind_of w = if starts_with nat_eq w (codes "commit ") then Some Commit else if starts_with nat_eq w (codes "tree ") then Some Tree else if starts_with nat_eq w (codes "blob ") then Some Blob else if starts_with nat_eq w (codes "tag ") then Some Tag else None

-- the place after the NUL, if what stands before it is the length of all that follows
abbrev pub begin_after : List ℕ → ℕ → Option ℕ → Option ℕ
begin_after w from None = None
begin_after w from (Some n) = if bytes_eq (take n (drop from w)) (decimal (length w - (from + n + 1))) then Some (from + n + 1) else None

-- where the content begins, if its length and a NUL stand at this place
unfoldable pub content_begin : List ℕ → ℕ → Option ℕ
content_begin w from = begin_after w from (position (λ b. b == 0) (drop from w))

-- a kind beside a place
abbrev pub with_kind : Kind → Option ℕ → Option (Kind × ℕ)
with_kind kind None = None
with_kind kind (Some n) = Some (kind, n)

-- where the content begins, behind the word of the kind and a space
abbrev pub header_by : List ℕ → Option Kind → Option (Kind × ℕ)
header_by w None = None
header_by w (Some kind) = if nat_le (length (word kind) + 1) (length w) then with_kind kind (content_begin w (length (word kind) + 1)) else None

-- the kind of a record, and where its content begins; None where the bytes have no header for what follows
unfoldable pub header_of : List ℕ → Option (Kind × ℕ)
header_of w = header_by w (kind_of w)

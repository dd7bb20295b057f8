-- The one spelling of a list of references as a packed file.
use Rattle.std.specs.Prelude.{◌≡◌, ℕ, false, List, [], ◌∷◌, ◌++◌, length, codes, Option, Some, None, IfSome}
use Rattle.std.specs.List.{flat_map}
use Rattle.hex.specs.Hex.{encode_lower, IsBytes}
use Rattle.gt_name.specs.References.{bad_ref}
use Rattle.gt_reftext.specs.Lines.{is_zero}
use Rattle.gt_reftext.specs.declared.packed_ref.PackedRef.{PackedRef}

abbrev pub header : List ℕ
header = codes "# pack-refs with: peeled fully-peeled sorted \n"

-- `^`, the peeled name and a line feed
abbrev pub peeled_text : Option (List ℕ) → List ℕ
peeled_text None = []
peeled_text (Some name) = 94 ∷ (encode_lower name ++ 10 ∷ [])

-- a reference's line, and that of its peeled name
abbrev pub ref_text : PackedRef → List ℕ
ref_text r = encode_lower r.value ++ (32 ∷ (r.name ++ (10 ∷ peeled_text r.peeled)))

-- the header, and the lines of each reference
abbrev pub packed_text : List PackedRef → List ℕ
packed_text list = header ++ flat_map ref_text list

-- It is the name of an object: 20 bytes.
abbrev pub IsName : List ℕ → Type 0
IsName x = (length x ≡ 20) × IsBytes x

-- A good name, a value that isn't zero, and a name for the peeled one.
pub record IsPackedRef (r : PackedRef) : Type 0 where
  pub name : bad_ref r.name ≡ None
  pub value : IsName r.value
  pub some : is_zero r.value ≡ false
  pub peeled : IfSome r.peeled IsName

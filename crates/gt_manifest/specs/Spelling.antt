-- The spellings of a manifest: `GTM1` is only read, `GTM2` is written.
use Rattle.std.specs.Prelude.{◌≡◌, ℕ, ◌-◌, ◌<◌, ◌^◌, Bool, true, List, [], ◌∷◌, ◌++◌, length, Option, Some, None, codes, if◌then◌else◌, slice_get, nat_le, is_none}
use Rattle.std.specs.Option.{option_map_or}
use Rattle.std.specs.Ordering.{nat_cmp, is_lt}
use Rattle.std.specs.Cmp.Lexicographic.{slice_cmp}
use Rattle.std.specs.Int.{w64, to_be_bytes}
use Rattle.gt_bytes.specs.Spelling.{text, counted, Follows}
use Rattle.gt_name.specs.Paths.{bad_path}
use Rattle.gt_name.specs.References.{bad_ref}
use Rattle.gt_manifest.specs.declared.manifest.Loose.{Loose}
use Rattle.gt_manifest.specs.declared.manifest.RepoFiles.{RepoFiles}
use Rattle.gt_manifest.specs.declared.manifest.Manifest.{Manifest}
use Rattle.gt_manifest.specs.declared.version.Version.{Version}
use Rattle.gt_manifest.specs.declared.version.Version.TheVariants.{First, Second}

-- ---- the bytes

abbrev pub number : ℕ → List ℕ
number n = to_be_bytes w64 n

abbrev pub flag : Bool → List ℕ
flag b = (if b then 1 else 0) ∷ []

-- a path, or an empty text for none
abbrev pub pool_text : Option (List ℕ) → List ℕ
pool_text None = text []
pool_text (Some path) = text path

abbrev pub loose : Loose → List ℕ
loose l = text l.name ++ number l.file

abbrev pub owner : List ℕ × (Bool × Option (List ℕ)) → List ℕ
owner o = text o.0 ++ (flag o.1.0 ++ pool_text o.1.1)

abbrev pub files : List ℕ × (ℕ × List Loose) → List ℕ
files f = counted number f.0 ++ (number f.1.0 ++ counted loose f.1.1)

-- the positions of the last packings, which `GTM1` hasn't
abbrev pub lasts : Version → ℕ × ℕ → List ℕ
lasts First p = []
lasts Second p = number p.0 ++ number p.1

abbrev pub repo : Version → RepoFiles → List ℕ
repo v r = owner (r.path, (r.is_pool, r.pool)) ++ (files (r.packs, (r.packed, r.loose)) ++ lasts v (r.repacked, r.refs_packed))

abbrev pub magic : Version → List ℕ
magic First = codes "GTM1"
magic Second = codes "GTM2"

abbrev pub head : ℕ × (ℕ × ℕ) → List ℕ
head h = number h.0 ++ (number h.1.0 ++ number h.1.1)

abbrev pub body : Version → Manifest → List ℕ
body v m = head (m.epoch, (m.applied, m.next)) ++ counted (repo v) m.repos

-- the whole file
abbrev pub manifest : Version → Manifest → List ℕ
manifest v m = magic v ++ body v m

-- ---- what has a spelling, as far as single fields and the order go

abbrev pub good_path : List ℕ → Bool
good_path t = is_none (bad_path t)

abbrev pub good_ref : List ℕ → Bool
good_ref t = is_none (bad_ref t)

abbrev pub name_of : Loose → List ℕ
name_of l = l.name

abbrev pub path_of : RepoFiles → List ℕ
path_of r = r.path

-- greater than the key of the last of those before it
abbrev pub above : {A : Type 0} → (A → List ℕ) → List A → List ℕ → Bool
above key before x = option_map_or (λ y. is_lt (slice_cmp nat_cmp (key y) x)) (slice_get before (length before - 1)) true

abbrev pub IsNumber : ℕ → Type 0
IsNumber n = n < 2 ^ 64

abbrev pub IsPath : List ℕ → Type 0
IsPath p = (length p < 2 ^ 16) × (good_path p ≡ true)

abbrev pub IsRef : List ℕ → Type 0
IsRef p = (length p < 2 ^ 16) × (good_ref p ≡ true)

abbrev pub IsPool : Option (List ℕ) → Type 0
IsPool None = Unit {0}
IsPool (Some path) = IsPath path

abbrev pub MayLoose : List Loose → Loose → Type 0
MayLoose before l = (IsRef l.name × (above name_of before l.name ≡ true)) × IsNumber l.file

abbrev pub AreNumbers : List ℕ → Type 0
AreNumbers ns = (length ns < 2 ^ 32) × Follows (λ before n. IsNumber n) [] ns

abbrev pub AreLoose : List Loose → Type 0
AreLoose ls = (length ls < 2 ^ 32) × Follows MayLoose [] ls

abbrev pub IsOwner : List RepoFiles → List ℕ × (Bool × Option (List ℕ)) → Type 0
IsOwner before o = (IsPath o.0 × (above path_of before o.0 ≡ true)) × (Unit {0} × IsPool o.1.1)

abbrev pub AreFiles : List ℕ × (ℕ × List Loose) → Type 0
AreFiles f = AreNumbers f.0 × (IsNumber f.1.0 × AreLoose f.1.1)

-- at most the applied position; 0 in `GTM1`
abbrev pub AreLasts : Version → ℕ → ℕ × ℕ → Type 0
AreLasts First applied p = (p.0 ≡ 0) × (p.1 ≡ 0)
AreLasts Second applied p = (IsNumber p.0 × (nat_le p.0 applied ≡ true)) × (IsNumber p.1 × (nat_le p.1 applied ≡ true))

abbrev pub MayRepo : Version → ℕ → List RepoFiles → RepoFiles → Type 0
MayRepo v applied before r = IsOwner before (r.path, (r.is_pool, r.pool)) × (AreFiles (r.packs, (r.packed, r.loose)) × AreLasts v applied (r.repacked, r.refs_packed))

abbrev pub IsHead : ℕ × (ℕ × ℕ) → Type 0
IsHead h = IsNumber h.0 × (IsNumber h.1.0 × (IsNumber h.1.1 × (nat_le 1 h.1.1 ≡ true)))

-- Each field is in its range, and repositories and references ascend.
abbrev pub FitsFields : Version → Manifest → Type 0
FitsFields v m = IsHead (m.epoch, (m.applied, m.next)) × ((length m.repos < 2 ^ 32) × Follows (MayRepo v m.applied) [] m.repos)

-- Its texts and lists are short enough.
abbrev pub MayPut : RepoFiles → Type 0
MayPut r = IsPath r.path × (IsPool r.pool × AreFiles (r.packs, (r.packed, r.loose)))

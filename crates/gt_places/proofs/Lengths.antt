-- The bytes of a write before its first added record.
use Rattle.std.proofs.Common.{◌≡◌, ℕ, ◌+◌, ◌*◌, Bool, true, false, cond, is_none, List, [], ◌∷◌, ◌++◌, length, Option, Some, None, refl, sym, ◌∙◌, ap, arith, length-append, append_assoc, IfSome}
use Rattle.std.specs.List.{AllByRecursion, list_any, flat_map, sum_by}
use Rattle.std.specs.Int.{w32, to_be_bytes}
use Rattle.std.proofs.lemmas.List.Sums.{sum_by-cons}
use Rattle.gt_bytes.specs.Spelling.{text, counted}
use Rattle.gt_model.specs.declared.added.Added.{Added}
use Rattle.gt_model.specs.declared.change.Change.TheVariants.{Write}
use Rattle.gt_model.specs.declared.update.RefUpdate.{RefUpdate}
use Rattle.gt_entry.specs.declared.version.Version.{Version}
use Rattle.gt_entry.specs.declared.version.Version.TheVariants.{First, Second}
use Rattle.gt_entry.specs.Spelling.{is_check, number, same, target, update, item, change, magic, spelling}
use Rattle.gt_entry.specs.Fits.{IsName, IsUpdate}
use Rattle.gt_objset.specs.Places.{ref_bytes, added_begin}

-- the version of a write
abbrev version_by : Bool → Version
version_by checks = cond checks Second First

-- what a reference moves to takes 20 bytes where it is a value, and one more where checks are told apart
target_length : (checks : Bool) (new : Option (List ℕ)) → IfSome new IsName → length (target (version_by checks) new) ≡ cond checks 1 0 + cond (is_none new) 0 20
target_length true None h = refl
target_length true (Some new) h = omega (arith, h)
target_length false None h = refl
target_length false (Some new) h = omega (arith, h)

update_length : (checks : Bool) (u : RefUpdate) → IsUpdate u → length (update (version_by checks) u) ≡ ref_bytes checks u
update_length checks u is =
    omega (arith, length-append (text u.name) (u.old ++ target (version_by checks) u.new), length-append u.old (target (version_by checks) u.new), is.old, target_length checks u.new is.new)

refs_length : (checks : Bool) (refs : List RefUpdate) → AllByRecursion IsUpdate refs → length (flat_map (update (version_by checks)) refs) ≡ sum_by (ref_bytes checks) refs
refs_length checks [] h = refl
refs_length checks (u ∷ us) h =
    let rest : List ℕ = flat_map (update (version_by checks)) us in
    length-append (update (version_by checks) u) rest ∙ ap (λ (n : ℕ). n + length rest) (update_length checks u h.0) ∙ ap (λ (n : ℕ). ref_bytes checks u + n) (refs_length checks us h.1) ∙ sym (sum_by-cons (ref_bytes checks) u us)

names_length : (names : List (List ℕ)) → AllByRecursion IsName names → length (flat_map same names) ≡ 20 * length names
names_length [] h = refl
names_length (x ∷ xs) h = omega (arith, length-append x (flat_map same xs), h.0, names_length xs h.1)

magic_length : (v : Version) → length (magic v) ≡ 4
magic_length First = refl
magic_length Second = refl

-- all bytes before the first added record
abbrev pub before_added : ℕ → List ℕ → List RefUpdate → List (List ℕ) → List Added → List ℕ
before_added position path refs needed added =
    magic (version_by (list_any is_check refs))
    ++ (number position ++ (text path ++ (4 ∷ (counted (update (version_by (list_any is_check refs))) refs ++ (counted same needed ++ to_be_bytes w32 (length added))))))

pub before_length : (position : ℕ) (path : List ℕ) (refs : List RefUpdate) (needed : List (List ℕ)) (added : List Added) → AllByRecursion IsUpdate refs → AllByRecursion IsName needed
    → length (before_added position path refs needed added) ≡ added_begin path refs needed
before_length position path refs needed added updates names =
    let checks : Bool = list_any is_check refs in
    let counts : List ℕ = to_be_bytes w32 (length added) in
    let needs : List ℕ = counted same needed ++ counts in
    let fields : List ℕ = counted (update (version_by checks)) refs ++ needs in
    omega (
      arith,
      length-append (magic (version_by checks)) (number position ++ (text path ++ (4 ∷ fields))),
      magic_length (version_by checks),
      length-append (text path) (4 ∷ fields),
      length-append (counted (update (version_by checks)) refs) needs,
      length-append (counted same needed) counts,
      refs_length checks refs updates,
      names_length needed names,
    )

-- what stands behind the last field stands behind all of them
in_front : (m p t r n c rest : List ℕ) (kind : ℕ) → m ++ (p ++ (t ++ (kind ∷ (r ++ (n ++ (c ++ rest)))))) ≡ (m ++ (p ++ (t ++ (kind ∷ (r ++ (n ++ c)))))) ++ rest
in_front m p t r n c rest kind = simp append_assoc

-- a write is these bytes, and its added records
pub write_spelling : (position : ℕ) (path : List ℕ) (refs : List RefUpdate) (needed : List (List ℕ)) (added : List Added)
    → spelling (record { position = position; path = path; change = Write refs needed added }) ≡ before_added position path refs needed added ++ flat_map item added
unfolding spelling change
write_spelling position path refs needed added =
    let v : Version = version_by (list_any is_check refs) in
    in_front (magic v) (number position) (text path) (counted (update v) refs) (counted same needed) (to_be_bytes w32 (length added)) (flat_map item added) 4

-- A change is read exactly where its kind and its fields stand.
use Rattle.std.proofs.Common.{◌≡◌, ℕ, ◌+◌, ◌<◌, ◌≤◌, Bool, true, false, cond, eqb, ◌⊎◌, inl, inr, List, [], ◌∷◌, ◌++◌, length, Result, Ok, refl, ap, subst, arith}
use Rattle.std.specs.Int.{w64}
use Rattle.std.proofs.lemmas.Bool.{eqb-true}
use Rattle.gt_bytes.specs.Spelling.{text, counted}
use Rattle.gt_bytes.specs.Reading.{byte_at, number_at, counted_at, pair_at, seen_at}
use Rattle.gt_bytes.specs.Standing.{IsBytes, Stands, IsField}
use Rattle.gt_bytes.proofs.Steps.{bind_ok, ok_is}
use Rattle.gt_bytes.proofs.StandingLaws.{Stands-then, Stands-first, Stands-same}
use Rattle.gt_bytes.proofs.FieldLaws.{byte_field}
use Rattle.gt_bytes.proofs.CombinatorLaws.{pair_field}
use Rattle.gt_bytes.proofs.ListLaws.{counted_field}
use Rattle.gt_model.specs.declared.added.Added.{Added}
use Rattle.gt_model.specs.declared.change.Change.{Change}
use Rattle.gt_model.specs.declared.change.Change.TheVariants.{Create, Delete, Link, Write, Repack, Prune, PackRefs, Unlink}
use Rattle.gt_model.specs.declared.update.RefUpdate.{RefUpdate}
use Rattle.gt_entry.specs.declared.version.Version.{Version}
use Rattle.gt_entry.specs.declared.version.Version.TheVariants.{First, Second}
use Rattle.gt_entry.specs.Fits.{IsNumber}
use Rattle.gt_entry.specs.Reading.{path_at, flag_at, update_at, ascending_at, added_at, to_write, write_at, packing_at, change_by, change_at}
use Rattle.gt_entry.specs.Spelling.{number, flag, same, update, item, change}
use Rattle.gt_entry.proofs.Allowed.{IsPathText, MayUpdate, MayName, MayAdd, Are, FitsWrite, FitsPacking, FitsChange}
use Rattle.gt_entry.proofs.FieldLemmas.{big_field, path_field, flag_field, made_takes, made_again}
use Rattle.gt_entry.proofs.ItemLemmas.{update_field, ascending_field, added_field}

-- ---- the fields of a write and of a packing

abbrev Parts : Type 0
Parts = List RefUpdate × (List (List ℕ) × List Added)

abbrev parts_at : Version → List ℕ → ℕ → Result (Parts × ℕ) ℕ
parts_at v bytes = pair_at (counted_at (update_at v bytes) bytes) (pair_at (counted_at (ascending_at bytes) bytes) (counted_at (added_at bytes) bytes))

abbrev parts : Version → Parts → List ℕ
parts v p = counted (update v) p.0 ++ (counted same p.1.0 ++ counted item p.1.1)

abbrev packing : ℕ × List (List ℕ) → List ℕ
packing x = number x.0 ++ counted same x.1

parts_field : (v : Version) (bytes : List ℕ) → IsField {A = Parts} bytes (parts_at v bytes) (parts v) (FitsWrite v)
parts_field v bytes =
    let refs = counted_field bytes (update_at v bytes) (update v) (MayUpdate v) (update_field v bytes) in
    let needed = counted_field bytes (ascending_at bytes) same MayName (ascending_field bytes) in
    let more = counted_field bytes (added_at bytes) item MayAdd (added_field bytes) in
    let two = pair_field bytes (counted_at (ascending_at bytes) bytes) (counted same) (Are MayName) (counted_at (added_at bytes) bytes) (counted item) (Are MayAdd) needed more in
    pair_field bytes (counted_at (update_at v bytes) bytes) (counted (update v)) (Are (MayUpdate v)) (pair_at (counted_at (ascending_at bytes) bytes) (counted_at (added_at bytes) bytes)) (λ p. counted same p.0 ++ counted item p.1) (λ p. Are MayName p.0 × Are MayAdd p.1) refs two

packing_field : (bytes : List ℕ) → IsField {A = ℕ × List (List ℕ)} bytes (packing_at bytes) packing FitsPacking
unfolding packing_at
packing_field bytes = pair_field bytes (number_at w64 bytes) number IsNumber (counted_at (ascending_at bytes) bytes) (counted same) (Are MayName) (big_field bytes) (counted_field bytes (ascending_at bytes) same MayName (ascending_field bytes))

-- ---- one kind

chosen : {A : Type 0} (b : Bool) (x y z : A) → cond b x y ≡ z → ((b ≡ true) × (x ≡ z)) ⊎ ((b ≡ false) × (y ≡ z))
chosen true x y z e = inl (refl, e)
chosen false x y z e = inr (refl, e)

abbrev There : List ℕ → ℕ → Version → Change × ℕ → Type 0
There bytes at v x = Stands bytes at (change v x.0) x.1 × FitsChange v x.0

-- a kind that is made of a field's value
module _ {A : Type 0} (v : Version) (bytes : List ℕ) (r : ℕ → Result (A × ℕ) ℕ) (s : A → List ℕ) (F : A → Type 0) (to : A → Change) (kind : ℕ) (one : IsField bytes r s F) where
  kind_takes : ((a : A) → change v (to a) ≡ kind ∷ s a) → ((a : A) → F a → FitsChange v (to a)) → IsBytes bytes → (at k m : ℕ) (x : Change × ℕ) → m ≤ length bytes → Stands bytes at (k ∷ []) m → eqb k kind ≡ true → seen_at to r m ≡ Ok x → There bytes at v x
  kind_takes spelled fits good at k m x le st same e =
      let d = made_takes bytes r s F to one good m x le e in
      let tag : Stands bytes at (kind ∷ []) m = Stands-same bytes at (k ∷ []) (kind ∷ []) m (ap (λ (j : ℕ). j ∷ []) (eqb-true _ _ same)) st in
      let both : Stands bytes at (kind ∷ s d.0) x.1 = Stands-then bytes at (kind ∷ []) m (s d.0) x.1 tag d.2 in
      let P : Change → Type 0 = λ c. Stands bytes at (change v c) x.1 × FitsChange v c in
      subst P d.1 (rw (spelled d.0) both, fits d.0 d.3)

  kind_again : (at : ℕ) (a : A) (next : ℕ) → kind < 256 → at ≤ length bytes → Stands bytes at (kind ∷ s a) next → F a → (byte_at bytes at ≡ Ok (kind, at + 1)) × (seen_at to r (at + 1) ≡ Ok (to a, next))
  kind_again at a next lt le st fits =
      let p = Stands-first bytes at (kind ∷ []) (s a) next le st in
      ((byte_field bytes).again at kind (at + 1) le p.0 lt, made_again bytes r s F to one (at + 1) a next p.0.within p.1 fits)

-- ---- what is read

abbrev create : Bool → Change
create pool = Create pool

abbrev link : List ℕ → Change
link pool = Link pool

abbrev repack : ℕ × List (List ℕ) → Change
repack x = Repack x.0 x.1

abbrev prune : ℕ × List (List ℕ) → Change
prune x = Prune x.0 x.1

abbrev pack_refs : ℕ → Change
pack_refs file = PackRefs file

abbrev unlink : ℕ → Change
unlink file = Unlink file

write_takes : (v : Version) (bytes : List ℕ) → IsBytes bytes → (at k m : ℕ) (x : Change × ℕ) → m ≤ length bytes → Stands bytes at (k ∷ []) m → eqb k 4 ≡ true → write_at v bytes m ≡ Ok x → There bytes at v x
unfolding change write_at
write_takes First bytes good at k m x le st same e = kind_takes First bytes (parts_at First bytes) (parts First) (FitsWrite First) to_write 4 (parts_field First bytes) (λ a. refl) (λ a f. f) good at k m x le st same e
write_takes Second bytes good at k m x le st same e = kind_takes Second bytes (parts_at Second bytes) (parts Second) (FitsWrite Second) to_write 4 (parts_field Second bytes) (λ a. refl) (λ a f. f) good at k m x le st same e

abbrev done : Change × ℕ → Result (Change × ℕ) ℕ
done x = Ok x

delete_takes : (bytes : List ℕ) (at k m : ℕ) (x : Change × ℕ) → Stands bytes at (k ∷ []) m → eqb k 2 ≡ true → done (Delete, m) ≡ Ok x → There bytes at First x
unfolding change
delete_takes bytes at k m x st is e =
    let y : Change × ℕ = (Delete, m) in
    subst (There bytes at First) (ok_is y x e) (Stands-same bytes at (k ∷ []) (2 ∷ []) m (ap (λ (j : ℕ). j ∷ []) (eqb-true _ _ is)) st, tt)

kinds_take : (bytes : List ℕ) → IsBytes bytes → (at k m : ℕ) (x : Change × ℕ) → m ≤ length bytes → Stands bytes at (k ∷ []) m → change_by First bytes at k m ≡ Ok x → There bytes at First x
unfolding change
kinds_take bytes good at k m x le st e =
    elim (chosen (eqb k 1) _ _ _ e) [
      | inl p ↦ kind_takes First bytes (flag_at bytes) flag (λ b. Unit {0}) create 1 (flag_field bytes) (λ a. refl) (λ a f. f) good at k m x le st p.0 p.1
      | inr q ↦ elim (chosen (eqb k 2) _ _ _ q.1) [
        | inl p ↦ delete_takes bytes at k m x st p.0 p.1
        | inr q ↦ elim (chosen (eqb k 3) _ _ _ q.1) [
          | inl p ↦ kind_takes First bytes (path_at bytes) text IsPathText link 3 (path_field bytes) (λ a. refl) (λ a f. f) good at k m x le st p.0 p.1
          | inr q ↦ elim (chosen (eqb k 4) _ _ _ q.1) [
            | inl p ↦ write_takes First bytes good at k m x le st p.0 p.1
            | inr q ↦ elim (chosen (eqb k 5) _ _ _ q.1) [
              | inl p ↦ kind_takes First bytes (packing_at bytes) packing FitsPacking repack 5 (packing_field bytes) (λ a. refl) (λ a f. f) good at k m x le st p.0 p.1
              | inr q ↦ elim (chosen (eqb k 6) _ _ _ q.1) [
                | inl p ↦ kind_takes First bytes (packing_at bytes) packing FitsPacking prune 6 (packing_field bytes) (λ a. refl) (λ a f. f) good at k m x le st p.0 p.1
                | inr q ↦ elim (chosen (eqb k 7) _ _ _ q.1) [
                  | inl p ↦ kind_takes First bytes (number_at w64 bytes) number IsNumber pack_refs 7 (big_field bytes) (λ a. refl) (λ a f. f) good at k m x le st p.0 p.1
                  | inr q ↦ elim (chosen (eqb k 8) _ _ _ q.1) [
                    | inl p ↦ kind_takes First bytes (number_at w64 bytes) number IsNumber unlink 8 (big_field bytes) (λ a. refl) (λ a f. f) good at k m x le st p.0 p.1
                    | inr q ↦ absurd cc
                  ]
                ]
              ]
            ]
          ]
        ]
      ]
    ]

by_kind : (v : Version) (bytes : List ℕ) → IsBytes bytes → (at k m : ℕ) (x : Change × ℕ) → m ≤ length bytes → Stands bytes at (k ∷ []) m → change_by v bytes at k m ≡ Ok x → There bytes at v x
by_kind First bytes good at k m x le st e = kinds_take bytes good at k m x le st e
by_kind Second bytes good at k m x le st e =
    elim (chosen (eqb k 4) _ _ _ e) [
      | inl p ↦ write_takes Second bytes good at k m x le st p.0 p.1
      | inr q ↦ absurd cc
    ]

-- ---- what stands is read

changes_again : (v : Version) (bytes : List ℕ) (at : ℕ) (c : Change) (next : ℕ) → at ≤ length bytes → Stands bytes at (change v c) next → FitsChange v c → change_at v bytes at ≡ Ok (c, next)
unfolding change change_at write_at
changes_again First bytes at (Create pool) next le st fits =
    let k = kind_again First bytes (flag_at bytes) flag (λ b. Unit {0}) create 1 (flag_field bytes) at pool next (omega arith) le st tt in rw k.0 k.1
changes_again First bytes at Delete next le st fits = rw ((byte_field bytes).again at 2 next le st (omega arith)) refl
changes_again First bytes at (Link pool) next le st fits =
    let k = kind_again First bytes (path_at bytes) text IsPathText link 3 (path_field bytes) at pool next (omega arith) le st fits in rw k.0 k.1
changes_again First bytes at (Write refs needed added) next le st fits =
    let k = kind_again First bytes (parts_at First bytes) (parts First) (FitsWrite First) to_write 4 (parts_field First bytes) at (refs, (needed, added)) next (omega arith) le st fits in rw k.0 k.1
changes_again First bytes at (Repack file dropped) next le st fits =
    let k = kind_again First bytes (packing_at bytes) packing FitsPacking repack 5 (packing_field bytes) at (file, dropped) next (omega arith) le st fits in rw k.0 k.1
changes_again First bytes at (Prune file dropped) next le st fits =
    let k = kind_again First bytes (packing_at bytes) packing FitsPacking prune 6 (packing_field bytes) at (file, dropped) next (omega arith) le st fits in rw k.0 k.1
changes_again First bytes at (PackRefs file) next le st fits =
    let k = kind_again First bytes (number_at w64 bytes) number IsNumber pack_refs 7 (big_field bytes) at file next (omega arith) le st fits in rw k.0 k.1
changes_again First bytes at (Unlink file) next le st fits =
    let k = kind_again First bytes (number_at w64 bytes) number IsNumber unlink 8 (big_field bytes) at file next (omega arith) le st fits in rw k.0 k.1
changes_again Second bytes at (Create pool) next le st fits = absurd fits
changes_again Second bytes at Delete next le st fits = absurd fits
changes_again Second bytes at (Link pool) next le st fits = absurd fits
changes_again Second bytes at (Write refs needed added) next le st fits =
    let k = kind_again Second bytes (parts_at Second bytes) (parts Second) (FitsWrite Second) to_write 4 (parts_field Second bytes) at (refs, (needed, added)) next (omega arith) le st fits in rw k.0 k.1
changes_again Second bytes at (Repack file dropped) next le st fits = absurd fits
changes_again Second bytes at (Prune file dropped) next le st fits = absurd fits
changes_again Second bytes at (PackRefs file) next le st fits = absurd fits
changes_again Second bytes at (Unlink file) next le st fits = absurd fits

pub change_field : (v : Version) (bytes : List ℕ) → IsField bytes (change_at v bytes) (change v) (FitsChange v)
unfolding change_at
change_field v bytes = record { takes = takes; again = changes_again v bytes }
  where
    takes : IsBytes bytes → (at : ℕ) (x : Change × ℕ) → at ≤ length bytes → change_at v bytes at ≡ Ok x → There bytes at v x
    takes good at x le e =
        let b = bind_ok (byte_at bytes at) (λ kind. change_by v bytes at kind.0 kind.1) x e in
        let t = (byte_field bytes).takes good at b.0 le b.1 in
        by_kind v bytes good at b.0.0 b.0.1 x t.0.within t.0 b.2

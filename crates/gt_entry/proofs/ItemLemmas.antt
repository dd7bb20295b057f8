-- Each item of a list is read exactly where its spelling stands.
use Rattle.std.proofs.Common.{◌≡◌, ℕ, ◌+◌, ◌^◌, ◌<◌, ◌≤◌, Bool, true, false, cond, ltb, List, [], ◌∷◌, ◌++◌, length, take, drop, Option, Some, None, Result, Ok, Err, refl, sym, ap, subst, ◌∙◌, arith, slice_range}
use Rattle.std.specs.Int.{w32, to_be_bytes}
use Rattle.std.proofs.lemmas.Bool.{ltb-false, le-ltb}
use Rattle.std.proofs.lemmas.List.{take_at, length-take, length-drop}
use Rattle.gt_bytes.specs.Spelling.{text}
use Rattle.gt_bytes.specs.Reading.{number_at, name_at, kept, pair_at}
use Rattle.gt_bytes.specs.Standing.{IsBytes, Stands, IsField}
use Rattle.gt_bytes.proofs.Steps.{bind_ok, kept_ok, ok_is}
use Rattle.gt_bytes.proofs.StandingLaws.{Stands-then, Stands-first, Stands-front, Stands-same, range_is}
use Rattle.gt_bytes.proofs.FieldLaws.{number_field, name_field, wide32}
use Rattle.gt_bytes.proofs.CombinatorLaws.{pair_field, seen_field, kept_field}
use Rattle.gt_model.specs.declared.added.Added.{Added}
use Rattle.gt_model.specs.declared.update.RefUpdate.{RefUpdate}
use Rattle.gt_entry.specs.declared.version.Version.{Version}
use Rattle.gt_entry.specs.declared.version.Version.TheVariants.{First, Second}
use Rattle.gt_entry.specs.Fits.{IsName}
use Rattle.gt_entry.specs.Reading.{ref_at, is_new, flag_at, some_at, target_by, target_at, to_update, update_at, above, ascending_at, is_record, record_at, added_name, to_added, added_at}
use Rattle.gt_entry.specs.Spelling.{flag, same, target, update, sized, item}
use Rattle.gt_entry.proofs.Allowed.{IsRefText, IsTarget, MayUpdate, MayName, IsWhole, MayAdd}
use Rattle.gt_entry.proofs.FieldLemmas.{ref_field, flag_field, made_takes, made_again}

-- ---- what a reference moves to

abbrev some : List ℕ → Option (List ℕ)
some new = Some new

abbrev There : List ℕ → ℕ → Version → Option (List ℕ) × ℕ → Type 0
There bytes at v x = Stands bytes at (target v x.0) x.1 × IsTarget v x.0

first_takes : (bytes : List ℕ) → IsBytes bytes → (at : ℕ) (x : Option (List ℕ) × ℕ) → at ≤ length bytes → some_at bytes at ≡ Ok x → There bytes at First x
first_takes bytes good at x le e =
    let d = made_takes bytes (name_at bytes) same IsName some (name_field bytes) good at x le e in
    let P : Option (List ℕ) → Type 0 = λ new. Stands bytes at (target First new) x.1 × IsTarget First new in
    subst P d.1 (d.2, d.3)

second_takes : (bytes : List ℕ) → IsBytes bytes → (at : ℕ) (moves : Bool) (next : ℕ) (x : Option (List ℕ) × ℕ) → Stands bytes at (flag moves) next → target_by bytes moves next ≡ Ok x → There bytes at Second x
second_takes bytes good at false next x st e =
    let y : Option (List ℕ) × ℕ = (None, next) in
    subst (There bytes at Second) (ok_is y x e) (st, tt)
second_takes bytes good at true next x st e =
    let d = made_takes bytes (name_at bytes) same IsName some (name_field bytes) good next x st.within e in
    let P : Option (List ℕ) → Type 0 = λ new. Stands bytes at (target Second new) x.1 × IsTarget Second new in
    subst P d.1 (Stands-then bytes at (1 ∷ []) next d.0 x.1 st d.2, d.3)

target_field : (bytes : List ℕ) (v : Version) → IsField bytes (target_at v bytes) (target v) (IsTarget v)
unfolding target_at
target_field bytes First = record { takes = first_takes bytes; again = again }
  where
    again : (at : ℕ) (x : Option (List ℕ)) (next : ℕ) → at ≤ length bytes → Stands bytes at (target First x) next → IsTarget First x → target_at First bytes at ≡ Ok (x, next)
    again at None next le st fits = absurd fits
    again at (Some new) next le st fits = made_again bytes (name_at bytes) same IsName some (name_field bytes) at new next le st fits
target_field bytes Second = record { takes = takes; again = again }
  where
    takes : IsBytes bytes → (at : ℕ) (x : Option (List ℕ) × ℕ) → at ≤ length bytes → target_at Second bytes at ≡ Ok x → There bytes at Second x
    takes good at x le e =
        let b = bind_ok (flag_at bytes at) (λ moves. target_by bytes moves.0 moves.1) x e in
        second_takes bytes good at b.0.0 b.0.1 x ((flag_field bytes).takes good at b.0 le b.1).0 b.2

    again : (at : ℕ) (x : Option (List ℕ)) (next : ℕ) → at ≤ length bytes → Stands bytes at (target Second x) next → IsTarget Second x → target_at Second bytes at ≡ Ok (x, next)
    again at None next le st fits = rw ((flag_field bytes).again at false next le st tt) refl
    again at (Some new) next le st fits =
        let p = Stands-first bytes at (1 ∷ []) new next le st in
        rw ((flag_field bytes).again at true (at + 1) le p.0 tt) (made_again bytes (name_at bytes) same IsName some (name_field bytes) (at + 1) new next p.0.within p.1 fits)

-- ---- an update or a check

pub update_field : (v : Version) (bytes : List ℕ) (before : List RefUpdate) → IsField bytes (update_at v bytes before) (update v) (MayUpdate v before)
unfolding update_at
update_field v bytes before =
    let values = pair_field bytes (name_at bytes) same IsName (target_at v bytes) (target v) (IsTarget v) (name_field bytes) (target_field bytes v) in
    let ref = kept_field bytes (ref_at bytes) text IsRefText (is_new before) (ref_field bytes) in
    let all = pair_field bytes (λ at. kept (is_new before) at (ref_at bytes at)) text (λ x. IsRefText x × (is_new before x ≡ true)) (pair_at (name_at bytes) (target_at v bytes)) (λ p. p.0 ++ target v p.1) (λ p. IsName p.0 × IsTarget v p.1) ref values in
    seen_field bytes (pair_at (λ at. kept (is_new before) at (ref_at bytes at)) (pair_at (name_at bytes) (target_at v bytes))) (λ p. text p.0 ++ (p.1.0 ++ target v p.1.1)) (λ p. (IsRefText p.0 × (is_new before p.0 ≡ true)) × (IsName p.1.0 × IsTarget v p.1.1)) to_update (λ u. (u.name, (u.old, u.new))) (λ u. refl) (λ p. refl) all

-- ---- names and records

pub ascending_field : (bytes : List ℕ) (before : List (List ℕ)) → IsField bytes (ascending_at bytes before) same (MayName before)
unfolding ascending_at
ascending_field bytes before = kept_field bytes (name_at bytes) same IsName (above same before) (name_field bytes)

record_field : (bytes : List ℕ) → IsField bytes (record_at bytes) sized IsWhole
unfolding record_at
record_field bytes = record { takes = takes; again = again }
  where
    takes : IsBytes bytes → (at : ℕ) (x : List ℕ × ℕ) → at ≤ length bytes → record_at bytes at ≡ Ok x → Stands bytes at (sized x.0) x.1 × IsWhole x.0
    takes good at x le e =
        let f : ℕ × ℕ → Result (List ℕ × ℕ) ℕ = λ n. cond (ltb (length (drop n.1 bytes)) n.0) (Err n.1) (kept is_record n.1 (Ok (slice_range bytes n.1 (n.1 + n.0), n.1 + n.0))) in
        let b = bind_ok (number_at w32 bytes at) f x e in
        let n = b.0 in
        let t = (number_field bytes w32 (2 ^ 32) wide32).takes good at n le b.1 in
        rest n t.0 t.1 (ltb (length (drop n.1 bytes)) n.0) refl b.2
      where
        rest : (n : ℕ × ℕ) → Stands bytes at (to_be_bytes w32 n.0) n.1 → n.0 < 2 ^ 32 → (b : Bool) → ltb (length (drop n.1 bytes)) n.0 ≡ b → cond b (Err n.1) (kept is_record n.1 (Ok (slice_range bytes n.1 (n.1 + n.0), n.1 + n.0))) ≡ Ok x → Stands bytes at (sized x.0) x.1 × IsWhole x.0
        rest n st lt true p q = absurd cc
        rest n st lt false p q =
            let k = kept_ok (is_record (slice_range bytes n.1 (n.1 + n.0))) n.1 (slice_range bytes n.1 (n.1 + n.0), n.1 + n.0) x q in
            let long : n.0 ≤ length (drop n.1 bytes) = ltb-false _ _ p in
            let room : n.1 + n.0 ≤ length bytes = omega (arith, length-drop n.1 bytes, st.within) in
            let r : slice_range bytes n.1 (n.1 + n.0) ≡ take n.0 (drop n.1 bytes) = range_is bytes n.1 n.0 in
            let len : length (slice_range bytes n.1 (n.1 + n.0)) ≡ n.0 = rw r (omega (arith, length-take n.0 (drop n.1 bytes))) in
            let whole = Stands-same bytes n.1 (take n.0 (drop n.1 bytes)) (slice_range bytes n.1 (n.1 + n.0)) (n.1 + n.0) (sym r) (Stands-front bytes n.1 n.0 room) in
            let both = Stands-then bytes at (to_be_bytes w32 n.0) n.1 (slice_range bytes n.1 (n.1 + n.0)) (n.1 + n.0) st whole in
            let there = Stands-same bytes at (to_be_bytes w32 n.0 ++ slice_range bytes n.1 (n.1 + n.0)) (sized (slice_range bytes n.1 (n.1 + n.0))) (n.1 + n.0) (ap (λ (j : ℕ). to_be_bytes w32 j ++ slice_range bytes n.1 (n.1 + n.0)) (sym len)) both in
            let P : List ℕ × ℕ → Type 0 = λ y. Stands bytes at (sized y.0) y.1 × IsWhole y.0 in
            subst P k.1 (there, (omega (arith, lt, len), k.0))

    again : (at : ℕ) (x : List ℕ) (next : ℕ) → at ≤ length bytes → Stands bytes at (sized x) next → IsWhole x → record_at bytes at ≡ Ok (x, next)
    again at x next le s fits =
        let p = Stands-first bytes at (to_be_bytes w32 (length x)) x next le s in
        let n = (number_field bytes w32 (2 ^ 32) wide32).again at (length x) (at + 4) le p.0 fits.0 in
        let q : Stands bytes (at + 4) x next = p.1 in
        let long : ltb (length (drop (at + 4) bytes)) (length x) ≡ false = le-ltb _ _ (omega (arith, q.after, q.within, length-drop (at + 4) bytes)) in
        let front : slice_range bytes (at + 4) (at + 4 + length x) ≡ x = range_is bytes (at + 4) (length x) ∙ ap (take (length x)) q.parts ∙ take_at x (drop next bytes) (length x) refl in
        let after : at + 4 + length x ≡ next = omega (arith, q.after) in
        rw (n, long, front, fits.1, after) refl

pub added_field : (bytes : List ℕ) (before : List Added) → IsField bytes (added_at bytes before) item (MayAdd before)
unfolding added_at
added_field bytes before =
    let name = kept_field bytes (name_at bytes) same IsName (above added_name before) (name_field bytes) in
    let all = pair_field bytes (λ at. kept (above added_name before) at (name_at bytes at)) same (λ x. IsName x × (above added_name before x ≡ true)) (record_at bytes) sized IsWhole name (record_field bytes) in
    seen_field bytes (pair_at (λ at. kept (above added_name before) at (name_at bytes at)) (record_at bytes)) (λ p. p.0 ++ sized p.1) (λ p. (IsName p.0 × (above added_name before p.0 ≡ true)) × IsWhole p.1) to_added (λ a. (a.name, a.whole)) (λ a. refl) (λ p. refl) all

-- An entry is read exactly from its spelling.
use Rattle.std.proofs.Common.{◌≡◌, ℕ, ◌≤◌, List, [], ◌++◌, length, Result, Ok, Err, refl, sym, ap, subst, ◌∙◌}
use Rattle.std.specs.Prelude.{IfOk}
use Rattle.std.specs.Int.{w64}
use Rattle.gt_bytes.specs.Spelling.{text}
use Rattle.gt_bytes.specs.Reading.{number_at, pair_at, seen_at, all_of}
use Rattle.gt_bytes.specs.Standing.{IsBytes, Stands, IsField}
use Rattle.gt_bytes.proofs.Steps.{bind_ok}
use Rattle.gt_bytes.proofs.StandingLaws.{Stands-then, Stands-first}
use Rattle.gt_bytes.proofs.CombinatorLaws.{pair_field, seen_field}
use Rattle.gt_bytes.proofs.WholeLaws.{all_takes, all_again, none_begins}
use Rattle.gt_model.specs.declared.change.Change.{Change}
use Rattle.gt_model.specs.declared.entry.Entry.{Entry}
use Rattle.gt_entry.specs.declared.error.EntryError.{EntryError}
use Rattle.gt_entry.specs.declared.version.Version.{Version}
use Rattle.gt_entry.specs.Answers.{Reads}
use Rattle.gt_entry.specs.Fits.{IsNumber, IsEntry, HasSpelling}
use Rattle.gt_entry.specs.Reading.{path_at, change_at, version_at, to_entry, body_at, top_at, checked, entry_of}
use Rattle.gt_entry.specs.Spelling.{number, change, version, magic, body, spelling}
use Rattle.gt_entry.proofs.Allowed.{IsPathText, FitsChange, FitsBody}
use Rattle.gt_entry.proofs.ChangeLemmas.{change_field}
use Rattle.gt_entry.proofs.FieldLemmas.{big_field, path_field, version_field, made_takes, made_again}
use Rattle.gt_entry.proofs.FitLemmas.{body_fits, body_stated, checked_is}

abbrev parts : Entry → ℕ × (List ℕ × Change)
parts e = (e.position, (e.path, e.change))

body_field : (v : Version) (bytes : List ℕ) → IsField bytes (body_at v bytes) (body v) (FitsBody v)
unfolding body_at
body_field v bytes =
    let inner = pair_field bytes (path_at bytes) text IsPathText (change_at v bytes) (change v) (FitsChange v) (path_field bytes) (change_field v bytes) in
    let all = pair_field bytes (number_at w64 bytes) number IsNumber (pair_at (path_at bytes) (change_at v bytes)) (λ p. text p.0 ++ change v p.1) (λ p. IsPathText p.0 × FitsChange v p.1) (big_field bytes) inner in
    seen_field bytes (pair_at (number_at w64 bytes) (pair_at (path_at bytes) (change_at v bytes))) (λ p. number p.0 ++ (text p.1.0 ++ change v p.1.1)) (λ p. IsNumber p.0 × (IsPathText p.1.0 × FitsChange v p.1.1)) to_entry parts (λ e. refl) (λ p. refl) all

-- ---- both spellings

abbrev Top : Type 0
Top = Version × Entry

abbrev spelled : Top → List ℕ
spelled x = magic x.0 ++ body x.0 x.1

abbrev Fits : Top → Type 0
Fits x = FitsBody x.0 x.1

abbrev with : Version → Entry → Top
with v e = (v, e)

top_field : (bytes : List ℕ) → IsField {A = Top} bytes (top_at bytes) spelled Fits
unfolding top_at
top_field bytes = record { takes = takes; again = again }
  where
    takes : IsBytes bytes → (at : ℕ) (x : Top × ℕ) → at ≤ length bytes → top_at bytes at ≡ Ok x → Stands bytes at (spelled x.0) x.1 × Fits x.0
    takes good at x le e =
        let f : Version × ℕ → Result (Top × ℕ) ℕ = λ v. seen_at (with v.0) (body_at v.0 bytes) v.1 in
        let v = bind_ok (version_at bytes at) f x e in
        let h = (version_field bytes).takes good at v.0 le v.1 in
        let d = made_takes bytes (body_at v.0.0 bytes) (body v.0.0) (FitsBody v.0.0) (with v.0.0) (body_field v.0.0 bytes) good v.0.1 x h.0.within v.2 in
        let P : Top → Type 0 = λ y. Stands bytes at (spelled y) x.1 × Fits y in
        subst P d.1 (Stands-then bytes at (magic v.0.0) v.0.1 (body v.0.0 d.0) x.1 h.0 d.2, d.3)

    again : (at : ℕ) (x : Top) (next : ℕ) → at ≤ length bytes → Stands bytes at (spelled x) next → Fits x → top_at bytes at ≡ Ok (x, next)
    again at x next le st fits =
        let p = Stands-first bytes at (magic x.0) (body x.0 x.1) next le st in
        rw ((version_field bytes).again at x.0 _ le p.0 tt) (made_again bytes (body_at x.0 bytes) (body x.0) (FitsBody x.0) (with x.0) (body_field x.0 bytes) _ x.1 next p.0.within p.1 fits)

-- ---- the entry

abbrev top_of : Entry → Top
top_of e = (version e.change, e)

pub entry_again : (bytes : List ℕ) (e : Entry) → IsEntry e → HasSpelling e → bytes ≡ spelling e → entry_of bytes ≡ Ok e
unfolding entry_of spelling
entry_again bytes e is may same = rw (all_again top_at spelled Fits top_field bytes (top_of e) (body_fits e is may) same) (checked_is e)

pub entry_takes : (bytes : List ℕ) (e : Entry) → IsBytes bytes → entry_of bytes ≡ Ok e → IsEntry e × HasSpelling e × (bytes ≡ spelling e)
unfolding entry_of spelling
entry_takes bytes e good h =
    let a = bind_ok (all_of (top_at bytes) bytes) checked e h in
    let t = all_takes top_at spelled Fits top_field bytes good a.0 a.1 in
    let s = body_stated a.0.0 a.0.1 e t.0 a.2 in
    let whole : bytes ≡ magic (version a.0.1.change) ++ body (version a.0.1.change) a.0.1 = t.1 ∙ ap (λ (v : Version). magic v ++ body v a.0.1) (sym s.0.1.1) in
    let P : Entry → Type 0 = λ y. IsEntry y × HasSpelling y × (bytes ≡ magic (version y.change) ++ body (version y.change) y) in
    subst P s.1 (s.0.0, s.0.1.0, whole)

pub no_front : (a b : Entry) (rest : List ℕ) → IsEntry a → HasSpelling a → IsEntry b → HasSpelling b → spelling b ≡ spelling a ++ rest → (a ≡ b) × (rest ≡ [])
unfolding spelling
no_front a b rest ia ha ib hb e =
    let n = none_begins top_at spelled Fits top_field (top_of a) (top_of b) rest (body_fits a ia ha) (body_fits b ib hb) e in
    (ap (λ (x : Top). x.1) n.0, n.1)

-- ---- what the decoder answers

-- It is typed, it has a spelling, and it is spelled so.
pub record IsFound (bytes : List ℕ) (e : Entry) : Type 0 where
  pub typed : IsEntry e
  pub fits : HasSpelling e
  pub is : bytes ≡ spelling e

pub is_found : (bytes : List ℕ) (r : Result Entry EntryError) → IsBytes bytes → Reads r (entry_of bytes) → IfOk r (IsFound bytes)
is_found bytes (Ok e) good given = let t = entry_takes bytes e good given in record { typed = t.0; fits = t.1; is = t.2 }
is_found bytes (Err e) good given = tt

pub on_found : {A : Type 0} (P Q : A → Type 0) (r : Result A EntryError) → ((x : A) → P x → Q x) → IfOk r P → IfOk r Q
on_found P Q (Ok x) h p = h x p
on_found P Q (Err e) h p = tt

pub is_read : (bytes : List ℕ) (r : Result Entry EntryError) (e : Entry) → IsEntry e → HasSpelling e → bytes ≡ spelling e → Reads r (entry_of bytes) → Reads r (Ok e)
is_read bytes r e is may same given = subst (λ f. Reads r f) (entry_again bytes e is may same) given

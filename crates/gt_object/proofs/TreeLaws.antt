-- A tree is its entries, one after the other.
use Rattle.std.proofs.Common.{◌≡◌, ℕ, ◌+◌, ◌<◌, ◌≤◌, Bool, true, false, cond, not, eqb, ltb, leb, ◌&&◌, List, [], ◌∷◌, ◌++◌, length, take, drop, get_or, Option, Some, None, Result, Ok, Err, refl, sym, ap, subst, ◌∙◌, append_assoc, arith, length-append}
use Rattle.std.specs.List.{position, position_or_len, AllPass}
use Rattle.std.proofs.lemmas.Bool.{not-true, not-false, not_from_true, not_from_false, lt-ltb, le-leb, ltb-true, leb-true, eqb-true}
use Rattle.std.proofs.lemmas.List.{get_or-take, get_or_at, take_at, drop_at, drop-drop, length-take, length-drop, take-append-drop, drop_more}
use Rattle.std.proofs.lemmas.List.Sums.{position_or_len_is}
use Rattle.std.proofs.lemmas.List.Quantifiers.{position-Some}
use Rattle.gt_bytes.specs.Standing.{Stands, IsField}
use Rattle.gt_bytes.proofs.Steps.{ok_is}
use Rattle.gt_object.specs.Trees.{more_entries, TreeEntry, IsTreeEntry, tree_entry, is_octal, mode_if, mode_len, name_if, name_len, entry_made, entry_by, entry_with, entry_at}
use Rattle.gt_object.proofs.Parts.{entry_is}

-- both tests of two
pub both : (a b : Bool) → (a && b) ≡ true → (a ≡ true) × (b ≡ true)
both true b e = (refl, e)
both false b e = absurd cc

if_ok : {A : Type 0} (b : Bool) (x y : A) → cond b (Some x) None ≡ Some y → (b ≡ true) × (x ≡ y)
if_ok true x y e = (refl, cc)
if_ok false x y e = absurd cc

-- the first place of a test, both ways
pub record Cut (p : ℕ → Bool) (xs : List ℕ) (k : ℕ) : Type 0 where
  pub inside : k < length xs
  pub here : p (get_or xs k 0) ≡ true
  pub before : AllPass (λ x. not (p x)) (take k xs)
  pub front : length (take k xs) ≡ k
  pub whole : xs ≡ take k xs ++ get_or xs k 0 ∷ drop (k + 1) xs

pub cut_at : (p : ℕ → Bool) (xs : List ℕ) (k : ℕ) → position p xs ≡ Some k → Cut p xs k
cut_at p xs k e =
    let s = position-Some p xs k 0 e in
    let len : length (take k xs) ≡ k = omega (arith, length-take k xs, s.0) in
    record {
      inside = s.0;
      here = s.1;
      before = λ j d lt. (let l : j < k = omega arith in not_from_false _ (ap p (get_or-take k xs j d l) ∙ (position-Some p xs k d e).2 j l));
      front = len;
      whole = sym (take-append-drop k xs) ∙ ap (λ (t : List ℕ). take k xs ++ t) (drop_more xs k 0 s.0);
    }

pub cut_again : (p : ℕ → Bool) (front : List ℕ) (y : ℕ) (back : List ℕ) → AllPass (λ x. not (p x)) front → p y ≡ true → position p (front ++ y ∷ back) ≡ Some (length front)
cut_again p front y back all here =
    let long : length front < length (front ++ y ∷ back) = omega (arith, length-append front (y ∷ back)) in
    let none : (k : ℕ) → k < length front → p (get_or (front ++ y ∷ back) k 0) ≡ false = λ k lt. (let same : get_or (front ++ y ∷ back) k 0 ≡ get_or front k 0 = sym (get_or-take (length front) (front ++ y ∷ back) k 0 lt) ∙ ap (λ (t : List ℕ). get_or t k 0) (take_at front (y ∷ back) (length front) refl) in ap p same ∙ not-true _ (all k 0 lt)) in
    let there : p (get_or (front ++ y ∷ back) (length front) 0) ≡ true = ap p (get_or_at front y back 0 (length front) refl) ∙ here in
    let e : position_or_len p (front ++ y ∷ back) ≡ length front = position_or_len_is p (front ++ y ∷ back) (length front) 0 (omega arith) none (λ _. there) in
    let t : ltb (length front) (length (front ++ y ∷ back)) ≡ true = lt-ltb _ _ long in
    rw (e, t) refl

pub record ModeCut (rest : List ℕ) (k : ℕ) : Type 0 where
  pub some : 0 < k
  pub few : k ≤ 7
  pub octal : AllPass (λ b. not (not (is_octal b))) (take k rest)
  pub front : length (take k rest) ≡ k
  pub inside : k < length rest
  pub whole : rest ≡ take k rest ++ 32 ∷ drop (k + 1) rest

mode_cut : (rest : List ℕ) (k : ℕ) → mode_len rest ≡ Some k → ModeCut rest k
unfolding mode_len
mode_cut rest k e = by (position (λ b. not (is_octal b)) rest) refl e
  where
    by : (o : Option ℕ) → position (λ b. not (is_octal b)) rest ≡ o → mode_if rest o ≡ Some k → ModeCut rest k
    by None p f = absurd cc
    by (Some m) p f =
        let g = if_ok ((ltb 0 m && leb m 7) && eqb (get_or rest m 0) 32) m k f in
        let b = both (ltb 0 m && leb m 7) (eqb (get_or rest m 0) 32) g.0 in
        let c = both (ltb 0 m) (leb m 7) b.0 in
        let cut = cut_at (λ b. not (is_octal b)) rest m p in
        let made : ModeCut rest m = record { some = ltb-true _ _ c.0; few = leb-true _ _ c.1; octal = cut.before; front = cut.front; inside = cut.inside; whole = cut.whole ∙ ap (λ (x : ℕ). take m rest ++ x ∷ drop (m + 1) rest) (eqb-true _ _ b.1) } in
        subst (ModeCut rest) g.1 made

pub record NameCut (tail : List ℕ) (m : ℕ) : Type 0 where
  pub some : 0 < m
  pub room : m + 21 ≤ length tail
  pub no_zero : AllPass (λ b. not (eqb b 0)) (take m tail)
  pub front : length (take m tail) ≡ m
  pub whole : tail ≡ take m tail ++ 0 ∷ drop (m + 1) tail

name_cut : (tail : List ℕ) (m : ℕ) → name_len tail ≡ Some m → NameCut tail m
unfolding name_len
name_cut tail k e = by (position (λ b. eqb b 0) tail) refl e
  where
    by : (o : Option ℕ) → position (λ b. eqb b 0) tail ≡ o → name_if tail o ≡ Some k → NameCut tail k
    by None p f = absurd cc
    by (Some m) p f =
        let g = if_ok (ltb 0 m && leb (m + 21) (length tail)) m k f in
        let b = both (ltb 0 m) (leb (m + 21) (length tail)) g.0 in
        let cut = cut_at (λ b. eqb b 0) tail m p in
        let made : NameCut tail m = record { some = ltb-true _ _ b.0; room = leb-true _ _ b.1; no_zero = cut.before; front = cut.front; whole = cut.whole ∙ ap (λ (x : ℕ). take m tail ++ x ∷ drop (m + 1) tail) (eqb-true _ _ cut.here) } in
        subst (NameCut tail) g.1 made

some_octal : (xs : List ℕ) → AllPass (λ b. not (not (is_octal b))) xs → AllPass is_octal xs
some_octal xs h = λ k d lt. not-false _ (not-true _ (h k d lt))

octal_again : (xs : List ℕ) → AllPass is_octal xs → AllPass (λ b. not (not (is_octal b))) xs
octal_again xs h = λ k d lt. not_from_false _ (not_from_true _ (h k d lt))

-- an entry that is read stands there
pub entry_takes : (c : List ℕ) (at : ℕ) (x : TreeEntry × ℕ) → at ≤ length c → entry_at c at ≡ Ok x → Stands c at (tree_entry x.0) x.1 × IsTreeEntry x.0
unfolding entry_at
entry_takes c at x le e = by (mode_len (drop at c)) refl e
  where
    then : (k : ℕ) → ModeCut (drop at c) k → (q : Option ℕ) → name_len (drop (k + 1) (drop at c)) ≡ q → entry_by (drop at c) at k q ≡ Ok x → Stands c at (tree_entry x.0) x.1 × IsTreeEntry x.0
    then k mc None p f = absurd cc
    then k mc (Some m) p f =
        let rest : List ℕ = drop at c in
        let nc = name_cut (drop (k + 1) (drop at c)) m p in
        let after : drop (m + 1) (drop (k + 1) (drop at c)) ≡ drop (at + (k + m + 2)) c = drop-drop (m + 1) (k + 1) (drop at c) ∙ drop-drop (k + 1 + (m + 1)) at c ∙ ap (λ (j : ℕ). drop j c) (omega arith) in
        let last : drop 20 (drop (m + 1) (drop (k + 1) (drop at c))) ≡ drop (at + (k + m + 22)) c = ap (drop 20) after ∙ drop-drop 20 (at + (k + m + 2)) c ∙ ap (λ (j : ℕ). drop j c) (omega arith) in
        let ids : drop (m + 1) (drop (k + 1) (drop at c)) ≡ take 20 (drop (m + 1) (drop (k + 1) (drop at c))) ++ drop (at + (k + m + 22)) c = sym (take-append-drop 20 (drop (m + 1) (drop (k + 1) (drop at c)))) ∙ ap (λ (t : List ℕ). take 20 (drop (m + 1) (drop (k + 1) (drop at c))) ++ t) last in
        let l1 = length-drop at c in
        let l2 = length-drop (k + 1) (drop at c) in
        let l3 = length-drop (m + 1) (drop (k + 1) (drop at c)) in
        let room = nc.room in
        let id_len : length (take 20 (drop (m + 1) (drop (k + 1) (drop at c)))) ≡ 20 = omega (arith, length-take 20 (drop (m + 1) (drop (k + 1) (drop at c))), l3, room) in
        let made : TreeEntry = entry_made (drop at c) k m in
        let parts : drop at c ≡ tree_entry (entry_made (drop at c) k m) ++ drop (at + (k + m + 22)) c =
        mc.whole ∙ ap (λ (t : List ℕ). take k (drop at c) ++ 32 ∷ t) (nc.whole ∙ ap (λ (t : List ℕ). take m (drop (k + 1) (drop at c)) ++ 0 ∷ t) ids) ∙ simp append_assoc in
        let stands : Stands c at (tree_entry (entry_made (drop at c) k m)) (at + (k + m + 22)) = record {
          parts = parts;
          after = omega (arith, length-append (take k (drop at c)) (32 ∷ (take m (drop (k + 1) (drop at c)) ++ 0 ∷ take 20 (drop (m + 1) (drop (k + 1) (drop at c))))), length-append (take m (drop (k + 1) (drop at c))) (0 ∷ take 20 (drop (m + 1) (drop (k + 1) (drop at c)))), id_len, mc.front, nc.front);
          within = omega (arith, l1, l2, room, mc.inside);
        } in
        let fits : IsTreeEntry (entry_made (drop at c) k m) = record {
          some_digit = omega (arith, mc.front, mc.some);
          few_digits = omega (arith, mc.front, mc.few);
          octal = some_octal (take k (drop at c)) mc.octal;
          some_name = omega (arith, nc.front, nc.some);
          no_zero = nc.no_zero;
          id = id_len;
        } in
        let P : TreeEntry × ℕ → Type 0 = λ y. Stands c at (tree_entry y.0) y.1 × IsTreeEntry y.0 in
        let whole : TreeEntry × ℕ = (entry_made (drop at c) k m, at + (k + m + 22)) in
        subst P (ok_is whole x f) (stands, fits)

    by : (o : Option ℕ) → mode_len (drop at c) ≡ o → entry_with (drop at c) at o ≡ Ok x → Stands c at (tree_entry x.0) x.1 × IsTreeEntry x.0
    by None p f = absurd cc
    by (Some k) p f = then k (mode_cut (drop at c) k p) (name_len (drop (k + 1) (drop at c))) refl f

mode_again : (mode tail : List ℕ) → 0 < length mode → length mode ≤ 7 → AllPass is_octal mode → mode_len (mode ++ 32 ∷ tail) ≡ Some (length mode)
unfolding mode_len
mode_again mode tail some few octal =
    let p = cut_again (λ b. not (is_octal b)) mode 32 tail (octal_again mode octal) refl in
    let at : get_or (mode ++ 32 ∷ tail) (length mode) 0 ≡ 32 = get_or_at mode 32 tail 0 (length mode) refl in
    let a : ltb 0 (length mode) ≡ true = lt-ltb _ _ some in
    let b : leb (length mode) 7 ≡ true = le-leb _ _ few in
    rw (p, a, b, at) refl

name_again : (name id back : List ℕ) → 0 < length name → AllPass (λ b. not (eqb b 0)) name → length id ≡ 20 → name_len (name ++ 0 ∷ (id ++ back)) ≡ Some (length name)
unfolding name_len
name_again name id back some no_zero len =
    let p = cut_again (λ b. eqb b 0) name 0 (id ++ back) no_zero refl in
    let a : ltb 0 (length name) ≡ true = lt-ltb _ _ some in
    let b : leb (length name + 21) (length (name ++ 0 ∷ (id ++ back))) ≡ true = le-leb _ _ (omega (arith, length-append name (0 ∷ (id ++ back)), length-append id back, len)) in
    rw (p, a, b) refl

entry_again : (c : List ℕ) (at : ℕ) (e : TreeEntry) (next : ℕ) → at ≤ length c → Stands c at (tree_entry e) next → IsTreeEntry e → entry_at c at ≡ Ok (e, next)
entry_again c at e next le s fits =
    let back : List ℕ = drop next c in
    let whole : drop at c ≡ e.mode ++ 32 ∷ (e.name ++ 0 ∷ (e.id ++ drop next c)) = s.parts ∙ simp append_assoc in
    let k : mode_len (drop at c) ≡ Some (length e.mode) = rw whole (mode_again e.mode (e.name ++ 0 ∷ (e.id ++ drop next c)) fits.some_digit fits.few_digits fits.octal) in
    let regroup : e.mode ++ 32 ∷ (e.name ++ 0 ∷ (e.id ++ drop next c)) ≡ (e.mode ++ 32 ∷ []) ++ (e.name ++ 0 ∷ (e.id ++ drop next c)) = simp append_assoc in
    let tail : drop (length e.mode + 1) (drop at c) ≡ e.name ++ 0 ∷ (e.id ++ drop next c) = ap (drop (length e.mode + 1)) (whole ∙ regroup) ∙ drop_at (e.mode ++ 32 ∷ []) (e.name ++ 0 ∷ (e.id ++ drop next c)) (length e.mode + 1) (length-append e.mode (32 ∷ [])) in
    let m : name_len (drop (length e.mode + 1) (drop at c)) ≡ Some (length e.name) = rw tail (name_again e.name e.id (drop next c) fits.some_name fits.no_zero fits.id) in
    let regroup2 : e.name ++ 0 ∷ (e.id ++ drop next c) ≡ (e.name ++ 0 ∷ []) ++ (e.id ++ drop next c) = simp append_assoc in
    let after : drop (length e.name + 1) (drop (length e.mode + 1) (drop at c)) ≡ e.id ++ drop next c = ap (drop (length e.name + 1)) (tail ∙ regroup2) ∙ drop_at (e.name ++ 0 ∷ []) (e.id ++ drop next c) (length e.name + 1) (length-append e.name (0 ∷ [])) in
    let mode : take (length e.mode) (drop at c) ≡ e.mode = ap (take (length e.mode)) whole ∙ take_at e.mode (32 ∷ (e.name ++ 0 ∷ (e.id ++ drop next c))) (length e.mode) refl in
    let name : take (length e.name) (drop (length e.mode + 1) (drop at c)) ≡ e.name = ap (take (length e.name)) tail ∙ take_at e.name (0 ∷ (e.id ++ drop next c)) (length e.name) refl in
    let id : take 20 (drop (length e.name + 1) (drop (length e.mode + 1) (drop at c))) ≡ e.id = ap (take 20) after ∙ take_at e.id (drop next c) 20 fits.id in
    let end : at + (length e.mode + length e.name + 22) ≡ next = omega (arith, s.after, fits.id, length-append e.mode (32 ∷ (e.name ++ 0 ∷ e.id)), length-append e.name (0 ∷ e.id)) in
    let made : entry_made (drop at c) (length e.mode) (length e.name) ≡ e = rw (mode, name, id) refl in
    let f : TreeEntry → ℕ → Result (TreeEntry × ℕ) ℕ = λ y n. Ok (y, n) in
    entry_is c at (length e.mode) (length e.name) k m ∙ ap (λ (y : TreeEntry). f y (at + (length e.mode + length e.name + 22))) made ∙ ap (f e) end

pub entry_field : (c : List ℕ) → IsField c (entry_at c) tree_entry IsTreeEntry
entry_field c = record { takes = λ _. entry_takes c; again = entry_again c }

-- an entry has some bytes
pub entry_some : (e : TreeEntry) → IsTreeEntry e → 0 < length (tree_entry e)
entry_some e f = let d = f.some_digit in omega (arith, length-append e.mode (32 ∷ (e.name ++ 0 ∷ e.id)))

-- where an entry stands there are more
pub entry_more : (c : List ℕ) (at : ℕ) (e : TreeEntry) (next : ℕ) → at ≤ length c → Stands c at (tree_entry e) next → IsTreeEntry e → more_entries c at ≡ true
entry_more c at e next le s f = lt-ltb _ _ (omega (arith, entry_some e f, s.after, s.within))

-- an entry that can't be read is the fault
pub entry_own : (c : List ℕ) (at e : ℕ) → entry_at c at ≡ Err e → e ≡ at
unfolding entry_at
entry_own c at e h = by (mode_len (drop at c)) h
  where
    then : (k : ℕ) (o : Option ℕ) → entry_by (drop at c) at k o ≡ Err e → e ≡ at
    then k None p = cc
    then k (Some m) p = absurd cc

    by : (o : Option ℕ) → entry_with (drop at c) at o ≡ Err e → e ≡ at
    by None p = cc
    by (Some k) p = then k (name_len (drop (k + 1) (drop at c))) p

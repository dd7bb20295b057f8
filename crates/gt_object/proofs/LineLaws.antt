-- A line that is read stands there, and one that stands there is read.
use Rattle.std.proofs.Common.{◌≡◌, ℕ, ◌+◌, ◌<◌, ◌≤◌, Bool, true, false, cond, eqb, leb, ◌&&◌, List, [], ◌∷◌, ◌++◌, length, take, drop, get_or, Option, Some, None, Result, Ok, Err, refl, sym, ap, subst, ◌∙◌, append_assoc, arith, length-append}
use Rattle.std.specs.Prelude.{codes, nat_eq}
use Rattle.std.specs.List.{starts_with}
use Rattle.std.proofs.lemmas.Bool.{le-leb, leb-true, eqb-true}
use Rattle.std.proofs.lemmas.Bool.Decides.{Decides-eqb}
use Rattle.std.proofs.lemmas.List.{get_or_at, take_at, drop_at, drop-drop, length-take, length-drop, take-append-drop, drop_more}
use Rattle.std.proofs.lemmas.Slice.Eq.{starts_is}
use Rattle.hex.specs.Hex.{decode_of, encode_lower, lower_digits}
use Rattle.hex.proofs.HexLemmas.{decode_of-ok, decode_of-same, decode_of-encode_lower, length-encode_with}
use Rattle.gt_name.specs.Digits.{bad_name}
use Rattle.gt_name.proofs.DigitsLemmas.{decode_of-good, bad_name-encode_lower}
use Rattle.gt_bytes.specs.Standing.{Stands, IsField}
use Rattle.gt_bytes.proofs.Steps.{ok_is}
use Rattle.gt_bytes.proofs.StandingLaws.{Stands-from}
use Rattle.gt_object.specs.Lines.{line, IsId, id_by, id_of, line_at, more_parents}
use Rattle.gt_object.proofs.TreeLaws.{both}

-- a test that held, before a step that did not fail
pub cond_ok : {A : Type 0} (b : Bool) (r : Result A ℕ) (d : ℕ) (y : A) → cond b r (Err d) ≡ Ok y → (b ≡ true) × (r ≡ Ok y)
cond_ok true r d y e = (refl, e)
cond_ok false r d y e = absurd cc

-- what begins with a text is the text and the rest
pub begins : (xs p : List ℕ) → starts_with nat_eq xs p ≡ true → xs ≡ p ++ drop (length p) xs
begins xs p h = (starts_is Decides-eqb xs p (starts_with nat_eq xs p) refl).0 h

-- a text and a rest begin with the text
pub begins_again : (xs p rest : List ℕ) → xs ≡ p ++ rest → starts_with nat_eq xs p ≡ true
begins_again xs p rest e = (starts_is Decides-eqb xs p (starts_with nat_eq xs p) refl).1 rest e

-- digits that are read
record IsRead (digits : List ℕ) (next : ℕ) (x : List ℕ × ℕ) : Type 0 where
  pub good : bad_name digits ≡ None
  pub decoded : decode_of digits ≡ Ok x.0
  pub after : next ≡ x.1

id_takes : (digits : List ℕ) (at next : ℕ) (x : List ℕ × ℕ) → id_of digits at next (bad_name digits) ≡ Ok x → IsRead digits next x
id_takes digits at next x e = by (bad_name digits) refl e
  where
    then : bad_name digits ≡ None → id_by at next (decode_of digits) ≡ Ok x → IsRead digits next x
    then none f =
        let good = decode_of-good digits none in
        let made : id_by at next (decode_of digits) ≡ Ok (good.0, next) = rw good.1 refl in
        let read : List ℕ × ℕ = (good.0, next) in
        let p : (good.0, next) ≡ x = ok_is read x (sym made ∙ f) in
        record { good = none; decoded = good.1 ∙ ap (λ (z : List ℕ × ℕ). Ok z.0) p; after = ap (λ (z : List ℕ × ℕ). z.1) p }

    by : (o : Option ℕ) → bad_name digits ≡ o → id_of digits at next o ≡ Ok x → IsRead digits next x
    by (Some bad) p f = absurd cc
    by None p f = then p f

line_takes : (word c : List ℕ) (at : ℕ) (x : List ℕ × ℕ) → at ≤ length c → line_at word c at ≡ Ok x → Stands c at (line word x.0) x.1 × IsId x.0
unfolding line_at
line_takes word c at x le e =
    let rest : List ℕ = drop at c in
    let digits : List ℕ = take 40 (drop (length word) (drop at c)) in
    let g = cond_ok ((starts_with nat_eq (drop at c) word && leb (length word + 41) (length (drop at c))) && eqb (get_or (drop at c) (length word + 40) 0) 10) (id_of (take 40 (drop (length word) (drop at c))) at (at + (length word + 41)) (bad_name (take 40 (drop (length word) (drop at c))))) at x e in
    let b = both (starts_with nat_eq (drop at c) word && leb (length word + 41) (length (drop at c))) (eqb (get_or (drop at c) (length word + 40) 0) 10) g.0 in
    let a = both (starts_with nat_eq (drop at c) word) (leb (length word + 41) (length (drop at c))) b.0 in
    let long : length word + 41 ≤ length (drop at c) = leb-true _ _ a.1 in
    let feed : get_or (drop at c) (length word + 40) 0 ≡ 10 = eqb-true _ _ b.1 in
    let r = id_takes (take 40 (drop (length word) (drop at c))) at (at + (length word + 41)) x g.1 in
    let good = decode_of-good (take 40 (drop (length word) (drop at c))) r.good in
    let same : x.0 ≡ good.0 = decode_of-same (take 40 (drop (length word) (drop at c))) x.0 good.0 r.decoded good.1 in
    let spelled : encode_lower x.0 ≡ take 40 (drop (length word) (drop at c)) = ap encode_lower same ∙ good.3 in
    let d = decode_of-ok (take 40 (drop (length word) (drop at c))) x.0 r.decoded in
    let forty : length (take 40 (drop (length word) (drop at c))) ≡ 40 = omega (arith, length-take 40 (drop (length word) (drop at c)), length-drop (length word) (drop at c), long) in
    let last : drop (length word + 40) (drop at c) ≡ 10 ∷ drop (at + (length word + 41)) c = drop_more (drop at c) (length word + 40) 0 (omega (arith, long)) ∙ ap (λ (z : ℕ). z ∷ drop (length word + 40 + 1) (drop at c)) feed ∙ ap (λ (z : List ℕ). 10 ∷ z) (drop-drop (length word + 40 + 1) at c ∙ ap (λ (j : ℕ). drop j c) (omega arith)) in
    let tail : drop (length word) (drop at c) ≡ encode_lower x.0 ++ 10 ∷ drop (at + (length word + 41)) c = sym (take-append-drop 40 (drop (length word) (drop at c))) ∙ ap (λ (z : List ℕ). z ++ drop 40 (drop (length word) (drop at c))) (sym spelled) ∙ ap (λ (z : List ℕ). encode_lower x.0 ++ z) (drop-drop 40 (length word) (drop at c) ∙ last) in
    let parts : drop at c ≡ line word x.0 ++ drop (at + (length word + 41)) c = begins (drop at c) word a.0 ∙ ap (λ (z : List ℕ). word ++ z) tail ∙ simp append_assoc in
    let len : length (line word x.0) ≡ length word + 41 = omega (arith, length-append word (encode_lower x.0 ++ 10 ∷ []), length-append (encode_lower x.0) (10 ∷ []), ap length spelled, forty) in
    let stands : Stands c at (line word x.0) (at + (length word + 41)) = record {
      parts = parts;
      after = omega (arith, len);
      within = omega (arith, long, length-drop at c);
    } in
    let P : ℕ → Type 0 = λ n. Stands c at (line word x.0) n in
    (subst P r.after stands, record { twenty = omega (arith, d.2, forty); bytes = d.3 })

line_again : (word c : List ℕ) (at : ℕ) (id : List ℕ) (next : ℕ) → at ≤ length c → Stands c at (line word id) next → IsId id → line_at word c at ≡ Ok (id, next)
unfolding line_at
line_again word c at id next le s fits =
    let text = length-encode_with lower_digits id in
    let forty : length (encode_lower id) ≡ 40 = omega (arith, text, fits.twenty) in
    let whole : drop at c ≡ word ++ (encode_lower id ++ 10 ∷ drop next c) = s.parts ∙ simp append_assoc in
    let starts : starts_with nat_eq (drop at c) word ≡ true = begins_again (drop at c) word (encode_lower id ++ 10 ∷ drop next c) whole in
    let size : length (drop at c) ≡ length word + (40 + (1 + length (drop next c))) = omega (arith, ap length whole, length-append word (encode_lower id ++ 10 ∷ drop next c), length-append (encode_lower id) (10 ∷ drop next c), forty) in
    let long : leb (length word + 41) (length (drop at c)) ≡ true = le-leb _ _ (omega (arith, size)) in
    let front : length (word ++ encode_lower id) ≡ length word + 40 = omega (arith, length-append word (encode_lower id), forty) in
    let regroup : drop at c ≡ (word ++ encode_lower id) ++ 10 ∷ drop next c = whole ∙ sym (append_assoc word (encode_lower id) (10 ∷ drop next c)) in
    let feed : get_or (drop at c) (length word + 40) 0 ≡ 10 = ap (λ (z : List ℕ). get_or z (length word + 40) 0) regroup ∙ get_or_at (word ++ encode_lower id) 10 (drop next c) 0 (length word + 40) front in
    let tail : drop (length word) (drop at c) ≡ encode_lower id ++ 10 ∷ drop next c = ap (drop (length word)) whole ∙ drop_at word (encode_lower id ++ 10 ∷ drop next c) (length word) refl in
    let digits : take 40 (drop (length word) (drop at c)) ≡ encode_lower id = ap (take 40) tail ∙ take_at (encode_lower id) (10 ∷ drop next c) 40 forty in
    let good = bad_name-encode_lower id fits.twenty fits.bytes in
    let decoded = decode_of-encode_lower id fits.bytes in
    let len : length (line word id) ≡ length word + 41 = omega (arith, length-append word (encode_lower id ++ 10 ∷ []), length-append (encode_lower id) (10 ∷ []), forty) in
    let after : at + (length word + 41) ≡ next = omega (arith, s.after, len) in
    rw (starts, long, feed, digits, good, decoded, after) refl

-- the line of a word
pub line_field : (word c : List ℕ) → IsField c (line_at word c) (line word) IsId
line_field word c = record { takes = λ _. line_takes word c; again = line_again word c }

-- a line has some bytes
pub line_some : (word id : List ℕ) → IsId id → 0 < length (line word id)
line_some word id fits = omega (arith, length-append word (encode_lower id ++ 10 ∷ []), length-append (encode_lower id) (10 ∷ []))

-- where a parent line stands there are more
pub line_more : (c : List ℕ) (at : ℕ) (id : List ℕ) (next : ℕ) → at ≤ length c → Stands c at (line (codes "parent ") id) next → IsId id → more_parents c at ≡ true
line_more c at id next le s fits = begins_again (drop at c) (codes "parent ") ((encode_lower id ++ 10 ∷ []) ++ drop next c) s.parts

-- a line that can't be read is the fault
pub line_own : (word c : List ℕ) (at e : ℕ) → line_at word c at ≡ Err e → e ≡ at
unfolding line_at
line_own word c at e h = by ((starts_with nat_eq (drop at c) word && leb (length word + 41) (length (drop at c))) && eqb (get_or (drop at c) (length word + 40) 0) 10) h
  where
    last : {E : Type 0} (next : ℕ) (r : Result (List ℕ) E) → id_by at next r ≡ Err e → e ≡ at
    last next (Ok id) p = absurd cc
    last next (Err d) p = cc

    then : (digits : List ℕ) (next : ℕ) (o : Option ℕ) → id_of digits at next o ≡ Err e → e ≡ at
    then digits next (Some bad) p = cc
    then digits next None p = last next (decode_of digits) p

    by : (b : Bool) → cond b (id_of (take 40 (drop (length word) (drop at c))) at (at + (length word + 41)) (bad_name (take 40 (drop (length word) (drop at c))))) (Err at) ≡ Err e → e ≡ at
    by true p = then (take 40 (drop (length word) (drop at c))) (at + (length word + 41)) (bad_name (take 40 (drop (length word) (drop at c)))) p
    by false p = cc

-- where no line can be read none stands
pub line_lacks : (word c : List ℕ) (at e : ℕ) → at ≤ length c → line_at word c at ≡ Err e → (id tail : List ℕ) → IsId id → drop at c ≡ line word id ++ tail → ⊥
line_lacks word c at e le h id tail fits is = let read = line_again word c at id (at + length (line word id)) le (Stands-from c at (line word id) tail le is) fits in cc

-- a line has a word and 41 bytes
pub length-line : (word id : List ℕ) → IsId id → length (line word id) ≡ length word + 41
length-line word id fits = omega (arith, length-append word (encode_lower id ++ 10 ∷ []), length-append (encode_lower id) (10 ∷ []), length-encode_with lower_digits id, fits.twenty)

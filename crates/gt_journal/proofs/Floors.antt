-- The entries past the floor of a log.
use Rattle.std.proofs.Common.{◌≡◌, ℕ, zero, suc, ◌+◌, ◌-◌, ◌≤◌, List, [], ◌∷◌, ◌++◌, length, take, drop, refl, sym, ◌∙◌, ap, subst, arith}
use Rattle.std.proofs.lemmas.List.{drop-append-le, length-take, take-append-drop}
use Rattle.gt_base.specs.Spelling.{AreSpelled}
use Rattle.gt_model.specs.declared.entry.Entry.{Entry}
use Rattle.gt_model.specs.Contents.{Content, after_all, IsLegal}
use Rattle.gt_model.proofs.Logs.{after_all-append, legal_rest}
use Rattle.gt_journal.specs.Ledger.{IsKept}
use Rattle.gt_journal.proofs.Part.{take_two}

-- ---- what is dropped

drop_nothing : (n : ℕ) → drop {A = Entry} n [] ≡ []
drop_nothing zero = refl
drop_nothing (suc n) = refl

pub drop_two : (a b : ℕ) (xs : List Entry) → drop b (drop a xs) ≡ drop (a + b) xs
drop_two zero b xs = ap (λ (n : ℕ). drop n xs) (let e : b ≡ 0 + b = omega arith in e)
drop_two (suc a) b [] = drop_nothing b ∙ sym (drop_nothing (suc a + b))
drop_two (suc a) b (x ∷ xs) = drop_two a b xs ∙ ap (λ (n : ℕ). drop n (x ∷ xs)) (let e : suc (a + b) ≡ suc a + b = omega arith in e)

-- what comes behind is kept
pub drop_more : (gone : ℕ) (log more : List Entry) → gone ≤ length log → drop gone (log ++ more) ≡ drop gone log ++ more
drop_more gone log more le = drop-append-le gone log more le

-- ---- what is left

-- the content behind a front, and then behind some entries past it
pub content_on : (c : Content) (gone count : ℕ) (log : List Entry) → after_all (after_all c (take gone log)) (take count (drop gone log)) ≡ after_all c (take (gone + count) log)
content_on c gone count log = sym (after_all-append c (take gone log) (take count (drop gone log))) ∙ ap (after_all c) (sym (take_two gone count log))

spelled_rest : (gone : ℕ) (log : List Entry) → AreSpelled log → AreSpelled (drop gone log)
spelled_rest zero log spelled = spelled
spelled_rest (suc gone) [] spelled = tt
spelled_rest (suc gone) (e ∷ log) spelled = spelled_rest gone log spelled.1

-- the rest of a legal log is legal behind what comes before it
pub kept_rest : (c : Content) (first gone : ℕ) (log : List Entry) → gone ≤ length log → IsKept c first log → IsKept (after_all c (take gone log)) (first + gone) (drop gone log)
kept_rest c first gone log le kept =
    let size : first + length (take gone log) ≡ first + gone = omega (arith, length-take gone log, le) in (
      subst (λ (p : ℕ). IsLegal (after_all c (take gone log)) p (drop gone log)) size (legal_rest c first (take gone log) (drop gone log) (subst (IsLegal c first) (sym (take-append-drop gone log)) kept.0)),
      spelled_rest gone log kept.1,
    )

-- Logs in two parts.
use Rattle.std.proofs.Common.{◌≡◌, ℕ, ◌+◌, List, [], ◌∷◌, ◌++◌, length, Option, Some, None, refl, sym, subst, arith, IsTrue, All}
use Rattle.std.proofs.lemmas.Bool.{and_parts}
use Rattle.std.proofs.lemmas.List.Elements.{All-weaker}
use Rattle.std.proofs.lemmas.List.Sums.{AllPass-from_list_all}
use Rattle.std.specs.Cmp.Lexicographic.{same_text}
use Rattle.gt_model.specs.declared.added.Added.{Added}
use Rattle.gt_model.specs.declared.change.Change.{Change}
use Rattle.gt_model.specs.declared.change.Change.TheVariants.{Write}
use Rattle.gt_model.specs.declared.entry.Entry.{Entry}
use Rattle.gt_model.specs.declared.update.RefUpdate.{RefUpdate}
use Rattle.gt_model.specs.Contents.{Content, after, after_all, value_or_zero, finds_old, change_fits, fits, IsLegal}
use Rattle.gt_model.specs.Machine.{with_doubt}

pub after_all-append : (c : Content) (one two : List Entry) → after_all c (one ++ two) ≡ after_all (after_all c one) two
after_all-append c [] two = refl
after_all-append c (e ∷ es) two = after_all-append (after c e) es two

pub legal_front : (c : Content) (p : ℕ) (one two : List Entry) → IsLegal c p (one ++ two) → IsLegal c p one
legal_front c p [] two legal = tt
legal_front c p (e ∷ es) two legal = (legal.0, legal.1, legal_front (after c e) (p + 1) es two legal.2)

pub legal_rest : (c : Content) (p : ℕ) (one two : List Entry) → IsLegal c p (one ++ two) → IsLegal (after_all c one) (p + length one) two
legal_rest c p [] two legal = subst (λ (n : ℕ). IsLegal c n two) (let e : p ≡ p + 0 = omega arith in e) legal
legal_rest c p (e ∷ es) two legal =
    subst (λ (n : ℕ). IsLegal (after_all (after c e) es) n two) (let is : p + 1 + length es ≡ p + length (e ∷ es) = omega arith in is) (legal_rest (after c e) (p + 1) es two legal.2)

pub legal_append : (c : Content) (p : ℕ) (log : List Entry) (e : Entry) → IsLegal c p log → e.position ≡ p + length log → IsTrue (fits (after_all c log) e) → IsLegal c p (log ++ e ∷ [])
legal_append c p [] e legal at fit = ((let is : e.position ≡ p = omega (arith, at) in is), fit, tt)
legal_append c p (x ∷ xs) e legal at fit = (legal.0, legal.1, legal_append (after c x) (p + 1) xs e legal.2 (omega (arith, at)) fit)

pub legal_without_doubt : (c : Content) (p : ℕ) (log : List Entry) (doubt : Option Entry) → IsLegal c p (with_doubt log doubt) → IsLegal c p log
legal_without_doubt c p log None legal = legal
legal_without_doubt c p log (Some e) legal = legal_front c p log (e ∷ []) legal

pub content-push : (c : Content) (log : List Entry) (e : Entry) → after_all c (log ++ e ∷ []) ≡ after (after_all c log) e
content-push c log e = after_all-append c log (e ∷ [])

-- the updates of a write that fits find their old values
write_finds_old : (c : Content) (path : List ℕ) (refs : List RefUpdate) (needed : List (List ℕ)) (added : List Added) → IsTrue (change_fits c path (Write refs needed added)) → All (λ u. value_or_zero c path u.name ≡ u.old) refs
write_finds_old c path refs needed added h =
    let front = (and_parts _ _ h).0 in
    All-weaker (λ u. IsTrue (finds_old c path u)) (λ u. value_or_zero c path u.name ≡ u.old) (λ u e. sym (same_text u.old (value_or_zero c path u.name) (sym e))) refs (AllPass-from_list_all (finds_old c path) refs (and_parts _ _ front).1)

pub legal-old_values : (c : Content) (p : ℕ) (one two : List Entry) (e : Entry) (refs : List RefUpdate) (needed : List (List ℕ)) (added : List Added) → e.change ≡ Write refs needed added → IsLegal c p (one ++ e ∷ two)
    → All (λ u. value_or_zero (after_all c one) e.path u.name ≡ u.old) refs
legal-old_values c p one two e refs needed added is legal =
    let fit : IsTrue (fits (after_all c one) e) = (legal_rest c p one (e ∷ two) legal).1 in
    write_finds_old (after_all c one) e.path refs needed added (subst (λ (change : Change). IsTrue (change_fits (after_all c one) e.path change)) is fit)

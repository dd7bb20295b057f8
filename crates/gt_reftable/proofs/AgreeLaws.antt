-- The references of a content after an entry, and of a table beside it.
use Rattle.std.proofs.Common.{◌≡◌, ℕ, ◌+◌, ◌-◌, ◌≤◌, ◌⊎◌, ⊎_elim, Bool, true, false, cond, ◌&&◌, is_some, IsTrue, List, [], ◌∷◌, ◌++◌, length, take, Option, Some, None, nat_le, inl, inr, refl, sym, ap, ◌∙◌, arith, length-append}
use Rattle.std.proofs.lemmas.Bool.Decides.{nat_tests}
use Rattle.std.proofs.lemmas.List.{take-append-le, take_all}
use Rattle.std.specs.Option.{option_map}
use Rattle.std.specs.Ordering.{eq_by_cmp}
use Rattle.std.specs.Cmp.Lexicographic.{nat_list_cmp_total}
use Rattle.std.specs.FinMap as map
use Rattle.std.specs.FinMap.{get-insert, get-remove, get-empty}
use Rattle.gt_model.specs.Contents.{key_cmp, Repo, Content, Names, after, after_all, at, changed, change_fits, fits, has_repo, value, and_then, with_refs, new_repo}
use Rattle.gt_model.specs.Verdicts.{refs_in}
use Rattle.gt_model.specs.declared.update.RefUpdate.{RefUpdate}
use Rattle.gt_model.specs.declared.entry.Entry.{Entry}
use Rattle.gt_model.specs.declared.change.Change.{Change}
use Rattle.gt_model.specs.declared.change.Change.TheVariants.{Create, Delete, Link, Write, Repack, Prune, PackRefs, Unlink}
use Rattle.gt_model.proofs.Repositories.{get-at_repo, get-alike}
use Rattle.gt_model.proofs.Logs.{after_all-append}
use Rattle.gt_reftable.specs.Table.{Table, refs_at, refs_change, refs_after, Adds, IsSameTable}
use Rattle.gt_reftable.specs.Agree.{Agrees}

abbrev refs_of : Option Repo → Names
refs_of o = elim o [ None ↦ map.empty | Some r ↦ r.refs ]

kept : (f : Repo → Repo) → ((r : Repo) → (f r).refs ≡ r.refs) → (b : Bool) (o : Option Repo) → refs_of (cond b (option_map f o) o) ≡ cond b (refs_of o) (refs_of o)
kept f h true None = refl
kept f h true (Some r) = h r
kept f h false o = refl

written : (us : List RefUpdate) (f : Repo → Repo) → ((r : Repo) → (f r).refs ≡ with_refs r.refs us) → (b : Bool) (o : Option Repo) → (b ≡ true → is_some o ≡ true) → refs_of (cond b (option_map f o) o) ≡ cond b (with_refs (refs_of o) us) (refs_of o)
written us f h true None there = let no = there refl in let bad : ⊥ = cc in absurd bad
written us f h true (Some r) there = h r
written us f h false o there = refl

created : (pool : Bool) (b : Bool) (o : Option Repo) → refs_of (cond b (Some (new_repo pool)) o) ≡ cond b map.empty (refs_of o)
created pool true o = refl
created pool false o = refl

deleted : (b : Bool) (o : Option Repo) → refs_of (cond b None o) ≡ cond b map.empty (refs_of o)
deleted true o = refl
deleted false o = refl

same : (b : Bool) (m : Names) → m ≡ cond b m m
same true m = refl
same false m = refl

first_holds : (a b : Bool) → IsTrue (a && b) → a ≡ true
first_holds true b h = refl
first_holds false b h = h

-- what fits is a write to a repository that is there
there : (c : Content) (p path : List ℕ) → has_repo c p ≡ true → eq_by_cmp key_cmp path p ≡ true → has_repo c path ≡ true
there c p path h t = ap is_some (get-alike c p path t) ∙ h

refs_in-changed : (c : Content) (p : List ℕ) (ch : Change) → IsTrue (change_fits c p ch) → (path : List ℕ) → refs_of (map.get (changed c p ch) path) ≡ cond (eq_by_cmp key_cmp path p) (refs_change ch (refs_of (map.get c path))) (refs_of (map.get c path))
unfolding changed
refs_in-changed c p (Create pool) fit path = ap refs_of (get-insert nat_list_cmp_total c p (new_repo pool) path) ∙ created pool (eq_by_cmp key_cmp path p) (map.get c path)
refs_in-changed c p Delete fit path = ap refs_of (get-remove nat_list_cmp_total c p path) ∙ deleted (eq_by_cmp key_cmp path p) (map.get c path)
refs_in-changed c p (Link pool) fit path = ap refs_of (get-at_repo c p _ path) ∙ kept _ (λ r. refl) (eq_by_cmp key_cmp path p) (map.get c path)
refs_in-changed c p (Write refs needed added) fit path = ap refs_of (get-at_repo c p _ path) ∙ written refs _ (λ r. refl) (eq_by_cmp key_cmp path p) (map.get c path) (there c p path (first_holds (has_repo c p) _ (first_holds _ _ fit)))
refs_in-changed c p (Repack file dropped) fit path = ap refs_of (get-at_repo c p _ path) ∙ kept _ (λ r. refl) (eq_by_cmp key_cmp path p) (map.get c path)
refs_in-changed c p (Prune file dropped) fit path = ap refs_of (get-at_repo c p _ path) ∙ kept _ (λ r. refl) (eq_by_cmp key_cmp path p) (map.get c path)
refs_in-changed c p (PackRefs file) fit path = same (eq_by_cmp key_cmp path p) (refs_of (map.get c path))
refs_in-changed c p (Unlink file) fit path = ap refs_of (get-at_repo c p _ path) ∙ kept _ (λ r. refl) (eq_by_cmp key_cmp path p) (map.get c path)

pub refs_in-after : (c : Content) (e : Entry) → IsTrue (fits c e) → (path : List ℕ) → refs_in (after c e) path ≡ refs_after e path (refs_in c path)
refs_in-after c e fit path = refs_in-changed c e.path e.change fit path

pub refs_in-value : (c : Content) (path name : List ℕ) → map.get (refs_in c path) name ≡ value c path name
refs_in-value c path name = by (map.get c path)
  where
    by : (o : Option Repo) → map.get (refs_of o) name ≡ and_then o (λ r. map.get r.refs name)
    by None = get-empty key_cmp name
    by (Some r) = refl

-- ---- the table beside the content

below_or_next : (p n : ℕ) → p ≤ n + 1 → (p ≤ n) ⊎ (p ≡ n + 1)
below_or_next p n l = by_test (nat_le p n) refl
  where
    by_test : (b : Bool) → nat_le p n ≡ b → (p ≤ n) ⊎ (p ≡ n + 1)
    by_test true t = let h : p ≤ n = grind (arith, nat_tests) in inl h
    by_test false t = let h : p ≡ n + 1 = grind (arith, nat_tests) in inr h

earlier_part : (f g p : ℕ) (log : List Entry) (e : Entry) → g ≡ f → p - f ≤ length log → take (p - f) log ≡ take (p - g) (log ++ e ∷ [])
earlier_part f g p log e s l = sym (ap (λ n. take (p - n) (log ++ e ∷ [])) s ∙ take-append-le (p - f) log (e ∷ []) l)

whole_part : (f g p : ℕ) (log : List Entry) (e : Entry) → g ≡ f → p ≡ f + length log + 1 → take (p - g) (log ++ e ∷ []) ≡ log ++ e ∷ []
whole_part f g p log e s l = take_all (p - g) (log ++ e ∷ []) (omega (arith, length-append log (e ∷ [])))

old_part : (f p : ℕ) (log : List Entry) → p ≡ f + length log → take (p - f) log ≡ log
old_part f p log l = take_all (p - f) log (omega arith)

pub agrees_more : (old new : Table) (base : Content) (log : List Entry) (e : Entry) → Agrees old base log → IsTrue (fits (after_all base log) e) → Adds e old new → Agrees new base (log ++ e ∷ [])
agrees_more old new base log e h fit a = record {
  front = let f : new.front ≡ old.front + 1 = a.front in let g : new.floor ≡ old.floor = a.floor in let i : old.front ≡ old.floor + length log = h.front in omega (arith, length-append log (e ∷ []));
  refs = λ p path low high.
      let f : new.front ≡ old.front + 1 = a.front in
      let g : new.floor ≡ old.floor = a.floor in
      let low1 : old.floor ≤ p = omega arith in
      ⊎_elim (λ (l : p ≤ old.front). first p path low1 l) (λ (l : p ≡ old.front + 1). second p path l) (below_or_next p old.front (omega arith));
}
  where
    first : (p : ℕ) (path : List ℕ) → old.floor ≤ p → p ≤ old.front → refs_at new p path ≡ refs_in (at new.floor base (log ++ e ∷ []) p) path
    first p path low l =
        let i : old.front ≡ old.floor + length log = h.front in
        a.earlier p path l ∙ h.refs p path low l ∙ ap (λ es. refs_in (after_all base es) path) (earlier_part old.floor new.floor p log e a.floor (omega arith))

    second : (p : ℕ) (path : List ℕ) → p ≡ old.front + 1 → refs_at new p path ≡ refs_in (at new.floor base (log ++ e ∷ []) p) path
    second p path l =
        let i : old.front ≡ old.floor + length log = h.front in
        ap (λ n. refs_at new n path) l
        ∙ a.next path
        ∙ ap (refs_after e path) (h.refs old.front path (omega arith) (omega arith) ∙ ap (λ es. refs_in (after_all base es) path) (old_part old.floor old.front log i))
        ∙ sym (refs_in-after (after_all base log) e fit path)
        ∙ sym (ap (λ c. refs_in c path) (after_all-append base log (e ∷ [])))
        ∙ sym (ap (λ es. refs_in (after_all base es) path) (whole_part old.floor new.floor p log e a.floor (omega arith)))

pub agrees_same : (old new : Table) (base : Content) (log : List Entry) → Agrees old base log → IsSameTable old new → Agrees new base log
agrees_same old new base log h s = record {
  front = s.front ∙ h.front ∙ ap (λ n. n + length log) (sym s.floor);
  refs = λ p path low high.
      let f : new.front ≡ old.front = s.front in
      let g : new.floor ≡ old.floor = s.floor in
      s.refs p path ∙ h.refs p path (omega arith) (omega arith) ∙ ap (λ n. refs_in (at n base log p) path) (sym g);
}

abbrev no_entry : List Entry
no_entry = []

nothing_of : (n : ℕ) → take n no_entry ≡ no_entry
nothing_of n = take_all n no_entry (let none : length no_entry ≡ 0 = refl in omega arith)

pub agrees_empty : (t : Table) (base : Content) → t.front ≡ t.floor → ((path : List ℕ) → refs_at t t.floor path ≡ refs_in base path) → Agrees t base []
agrees_empty t base start refs = record {
  front = omega (arith, start);
  refs = λ p path low high. let is : p ≡ t.floor = omega (arith, start) in ap (λ n. refs_at t n path) is ∙ refs path ∙ ap (λ es. refs_in (after_all base es) path) (sym (nothing_of (p - t.floor)));
}

-- at the front the whole log counts
pub agrees_front : (t : Table) (base : Content) (log : List Entry) → Agrees t base log → (path : List ℕ) → refs_at t t.front path ≡ refs_in (after_all base log) path
agrees_front t base log h path = let i : t.front ≡ t.floor + length log = h.front in h.refs t.front path (omega (arith, i)) (omega arith) ∙ ap (λ es. refs_in (after_all base es) path) (old_part t.floor t.front log i)

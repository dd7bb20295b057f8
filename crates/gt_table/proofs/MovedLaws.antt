-- Tables that follow a log still do where a record stands elsewhere, and from a higher floor on.
use Rattle.std.proofs.Common.{◌≡◌, ℕ, ◌-◌, ◌+◌, ◌≤◌, List, length, drop, sym, ap, ◌∙◌, subst, arith}
use Rattle.std.proofs.lemmas.List.{drop-drop}
use Rattle.gt_model.specs.declared.entry.Entry.{Entry}
use Rattle.gt_model.specs.Contents.{Content, at}
use Rattle.gt_objset.specs.Agree as objects
use Rattle.gt_reftable.specs.Agree as refs
use Rattle.gt_reftable.specs.Table as refs_table
use Rattle.gt_table.specs.Table.{Past, Tables, Follow, floor, front, content_at, entries_past}
use Rattle.gt_table.proofs.FollowLaws.{at_later, past_begin}

pub repointed : (old new : Tables) → Follow old → new.past ≡ old.past → new.gone ≡ old.gone → new.refs ≡ old.refs → new.objects.floor ≡ old.objects.floor
    → objects.Agrees new.objects (content_at old.past (floor old)) (entries_past old.past (floor old)) → Follow new
repointed old new h past gone refs_are objects_floor objects_agree =
    let at_floor : floor new ≡ floor old = ap (λ (p : Past). p.begin + new.gone) past ∙ ap (λ (n : ℕ). old.past.begin + n) gone in
    let content_is : content_at new.past (floor new) ≡ content_at old.past (floor old) = ap (λ (p : Past). content_at p (floor new)) past ∙ ap (content_at old.past) at_floor in
    let entries_are : entries_past new.past (floor new) ≡ entries_past old.past (floor old) = ap (λ (p : Past). entries_past p (floor new)) past ∙ ap (entries_past old.past) at_floor in
    let R : Content → List Entry → Type 0 = λ c log. refs.Agrees new.refs c log in
    let O : Content → List Entry → Type 0 = λ c log. objects.Agrees new.objects c log in
    let refs_agree : refs.Agrees new.refs (content_at old.past (floor old)) (entries_past old.past (floor old)) = subst (λ (t : refs_table.Table). refs.Agrees t (content_at old.past (floor old)) (entries_past old.past (floor old))) (sym refs_are) h.refs in
    record {
      within =
          let within : old.gone ≤ length old.past.log = h.within in
          let same : new.gone ≡ old.gone = gone in
          let long : length new.past.log ≡ length old.past.log = ap (λ (p : Past). length p.log) past in
          omega arith;
      refs_floor = ap (λ (t : refs_table.Table). t.floor) refs_are ∙ h.refs_floor ∙ sym at_floor;
      objects_floor = objects_floor ∙ h.objects_floor ∙ sym at_floor;
      refs = subst (R (content_at new.past (floor new))) (sym entries_are) (subst (λ (c : Content). R c (entries_past old.past (floor old))) (sym content_is) refs_agree);
      objects = subst (O (content_at new.past (floor new))) (sym entries_are) (subst (λ (c : Content). O c (entries_past old.past (floor old))) (sym content_is) objects_agree);
    }

-- the entries past a position past another one
pub rest_past : (p : Past) (from to : ℕ) → p.begin ≤ from → from ≤ to → drop (to - from) (entries_past p from) ≡ entries_past p to
rest_past p from to low high =
    let n : (from - p.begin) + (to - from) ≡ to - p.begin = omega arith in
    drop-drop (to - from) (from - p.begin) p.log ∙ ap (λ n. drop n p.log) n

pub raised : (old new : Tables) (to : ℕ) → Follow old → floor old ≤ to → to ≤ front old.past → new.past ≡ old.past → floor new ≡ to → new.refs.floor ≡ to → new.objects.floor ≡ to
    → refs.Agrees new.refs (at old.refs.floor (content_at old.past (floor old)) (entries_past old.past (floor old)) to) (drop (to - old.refs.floor) (entries_past old.past (floor old)))
    → objects.Agrees new.objects (at old.objects.floor (content_at old.past (floor old)) (entries_past old.past (floor old)) to) (drop (to - old.objects.floor) (entries_past old.past (floor old)))
    → Follow new
raised old new to h low high past at_floor refs_floor objects_floor refs_agree objects_agree =
    let R : Content → List Entry → Type 0 = λ c log. refs.Agrees new.refs c log in
    let O : Content → List Entry → Type 0 = λ c log. objects.Agrees new.objects c log in
    let c = content_at old.past (floor old) in
    let log = entries_past old.past (floor old) in
    let later : at (floor old) c log to ≡ content_at new.past (floor new) = at_later old.past (floor old) to (past_begin old) low ∙ sym (ap (λ (p : Past). content_at p (floor new)) past ∙ ap (content_at old.past) at_floor) in
    let rest : drop (to - floor old) log ≡ entries_past new.past (floor new) = rest_past old.past (floor old) to (past_begin old) low ∙ sym (ap (λ (p : Past). entries_past p (floor new)) past ∙ ap (entries_past old.past) at_floor) in
    record {
      within =
          let here : floor new ≡ to = at_floor in
          let most : to ≤ front old.past = high in
          let begins : new.past.begin ≡ old.past.begin = ap (λ (p : Past). p.begin) past in
          let long : length new.past.log ≡ length old.past.log = ap (λ (p : Past). length p.log) past in
          omega arith;
      refs_floor = refs_floor ∙ sym at_floor;
      objects_floor = objects_floor ∙ sym at_floor;
      refs = subst (R (content_at new.past (floor new))) rest (subst (λ (c : Content). R c (drop (to - floor old) log)) later (subst (λ (n : ℕ). R (at n c log to) (drop (to - n) log)) h.refs_floor refs_agree));
      objects = subst (O (content_at new.past (floor new))) rest (subst (λ (c : Content). O c (drop (to - floor old) log)) later (subst (λ (n : ℕ). O (at n c log to) (drop (to - n) log)) h.objects_floor objects_agree));
    }

-- What tables that follow a log over a base say of its content, and that they still do with one more entry.
use Rattle.std.proofs.Common.{◌≡◌, ℕ, Bool, ◌-◌, ◌+◌, ◌≤◌, List, [], ◌∷◌, ◌++◌, length, take, drop, Option, Result, Ok, Err, IfOk, sym, ap, ◌∙◌, subst, arith, length-append}
use Rattle.std.proofs.Math.Seq.{take-add}
use Rattle.std.proofs.lemmas.List.{take_all, take-append-drop, take-append-le, drop-append-le, length-drop}
use Rattle.gt_base.specs.Held.{places_of}
use Rattle.gt_model.specs.declared.entry.Entry.{Entry}
use Rattle.gt_model.specs.Contents.{Content, after_all, at, is_visible, least_member, has_repo}
use Rattle.gt_model.specs.Histories.{all_refs}
use Rattle.gt_model.specs.Verdicts.{refs_in}
use Rattle.gt_model.proofs.Logs.{after_all-append}
use Rattle.gt_model.specs.declared.reference.RefAt.{RefAt}
use Rattle.gt_objset.specs.Agree as objects
use Rattle.gt_objset.specs.Places.{seen, head_in, places_at}
use Rattle.gt_objset.specs.Table as objects_table
use Rattle.gt_objset.specs.declared.place.Place.{Place}
use Rattle.gt_reftable.specs.Agree as refs
use Rattle.gt_reftable.specs.Table as refs_table
use Rattle.gt_table.specs.Table.{Past, Tables, Follow, IsUnmoved, base, floor, front, content, content_at, entries_past, place_at}

-- the content at the position of the last entry is that of the whole log
pub at_front : (p : Past) → content_at p (front p) ≡ content p
at_front p = ap (after_all (base p)) (take_all (p.begin + length p.log - p.begin) p.log (omega arith))

-- a content past another one is what the entries between make of that
pub at_later : (p : Past) (from q : ℕ) → p.begin ≤ from → from ≤ q → at from (content_at p from) (entries_past p from) q ≡ content_at p q
at_later p from q low high =
    let n : q - p.begin ≡ (from - p.begin) + (q - from) = omega arith in
    sym (
    ap (λ n. after_all (base p) (take n p.log)) n
    ∙ ap (after_all (base p)) (take-add (from - p.begin) (q - from) p.log)
    ∙ after_all-append (base p) (take (from - p.begin) p.log) (take (q - from) (drop (from - p.begin) p.log)))

pub all_past : (p : Past) (from : ℕ) → after_all (content_at p from) (entries_past p from) ≡ content p
all_past p from =
    sym (after_all-append (base p) (take (from - p.begin) p.log) (drop (from - p.begin) p.log))
    ∙ ap (after_all (base p)) (take-append-drop (from - p.begin) p.log)

pub past_begin : (t : Tables) → t.past.begin ≤ floor t
past_begin t = omega arith

-- both tables have the positions from their floor to that of the last entry
pub front_of : (t : Tables) → Follow t → t.refs.front ≡ front t.past
front_of t h =
    let within : t.gone ≤ length t.past.log = h.within in
    let is : t.refs.front ≡ t.refs.floor + length (drop (floor t - t.past.begin) t.past.log) = h.refs.front in
    let from : t.refs.floor ≡ t.past.begin + t.gone = h.refs_floor in
    omega (arith, length-drop (floor t - t.past.begin) t.past.log)

pub objects_front : (t : Tables) → Follow t → t.objects.front ≡ front t.past
objects_front t h =
    let within : t.gone ≤ length t.past.log = h.within in
    let is : t.objects.front ≡ t.objects.floor + length (drop (floor t - t.past.begin) t.past.log) = h.objects.front in
    let from : t.objects.floor ≡ t.past.begin + t.gone = h.objects_floor in
    omega (arith, length-drop (floor t - t.past.begin) t.past.log)

-- so each of them is within both
pub in_refs : (t : Tables) (q : ℕ) → Follow t → floor t ≤ q → q ≤ front t.past → (t.refs.floor ≤ q) × (q ≤ t.refs.front)
in_refs t q h low high =
    let from : t.refs.floor ≡ floor t = h.refs_floor in
    let last : t.refs.front ≡ front t.past = front_of t h in
    (omega arith, omega arith)

pub in_objects : (t : Tables) (q : ℕ) → Follow t → floor t ≤ q → q ≤ front t.past → (t.objects.floor ≤ q) × (q ≤ t.objects.front)
in_objects t q h low high =
    let from : t.objects.floor ≡ floor t = h.objects_floor in
    let last : t.objects.front ≡ front t.past = objects_front t h in
    (omega arith, omega arith)

pub refs_there : (t : Tables) (q : ℕ) (path : List ℕ) → Follow t → floor t ≤ q → q ≤ front t.past → refs_table.refs_at t.refs q path ≡ refs_in (content_at t.past q) path
refs_there t q path h low high =
    let from : t.refs.floor ≡ floor t = h.refs_floor in
    let last : t.refs.front ≡ front t.past = front_of t h in
    h.refs.refs q path (omega arith) (omega arith) ∙ ap (λ (n : ℕ). refs_in (at n (content_at t.past (floor t)) (entries_past t.past (floor t)) q) path) h.refs_floor
    ∙ ap (λ (c : Content). refs_in c path) (at_later t.past (floor t) q (past_begin t) low)

-- what was said of the content at a position over the floor of the objects
pub there : (t : Tables) (q : ℕ) → Follow t → floor t ≤ q → at t.objects.floor (content_at t.past (floor t)) (entries_past t.past (floor t)) q ≡ content_at t.past q
there t q h low = ap (λ (n : ℕ). at n (content_at t.past (floor t)) (entries_past t.past (floor t)) q) h.objects_floor ∙ at_later t.past (floor t) q (past_begin t) low

-- the front is one of these positions
pub within_front : (t : Tables) → Follow t → floor t ≤ front t.past
within_front t h = let within : t.gone ≤ length t.past.log = h.within in omega arith

pub refs_here : (t : Tables) (q : ℕ) (path : List ℕ) → Follow t → q ≡ front t.past → refs_table.refs_at t.refs q path ≡ refs_in (content t.past) path
refs_here t q path h last =
    let low : floor t ≤ q = let within : floor t ≤ front t.past = within_front t h in omega arith in
    let high : q ≤ front t.past = omega arith in
    refs_there t q path h low high ∙ ap (λ (n : ℕ). refs_in (content_at t.past n) path) last ∙ ap (λ (c : Content). refs_in c path) (at_front t.past)

-- what was said of the content at the front over the floor of the objects
pub here : (t : Tables) (q : ℕ) → Follow t → q ≡ front t.past → at t.objects.floor (content_at t.past (floor t)) (entries_past t.past (floor t)) q ≡ content t.past
here t q h last =
    let low : floor t ≤ q = let within : floor t ≤ front t.past = within_front t h in omega arith in
    there t q h low ∙ ap (λ (n : ℕ). content_at t.past n) last ∙ at_front t.past

pub repo_here : (t : Tables) (b : Bool) (q : ℕ) (path : List ℕ) → Follow t → q ≡ front t.past → b ≡ has_repo (at t.objects.floor (content_at t.past (floor t)) (entries_past t.past (floor t)) q) path → b ≡ has_repo (content t.past) path
repo_here t b q path h last is = is ∙ ap (λ (c : Content). has_repo c path) (here t q h last)

pub member_here : (t : Tables) (o : Option (List ℕ)) (q : ℕ) (path : List ℕ) → Follow t → q ≡ front t.past → o ≡ least_member (at t.objects.floor (content_at t.past (floor t)) (entries_past t.past (floor t)) q) path → o ≡ least_member (content t.past) path
member_here t o q path h last is = is ∙ ap (λ (c : Content). least_member c path) (here t q h last)

pub visible_there : (t : Tables) (b : Bool) (q : ℕ) (path name : List ℕ) → Follow t → floor t ≤ q → b ≡ is_visible (at t.objects.floor (content_at t.past (floor t)) (entries_past t.past (floor t)) q) path name → b ≡ is_visible (content_at t.past q) path name
visible_there t b q path name h low is = is ∙ ap (λ (c : Content). is_visible c path name) (there t q h low)

-- memory has the whole log where nothing was moved
pub whole : (t : Tables) → Follow t → IsUnmoved t → objects.Agrees t.objects (base t.past) t.past.log
whole t h u =
    let none : t.gone ≡ 0 = u.whole in
    let no_gone : floor t - t.past.begin ≡ 0 = omega arith in
    let from : content_at t.past (floor t) ≡ base t.past = ap (λ (n : ℕ). after_all (base t.past) (take n t.past.log)) no_gone in
    let all : entries_past t.past (floor t) ≡ t.past.log = ap (λ (n : ℕ). drop n t.past.log) no_gone in
    let over_base : objects.Agrees t.objects (base t.past) (entries_past t.past (floor t)) = subst (λ (c : Content). objects.Agrees t.objects c (entries_past t.past (floor t))) from h.objects in
    subst (λ (log : List Entry). objects.Agrees t.objects (base t.past) log) all over_base

-- and each object where the log has it
pub unmoved_there : (t : Tables) (o : Option Place) (q : ℕ) (path name : List ℕ) → Follow t → IsUnmoved t
    → ((base : Content) (places : List ℕ → List ℕ → Option Place) (log : List Entry) → objects.Agrees t.objects base log → objects.ArePlacedBy t.objects base places log
    → o ≡ seen (head_in (at t.objects.floor base log q) path) (places_at t.objects.floor base places log q) path name)
    → o ≡ place_at t.past q path name
unmoved_there t o q path name h u said =
    let none : t.gone ≡ 0 = u.whole in
    let at_begin : floor t ≡ t.past.begin = omega arith in
    said (base t.past) (places_of t.past.repos) t.past.log (whole t h u) u.placed
    ∙ ap (λ (n : ℕ). seen (head_in (at n (base t.past) t.past.log q) path) (places_at n (base t.past) (places_of t.past.repos) t.past.log q) path name) (h.objects_floor ∙ at_begin)

pub all_here : {E : Type 0} (res : Result (List RefAt) E) (all : List RefAt) (p : Past) → IfOk res (λ l. l ≡ all) → all ≡ all_refs (content p) → IfOk res (λ l. l ≡ all_refs (content p))
all_here (Err e) all p h is = tt
all_here (Ok l) all p h is = h ∙ is

-- ---- one more entry

one_more : (t : Tables) (entry : Entry) → Follow t → entries_past (record t.past { log = t.past.log ++ entry ∷ [] }) (floor t) ≡ entries_past t.past (floor t) ++ entry ∷ []
one_more t entry h = let within : t.gone ≤ length t.past.log = h.within in let fits : floor t - t.past.begin ≤ length t.past.log = omega arith in drop-append-le (floor t - t.past.begin) t.past.log (entry ∷ []) fits

same_floor : (t : Tables) (entry : Entry) → Follow t → content_at (record t.past { log = t.past.log ++ entry ∷ [] }) (floor t) ≡ content_at t.past (floor t)
same_floor t entry h = let within : t.gone ≤ length t.past.log = h.within in let fits : floor t - t.past.begin ≤ length t.past.log = omega arith in ap (after_all (base t.past)) (take-append-le (floor t - t.past.begin) t.past.log (entry ∷ []) fits)

pub followed : (old new : Tables) (entry : Entry) → Follow old → refs_table.Adds entry old.refs new.refs → objects_table.Adds entry old.objects new.objects → new.past ≡ record old.past { log = old.past.log ++ entry ∷ [] } → new.gone ≡ old.gone
    → refs.Agrees new.refs (content_at old.past (floor old)) (entries_past old.past (floor old) ++ entry ∷ []) → objects.Agrees new.objects (content_at old.past (floor old)) (entries_past old.past (floor old) ++ entry ∷ []) → Follow new
followed old new entry h refs_add objects_add past gone refs_agree objects_agree =
    let longer : Past = record old.past { log = old.past.log ++ entry ∷ [] } in
    let at_floor : floor new ≡ floor old = ap (λ (p : Past). p.begin + new.gone) past ∙ ap (λ (n : ℕ). old.past.begin + n) gone in
    let content_is : content_at new.past (floor new) ≡ content_at old.past (floor old) = ap (λ (p : Past). content_at p (floor new)) past ∙ ap (content_at longer) at_floor ∙ same_floor old entry h in
    let entries_are : entries_past new.past (floor new) ≡ entries_past old.past (floor old) ++ entry ∷ [] = ap (λ (p : Past). entries_past p (floor new)) past ∙ ap (entries_past longer) at_floor ∙ one_more old entry h in
    let R : Content → List Entry → Type 0 = λ c log. refs.Agrees new.refs c log in
    let O : Content → List Entry → Type 0 = λ c log. objects.Agrees new.objects c log in
    record {
      within =
          let within : old.gone ≤ length old.past.log = h.within in
          let same : new.gone ≡ old.gone = gone in
          let long : length new.past.log ≡ length old.past.log + 1 = ap (λ (p : Past). length p.log) past ∙ length-append old.past.log (entry ∷ []) in
          omega arith;
      refs_floor = refs_add.floor ∙ h.refs_floor ∙ sym at_floor;
      objects_floor = objects_add.floor ∙ h.objects_floor ∙ sym at_floor;
      refs = subst (R (content_at new.past (floor new))) (sym entries_are) (subst (λ (c : Content). R c (entries_past old.past (floor old) ++ entry ∷ [])) (sym content_is) refs_agree);
      objects = subst (O (content_at new.past (floor new))) (sym entries_are) (subst (λ (c : Content). O c (entries_past old.past (floor old) ++ entry ∷ [])) (sym content_is) objects_agree);
    }

-- where nothing was moved, nothing is moved by one more entry
pub unmoved_more : (old new : Tables) (entry : Entry) → IsUnmoved old → new.past ≡ record old.past { log = old.past.log ++ entry ∷ [] } → new.gone ≡ old.gone
    → objects.ArePlacedBy new.objects (base old.past) (places_of old.past.repos) (old.past.log ++ entry ∷ []) → IsUnmoved new
unmoved_more old new entry u past gone placed = record {
  whole = gone ∙ u.whole;
  placed = subst (λ (p : Past). objects.ArePlacedBy new.objects (base p) (places_of p.repos) p.log) (sym past) placed;
}

pub still_placed : (old new : objects_table.Table) (b : Content) (places : List ℕ → List ℕ → Option Place) (log : List Entry) → objects.ArePlacedBy old b places log → objects_table.IsSameTable old new → objects.ArePlacedBy new b places log
still_placed old new b places log h same = record {
  placed = h.placed;
  own = λ p path x low high.
      let f : new.floor ≡ old.floor = same.floor in
      let g : new.front ≡ old.front = same.front in
      same.own p path x ∙ h.own p path x (omega arith) (omega arith) ∙ ap (λ (n : ℕ). places_at n b places log p path x) (sym same.floor);
}

-- The sessions of a script, before and after a line of one.
use Rattle.std.proofs.Common.{◌≡◌, ◌≢◌, ◌⊎◌, ℕ, zero, suc, ◌+◌, ◌-◌, ◌<◌, ◌≤◌, List, [], ◌∷◌, ◌++◌, length, map as map_list, drop, get_or, Option, Some, None, Result, slice_get, refl, sym, ap, ◌∙◌, subst, inl, inr, arith}
use Rattle.std.proofs.Math.ListN.{set}
use Rattle.std.proofs.lemmas.List.{length-set, length-map, drop_more, drop_all}
use Rattle.std.proofs.lemmas.Bool.{cases_eq}
use Rattle.std.proofs.lemmas.Option.{slice_get_within, slice_get_read, get_or_from_slice_get}
use Rattle.gt_model.specs.declared.done.Done.{Done}
use Rattle.gt_model.specs.declared.event.Event.{Event}
use Rattle.gt_model.specs.declared.refusal.Refusal.{Refusal}
use Rattle.gt_model.specs.declared.who.Who.{Who}
use Rattle.gt_script.specs.declared.form.Form.{Form}
use Rattle.gt_session.specs.Sessions.{Session, new_session, forgotten, pass_in}
use Rattle.gt_session.specs.Courses.{MapEvent, course}
use Rattle.gt_session.specs.Calls.{Does, GivesUp, IsHeld, LeavesOthers}
use Rattle.gt_session.specs.Together.{sessions_from, AreNumbered, Requests, GiveUp, AreHeld}

-- ---- one item of a list is replaced

get_set_same : {X : Type 0} (xs : List X) (n : ℕ) (x : X) → n < length xs → slice_get (set xs n x) n ≡ Some x
get_set_same [] n x within = absurd (omega arith)
get_set_same (y ∷ xs) zero x within = refl
get_set_same (y ∷ xs) (suc n) x within = get_set_same xs n x (omega arith)

get_set_other : {X : Type 0} (xs : List X) (n i : ℕ) (x : X) → i ≢ n → slice_get (set xs n x) i ≡ slice_get xs i
get_set_other [] n i x other = refl
get_set_other (y ∷ xs) zero zero x other = absurd (other refl)
get_set_other (y ∷ xs) zero (suc i) x other = refl
get_set_other (y ∷ xs) (suc n) zero x other = refl
get_set_other (y ∷ xs) (suc n) (suc i) x other = get_set_other xs n i x (λ same. other (ap suc same))

pub get_at : {X : Type 0} (xs : List X) (i : ℕ) (x : X) → i < length xs → x ≡ get_or xs i x → slice_get xs i ≡ Some x
get_at xs i x within is = slice_get_read xs (length xs) i x refl within is

-- What stands at an index is what was put there, or it stood there before.
get_set : {X : Type 0} (xs : List X) (n i : ℕ) (x y : X) → n < length xs → slice_get (set xs n x) i ≡ Some y → ((i ≡ n) × (x ≡ y)) ⊎ ((i ≢ n) × (slice_get xs i ≡ Some y))
get_set xs n i x y within at =
    elim (cases_eq i n) [
      | inl same ↦
          let there : Some x ≡ Some y = sym (ap (slice_get (set xs n x)) same ∙ get_set_same xs n x within) ∙ at in
          let e : x ≡ y = cc in
          inl (same, e)
      | inr other ↦ inr (other, sym (get_set_other xs n i x other) ∙ at)
    ]

-- ---- the sessions of a script that begins

pub sessions_push : (number count : ℕ) → sessions_from number count ++ new_session (number + count) ∷ [] ≡ sessions_from number (count + 1)
unfolding sessions_from
sessions_push number zero = let e : number + 0 ≡ number = omega arith in ap (λ (n : ℕ). new_session n ∷ []) e
sessions_push number (suc count) =
    let e : number + suc count ≡ (number + 1) + count = omega arith in
    let f : suc count + 1 ≡ suc (count + 1) = omega arith in
    ap (λ (n : ℕ). new_session number ∷ (sessions_from (number + 1) count ++ new_session n ∷ [])) e
    ∙ ap (λ (ss : List Session). new_session number ∷ ss) (sessions_push (number + 1) count)
    ∙ sym (ap (sessions_from number) f)

pub no_sessions : (ss : List Session) → ss ≡ [] → ss ≡ sessions_from 1 0
unfolding sessions_from
no_sessions ss e = e

-- one more session of those from 1 on
pub sessions_more : (ss news : List Session) (s : Session) (n : ℕ) → 1 ≤ n → ss ≡ sessions_from 1 (n - 1) → s ≡ new_session n → news ≡ ss ++ s ∷ [] → news ≡ sessions_from 1 ((n + 1) - 1)
sessions_more ss news s n least are is more =
    let e : 1 + (n - 1) ≡ n = omega arith in
    let f : (n - 1) + 1 ≡ (n + 1) - 1 = omega arith in
    more ∙ ap (λ (l : List Session). l ++ s ∷ []) are ∙ ap (λ (t : Session). sessions_from 1 (n - 1) ++ t ∷ []) (is ∙ ap new_session (sym e))
    ∙ sessions_push 1 (n - 1) ∙ ap (sessions_from 1) f

length_sessions : (number count : ℕ) → length (sessions_from number count) ≡ count
unfolding sessions_from
length_sessions number zero = refl
length_sessions number (suc count) = ap suc (length_sessions (number + 1) count)

pub session_at : (number count i : ℕ) (s : Session) → slice_get (sessions_from number count) i ≡ Some s → s ≡ new_session (number + i)
unfolding sessions_from
session_at number zero i s at = absurd cc
session_at number (suc count) zero s at =
    let e : number ≡ number + 0 = omega arith in
    let is : new_session number ≡ s = cc in
    sym is ∙ ap new_session e
session_at number (suc count) (suc i) s at =
    let e : (number + 1) + i ≡ number + suc i = omega arith in
    session_at (number + 1) count i s at ∙ ap new_session e

pub sessions_numbered : (ss : List Session) → ss ≡ sessions_from 1 128 → AreNumbered ss
sessions_numbered ss are = subst AreNumbered (sym are) (record {
  count = length_sessions 1 128;
  numbers = λ i s at. let e : 1 + i ≡ i + 1 = omega arith in ap (λ (t : Session). t.number) (session_at 1 128 i s at) ∙ e;
})

-- ---- sessions that have nothing open

hold_nothing : (ss : List Session) (live : ℕ → List ℕ) → ((i : ℕ) (s : Session) → slice_get ss i ≡ Some s → pass_in s ≡ None) → AreHeld ss live
hold_nothing ss live none = record {
  held = λ i s at. subst (λ (o : Option (ℕ × ℕ)). IsHeld o live) (sym (none i s at)) tt;
  apart = λ i j s t pass other at bt is also. let shut : pass_in s ≡ None = none i s at in absurd cc;
}

pub new_hold_nothing : (live : ℕ → List ℕ) → AreHeld (sessions_from 1 128) live
new_hold_nothing live = hold_nothing (sessions_from 1 128) live (λ i s at. ap (λ (t : Session). pass_in t) (session_at 1 128 i s at))

-- what was forgotten at an index
forgotten_from : (ss : List Session) (i : ℕ) (s : Session) → slice_get (map_list forgotten ss) i ≡ Some s → (t : Session) × (slice_get ss i ≡ Some t) × (s ≡ forgotten t)
forgotten_from [] i s at = absurd cc
forgotten_from (x ∷ ss) zero s at = let is : forgotten x ≡ s = cc in (x, refl, sym is)
forgotten_from (x ∷ ss) (suc i) s at = forgotten_from ss i s at

pub numbered_forgotten : (ss news : List Session) → AreNumbered ss → news ≡ map_list forgotten ss → AreNumbered news
numbered_forgotten ss news are e = subst AreNumbered (sym e) (record {
  count = length-map ss forgotten ∙ are.count;
  numbers = λ i s at. let f = forgotten_from ss i s at in ap (λ (t : Session). t.number) f.2 ∙ are.numbers i f.0 f.1;
})

pub forgotten_hold_nothing : (ss : List Session) (live : ℕ → List ℕ) → AreHeld (map_list forgotten ss) live
forgotten_hold_nothing ss live = hold_nothing (map_list forgotten ss) live (λ i s at. ap (λ (t : Session). pass_in t) (forgotten_from ss i s at).2)

-- ---- a session changes

pub numbered_set : (ss : List Session) (n : ℕ) (before after : Session) → AreNumbered ss → slice_get ss n ≡ Some before → after.number ≡ before.number → AreNumbered (set ss n after)
numbered_set ss n before after are at same = record {
  count = length-set ss n after ∙ are.count;
  numbers = λ i s is.
      elim (get_set ss n i after s (slice_get_within ss n before at) is) [
        | inl here ↦ ap (λ (t : Session). t.number) (sym here.1) ∙ same ∙ are.numbers n before at ∙ ap (λ (m : ℕ). m + 1) (sym here.0)
        | inr other ↦ are.numbers i s other.1
      ];
}

module _ (ss : List Session) (n : ℕ) (before after : Session) (old new : ℕ → List ℕ) (are : AreHeld ss old) (at : slice_get ss n ≡ Some before) (leaves : LeavesOthers (pass_in before) (pass_in after) old new) where
  -- what another session has open stays live
  other_held : (i : ℕ) (s : Session) (pass : Option (ℕ × ℕ)) → pass_in s ≡ pass → i ≢ n → slice_get ss i ≡ Some s → IsHeld pass old → IsHeld pass new
  other_held i s None e other is h = tt
  other_held i s (Some m) e other is h = leaves.others m.0 m.1 h (λ same. are.apart i n s before m other is at e same)

  -- and it isn't what this one has open
  other_apart : (i : ℕ) (s : Session) (m : ℕ × ℕ) → i ≢ n → slice_get ss i ≡ Some s → pass_in s ≡ Some m → pass_in after ≡ Some m → ⊥
  other_apart i s m other is e now =
      elim (leaves.fresh m.0 m.1 now) [
        | inl held ↦ are.apart i n s before m other is at e held
        | inr free ↦ free (subst (λ (o : Option (ℕ × ℕ)). IsHeld o old) e (are.held i s is))
      ]

  within : n < length ss
  within = slice_get_within ss n before at

  held_at : (i : ℕ) (s : Session) → slice_get (set ss n after) i ≡ Some s → IsHeld (pass_in s) new
  held_at i s is =
      elim (get_set ss n i after s within is) [
        | inl here ↦ subst (λ (t : Session). IsHeld (pass_in t) new) here.1 leaves.own
        | inr other ↦ other_held i s (pass_in s) refl other.0 other.1 (are.held i s other.1)
      ]

  apart_at : (i j : ℕ) (s t : Session) (m : ℕ × ℕ) → i ≢ j → slice_get (set ss n after) i ≡ Some s → slice_get (set ss n after) j ≡ Some t → pass_in s ≡ Some m → pass_in t ≡ Some m → ⊥
  apart_at i j s t m differ is jt si tj =
      elim (get_set ss n i after s within is) [
        | inl here ↦
            elim (get_set ss n j after t within jt) [
              | inl there ↦ differ (here.0 ∙ sym there.0)
              | inr other ↦ other_apart j t m other.0 other.1 tj (ap (λ (x : Session). pass_in x) here.1 ∙ si)
            ]
        | inr other ↦
            elim (get_set ss n j after t within jt) [
              | inl there ↦ other_apart i s m other.0 other.1 si (ap (λ (x : Session). pass_in x) there.1 ∙ tj)
              | inr too ↦ are.apart i j s t m differ other.1 too.1 si tj
            ]
      ]

  pub held_set : AreHeld (set ss n after) new
  held_set = record { held = held_at; apart = apart_at }

-- ---- a line of a session

-- the session at the index before this number does the line under the number
pub requested :
    {P : Type 0} (Did : ℕ → Who → Event → Result Done Refusal → Option ℕ → P → P → Type 0) (Mapped : Who → List ℕ → MapEvent → Result (Option ℕ) Refusal → P → P → Type 0) (line session : ℕ) (form : Form) (answer : Result Done Refusal) (olds news : List Session) (before after : Session) (old new : P)
    → AreNumbered olds → 1 ≤ session → slice_get olds (session - 1) ≡ Some before → news ≡ set olds (session - 1) after
    → Does Did Mapped (record { session = before.number; line = line }) before (course before form) (answer, after) old new
    → Requests Did Mapped line session form answer olds news old new
requested Did Mapped line session form answer olds news before after old new are least at is does =
    let e : (session - 1) + 1 ≡ session = omega arith in
    let same : before.number ≡ session = are.numbers (session - 1) before at ∙ e in
    record {
      before = before;
      here = at;
      after = after;
      there = is;
      does = subst (λ (n : ℕ). Does Did Mapped (record { session = n; line = line }) before (course before form) (answer, after) old new) same does;
    }

-- ---- the first sessions are forgotten

abbrev pub forgotten_to : ℕ → List Session → List Session
forgotten_to zero ss = ss
forgotten_to (suc n) [] = []
forgotten_to (suc n) (s ∷ ss) = forgotten s ∷ forgotten_to n ss

pub length_forgotten : (n : ℕ) (ss : List Session) → length (forgotten_to n ss) ≡ length ss
length_forgotten zero ss = refl
length_forgotten (suc n) [] = refl
length_forgotten (suc n) (s ∷ ss) = ap suc (length_forgotten n ss)

pub forgotten_here : (n : ℕ) (ss : List Session) → slice_get (forgotten_to n ss) n ≡ slice_get ss n
forgotten_here zero ss = refl
forgotten_here (suc n) [] = refl
forgotten_here (suc n) (s ∷ ss) = forgotten_here n ss

forgotten_more : (n : ℕ) (ss : List Session) (s : Session) → slice_get ss n ≡ Some s → set (forgotten_to n ss) n (forgotten s) ≡ forgotten_to (n + 1) ss
forgotten_more n [] s at = absurd cc
forgotten_more zero (x ∷ ss) s at = let is : x ≡ s = cc in ap (λ (t : Session). forgotten t ∷ ss) (sym is)
forgotten_more (suc n) (x ∷ ss) s at =
    let e : suc (n + 1) ≡ suc n + 1 = omega arith in
    ap (λ (l : List Session). forgotten x ∷ l) (forgotten_more n ss s at) ∙ ap (λ (m : ℕ). forgotten_to m (x ∷ ss)) e

pub forgotten_all : (n : ℕ) (ss : List Session) → length ss ≤ n → forgotten_to n ss ≡ map_list forgotten ss
forgotten_all zero [] past = refl
forgotten_all zero (s ∷ ss) past = absurd (omega arith)
forgotten_all (suc n) [] past = refl
forgotten_all (suc n) (s ∷ ss) past = ap (λ (l : List Session). forgotten s ∷ l) (forgotten_all n ss (omega arith))

pub forgotten_step : (n : ℕ) (ss now news : List Session) (s after : Session) → now ≡ forgotten_to n ss → slice_get now n ≡ Some s → after ≡ forgotten s → news ≡ set now n after → news ≡ forgotten_to (n + 1) ss
forgotten_step n ss now news s after are at is put =
    let before : slice_get ss n ≡ Some s = sym (ap (λ (l : List Session). slice_get l n) are ∙ forgotten_here n ss) ∙ at in
    put ∙ ap (λ (l : List Session). set l n after) are ∙ ap (set (forgotten_to n ss) n) is ∙ forgotten_more n ss s before

-- ---- the first sessions have given up

module _ {P : Type 0} (Did : ℕ → Who → Event → Result Done Refusal → Option ℕ → P → P → Type 0) (start : P) (ss : List Session) where
  -- When those from this index on have given up as well, all have.
  abbrev pub GaveUpTo : ℕ → P → Type 0
  GaveUpTo n now = (end' : P) → GiveUp Did (drop n ss) now end' → GiveUp Did ss start end'

  pub gave_up_more : (n : ℕ) (s : Session) (now next : P) → slice_get ss n ≡ Some s → GivesUp Did (record { session = s.number; line = 0 }) s.open now next → GaveUpTo n now → GaveUpTo (n + 1) next
  gave_up_more n s now next at gives so end' rest =
      let first : drop n ss ≡ s ∷ drop (n + 1) ss = drop_more ss n s (slice_get_within ss n s at) ∙ ap (λ (t : Session). t ∷ drop (n + 1) ss) (get_or_from_slice_get ss n s s at) in
      so end' (subst (λ (l : List Session). GiveUp Did l now end') (sym first) (next, gives, rest))

  pub gave_up_all : (n : ℕ) (now : P) → length ss ≤ n → GaveUpTo n now → GiveUp Did ss start now
  gave_up_all n now past so = so now (subst (λ (l : List Session). GiveUp Did l now now) (sym (drop_all n ss past)) refl)

-- The partition's live transactions, as the passes of sessions.
use Rattle.std.proofs.Common.{◌≡◌, inl, inr, ℕ, zero, suc, ◌<◌, Bool, true, false, cond, not, ◌||◌, nat_eq, nat_lt, IfSome, List, [], ◌∷◌, ◌++◌, map, length, get_or, Option, Some, None, Result, Ok, Err, refl, sym, ap, ◌∙◌, subst, arith}
use Rattle.std.specs.Prelude.{nat_le}
use Rattle.std.specs.List.{IsAmong}
use Rattle.std.specs.Option.{option_map}
use Rattle.std.proofs.lemmas.Bool.Decides.{nat_tests}
use Rattle.std.proofs.lemmas.List.{map-append}
use Rattle.gt_model.specs.declared.done.Done.{Done}
use Rattle.gt_model.specs.declared.done.Done.TheVariants.{Begun}
use Rattle.gt_model.specs.declared.event.Event.TheVariants.{Begin}
use Rattle.gt_model.specs.declared.limits.Limits.{Limits}
use Rattle.gt_model.specs.declared.refusal.Refusal.{Refusal}
use Rattle.gt_model.specs.declared.refusal.Refusal.TheVariants.{Behind, PinsFull, NoRepository}
use Rattle.gt_model.specs.Contents.{has_repo}
use Rattle.gt_model.specs.Machine.{Pin, State, Effect, Step, Acts, Ends, Fails, SettledEntry, effect, reading, answers, refuses, first_refusal, front, content, free_number, is_live, released}
use Rattle.gt_act.specs.Live.{GivesPin, Ended, EndsBy}
use Rattle.gt_part.specs.Shown.{Shown, memory}
use Rattle.gt_pins.specs.Ends.{ends}
use Rattle.gt_pins.proofs.Numbers.{free_number_free}
use Rattle.gt_session.specs.Calls.{without, with_live, ended, GivesPass}
use Rattle.gt_prog.specs.One.{in_one}
use Rattle.gt_prog.proofs.One.{one_with, one_at, one_held}

abbrev pub numbers : List Pin → List ℕ
numbers pins = map (λ p. p.number) pins

-- ---- what is live

not_same : (k n : ℕ) → n ≡ k → nat_eq k n ≡ false → ⊥
not_same k n same test = grind (arith, nat_tests)

-- a number that is among these is live
pub among_live : (pins : List Pin) (n : ℕ) → IsAmong (numbers pins) n → is_live pins n ≡ true
among_live [] n h = absurd (omega (arith, h.1.0))
among_live (p ∷ ps) n h = by (λ more. among_live ps n more) h.0 h.1.0 h.1.1 (nat_eq p.number n) refl
  where
    by : (IsAmong (numbers ps) n → is_live ps n ≡ true) → (i : ℕ) → i < length (numbers (p ∷ ps)) → n ≡ get_or (numbers (p ∷ ps)) i n → (b : Bool) → nat_eq p.number n ≡ b → (b || is_live ps n) ≡ true
    by rest i lt is true test = refl
    by rest zero lt is false test = absurd (not_same p.number n is test)
    by rest (suc i) lt is false test = rest (i, (omega (arith, lt), is))

pub is_free : (pins : List Pin) → IsAmong (numbers pins) (free_number pins) → ⊥
is_free pins among = absurd (cc (among_live pins (free_number pins) among, free_number_free pins))

pub released_numbers : (pins : List Pin) (n : ℕ) → numbers (released pins n) ≡ without (numbers pins) n
released_numbers [] n = refl
released_numbers (p ∷ ps) n = by (released_numbers ps n) (nat_eq p.number n)
  where
    by : numbers (released ps n) ≡ without (numbers ps) n → (b : Bool) → numbers (cond (not b) (p ∷ released ps n) (released ps n)) ≡ cond (not b) (p.number ∷ without (numbers ps) n) (without (numbers ps) n)
    by rest true = rest
    by rest false = ap (λ (l : List ℕ). p.number ∷ l) rest

pub same_numbers : (old new : List Pin) → new ≡ old → numbers new ≡ numbers old
same_numbers old new same = ap numbers same

pub gone_numbers : (old new : List Pin) (n : ℕ) → new ≡ released old n → numbers new ≡ without (numbers old) n
gone_numbers old new n same = ap numbers same ∙ released_numbers old n

-- ---- a transaction that begins

-- what an answer leaves of the live transactions, where a transaction begins
abbrev Begins : List Pin → Result Done Refusal → List Pin → Type 0
Begins old (Ok done) new = numbers new ≡ numbers old ++ free_number old ∷ []
Begins old (Err refusal) new = new ≡ old

refused_pins : (pins : List Pin) (rs : List (Bool × Refusal)) (effect : Effect) (s : State) (a : Result Done Refusal) (new : State) → pins ≡ s.pins → (Ends effect s a new → Begins s.pins a new.pins) → Ends (first_refusal pins rs effect) s a new → Begins s.pins a new.pins
refused_pins pins [] effect s a new same ok h = ok h
refused_pins pins (r ∷ rs) effect s a new same ok h = by (λ e. refused_pins pins rs effect s a new same ok e) r.0 h
  where
    by : (Ends (first_refusal pins rs effect) s a new → Begins s.pins a new.pins) → (b : Bool) → Ends (cond b (refuses r.1 pins) (first_refusal pins rs effect)) s a new → Begins s.pins a new.pins
    by rest true e = subst (λ (x : Result Done Refusal). Begins s.pins x new.pins) (sym e.0) (ap (λ (t : State). t.pins) e.1 ∙ same)
    by rest false e = rest e

abbrev causes : Limits → State → List ℕ → ℕ → List (Bool × Refusal)
causes limits s path seen = (nat_lt (front s) seen, Behind seen (front s)) ∷ (nat_le limits.pins (length s.pins), PinsFull) ∷ (not (has_repo (content s) path), NoRepository) ∷ []

never_fails : (limits : Limits) (path : List ℕ) (seen : ℕ) (s new : State) (after : List Pin) (rs : List (Bool × Refusal)) → Fails (Begin path seen) (first_refusal s.pins rs (answers (Begun (front s)) after)) s new → ⊥
never_fails limits path seen s new after [] (object, same) = absurd (cc object)
never_fails limits path seen s new after (r ∷ rs) fails = by (λ f. never_fails limits path seen s new after rs f) r.0 fails
  where
    by : (Fails (Begin path seen) (first_refusal s.pins rs (answers (Begun (front s)) after)) s new → ⊥) → (b : Bool) → Fails (Begin path seen) (cond b (refuses r.1 s.pins) (first_refusal s.pins rs (answers (Begun (front s)) after))) s new → ⊥
    by rest true f = f
    by rest false f = rest f

begun_pins : (limits : Limits) (s : State) (path : List ℕ) (seen : ℕ) (a : Result Done Refusal) (new : State) → Acts limits s (Begin path seen) a new → Begins s.pins a new.pins
begun_pins limits s path seen a new (inr (inl (said, fails))) = absurd (never_fails limits path seen s new (s.pins ++ reading (free_number s.pins) (front s) path ∷ []) (causes limits s path seen) fails)
begun_pins limits s path seen a new (inr (inr (said, same))) = subst (λ (x : Result Done Refusal). Begins s.pins x new.pins) (sym said) (ap (λ (t : State). t.pins) same)
begun_pins limits s path seen a new (inl h) =
    let begun : Pin = reading (free_number s.pins) (front s) path in
    refused_pins s.pins (causes limits s path seen) (answers (Begun (front s)) (s.pins ++ begun ∷ [])) s a new refl
    (λ e. subst (λ (x : Result Done Refusal). Begins s.pins x new.pins) (sym e.0) (ap (λ (t : State). numbers t.pins) e.1 ∙ map-append (λ (p : Pin). p.number) s.pins (begun ∷ [])))
    h

begins : (limits : Limits) (s : State) (path : List ℕ) (seen : ℕ) (a : Result Done Refusal) (new : State) → Step limits s (Begin path seen) a new → Begins s.pins a new.pins
begins limits s path seen a new (asked, inl (mid, (entry, one, two), acts)) =
    let same : mid.pins ≡ s.pins = ap (λ (t : State). t.pins) two ∙ entry_pins one in
    subst (λ (pins : List Pin). Begins pins a new.pins) same (begun_pins limits mid path seen a new acts)
  where
    entry_pins : SettledEntry true s entry → entry.pins ≡ s.pins
    entry_pins (inl is) = ap (λ (t : State). t.pins) is
    entry_pins (inr is) = ap (λ (t : State). t.pins) is
begins limits s path seen a new (asked, inr (inl (said, inl (doubt, same)))) = subst (λ (x : Result Done Refusal). Begins s.pins x new.pins) (sym said) (ap (λ (t : State). t.pins) same)
begins limits s path seen a new (asked, inr (inl (said, inr (never, one)))) = absurd (cc never)
begins limits s path seen a new (asked, inr (inr (said, same))) = subst (λ (x : Result Done Refusal). Begins s.pins x new.pins) (sym said) (ap (λ (t : State). t.pins) same)

-- the one partition has one more that is live
begun_live : (partition number : ℕ) (old new : List Pin) → partition ≡ 1 → numbers new ≡ numbers old ++ number ∷ [] → in_one (numbers new) ≡ with_live (in_one (numbers old)) partition (in_one (numbers old) partition ++ number ∷ [])
begun_live partition number old new first live =
    let here : numbers new ≡ in_one (numbers old) partition ++ number ∷ [] = live ∙ ap (λ (l : List ℕ). l ++ number ∷ []) (sym (one_at (numbers old) partition first)) in
    one_with (numbers old) (numbers new) partition first ∙ ap (with_live (in_one (numbers old)) partition) here

pub begun_pass : (limits : Limits) (s : State) (path : List ℕ) (seen : ℕ) (a : Result Done Refusal) (new : State) (pass : Option ℕ) (partition : ℕ) → partition ≡ 1 → Step limits s (Begin path seen) a new → GivesPin a pass (free_number s.pins)
    → GivesPass a (option_map (λ n. n) pass) partition (in_one (numbers s.pins)) (in_one (numbers new.pins))
begun_pass limits s path seen a new pass partition first step gives = by a gives (begins limits s path seen a new step)
  where
    by : (x : Result Done Refusal) → GivesPin x pass (free_number s.pins) → Begins s.pins x new.pins → GivesPass x (option_map (λ n. n) pass) partition (in_one (numbers s.pins)) (in_one (numbers new.pins))
    by (Ok d) given live = record {
      number = free_number s.pins;
      given = ap (option_map (λ n. n)) given;
      free = λ among. is_free s.pins (one_held (numbers s.pins) partition (free_number s.pins) among).1;
      live = begun_live partition (free_number s.pins) s.pins new.pins first live;
    }
    by (Err refusal) none live = record { none = ap (option_map (λ n. n)) none; live = ap (λ (pins : List Pin). in_one (numbers pins)) live }

-- ---- one that ends

gone_live : (partition n : ℕ) (old new : List Pin) → partition ≡ 1 → new ≡ released old n → in_one (numbers new) ≡ ended (in_one (numbers old)) partition n
gone_live partition n old new first same =
    let here : numbers new ≡ without (in_one (numbers old) partition) n = gone_numbers old new n same ∙ ap (λ (l : List ℕ). without l n) (sym (one_at (numbers old) partition first)) in
    one_with (numbers old) (numbers new) partition first ∙ ap (with_live (in_one (numbers old)) partition) here

-- ---- a commit

module _ (a : Result Done Refusal) (partition : ℕ) (before pass : Option ℕ) (old new : List Pin) (first : partition ≡ 1) (by_part : IfSome before (λ n. EndsBy a n pass old new)) (some : before ≡ None → ⊥) where
  abbrev Splits : Bool → Option ℕ → Type 0
  Splits b (Some n) = Ended b n pass old new
  Splits b None = ⊥

  splits : (b : Bool) → ends a ≡ b → Splits b before
  splits b is = at before by_part some
    where
      at : (o : Option ℕ) → IfSome o (λ n. EndsBy a n pass old new) → (o ≡ None → ⊥) → Splits b o
      at None h none = none refl
      at (Some n) h none = subst (λ (x : Bool). Ended x n pass old new) is h

  pub pass_ended : ends a ≡ true → (pass ≡ None) × IfSome before (λ n. in_one (numbers new) ≡ ended (in_one (numbers old)) partition n)
  pass_ended is = at before (splits true is)
    where
      at : (o : Option ℕ) → Splits true o → (pass ≡ None) × IfSome o (λ n. in_one (numbers new) ≡ ended (in_one (numbers old)) partition n)
      at None h = absurd h
      at (Some n) h = (h.0, gone_live partition n old new first h.1)

-- ---- the partition inside, which is seen as this one

-- what is held is in the one partition
pub held_first : (partition n : ℕ) (pins : List Pin) → IsAmong (in_one (numbers pins) partition) n → partition ≡ 1
held_first partition n pins among = (one_held (numbers pins) partition n among).0

pub some_first : (partition : ℕ) (pass : Option ℕ) (pins : List Pin) → IfSome pass (λ n. IsAmong (in_one (numbers pins) partition) n) → (pass ≡ None → ⊥) → partition ≡ 1
some_first partition None pins h some = absurd (some refl)
some_first partition (Some n) pins h some = held_first partition n pins h

module _ {D : Type 0} (inside seen : Shown D) (is : inside ≡ seen) (partition : ℕ) where
  pub held_live : (n : ℕ) → IsAmong (in_one (numbers seen.live) partition) n → is_live inside.live n ≡ true
  held_live n among = among_live inside.live n (subst (λ (p : Shown D). IsAmong (numbers p.live) n) (sym is) (one_held (numbers seen.live) partition n among).1)

  pub held_some : (pass : Option ℕ) → IfSome pass (λ n. IsAmong (in_one (numbers seen.live) partition) n) → IfSome pass (λ n. is_live inside.live n ≡ true)
  held_some None h = tt
  held_some (Some n) h = held_live n h

  pub gone_seen : (new : List Pin) (n : ℕ) → partition ≡ 1 → new ≡ released inside.live n → in_one (numbers new) ≡ ended (in_one (numbers seen.live)) partition n
  gone_seen new n first same = gone_live partition n seen.live new first (subst (λ (p : Shown D). new ≡ released p.live n) is same)

  pub begun_seen : (limits : Limits) (path : List ℕ) (seen_position : ℕ) (a : Result Done Refusal) (new : State) (pass : Option ℕ) → partition ≡ 1 → Step limits (memory inside) (Begin path seen_position) a new → GivesPin a pass (free_number inside.live)
      → GivesPass a (option_map (λ n. n) pass) partition (in_one (numbers seen.live)) (in_one (numbers new.pins))
  begun_seen limits path seen_position a new pass first step gives =
      subst (λ (p : Shown D). GivesPass a (option_map (λ n. n) pass) partition (in_one (numbers p.live)) (in_one (numbers new.pins))) is (begun_pass limits (memory inside) path seen_position a new pass partition first step gives)

  module _ (a : Result Done Refusal) (before pass : Option ℕ) (new : List Pin) (first : partition ≡ 1) (by_part : IfSome before (λ n. EndsBy a n pass inside.live new)) (some : before ≡ None → ⊥) where
    pub ended_seen : ends a ≡ true → (pass ≡ None) × IfSome before (λ n. in_one (numbers new) ≡ ended (in_one (numbers seen.live)) partition n)
    ended_seen e = pass_ended a partition before pass seen.live new first (subst (λ (p : Shown D). IfSome before (λ n. EndsBy a n pass p.live new)) is by_part) some e

-- Logs whose contents are sound and whose entries say what they need.
use Rattle.std.proofs.Common.{◌≡◌, ℕ, zero, suc, List, [], ◌∷◌, ◌++◌, Option, Some, None, sym, ◌∙◌, ap}
use Rattle.std.specs.List.{AllByRecursion}
use Rattle.std.specs.FinMap as map
use Rattle.std.specs.FinMap.{get-empty}
use Rattle.std.proofs.lemmas.List.Elements.{recursion_from_All, All-from_recursion}
use Rattle.gt_model.specs.declared.entry.Entry.{Entry}
use Rattle.gt_model.specs.Contents.{Content, nothing, key_cmp, and_then, after, after_all}
use Rattle.gt_model.specs.Soundness.{IsSound, AreSound}
use Rattle.gt_model.specs.Needed.{HasNeeded}
use Rattle.gt_model.specs.Machine.{State, with_doubt, line, opening, unapplied}
use Rattle.gt_model.proofs.Checks.{some_none}
use Rattle.gt_sound.specs.Sound.{IsSoundState}

-- ---- the empty content

-- no repository is in the empty content
nowhere : {B : Type 0} (P : Type 0) (path : List ℕ) (f : _ → Option B) (b : B) → and_then (map.get nothing path) f ≡ Some b → P
nowhere P path f b e = some_none b (sym e ∙ ap (λ o. and_then o f) (get-empty key_cmp path))

pub nothing_sound : IsSound nothing
nothing_sound = record {
  pools = λ path r e. some_none r (sym e ∙ get-empty key_cmp path);
  named = λ path n w e. nowhere _ path (λ r. map.get r.own n) w e;
  referred = λ path ref n e. nowhere _ path (λ r. map.get r.refs ref) n e;
  closed = λ path n dep needs. some_none needs.whole (sym needs.seen ∙ rw (get-empty key_cmp path));
}

-- ---- parts of a log

-- the contents over a base, and the entries
pub record IsSoundLog (base : Content) (log : List Entry) : Type 0 where
  pub contents : AreSound base log
  pub needed : AllByRecursion HasNeeded log

one_sound : (base : Content) → IsSound base → AreSound base []
one_sound base sound zero = sound
one_sound base sound (suc n) = sound

pub no_entry : (base : Content) → IsSound base → IsSoundLog base []
no_entry base sound = record { contents = one_sound base sound; needed = tt }

front_contents : (base : Content) (one two : List Entry) → AreSound base (one ++ two) → AreSound base one
front_contents base [] two sound n = one_sound base (sound zero) n
front_contents base (e ∷ es) two sound zero = sound zero
front_contents base (e ∷ es) two sound (suc n) = front_contents (after base e) es two (λ k. sound (suc k)) n

front_needed : (one two : List Entry) → AllByRecursion HasNeeded (one ++ two) → AllByRecursion HasNeeded one
front_needed [] two are = tt
front_needed (e ∷ es) two (is, rest) = (is, front_needed es two rest)

pub front_sound : (base : Content) (one two : List Entry) → IsSoundLog base (one ++ two) → IsSoundLog base one
front_sound base one two sound = record { contents = front_contents base one two sound.contents; needed = front_needed one two sound.needed }

pub rest_sound : (base : Content) (one two : List Entry) → IsSoundLog base (one ++ two) → IsSoundLog (after_all base one) two
rest_sound base [] two sound = sound
rest_sound base (e ∷ es) two sound = rest_sound (after base e) es two (record { contents = λ k. sound.contents (suc k); needed = sound.needed.1 })

-- the content at the front
pub at_front : (base : Content) (log : List Entry) → AreSound base log → IsSound (after_all base log)
at_front base [] sound = sound zero
at_front base (e ∷ es) sound = at_front (after base e) es (λ k. sound (suc k))

more_contents : (base : Content) (log : List Entry) (e : Entry) → AreSound base log → IsSound (after (after_all base log) e) → AreSound base (log ++ e ∷ [])
more_contents base [] e sound next zero = sound zero
more_contents base [] e sound next (suc n) = one_sound (after base e) next n
more_contents base (x ∷ xs) e sound next zero = sound zero
more_contents base (x ∷ xs) e sound next (suc n) = more_contents (after base x) xs e (λ k. sound (suc k)) next n

more_needed : (log : List Entry) (e : Entry) → AllByRecursion HasNeeded log → HasNeeded e → AllByRecursion HasNeeded (log ++ e ∷ [])
more_needed [] e are is = (is, tt)
more_needed (x ∷ xs) e (first, rest) is = (first, more_needed xs e rest is)

-- one entry more
pub more_sound : (base : Content) (log : List Entry) (e : Entry) → IsSoundLog base log → IsSound (after (after_all base log) e) → HasNeeded e → IsSoundLog base (log ++ e ∷ [])
more_sound base log e sound next needs = record { contents = more_contents base log e sound.contents next; needed = more_needed log e sound.needed needs }

-- a log without its doubt
pub log_sound : (base : Content) (log : List Entry) (doubt : Option Entry) → IsSoundLog base (with_doubt log doubt) → IsSoundLog base log
log_sound base log None sound = sound
log_sound base log (Some e) sound = front_sound base log (e ∷ []) sound

-- ---- states

pub sound_line : (s : State) → IsSoundState s → IsSoundLog s.base (line s)
sound_line s sound = record { contents = sound.contents; needed = recursion_from_All HasNeeded (line s) sound.needed }

pub sound_state : (s : State) → IsSoundLog s.base (line s) → IsSoundState s
sound_state s sound = record { contents = sound.contents; needed = All-from_recursion HasNeeded (line s) sound.needed }

pub empty_sound : IsSoundState (opening (unapplied []))
empty_sound = sound_state (opening (unapplied [])) (no_entry nothing nothing_sound)

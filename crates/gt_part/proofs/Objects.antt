-- An object that was read at its place is the one that the content has.
use Rattle.std.proofs.Common.{◌≡◌, inl, inr, ℕ, ◌+◌, ◌≤◌, Bool, true, false, ◌&&◌, IsTrue, List, length, Option, Some, None, Result, Ok, Err, refl, sym, ◌∙◌, ap, subst}
use Rattle.std.specs.Prelude.{◌^◌}
use Rattle.gt_disk.specs.declared.file_id.FileId.{FileId}
use Rattle.gt_disk.specs.Files.{View, now, IsImage}
use Rattle.gt_model.specs.declared.done.Done.{Done}
use Rattle.gt_model.specs.declared.done.Done.TheVariants.{Object}
use Rattle.gt_model.specs.declared.event.Event.TheVariants.{Cat}
use Rattle.gt_model.specs.declared.limits.Limits.{Limits}
use Rattle.gt_model.specs.declared.refusal.Refusal.{Refusal}
use Rattle.gt_model.specs.declared.refusal.Refusal.TheVariants.{Damaged}
use Rattle.gt_model.specs.Contents.{found}
use Rattle.gt_model.specs.Histories.{kept}
use Rattle.gt_model.specs.Machine.{State, Pin, Step, StepOnAny, Ends, Acts, opening, reads_object, content_of, pin_of, object}
use Rattle.gt_sound.specs.Sound.{IsSoundState}
use Rattle.gt_objset.specs.declared.place.Place.{Place}
use Rattle.gt_places.specs.Reading.{piece, IsRecordOf}
use Rattle.gt_table.specs.Table.{place_at}
use Rattle.gt_base.specs.Held.{HoldsPacks}
use Rattle.gt_journal.specs.Ledger.{Ledger, HasLog, state_of, ground}
use Rattle.gt_journal.proofs.Placed.{IsHeld, placed_is}
use Rattle.gt_act.specs.Cat.{IsNamedSo, HeldSo, CatGives}

module _ (limits : Limits) (l : Ledger) (pins : List Pin) (pin : ℕ) (name : List ℕ) (v : View) (stored : HasLog l (now v)) (packs : HoldsPacks l.past.repos (now v)) (sound : IsSoundState (opening (ground l))) (shows : IsImage (now v) v.reads) (few : l.past.begin + 1 + length l.past.log ≤ 2 ^ 64) (all : l.floor ≡ l.past.begin) where
  abbrev s : State
  s = state_of l pins

  abbrev Steps : Result Done Refusal → Type 0
  Steps answer = Step limits s (Cat pin name) answer s

  abbrev seen : Option (List ℕ)
  seen = found (content_of s pin) (pin_of s pin).path name

  abbrev place : Option Place
  place = place_at l.past (pin_of s pin).position (pin_of s pin).path name

  -- what is held at the place of an object is its record
  held : (whole : List ℕ) (at : Place) → place ≡ Some at → seen ≡ Some whole → IsHeld v.reads at name whole
  held whole at is has = placed_is l (now v) v.reads (pin_of s pin).position (pin_of s pin).path name whole at all few stored packs sound shows is has

  held_is : (whole w : List ℕ) (o : Option Place) → place ≡ o → seen ≡ Some whole → HeldSo o (λ at. w ≡ piece (v.reads at.file) at) → w ≡ whole
  held_is whole w None is has never = absurd never
  held_is whole w (Some at) is has there = there ∙ (held whole at is has).is

  -- What is done is that the record is given that the content has.
  given_found : (done : Done) (o : Option (List ℕ)) → Ends (object o name pins) s (Ok done) s → (whole : List ℕ) × (o ≡ Some whole) × (done ≡ Object whole)
  given_found done None (said, same) = absurd (cc (said))
  given_found done (Some whole) (said, same) = (whole, refl, cc (said))

  acts_found : (done : Done) → Acts limits s (Cat pin name) (Ok done) s → (whole : List ℕ) × (seen ≡ Some whole) × (done ≡ Object whole)
  acts_found done (inl ends) = given_found done seen ends
  acts_found done (inr (inl (said, fails))) = absurd (cc (said))
  acts_found done (inr (inr (said, out))) = absurd (cc (said))

  object_found : (done : Done) → Steps (Ok done) → (whole : List ℕ) × (seen ≡ Some whole) × (done ≡ Object whole)
  object_found done (asked, inl (mid, (entry, one, two), acts)) = acts_found done (subst (λ (m : State). Acts limits m (Cat pin name) (Ok done) s) (two ∙ one) acts)
  object_found done (asked, inr (inl (said, fails))) = absurd (cc (said))
  object_found done (asked, inr (inr (said, out))) = absurd (cc (said))

  -- over a disk that tells nothing is damaged
  right : (a b : Bool) → (a && b) ≡ true → b ≡ true
  right true b is = is
  right false b is = absurd (cc is)

  whole_there : (file : FileId) (at : ℕ) (o : Option (List ℕ)) → seen ≡ o → reads_object (object o name pins) ≡ true → CatGives l.past s pin name v.reads (Err (Damaged file at)) → ⊥
  whole_there file at None has reads gives = absurd (cc reads)
  whole_there file at (Some whole) has reads gives = by place refl gives
    where
      by : (o : Option Place) → place ≡ o → HeldSo o (λ p. (file ≡ p.file) × (at ≡ p.at) × (IsRecordOf name (piece (v.reads p.file) p) → ⊥)) → ⊥
      by None is never = never
      by (Some p) is (one, two, not) = let h = held whole p is has in not (subst (IsRecordOf name) (sym h.is) h.of_name)

  never_spoilt : (refusal : Refusal) (file : FileId) (at : ℕ) → ◌≡◌ {A = Result Done Refusal} (Err refusal) (Err (Damaged file at)) → IsTrue (reads_object (object seen name pins)) → CatGives l.past s pin name v.reads (Err refusal) → ⊥
  never_spoilt refusal file at is reads gives = whole_there file at seen refl reads (subst (CatGives l.past s pin name v.reads) is gives)

  -- Over a disk that tells, the machine takes its step with what is answered.
  pub cat_steps : (answer told : Result Done Refusal) → StepOnAny limits s (Cat pin name) told s → kept s (Cat pin name) answer ≡ kept s (Cat pin name) told → IsNamedSo name answer → CatGives l.past s pin name v.reads answer → Steps answer
  cat_steps (Err refusal) (Err other) (inl step) same named gives = subst Steps (sym same) step
  cat_steps (Err refusal) (Err other) (inr (asked, (file, at, said), is)) same named gives = absurd (never_spoilt refusal file at (same ∙ said) (right _ _ asked) gives)
  cat_steps (Err refusal) (Ok done) step same named gives = absurd (cc (same))
  cat_steps (Ok done) (Err other) step same named gives = absurd (cc (same))
  cat_steps (Ok done) (Ok other) (inr (asked, (file, at, said), is)) same named gives = absurd (cc said)
  cat_steps (Ok (Object w)) (Ok done) (inl step) same named gives =
      let f = object_found done step in
      let is : w ≡ f.0 = held_is f.0 w place refl f.1 gives in
      let given : Ok done ≡ Ok (Object w) = ap (λ (d : Done). Ok d) f.2 ∙ ap (λ (x : List ℕ). Ok (Object x)) (sym is) in
      subst Steps given step
  cat_steps (Ok other) (Ok done) (inl step) same named gives = absurd named

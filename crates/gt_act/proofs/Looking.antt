-- What a live transaction reads is what the machine answers.
use Rattle.std.proofs.Common.{◌≡◌, inl, inr, ℕ, Bool, true, false, ◌&&◌, is_some, List, Option, Some, None, Result, Ok, Err, refl, sym, ap, subst, ◌∙◌}
use Rattle.sha1.specs.Sha1.{sha1}
use Rattle.gt_disk.specs.declared.file_id.FileId.{FileId}
use Rattle.gt_model.specs.declared.done.Done.{Done}
use Rattle.gt_model.specs.declared.done.Done.TheVariants.{Value, Refs, Object}
use Rattle.gt_model.specs.declared.event.Event.TheVariants.{GetRef, ListRefs, Cat}
use Rattle.gt_model.specs.declared.limits.Limits.{Limits}
use Rattle.gt_model.specs.declared.reference.RefValue.{RefValue}
use Rattle.gt_model.specs.declared.refusal.Refusal.{Refusal}
use Rattle.gt_model.specs.declared.refusal.Refusal.TheVariants.{Absent, Memory, DeviceFault, Damaged}
use Rattle.gt_model.specs.Contents.{value, found, is_visible}
use Rattle.gt_model.specs.Machine.{State, Pin, Step, Ends, Fails, effect, reads_object, is_live, pin_of, content_of, references, object}
use Rattle.gt_model.specs.Verdicts.{refs_in}
use Rattle.gt_objset.specs.declared.place.Place.{Place}
use Rattle.gt_table.specs.Table.{content_at, place_at}
use Rattle.gt_journal.specs.Ledger.{Ledger, state_of}
use Rattle.gt_act.specs.Cat.{CatHappens, HeldSo}
use Rattle.gt_act.proofs.Stepping.{at_once, stops}

module _ (limits : Limits) (l : Ledger) (pins : List Pin) (pin : ℕ) (live : is_live pins pin ≡ true) (p : Pin) (here : pin_of (state_of l pins) pin ≡ p) where
  abbrev s : State
  s = state_of l pins

  pub ref_read : (name : List ℕ) (v : Option (List ℕ)) → v ≡ value (content_at l.past p.position) p.path name → Step limits s (GetRef pin name) (Ok (Value v)) s
  ref_read name v is =
      at_once limits (GetRef pin name) s s (Ok (Value v)) live refl refl (inl (ap (λ (v : Option (List ℕ)). Ok (Value v)) (is ∙ ap (λ (q : Pin). value (content_at l.past q.position) q.path name) (sym here)), refl))

  pub refs_read : (prefix : List ℕ) (list : List RefValue) → list ≡ references (refs_in (content_at l.past p.position) p.path) prefix → Step limits s (ListRefs pin prefix) (Ok (Refs list)) s
  refs_read prefix list is =
      at_once limits (ListRefs pin prefix) s s (Ok (Refs list)) live refl refl (inl (ap (λ (l : List RefValue). Ok (Refs l)) (is ∙ ap (λ (q : Pin). references (refs_in (content_at l.past q.position) q.path) prefix) (sym here)), refl))

  -- what is visible to the transaction
  sees : (name : List ℕ) (b : Bool) → b ≡ is_visible (content_at l.past p.position) p.path name → is_some (found (content_of s pin) (pin_of s pin).path name) ≡ b
  sees name b is = ap (λ (q : Pin). is_visible (content_at l.past q.position) q.path name) here ∙ sym is

  ends_as : (name : List ℕ) (o : Option (List ℕ)) (answer : Result Done Refusal) → found (content_of s pin) (pin_of s pin).path name ≡ o → Ends (object o name pins) s answer s → Step limits s (Cat pin name) answer s
  ends_as name o answer is ends = at_once limits (Cat pin name) s s answer live refl refl (inl (subst (λ (o : Option (List ℕ)). Ends (object o name pins) s answer s) (sym is) ends))

  pub object_read : (name whole : List ℕ) → true ≡ is_visible (content_at l.past p.position) p.path name → sha1 whole ≡ name → CatHappens limits s pin name (Ok (Object whole))
  object_read name whole visible named = by (found (content_of s pin) (pin_of s pin).path name) refl (sees name true visible)
    where
      by : (o : Option (List ℕ)) → found (content_of s pin) (pin_of s pin).path name ≡ o → is_some o ≡ true → CatHappens limits s pin name (Ok (Object whole))
      by None is some = absurd (cc (some))
      by (Some held) is some = record { told = Ok (Object held); step = inl (ends_as name (Some held) (Ok (Object held)) is (refl, refl)); same = refl; like = inr (whole, held, refl, refl); named = named }

  pub object_absent : (name : List ℕ) → false ≡ is_visible (content_at l.past p.position) p.path name → CatHappens limits s pin name (Err (Absent name))
  object_absent name hidden = by (found (content_of s pin) (pin_of s pin).path name) refl (sees name false hidden)
    where
      by : (o : Option (List ℕ)) → found (content_of s pin) (pin_of s pin).path name ≡ o → is_some o ≡ false → CatHappens limits s pin name (Err (Absent name))
      by None is none = record { told = Err (Absent name); step = inl (ends_as name None (Err (Absent name)) is (refl, refl)); same = refl; like = inl refl; named = tt }
      by (Some held) is none = absurd (cc (none))

  -- what is held at the object's place
  pub held_so : (name : List ℕ) (place : Place) (Holds : Place → Type 0) → place_at l.past p.position p.path name ≡ Some place → Holds place
      → HeldSo (place_at l.past (pin_of s pin).position (pin_of s pin).path name) Holds
  held_so name place Holds is holds = subst (λ (o : Option Place). HeldSo o Holds) (sym (ap (λ (q : Pin). place_at l.past q.position q.path name) here ∙ is)) holds

  pub object_without_memory : (name : List ℕ) → CatHappens limits s pin name (Err Memory)
  object_without_memory name = record { told = Err Memory; step = inl (stops limits (Cat pin name) s live refl); same = refl; like = inl refl; named = tt }

  fails_as : (name : List ℕ) (o : Option (List ℕ)) → is_some o ≡ true → Fails (Cat pin name) (object o name pins) s s
  fails_as name None some = absurd (cc some)
  fails_as name (Some held) some = (refl, refl)

  reads_as : (name : List ℕ) (o : Option (List ℕ)) → is_some o ≡ true → reads_object (object o name pins) ≡ true
  reads_as name None some = absurd (cc some)
  reads_as name (Some held) some = refl

  -- the disk fails, or holds another thing, where an object is visible
  pub object_by_fault : (name : List ℕ) → true ≡ is_visible (content_at l.past p.position) p.path name → CatHappens limits s pin name (Err DeviceFault)
  object_by_fault name visible = record {
    told = Err DeviceFault;
    step = inl (at_once limits (Cat pin name) s s (Err DeviceFault) live refl refl (inr (inl (refl, fails_as name (found (content_of s pin) (pin_of s pin).path name) (sees name true visible)))));
    same = refl;
    like = inl refl;
    named = tt;
  }

  both : (a b : Bool) → a ≡ true → b ≡ true → (a && b) ≡ true
  both true b one two = two
  both false b one two = absurd (cc one)

  pub object_damaged : (name : List ℕ) (file : FileId) (at : ℕ) → true ≡ is_visible (content_at l.past p.position) p.path name → CatHappens limits s pin name (Err (Damaged file at))
  object_damaged name file at visible = record {
    told = Err (Damaged file at);
    step = inr (both (is_live pins pin) (reads_object (effect limits s (Cat pin name))) live (reads_as name (found (content_of s pin) (pin_of s pin).path name) (sees name true visible)), (file, at, refl), refl);
    same = refl;
    like = inl refl;
    named = tt;
  }

-- The newest references after the updates of one entry.
use Rattle.std.proofs.Common.{◌≡◌, ℕ, suc, zero, ◌<◌, ◌≤◌, Bool, true, false, cond, not, ◌&&◌, ◌||◌, is_some, List, [], ◌∷◌, length, slice_index_or, Option, Some, None, refl, sym, ap, ◌∙◌, subst, arith}
use Rattle.std.specs.Ordering.{eq_by_cmp}
use Rattle.std.specs.FinMap as map
use Rattle.std.specs.FinMap.{FinMap}
use Rattle.gt_model.specs.Contents.{key_cmp}
use Rattle.gt_model.specs.declared.update.RefUpdate.{RefUpdate}
use Rattle.gt_versions.specs.Versions.{IsUpTo}
use Rattle.gt_versions.proofs.Keys.{flip}
use Rattle.gt_slots.specs.Slots.{items_of}
use Rattle.gt_reftable.specs.Tracks.{Track, value_in, named_at, IsInStep, IsTrackUpTo, step_new, step_updates, is_named, step_trim, trimmed, Moves, PutsNew}

-- ---- what is taken out

module _ (q : ℕ) where
  step_named : (b : Bool) (es : List (ℕ × Option (List ℕ))) → named_at q (step_trim q b es) ≡ named_at q es
  step_named b es = by (named_at q es) refl b
    where
      by : (o : Option (List ℕ)) → named_at q es ≡ o → (b : Bool) → named_at q (cond (b && not (is_some o)) [] es) ≡ o
      by None e true = refl
      by None e false = e
      by (Some v) e true = e
      by (Some v) e false = e

  step_upto : (b : Bool) (es : List (ℕ × Option (List ℕ))) → IsUpTo q es → IsUpTo q (step_trim q b es)
  step_upto b es h = by (b && not (is_some (named_at q es)))
    where
      by : (c : Bool) → IsUpTo q (cond c [] es)
      by true = tt
      by false = h

  step_nothing : (b : Bool) → step_trim q b [] ≡ []
  step_nothing true = refl
  step_nothing false = refl

  module _ (x : List ℕ) where
    trimmed_named : (us : List RefUpdate) (es : List (ℕ × Option (List ℕ))) → named_at q (trimmed q us x es) ≡ named_at q es
    trimmed_named [] es = refl
    trimmed_named (u ∷ us) es = trimmed_named us (step_trim q (eq_by_cmp key_cmp x u.name) es) ∙ step_named (eq_by_cmp key_cmp x u.name) es

    trimmed_upto : (us : List RefUpdate) (es : List (ℕ × Option (List ℕ))) → IsUpTo q es → IsUpTo q (trimmed q us x es)
    trimmed_upto [] es h = h
    trimmed_upto (u ∷ us) es h = trimmed_upto us (step_trim q (eq_by_cmp key_cmp x u.name) es) (step_upto (eq_by_cmp key_cmp x u.name) es h)

    trimmed_nothing : (us : List RefUpdate) → trimmed q us x [] ≡ []
    trimmed_nothing [] = refl
    trimmed_nothing (u ∷ us) = ap (trimmed q us x) (step_nothing (eq_by_cmp key_cmp x u.name)) ∙ trimmed_nothing us

    trimmed_gone : (us : List RefUpdate) (es : List (ℕ × Option (List ℕ))) → is_named x us ≡ true → named_at q es ≡ None → trimmed q us x es ≡ []
    trimmed_gone [] es t e = let no : ⊥ = cc in absurd no
    trimmed_gone (u ∷ us) es t e = by (λ t. trimmed_gone us es t e) (eq_by_cmp key_cmp x u.name) t
      where
        by : (is_named x us ≡ true → trimmed q us x es ≡ []) → (b : Bool) → (b || is_named x us) ≡ true → trimmed q us x (step_trim q b es) ≡ []
        by rest true t = ap (λ o. trimmed q us x (cond (not (is_some o)) [] es)) e ∙ trimmed_nothing us
        by rest false t = rest t

-- ---- what isn't named stays

pub not_named : (us : List RefUpdate) (x : List ℕ) (o : Option (List ℕ)) → is_named x us ≡ false → step_updates us x o ≡ o
not_named [] x o t = refl
not_named (u ∷ us) x o t = by (λ t. not_named us x o t) (eq_by_cmp key_cmp x u.name) t u.new
  where
    by : (is_named x us ≡ false → step_updates us x o ≡ o) → (b : Bool) → (b || is_named x us) ≡ false → (new : Option (List ℕ)) → step_updates us x (step_new new b o) ≡ o
    by rest true t new = let no : ⊥ = cc in absurd no
    by rest false t None = rest t
    by rest false t (Some v) = rest t

not_one : (us : List RefUpdate) (i : ℕ) (u : RefUpdate) (x : List ℕ) → i < length us → u ≡ slice_index_or us i u → is_named x us ≡ false → eq_by_cmp key_cmp x u.name ≡ false
not_one [] i u x l e t = absurd (omega arith)
not_one (w ∷ us) zero u x l e t = ap (λ (v : RefUpdate). eq_by_cmp key_cmp x v.name) e ∙ by (eq_by_cmp key_cmp x w.name) t
  where
    by : (b : Bool) → (b || is_named x us) ≡ false → b ≡ false
    by true t = t
    by false t = refl
not_one (w ∷ us) (suc i) u x l e t = not_one us i u x (omega arith) e (by (eq_by_cmp key_cmp x w.name) t)
  where
    by : (b : Bool) → (b || is_named x us) ≡ false → is_named x us ≡ false
    by true t = let no : ⊥ = cc in absurd no
    by false t = t

pub others_kept : (q : ℕ) (us : List RefUpdate) (i : ℕ) (u : RefUpdate) (x : List ℕ) (old new : FinMap key_cmp (List (ℕ × Option (List ℕ)) × ℕ)) → i < length us → u ≡ slice_index_or us i u → PutsNew q u.name u.new old new → is_named x us ≡ false
    → items_of (map.get new x) ≡ items_of (map.get old x)
others_kept q us i u x old new l e h t = by u.new h
  where
    by : (v : Option (List ℕ)) → PutsNew q u.name v old new → items_of (map.get new x) ≡ items_of (map.get old x)
    by None h = ap (λ m. items_of (map.get m x)) h
    by (Some v) h = ap items_of (h.others x (flip u.name x ∙ not_one us i u x l e t))

-- ---- the whole write

module _ (q : ℕ) (us : List RefUpdate) (old mid new : Track) (up : IsTrackUpTo q old) (step : IsInStep q mid)
    (since : (p : ℕ) (x : List ℕ) → q ≤ p → value_in mid p x ≡ step_updates us x (value_in old p x))
    (earlier : (p : ℕ) (x : List ℕ) → p < q → value_in mid p x ≡ value_in old p x)
    (others : (x : List ℕ) → is_named x us ≡ false → items_of (map.get mid.current x) ≡ items_of (map.get old.current x))
    (lives : new.lives ≡ mid.lives) (refs : new.refs ≡ mid.refs) (current : (x : List ℕ) → items_of (map.get new.current x) ≡ trimmed q us x (items_of (map.get mid.current x))) where
  value_same : (p : ℕ) (x : List ℕ) → value_in new p x ≡ value_in mid p x
  value_same p x = ap (λ l. value_in (record { lives = l; refs = new.refs; current = new.current }) p x) lives ∙ ap (λ r. value_in (record { lives = mid.lives; refs = r; current = new.current }) p x) refs

  gone : (x : List ℕ) → value_in new q x ≡ None → items_of (map.get new.current x) ≡ []
  gone x e = current x ∙ by (is_named x us) refl
    where
      by : (b : Bool) → is_named x us ≡ b → trimmed q us x (items_of (map.get mid.current x)) ≡ []
      by true t = trimmed_gone q x us (items_of (map.get mid.current x)) t (step.newest x ∙ sym (value_same q x) ∙ e)
      by false t =
          ap (trimmed q us x) (others x t ∙ up.gone x (sym (since q x (omega arith) ∙ not_named us x (value_in old q x) t) ∙ sym (value_same q x) ∙ e)) ∙ trimmed_nothing q x us

  pub wrote : Moves q (step_updates us) old new
  wrote = record {
    since_q = λ p x l. value_same p x ∙ since p x l;
    earlier = λ p x l. value_same p x ∙ earlier p x l;
    newest = record {
      values = record {
        lives = let P : List (ℕ × Bool) × ℕ → Type 0 = λ l. IsUpTo q l.0 in subst P (sym lives) step.lives;
        refs = let P : FinMap key_cmp (List (ℕ × Option (List ℕ)) × ℕ) → Type 0 = λ m. (x : List ℕ) → IsUpTo q (items_of (map.get m x)) in subst P (sym refs) step.refs;
        current = λ x. let P : List (ℕ × Option (List ℕ)) → Type 0 = λ es. IsUpTo q es in subst P (sym (current x)) (trimmed_upto q x us (items_of (map.get mid.current x)) (step.current x));
        newest = λ x. ap (named_at q) (current x) ∙ trimmed_named q x us (items_of (map.get mid.current x)) ∙ step.newest x ∙ sym (value_same q x);
      };
      gone = gone;
    };
  }

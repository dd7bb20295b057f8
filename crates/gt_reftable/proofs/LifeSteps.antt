-- A repository that is made or deleted has no reference then, and what it had before stays at the positions before.
use Rattle.std.proofs.Common.{◌≡◌, ℕ, ◌+◌, ◌≤◌, Bool, List, [], Option, None, sym, ap, ◌∙◌, subst, arith}
use Rattle.std.specs.FinMap as map
use Rattle.std.specs.FinMap.{FinMap, get-empty}
use Rattle.gt_model.specs.Contents.{key_cmp}
use Rattle.gt_versions.specs.Versions.{last_at, IsUpTo}
use Rattle.gt_versions.specs.Lives.{start_of, value_since}
use Rattle.gt_versions.proofs.VersionLaws.{put_later, put_earlier, upto-put}
use Rattle.gt_versions.proofs.LifeLaws.{value_since-new}
use Rattle.gt_slots.specs.Slots.{items_of}
use Rattle.gt_reftable.specs.Tracks.{Track, start, value_in, named_at, IsTrackUpTo, PutsLife}
use Rattle.gt_reftable.proofs.TrackLaws.{up_more}

module _ (front : ℕ) (there : Bool) (r s : Track) (h : PutsLife (front + 1) there r s) (up : IsTrackUpTo front r) where
  start_now : start s (front + 1) ≡ front + 1
  start_now = ap (λ es. start_of (last_at es (front + 1) None)) h.lives ∙ ap start_of (put_later (front + 1) (front + 1) there r.lives.0 (omega arith))

  pub life_now : (x : List ℕ) → value_in s (front + 1) x ≡ None
  life_now x =
      ap (λ c. value_since c (last_at (items_of (map.get s.refs x)) (front + 1) None)) start_now
      ∙ ap (λ m. value_since (front + 1) (last_at (items_of (map.get m x)) (front + 1) None)) h.refs
      ∙ value_since-new (front + 1) front (front + 1) (items_of (map.get r.refs x)) (omega arith) (up.values.refs x)

  pub life_before : (p : ℕ) (x : List ℕ) → p ≤ front → value_in s p x ≡ value_in r p x
  life_before p x l =
      ap (λ m. value_since (start s p) (last_at (items_of (map.get m x)) p None)) h.refs
      ∙ ap (λ v. value_since (start_of v) (last_at (items_of (map.get r.refs x)) p None)) (ap (λ es. last_at es p None) h.lives ∙ put_earlier (front + 1) p there r.lives.0 (omega arith))

  none_current : (x : List ℕ) → items_of (map.get s.current x) ≡ []
  none_current x = ap (λ m. items_of (map.get m x)) h.current ∙ ap items_of (get-empty key_cmp x)

  pub life_newest : IsTrackUpTo (front + 1) s
  life_newest =
      let up1 : IsTrackUpTo (front + 1) r = up_more front (front + 1) r (omega arith) up in
      let P : List (ℕ × Bool) → Type 0 = λ es. IsUpTo (front + 1) es in
      let Q : FinMap key_cmp (List (ℕ × Option (List ℕ)) × ℕ) → Type 0 = λ m. (x : List ℕ) → IsUpTo (front + 1) (items_of (map.get m x)) in
      let R : List (ℕ × Option (List ℕ)) → Type 0 = λ es. IsUpTo (front + 1) es in
      record {
        values = record {
          lives = subst P (sym h.lives) (upto-put (front + 1) there r.lives.0 up1.values.lives);
          refs = subst Q (sym h.refs) up1.values.refs;
          current = λ x. subst R (sym (none_current x)) tt;
          newest = λ x. ap (named_at (front + 1)) (none_current x) ∙ sym (life_now x);
        };
        gone = λ x e. none_current x;
      }

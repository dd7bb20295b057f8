-- What a reference names after updates.
use Rattle.std.proofs.Common.{◌≡◌, ℕ, ◌<◌, ◌≤◌, Bool, true, false, cond, List, ◌∷◌, Option, Some, None, refl, sym, ap, ◌∙◌, subst, arith}
use Rattle.std.specs.Ordering.{eq_by_cmp}
use Rattle.std.specs.FinMap as map
use Rattle.std.specs.FinMap.{FinMap}
use Rattle.gt_model.specs.Contents.{key_cmp}
use Rattle.gt_model.specs.declared.update.RefUpdate.{RefUpdate}
use Rattle.gt_versions.specs.Versions.{last_at, IsUpTo}
use Rattle.gt_versions.specs.Lives.{start_of, value_since}
use Rattle.gt_versions.proofs.Keys.{flip, get-same}
use Rattle.gt_versions.proofs.VersionLaws.{put_earlier}
use Rattle.gt_versions.proofs.LifeLaws.{start_of-le, value_since-put}
use Rattle.gt_slots.specs.Slots.{items_of, PutsRef}
use Rattle.gt_reftable.specs.Tracks.{Track, start, value_in, IsInStep, given, step_new, step_updates, PutsNew, PutsUpdate}
use Rattle.gt_reftable.proofs.TrackLaws.{upto_new}

-- one reference through a put, for a start that isn't later
module _ (q p c : ℕ) (name x : List ℕ) (v : Option (List ℕ)) (old new : FinMap key_cmp (List (ℕ × Option (List ℕ)) × ℕ)) (h : PutsRef q name v old new) where
  value_of : FinMap key_cmp (List (ℕ × Option (List ℕ)) × ℕ) → List ℕ → Option (List ℕ)
  value_of m y = value_since c (last_at (items_of (map.get m y)) p None)

  pub put_since : c ≤ q → q ≤ p → value_since c (last_at (items_of (map.get new x)) p None) ≡ cond (eq_by_cmp key_cmp x name) v (value_since c (last_at (items_of (map.get old x)) p None))
  put_since l m = by_test (eq_by_cmp key_cmp name x) refl
    where
      by_test : (b : Bool) → eq_by_cmp key_cmp name x ≡ b → value_since c (last_at (items_of (map.get new x)) p None) ≡ cond (eq_by_cmp key_cmp x name) v (value_since c (last_at (items_of (map.get old x)) p None))
      by_test true t =
          ap (λ s. value_since c (last_at (items_of s) p None)) (get-same new name x t)
          ∙ ap (λ es. value_since c (last_at es p None)) h.here
          ∙ value_since-put c q p v (items_of (map.get old name)) l m
          ∙ sym (ap (λ b. cond b v (value_since c (last_at (items_of (map.get old x)) p None))) (flip x name ∙ t))
      by_test false t =
          ap (λ s. value_since c (last_at (items_of s) p None)) (h.others x t)
          ∙ sym (ap (λ b. cond b v (value_since c (last_at (items_of (map.get old x)) p None))) (flip x name ∙ t))

  put_before : p < q → value_since c (last_at (items_of (map.get new x)) p None) ≡ value_since c (last_at (items_of (map.get old x)) p None)
  put_before l = by_test (eq_by_cmp key_cmp name x) refl
    where
      by_test : (b : Bool) → eq_by_cmp key_cmp name x ≡ b → value_since c (last_at (items_of (map.get new x)) p None) ≡ value_since c (last_at (items_of (map.get old x)) p None)
      by_test true t =
          ap (λ s. value_since c (last_at (items_of s) p None)) (get-same new name x t)
          ∙ ap (λ es. value_since c (last_at es p None)) h.here
          ∙ ap (value_since c) (put_earlier q p v (items_of (map.get old name)) l)
          ∙ sym (ap (λ s. value_since c (last_at (items_of s) p None)) (get-same old name x t))
      by_test false t = ap (λ s. value_since c (last_at (items_of s) p None)) (h.others x t)

new_since : (q p c : ℕ) (name x : List ℕ) (v : Option (List ℕ)) (old new : FinMap key_cmp (List (ℕ × Option (List ℕ)) × ℕ)) → PutsNew q name v old new → c ≤ q → q ≤ p
    → value_since c (last_at (items_of (map.get new x)) p None) ≡ step_new v (eq_by_cmp key_cmp x name) (value_since c (last_at (items_of (map.get old x)) p None))
new_since q p c name x None old new h l m = ap (λ n. value_since c (last_at (items_of (map.get n x)) p None)) h
new_since q p c name x (Some v) old new h l m = put_since q p c name x (given v) old new h l m

new_before : (q p c : ℕ) (name x : List ℕ) (v : Option (List ℕ)) (old new : FinMap key_cmp (List (ℕ × Option (List ℕ)) × ℕ)) → PutsNew q name v old new → p < q
    → value_since c (last_at (items_of (map.get new x)) p None) ≡ value_since c (last_at (items_of (map.get old x)) p None)
new_before q p c name x None old new h l = ap (λ n. value_since c (last_at (items_of (map.get n x)) p None)) h
new_before q p c name x (Some v) old new h l = put_before q p c name x (given v) old new h l

module _ (q p : ℕ) (x : List ℕ) (u : RefUpdate) (old new : Track) (h : PutsUpdate q u old new) where
  same_start : value_in new p x ≡ value_since (start old p) (last_at (items_of (map.get new.refs x)) p None)
  same_start = ap (λ lives. value_since (start_of (last_at lives.0 p None)) (last_at (items_of (map.get new.refs x)) p None)) h.lives

  pub update_since : IsInStep q old → q ≤ p → value_in new p x ≡ step_new u.new (eq_by_cmp key_cmp x u.name) (value_in old p x)
  update_since up l = same_start ∙ new_since q p (start old p) u.name x u.new old.refs new.refs h.refs (start_of-le q p old.lives.0 up.lives) l

  pub update_before : p < q → value_in new p x ≡ value_in old p x
  update_before l = same_start ∙ new_before q p (start old p) u.name x u.new old.refs new.refs h.refs l

pub step_after : (q : ℕ) (u : RefUpdate) (old new : Track) → PutsUpdate q u old new → IsInStep q old → IsInStep q new
step_after q u old new h up = record {
  lives = let S : List (ℕ × Bool) × ℕ → Type 0 = λ s. IsUpTo q s.0 in subst S (sym h.lives) up.lives;
  refs = λ x. upto_new q u.name u.new old.refs new.refs h.refs up.refs x;
  current = λ x. upto_new q u.name u.new old.current new.current h.current up.current x;
  newest = λ x.
      new_since q q 0 u.name x u.new old.current new.current h.current (omega arith) (omega arith)
      ∙ ap (step_new u.new (eq_by_cmp key_cmp x u.name)) (up.newest x)
      ∙ sym (update_since q q x u old new h up (omega arith));
}

pub write_more : (q p : ℕ) (x : List ℕ) (us rest : List RefUpdate) (u : RefUpdate) (old new : Track) (end' : Option (List ℕ)) → PutsUpdate q u old new → IsInStep q old → q ≤ p
    → us ≡ u ∷ rest → step_updates us x (value_in old p x) ≡ end' → step_updates rest x (value_in new p x) ≡ end'
write_more q p x us rest u old new end' h up l e inv =
    ap (step_updates rest x) (update_since q p x u old new h up l) ∙ sym (ap (λ vs. step_updates vs x (value_in old p x)) e) ∙ inv

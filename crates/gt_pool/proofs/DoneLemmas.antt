-- Workers that have come to the end, and none is short.
use Rattle.std.proofs.Common.{◌≡◌, ◌∙◌, ◌<◌, ◌||◌, ℕ, zero, suc, nat_eq, Bool, true, false, List, [], ◌∷◌, ◌++◌, length, map, take, drop, get_or, refl, sym, ap, arith}
use Rattle.std.proofs.Math.Seq.{take-append_seam}
use Rattle.std.specs.List.{AllByRecursion, list_any}
use Rattle.gt_pool.specs.declared.numbered.Numbered.{Numbered}
use Rattle.gt_pool.specs.declared.worker.Worker.{Worker}
use Rattle.gt_pool.specs.Counting.{pick, total, times}
use Rattle.gt_pool.specs.Known.{Counted, Queued}
use Rattle.gt_pool.specs.Working.{AreRun}
use Rattle.gt_pool.specs.Workers.{indices_of, AreGiven, IsDone, IsHome, AreDone, collected}
use Rattle.gt_pool.proofs.Totals.{total_append}

-- a list that was written whole
pub kept_whole : {A : Type 0} (n : ℕ) (after before : List A) → length after ≡ length before → n ≡ length before → take n (after ++ drop (length after) before) ≡ after
kept_whole n after before len n_is =
    let is : n ≡ length after = n_is ∙ sym len in
    ap (λ (k : ℕ). take k (after ++ drop (length after) before)) is ∙ take-append_seam after (drop (length after) before)

-- a fact of each index is one of the lists
pub done_each : {K P : Type 0} (gives : ℕ → P → Type 0) (step : K → ℕ → K → Type 0) (claims : Counted) (tickets : Queued) (before after : List (Worker K P)) → length after ≡ length before
    → ((i : ℕ) (d : Worker K P) → i < length before → IsDone gives step claims tickets (get_or before i d).kit (get_or after i d)) → AreDone gives step claims tickets before after
done_each gives step claims tickets [] [] len h = tt
done_each gives step claims tickets [] (v ∷ after) len h = absurd (omega (arith, len))
done_each gives step claims tickets (w ∷ before) [] len h = absurd (omega (arith, len))
done_each gives step claims tickets (w ∷ before) (v ∷ after) len h = (h zero w (omega arith), done_each gives step claims tickets before after (omega (arith, len)) (λ i d lt. h (suc i) d (omega (arith, lt))))

both_false : (a b : Bool) → (a || b) ≡ false → (a ≡ false) × (b ≡ false)
both_false true b e = absurd cc
both_false false b e = (refl, e)

module _ {K P : Type 0} (gives : ℕ → P → Type 0) (step : K → ℕ → K → Type 0) (claims : Counted) (tickets : Queued) where
  pub done_home : (before after : List (Worker K P)) → AreDone gives step claims tickets before after → list_any (λ w. w.short) after ≡ false → AllByRecursion (IsHome claims) after
  done_home [] [] h none = tt
  done_home [] (v ∷ after) h none = absurd h
  done_home (w ∷ before) [] h none = absurd h
  done_home (w ∷ before) (v ∷ after) h none =
      let off = both_false v.short (list_any (λ w. w.short) after) none in
      (record { of = h.0.so_far.of; parts = h.0.so_far.parts; finished = h.0.finished off.0 }, done_home before after h.1 off.1)

  pub done_run : (before after : List (Worker K P)) → AreDone gives step claims tickets before after → list_any (λ w. w.short) after ≡ false → AreRun step (map (λ w. w.kit) before) (map (λ w. w.claimer.claims) after) (map (λ w. w.kit) after)
  done_run [] [] h none = tt
  done_run [] (v ∷ after) h none = absurd h
  done_run (w ∷ before) [] h none = absurd h
  done_run (w ∷ before) (v ∷ after) h none =
      let off = both_false v.short (list_any (λ w. w.short) after) none in
      (h.0.so_far.run off.0, done_run before after h.1 off.1)

  all_append : (xs ys : List (Numbered P)) → AreGiven gives xs → AreGiven gives ys → AreGiven gives (xs ++ ys)
  all_append [] ys h k = k
  all_append (x ∷ xs) ys h k = (h.0, all_append xs ys h.1 k)

  pub done_given : (before after : List (Worker K P)) → AreDone gives step claims tickets before after → list_any (λ w. w.short) after ≡ false → AreGiven gives (collected after)
  done_given [] [] h none = tt
  done_given [] (v ∷ after) h none = absurd h
  done_given (w ∷ before) [] h none = absurd h
  done_given (w ∷ before) (v ∷ after) h none =
      let off = both_false v.short (list_any (λ w. w.short) after) none in
      all_append (collected after) v.pieces (done_given before after h.1 off.1) (h.0.so_far.given off.0)

  indices_append : (xs ys : List (Numbered P)) → indices_of (xs ++ ys) ≡ indices_of xs ++ indices_of ys
  indices_append [] ys = refl
  indices_append (x ∷ xs) ys = ap (λ (is : List ℕ). x.index ∷ is) (indices_append xs ys)

  pub done_once : (before after : List (Worker K P)) → AreDone gives step claims tickets before after → list_any (λ w. w.short) after ≡ false → (x : ℕ) → times x (indices_of (collected after)) ≡ total (times x) (map (λ w. w.claimer.claims) after)
  done_once [] [] h none x = refl
  done_once [] (v ∷ after) h none x = absurd h
  done_once (w ∷ before) [] h none x = absurd h
  done_once (w ∷ before) (v ∷ after) h none x =
      let off = both_false v.short (list_any (λ w. w.short) after) none in
      let a = ap (times x) (indices_append (collected after) v.pieces) in
      let b = total_append (λ y. pick (nat_eq y x) 1 0) (indices_of (collected after)) (indices_of v.pieces) in
      let c = done_once before after h.1 off.1 x in
      let d = ap (times x) (h.0.so_far.pieces off.0) in
      omega (arith, a, b, c, d)

-- Workers that come home one after the other, the last one first.
use Rattle.std.proofs.Common.{◌≡◌, ◌∙◌, ◌<◌, ◌≤◌, ◌||◌, ℕ, ◌+◌, ◌-◌, nat_eq, Bool, true, false, List, [], ◌∷◌, ◌++◌, length, map, reverse, refl, sym, ap, subst, append_assoc, length-append, arith}
use Rattle.std.proofs.lemmas.List.{append-nil, reverse-append}
use Rattle.std.specs.List.{AllByRecursion}
use Rattle.gt_pool.specs.declared.numbered.Numbered.{Numbered}
use Rattle.gt_pool.specs.declared.worker.Worker.{Worker}
use Rattle.gt_pool.specs.Counting.{pick, total, times, below}
use Rattle.gt_pool.specs.Known.{Counted, Claiming}
use Rattle.gt_pool.specs.Workers.{IsHome, collected}
use Rattle.gt_pool.proofs.Totals.{total_append}
use Rattle.gt_pool.proofs.ChainLemmas.{all_less}

pub map_last : {A B : Type 0} (f : A → B) (xs : List A) (x : A) → map f (xs ++ x ∷ []) ≡ map f xs ++ f x ∷ []
map_last f [] x = refl
map_last f (y ∷ ys) x = ap (λ (zs : List _). f y ∷ zs) (map_last f ys x)

collected_last : {K P : Type 0} (ws : List (Worker K P)) (w : Worker K P) → collected (ws ++ w ∷ []) ≡ w.pieces ++ collected ws
collected_last [] w = sym (append-nil w.pieces)
collected_last (x ∷ ws) w = ap (λ (ps : List (Numbered _)). ps ++ x.pieces) (collected_last ws w) ∙ append_assoc w.pieces (collected ws) x.pieces

-- how far the gathering has come, with these workers left of all
pub record IsGathering {K P : Type 0} (claims : Counted) (all left : List (Worker K P)) (claimer : Claiming) (pieces : List (Numbered P)) (kits : List K) : Type 0 where
  pub of : claimer.of ≡ claims
  pub parts : claimer.parts + length left ≡ 1024
  pub finished : length left < length all → claimer.finished ≡ true
  pub home : AllByRecursion (IsHome claims) left
  pub once : (x : ℕ) → times x claimer.claims + total (times x) (map (λ w. w.claimer.claims) left) ≡ total (times x) (map (λ w. w.claimer.claims) all)
  pub pieces_are : pieces ++ collected left ≡ collected all
  pub kits_are : map (λ w. w.kit) left ++ reverse kits ≡ map (λ w. w.kit) all

or_true : (a b : Bool) → b ≡ true → (a || b) ≡ true
or_true true b e = refl
or_true false b e = e

-- one worker more is home
pub one_home : {K P : Type 0} (claims : Counted) (all left rest : List (Worker K P)) (w : Worker K P) (claimer after : Claiming) (pieces more : List (Numbered P)) (kits kept : List K)
    → left ≡ rest ++ w ∷ [] → IsGathering claims all left claimer pieces kits
    → after.of ≡ claims → after.parts ≡ claimer.parts + w.claimer.parts → after.claims ≡ claimer.claims ++ w.claimer.claims → after.finished ≡ (claimer.finished || w.claimer.finished) → more ≡ pieces ++ w.pieces → kept ≡ kits ++ w.kit ∷ []
    → IsGathering claims all rest after more kept
one_home {K} {P} claims all left rest w claimer after pieces more kits kept is h of parts joined finished more_is kept_is =
    let homes = all_less (IsHome claims) rest w (subst (AllByRecursion (IsHome claims)) is h.home) in
    let len : length left ≡ length rest + 1 = ap length is ∙ length-append rest (w ∷ []) in
    record {
      of = of;
      parts = (let a = h.parts in let b = homes.1.parts in omega (arith, a, b, len, parts));
      finished = λ _. finished ∙ or_true claimer.finished w.claimer.finished homes.1.finished;
      home = homes.0;
      once = λ x.
          let a = h.once x in
          let b = ap (times x) joined in
          let c = total_append (λ y. pick (nat_eq y x) 1 0) claimer.claims w.claimer.claims in
          let d = ap (λ (ws : List (Worker K P)). total (times x) (map (λ u. u.claimer.claims) ws)) is in
          let e = ap (total (times x)) (map_last (λ (u : Worker K P). u.claimer.claims) rest w) in
          let f = total_append (times x) (map (λ (u : Worker K P). u.claimer.claims) rest) (w.claimer.claims ∷ []) in
          omega (arith, a, b, c, d, e, f);
      pieces_are =
          ap (λ (ps : List (Numbered P)). ps ++ collected rest) more_is ∙ append_assoc pieces w.pieces (collected rest)
          ∙ ap (λ (ps : List (Numbered P)). pieces ++ ps) (sym (collected_last rest w)) ∙ ap (λ (ws : List (Worker K P)). pieces ++ collected ws) (sym is) ∙ h.pieces_are;
      kits_are =
          ap (λ (ks : List K). map (λ u. u.kit) rest ++ reverse ks) kept_is ∙ ap (λ (ks : List K). map (λ u. u.kit) rest ++ ks) (reverse-append kits (w.kit ∷ []))
          ∙ sym (append_assoc (map (λ (u : Worker K P). u.kit) rest) (w.kit ∷ []) (reverse kits))
          ∙ ap (λ (ks : List K). ks ++ reverse kits) (sym (map_last (λ (u : Worker K P). u.kit) rest w))
          ∙ ap (λ (ws : List (Worker K P)). map (λ u. u.kit) ws ++ reverse kits) (sym is) ∙ h.kits_are;
    }

-- none is home
pub none_home : {K P : Type 0} (claims : Counted) (all left : List (Worker K P)) (claimer : Claiming) (pieces : List (Numbered P)) (kits : List K)
    → left ≡ all → pieces ≡ [] → kits ≡ [] → claimer ≡ record { of = claims; parts = 1024 - length all; finished = false; claims = [] } → length all ≤ 1023 → AllByRecursion (IsHome claims) all
    → IsGathering claims all left claimer pieces kits
none_home {K} {P} claims all left claimer pieces kits left_is pieces_is kits_is claimer_is few home =
    let begun : IsGathering claims all all (record { of = claims; parts = 1024 - length all; finished = false; claims = [] }) [] [] = record {
      of = refl;
      parts = omega (arith, few);
      finished = λ lt. absurd (omega (arith, lt));
      home = home;
      once = λ x. omega arith;
      pieces_are = refl;
      kits_are = append-nil (map (λ (u : Worker K P). u.kit) all);
    } in
    rw (left_is, pieces_is, kits_is, claimer_is) begun

-- all are home, with all parts
pub all_home : {K P : Type 0} (claims : Counted) (all left : List (Worker K P)) (claimer : Claiming) (pieces : List (Numbered P)) (kits : List K) (count : ℕ)
    → left ≡ [] → IsGathering claims all left claimer pieces kits → ((x : ℕ) → times x claimer.claims ≡ below x count) → (x : ℕ) → total (times x) (map (λ w. w.claimer.claims) all) ≡ below x count
all_home {K} {P} claims all left claimer pieces kits count is h each x =
    let a = h.once x in
    let b = each x in
    let c = ap (λ (ws : List (Worker K P)). total (times x) (map (λ u. u.claimer.claims) ws)) is in
    omega (arith, a, b, c)

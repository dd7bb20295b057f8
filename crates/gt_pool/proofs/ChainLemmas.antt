-- One index more.
use Rattle.std.proofs.Common.{◌≡◌, ◌∙◌, ℕ, List, [], ◌∷◌, ◌++◌, refl, subst, sym, ap}
use Rattle.std.specs.List.{AllByRecursion}
use Rattle.gt_pool.specs.declared.numbered.Numbered.{Numbered}
use Rattle.gt_pool.specs.Working.{Chain}
use Rattle.gt_pool.specs.Workers.{indices_of, AreGiven}

pub chain_more : {K : Type 0} (step : K → ℕ → K → Type 0) (a : K) (is : List ℕ) (b : K) (i : ℕ) (c : K) → Chain step a is b → step b i c → Chain step a (is ++ i ∷ []) c
chain_more {K} step a [] b i c same one = let P : K → Type 0 = λ k. step k i c in (c, subst P (sym same) one, refl)
chain_more step a (j ∷ is) b i c (k, h, rest) one = (k, h, chain_more step k is b i c rest one)

pub all_more : {A : Type 0} (P : A → Type 0) (xs : List A) (x : A) → AllByRecursion P xs → P x → AllByRecursion P (xs ++ x ∷ [])
all_more P [] x h one = (one, tt)
all_more P (y ∷ ys) x h one = (h.0, all_more P ys x h.1 one)

pub all_less : {A : Type 0} (P : A → Type 0) (xs : List A) (x : A) → AllByRecursion P (xs ++ x ∷ []) → AllByRecursion P xs × P x
all_less P [] x h = (tt, h.0)
all_less P (y ∷ ys) x h = let r = all_less P ys x h.1 in ((h.0, r.0), r.1)

pub indices_more : {P : Type 0} (xs : List (Numbered P)) (x : Numbered P) → indices_of (xs ++ x ∷ []) ≡ indices_of xs ++ x.index ∷ []
indices_more [] x = refl
indices_more (y ∷ ys) x = ap (λ (is : List ℕ). y.index ∷ is) (indices_more ys x)

-- ---- a worker that has a piece more

pub pieces_more : {P : Type 0} (xs ys : List (Numbered P)) (x : Numbered P) (is js : List ℕ) (i : ℕ) → ys ≡ xs ++ x ∷ [] → js ≡ is ++ i ∷ [] → x.index ≡ i → is ≡ indices_of xs → js ≡ indices_of ys
pieces_more xs ys x is js i e f same h = f ∙ ap (λ (k : ℕ). is ++ k ∷ []) (sym same) ∙ ap (λ (ks : List ℕ). ks ++ x.index ∷ []) h ∙ sym (indices_more xs x) ∙ sym (ap indices_of e)

pub given_more : {P : Type 0} (gives : ℕ → P → Type 0) (xs ys : List (Numbered P)) (x : Numbered P) → ys ≡ xs ++ x ∷ [] → AreGiven gives xs → (i : ℕ) → x.index ≡ i → gives i x.piece → AreGiven gives ys
given_more gives xs ys x e h i same one = subst (AreGiven gives) (sym e) (all_more (λ (y : Numbered _). gives y.index y.piece) xs x h (subst (λ (k : ℕ). gives k x.piece) (sym same) one))

pub run_more : {K : Type 0} (step : K → ℕ → K → Type 0) (a : K) (is js : List ℕ) (b : K) (i : ℕ) (c : K) → js ≡ is ++ i ∷ [] → Chain step a is b → step b i c → Chain step a js c
run_more step a is js b i c e h one = subst (λ (ks : List ℕ). Chain step a ks c) (sym e) (chain_more step a is b i c h one)

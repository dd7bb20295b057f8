-- Laws of the next version, and of a version that gets another value.
use Rattle.std.proofs.Common.{◌≡◌, ℕ, suc, zero, ◌-◌, ◌<◌, ◌≤◌, Bool, true, false, cond, nat_le, is_some, List, [], ◌∷◌, length, slice_index_or, slice_set, Option, Some, None, IfSome, refl, sym, ap, ◌∙◌, subst, arith}
use Rattle.std.specs.List.Sorted.{IsPartitionPoint}
use Rattle.std.proofs.lemmas.Bool.Decides.{nat_tests}
use Rattle.gt_versions.specs.Ascending.{IsFrom, IsUpTo, IsAscending}
use Rattle.gt_versions.specs.Versions.{last_at}
use Rattle.gt_versions.specs.Runs.{next_after, set_at}
use Rattle.gt_versions.proofs.VersionLaws.{none_found, some_found}

-- ---- versions in ascending order

module _ {V : Type 0} where
  -- what is found stands at or before the position
  found_before : (es : List (ℕ × V)) (p : ℕ) (found : Option (ℕ × V)) (x : ℕ × V) → IfSome found (λ e. e.0 ≤ p) → last_at es p found ≡ Some x → x.0 ≤ p
  found_before [] p None x h e = let no : ⊥ = cc in absurd no
  found_before [] p (Some y) x h e = let same : y ≡ x = cc in let P : ℕ × V → Type 0 = λ z. z.0 ≤ p in subst P same h
  found_before (e ∷ es) p found x h i = found_before es p (cond (nat_le e.0 p) (Some e) found) x (by (nat_le e.0 p) refl) i
    where
      by : (b : Bool) → nat_le e.0 p ≡ b → IfSome (cond b (Some e) found) (λ e. e.0 ≤ p)
      by true t = let l : e.0 ≤ p = grind (arith, nat_tests) in l
      by false t = h

  pub at_or_before : (es : List (ℕ × V)) (p : ℕ) (x : ℕ × V) → last_at es p None ≡ Some x → x.0 ≤ p
  at_or_before es p x e = found_before es p None x tt e

  -- where each stands past the position none is found
  none_past : (es : List (ℕ × V)) (n p : ℕ) (found : Option (ℕ × V)) → IsFrom n es → p < n → last_at es p found ≡ found
  none_past [] n p found h l = refl
  none_past (e ∷ es) n p found h l =
      let a : n ≤ e.0 = h.0 in
      let off : nat_le e.0 p ≡ false = grind (arith, nat_tests) in
      ap (λ b. last_at es p (cond b (Some e) found)) off ∙ none_past es n p found h.1 l

  -- what is found among those from a position on stands there or later
  found_from : (es : List (ℕ × V)) (n p : ℕ) (y x : ℕ × V) → IsFrom n es → n ≤ y.0 → last_at es p (Some y) ≡ Some x → n ≤ x.0
  found_from [] n p y x h l e = let same : y ≡ x = cc in let P : ℕ × V → Type 0 = λ z. n ≤ z.0 in subst P same l
  found_from (e ∷ es) n p y x h l i = by (nat_le e.0 p) (found_from es n p e x h.1 h.0) (found_from es n p y x h.1 l) i
    where
      by : (b : Bool) → (last_at es p (Some e) ≡ Some x → n ≤ x.0) → (last_at es p (Some y) ≡ Some x → n ≤ x.0) → last_at es p (cond b (Some e) (Some y)) ≡ Some x → n ≤ x.0
      by true f g i = f i
      by false f g i = g i

  -- a version is found at each position from its own to one where it is found
  settled_after : (es : List (ℕ × V)) (p q : ℕ) (found : Option (ℕ × V)) (x : ℕ × V) → IsAscending es → q ≤ p → last_at es p found ≡ Some x → x.0 ≤ q → last_at es q found ≡ Some x
  settled_after [] p q found x h l e m = e
  settled_after (e ∷ es) p q found x h l i m = by (nat_le e.0 q) (nat_le e.0 p) refl refl (λ f i. settled_after es p q f x h.1 l i m) i
    where
      by : (b c : Bool) → nat_le e.0 q ≡ b → nat_le e.0 p ≡ c → ((f : Option (ℕ × V)) → last_at es p f ≡ Some x → last_at es q f ≡ Some x) → last_at es p (cond c (Some e) found) ≡ Some x → last_at es q (cond b (Some e) found) ≡ Some x
      by true true s t f i = f (Some e) i
      by true false s t f i = let no : ⊥ = grind (arith, nat_tests) in absurd no
      by false false s t f i = f found i
      by false true s t f i = let a : e.0 ≤ x.0 = found_from es e.0 p e x h.0 (omega arith) i in let no : ⊥ = grind (arith, nat_tests) in absurd no

  pub settled : (es : List (ℕ × V)) (p q : ℕ) (x : ℕ × V) → IsAscending es → q ≤ p → last_at es p None ≡ Some x → x.0 ≤ q → last_at es q None ≡ Some x
  settled es p q x h l e m = settled_after es p q None x h l e m

  -- before the next version nothing else is found
  pub within : (es : List (ℕ × V)) (h p : ℕ) (found : Option (ℕ × V)) → IsAscending es → h ≤ p → IfSome (next_after es h) (λ n. p < n) → last_at es p found ≡ last_at es h found
  within [] h p found a l k = refl
  within (e ∷ es) h p found a l k = by (nat_le e.0 h) refl (within es h p (Some e) a.1 l) k
    where
      by : (b : Bool) → nat_le e.0 h ≡ b → (IfSome (next_after es h) (λ n. p < n) → last_at es p (Some e) ≡ last_at es h (Some e)) → IfSome (cond b (next_after es h) (Some e.0)) (λ n. p < n) → last_at es p (cond (nat_le e.0 p) (Some e) found) ≡ last_at es h (cond b (Some e) found)
      by true t f k =
          let on : nat_le e.0 p ≡ true = grind (arith, nat_tests) in
          ap (λ b. last_at es p (cond b (Some e) found)) on ∙ f k
      by false t f k =
          let m : p < e.0 = k in
          let off : nat_le e.0 p ≡ false = grind (arith, nat_tests) in
          ap (λ b. last_at es p (cond b (Some e) found)) off ∙ none_past es e.0 p found a.0 m ∙ sym (none_past es e.0 h found a.0 (omega arith))

  pub next_more : (es : List (ℕ × V)) (h n : ℕ) → next_after es h ≡ Some n → h < n
  next_more [] h n e = let no : ⊥ = cc in absurd no
  next_more (e ∷ es) h n i = by (nat_le e.0 h) refl (next_more es h n) i
    where
      by : (b : Bool) → nat_le e.0 h ≡ b → (next_after es h ≡ Some n → h < n) → cond b (next_after es h) (Some e.0) ≡ Some n → h < n
      by true t f i = f i
      by false t f i = let same : e.0 ≡ n = cc in grind (arith, nat_tests)

  -- the next version is found where it begins
  pub next_begins : (es : List (ℕ × V)) (h n : ℕ) (found : Option (ℕ × V)) (x : ℕ × V) → IsAscending es → next_after es h ≡ Some n → last_at es n found ≡ Some x → n ≤ x.0
  next_begins [] h n found x a e i = let no : ⊥ = cc in absurd no
  next_begins (e ∷ es) h n found x a j i = by (nat_le e.0 h) (nat_le e.0 n) refl refl (λ f j i. next_begins es h n f x a.1 j i) j i
    where
      by : (b c : Bool) → nat_le e.0 h ≡ b → nat_le e.0 n ≡ c → ((f : Option (ℕ × V)) → next_after es h ≡ Some n → last_at es n f ≡ Some x → n ≤ x.0) → cond b (next_after es h) (Some e.0) ≡ Some n → last_at es n (cond c (Some e) found) ≡ Some x → n ≤ x.0
      by true c s t f j i = f (cond c (Some e) found) j i
      by false true s t f j i = let same : e.0 ≡ n = cc in let l : e.0 ≤ x.0 = found_from es e.0 n e x a.0 (omega arith) i in omega arith
      by false false s t f j i = let same : e.0 ≡ n = cc in let no : ⊥ = grind (arith, nat_tests) in absurd no

  -- past the next version what was found before plays no part
  next_found : (es : List (ℕ × V)) (h n p : ℕ) (f g : Option (ℕ × V)) → next_after es h ≡ Some n → n ≤ p → last_at es p f ≡ last_at es p g
  next_found [] h n p f g e l = let no : ⊥ = cc in absurd no
  next_found (e ∷ es) h n p f g j l = by (nat_le e.0 h) refl (λ j. next_found es h n p (cond (nat_le e.0 p) (Some e) f) (cond (nat_le e.0 p) (Some e) g) j l) j
    where
      by : (b : Bool) → nat_le e.0 h ≡ b → (next_after es h ≡ Some n → last_at es p (cond (nat_le e.0 p) (Some e) f) ≡ last_at es p (cond (nat_le e.0 p) (Some e) g)) → cond b (next_after es h) (Some e.0) ≡ Some n → last_at es p (cond (nat_le e.0 p) (Some e) f) ≡ last_at es p (cond (nat_le e.0 p) (Some e) g)
      by true t k j = k j
      by false t k j =
          let same : e.0 ≡ n = cc in
          let on : nat_le e.0 p ≡ true = grind (arith, nat_tests) in
          ap (λ b. last_at es p (cond b (Some e) f)) on ∙ sym (ap (λ b. last_at es p (cond b (Some e) g)) on)

  -- where one is found, what was found before plays no part; and else it is found
  some_any : (es : List (ℕ × V)) (p : ℕ) (f : Option (ℕ × V)) → is_some (last_at es p None) ≡ true → last_at es p f ≡ last_at es p None
  some_any [] p f h = let no : ⊥ = cc in absurd no
  some_any (e ∷ es) p f h = by (nat_le e.0 p) (some_any es p f) h
    where
      by : (b : Bool) → (is_some (last_at es p None) ≡ true → last_at es p f ≡ last_at es p None) → is_some (last_at es p (cond b (Some e) None)) ≡ true → last_at es p (cond b (Some e) f) ≡ last_at es p (cond b (Some e) None)
      by true k h = refl
      by false k h = k h

  stays_some : (es : List (ℕ × V)) (p : ℕ) (x : ℕ × V) → is_some (last_at es p (Some x)) ≡ true
  stays_some [] p x = refl
  stays_some (e ∷ es) p x = by (nat_le e.0 p) (stays_some es p e) (stays_some es p x)
    where
      by : (b : Bool) → is_some (last_at es p (Some e)) ≡ true → is_some (last_at es p (Some x)) ≡ true → is_some (last_at es p (cond b (Some e) (Some x))) ≡ true
      by true k l = k
      by false k l = l

  none_any : (es : List (ℕ × V)) (p : ℕ) (f : Option (ℕ × V)) → is_some (last_at es p None) ≡ false → last_at es p f ≡ f
  none_any [] p f h = refl
  none_any (e ∷ es) p f h = by (nat_le e.0 p) (none_any es p f) h
    where
      by : (b : Bool) → (is_some (last_at es p None) ≡ false → last_at es p f ≡ f) → is_some (last_at es p (cond b (Some e) None)) ≡ false → last_at es p (cond b (Some e) f) ≡ f
      by true k h = let some : is_some (last_at es p (Some e)) ≡ true = stays_some es p e in let no : ⊥ = cc in absurd no
      by false k h = k h

  -- one that stands before one that is found is at or before the position
  before_found : (es : List (ℕ × V)) (n p : ℕ) → IsFrom n es → is_some (last_at es p None) ≡ true → nat_le n p ≡ true
  before_found es n p h s = by (nat_le n p) refl
    where
      by : (b : Bool) → nat_le n p ≡ b → b ≡ true
      by true t = refl
      by false t =
          let l : p < n = grind (arith, nat_tests) in
          let none : last_at es p None ≡ None = none_past es n p None h l in
          let no : ⊥ = cc in
          absurd no

-- ---- another value

module _ {V : Type 0} (v : V) where
  -- the version that was found, with the value
  abbrev pub put_value : Option (ℕ × V) → Option (ℕ × V) → Option (ℕ × V)
  put_value None found = found
  put_value (Some e) found = Some (e.0, v)

  put_any : (o f g : Option (ℕ × V)) → is_some o ≡ true → put_value o f ≡ put_value o g
  put_any None f g h = let no : ⊥ = cc in absurd no
  put_any (Some e) f g h = refl

  -- from the position to the next version it is found with its value
  pub set_found_at : (es : List (ℕ × V)) (h p : ℕ) (found : Option (ℕ × V)) → IsAscending es → h ≤ p → IfSome (next_after es h) (λ n. p < n) → last_at (set_at h v es) p found ≡ put_value (last_at es h None) found
  set_found_at [] h p found a l k = refl
  set_found_at (e ∷ es) h p found a l k = by (is_some (last_at es h None)) (nat_le e.0 h) refl refl (set_found_at es h p (Some e) a.1 l) k
    where
      by : (b c : Bool) → is_some (last_at es h None) ≡ b → nat_le e.0 h ≡ c → (IfSome (next_after es h) (λ n. p < n) → last_at (set_at h v es) p (Some e) ≡ put_value (last_at es h None) (Some e)) → IfSome (cond c (next_after es h) (Some e.0)) (λ n. p < n)
          → last_at (cond b (e ∷ set_at h v es) (cond c ((e.0, v) ∷ es) (e ∷ es))) p found ≡ put_value (last_at es h (cond c (Some e) None)) found
      by true true s t f k =
          let on : nat_le e.0 p ≡ true = grind (arith, nat_tests) in
          ap (λ b. last_at (set_at h v es) p (cond b (Some e) found)) on
          ∙ f k
          ∙ put_any (last_at es h None) (Some e) found s
          ∙ ap (λ o. put_value o found) (sym (some_any es h (Some e) s))
      by true false s t f k = let on : nat_le e.0 h ≡ true = before_found es e.0 h a.0 s in let no : ⊥ = cc in absurd no
      by false true s t f k =
          let on : nat_le e.0 p ≡ true = grind (arith, nat_tests) in
          ap (λ b. last_at es p (cond b (Some (e.0, v)) found)) on
          ∙ within es h p (Some (e.0, v)) a.1 l k
          ∙ none_any es h (Some (e.0, v)) s
          ∙ ap (λ o. put_value o found) (sym (none_any es h (Some e) s))
      by false false s t f k =
          let m : p < e.0 = k in
          let off : nat_le e.0 p ≡ false = grind (arith, nat_tests) in
          ap (λ b. last_at es p (cond b (Some e) found)) off
          ∙ none_past es e.0 p found a.0 m
          ∙ ap (λ o. put_value o found) (sym (none_any es h None s))

  -- from the next version on nothing differs
  pub set_later : (es : List (ℕ × V)) (h n p : ℕ) (found : Option (ℕ × V)) → IsAscending es → next_after es h ≡ Some n → n ≤ p → last_at (set_at h v es) p found ≡ last_at es p found
  set_later [] h n p found a j l = refl
  set_later (e ∷ es) h n p found a j l = by (is_some (last_at es h None)) (nat_le e.0 h) refl refl (λ j. set_later es h n p (cond (nat_le e.0 p) (Some e) found) a.1 j l) j
    where
      by : (b c : Bool) → is_some (last_at es h None) ≡ b → nat_le e.0 h ≡ c → (next_after es h ≡ Some n → last_at (set_at h v es) p (cond (nat_le e.0 p) (Some e) found) ≡ last_at es p (cond (nat_le e.0 p) (Some e) found)) → cond c (next_after es h) (Some e.0) ≡ Some n
          → last_at (cond b (e ∷ set_at h v es) (cond c ((e.0, v) ∷ es) (e ∷ es))) p found ≡ last_at es p (cond (nat_le e.0 p) (Some e) found)
      by true true s t f j = f j
      by true false s t f j = let on : nat_le e.0 h ≡ true = before_found es e.0 h a.0 s in let no : ⊥ = cc in absurd no
      by false true s t f j = next_found es h n p (cond (nat_le e.0 p) (Some (e.0, v)) found) (cond (nat_le e.0 p) (Some e) found) j l
      by false false s t f j = refl

  -- nor before the version begins
  pub set_earlier : (es : List (ℕ × V)) (h p : ℕ) (found : Option (ℕ × V)) (x : ℕ × V) → last_at es h None ≡ Some x → p < x.0 → last_at (set_at h v es) p found ≡ last_at es p found
  set_earlier [] h p found x i l = refl
  set_earlier (e ∷ es) h p found x i l = by (is_some (last_at es h None)) (nat_le e.0 h) refl refl (λ i. set_earlier es h p (cond (nat_le e.0 p) (Some e) found) x i l) i
    where
      by : (b c : Bool) → is_some (last_at es h None) ≡ b → nat_le e.0 h ≡ c → (last_at es h None ≡ Some x → last_at (set_at h v es) p (cond (nat_le e.0 p) (Some e) found) ≡ last_at es p (cond (nat_le e.0 p) (Some e) found)) → last_at es h (cond c (Some e) None) ≡ Some x
          → last_at (cond b (e ∷ set_at h v es) (cond c ((e.0, v) ∷ es) (e ∷ es))) p found ≡ last_at es p (cond (nat_le e.0 p) (Some e) found)
      by true c s t f i = f (sym (some_any es h (cond c (Some e) None) s) ∙ i)
      by false true s t f i =
          let same : e ≡ x = let at_e : Some e ≡ Some x = sym (none_any es h (Some e) s) ∙ i in cc in
          let m : e.0 ≡ x.0 = ap (λ (y : ℕ × V). y.0) same in
          let off : nat_le e.0 p ≡ false = grind (arith, nat_tests) in
          ap (λ b. last_at es p (cond b (Some (e.0, v)) found)) off ∙ sym (ap (λ b. last_at es p (cond b (Some e) found)) off)
      by false false s t f i = refl

  pub set_next : (es : List (ℕ × V)) (h p : ℕ) → next_after (set_at h v es) p ≡ next_after es p
  set_next [] h p = refl
  set_next (e ∷ es) h p = by (is_some (last_at es h None)) (nat_le e.0 h) (set_next es h p)
    where
      by : (b c : Bool) → next_after (set_at h v es) p ≡ next_after es p → next_after (cond b (e ∷ set_at h v es) (cond c ((e.0, v) ∷ es) (e ∷ es))) p ≡ next_after (e ∷ es) p
      by true c f = ap (λ o. cond (nat_le e.0 p) o (Some e.0)) f
      by false true f = refl
      by false false f = refl

  pub set_upto : (es : List (ℕ × V)) (h q : ℕ) → IsUpTo q es → IsUpTo q (set_at h v es)
  set_upto [] h q u = tt
  set_upto (e ∷ es) h q u = by (is_some (last_at es h None)) (nat_le e.0 h) (set_upto es h q u.1)
    where
      by : (b c : Bool) → IsUpTo q (set_at h v es) → IsUpTo q (cond b (e ∷ set_at h v es) (cond c ((e.0, v) ∷ es) (e ∷ es)))
      by true c f = (u.0, f)
      by false true f = u
      by false false f = u

  set_from : (es : List (ℕ × V)) (h q : ℕ) → IsFrom q es → IsFrom q (set_at h v es)
  set_from [] h q u = tt
  set_from (e ∷ es) h q u = by (is_some (last_at es h None)) (nat_le e.0 h) (set_from es h q u.1)
    where
      by : (b c : Bool) → IsFrom q (set_at h v es) → IsFrom q (cond b (e ∷ set_at h v es) (cond c ((e.0, v) ∷ es) (e ∷ es)))
      by true c f = (u.0, f)
      by false true f = u
      by false false f = u

  pub set_ascending : (es : List (ℕ × V)) (h : ℕ) → IsAscending es → IsAscending (set_at h v es)
  set_ascending [] h a = tt
  set_ascending (e ∷ es) h a = by (is_some (last_at es h None)) (nat_le e.0 h) (set_ascending es h a.1)
    where
      by : (b c : Bool) → IsAscending (set_at h v es) → IsAscending (cond b (e ∷ set_at h v es) (cond c ((e.0, v) ∷ es) (e ∷ es)))
      by true c f = (set_from es h e.0 a.0, f)
      by false true f = a
      by false false f = a

-- ---- the version of an index

module _ {V : Type 0} where
  next_none : (es : List (ℕ × V)) (p n : ℕ) → length es ≤ n → ((k : ℕ) (d : ℕ × V) → 0 ≤ k → k < n → nat_le (slice_index_or es k d).0 p ≡ true) → next_after es p ≡ None
  next_none [] p n l h = refl
  next_none (e ∷ es) p zero l h = absurd (omega arith)
  next_none (e ∷ es) p (suc n) l h =
      ap (λ b. cond b (next_after es p) (Some e.0)) (h 0 e (omega arith) (omega arith))
      ∙ next_none es p n (omega arith) (λ k d low high. h (suc k) d (omega arith) (omega arith))

  next_some : (es : List (ℕ × V)) (p m : ℕ) (d : ℕ × V) → m < length es → ((k : ℕ) (d : ℕ × V) → 0 ≤ k → k < m → nat_le (slice_index_or es k d).0 p ≡ true) → ((k : ℕ) (d : ℕ × V) → m ≤ k → k < length es → nat_le (slice_index_or es k d).0 p ≡ false) → next_after es p ≡ Some (slice_index_or es m d).0
  next_some [] p m d l below above = absurd (omega arith)
  next_some (e ∷ es) p zero d l below above = ap (λ b. cond b (next_after es p) (Some e.0)) (above 0 e (omega arith) (omega arith))
  next_some (e ∷ es) p (suc m) d l below above =
      ap (λ b. cond b (next_after es p) (Some e.0)) (below 0 e (omega arith) (omega arith))
      ∙ next_some es p m d (omega arith) (λ k d low high. below (suc k) d (omega arith) (omega arith)) (λ k d low high. above (suc k) d (omega arith) (omega arith))

  set_none : (v : V) (es : List (ℕ × V)) (p : ℕ) → ((k : ℕ) (d : ℕ × V) → 0 ≤ k → k < length es → nat_le (slice_index_or es k d).0 p ≡ false) → set_at p v es ≡ es
  set_none v [] p h = refl
  set_none v (e ∷ es) p h =
      let none : last_at es p None ≡ None = none_found es p None (λ k d low high. h (suc k) d (omega arith) (omega arith)) in
      ap (λ o. cond (is_some o) (e ∷ set_at p v es) (cond (nat_le e.0 p) ((e.0, v) ∷ es) (e ∷ es))) none
      ∙ ap (λ b. cond b ((e.0, v) ∷ es) (e ∷ es)) (h 0 e (omega arith) (omega arith))

  set_index : (v : V) (es : List (ℕ × V)) (p m : ℕ) (d : ℕ × V) → m < length es → ((k : ℕ) (d : ℕ × V) → 0 ≤ k → k < suc m → nat_le (slice_index_or es k d).0 p ≡ true) → ((k : ℕ) (d : ℕ × V) → suc m ≤ k → k < length es → nat_le (slice_index_or es k d).0 p ≡ false) → set_at p v es ≡ slice_set es m ((slice_index_or es m d).0, v)
  set_index v [] p m d l below above = absurd (omega arith)
  set_index v (e ∷ es) p zero d l below above =
      let none : last_at es p None ≡ None = none_found es p None (λ k d low high. above (suc k) d (omega arith) (omega arith)) in
      ap (λ o. cond (is_some o) (e ∷ set_at p v es) (cond (nat_le e.0 p) ((e.0, v) ∷ es) (e ∷ es))) none
      ∙ ap (λ b. cond b ((e.0, v) ∷ es) (e ∷ es)) (below 0 e (omega arith) (omega arith))
  set_index v (e ∷ es) p (suc m) d l below above =
      let some : last_at es p None ≡ Some (slice_index_or es m d) = some_found es p m d None (omega arith) (λ k d low high. below (suc k) d (omega arith) (omega arith)) (λ k d low high. above (suc k) d (omega arith) (omega arith)) in
      ap (λ o. cond (is_some o) (e ∷ set_at p v es) (cond (nat_le e.0 p) ((e.0, v) ∷ es) (e ∷ es))) some
      ∙ ap (λ l. e ∷ l) (set_index v es p m d (omega arith) (λ k d low high. below (suc k) d (omega arith) (omega arith)) (λ k d low high. above (suc k) d (omega arith) (omega arith)))

  module _ (xs es : List (ℕ × V)) (p n : ℕ) (same : xs ≡ es) (parts : IsPartitionPoint (λ (e : ℕ × V). nat_le e.0 p ≡ true) (λ (e : ℕ × V). nat_le e.0 p ≡ false) xs n) where
    pub next_is_none : length xs ≤ n → None ≡ next_after es p
    next_is_none l = sym (ap (λ l. next_after l p) (sym same) ∙ next_none xs p n l (λ k d low high. parts.0 k d low high))

    pub next_is_some : n < length xs → (e : ℕ × V) → Some (slice_index_or xs n e).0 ≡ next_after es p
    next_is_some l e =
        sym (ap (λ l. next_after l p) (sym same) ∙ next_some xs p n e l (λ k d low high. parts.0 k d low high) (λ k d low high. parts.1 k d low high))

    pub set_is_none : (v : V) → n ≡ 0 → es ≡ set_at p v es
    set_is_none v z = sym (ap (λ l. set_at p v l) (sym same) ∙ set_none v xs p (λ k d low high. parts.1 k d (omega arith) high) ∙ same)

    pub set_is_some : (v : V) → 0 < n → n ≤ length xs → (e : ℕ × V) → e ≡ slice_index_or es (n - 1) e → slice_set es (n - 1) (e.0, v) ≡ set_at p v es
    set_is_some v some l e is =
        ap (λ l. slice_set l (n - 1) (e.0, v)) (sym same)
        ∙ ap (λ (x : ℕ × V). slice_set xs (n - 1) (x.0, v)) (is ∙ ap (λ l. slice_index_or l (n - 1) e) (sym same))
        ∙ sym (ap (λ l. set_at p v l) (sym same) ∙ set_index v xs p (n - 1) e (omega arith) (λ k d low high. parts.0 k d low (omega arith)) (λ k d low high. parts.1 k d (omega arith) high))

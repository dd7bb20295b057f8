-- Parts of records.
use Rattle.std.proofs.Common.{◌≡◌, ℕ, ◌+◌, Bool, true, false, cond, leb, List, length, drop, Option, Some, None, Ok, refl, ap}
use Rattle.gt_object.specs.declared.kind.Kind.{Kind}
use Rattle.gt_object.specs.Header.{word, kind_of, content_begin, with_kind, header_by, header_of}
use Rattle.gt_object.specs.Trees.{mode_len, name_len, entry_at, entry_made}

pub entry_is : (c : List ℕ) (at k m : ℕ) → mode_len (drop at c) ≡ Some k → name_len (drop (k + 1) (drop at c)) ≡ Some m → entry_at c at ≡ Ok (entry_made (drop at c) k m, at + (k + m + 22))
unfolding entry_at
entry_is c at k m e d = rw (e, d) refl

some_kind : (x y : Kind × ℕ) → Some x ≡ Some y → x.0 ≡ y.0
some_kind x y e = let p : x ≡ y = cc in ap (λ (z : Kind × ℕ). z.0) p

kind_by : (w : List ℕ) (o : Option Kind) (k : Kind) (n : ℕ) → header_by w o ≡ Some (k, n) → o ≡ Some k
kind_by w None k n e = absurd cc
kind_by w (Some kind) k n e = by (leb (length (word kind) + 1) (length w)) (content_begin w (length (word kind) + 1)) e
  where
    by : (b : Bool) (o : Option ℕ) → cond b (with_kind kind o) None ≡ Some (k, n) → Some kind ≡ Some k
    by true (Some m) f = ap (λ (z : Kind). Some z) (some_kind (kind, m) (k, n) f)
    by true None f = absurd cc
    by false o f = absurd cc

pub kind_is : (w : List ℕ) (k : Kind) (n : ℕ) → header_of w ≡ Some (k, n) → kind_of w ≡ Some k
unfolding header_of
kind_is w k n e = kind_by w (kind_of w) k n e

-- Laws of the references of one repository, as a tree has them.
use Rattle.std.proofs.Common.{◌≡◌, ℕ, Bool, true, false, List, [], Option, Some, None, Result, Ok, Err, OnOk, IsSome, IsTrue, ◌||◌, nat_lt, refl, sym, ap, ◌∙◌, subst, arith}
use Rattle.std.specs.Ordering.{eq_by_cmp}
use Rattle.std.specs.FinMap as map
use Rattle.std.specs.FinMap.{from_entries}
use Rattle.gt_model.specs.Contents.{key_cmp}
use Rattle.gt_versions.specs.Versions.{last_at, put_at, is_last}
use Rattle.gt_versions.specs.Lives.{value_since}
use Rattle.gt_versions.proofs.Keys.{at_key, at_key-same, get_key}
use Rattle.gt_versions.proofs.VersionLaws.{is_last-put}
use Rattle.gt_slots.specs.Slots.{items_of, slot_ready, PutsRef, IsRoomier}

or_right : (b c : Bool) → c ≡ true → (b || c) ≡ true
or_right true c h = refl
or_right false c h = h

ready_put : (q : ℕ) (v : Option (List ℕ)) (es : List (ℕ × Option (List ℕ))) (s : Option (List (ℕ × Option (List ℕ)) × ℕ)) → IsSome s → items_of s ≡ put_at q v es → IsTrue (slot_ready q s)
ready_put q v es None i h = let no : ⊥ = grind arith in absurd no
ready_put q v es (Some s) i h = or_right (nat_lt 0 s.1) (is_last q s.0) (ap (is_last q) h ∙ is_last-put q v es)

pub puts : (es fs : List (List ℕ × (List (ℕ × Option (List ℕ)) × ℕ))) (q : ℕ) (name : List ℕ) (v : Option (List ℕ))
    → items_of (at_key fs name) ≡ put_at q v (items_of (at_key es name)) → IsSome (at_key fs name)
    → ((x : List ℕ) → eq_by_cmp key_cmp name x ≡ false → at_key fs x ≡ at_key es x)
    → PutsRef q name v (from_entries es) (from_entries fs)
puts es fs q name v here some others = record {
  here = ap items_of (get_key fs name) ∙ here ∙ ap (λ s. put_at q v (items_of s)) (sym (get_key es name));
  ready_again = let P : Option (List (ℕ × Option (List ℕ)) × ℕ) → Type 0 = λ s. IsTrue (slot_ready q s) in subst P (sym (get_key fs name)) (ready_put q v (items_of (at_key es name)) (at_key fs name) some here);
  others = λ x t. get_key fs x ∙ others x t ∙ sym (get_key es x);
}

pub roomier : (es fs : List (List ℕ × (List (ℕ × Option (List ℕ)) × ℕ))) (name : List ℕ)
    → items_of (at_key fs name) ≡ items_of (at_key es name)
    → ((q : ℕ) → IsTrue (slot_ready q (at_key es name)) → IsTrue (slot_ready q (at_key fs name)))
    → ((x : List ℕ) → eq_by_cmp key_cmp name x ≡ false → at_key fs x ≡ at_key es x)
    → IsRoomier (from_entries es) (from_entries fs)
roomier es fs name here kept others = record {
  items = λ x. ap items_of (get_key fs x) ∙ same x (eq_by_cmp key_cmp name x) refl ∙ sym (ap items_of (get_key es x));
  kept = λ q x t. let P : Option (List (ℕ × Option (List ℕ)) × ℕ) → Type 0 = λ s. IsTrue (slot_ready q s) in subst P (sym (get_key fs x)) (stays q x (eq_by_cmp key_cmp name x) refl (subst P (get_key es x) t));
}
  where
    same : (x : List ℕ) (b : Bool) → eq_by_cmp key_cmp name x ≡ b → items_of (at_key fs x) ≡ items_of (at_key es x)
    same x true t = ap items_of (at_key-same fs name x t) ∙ here ∙ sym (ap items_of (at_key-same es name x t))
    same x false t = ap items_of (others x t)

    stays : (q : ℕ) (x : List ℕ) (b : Bool) → eq_by_cmp key_cmp name x ≡ b → IsTrue (slot_ready q (at_key es x)) → IsTrue (slot_ready q (at_key fs x))
    stays q x true t h = let P : Option (List (ℕ × Option (List ℕ)) × ℕ) → Type 0 = λ s. IsTrue (slot_ready q s) in subst P (sym (at_key-same fs name x t)) (kept q (subst P (at_key-same es name x t) h))
    stays q x false t h = let P : Option (List (ℕ × Option (List ℕ)) × ℕ) → Type 0 = λ s. IsTrue (slot_ready q s) in subst P (sym (others x t)) h

pub roomier_new : (es fs : List (List ℕ × (List (ℕ × Option (List ℕ)) × ℕ))) (name : List ℕ)
    → at_key es name ≡ None → items_of (at_key fs name) ≡ []
    → ((x : List ℕ) → eq_by_cmp key_cmp name x ≡ false → at_key fs x ≡ at_key es x)
    → IsRoomier (from_entries es) (from_entries fs)
roomier_new es fs name none here others = roomier es fs name (here ∙ sym (ap items_of none)) (λ q t. let P : Option (List (ℕ × Option (List ℕ)) × ℕ) → Type 0 = λ s. IsTrue (slot_ready q s) in let no : false ≡ true = subst P none t in let bad : ⊥ = cc in absurd bad) others

pub ready_at : {T E : Type 0} (res : Result T E) (fs : List (List ℕ × (List (ℕ × Option (List ℕ)) × ℕ))) (name : List ℕ) → OnOk res ((q : ℕ) → IsTrue (slot_ready q (at_key fs name))) → OnOk res ((q : ℕ) → IsTrue (slot_ready q (map.get (from_entries {R = key_cmp} fs) name)))
ready_at (Ok r) fs name h = λ q. let P : Option (List (ℕ × Option (List ℕ)) × ℕ) → Type 0 = λ s. IsTrue (slot_ready q s) in subst P (sym (get_key fs name)) (h q)
ready_at (Err e) fs name h = tt

pub found : (es : List (List ℕ × (List (ℕ × Option (List ℕ)) × ℕ))) (c p : ℕ) (name : List ℕ) (slot : Option (List (ℕ × Option (List ℕ)) × ℕ)) (value : Option (List ℕ))
    → slot ≡ at_key es name → value ≡ value_since c (last_at (items_of slot) p None)
    → value ≡ value_since c (last_at (items_of (map.get (from_entries {R = key_cmp} es) name)) p None)
found es c p name slot value a b = b ∙ ap (λ s. value_since c (last_at (items_of s) p None)) (a ∙ sym (get_key es name))

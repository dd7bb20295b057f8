-- A packed file that was written is read as its list.
use Rattle.std.proofs.Common.{◌≡◌, ℕ, ◌+◌, ◌<◌, Bool, true, false, eqb, not, List, [], ◌∷◌, ◌++◌, map, Option, Some, None, Result, Ok, refl, sym, ap, subst, ◌∙◌, append_assoc, arith}
use Rattle.std.specs.Prelude.{codes, nat_eq, is_some, IfSome}
use Rattle.std.specs.List.{AllByRecursion, starts_with, flat_map, list_all}
use Rattle.std.specs.List.Sorted.{IsStrictlySortedBy}
use Rattle.std.specs.Ordering.{nat_cmp, is_eq, ordering_reverse}
use Rattle.std.specs.declared.cmp.Ordering.TheVariants.{Less, Greater}
use Rattle.std.specs.Cmp.Lexicographic.{slice_cmp}
use Rattle.std.specs.Map.{lookup}
use Rattle.std.specs.BTreeMap.{insert_entry, is_at}
use Rattle.std.proofs.lemmas.Bool.{eqb-true, and_parts}
use Rattle.std.proofs.lemmas.List.{append-nil}
use Rattle.std.proofs.lemmas.List.Concat.{flat_map-cons}
use Rattle.std.proofs.lemmas.Cmp.{nat_list_cmp_total}
use Rattle.std.proofs.lemmas.Map.Text.{is_eq-slice_cmp}
use Rattle.hex.specs.Hex.{encode_lower}
use Rattle.gt_reftext.specs.declared.packed_ref.PackedRef.{PackedRef}
use Rattle.gt_name.specs.References.{bad_ref}
use Rattle.gt_reftext.specs.Lines.{name_of, ref_line, is_zero}
use Rattle.gt_reftext.specs.Packed.{Entry, PackedSoFar, put, is_named, has_name, after_line, read_from, to_ref, packed_of, list_of, Ascends}
use Rattle.gt_reftext.specs.Spelling.{ref_text, packed_text, IsName, IsPackedRef}
use Rattle.gt_reftext.proofs.PartsLemmas.{line_goes}
use Rattle.gt_reftext.proofs.LineLemmas.{NoFeed, parts_line, no_feed-append, digits_feed, digits_caret, name_feed, name_back, ref_line_back}

-- ---- the order

abbrev entry : PackedRef → Entry
entry r = (r.name, (r.value, r.peeled))

abbrev Below : List ℕ → List Entry → Type 0
Below name es = AllByRecursion (λ e. slice_cmp nat_cmp e.0 name ≡ Less) es

above : (a b : List ℕ) → slice_cmp nat_cmp a b ≡ Less → slice_cmp nat_cmp b a ≡ Greater
above a b h = nat_list_cmp_total.antisymm b a ∙ ap ordering_reverse h

insert_end : (es : List Entry) (k : List ℕ) (v : List ℕ × Option (List ℕ)) → Below k es → insert_entry (slice_cmp nat_cmp) es k v ≡ es ++ (k, v) ∷ []
insert_end [] k v h = refl
insert_end (e ∷ es) k v h = rw (above e.0 k h.0) (ap (λ (t : List Entry). e ∷ t) (insert_end es k v h.1))

lookup_none : (es : List Entry) (k : List ℕ) → Below k es → is_some (lookup (is_at (slice_cmp nat_cmp k)) es) ≡ false
lookup_none [] k h = refl
lookup_none (e ∷ es) k h = rw (above e.0 k h.0) (lookup_none es k h.1)

below-append : (name : List ℕ) (es fs : List Entry) → Below name es → Below name fs → Below name (es ++ fs)
below-append name [] fs h k = k
below-append name (e ∷ es) fs h k = (h.0, below-append name es fs h.1 k)

-- ---- one line

goes : (n : ℕ) (s next : PackedSoFar) (t rest : List ℕ) → NoFeed t → after_line n s t ≡ Some next → read_from s n (t ++ 10 ∷ rest) ≡ read_from next (n + 1) rest
goes n s next t rest h moved = sym (line_goes n s next (t ++ 10 ∷ rest) t rest (read_from s n (t ++ 10 ∷ rest)) (parts_line t rest h) moved refl)

ref_moves : (n : ℕ) (s : PackedSoFar) (line : List ℕ) (r : PackedRef) → eqb n 1 ≡ false → starts_with nat_eq line (codes "^") ≡ false → ref_line line ≡ Some r → has_name s r.name ≡ false → after_line n s line ≡ Some (put s.0 s.1, Some r)
unfolding after_line
ref_moves n s line r one caret is fresh = rw (one, caret, is, fresh) refl

peel_moves : (n : ℕ) (es : List Entry) (name value p : List ℕ) → eqb n 1 ≡ false → name_of (encode_lower p) ≡ Some p
    → after_line n (es, Some (record { name = name; value = value; peeled = None })) (94 ∷ encode_lower p) ≡ Some (es, Some (record { name = name; value = value; peeled = Some p }))
unfolding after_line
peel_moves n es name value p one is = rw (one, is) refl

not_one : (n : ℕ) → 1 < n → eqb n 1 ≡ false
not_one n lt = by (eqb n 1) refl
  where
    by : (b : Bool) → eqb n 1 ≡ b → b ≡ false
    by true e = absurd (omega (arith, eqb-true _ _ e, lt))
    by false e = refl

-- the line, its line feed, and what stands behind
shape : (e name q rest : List ℕ) → (e ++ (32 ∷ (name ++ (10 ∷ q)))) ++ rest ≡ (e ++ 32 ∷ name) ++ 10 ∷ (q ++ rest)
shape e name q rest =
    append_assoc e (32 ∷ (name ++ (10 ∷ q))) rest ∙ ap (λ (t : List ℕ). e ++ 32 ∷ t) (append_assoc name (10 ∷ q) rest) ∙ sym (append_assoc e (32 ∷ name) (10 ∷ (q ++ rest)))

abbrev plain : List ℕ → List ℕ → PackedRef
plain name value = record { name = name; value = value; peeled = None }

-- the line of a reference
ref_read : (n : ℕ) (es : List Entry) (last : Option PackedRef) (name value q rest : List ℕ) → 1 < n → bad_ref name ≡ None → IsName value → is_zero value ≡ false → has_name (es, last) name ≡ false
    → read_from (es, last) n ((encode_lower value ++ (32 ∷ (name ++ (10 ∷ q)))) ++ rest) ≡ read_from (put es last, Some (plain name value)) (n + 1) (q ++ rest)
ref_read n es last name value q rest lt good is some fresh =
    let line : List ℕ = encode_lower value ++ 32 ∷ name in
    let feed : NoFeed (encode_lower value ++ 32 ∷ name) = no_feed-append (encode_lower value) (32 ∷ name) (digits_feed value is.1) (refl, name_feed name good) in
    let moved = ref_moves n (es, last) (encode_lower value ++ 32 ∷ name) (plain name value) (not_one n lt) (digits_caret value (32 ∷ name) is) (ref_line_back value name is some good) fresh in
    ap (λ (t : List ℕ). read_from (es, last) n t) (shape (encode_lower value) name q rest) ∙ goes n (es, last) (put es last, Some (plain name value)) (encode_lower value ++ 32 ∷ name) (q ++ rest) feed moved

-- both lines of a reference
one_ref : (n : ℕ) (es : List Entry) (last : Option PackedRef) (name value : List ℕ) (peeled : Option (List ℕ)) (rest : List ℕ) → 1 < n → bad_ref name ≡ None → IsName value → is_zero value ≡ false → IfSome peeled IsName → has_name (es, last) name ≡ false
    → (m : ℕ) × (1 < m) × (read_from (es, last) n (ref_text (record { name = name; value = value; peeled = peeled }) ++ rest) ≡ read_from (put es last, Some (record { name = name; value = value; peeled = peeled })) m rest)
one_ref n es last name value None rest lt good is some inner fresh = (n + 1, omega (arith, lt), ref_read n es last name value [] rest lt good is some fresh)
one_ref n es last name value (Some p) rest lt good is some inner fresh =
    let first = ref_read n es last name value (94 ∷ (encode_lower p ++ 10 ∷ [])) rest lt good is some fresh in
    let tail : (94 ∷ (encode_lower p ++ 10 ∷ [])) ++ rest ≡ (94 ∷ encode_lower p) ++ 10 ∷ rest = ap (λ (t : List ℕ). 94 ∷ t) (append_assoc (encode_lower p) (10 ∷ []) rest) in
    let moved = peel_moves (n + 1) (put es last) name value p (not_one (n + 1) (omega (arith, lt))) (name_back p inner) in
    let second = goes (n + 1) (put es last, Some (plain name value)) (put es last, Some (record { name = name; value = value; peeled = Some p })) (94 ∷ encode_lower p) rest (refl, digits_feed p inner.1) moved in
    (n + 1 + 1, omega (arith, lt), first ∙ ap (λ (t : List ℕ). read_from (put es last, Some (plain name value)) (n + 1) t) tail ∙ second)

-- ---- all lines

abbrev last_list : Option PackedRef → List Entry
last_list None = []
last_list (Some r) = entry r ∷ []

below-left : (name : List ℕ) (es fs : List Entry) → Below name (es ++ fs) → Below name es
below-left name [] fs h = tt
below-left name (e ∷ es) fs h = (h.0, below-left name es fs h.1)

below-right : (name : List ℕ) (es fs : List Entry) → Below name (es ++ fs) → Below name fs
below-right name [] fs h = h
below-right name (e ∷ es) fs h = below-right name es fs h.1

named_none : (last : Option PackedRef) (name : List ℕ) → Below name (last_list last) → is_named last name ≡ false
named_none None name h = refl
named_none (Some r) name h = sym (is_eq-slice_cmp r.name name) ∙ ap is_eq h.0

fresh_name : (es : List Entry) (last : Option PackedRef) (name : List ℕ) → Below name (es ++ last_list last) → has_name (es, last) name ≡ false
fresh_name es last name h = rw (named_none last name (below-right name es (last_list last) h)) (lookup_none es name (below-left name es (last_list last) h))

below_next : (es : List Entry) (r : PackedRef) (rs : List PackedRef) → AllByRecursion (λ q. Below q.name es) rs → AllByRecursion (λ y. slice_cmp nat_cmp r.name y ≡ Less) (map (λ q. q.name) rs) → AllByRecursion (λ q. Below q.name (es ++ entry r ∷ [])) rs
below_next es r [] h k = tt
below_next es r (q ∷ rs) h k = (below-append q.name es (entry r ∷ []) h.0 (k.0, tt), below_next es r rs h.1 k.1)

read_all : (rs : List PackedRef) (es : List Entry) (last : Option PackedRef) (n : ℕ) → 1 < n → put es last ≡ es ++ last_list last → AllByRecursion (λ r. Below r.name (es ++ last_list last)) rs → Ascends rs → AllByRecursion IsPackedRef rs
    → (t : PackedSoFar) × (read_from (es, last) n (flat_map ref_text rs) ≡ Ok t) × (put t.0 t.1 ≡ (es ++ last_list last) ++ map entry rs)
unfolding read_from IsStrictlySortedBy
read_all [] es last n lt placed below up good = ((es, last), refl, placed ∙ sym (append-nil (es ++ last_list last)))
read_all (r ∷ rs) es last n lt placed below up good =
    let o = one_ref n es last r.name r.value r.peeled (flat_map ref_text rs) lt good.0.name good.0.value good.0.some good.0.peeled (fresh_name es last r.name below.0) in
    let P : List Entry → Type 0 = λ a. Below r.name a in
    let Q : List Entry → Type 0 = λ a. AllByRecursion (λ q. Below q.name a) rs in
    let here : Below r.name (put es last) = subst P (sym placed) below.0 in
    let next = read_all rs (put es last) (Some r) o.0 o.1 (insert_end (put es last) r.name (r.value, r.peeled) here) (below_next (put es last) r rs (subst Q (sym placed) below.1) up.0) up.1 good.1 in
    let whole = ap (λ (t : List ℕ). read_from (es, last) n t) (flat_map-cons ref_text r rs) ∙ o.2 ∙ next.1 in
    (next.0, whole, next.2 ∙ append_assoc (put es last) (entry r ∷ []) (map entry rs) ∙ ap (λ (a : List Entry). a ++ entry r ∷ map entry rs) placed)

-- ---- the whole file

abbrev done : List PackedRef → Result (List PackedRef) ℕ
done list = Ok list

back : (rs : List PackedRef) → map to_ref (map entry rs) ≡ rs
back [] = refl
back (r ∷ rs) = ap (λ (t : List PackedRef). r ∷ t) (back rs)

below_nothing : (rs : List PackedRef) → AllByRecursion (λ r. Below r.name []) rs
below_nothing [] = tt
below_nothing (r ∷ rs) = (tt, below_nothing rs)

feed_by : (t : List ℕ) → list_all (λ b. not (eqb b 10)) t ≡ true → NoFeed t
feed_by [] h = tt
feed_by (b ∷ t) h = let p = and_parts (not (eqb b 10)) (list_all (λ b. not (eqb b 10)) t) h in (by (eqb b 10) p.0, feed_by t p.1)
  where
    by : (c : Bool) → not c ≡ true → c ≡ false
    by true e = cc
    by false e = refl

abbrev words : List ℕ
words = codes "# pack-refs with: peeled fully-peeled sorted "

header_moves : after_line 1 ([], None) words ≡ Some ([], None)
unfolding after_line
header_moves = refl

pub read_back : (list : List PackedRef) → Ascends list → AllByRecursion IsPackedRef list → packed_of (packed_text list) ≡ Ok list
read_back list up good =
    let first = goes 1 ([], None) ([], None) words (flat_map ref_text list) (feed_by words refl) header_moves in
    let rest = read_all list [] None 2 (omega arith) refl (below_nothing list) up good in
    let whole : read_from ([], None) 1 (packed_text list) ≡ Ok rest.0 = first ∙ rest.1 in
    ap list_of whole ∙ ap (λ (a : List Entry). done (map to_ref a)) rest.2 ∙ ap done (back list)

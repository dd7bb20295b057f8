-- Which files are among those that are removed.
use Rattle.std.proofs.Common.{◌≡◌, Bool, true, false, cond, not, ◌||◌, ◌&&◌, List, [], ◌∷◌, ◌++◌, refl, sym, ap, ◌∙◌, filter, fold}
use Rattle.std.specs.List.{AllByRecursion, IsDistinct}
use Rattle.std.proofs.lemmas.List.Folds.{list_any-append}
use Rattle.gt_disk.specs.Calls.{same_file}
use Rattle.gt_disk.specs.declared.file_id.FileId.{FileId}
use Rattle.gt_trim.specs.Unnamed.{is_among, noted, once, removable_of}
use Rattle.gt_trim.proofs.Among.{same_true}

or_none : (a : Bool) → (a || false) ≡ a
or_none true = refl
or_none false = refl

or_true : (a : Bool) → (a || true) ≡ true
or_true true = refl
or_true false = refl

or_in : (a b c : Bool) → ((a || b) || c) ≡ (a || (b || c))
or_in true b c = refl
or_in false b c = refl

-- one more file, unless it is there
among_noted : (files : List FileId) (f q : FileId) → is_among (noted files f) q ≡ (is_among files q || same_file f q)
among_noted files f q = by (is_among files f) (same_file f q) refl refl
  where
    by : (b c : Bool) → is_among files f ≡ b → same_file f q ≡ c → is_among (cond b files (files ++ f ∷ [])) q ≡ (is_among files q || c)
    by true true is same = ap (is_among files) (sym (same_true f q same)) ∙ is ∙ sym (or_true (is_among files q))
    by true false is same = sym (or_none (is_among files q))
    by false c is same = list_any-append (λ g. same_file g q) files (f ∷ []) ∙ ap (λ (b : Bool). is_among files q || b) (or_none (same_file f q) ∙ same)

among_fold : (seen files : List FileId) (q : FileId) → is_among (fold noted seen files) q ≡ (is_among seen q || is_among files q)
among_fold seen [] q = sym (or_none (is_among seen q))
among_fold seen (f ∷ fs) q = among_fold (noted seen f) fs q ∙ ap (λ (b : Bool). b || is_among fs q) (among_noted seen f q) ∙ or_in (is_among seen q) (same_file f q) (is_among fs q)

among_filter : (p : FileId → Bool) (files : List FileId) (q : FileId) → is_among (filter p files) q ≡ (is_among files q && p q)
among_filter p [] q = refl
among_filter p (f ∷ fs) q = by (p f) (same_file f q) refl refl (among_filter p fs q)
  where
    none : (a b : Bool) → b ≡ false → (a && b) ≡ b
    none true b e = refl
    none false b e = sym e

    by : (b c : Bool) → p f ≡ b → same_file f q ≡ c → is_among (filter p fs) q ≡ (is_among fs q && p q) → is_among (cond b (f ∷ filter p fs) (filter p fs)) q ≡ ((c || is_among fs q) && p q)
    by true true keeps same rest = ap (λ (b : Bool). b || is_among (filter p fs) q) same ∙ sym keeps ∙ ap p (same_true f q same)
    by true false keeps same rest = ap (λ (b : Bool). b || is_among (filter p fs) q) same ∙ rest
    by false true keeps same rest = rest ∙ none (is_among fs q) (p q) (ap p (sym (same_true f q same)) ∙ keeps)
    by false false keeps same rest = rest

-- exactly the known ones that aren't named
pub among_removable : (known named : List FileId) (q : FileId) → is_among (removable_of known named) q ≡ (is_among known q && not (is_among named q))
among_removable known named q = among_filter (λ f. not (is_among named f)) (once known) q ∙ ap (λ (b : Bool). b && not (is_among named q)) (among_fold [] known q)

-- ---- each once

all_append : (P : FileId → Type 0) (files : List FileId) (f : FileId) → AllByRecursion P files → P f → AllByRecursion P (files ++ f ∷ [])
all_append P [] f all last = (last, tt)
all_append P (x ∷ fs) f all last = (all.0, all_append P fs f all.1 last)

all_filter : (P : FileId → Type 0) (p : FileId → Bool) (files : List FileId) → AllByRecursion P files → AllByRecursion P (filter p files)
all_filter P p [] all = tt
all_filter P p (x ∷ fs) all = by (p x) (all_filter P p fs all.1)
  where
    by : (b : Bool) → AllByRecursion P (filter p fs) → AllByRecursion P (cond b (x ∷ filter p fs) (filter p fs))
    by true rest = (all.0, rest)
    by false rest = rest

neither : (a b : Bool) → (a || b) ≡ false → (a ≡ false) × (b ≡ false)
neither true b e = absurd (cc e)
neither false b e = (refl, e)

distinct_append : (files : List FileId) (f : FileId) → is_among files f ≡ false → IsDistinct same_file files → IsDistinct same_file (files ++ f ∷ [])
unfolding IsDistinct
distinct_append [] f none distinct = (tt, tt)
distinct_append (x ∷ fs) f none distinct =
    let both = neither (same_file x f) (is_among fs f) none in
    (all_append (λ g. same_file x g ≡ false) fs f distinct.0 both.0, distinct_append fs f both.1 distinct.1)

distinct_noted : (files : List FileId) (f : FileId) → IsDistinct same_file files → IsDistinct same_file (noted files f)
distinct_noted files f distinct = by (is_among files f) refl
  where
    by : (b : Bool) → is_among files f ≡ b → IsDistinct same_file (cond b files (files ++ f ∷ []))
    by true is = distinct
    by false is = distinct_append files f is distinct

distinct_fold : (seen files : List FileId) → IsDistinct same_file seen → IsDistinct same_file (fold noted seen files)
distinct_fold seen [] distinct = distinct
distinct_fold seen (f ∷ fs) distinct = distinct_fold (noted seen f) fs (distinct_noted seen f distinct)

distinct_filter : (p : FileId → Bool) (files : List FileId) → IsDistinct same_file files → IsDistinct same_file (filter p files)
unfolding IsDistinct
distinct_filter p [] distinct = tt
distinct_filter p (f ∷ fs) distinct = by (p f) (all_filter (λ g. same_file f g ≡ false) p fs distinct.0) (distinct_filter p fs distinct.1)
  where
    by : (b : Bool) → AllByRecursion (λ g. same_file f g ≡ false) (filter p fs) → IsDistinct same_file (filter p fs) → IsDistinct same_file (cond b (f ∷ filter p fs) (filter p fs))
    by true all rest = (all, rest)
    by false all rest = rest

none_twice : IsDistinct same_file []
unfolding IsDistinct
none_twice = tt

pub distinct_removable : (known named : List FileId) → IsDistinct same_file (removable_of known named)
distinct_removable known named = distinct_filter (λ f. not (is_among named f)) (once known) (distinct_fold [] known none_twice)

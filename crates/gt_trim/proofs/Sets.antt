-- Sets of files beside lists of files.
use Rattle.std.proofs.Common.{◌≡◌, ℕ, ◌+◌, ◌<◌, Bool, true, false, cond, not, ◌||◌, List, [], ◌∷◌, ◌++◌, length, get_or, take, refl, sym, ap, ◌∙◌, subst, filter, append-nil}
use Rattle.std.specs.BTreeSet.{BTreeSet, contains}
use Rattle.std.specs.BTreeMap.{is_at}
use Rattle.std.proofs.lemmas.List.{take_more}
use Rattle.std.proofs.lemmas.List.Elements.{filter-append}
use Rattle.std.proofs.lemmas.List.Folds.{list_any-append}
use Rattle.std.proofs.lemmas.List.Sums.{fold-append}
use Rattle.gt_disk.specs.Calls.{same_file}
use Rattle.gt_disk.specs.Files.{file_cmp}
use Rattle.gt_disk.specs.declared.file_id.FileId.{FileId}
use Rattle.gt_trim.specs.Unnamed.{Agrees, is_among, noted, once, removable_of}
use Rattle.gt_trim.proofs.Among.{is_eq-file_cmp, same_true}

or_cond : (a b : Bool) → (a || (b || false)) ≡ cond b true a
or_cond true true = refl
or_cond true false = refl
or_cond false true = refl
or_cond false false = refl

or_third : (n k b : Bool) → (n || (k || (b || false))) ≡ cond b true (n || k)
or_third true true true = refl
or_third true true false = refl
or_third true false true = refl
or_third true false false = refl
or_third false true true = refl
or_third false true false = refl
or_third false false true = refl
or_third false false false = refl

-- the set has these files and those
abbrev pub HasBoth : BTreeSet FileId → List FileId → List FileId → Type 0
HasBoth set named seen = (q : FileId) → contains file_cmp set q ≡ (is_among named q || is_among seen q)

-- a file more, and the set has what it had
module _ (s n : BTreeSet FileId) (f : FileId) (up : (q : FileId) → contains file_cmp n q ≡ cond (is_at (file_cmp f) q) true (contains file_cmp s q)) where
  more : (q : FileId) → contains file_cmp n q ≡ cond (same_file f q) true (contains file_cmp s q)
  more q = up q ∙ ap (λ (b : Bool). cond b true (contains file_cmp s q)) (is_eq-file_cmp f q)

  pub agrees_more : (files : List FileId) → Agrees s files → Agrees n (files ++ f ∷ [])
  agrees_more files a q = more q ∙ ap (cond (same_file f q) true) (a q) ∙ sym (or_cond (is_among files q) (same_file f q)) ∙ sym (list_any-append (λ g. same_file g q) files (f ∷ []))

  pub has_more : (named seen : List FileId) → HasBoth s named seen → HasBoth n named (noted seen f)
  has_more named seen has q = more q ∙ ap (cond (same_file f q) true) (has q) ∙ by (is_among seen f) refl
    where
      there : (b : Bool) → is_among seen f ≡ true → same_file f q ≡ b → cond b true (is_among named q || is_among seen q) ≡ (is_among named q || is_among seen q)
      there false is same = refl
      there true is same = sym (ap (λ (b : Bool). is_among named q || b) (ap (is_among seen) (sym (same_true f q same)) ∙ is) ∙ or_true (is_among named q))
        where
          or_true : (b : Bool) → (b || true) ≡ true
          or_true true = refl
          or_true false = refl

      by : (b : Bool) → is_among seen f ≡ b → cond (same_file f q) true (is_among named q || is_among seen q) ≡ (is_among named q || is_among (cond b seen (seen ++ f ∷ [])) q)
      by true is = there (same_file f q) is refl
      by false is = sym (ap (λ (b : Bool). is_among named q || b) (list_any-append (λ g. same_file g q) seen (f ∷ [])) ∙ or_third (is_among named q) (is_among seen q) (same_file f q))

-- a file more, at its place
pub once_more : (files : List FileId) (i : ℕ) (d : FileId) → i < length files → once (take (i + 1) files) ≡ noted (once (take i files)) (get_or files i d)
once_more files i d lt = ap once (take_more files i d lt) ∙ fold-append noted [] (take i files) (get_or files i d ∷ [])

-- those that aren't named, once a file more is noted
module _ (named seen : List FileId) (f : FileId) where
  abbrev unnamed : List FileId → List FileId
  unnamed files = filter (λ g. not (is_among named g)) files

  pub unnamed_noted : unnamed (noted seen f) ≡ cond (is_among named f || is_among seen f) (unnamed seen) (unnamed seen ++ f ∷ [])
  unnamed_noted = by (is_among named f) (is_among seen f) refl
    where
      by : (n b : Bool) → is_among named f ≡ n → unnamed (cond b seen (seen ++ f ∷ [])) ≡ cond (n || b) (unnamed seen) (unnamed seen ++ f ∷ [])
      by true true e = refl
      by false true e = refl
      by true false e = filter-append (λ g. not (is_among named g)) seen (f ∷ []) ∙ ap (λ (b : Bool). unnamed seen ++ cond (not b) (f ∷ []) []) e ∙ append-nil (unnamed seen)
      by false false e = filter-append (λ g. not (is_among named g)) seen (f ∷ []) ∙ ap (λ (b : Bool). unnamed seen ++ cond (not b) (f ∷ []) []) e

-- one of the known files more, with a set of the named and of what was noted
pub files_next : (known named : List FileId) (i : ℕ) (d : FileId) → i < length known → (s : BTreeSet FileId) (files new : List FileId) → new ≡ cond (contains file_cmp s (get_or known i d)) files (files ++ get_or known i d ∷ [])
    → HasBoth s named (once (take i known)) → files ≡ removable_of (take i known) named → new ≡ removable_of (take (i + 1) known) named
files_next known named i d lt s files new made has is =
    let f = get_or known i d in
    made ∙ ap (λ (fs : List FileId). cond (contains file_cmp s f) fs (fs ++ f ∷ [])) is ∙ ap (λ (b : Bool). cond b (removable_of (take i known) named) (removable_of (take i known) named ++ f ∷ [])) (has f)
    ∙ sym (unnamed_noted named (once (take i known)) f) ∙ ap (λ (fs : List FileId). filter (λ g. not (is_among named g)) fs) (sym (once_more known i d lt))

pub set_next : (known named : List FileId) (i : ℕ) (d : FileId) → i < length known → (s n : BTreeSet FileId) → ((q : FileId) → contains file_cmp n q ≡ cond (is_at (file_cmp (get_or known i d)) q) true (contains file_cmp s q))
    → HasBoth s named (once (take i known)) → HasBoth n named (once (take (i + 1) known))
set_next known named i d lt s n up has = subst (HasBoth n named) (sym (once_more known i d lt)) (has_more s n (get_or known i d) up named (once (take i known)) has)

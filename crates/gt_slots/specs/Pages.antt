-- Entries in the order of their keys, in pages.
use Rattle.std.specs.Prelude.{◌≡◌, ℕ, zero, suc, ◌≤◌, ◌<◌, Bool, true, false, if◌then◌else◌, T, List, [], ◌∷◌, ◌++◌, length, take, drop, slice_index_or, slice_set, codes}
use Rattle.std.specs.List.{insert}
use Rattle.std.specs.Ordering.{is_lt}
use Rattle.std.specs.FinMap.{is_sorted}
use Rattle.gt_model.specs.Contents.{key_cmp}

-- a text, or what begins with it and a slash
abbrev pub probe : List ℕ → Bool → List ℕ
probe text slash = if slash then text ++ codes "/" else text

abbrev pub is_before : List ℕ → List ℕ → Bool
is_before name t = is_lt (key_cmp name t)

-- how many entries a page has at most
abbrev pub page_limit : ℕ
page_limit = 512

module _ {X : Type 0} where
  -- the entries of all pages
  abbrev pub all : List (List (List ℕ × X)) → List (List ℕ × X)
  all [] = []
  all (p ∷ ps) = p ++ all ps

  abbrev pub AllBefore : List ℕ → List (List ℕ × X) → Type 0
  AllBefore t [] = Unit {0}
  AllBefore t (e ∷ es) = (is_before e.0 t ≡ true) × AllBefore t es

  abbrev pub NoneBefore : List ℕ → List (List ℕ × X) → Type 0
  NoneBefore t [] = Unit {0}
  NoneBefore t (e ∷ es) = (is_before e.0 t ≡ false) × NoneBefore t es

  -- whether its last entry is before a text
  abbrev pub ends_before : List ℕ → List (List ℕ × X) → Bool
  ends_before t [] = true
  ends_before t (e ∷ []) = is_before e.0 t
  ends_before t (e ∷ f ∷ es) = ends_before t (f ∷ es)

  -- no page is empty
  abbrev pub NoneEmpty : List (List (List ℕ × X)) → Type 0
  NoneEmpty [] = Unit {0}
  NoneEmpty (p ∷ ps) = (0 < length p) × NoneEmpty ps

  -- no page has more entries than this
  abbrev pub NoneLonger : ℕ → List (List (List ℕ × X)) → Type 0
  NoneLonger n [] = Unit {0}
  NoneLonger n (p ∷ ps) = (length p ≤ n) × NoneLonger n ps

  -- pages in order
  pub record IsWell (ps : List (List (List ℕ × X))) : Type 0 where
    pub sorted : T (is_sorted key_cmp (all ps))
    pub full : NoneEmpty ps
    pub short : NoneLonger page_limit ps

  -- the page of this index, none past the last
  abbrev pub page : List (List (List ℕ × X)) → ℕ → List (List ℕ × X)
  page [] i = []
  page (p ∷ ps) zero = p
  page (p ∷ ps) (suc i) = page ps i

  -- what stands before a place, and what stands from it on
  abbrev pub front : List (List (List ℕ × X)) → ℕ → ℕ → List (List ℕ × X)
  front [] i j = []
  front (p ∷ ps) zero j = take j p
  front (p ∷ ps) (suc i) j = p ++ front ps i j

  abbrev pub rest : List (List (List ℕ × X)) → ℕ → ℕ → List (List ℕ × X)
  rest [] i j = []
  rest (p ∷ ps) zero j = drop j p ++ all ps
  rest (p ∷ ps) (suc i) j = rest ps i j

  -- the place where what isn't before a text begins: at an entry, or behind the last page
  pub record IsPlace (t : List ℕ) (ps : List (List (List ℕ × X))) (i j : ℕ) : Type 0 where
    pub fits : i ≤ length ps
    pub lands : i < length ps → j < length (page ps i)
    pub before : AllBefore t (front ps i j)
    pub after : NoneBefore t (rest ps i j)

  -- The page that an entry of this key goes into isn't full.
  abbrev pub HasRoom : List ℕ → List (List (List ℕ × X)) → Type 0
  HasRoom t ps = (i j : ℕ) → IsPlace t ps i j → i < length ps → length (page ps i) < page_limit

  -- A place at an entry of this key.
  pub record IsAt (t : List ℕ) (ps : List (List (List ℕ × X))) (i j : ℕ) : Type 0 where
    pub place : IsPlace t ps i j
    pub page_fits : i < length ps
    pub slot_fits : j < length (page ps i)
    pub key : (d : List ℕ × X) → (slice_index_or (page ps i) j d).0 ≡ t

  -- fs is es with an entry more.
  pub record Inserts (e : List ℕ × X) (es fs : List (List ℕ × X)) : Type 0 where
    pub left : List (List ℕ × X)
    pub right : List (List ℕ × X)
    pub old : es ≡ left ++ right
    pub new : fs ≡ left ++ e ∷ right

  -- The entry of this index keeps its key, and the others stay.
  pub record Replaces (j : ℕ) (old new : List (List ℕ × X)) : Type 0 where
    pub set : (d : List ℕ × X) → new ≡ slice_set old j (slice_index_or new j d)
    pub key : (d : List ℕ × X) → (slice_index_or new j d).0 ≡ (slice_index_or old j d).0

  -- The page of this index lost its upper half.
  pub record IsHalved (i : ℕ) (upper : List (List ℕ × X)) (old new : List (List (List ℕ × X))) : Type 0 where
    pub set : new ≡ slice_set old i (page new i)
    pub whole : page new i ++ upper ≡ page old i
    pub lower_some : 0 < length (page new i)
    pub upper_some : 0 < length upper

  -- The upper half of the page of this index is a page of its own behind it.
  pub record IsSplit (i : ℕ) (old new : List (List (List ℕ × X))) : Type 0 where
    pub upper : List (List ℕ × X)
    pub lowered : List (List (List ℕ × X))
    pub halved : IsHalved i upper old lowered
    pub set : new ≡ insert lowered (suc i) upper

  -- One entry of one page keeps its key, and all others stay.
  pub record Edits (i j : ℕ) (old new : List (List (List ℕ × X))) : Type 0 where
    pub set : new ≡ slice_set old i (page new i)
    pub entry : Replaces j (page old i) (page new i)

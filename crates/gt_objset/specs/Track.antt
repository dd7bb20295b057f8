-- One repository at each position: when it is there, what it is, and the versions of its own objects' places.
use Rattle.std.specs.Prelude.{◌≡◌, ℕ, Bool, false, List, [], ◌∷◌, Option, Some, None, IsTrue}
use Rattle.std.specs.Option.{option_map, unwrap_or}
use Rattle.std.specs.FinMap as map
use Rattle.std.specs.FinMap.{FinMap, code}
use Rattle.std.specs.Coded.{Coded, code_by, coded×, coded_ℕ, coded_list, coded_option, coded_bool}
use Rattle.std.proofs.Common.{refl}
use Rattle.gt_model.specs.Contents.{key_cmp, and_then}
use Rattle.gt_versions.specs.Versions.{last_at, IsUpTo, ready, put_at}
use Rattle.gt_versions.specs.Lives.{lives_since, value_since}
use Rattle.gt_objset.specs.declared.place.Place.{Place}
use Rattle.gt_objset.specs.declared.head.HeadChange.{HeadChange}
use Rattle.gt_objset.specs.Places.{Head, last_put}

-- since when it is there, whether it is a pool, the path of its pool, and the places of its own objects
pub record Track : Type 0 where
  pub lives : List (ℕ × Bool) × ℕ
  pub kinds : List (ℕ × Option Bool) × ℕ
  pub pools : List (ℕ × Option (List ℕ)) × ℕ
  pub objects : FinMap key_cmp (List (ℕ × Option Place) × ℕ)

abbrev pub place_code : Coded Place
place_code =
    code_by ((ℕ × ℕ) × (ℕ × ℕ)) (coded× (coded× coded_ℕ coded_ℕ) (coded× coded_ℕ coded_ℕ))
    (λ p. ((p.file.kind, p.file.number), (p.at, p.len))) (λ q. record { file = record { kind = q.0.0; number = q.0.1 }; at = q.1.0; len = q.1.1 }) (λ _. refl)

abbrev pub track_code : Coded Track
track_code =
    code_by (((List (ℕ × Bool) × ℕ) × (List (ℕ × Option Bool) × ℕ)) × ((List (ℕ × Option (List ℕ)) × ℕ) × FinMap key_cmp (List (ℕ × Option Place) × ℕ)))
    (coded× (coded× (coded× (coded_list (coded× coded_ℕ coded_bool)) coded_ℕ) (coded× (coded_list (coded× coded_ℕ (coded_option coded_bool))) coded_ℕ))
    (coded× (coded× (coded_list (coded× coded_ℕ (coded_option (coded_list coded_ℕ)))) coded_ℕ) (code (coded_list coded_ℕ) (coded× (coded_list (coded× coded_ℕ (coded_option place_code))) coded_ℕ))))
    (λ t. ((t.lives, t.kinds), (t.pools, t.objects))) (λ p. record { lives = p.0.0; kinds = p.0.1; pools = p.1.0; objects = p.1.1 }) (λ _. refl)

abbrev pub items_of : Option (List (ℕ × Option Place) × ℕ) → List (ℕ × Option Place)
items_of None = []
items_of (Some s) = s.0

abbrev pub slot_ready : ℕ → Option (List (ℕ × Option Place) × ℕ) → Bool
slot_ready q None = false
slot_ready q (Some s) = ready q s

-- ---- what it is at a position

abbrev pub head_of : Option ℕ → Option (ℕ × Option Bool) → Option (ℕ × Option (List ℕ)) → Option Head
head_of life kind pool = option_map (λ c. record { is_pool = unwrap_or (value_since c kind) false; pool = value_since c pool }) life

abbrev pub own_of : Option ℕ → Option (ℕ × Option Place) → Option Place
own_of life version = and_then life (λ c. value_since c version)

abbrev pub life_at : Track → ℕ → Option ℕ
life_at t p = lives_since t.lives.0 p

abbrev pub head_in_track : Track → ℕ → Option Head
head_in_track t p = head_of (life_at t p) (last_at t.kinds.0 p None) (last_at t.pools.0 p None)

-- whether it is there and is a pool
abbrev pub is_pool_of : Option Head → Bool
is_pool_of None = false
is_pool_of (Some h) = h.is_pool

abbrev pub is_pool_at : Track → ℕ → Bool
is_pool_at t p = is_pool_of (head_in_track t p)

abbrev pub own_in_track : Track → ℕ → List ℕ → Option Place
own_in_track t p x = own_of (life_at t p) (last_at (items_of (map.get t.objects x)) p None)

-- what is taken from a pool: its own, where there was none
abbrev pub taken : Option Place → Option Place → Option Place
taken None place = place
taken (Some own) place = None

-- ---- what is put at a position

-- a version, where there is one
abbrev pub put_if : {V : Type 0} → ℕ → Option V → List (ℕ × V) → List (ℕ × V)
put_if q None es = es
put_if q (Some v) es = put_at q v es

-- nothing stands past this position
pub record IsTrackUpTo (q : ℕ) (t : Track) : Type 0 where
  pub lives : IsUpTo q t.lives.0
  pub kinds : IsUpTo q t.kinds.0
  pub pools : IsUpTo q t.pools.0
  pub objects : (x : List ℕ) → IsUpTo q (items_of (map.get t.objects x))

-- each put has a place
abbrev pub HasSlots : ℕ → (List ℕ → Option (List (ℕ × Option Place) × ℕ)) → List (List ℕ × Option Place) → Type 0
HasSlots q slots [] = Unit {0}
HasSlots q slots (e ∷ es) = IsTrue (slot_ready q (slots e.0)) × HasSlots q slots es

pub record HasRoom (q : ℕ) (puts : List (List ℕ × Option Place)) (t : Track) : Type 0 where
  pub lives : IsTrue (ready q t.lives)
  pub kinds : IsTrue (ready q t.kinds)
  pub pools : IsTrue (ready q t.pools)
  pub slots : HasSlots q (λ x. map.get t.objects x) puts

-- What was said of each name last is put.
abbrev pub PutsSlots : ℕ → List (List ℕ × Option Place) → (List ℕ → Option (List (ℕ × Option Place) × ℕ)) → (List ℕ → Option (List (ℕ × Option Place) × ℕ)) → Type 0
PutsSlots q puts old new = (x : List ℕ) → items_of (new x) ≡ put_if q (last_put puts x None) (items_of (old x))

pub record Puts (q : ℕ) (head : HeadChange) (puts : List (List ℕ × Option Place)) (old new : Track) : Type 0 where
  pub lives : new.lives.0 ≡ put_if q head.life old.lives.0
  pub kinds : new.kinds.0 ≡ put_if q head.kind old.kinds.0
  pub pools : new.pools.0 ≡ put_if q head.pool old.pools.0
  pub objects : PutsSlots q puts (λ x. map.get old.objects x) (λ x. map.get new.objects x)

-- Room may be more, and nothing else differs.
pub record AreRoomier (old new : List ℕ → Option (List (ℕ × Option Place) × ℕ)) : Type 0 where
  pub items : (x : List ℕ) → items_of (new x) ≡ items_of (old x)
  pub kept : (q : ℕ) (x : List ℕ) → IsTrue (slot_ready q (old x)) → IsTrue (slot_ready q (new x))

pub record IsRoomier (old new : Track) : Type 0 where
  pub lives : new.lives.0 ≡ old.lives.0
  pub kinds : new.kinds.0 ≡ old.kinds.0
  pub pools : new.pools.0 ≡ old.pools.0
  pub objects : (x : List ℕ) → items_of (map.get new.objects x) ≡ items_of (map.get old.objects x)

-- It was never there.
pub record IsUnborn (t : Track) : Type 0 where
  pub lives : t.lives.0 ≡ []
  pub kinds : t.kinds.0 ≡ []
  pub pools : t.pools.0 ≡ []
  pub objects : (x : List ℕ) → items_of (map.get t.objects x) ≡ []

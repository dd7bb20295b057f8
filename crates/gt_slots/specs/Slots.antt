-- The references of one repository, each with its values from positions on.
use Rattle.std.specs.Prelude.{◌≡◌, ℕ, Bool, false, List, [], Option, Some, None, IsTrue}
use Rattle.std.specs.Ordering.{eq_by_cmp}
use Rattle.std.specs.FinMap as map
use Rattle.std.specs.FinMap.{FinMap, code}
use Rattle.std.specs.Coded.{Coded, coded×, coded_ℕ, coded_list, coded_option}
use Rattle.gt_model.specs.Contents.{key_cmp}
use Rattle.gt_versions.specs.Versions.{ready, put_at}

-- the values of a reference, none where it was deleted, and the room behind them
abbrev pub Slot : Type 0
Slot = List (ℕ × Option (List ℕ)) × ℕ

abbrev pub Slots : Type 0
Slots = FinMap key_cmp (List (ℕ × Option (List ℕ)) × ℕ)

abbrev pub slots_code : Coded (FinMap key_cmp (List (ℕ × Option (List ℕ)) × ℕ))
slots_code = code (coded_list coded_ℕ) (coded× (coded_list (coded× coded_ℕ (coded_option (coded_list coded_ℕ)))) coded_ℕ)

abbrev pub items_of : Option (List (ℕ × Option (List ℕ)) × ℕ) → List (ℕ × Option (List ℕ))
items_of None = []
items_of (Some s) = s.0

abbrev pub slot_ready : ℕ → Option (List (ℕ × Option (List ℕ)) × ℕ) → Bool
slot_ready q None = false
slot_ready q (Some s) = ready q s

-- One reference has this value from the position on.
pub record PutsRef (q : ℕ) (name : List ℕ) (v : Option (List ℕ)) (old new : FinMap key_cmp (List (ℕ × Option (List ℕ)) × ℕ)) : Type 0 where
  pub here : items_of (map.get new name) ≡ put_at q v (items_of (map.get old name))
  pub ready_again : IsTrue (slot_ready q (map.get new name))
  pub others : (x : List ℕ) → eq_by_cmp key_cmp name x ≡ false → map.get new x ≡ map.get old x

-- Room may be more, and nothing else differs.
pub record IsRoomier (old new : FinMap key_cmp (List (ℕ × Option (List ℕ)) × ℕ)) : Type 0 where
  pub items : (x : List ℕ) → items_of (map.get new x) ≡ items_of (map.get old x)
  pub kept : (q : ℕ) (x : List ℕ) → IsTrue (slot_ready q (map.get old x)) → IsTrue (slot_ready q (map.get new x))

abbrev pub page_code : Coded (List (List ℕ × (List (ℕ × Option (List ℕ)) × ℕ)))
page_code = coded_list (coded× (coded_list coded_ℕ) (coded× (coded_list (coded× coded_ℕ (coded_option (coded_list coded_ℕ)))) coded_ℕ))

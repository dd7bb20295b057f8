-- The places of records in order of their names are in that order.
use Rattle.std.proofs.Common.{◌≡◌, ℕ, ◌+◌, List, [], ◌∷◌, length, Option, Some, None, Ok, sym, subst}
use Rattle.gt_bytes.specs.Standing.{IsBytes}
use Rattle.gt_pack.specs.declared.placed.Placed.{Placed}
use Rattle.gt_pack.specs.Spelling.{Packed, places, ArePacked}
use Rattle.gt_pack.specs.Index.{Rises}
use Rattle.gt_pack.specs.Reading.{pack_of}
use Rattle.gt_pack.proofs.WholeLaws.{pack_takes}

pub places_rise : (before : Option (List ℕ)) (at : ℕ) (ps : List Packed) → ArePacked before ps → Rises before (places at ps)
places_rise before at [] fits = tt
places_rise before at (p ∷ ps) fits = (fits.0.rises, places_rise (Some p.name) (at + 24 + length p.whole) ps fits.1)

pub index_rises : (bytes : List ℕ) → IsBytes bytes → (es : List Placed) → pack_of bytes ≡ Ok es → Rises None es
index_rises bytes good es e =
    let t = pack_takes bytes good es e in
    subst (Rises None) (sym t.placed) (places_rise None 8 t.records t.good.1)

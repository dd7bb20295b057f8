-- What stands in the places of a host.
use Rattle.std.proofs.Common.{◌≡◌, ◌≢◌, ◌<◌, ℕ, Bool, false, true, List, [], ◌∷◌, ◌++◌, length, get_or, Option, Some, None, slice_get, refl, sym, ◌∙◌, ap, ap₂, subst, zero, suc, All, is_none, rules, arith}
use Rattle.std.proofs.Math.ListN.{set}
use Rattle.std.proofs.Math.Decide.{ℕ_discrete}
use Rattle.std.proofs.lemmas.List.{map-append}
use Rattle.std.proofs.lemmas.List.Elements.{All-append}
use Rattle.std.specs.Option.{unwrap_or, option_map, option_map_or}
use Rattle.std.proofs.lemmas.Bool.{false≢true}
use Rattle.std.proofs.lemmas.Option.{slice_get-map, slice_get_read}
use Rattle.gt_disk.specs.declared.mem.MemDisk.{MemDisk}
use Rattle.gt_outside.specs.declared.disk_slot.DiskSlot.{DiskSlot}
use Rattle.gt_outside.specs.Places.{IsAllHere, Takes, Gives, known, disk_at, is_out_at}

pub one_more_here : (disks : List MemDisk) (places : List DiskSlot) (disk : MemDisk) (place : DiskSlot) → IsAllHere disks places → place.disk ≡ Some disk → IsAllHere (disks ++ disk ∷ []) (places ++ place ∷ [])
one_more_here disks places disk place all is = record {
  each = map-append known places (place ∷ []) ∙ ap₂ (λ (ds : List MemDisk) (d : MemDisk). ds ++ d ∷ []) all.each (ap (λ (o : Option MemDisk). unwrap_or o place.last.value) is);
  here = All-append (λ (p : DiskSlot). is_none p.disk ≡ false) places (place ∷ []) all.here (search (rules, is));
}

pub all_here_disks : (disks : List MemDisk) (places : List DiskSlot) (n : ℕ) → IsAllHere disks places → disk_at places n ≡ slice_get disks n
all_here_disks disks places n all = sym (slice_get-map known places n) ∙ ap (λ (ds : List MemDisk). slice_get ds n) all.each

pub none_out : (places : List DiskSlot) (n : ℕ) → All (λ (place : DiskSlot). is_none place.disk ≡ false) places → is_out_at places n ≡ false
none_out [] n all = refl
none_out (place ∷ places) zero all = all 0 place (omega arith)
none_out (place ∷ places) (suc n) all = none_out places n (λ k d within. all (suc k) d (omega (arith, within)))

slice_get-set_same : {X : Type 0} (xs : List X) (n : ℕ) (x : X) → n < length xs → slice_get (set xs n x) n ≡ Some x
slice_get-set_same [] n x within = absurd (omega arith)
slice_get-set_same (y ∷ xs) zero x within = refl
slice_get-set_same (y ∷ xs) (suc n) x within = slice_get-set_same xs n x (omega arith)

slice_get-set_other : {X : Type 0} (xs : List X) (n k : ℕ) (x : X) → k ≢ n → slice_get (set xs n x) k ≡ slice_get xs k
slice_get-set_other [] n k x other = refl
slice_get-set_other (y ∷ xs) zero zero x other = absurd (other refl)
slice_get-set_other (y ∷ xs) zero (suc k) x other = refl
slice_get-set_other (y ∷ xs) (suc n) zero x other = refl
slice_get-set_other (y ∷ xs) (suc n) (suc k) x other = slice_get-set_other xs n k x (λ same. other (ap suc same))

-- whether the disk of a place is out
abbrev out_of : Option DiskSlot → Bool
out_of o = option_map_or (λ (p : DiskSlot). is_none p.disk) o false

pub out_within : (places : List DiskSlot) (n : ℕ) → is_out_at places n ≡ true → n < length places
out_within [] n out = absurd (false≢true out)
out_within (place ∷ places) zero out = omega arith
out_within (place ∷ places) (suc n) out = omega (arith, out_within places n out)

-- a place with a disk
pub gives-set : (places : List DiskSlot) (i n : ℕ) (place : DiskSlot) (disk : MemDisk) → i ≡ n → n < length places → place.disk ≡ Some disk → Gives n disk places (set places i place)
gives-set places i n place disk at within here =
    let put : slice_get (set places n place) n ≡ Some place = slice_get-set_same places n place within in
    subst (λ (j : ℕ). Gives n disk places (set places j place)) (sym at) (record {
      given = ap (option_map known) put ∙ ap (λ (o : Option MemDisk). Some (unwrap_or o place.last.value)) here;
      here = ap out_of put ∙ ap (λ (o : Option MemDisk). is_none o) here;
      other_disks = λ k other. ap (option_map known) (slice_get-set_other places n k place other);
      others = λ k other. ap out_of (slice_get-set_other places n k place other);
    })

-- a place without its disk, which it still knows
pub takes-set : (places : List DiskSlot) (i n : ℕ) (before after : DiskSlot) (disk : MemDisk) → i ≡ n → n < length places → before ≡ get_or places n before → before.disk ≡ Some disk → after.disk ≡ None → after.last.value ≡ disk → Takes n disk places (set places i after)
takes-set places i n before after disk at within stood here out last =
    let got : slice_get places n ≡ Some before = slice_get_read places (length places) n before refl within stood in
    let put : slice_get (set places n after) n ≡ Some after = slice_get-set_same places n after within in
    let was : disk_at places n ≡ Some disk = ap (option_map known) got ∙ ap (λ (o : Option MemDisk). Some (unwrap_or o before.last.value)) here in
    let is : disk_at (set places n after) n ≡ Some disk = ap (option_map known) put ∙ ap (λ (o : Option MemDisk). Some (unwrap_or o after.last.value)) out ∙ ap Some last in
    subst (λ (j : ℕ). Takes n disk places (set places j after)) (sym at) (record {
      taken = was;
      disks = λ k. elim (ℕ_discrete k n) [ yes same ↦ subst (λ (j : ℕ). disk_at (set places n after) j ≡ disk_at places j) (sym same) (is ∙ sym was) | no other ↦ ap (option_map known) (slice_get-set_other places n k after other) ];
      out = ap out_of put ∙ ap (λ (o : Option MemDisk). is_none o) out;
      others = λ k other. ap out_of (slice_get-set_other places n k after other);
    })

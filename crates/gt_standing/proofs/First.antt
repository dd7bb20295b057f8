-- Records in a table that is a base alone, and in one whose floor rises.
use Rattle.std.proofs.Common.{◌≡◌, ◌≢◌, inr, ℕ, zero, suc, ◌+◌, ◌-◌, ◌<◌, ◌≤◌, List, [], take, Option, Some, refl, sym, ap, ◌∙◌, arith}
use Rattle.gt_disk.specs.Kinds.{entry_file}
use Rattle.gt_disk.specs.declared.file_id.FileId.{FileId}
use Rattle.gt_model.specs.declared.entry.Entry.{Entry}
use Rattle.gt_model.specs.Contents.{Content, own, after_all}
use Rattle.gt_objset.specs.declared.place.Place.{Place}
use Rattle.gt_objset.specs.Agree.{ArePlacedBy}
use Rattle.gt_objset.specs.Places.{places_after}
use Rattle.gt_objset.specs.Raised.{Raises}
use Rattle.gt_objset.specs.Table.{Table, own_at}
use Rattle.gt_standing.specs.Standing.{AreHeld, BaseHeld}
use Rattle.gt_standing.specs.Moved.{AreMovedTo}

abbrev pub no_entries : List Entry
no_entries = []

pub take_none : (n : ℕ) → take n no_entries ≡ no_entries
take_none zero = refl
take_none (suc n) = refl

-- ---- the base alone

module _ (begin : ℕ) (base : Content) (places : List ℕ → List ℕ → Option Place) (t : Table) (floor : t.floor ≡ begin) (front : t.front ≡ begin) (placed : ArePlacedBy t base places []) where
  place_first : (p : ℕ) (path x : List ℕ) → t.floor ≤ p → p ≤ t.front → own_at t p path x ≡ places path x
  place_first p path x l m = placed.own p path x l m ∙ ap (λ es. places_after base places es path x) (take_none (p - t.floor))

  pub first_held : (Held : List ℕ → Place → Type 0) → BaseHeld Held base places → AreHeld Held begin base [] t
  first_held Held held = record {
    held = λ p l m path x whole place has here. inr (held path x whole place (sym (ap (λ es. own (after_all base es) path x) (take_none (p - begin))) ∙ has) (sym (place_first p path x l m) ∙ here));
  }

  pub first_moved : ((path x : List ℕ) (place : Place) → places path x ≡ Some place → place.file.kind ≢ 4) → AreMovedTo begin begin [] t
  first_moved none = record {
    each = λ p path x place l m here kind. absurd (none path x place (sym (place_first p path x l m) ∙ here) kind);
  }

-- ---- a higher floor

module _ (begin to : ℕ) (log : List Entry) (old new : Table) (low : old.floor ≤ to) (r : Raises to old new) where
  pub raised_held : (Held : List ℕ → Place → Type 0) (base : Content) → AreHeld Held begin base log old → AreHeld Held begin base log new
  raised_held Held base h = record {
    held = λ p l m path x whole place has here.
        let f : new.floor ≡ to = r.floor in
        let g : new.front ≡ old.front = r.front in
        h.held p (omega arith) (omega arith) path x whole place has (sym (r.own p path x (omega arith)) ∙ here);
  }

  pub raised_moved : (moved : ℕ) → AreMovedTo moved begin log old → AreMovedTo moved begin log new
  raised_moved moved h = record {
    each = λ p path x place l m here kind.
        let f : new.floor ≡ to = r.floor in
        let g : new.front ≡ old.front = r.front in
        let was = h.each p path x place (omega arith) (omega arith) (sym (r.own p path x (omega arith)) ∙ here) kind in
        record {
          number = was.number;
          entry = was.entry;
          there = was.there;
          file = was.file;
          past = was.past;
          since = was.since;
          at_path = was.at_path;
          adds = was.adds;
          own = λ q a b c. r.own q path x (omega arith) ∙ was.own q (omega arith) b c;
        };
  }

-- ---- what moved records leave

pub left : (to begin : ℕ) (log : List Entry) (t : Table) (p n : ℕ) (path x : List ℕ) (place : Place) → AreMovedTo to begin log t → t.floor ≤ p → p ≤ t.front → n ≤ to → own_at t p path x ≡ Some place → place.file ≢ entry_file n
left to begin log t p n path x place h l m early here file =
    let was = h.each p path x place l m here (ap (λ (f : FileId). f.kind) file) in
    let past : to < was.number + (begin + 1) = was.past in
    let same : n ≡ was.number + (begin + 1) = ap (λ (f : FileId). f.number) (sym file ∙ was.file) in
    let no : ⊥ = omega arith in no

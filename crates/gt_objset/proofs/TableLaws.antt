-- Laws of the whole table.
use Rattle.std.proofs.Common.{◌≡◌, ℕ, ◌+◌, false, true, List, [], Option, Some, None, Result, Ok, Err, IfSome, IfOk, refl, sym, ap, ◌∙◌, subst, arith}
use Rattle.std.specs.Ordering.{eq_by_cmp}
use Rattle.std.specs.FinMap as map
use Rattle.std.specs.FinMap.{from_entries}
use Rattle.std.specs.BTreeSet.{BTreeSet}
use Rattle.gt_model.specs.Contents.{key_cmp}
use Rattle.gt_model.specs.declared.change.Change.{Change}
use Rattle.gt_model.specs.declared.entry.Entry.{Entry}
use Rattle.gt_versions.proofs.Keys.{at_key, get_key, get-same}
use Rattle.gt_objset.specs.declared.place.Place.{Place}
use Rattle.gt_objset.specs.declared.head.HeadChange.{HeadChange}
use Rattle.gt_model.specs.declared.change.Change.TheVariants.{Unlink}
use Rattle.gt_objset.specs.Places.{Head, head_after, own_after}
use Rattle.gt_objset.specs.Members.{notes}
use Rattle.gt_objset.specs.Track.{Track, IsTrackUpTo, HasRoom, Puts}
use Rattle.gt_objset.specs.Table.{Table, head_in_slot, own_in_slot, head_at, own_at, IsSlotUpTo, AllUpTo, head_change, Makes, IsPlanned, RoomHere, Changed, Steps, SameSlot, IsPrepared, Adds, IsSameTable}
use Rattle.gt_objset.proofs.TrackLaws.{slot_more}
use Rattle.gt_objset.proofs.StepLaws.{through, everywhere}

abbrev pub PoolSets : Type 0
PoolSets = List (List ℕ × BTreeSet (List ℕ))

abbrev pub table : ℕ → ℕ → List (List ℕ × Track) → PoolSets → HeadChange → List (List ℕ × Option Place) → Table
table floor front es sets head puts = record { floor = floor; front = front; repos = from_entries es; members = from_entries sets; head = head; puts = puts }

module _ (floor front : ℕ) (es : List (List ℕ × Track)) (sets : PoolSets) (head : HeadChange) (puts : List (List ℕ × Option Place)) where
  pub head_found : (p : ℕ) (path : List ℕ) (slot : Option Track) → slot ≡ at_key es path → head_in_slot slot p ≡ head_at (table floor front es sets head puts) p path
  head_found p path slot a = ap (λ s. head_in_slot s p) (a ∙ sym (get_key es path))

  pub own_found : (p : ℕ) (path x : List ℕ) (slot : Option Track) → slot ≡ at_key es path → own_in_slot slot p x ≡ own_at (table floor front es sets head puts) p path x
  own_found p path x slot a = ap (λ s. own_in_slot s p x) (a ∙ sym (get_key es path))

pub none_up : (q : ℕ) (es : List (List ℕ × Track)) → es ≡ [] → AllUpTo q (from_entries es)
none_up q es e path = let P : Option Track → Type 0 = λ s. IsSlotUpTo q s in subst P (sym (get_key es path ∙ ap (λ fs. at_key fs path) e)) tt

-- ---- adding an entry

if_some : (q : ℕ) (s : Option Track) → IsSlotUpTo q s → IfSome s (IsTrackUpTo q)
if_some q None h = tt
if_some q (Some t) h = h

pub up_here : (front q : ℕ) (es : List (List ℕ × Track)) (path : List ℕ) → q ≡ front + 1 → AllUpTo front (from_entries es) → IfSome (at_key es path) (IsTrackUpTo q)
up_here front q es path e up =
    let P : Option Track → Type 0 = λ s. IsSlotUpTo front s in
    if_some q (at_key es path) (slot_more front q (at_key es path) (omega arith) (subst P (get_key es path) (up path)))

-- what was taken out and passed on is what was prepared
pub as_given : (q : ℕ) (head given : HeadChange) (puts said : List (List ℕ × Option Place)) (a b : Option Track) → given ≡ head → said ≡ puts → Changed (Puts q given said) a b → Changed (Puts q head puts) a b
as_given q head given puts said a b e f h =
    let P : HeadChange → Type 0 = λ w. Changed (Puts q w puts) a b in
    let Q : List (List ℕ × Option Place) → Type 0 = λ w. Changed (Puts q given w) a b in
    subst P e (subst Q f h)

if_room : (q : ℕ) (puts : List (List ℕ × Option Place)) (s : Option Track) → RoomHere q puts s → IfSome s (HasRoom q puts)
if_room q puts None h = absurd h
if_room q puts (Some t) h = h

pub room_here : (front q : ℕ) (puts said : List (List ℕ × Option Place)) (es : List (List ℕ × Track)) (path : List ℕ) → said ≡ puts → q ≡ front + 1 → RoomHere (front + 1) puts (map.get (from_entries {R = key_cmp} es) path) → IfSome (at_key es path) (HasRoom q said)
room_here front q puts said es path f e h =
    let P : Option Track → Type 0 = λ s. RoomHere (front + 1) puts s in
    let Q : ℕ → Type 0 = λ n. IfSome (at_key es path) (HasRoom n puts) in
    let R : List (List ℕ × Option Place) → Type 0 = λ w. IfSome (at_key es path) (HasRoom q w) in
    subst R (sym f) (subst Q (sym e) (if_room (front + 1) puts (at_key es path) (subst P (get_key es path) h)))

module _ (floor front q : ℕ) (es fs : List (List ℕ × Track)) (sets : PoolSets) (head next : HeadChange) (puts : List (List ℕ × Option Place)) (e : Entry) (at_q : q ≡ front + 1)
    (up : AllUpTo front (from_entries es)) (prepared : IsPrepared (table floor front es sets head puts) e)
    (here : Changed (Puts q head puts) (at_key es e.path) (at_key fs e.path)) (others : (x : List ℕ) → eq_by_cmp key_cmp e.path x ≡ false → at_key fs x ≡ at_key es x) where
  abbrev old_slot : List ℕ → Option Track
  old_slot path = map.get (from_entries {R = key_cmp} es) path

  abbrev new_slot : List ℕ → Option Track
  new_slot path = map.get (from_entries {R = key_cmp} fs) path

  changed : Changed (Puts (front + 1) head puts) (old_slot e.path) (new_slot e.path)
  changed =
      let P : ℕ → Type 0 = λ n. Changed (Puts n head puts) (at_key es e.path) (at_key fs e.path) in
      let Q : Option Track → Type 0 = λ s. Changed (Puts (front + 1) head puts) s (at_key fs e.path) in
      let R : Option Track → Type 0 = λ s. Changed (Puts (front + 1) head puts) (old_slot e.path) s in
      subst R (sym (get_key fs e.path)) (subst Q (sym (get_key es e.path)) (subst P at_q here))

  abbrev own_old : List ℕ → List ℕ → Option Place
  own_old path x = own_in_slot (old_slot path) front x

  steps : (path : List ℕ) → Steps front (head_after e path (head_in_slot (old_slot path) front)) (λ x. own_after e (head_in_slot (old_slot e.path) front) own_old path x) (old_slot path) (new_slot path)
  steps = everywhere old_slot new_slot (get-same (from_entries es)) (get-same (from_entries fs)) front e up
      (through front e.change head puts e.position e.path own_old (old_slot e.path) (new_slot e.path) (λ x. refl) prepared.head prepared.puts prepared.room (up e.path) changed)
      (λ x t. get_key fs x ∙ others x t ∙ sym (get_key es x))

  pub added_up : AllUpTo q (from_entries fs)
  added_up = let P : ℕ → Type 0 = λ n. AllUpTo n (from_entries fs) in subst P (sym at_q) (λ path. (steps path).newest)

  pub added : Adds e (table floor front es sets head puts) (table floor q fs sets next puts)
  added = record {
    floor = refl;
    front = at_q;
    head_next = λ path. (steps path).head_next;
    own_next = λ path x. (steps path).own_next x;
    head_before = λ p path l. (steps path).head_before p l;
    own_before = λ p path x l. (steps path).own_before p x l;
  }

-- ---- taking memory

pub notes_at : (sets : PoolSets) (path : List ℕ) (given : Option (Option (List ℕ))) → notes (λ w. map.get (from_entries {R = key_cmp} sets) w) path given ≡ notes (λ w. at_key sets w) path given
notes_at sets path given = ap (λ s. notes s path given) (λ i w. get_key sets w i)

module _ (floor front : ℕ) (es fs : List (List ℕ × Track)) (h : (path : List ℕ) → SameSlot (at_key es path) (at_key fs path)) where
  pub slots : (path : List ℕ) → SameSlot (map.get (from_entries {R = key_cmp} es) path) (map.get (from_entries {R = key_cmp} fs) path)
  slots path =
      let P : Option Track → Type 0 = λ s. SameSlot s (at_key fs path) in
      let Q : Option Track → Type 0 = λ s. SameSlot (map.get (from_entries {R = key_cmp} es) path) s in
      subst Q (sym (get_key fs path)) (subst P (sym (get_key es path)) (h path))

  pub same_up : AllUpTo front (from_entries es) → AllUpTo front (from_entries fs)
  same_up up path = (slots path).newest front (up path)

  pub same_table : (sets more : PoolSets) (head next : HeadChange) (puts said : List (List ℕ × Option Place)) → IsSameTable (table floor front es sets head puts) (table floor front fs more next said)
  same_table sets more head next puts said = record {
    floor = refl;
    front = refl;
    heads = λ p path. (slots path).head p;
    own = λ p path x. (slots path).own p x;
  }

  pub ready : (sets : PoolSets) (head : HeadChange) (puts said : List (List ℕ × Option Place)) (e : Entry) → head ≡ head_change e.change
      → IsPlanned e.change e.position e.path (head_in_slot (at_key es e.path) front) (λ p x. own_in_slot (at_key es p) front x) puts
      → said ≡ puts → RoomHere (front + 1) said (at_key fs e.path) → notes (λ w. at_key sets w) e.path head.pool ≡ true → IsPrepared (table floor front fs sets head puts) e
  ready sets head puts said e is_head planned is_puts room noted =
      let own_eq : (λ p x. own_in_slot (at_key es p) front x) ≡ own_at (table floor front fs sets head puts) front = λ i p x. sym (ap (λ s. own_in_slot s front x) (get_key fs p) ∙ (h p).own front x) i in
      let head_eq : head_in_slot (at_key es e.path) front ≡ head_at (table floor front fs sets head puts) front e.path = sym (ap (λ s. head_in_slot s front) (get_key fs e.path) ∙ (h e.path).head front) in
      let P : (List ℕ → List ℕ → Option Place) → Type 0 = λ own. IsPlanned e.change e.position e.path (head_in_slot (at_key es e.path) front) own puts in
      let Q : Option Head → Type 0 = λ o. IsPlanned e.change e.position e.path o (own_at (table floor front fs sets head puts) front) puts in
      let R : Option Track → Type 0 = λ s. RoomHere (front + 1) puts s in
      let S : List (List ℕ × Option Place) → Type 0 = λ w. RoomHere (front + 1) w (at_key fs e.path) in
      record {
        head = is_head;
        puts = subst Q head_eq (subst P own_eq planned);
        room = subst R (sym (get_key fs e.path)) (subst S is_puts room);
        noted = notes_at sets e.path head.pool ∙ noted;
      }

pub unlink_planned : {E : Type 0} (res : Result (List (List ℕ × Option Place)) E) (ch : Change) (file n : ℕ) (path : List ℕ) (head : Option Head) (own : List ℕ → List ℕ → Option Place) → ch ≡ Unlink file
    → IfOk res (λ puts. (file n : ℕ) → Makes (Unlink file) n path head own puts) → IfOk res (IsPlanned ch n path head own)
unlink_planned (Err e) ch file n path head own is h = tt
unlink_planned (Ok puts) ch file n path head own is h = let P : Change → Type 0 = λ c. IsPlanned c n path head own puts in subst P (sym is) (h file n)

-- One call more on a disk in memory.
use Rattle.std.proofs.Common.{◌≡◌, ◌≢◌, inl, inr, ℕ, ◌+◌, ◌<◌, ◌≤◌, Bool, true, false, cond, List, [], ◌∷◌, ◌++◌, length, Vec, refl, sym, ◌∙◌, ap, arith, length-append}
use Rattle.std.proofs.lemmas.List.{take_all, take-append-le}
use Rattle.std.proofs.lemmas.Bool.{eq-eqb}
use Rattle.std.proofs.lemmas.Bool.Decides.{nat_tests, eqb_tells}
use Rattle.std.specs.declared.alloc.Global.{Global}
use Rattle.std.specs.Ordering.{is_eq}
use Rattle.gt_disk.specs.declared.file_id.FileId.{FileId}
use Rattle.gt_disk.specs.declared.call.Call.{Call}
use Rattle.gt_disk.specs.declared.call.Call.TheVariants.{Write, Append, Remove, Sync}
use Rattle.gt_disk.specs.Files.{file_cmp, FileState, still, loose, grow, now, Becomes, Synced}
use Rattle.gt_disk.specs.Calls.{same_file, Contents, Cell, file_of, changed, stepped, cell_from, cell_at, first_cell, view_of}

pub same_file-refl : (f : FileId) → same_file f f ≡ true
same_file-refl f = rw (eq-eqb f.kind f.kind refl, eq-eqb f.number f.number refl)

pub same_file-true : (f g : FileId) → same_file f g ≡ true → f ≡ g
same_file-true f g same = elim (eqb_tells f.kind g.kind) [
  | inl kinds ↦ elim (eqb_tells f.number g.number) [
    | inl numbers ↦ (λ i. record { kind = kinds.1 i; number = numbers.1 i })
    | inr apart ↦ absurd (grind (arith, nat_tests))
  ]
  | inr apart ↦ absurd (grind (arith, nat_tests))
]

pub same_file-apart : (f g : FileId) → g ≢ f → same_file f g ≡ false
same_file-apart f g ne = go (same_file f g) refl
  where
    go : (b : Bool) → same_file f g ≡ b → same_file f g ≡ false
    go true is = absurd (ne (sym (same_file-true f g is)))
    go false is = is

pub same_file-sym : (f g : FileId) → same_file f g ≡ false → same_file g f ≡ false
same_file-sym f g apart = go (same_file g f) refl
  where
    go : (b : Bool) → same_file g f ≡ b → same_file g f ≡ false
    go true is = let same : g ≡ f = same_file-true g f is in let here : same_file f g ≡ true = ap (λ (x : FileId). same_file f x) same ∙ same_file-refl f in absurd (cc (here, apart))
    go false is = is

pub is_eq-file_cmp : (f g : FileId) → is_eq (file_cmp f g) ≡ same_file f g
is_eq-file_cmp f g = grind (arith, nat_tests)

-- a call changes its own file, and no other
pub stepped_same : (f : FileId) (cell : Cell) (c : Call) → file_of c ≡ f → stepped f cell c ≡ changed cell c
stepped_same f cell c is = ap (λ (b : Bool). cond b (changed cell c) cell) (ap (λ (g : FileId). same_file g f) is ∙ same_file-refl f)

pub stepped_other : (f : FileId) (cell : Cell) (c : Call) → same_file (file_of c) f ≡ false → stepped f cell c ≡ cell
stepped_other f cell c apart = ap (λ (b : Bool). cond b (changed cell c) cell) apart

pub cell_push : (f : FileId) (cell : Cell) (calls : List Call) (c : Call) → cell_from f cell (calls ++ c ∷ []) ≡ stepped f (cell_from f cell calls) c
cell_push f cell [] c = refl
cell_push f cell (b ∷ calls) c = cell_push f (stepped f cell b) calls c

module _ (start : Contents) (calls : List Call) (c : Call) where
  abbrev more : List Call
  more = calls ++ c ∷ []

  long : length more ≡ length calls + 1
  long = length-append calls (c ∷ [])

  past : (m : ℕ) → m ≤ length calls → (view_of start more).at m ≡ (view_of start calls).at m
  past m le = ap (λ (cs : List Call). λ (f : FileId). (cell_at start f cs).state) (take-append-le m calls (c ∷ []) le)

  at_end : (m : ℕ) (f : FileId) → length calls < m → (view_of start more).at m f ≡ (stepped f (cell_at start f calls) c).state
  at_end m f lt = ap (λ (cs : List Call). (cell_at start f cs).state) (take_all m more (omega (arith, long))) ∙ ap (λ (x : Cell). x.state) (cell_push f (first_cell start f) calls c)

  pub now_is : (f : FileId) → now (view_of start calls) f ≡ (cell_at start f calls).state
  now_is f = ap (λ (cs : List Call). (cell_at start f cs).state) (take_all (length calls) calls (omega arith))

  pub becomes : (f : FileId) (s : FileState) → file_of c ≡ f → (changed (cell_at start f calls) c).state ≡ s → Becomes f s (view_of start calls) (view_of start more)
  becomes f s on is = record {
    moves = omega (arith, long);
    past = past;
    this = λ m lt le. at_end m f lt ∙ ap (λ (x : Cell). x.state) (stepped_same f (cell_at start f calls) c on) ∙ is;
    others = λ m lt le g ne. at_end m g lt ∙ ap (λ (x : Cell). x.state) (other g ne) ∙ sym (ap (λ (cs : List Call). (cell_at start g cs).state) (take_all (length calls) calls (omega arith)));
    reads_others = λ g ne. ap (λ (x : Cell). x.shown) (cell_push g (first_cell start g) calls c ∙ other g ne);
  }
    where
      other : (g : FileId) → g ≢ f → stepped g (cell_at start g calls) c ≡ cell_at start g calls
      other g ne = stepped_other g (cell_at start g calls) c (ap (λ (h : FileId). same_file h g) on ∙ same_file-apart f g ne)

  pub shown_is : (f : FileId) → (cell_at start f more).shown ≡ (stepped f (cell_at start f calls) c).shown
  shown_is f = ap (λ (x : Cell). x.shown) (cell_push f (first_cell start f) calls c)

  pub state_is : (f : FileId) → (cell_at start f more).state ≡ (stepped f (cell_at start f calls) c).state
  state_is f = ap (λ (x : Cell). x.state) (cell_push f (first_cell start f) calls c)

pub becomes_write : (start : Contents) (calls : List Call) (f : FileId) (bytes : Vec ℕ Global) → Becomes f loose (view_of start calls) (view_of start (calls ++ Write f bytes ∷ []))
becomes_write start calls f bytes = becomes start calls (Write f bytes) f loose refl refl

pub becomes_append : (start : Contents) (calls : List Call) (f : FileId) (bytes : Vec ℕ Global) (kept : ℕ) (piece : List ℕ) → bytes.items ≡ piece
    → Becomes f (grow (length piece) (now (view_of start calls) f)) (view_of start calls) (view_of start (calls ++ Append f bytes kept ∷ []))
becomes_append start calls f bytes kept piece same =
    becomes start calls (Append f bytes kept) f (grow (length piece) (now (view_of start calls) f)) refl
    (ap (λ (s : FileState). grow (length bytes.items) s) (sym (now_is start calls (Append f bytes kept) f)) ∙ ap (λ (l : List ℕ). grow (length l) (now (view_of start calls) f)) same)

pub becomes_remove : (start : Contents) (calls : List Call) (f : FileId) (gone : Bool) → Becomes f loose (view_of start calls) (view_of start (calls ++ Remove f gone ∷ []))
becomes_remove start calls f gone = becomes start calls (Remove f gone) f loose refl refl

pub synced : (start : Contents) (calls : List Call) (f : FileId) → Synced f (view_of start calls) (view_of start (calls ++ Sync f ∷ []))
synced start calls f =
    let b : Becomes f (still (cell_at start f calls).shown) (view_of start calls) (view_of start (calls ++ Sync f ∷ [])) =
    becomes start calls (Sync f) f (still (cell_at start f calls).shown) refl refl in
    record {
      reads = λ i g. all_shown g i;
      later = omega (arith, b.moves);
      past = b.past;
      during = λ m lt le. absurd (omega (arith, length-append calls (Sync f ∷ [])));
      this = b.this (length (calls ++ Sync f ∷ [])) b.moves (omega arith);
      others = λ g ne. b.others (length (calls ++ Sync f ∷ [])) b.moves (omega arith) g ne;
    }
  where
    kept : (g : FileId) (b : Bool) → (cond b (record { shown = (cell_at start g calls).shown; state = still (cell_at start g calls).shown }) (cell_at start g calls)).shown ≡ (cell_at start g calls).shown
    kept g true = refl
    kept g false = refl

    all_shown : (g : FileId) → (cell_at start g (calls ++ Sync f ∷ [])).shown ≡ (cell_at start g calls).shown
    all_shown g = shown_is start calls (Sync f) g ∙ kept g (same_file f g)

-- Where the lines of a text begin.
use Rattle.std.proofs.Common.{◌≡◌, ℕ, zero, suc, ◌+◌, ◌-◌, true, false, cond, eqb, List, [], ◌∷◌, length, take, map, refl, sym, ap, ◌∙◌, arith}
use Rattle.std.specs.List.{sum}
use Rattle.std.proofs.lemmas.List.Sums.{sum-map, sum_by-cons}
use Rattle.gt_reftext.specs.Lines.{parts_of}
use Rattle.gt_reftext.specs.Packed.{line_begin}

-- a line and its line feed
abbrev line_size : List ℕ → ℕ
line_size line = length line + 1

-- how many bytes these lines take
abbrev bytes_in : List (List ℕ) → ℕ
bytes_in lines = sum (map line_size lines)

bytes_cons : (line : List ℕ) (lines : List (List ℕ)) → bytes_in (line ∷ lines) ≡ length line + 1 + bytes_in lines
bytes_cons line lines = sum-map line_size (line ∷ lines) ∙ sum_by-cons line_size line lines ∙ ap (λ (n : ℕ). length line + 1 + n) (sym (sum-map line_size lines))

-- the parts have all bytes of the text but the line feeds
all_bytes : (text : List ℕ) → bytes_in ((parts_of text).0 ∷ (parts_of text).1) ≡ length text + 1
all_bytes [] = refl
all_bytes (b ∷ rest) =
    let ih : bytes_in ((parts_of rest).0 ∷ (parts_of rest).1) ≡ length rest + 1 = all_bytes rest in
    elim (eqb b 10) as (λ v. bytes_in ((cond {A = List ℕ × List (List ℕ)} v ([], (parts_of rest).0 ∷ (parts_of rest).1) (b ∷ (parts_of rest).0, (parts_of rest).1)).0 ∷ (cond {A = List ℕ × List (List ℕ)} v ([], (parts_of rest).0 ∷ (parts_of rest).1) (b ∷ (parts_of rest).0, (parts_of rest).1)).1) ≡ length (b ∷ rest) + 1) [
      | true ↦ let one = bytes_cons [] ((parts_of rest).0 ∷ (parts_of rest).1) in omega (arith, ih, one)
      | false ↦
          let one = bytes_cons (b ∷ (parts_of rest).0) (parts_of rest).1 in
          let two = bytes_cons (parts_of rest).0 (parts_of rest).1 in
          omega (arith, ih, one, two)
    ]

-- a line, its line feed and the rest
pub cut_bytes : (text line after : List ℕ) → parts_of text ≡ (line, (parts_of after).0 ∷ (parts_of after).1) → length line + 1 + length after ≡ length text
cut_bytes text line after parts =
    let whole : bytes_in ((parts_of text).0 ∷ (parts_of text).1) ≡ bytes_in (line ∷ (parts_of after).0 ∷ (parts_of after).1) = ap (λ (p : List ℕ × List (List ℕ)). bytes_in (p.0 ∷ p.1)) parts in
    omega (arith, whole, bytes_cons line ((parts_of after).0 ∷ (parts_of after).1), all_bytes text, all_bytes after)

-- the first line begins the text
pub begin_first : (text : List ℕ) (number : ℕ) → number - 1 ≡ 0 → line_begin text number ≡ 0
unfolding line_begin
begin_first text number none = rw none refl

-- one line less
pub begin_next : (text line after : List ℕ) (number next : ℕ) → parts_of text ≡ (line, (parts_of after).0 ∷ (parts_of after).1) → number - 1 ≡ suc (next - 1) → line_begin text number ≡ length line + 1 + line_begin after next
unfolding line_begin
begin_next text line after number next parts more =
    let one : line_begin text number ≡ bytes_in (line ∷ take (next - 1) ((parts_of after).0 ∷ (parts_of after).1)) = rw (more, parts) refl in
    one ∙ bytes_cons line (take (next - 1) ((parts_of after).0 ∷ (parts_of after).1))

-- past the last line
pub begin_past : (text : List ℕ) (number k : ℕ) → parts_of text ≡ (text, []) → number - 1 ≡ suc k → line_begin text number ≡ length text + 1
unfolding line_begin
begin_past text number zero parts more = rw (more, parts) (omega (arith, bytes_cons text []))
begin_past text number (suc k) parts more = rw (more, parts) (omega (arith, bytes_cons text []))

-- only the lines before count
pub same_begin : (text : List ℕ) (number other : ℕ) → number - 1 ≡ other - 1 → line_begin text number ≡ line_begin text other
unfolding line_begin
same_begin text number other same = rw same refl

-- Reading a script, line by line.
use Rattle.std.proofs.Common.{◌≡◌, ℕ, ◌+◌, ◌-◌, ◌<◌, ◌≤◌, suc, eqb, Bool, true, false, cond, List, [], ◌∷◌, ◌++◌, length, take, drop, Some, None, Result, Ok, Err, refl, sym, ap, ◌∙◌, arith, append_assoc}
use Rattle.std.proofs.lemmas.List.{append-nil, take_all, drop_all}
use Rattle.std.proofs.lemmas.Iterator.Adapters.{position_from-zero}
use Rattle.std.specs.List.{position, position_from}
use Rattle.gt_script.specs.declared.request.Request.{Request}
use Rattle.gt_script.specs.Grammar.{request_of}
use Rattle.gt_prog.specs.declared.script.ScriptError.{ScriptError}
use Rattle.gt_prog.specs.declared.script.ScriptError.TheVariants.{BadInput, NotYet, Memory}
use Rattle.gt_prog.specs.Script.{rest_of, lines_from, lines_of, in_front, and_then, requests_of}
use Rattle.gt_prog.specs.Parses.{IsPushed, IsBad, IsBadLine}

-- ---- the first line

abbrev pub is_feed : ℕ → Bool
is_feed b = eqb b 10

-- The first line ends behind the line feed of this index, where the bytes begin at an index.
record Cut (line bytes : List ℕ) (begin at : ℕ) : Type 0 where
  ge : begin ≤ at
  lines : lines_from line bytes ≡ (line ++ take (at - begin + 1) bytes) ∷ lines_of (drop (at - begin + 1) bytes)

cut : (line bytes : List ℕ) (begin at : ℕ) → position_from is_feed begin bytes ≡ Some at → Cut line bytes begin at
cut line [] begin at is = absurd (cc)
cut line (b ∷ bytes) begin at is = by (is_feed b) refl is (cut (line ++ b ∷ []) bytes (begin + 1) at)
  where
    by : (t : Bool) → is_feed b ≡ t → cond t (Some begin) (position_from is_feed (begin + 1) bytes) ≡ Some at → (position_from is_feed (begin + 1) bytes ≡ Some at → Cut (line ++ b ∷ []) bytes (begin + 1) at) → Cut line (b ∷ bytes) begin at
    by true test is more =
        let here : begin ≡ at = cc in
        let one : 1 ≡ at - begin + 1 = omega (arith, here) in
        record {
          ge = omega (arith, here);
          lines = ap (λ (t : Bool). cond t ((line ++ b ∷ []) ∷ lines_from [] bytes) (lines_from (line ++ b ∷ []) bytes)) test ∙ ap (λ (n : ℕ). (line ++ take n (b ∷ bytes)) ∷ lines_of (drop n (b ∷ bytes))) one;
        }
    by false test is more =
        let c = more is in
        let next : suc (at - (begin + 1) + 1) ≡ at - begin + 1 = omega (arith, c.ge) in
        record {
          ge = omega (arith, c.ge);
          lines = ap (λ (t : Bool). cond t ((line ++ b ∷ []) ∷ lines_from [] bytes) (lines_from (line ++ b ∷ []) bytes)) test
              ∙ c.lines
              ∙ ap (λ (l : List ℕ). l ∷ lines_of (drop (at - (begin + 1) + 1) bytes)) (append_assoc line (b ∷ []) (take (at - (begin + 1) + 1) bytes))
              ∙ ap (λ (n : ℕ). (line ++ take n (b ∷ bytes)) ∷ lines_of (drop n (b ∷ bytes))) next;
        }

uncut : (line bytes : List ℕ) (begin : ℕ) → position_from is_feed begin bytes ≡ None → lines_from line bytes ≡ rest_of (line ++ bytes)
uncut line [] begin is = ap rest_of (sym (append-nil line))
uncut line (b ∷ bytes) begin is = by (is_feed b) refl is (uncut (line ++ b ∷ []) bytes (begin + 1))
  where
    by : (t : Bool) → is_feed b ≡ t → cond t (Some begin) (position_from is_feed (begin + 1) bytes) ≡ None → (position_from is_feed (begin + 1) bytes ≡ None → lines_from (line ++ b ∷ []) bytes ≡ rest_of ((line ++ b ∷ []) ++ bytes)) → lines_from line (b ∷ bytes) ≡ rest_of (line ++ b ∷ bytes)
    by true test is more = absurd (cc)
    by false test is more = ap (λ (t : Bool). cond t ((line ++ b ∷ []) ∷ lines_from [] bytes) (lines_from (line ++ b ∷ []) bytes)) test ∙ more is ∙ ap rest_of (append_assoc line (b ∷ []) bytes)

rest_of-some : (line : List ℕ) → 0 < length line → rest_of line ≡ line ∷ []
rest_of-some [] lt = absurd (omega (arith, lt))
rest_of-some (b ∷ line) lt = refl

pub fed_line : (text : List ℕ) (at : ℕ) → position is_feed text ≡ Some at → lines_of text ≡ take (at + 1) text ∷ lines_of (drop (at + 1) text)
fed_line text at is = (cut [] text 0 at (sym (position_from-zero is_feed text) ∙ is)).lines ∙ ap (λ (n : ℕ). take (n + 1) text ∷ lines_of (drop (n + 1) text)) (let same : at - 0 ≡ at = omega arith in same)

pub last_line : (text : List ℕ) → 0 < length text → position is_feed text ≡ None → lines_of text ≡ take (length text) text ∷ lines_of (drop (length text) text)
last_line text some is =
    uncut [] text 0 (sym (position_from-zero is_feed text) ∙ is) ∙ rest_of-some text some
    ∙ ap (λ (l : List ℕ). l ∷ []) (sym (take_all (length text) text (omega arith))) ∙ ap (λ (l : List ℕ). take (length text) text ∷ lines_of l) (sym (drop_all (length text) text (omega arith)))

-- ---- the requests of the lines so far, and those behind them

in_front-more : (front : List Request) (r : Request) (rest : Result (List Request) (ℕ × ℕ)) → in_front front (in_front (r ∷ []) rest) ≡ in_front (front ++ r ∷ []) rest
in_front-more front r (Ok rs) = ap Ok (sym (append_assoc front (r ∷ []) rs))
in_front-more front r (Err e) = refl

pub in_front-none : (requests : List Request) (r : Result (List Request) (ℕ × ℕ)) → requests ≡ [] → in_front requests r ≡ r
in_front-none requests (Ok rs) none = ap (λ (front : List Request). Ok (front ++ rs)) none
in_front-none requests (Err e) none = refl

-- the requests of the lines of a text that stand behind these are those of the whole
abbrev pub Read : List Request → ℕ → List ℕ → Result (List Request) (ℕ × ℕ) → Type 0
Read requests number text whole = in_front requests (requests_of number (lines_of text)) ≡ whole

module _ (requests : List Request) (number : ℕ) (text line after : List ℕ) (whole : Result (List Request) (ℕ × ℕ)) (read : Read requests number text whole) where
  pub all_read : text ≡ [] → whole ≡ Ok requests
  all_read none = sym read ∙ ap (λ (t : List ℕ). in_front requests (requests_of number (lines_of t))) none ∙ ap Ok (append-nil requests)

  module _ (first : lines_of text ≡ line ∷ lines_of after) where
    as_line : (r : Result Request ℕ) → request_of line ≡ r → in_front requests (and_then number r (requests_of (number + 1) (lines_of after))) ≡ whole
    as_line r is = sym (ap (λ (ls : List (List ℕ)). in_front requests (requests_of number ls)) first ∙ ap (λ (q : Result Request ℕ). in_front requests (and_then number q (requests_of (number + 1) (lines_of after)))) is) ∙ read

    pub line_read : (pushed : List Request) → IsPushed (request_of line) requests pushed → Read pushed (number + 1) after whole
    line_read pushed is = by (request_of line) refl is
      where
        by : (r : Result Request ℕ) → request_of line ≡ r → IsPushed r requests pushed → Read pushed (number + 1) after whole
        by (Err at) e is = absurd is
        by (Ok r) e is = ap (λ (rs : List Request). in_front rs (requests_of (number + 1) (lines_of after))) is ∙ sym (in_front-more requests r (requests_of (number + 1) (lines_of after))) ∙ as_line (Ok r) e

    pub line_bad : (e : ScriptError) → IsBad (request_of line) number e → IsBadLine whole e
    line_bad (BadInput bad at) is = sym (as_line (Err at) is.0) ∙ ap (λ (n : ℕ). Err (n, at)) (sym is.1)
    line_bad (NotYet bad) is = absurd is
    line_bad Memory is = tt

-- Each line of the language names a session from 1 to 128.
use Rattle.std.proofs.Common.{◌≡◌, ℕ, zero, suc, ◌+◌, ◌≤◌, Bool, true, false, cond, List, [], ◌∷◌, length, take, Option, Some, None, Result, Ok, Err, refl, ap, ◌∙◌, subst, arith, nat_eq, ◌-◌}
use Rattle.std.specs.Prelude.{codes}
use Rattle.std.specs.List.{All, ends_with}
use Rattle.gt_script.specs.declared.form.Form.{Form}
use Rattle.gt_script.specs.declared.request.Request.{Request}
use Rattle.gt_script.specs.Grammar.{Reader, made, one_then, form_of, in_session, request_in, without_feed, request_of}
use Rattle.gt_script.specs.Texts.{verb_of}
use Rattle.gt_script.specs.Values.{number}
use Rattle.gt_script.specs.Words.{Placed, words_of, if_good, or_bad, first, value_first}
use Rattle.gt_script.proofs.NumberLaws.{number-only}
use Rattle.gt_prog.specs.Script.{HasSession, and_then, requests_of}

ok_same : {A : Type 0} (a b : A) → ◌≡◌ {A = Result A ℕ} (Ok a) (Ok b) → a ≡ b
ok_same a b is = cc (is)

-- what was read before
if_good-ok : {A B : Type 0} (r : Result A ℕ) (go_on : A → Result B ℕ) (b : B) → if_good r go_on ≡ Ok b → (a : A) × (r ≡ Ok a) × (go_on a ≡ Ok b)
if_good-ok (Ok a) go_on b is = (a, refl, is)
if_good-ok (Err at) go_on b is = absurd (cc (is))

or_bad-ok : {A B : Type 0} (at : ℕ) (o : Option A) (go_on : A → Result B ℕ) (b : B) → or_bad at o go_on ≡ Ok b → (a : A) × (o ≡ Some a) × (go_on a ≡ Ok b)
or_bad-ok at None go_on b is = absurd (cc (is))
or_bad-ok at (Some a) go_on b is = (a, refl, is)

-- a value that was read is one of a word
value_read : {A : Type 0} (value : List ℕ → Option A) (end : ℕ) (ws : List Placed) (x : A × List Placed) → value_first value end ws ≡ Ok x → (w : List ℕ) × (value w ≡ Some x.0)
value_read {A = A} value end ws x is =
    let f = if_good-ok (first end ws) (λ y. or_bad y.0.at (value y.0.word) (λ a. Ok (a, y.1))) x is in
    let v = or_bad-ok f.0.0.at (value f.0.0.word) (λ a. Ok (a, f.0.1)) x f.2 in
    let same : (v.0, f.0.1) ≡ x = ok_same (v.0, f.0.1) x v.2 in
    (f.0.0.word, v.1 ∙ ap (λ (y : A × List Placed). Some y.0) same)

made-ok : {A B : Type 0} (f : A → B) (read : Reader A) (end : ℕ) (ws : List Placed) (b : B) → made f read end ws ≡ Ok b → (a : A) × (f a ≡ b)
made-ok f read end ws b is = let r = if_good-ok (read end ws) (λ a. Ok (f a)) b is in (r.0, ok_same (f r.0) b r.2)

in_session-is : (n : ℕ) (f : Form) (r : Request) → in_session n f ≡ r → n ≡ r.session
in_session-is n f r is = ap (λ (q : Request). q.session) is

request_in-session : (text : List ℕ) (r : Request) → request_in text ≡ Ok r → HasSession r
request_in-session text r is =
    let s = if_good-ok (value_first (number 1 128) (length text) (words_of text)) (λ x. one_then verb_of (λ v. made (in_session x.0) (form_of v)) (length text) x.1) r is in
    let v = if_good-ok (value_first verb_of (length text) s.0.1) (λ x. made (in_session s.0.0) (form_of x.0) (length text) x.1) r s.2 in
    let m = made-ok (in_session s.0.0) (form_of v.0.0) (length text) v.0.1 r v.2 in
    let w = value_read (number 1 128) (length text) (words_of text) s.0 s.1 in
    let same : s.0.0 ≡ r.session = in_session-is s.0.0 m.0 r m.1 in
    let range = number-only 1 128 s.0.0 w.0 w.1 in
    (subst (λ (n : ℕ). 1 ≤ n) same range.1, subst (λ (n : ℕ). n ≤ 128) same range.2)

unfed : (line : List ℕ) (r : Request) → without_feed line ≡ Ok r → HasSession r
unfed line r is = absurd (let b = if_good-ok (request_in line) (λ q. Err (length line)) r is in cc (b.2))

fed_session : (line : List ℕ) (r : Request) (fed : Bool) → cond fed (request_in (take (length line - 1) line)) (without_feed line) ≡ Ok r → HasSession r
fed_session line r true is = request_in-session (take (length line - 1) line) r is
fed_session line r false is = unfed line r is

pub request_session : (line : List ℕ) (r : Request) → request_of line ≡ Ok r → HasSession r
unfolding request_of
request_session line r is = fed_session line r (ends_with nat_eq line (codes "\n")) is

-- ---- the requests of all lines

all_more : (r : Request) (rs : List Request) → HasSession r → All HasSession rs → All HasSession (r ∷ rs)
all_more r rs one more zero d lt = one
all_more r rs one more (suc k) d lt = more k d (omega (arith, lt))

pub requests_sessions : (n : ℕ) (lines : List (List ℕ)) (rs : List Request) → requests_of n lines ≡ Ok rs → All HasSession rs
requests_sessions n [] rs is = let none : [] ≡ rs = cc (is) in subst (λ (l : List Request). All HasSession l) none (λ k d lt. absurd (omega (arith, lt)))
requests_sessions n (line ∷ lines) rs is = by (request_of line) (requests_of (n + 1) lines) (request_session line) (requests_sessions (n + 1) lines) is
  where
    by : (r : Result Request ℕ) (more : Result (List Request) (ℕ × ℕ)) → ((q : Request) → r ≡ Ok q → HasSession q) → ((qs : List Request) → more ≡ Ok qs → All HasSession qs) → and_then n r more ≡ Ok rs → All HasSession rs
    by (Err at) more one all e = absurd (cc (e))
    by (Ok r) (Err bad) one all e = absurd (cc (e))
    by (Ok r) (Ok qs) one all e = let same : r ∷ qs ≡ rs = cc (e) in subst (λ (l : List Request). All HasSession l) same (all_more r qs (one r refl) (all qs refl))

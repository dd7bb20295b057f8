-- What the lines of an input ask for.
use Rattle.std.specs.Prelude.{ℕ, ◌+◌, ◌≤◌, ◌==◌, nat_lt, Bool, true, false, not, List, [], ◌∷◌, ◌++◌, length, position, Option, Some, None, Result, Ok, Err, if◌then◌else◌}
use Rattle.std.specs.Option.{option_map}
use Rattle.gt_script.specs.declared.form.Form.{Form}
use Rattle.gt_script.specs.declared.form.Form.TheVariants as forms
use Rattle.gt_script.specs.declared.request.Request.{Request}
use Rattle.gt_script.specs.Grammar.{request_of}
use Rattle.gt_session.specs.Courses.{can_apply}

-- ---- lines

abbrev pub rest_of : List ℕ → List (List ℕ)
rest_of [] = []
rest_of (b ∷ line) = (b ∷ line) ∷ []

-- the lines of an input behind the part of a line, each with its line feed; what follows the last line feed, if anything does, is a line without one
abbrev pub lines_from : List ℕ → List ℕ → List (List ℕ)
lines_from line [] = rest_of line
lines_from line (b ∷ bs) = if b == 10 then (line ++ b ∷ []) ∷ lines_from [] bs else lines_from (line ++ b ∷ []) bs

abbrev pub lines_of : List ℕ → List (List ℕ)
lines_of bytes = lines_from [] bytes

-- ---- requests

-- Its session is one of those of a script.
abbrev pub HasSession : Request → Type 0
HasSession r = (1 ≤ r.session) × (r.session ≤ 128)

abbrev pub in_front : List Request → Result (List Request) (ℕ × ℕ) → Result (List Request) (ℕ × ℕ)
in_front front (Ok rest) = Ok (front ++ rest)
in_front front (Err bad) = Err bad

-- the request of the line of this number, or the place that is bad, and then those behind it
abbrev pub and_then : ℕ → Result Request ℕ → Result (List Request) (ℕ × ℕ) → Result (List Request) (ℕ × ℕ)
and_then number (Err at) rest = Err (number, at)
and_then number (Ok r) rest = in_front (r ∷ []) rest

-- the requests of lines that are counted from this number, or the first bad line and the place in it
abbrev pub requests_of : ℕ → List (List ℕ) → Result (List Request) (ℕ × ℕ)
requests_of number [] = Ok []
requests_of number (line ∷ lines) = and_then number (request_of line) (requests_of (number + 1) lines)

-- whether a line of this form is built
abbrev pub is_built : Form → Bool
is_built (forms.Create path None) = true
is_built (forms.Delete path) = true
is_built (forms.Begin path from) = true
is_built (forms.Put kind content) = true
is_built (forms.Set name old new) = true
is_built (forms.Verify name old) = true
is_built (forms.Get name) = true
is_built (forms.List prefix) = true
is_built (forms.Cat name) = true
is_built forms.Commit = true
is_built forms.Abort = true
is_built (forms.Apply partition n) = can_apply partition n
is_built forms.Restart = true
is_built form = false

-- the first request that isn't of a built form, as the number of its line from 1
abbrev pub not_built : List Request → Option ℕ
not_built requests = option_map (λ i. i + 1) (position (λ r. not (is_built r.form)) requests)

-- ---- the script

-- Why an input is no script that can be done: this line, from 1, is bad at this place, and an input over the limit at line 0, at the limit; or this is the first line of a form that isn't built, which is tried after all lines are found good.
pub data ScriptFault : Type 0 where
  bad_at : ℕ → ℕ → ScriptFault
  not_yet_at : ℕ → ScriptFault

abbrev pub unless_unbuilt : Option ℕ → List Request → Result (List Request) ScriptFault
unless_unbuilt None requests = Ok requests
unless_unbuilt (Some line) requests = Err (not_yet_at line)

-- requests that can be done, where all lines are good
abbrev pub doable : Result (List Request) (ℕ × ℕ) → Result (List Request) ScriptFault
doable (Ok requests) = unless_unbuilt (not_built requests) requests
doable (Err bad) = Err (bad_at bad.0 bad.1)

-- the requests of an input, whose lines are counted from 1
abbrev pub script_of : ℕ → List ℕ → Result (List Request) ScriptFault
script_of limit bytes = if nat_lt limit (length bytes) then Err (bad_at 0 limit) else doable (requests_of 1 (lines_of bytes))

-- The lines of the language. What stands behind the verb of each is a row of `form_of`.
use Rattle.std.specs.Prelude.{ℕ, List, [], ◌∷◌, length, take, ◌-◌, Option, Some, None, Result, Ok, Err, codes, nat_eq, if◌then◌else◌}
use Rattle.std.specs.List.{ends_with}
use Rattle.gt_script.specs.declared.form.Form.{Form}
use Rattle.gt_script.specs.declared.form.Form.TheVariants as form
use Rattle.gt_script.specs.declared.request.Request.{Request}
use Rattle.gt_script.specs.declared.verb.Verb.{Verb}
use Rattle.gt_script.specs.declared.verb.Verb.TheVariants as verb
use Rattle.gt_script.specs.Texts.{verb_of, kind_of, job_of}
use Rattle.gt_script.specs.Values.{any, only, number, name, old, content}
use Rattle.gt_script.specs.Words.{Placed, words_of, if_good, value_first}

-- From the text's length and the words that are left: what they mean, or the place that is bad.
abbrev pub Reader : Type 0 → Type 0
Reader A = ℕ → List Placed → Result A ℕ

-- what is made of that which is read
abbrev pub made : {A B : Type 0} → (A → B) → Reader A → Reader B
made f read end ws = if_good (read end ws) (λ a. Ok (f a))

-- no word stands there
abbrev pub no_word : Reader (Unit {0})
no_word end [] = Ok tt
no_word end (w ∷ ws) = Err w.at

-- no words, and what they mean
abbrev pub none : {A : Type 0} → A → Reader A
none a = made (λ x. a) no_word

-- a word, and what is read behind it
abbrev pub one_then : {A B : Type 0} → (List ℕ → Option A) → (A → Reader B) → Reader B
one_then value go_on end ws = if_good (value_first value end ws) (λ x. go_on x.0 end x.1)

-- just one word, two or three, and what their values mean
abbrev pub one : {A B : Type 0} → (List ℕ → Option A) → (A → B) → Reader B
one value f = one_then value (λ a. none (f a))

abbrev pub two : {A B C : Type 0} → (List ℕ → Option A) → (List ℕ → Option B) → (A → B → C) → Reader C
two first second f = one_then first (λ a. one second (f a))

abbrev pub three : {A B C D : Type 0} → (List ℕ → Option A) → (List ℕ → Option B) → (List ℕ → Option C) → (A → B → C → D) → Reader D
three first second third f = one_then first (λ a. two second third (f a))

-- no word more, or what is read there
abbrev pub maybe : {A : Type 0} → A → Reader A → Reader A
maybe a read end [] = Ok a
maybe a read end (w ∷ ws) = read end (w ∷ ws)

-- no word more, or this word and a value
abbrev pub maybe_with : {A : Type 0} → List ℕ → (List ℕ → Option A) → Reader (Option A)
maybe_with text value = maybe None (two (only text) value (λ w a. Some a))

-- what stands behind each verb, and what it asks for
abbrev pub form_of : Verb → Reader Form
form_of verb.Create = one_then any (λ path. made (form.Create path) (maybe_with (codes "near") any))
form_of verb.Pool = one any form.Pool
form_of verb.Delete = one any form.Delete
form_of verb.Link = two any any form.Link
form_of verb.Begin = one_then any (λ path. made (form.Begin path) (maybe_with (codes "from") (number 0 4294967295)))
form_of verb.Put = two kind_of content form.Put
form_of verb.Set = three any old name form.Set
form_of verb.Verify = two any old form.Verify
form_of verb.Get = one any form.Get
form_of verb.List = made form.List (maybe [] (one any (λ prefix. prefix)))
form_of verb.Cat = one name form.Cat
form_of verb.Commit = none form.Commit
form_of verb.Abort = none form.Abort
form_of verb.House = two job_of any form.House
form_of verb.Step = one (number 1 65536) form.Step
form_of verb.Close = none form.Close
form_of verb.Apply = two (number 1 8) (number 1 16) form.Apply
form_of verb.Trim = one (number 1 8) form.Trim
form_of verb.Sweep = one (number 1 8) form.Sweep
form_of verb.Restart = none form.Restart

abbrev pub in_session : ℕ → Form → Request
in_session session asked = record { session = session; form = asked }

-- the session, the verb, and what stands behind it
abbrev pub request_in : List ℕ → Result Request ℕ
request_in text = one_then (number 1 128) (λ session. one_then verb_of (λ v. made (in_session session) (form_of v))) (length text) (words_of text)

-- A line feed that is missing is bad at the end, if nothing is before.
abbrev pub without_feed : List ℕ → Result Request ℕ
without_feed line = if_good (request_in line) (λ r. Err (length line))

-- the request of a line, or the place that is bad
unfoldable pub request_of : List ℕ → Result Request ℕ
request_of line = if ends_with nat_eq line (codes "\n") then request_in (take (length line - 1) line) else without_feed line

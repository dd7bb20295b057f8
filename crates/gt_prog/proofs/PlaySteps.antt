-- Lines done one after another, and the whole work.
use Rattle.std.proofs.Common.{◌≡◌, ⊎_elim, ℕ, zero, suc, ◌+◌, ◌≤◌, ◌<◌, Bool, true, List, [], ◌∷◌, ◌++◌, map, take, drop, length, get_or, Option, Some, None, Result, Ok, Err, refl, sym, ◌∙◌, ap, subst, arith, append_assoc, length-take, take-append-drop, IsTrue}
use Rattle.std.proofs.lemmas.Bool.{cases_lt}
use Rattle.std.proofs.lemmas.List.{append-nil, take_more, map-append}
use Rattle.std.proofs.lemmas.Grind.{flat_map-append}
use Rattle.std.specs.List.{flat_map}
use Rattle.gt_disk.specs.declared.file_id.FileId.{FileId}
use Rattle.gt_disk.specs.Files.{Files, States, View, now, IsImage, Rose}
use Rattle.gt_disk.specs.Moments.{Narrows}
use Rattle.gt_model.specs.declared.done.Done.{Done}
use Rattle.gt_model.specs.declared.done.Done.TheVariants.{Restarted}
use Rattle.gt_model.specs.declared.limits.Limits.{Limits}
use Rattle.gt_model.specs.declared.refusal.Refusal.{Refusal}
use Rattle.gt_model.specs.Machine.{State, Recovered, Settles, opening, front, is_faulty}
use Rattle.gt_model.specs.Histories.{Happening, last_state}
use Rattle.gt_outside.specs.Written.{AppendsAll, AppendsFront}
use Rattle.gt_base.specs.Recovery.{recover}
use Rattle.gt_journal.specs.Histories.{IsGood}
use Rattle.gt_journal.specs.Histories.{Holds}
use Rattle.gt_journal.specs.Ledger.{ground}
use Rattle.gt_part.specs.Mounts.{Mounts}
use Rattle.gt_history.specs.Runs.{KeepsPast}
use Rattle.gt_part.specs.Shown.{memory, Shown, HasRun, Continues, OneOpening}
use Rattle.gt_history.proofs.Runs.{past_same, past_join}
use Rattle.gt_part.proofs.Histories.{continues, continues_on}
use Rattle.gt_script.specs.declared.form.Form.{Form}
use Rattle.gt_script.specs.declared.form.Form.TheVariants.{Restart}
use Rattle.gt_script.specs.declared.request.Request.{Request}
use Rattle.gt_script.specs.Printed.{printed as printed_answer}
use Rattle.gt_session.specs.Sessions.{Session, forgotten}
use Rattle.gt_session.specs.Courses.{has_course}
use Rattle.gt_session.specs.Together.{Requests, GiveUp}
use Rattle.gt_prog.specs.One.{LocalDid, Mapped}
use Rattle.gt_prog.specs.Lines.{Line, Past, Stand, past_of, standing, from_here, new_sessions, printed, numbered, asked_by, Counted, Happened, Restarts, Asked, LineBy, IsLine, AreLines, IsEnd}
use Rattle.gt_prog.specs.declared.playing.PlayCause.{PlayCause}
use Rattle.gt_prog.specs.declared.playing.PlayCause.TheVariants.{Write, Device, Damaged, Memory}
use Rattle.gt_prog.specs.Played.{Goes, DidOne, IsWhole, Played, PlayedWhole, IsAtRestart, EndsAt, own_faults, PlayedPart, Went}
use Rattle.gt_prog.specs.AnyDisk.{footing, running_of, ActedOne, AreActed}
use Rattle.gt_prog.specs.Replay.{IsOpened, Worked, Replayed, ReplayedPart}
use Rattle.gt_prog.proofs.Framing.{lines_over, end_over, lines_then, course_line}
use Rattle.gt_prog.proofs.Acknowledged.{begins, still_named, lines_named, end_named, answers_kept}
use Rattle.gt_prog.proofs.Calls.{told_as, requests_went, give_up_went}
use Rattle.gt_prog.proofs.Acting.{acted_more, acted_lines, acted_whole, acts_ended}
use Rattle.gt_prog.proofs.Whole.{whole_lines}
use Rattle.gt_prog.proofs.Counting.{none_faulty, counted_none, counted_more, counted_later, counted_besides, counted_earlier}

-- ---- bytes

appends_then : (u v w : Option (List ℕ)) (a b : List ℕ) → AppendsAll u v a → AppendsAll v w b → AppendsAll u w (a ++ b)
appends_then u v None a b p q = tt
appends_then u None (Some z) a b p q = absurd q
appends_then None (Some y) (Some z) a b p q = absurd p
appends_then (Some x) (Some y) (Some z) a b p q = q ∙ ap (λ (l : List ℕ). l ++ b) p ∙ append_assoc x a b

appends_nil : (u : Option (List ℕ)) → AppendsAll u u []
appends_nil None = tt
appends_nil (Some x) = sym (append-nil x)

front_nil : (u : Option (List ℕ)) → AppendsFront u u []
front_nil u = record { front = []; back = []; split = refl; grown = appends_nil u }

-- ---- what ends the work

-- an answer that isn't written
ends_writing : (cause : PlayCause) → (cause ≡ Device → ⊥) → ((file : FileId) (at : ℕ) → cause ≡ Damaged file at → ⊥) → (line : Line) (rest : List (ℕ × Request)) → EndsAt cause (line ∷ []) rest
ends_writing Write device damaged line rest = refl
ends_writing Device device damaged line rest = absurd (device refl)
ends_writing (Damaged file at) device damaged line rest = absurd (damaged file at refl)
ends_writing Memory device damaged line rest = tt

no_faults : (cause : PlayCause) → (cause ≡ Device → ⊥) → (first now : ℕ) (lines : List Line) → Counted 0 first now lines → Counted (own_faults cause) first now lines
no_faults Write device first now lines counted = counted
no_faults Device device first now lines counted = absurd (device refl)
no_faults (Damaged file at) device first now lines counted = counted
no_faults Memory device first now lines counted = counted

-- a restart that fails
ends_closing : (cause : PlayCause) → (cause ≡ Write → ⊥) → {rest : List (ℕ × Request)} → IsAtRestart [] rest → EndsAt cause [] rest
ends_closing Write write at = absurd (write refl)
ends_closing Device write at = at
ends_closing (Damaged file place) write at = at
ends_closing Memory write at = tt

closing_faults : (cause : PlayCause) → (cause ≡ Write → ⊥) → (first before now : ℕ) (lines : List Line) → before ≤ now → (cause ≡ Device → Rose before now) → Counted 0 first before lines → Counted (own_faults cause) first now lines
closing_faults Write write first before now lines later rose counted = absurd (write refl)
closing_faults Device write first before now lines later rose counted = counted_besides first before now lines later (rose refl) counted
closing_faults (Damaged file at) write first before now lines later rose counted = counted_later first before now lines later counted
closing_faults Memory write first before now lines later rose counted = counted_later first before now lines later counted

-- ---- numbers of lines

numbered-push : (number : ℕ) (rs : List Request) (r : Request) → numbered number (rs ++ r ∷ []) ≡ numbered number rs ++ (number + length rs, r) ∷ []
numbered-push number [] r = ap (λ (n : ℕ). let l : List (ℕ × Request) = (n, r) ∷ [] in l) (let same : number ≡ number + 0 = omega arith in same)
numbered-push number (x ∷ rs) r =
    ap (λ (l : List (ℕ × Request)). (number, x) ∷ l)
    (numbered-push (number + 1) rs r ∙ ap (λ (n : ℕ). numbered (number + 1) rs ++ (n, r) ∷ []) (let same : (number + 1) + length rs ≡ number + length (x ∷ rs) = omega arith in same))

take-numbered : (k number : ℕ) (rs : List Request) → take k (numbered number rs) ≡ numbered number (take k rs)
take-numbered zero number rs = refl
take-numbered (suc k) number [] = refl
take-numbered (suc k) number (r ∷ rs) = ap (λ (l : List (ℕ × Request)). (number, r) ∷ l) (take-numbered k (number + 1) rs)

-- one line more that is told, where all are
line_more : (limits : Limits) (line : Line) (old new : Stand) → IsLine limits line old new → AreLines limits (line ∷ []) old new
line_more limits line old new is = (new, is, refl)

module _ {D : Type 0} (tells : Bool) (view : D → View) (limits : Limits) where
  -- ---- one after the other

  pub goes_none : (ss : List Session) (p : Shown D) → Goes tells view limits [] ss ss p p
  goes_none ss p told start begin history run = continues view start begin history (λ later. AreLines limits [] (from_here ss (memory p)) (standing ss (past_of (memory p) later))) [] p p refl refl (past_same (view p.disk)) run

  pub goes_then : (first mid last : List Session) (o p q : Shown D) (one two : List Line) → Goes tells view limits one first mid o p → Goes tells view limits two mid last p q → Goes tells view limits (one ++ two) first last o q
  goes_then first mid last o p q one two before after told start begin history run =
      continues_on view start begin history (λ later. AreLines limits one (from_here first (memory o)) (standing mid (past_of (memory p) later))) (λ later. AreLines limits two (from_here mid (memory p)) (standing last (past_of (memory q) later)))
      (λ later. AreLines limits (one ++ two) (from_here first (memory o)) (standing last (past_of (memory q) later))) o p q (before told start begin history run) (λ older run'. after told start begin older run')
      (λ a b did more. lines_then limits one two (from_here first (memory o)) (standing mid (past_of (memory p) a)) (standing last (past_of (memory q) (b ++ a))) did (lines_over limits a two (from_here mid (memory p)) (standing last (past_of (memory q) b)) more))

  -- ---- one line

  -- a session asks
  pub goes_asked : (fault_count call_count : D → ℕ) (line : Line) (first last : List Session) (o p : Shown D) → o.limits ≡ limits → has_course line.request.form ≡ true
      → Requests (LocalDid tells view fault_count call_count) Mapped line.number line.request.session line.request.form line.answer first last o p → Goes tells view limits (line ∷ []) first last o p
  goes_asked fault_count call_count line first last o p kept course h told start begin history run =
      told_as tells view fault_count call_count limits told start begin history (λ later. Asked limits line (from_here first (memory o)) (standing last (past_of (memory p) later))) (λ later. AreLines limits (line ∷ []) (from_here first (memory o)) (standing last (past_of (memory p) later))) o p
      (requests_went tells view fault_count call_count limits told start begin history o p kept run line.number line.request.session line.request.form line.answer first last h)
      (λ later is. line_more limits line (from_here first (memory o)) (standing last (past_of (memory p) later)) (course_line limits line.request.form line (from_here first (memory o)) (standing last (past_of (memory p) later)) course is))

  -- everything is mounted again
  pub goes_restarted : (fault_count : D → ℕ) (line : Line) (first last : List Session) (o p : Shown D) → line.request.form ≡ Restart → line.answer ≡ Ok Restarted → last ≡ map forgotten first
      → (IsTrue tells → (start : State) (begin : ℕ) (history : List Happening) → HasRun view start begin history o → Settles (last_state start history) (memory p))
      → (IsTrue tells → (start : State) (begin : ℕ) (history : List Happening) → HasRun view start begin history o → Continues view start begin history (OneOpening (view p.disk).clock (memory p)) o p) → Goes tells view limits (line ∷ []) first last o p
  goes_restarted fault_count line first last o p form answer forgets settles goes told start begin history run =
      told_as tells view fault_count fault_count limits told start begin history (OneOpening (view p.disk).clock (memory p)) (λ later. AreLines limits (line ∷ []) (from_here first (memory o)) (standing last (past_of (memory p) later))) o p (goes told start begin history run)
      (λ later is.
      let r : Restarts line (from_here first (memory o)) (standing last (past_of (memory p) later)) = record { answer = answer; sessions = forgets; settles = subst (λ (s : State). Settles s (memory p)) (sym run.0) (settles told start begin history run); tick = (view p.disk).clock; happened = is } in
      line_more limits line (from_here first (memory o)) (standing last (past_of (memory p) later)) (subst (λ (f : Form). LineBy limits f line (from_here first (memory o)) (standing last (past_of (memory p) later))) (sym form) r))

module _ {D : Type 0} (tells : Bool) (view : D → View) (fault_count : D → ℕ) where
  -- ---- what the lines made, on the disk

  pub went_of : (last : List Session) (o p : Shown D) (lines : List Line) → Goes tells view o.limits lines new_sessions last o p → IsTrue tells → (start : State) (begin : ℕ) (history : List Happening) → HasRun view start begin history o → Went view start begin history o (view p.disk) lines
  went_of last o p lines goes told start begin history run = let c = goes told start begin history run in record { stand = standing last (past_of (memory p) c.later); did = c.this; past = c.past; holds = c.holds }

  -- the disk went on by itself
  went_on : (last : List Session) (o p : Shown D) (end : View) (lines : List Line) → Goes tells view o.limits lines new_sessions last o p → (IsTrue tells → KeepsPast (view p.disk) end)
      → (IsTrue tells → (start : State) (begin : ℕ) (history : List Happening) → HasRun view start begin history p → Holds p.limits start begin history end)
      → IsTrue tells → (start : State) (begin : ℕ) (history : List Happening) → HasRun view start begin history o → Went view start begin history o end lines
  went_on last o p end lines goes past holds told start begin history run =
      let c = goes told start begin history run in
      record {
        stand = standing last (past_of (memory p) c.later);
        did = c.this;
        past = past_join (view o.disk) (view p.disk) end c.past (past told);
        holds = subst (λ (l : Limits). Holds l start begin (c.later ++ history) end) c.limits (holds told start begin (c.later ++ history) c.run);
      }

  -- ---- the loop over the requests

  module _ (o : Shown D) (requests : List Request) (i : ℕ) (request : Request) (lt : i < length requests) (is : request ≡ get_or requests i request) where
    next_taken : take (i + 1) requests ≡ take i requests ++ request ∷ []
    next_taken = take_more requests i request lt ∙ ap (λ (r : Request). take i requests ++ r ∷ []) (sym is)

    next_numbered : (number : ℕ) → number ≡ i + 1 → numbered 1 (take i requests) ++ (number, request) ∷ [] ≡ numbered 1 (take (i + 1) requests)
    next_numbered number is =
        let same : number ≡ 1 + length (take i requests) = omega (arith, is, lt, length-take i requests) in
        ap (λ (n : ℕ). numbered 1 (take i requests) ++ (n, request) ∷ []) same ∙ sym (ap (λ (rs : List Request). numbered 1 rs) next_taken ∙ numbered-push 1 (take i requests) request)

    asked_more : (lines : List Line) (line : Line) (number : ℕ) → number ≡ i + 1 → map asked_by lines ≡ numbered 1 (take i requests) → asked_by line ≡ (number, request) → map asked_by (lines ++ line ∷ []) ≡ numbered 1 (take (i + 1) requests)
    asked_more lines line number number_is before this =
        map-append asked_by lines (line ∷ []) ∙ ap (λ (l : List (ℕ × Request)). l ++ asked_by line ∷ []) before ∙ ap (λ (r : ℕ × Request). numbered 1 (take i requests) ++ r ∷ []) this ∙ next_numbered number number_is

    -- the first of the requests, and the rest
    asked_part : (k : ℕ) (lines : List Line) → map asked_by lines ≡ numbered 1 (take k requests) → numbered 1 requests ≡ map asked_by lines ++ drop k (numbered 1 requests)
    asked_part k lines asked = sym (take-append-drop k (numbered 1 requests)) ∙ ap (λ (l : List (ℕ × Request)). l ++ drop k (numbered 1 requests)) (take-numbered k 1 requests ∙ sym asked)

    module _ (number : ℕ) (number_is : number ≡ i + 1) (mid last : List Session) (p q : Shown D) (kept : p.limits ≡ o.limits) (reply : Result Done Refusal) (w u v : Option (List ℕ)) (done : Played tells view fault_count (take i requests) mid o p w u)
        (one : DidOne tells view p.limits number request reply mid last p q) (later : fault_count p.disk ≤ fault_count q.disk) (rose : IsTrue (is_faulty reply) → Rose (fault_count p.disk) (fault_count q.disk)) (this : ActedOne number request reply mid last p q) where
      abbrev line : Line
      line = record { number = number; request = request; answer = reply }

      all_go : Goes tells view o.limits (done.lines ++ line ∷ []) new_sessions last o q
      all_go = goes_then tells view o.limits new_sessions mid last o p q done.lines (line ∷ []) done.goes (subst (λ (l : Limits). DidOne tells view l number request reply mid last p q) kept one)

      all_acted : AreActed (done.lines ++ line ∷ []) (footing new_sessions (running_of o)) (footing last (running_of q))
      all_acted = acted_more done.lines line (footing new_sessions (running_of o)) (footing mid (running_of p)) (footing last (running_of q)) done.acted this

      counted_line : Counted 0 (fault_count o.disk) (fault_count q.disk) (done.lines ++ line ∷ [])
      counted_line = counted_more (fault_count o.disk) (fault_count p.disk) (fault_count q.disk) done.lines line later rose done.counted

      pub played_more : AppendsAll u v (printed_answer reply) → Played tells view fault_count (take (i + 1) requests) last o q w v
      played_more bytes = record {
        lines = done.lines ++ line ∷ [];
        asked = asked_more done.lines line number number_is done.asked refl;
        bytes =
            let text : flat_map printed (done.lines ++ line ∷ []) ≡ flat_map printed done.lines ++ printed_answer reply =
            flat_map-append printed done.lines (line ∷ []) ∙ ap (λ (l : List ℕ). flat_map printed done.lines ++ l) (append-nil (printed_answer reply)) in
            let P : List ℕ → Type 0 = λ l. AppendsAll w v l in subst P (sym text) (appends_then w u v (flat_map printed done.lines) (printed_answer reply) done.bytes bytes);
        counted = counted_line;
        acted = all_acted;
        goes = all_go;
      }

      -- it was done, and its answer isn't written whole
      pub part_written : (cause : PlayCause) (d : D) → (cause ≡ Device → ⊥) → ((file : FileId) (at : ℕ) → cause ≡ Damaged file at → ⊥) → (cause ≡ Memory → v ≡ u) → d ≡ q.disk → AppendsFront u v (printed_answer reply) → PlayedPart tells view fault_count cause requests o d w v
      part_written cause d device damaged uncut same front = record {
        whole = done.lines;
        part = line ∷ [];
        at_most_one = omega arith;
        rest = drop (i + 1) (numbered 1 requests);
        asked = asked_part (i + 1) (done.lines ++ line ∷ []) (asked_more done.lines line number number_is done.asked refl);
        between = u;
        bytes = done.bytes;
        front = let P : List ℕ → Type 0 = λ l. AppendsFront u v l in subst P (sym (append-nil (printed_answer reply))) front;
        uncut = uncut;
        ends = ends_writing cause device damaged line (drop (i + 1) (numbered 1 requests));
        counted = subst (λ (x : D). Counted (own_faults cause) (fault_count o.disk) (fault_count x) (done.lines ++ line ∷ [])) (sym same) (no_faults cause device (fault_count o.disk) (fault_count q.disk) (done.lines ++ line ∷ []) counted_line);
        acted = (footing last (running_of q), all_acted);
        went = subst (λ (x : D). IsTrue tells → (start : State) (begin : ℕ) (history : List Happening) → HasRun view start begin history o → Went view start begin history o (view x) (done.lines ++ line ∷ [])) (sym same) (went_of last o q (done.lines ++ line ∷ []) all_go);
      }

    -- it wasn't done: the disk couldn't be opened anew
    module _ (number : ℕ) (number_is : number ≡ i + 1) (restart : request.form ≡ Restart) (cause : PlayCause) (write : cause ≡ Write → ⊥) where
      abbrev behind : List (ℕ × Request)
      behind = drop (i + 1) (numbered 1 requests)

      asked_closed : (lines : List Line) → map asked_by lines ≡ numbered 1 (take i requests) → numbered 1 requests ≡ map asked_by lines ++ (number, request) ∷ behind
      asked_closed lines asked =
          sym (take-append-drop (i + 1) (numbered 1 requests))
          ∙ ap (λ (l : List (ℕ × Request)). l ++ behind) (take-numbered (i + 1) 1 requests ∙ sym (next_numbered number number_is))
          ∙ append_assoc (numbered 1 (take i requests)) ((number, request) ∷ []) behind
          ∙ ap (λ (l : List (ℕ × Request)). l ++ (number, request) ∷ behind) (sym asked)

      pub part_closed : (mid : List Session) (p : Shown D) (w u : Option (List ℕ)) (d e : D) → d ≡ e → Played tells view fault_count (take i requests) mid o p w u → fault_count p.disk ≤ fault_count e
          → (cause ≡ Device → Rose (fault_count p.disk) (fault_count e)) → (IsTrue tells → KeepsPast (view p.disk) (view e))
          → (IsTrue tells → (start : State) (begin : ℕ) (history : List Happening) → HasRun view start begin history p → Holds p.limits start begin history (view e)) → PlayedPart tells view fault_count cause requests o d w u
      part_closed mid p w u d e same done later rose past holds = record {
        whole = done.lines;
        part = [];
        at_most_one = omega arith;
        rest = (number, request) ∷ behind;
        asked = asked_closed (done.lines ++ []) (ap (map asked_by) (append-nil done.lines) ∙ done.asked);
        between = u;
        bytes = done.bytes;
        front = front_nil u;
        uncut = λ is. refl;
        acted = (footing mid (running_of p), subst (λ (l : List Line). AreActed l (footing new_sessions (running_of o)) (footing mid (running_of p))) (sym (append-nil done.lines)) done.acted);
        ends = ends_closing cause write (record { none = refl; number = number; request = request; more = behind; next = refl; restart = restart });
        counted = subst (λ (x : D). Counted (own_faults cause) (fault_count o.disk) (fault_count x) (done.lines ++ [])) (sym same)
            (subst (λ (l : List Line). Counted (own_faults cause) (fault_count o.disk) (fault_count e) l) (sym (append-nil done.lines)) (closing_faults cause write (fault_count o.disk) (fault_count p.disk) (fault_count e) done.lines later rose done.counted));
        went = subst (λ (x : D). IsTrue tells → (start : State) (begin : ℕ) (history : List Happening) → HasRun view start begin history o → Went view start begin history o (view x) (done.lines ++ [])) (sym same)
            (subst (λ (l : List Line). IsTrue tells → (start : State) (begin : ℕ) (history : List Happening) → HasRun view start begin history o → Went view start begin history o (view e) l) (sym (append-nil done.lines)) (went_on mid o p (view e) done.lines done.goes past holds));
      }

  pub played_none : (ss : List Session) (p : Shown D) (requests : List Request) (w : Option (List ℕ)) → ss ≡ new_sessions → Played tells view fault_count (take 0 requests) ss p p w w
  played_none ss p requests w new = record { lines = []; asked = refl; bytes = appends_nil w; counted = counted_none (fault_count p.disk); acted = ap (λ (l : List Session). footing l (running_of p)) new; goes = subst (λ (l : List Session). Goes tells view p.limits [] new_sessions l p p) (sym new) (goes_none tells view p.limits new_sessions p) }

  pub played_all : (ss : List Session) (p q : Shown D) (requests : List Request) (n : ℕ) (w v : Option (List ℕ)) → take n requests ≡ requests → Played tells view fault_count (take n requests) ss p q w v → Played tells view fault_count requests ss p q w v
  played_all ss p q requests n w v all played = subst (λ (l : List Request). Played tells view fault_count l ss p q w v) all played

  -- nothing was done
  pub part_none : (p : Shown D) (requests : List Request) (w : Option (List ℕ)) (d : D) → d ≡ p.disk → PlayedPart tells view fault_count Memory requests p d w w
  part_none p requests w d same = record {
    whole = [];
    part = [];
    at_most_one = omega arith;
    rest = numbered 1 requests;
    asked = refl;
    between = w;
    bytes = appends_nil w;
    front = front_nil w;
    uncut = λ is. refl;
    ends = tt;
    acted = (footing new_sessions (running_of p), refl);
    counted = subst (λ (x : D). Counted 0 (fault_count p.disk) (fault_count x) []) (sym same) (counted_none (fault_count p.disk));
    went = subst (λ (x : D). IsTrue tells → (start : State) (begin : ℕ) (history : List Happening) → HasRun view start begin history p → Went view start begin history p (view x) []) (sym same) (went_of new_sessions p p [] (goes_none tells view p.limits new_sessions p));
  }

  -- each session gave up what it had open, at the end of the input
  pub played_whole : (call_count : D → ℕ) (ss : List Session) (o p q : Shown D) (requests : List Request) (w v : Option (List ℕ)) → Played tells view fault_count requests ss o p w v → GiveUp (LocalDid tells view fault_count call_count) ss p q → fault_count p.disk ≤ fault_count q.disk → PlayedWhole tells view fault_count requests o q w v
  played_whole call_count ss o p q requests w v played ends later = record {
    lines = played.lines;
    asked = played.asked;
    bytes = played.bytes;
    counted = counted_later (fault_count o.disk) (fault_count p.disk) (fault_count q.disk) played.lines later played.counted;
    acted = (footing ss (running_of p), played.acted, acts_ended tells view fault_count call_count ss p q ends);
    goes = λ told start begin history run.
        let c = played.goes told start begin history run in
        continues_on view start begin history (λ later. AreLines o.limits played.lines (from_here new_sessions (memory o)) (standing ss (past_of (memory p) later))) (λ later. GiveUp (Happened o.limits) ss (past_of (memory p) []) (past_of (memory q) later))
        (IsWhole o.limits played.lines (memory o) (memory q)) o p q c (λ older run'. give_up_went tells view fault_count call_count o.limits told start begin ss older p q c.limits run' ends)
        (λ a b did more. record { stand = standing ss (past_of (memory p) a); did = did; ends = end_over o.limits a (standing ss (past_of (memory p) [])) (past_of (memory q) b) more });
  }

-- the same damage under the same limits
pub damage_kept : {D : Type 0} (view : D → View) (old new : Shown D) (d e : D) (file : FileId) (at : ℕ) → new.limits ≡ old.limits → d ≡ e → recover new.limits (view e).reads ≡ Err (file, at) → recover old.limits (view d).reads ≡ Err (file, at)
damage_kept {D = D} view old new d e file at limits same is = ap (λ (x : D). recover old.limits (view x).reads) same ∙ sym (ap (λ (l : Limits). recover l (view e).reads) limits) ∙ is

-- ---- the whole work

-- what holds on a disk isn't damaged
recovers_still : (limits : Limits) (start : State) (begin : ℕ) (history : List Happening) (v : View) → IsImage (now v) v.reads → Holds limits start begin history v → (file : FileId) (at : ℕ) → recover limits v.reads ≡ Err (file, at) → ⊥
recovers_still limits start begin history v shows holds file at bad = let gives = holds.ends.gives v.reads shows in absurd (cc (gives.1, bad))

opening_moments : (old mid new : View) → Narrows old mid → KeepsPast mid new → (m : ℕ) → old.clock ≤ m → m ≤ mid.clock → (image : Files) → IsImage (new.at m) image → IsImage (now old) image
opening_moments old mid new narrows past m ge le image is =
    let here : IsImage (mid.at m) image = subst (λ (s : States). IsImage s image) (past.at m le) is in
    ⊎_elim
    (λ lt. narrows.each m lt le image here)
    (λ not. let same : m ≡ old.clock = omega (arith, not, ge) in subst (λ (s : States). IsImage s image) (ap (λ (k : ℕ). mid.at k) same ∙ narrows.past old.clock (omega arith)) here)
    (cases_lt old.clock m)

is_opened : (limits : Limits) (old mid end : View) (r : Recovered) → recover limits old.reads ≡ Ok r → Narrows old mid → KeepsPast mid end → IsOpened limits old end r mid.clock
is_opened limits old mid end r recovers narrows past = record { opens = recovers; later = narrows.later; passed = past.clock; moments = opening_moments old mid end narrows past }

holds_as : {D : Type 0} (view : D → View) (limits : Limits) (p : Shown D) (end : View) (happened : List Happening) (r : Recovered) → (memory p) ≡ opening r → p.limits ≡ limits → Holds p.limits (memory p) (view p.disk).clock (happened ++ []) end
    → Holds limits (opening r) (view p.disk).clock happened end
holds_as view limits p end happened r state_is limits_is holds =
    let begin = (view p.disk).clock in
    subst (λ (h : List Happening). Holds limits (opening r) begin h end) (append-nil happened)
    (subst (λ (s : State). Holds limits s begin (happened ++ []) end) state_is (subst (λ (l : Limits). Holds l (memory p) begin (happened ++ []) end) limits_is holds))

module _ {D : Type 0} (view : D → View) (limits : Limits) (old : View) (p : Shown D) (lines : List Line) (r : Recovered) (recovers : recover limits old.reads ≡ Ok r) (state_is : (memory p) ≡ opening r) (limits_is : p.limits ≡ limits) (narrows : Narrows old (view p.disk)) where
  lines_as : (stand : Stand) → AreLines p.limits lines (from_here new_sessions (memory p)) stand → AreLines limits lines (from_here new_sessions (opening r)) stand
  lines_as stand did = subst (λ (s : State). AreLines limits lines (from_here new_sessions s) stand) state_is (subst (λ (l : Limits). AreLines l lines (from_here new_sessions (memory p)) stand) limits_is did)

  pub worked : (q : Shown D) → Continues view (memory p) (view p.disk).clock [] (IsWhole p.limits lines (memory p) (memory q)) p q → Worked limits None old (view q.disk) lines
  worked q c =
      let did = lines_as c.this.stand c.this.did in
      let end : Past = past_of (memory q) c.later in
      let ends : IsEnd limits c.this.stand end = subst (λ (l : Limits). IsEnd l c.this.stand end) limits_is c.this.ends in
      let holds = holds_as view limits p (view q.disk) c.later r state_is limits_is c.holds in
      let named = lines_named limits (opening r) lines (from_here new_sessions (opening r)) c.this.stand did (begins r) in
      let ended = end_named limits (opening r) c.this.stand end ends named.0 in
      record {
        start = r;
        begin = (view p.disk).clock;
        opened = is_opened limits old (view p.disk) (view q.disk) r recovers narrows c.past;
        stand = c.this.stand;
        did = did;
        undamaged = whole_lines limits lines (from_here new_sessions (opening r)) c.this.stand did;
        end = end;
        ends = ends;
        holds = holds;
        keeps = answers_kept limits (opening r) (view p.disk).clock end (view q.disk) lines holds ended.0 (still_named limits (opening r) (front c.this.stand.past.state) (front end.state) lines ended.1 named.2);
      }

  pub worked_part : (cause : PlayCause) (end : View) → Went view (memory p) (view p.disk).clock [] p end lines → Worked limits (Some cause) old end lines
  worked_part cause end went =
      let did = lines_as went.stand went.did in
      let holds = holds_as view limits p end went.stand.past.happened r state_is limits_is went.holds in
      let named = lines_named limits (opening r) lines (from_here new_sessions (opening r)) went.stand did (begins r) in
      record {
        start = r;
        begin = (view p.disk).clock;
        opened = is_opened limits old (view p.disk) end r recovers narrows went.past;
        stand = went.stand;
        did = did;
        undamaged = whole_lines limits lines (from_here new_sessions (opening r)) went.stand did;
        end = went.stand.past;
        ends = refl;
        holds = holds;
        keeps = answers_kept limits (opening r) (view p.disk).clock went.stand.past end lines holds named.0 named.2;
      }

-- what a run over a mounted disk says of the disk as it was
module _ {D : Type 0} (tells : Bool) (view : D → View) (fault_count : D → ℕ) (limits : Limits) (requests : List Request) (disk : D) (p : Shown D) (mounts : IsTrue tells → Mounts (recover limits (view disk).reads) (Ok p)) (kept : p.limits ≡ limits)
    (narrows : IsTrue tells → Narrows (view disk) (view p.disk)) (run : IsTrue tells → IsGood limits (now (view disk)) → HasRun view (memory p) (view p.disk).clock [] p) (sure : fault_count p.disk ≡ fault_count disk) (opened : memory p ≡ opening (ground p.ledger)) where
  later : fault_count disk ≤ fault_count p.disk
  later = omega (arith, sure)

  counted_whole : (q : Shown D) (d : D) (w v : Option (List ℕ)) → d ≡ q.disk → (played : PlayedWhole tells view fault_count requests p q w v) → Counted 0 (fault_count disk) (fault_count d) played.lines
  counted_whole q d w v same played = counted_earlier 0 (fault_count disk) (fault_count p.disk) (fault_count d) played.lines later (subst (λ (x : D). Counted 0 (fault_count p.disk) (fault_count x) played.lines) (sym same) played.counted)

  counted_part : (cause : PlayCause) (end : D) (w v : Option (List ℕ)) → (played : PlayedPart tells view fault_count cause requests p end w v) → Counted (own_faults cause) (fault_count disk) (fault_count end) (played.whole ++ played.part)
  counted_part cause end w v played = counted_earlier (own_faults cause) (fault_count disk) (fault_count p.disk) (fault_count end) (played.whole ++ played.part) later played.counted

  pub replayed : (q : Shown D) (d : D) (w v : Option (List ℕ)) → d ≡ q.disk → PlayedWhole tells view fault_count requests p q w v → Replayed tells limits requests (view disk) (view d) (fault_count disk) (fault_count d) w v
  replayed q d w v same played = record {
    lines = played.lines;
    asked = played.asked;
    bytes = played.bytes;
    counted = counted_whole q d w v same played;
    sure = none_faulty 0 (fault_count disk) (fault_count d) played.lines (counted_whole q d w v same played);
    acted = acted_whole p limits (ground p.ledger) kept opened played.lines (running_of q) played.acted;
    opens = λ told. ((mounts told).0, (mounts told).1);
    worked = λ told good.
        let m = mounts told in
        subst (λ (x : D). Worked limits None (view disk) (view x) played.lines) (sym same)
        (worked view limits (view disk) p played.lines m.0 m.1 m.2 kept (narrows told) q (played.goes told (memory p) (view p.disk).clock [] (run told good)));
  }

  pub replayed_part : (cause : PlayCause) (end : D) (w v : Option (List ℕ)) → PlayedPart tells view fault_count cause requests p end w v → ReplayedPart tells limits cause requests (view disk) (view end) (fault_count disk) (fault_count end) w v
  replayed_part cause end w v played = record {
    whole = played.whole;
    part = played.part;
    at_most_one = played.at_most_one;
    rest = played.rest;
    asked = played.asked;
    between = played.between;
    bytes = played.bytes;
    front = played.front;
    uncut = played.uncut;
    ends = played.ends;
    counted = counted_part cause end w v played;
    sure = none_faulty (own_faults cause) (fault_count disk) (fault_count end) (played.whole ++ played.part) (counted_part cause end w v played);
    acted = acted_lines p limits (ground p.ledger) kept opened (played.whole ++ played.part) played.acted;
    opens = λ told. ((mounts told).0, (mounts told).1);
    worked = λ told good.
        let m = mounts told in
        worked_part view limits (view disk) p (played.whole ++ played.part) m.0 m.1 m.2 kept (narrows told) cause (view end) (played.went told (memory p) (view p.disk).clock [] (run told good));
  }

  -- over a disk that may be handed in nothing is found damaged later either
  pub never_damaged : (cause : PlayCause) (end : D) (w v : Option (List ℕ)) (file : FileId) (at : ℕ) → PlayedPart tells view fault_count cause requests p end w v → IsTrue tells → IsGood limits (now (view disk)) → (IsTrue tells → IsImage (now (view end)) (view end).reads) → recover p.limits (view end).reads ≡ Err (file, at) → ⊥
  never_damaged cause end w v file at played told good shows bad =
      let went = played.went told (memory p) (view p.disk).clock [] (run told good) in
      recovers_still p.limits (memory p) (view p.disk).clock (went.stand.past.happened ++ []) (view end) (shows told) went.holds file at bad

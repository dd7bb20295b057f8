use Rattle.std.proofs.Common.{◌≡◌, ◌+◌, ◌<◌, ℕ, List, [], length, Option, Some, None, Err, refl, sym, subst, ap, ◌∙◌, arith}
use Rattle.std.specs.List.{HoldsAt}
use Rattle.std.proofs.lemmas.List.{append-nil}
use Rattle.std.proofs.lemmas.Result.{err_from_is_err_and}
use Rattle.gt_disk.specs.declared.file_id.FileId.{FileId}
use Rattle.gt_mark.specs.declared.error.ReadError.TheVariants.{Damaged}
use Rattle.gt_mark.specs.Reach.{Mentions}
use Rattle.gt_mark.specs.Marking.{IsUnderway, IsMentioned, Finds}
use Rattle.gt_mark.proofs.Pairs.{same, further}
use Rattle.gt_mark.proofs.Going.{good_more, bad_still, next_left, only_more, only_asked}
use Rattle.gt_mark.proofs.mark.Mark.step.Goals as goal

pub turns-init : goal.turns-init
turns-init g c = record {
  turns = omega arith;
  grows = ([], sym (append-nil c.args.self.now.pairs));
  faults = refl;
  mentions = λ told. refl;
  bad = λ told. refl;
  underway = λ told roots u. u;
  only = λ told. same (IsMentioned (g.R.Reads.mentions c.args.reader.now) c.args.self.now.pairs c.args.self.now.looked c.args.self.now.looked) c.args.self.now.pairs;
  good = λ told k d from to. absurd (omega (arith, from, to));
}

pub returns-then-is_done-clause-only : goal.returns-then-is_done-clause-only
returns-then-is_done-clause-only g c told =
    only_asked (g.R.Reads.mentions c.args.reader.now) c.args.self.now.pairs c.turns.self.pairs c.args.self.now.looked c.turns.self.looked (c.args.self.now.looked + c.args.n) (omega arith) (c.turns.invariant.only told)

pub returns-in_err-look_up-clause-underway : goal.returns-in_err-look_up-clause-underway
returns-in_err-look_up-clause-underway g c told roots u =
    subst (λ (m : Mentions). IsUnderway roots m c.turns.self → IsUnderway roots m c.look_up.new.self) (c.turns.invariant.mentions told) (c.look_up.ensures.underway told roots) (c.turns.invariant.underway told roots u)

pub returns-in_err-look_up-clause-only : goal.returns-in_err-look_up-clause-only
returns-in_err-look_up-clause-only g c told =
    let lt : c.turns.self.looked < length c.turns.self.pairs = next_left c.is_done.result c.turns.self.looked (length c.turns.self.pairs) c.is_done.ensures.done c.is_done.ensures.within c.if-is_done.false in
    let m : Mentions = g.R.Reads.mentions c.args.reader.now in
    only_asked m c.args.self.now.pairs c.look_up.new.self.pairs c.args.self.now.looked (c.turns.self.looked + 1) (c.args.self.now.looked + c.args.n) (omega arith)
    (only_more m c.args.self.now.pairs c.turns.self.pairs c.look_up.new.self.pairs c.args.self.now.looked c.turns.self.looked (omega arith) lt c.look_up.ensures.grows (c.turns.invariant.only told)
    (subst (λ (m : Mentions). Finds (IsMentioned m c.turns.self.pairs c.turns.self.looked (c.turns.self.looked + 1)) c.turns.self.pairs c.look_up.new.self.pairs) (c.turns.invariant.mentions told) (c.look_up.ensures.only told)))

pub returns-in_err-look_up-clause-damaged : goal.returns-in_err-look_up-clause-damaged
returns-in_err-look_up-clause-damaged g c told file at is =
    let p = err_from_is_err_and c.from_residual.result c.from_residual.ensures.1 in
    let d : c.in_err-look_up.field-0.0 ≡ Damaged file at = cc (p.1, p.2, is) in
    let lt : c.turns.self.looked < length c.turns.self.pairs = next_left c.is_done.result c.turns.self.looked (length c.turns.self.pairs) c.is_done.ensures.done c.is_done.ensures.within c.if-is_done.false in
    let here = c.in_err-look_up.ensures.damaged told file at (ap Err d) in
    bad_still (λ r. g.R.Reads.bad c.args.reader.now r.0 r.1 ≡ Some (file, at)) c.turns.self.pairs c.look_up.new.self.pairs c.turns.self.looked c.look_up.new.self.looked c.in_err-look_up.ensures.stays lt c.look_up.ensures.grows
    (subst (λ (b : List ℕ → List ℕ → Option (FileId × ℕ)). HoldsAt (λ r. b r.0 r.1 ≡ Some (file, at)) c.turns.self.pairs c.turns.self.looked) (c.turns.invariant.bad told) here)

pub turns-preserved : goal.turns-preserved
turns-preserved g c =
    let lt : c.turns.self.looked < length c.turns.self.pairs = next_left c.is_done.result c.turns.self.looked (length c.turns.self.pairs) c.is_done.ensures.done c.is_done.ensures.within c.if-is_done.false in
    record {
      turns = omega (arith, c.in_ok-look_up.ensures.looked, c.turns.invariant.turns);
      grows = further c.args.self.now.pairs c.turns.self.pairs c.look_up.new.self.pairs c.turns.invariant.grows c.look_up.ensures.grows;
      faults = c.in_ok-look_up.ensures.cause.others (λ is. absurd (cc (is))) ∙ c.turns.invariant.faults;
      mentions = λ told. c.look_up.ensures.mentions told ∙ c.turns.invariant.mentions told;
      bad = λ told. c.look_up.ensures.bad told ∙ c.turns.invariant.bad told;
      underway = λ told roots u.
          subst (λ (m : Mentions). IsUnderway roots m c.turns.self → IsUnderway roots m c.look_up.new.self) (c.turns.invariant.mentions told) (c.look_up.ensures.underway told roots) (c.turns.invariant.underway told roots u);
      only = λ told.
          subst (λ (n : ℕ). Finds (IsMentioned (g.R.Reads.mentions c.args.reader.now) c.look_up.new.self.pairs c.args.self.now.looked n) c.args.self.now.pairs c.look_up.new.self.pairs) (sym c.in_ok-look_up.ensures.looked)
          (only_more (g.R.Reads.mentions c.args.reader.now) c.args.self.now.pairs c.turns.self.pairs c.look_up.new.self.pairs c.args.self.now.looked c.turns.self.looked (omega arith) lt c.look_up.ensures.grows (c.turns.invariant.only told)
          (subst (λ (m : Mentions). Finds (IsMentioned m c.turns.self.pairs c.turns.self.looked (c.turns.self.looked + 1)) c.turns.self.pairs c.look_up.new.self.pairs) (c.turns.invariant.mentions told) (c.look_up.ensures.only told)));
      good = λ told.
          good_more (λ p. g.R.Reads.bad c.args.reader.now p.0 p.1 ≡ None) c.turns.self.pairs c.look_up.new.self.pairs c.args.self.now.looked c.turns.self.looked c.look_up.new.self.looked c.in_ok-look_up.ensures.looked lt c.look_up.ensures.grows (c.turns.invariant.good told)
          (subst (λ (b : List ℕ → List ℕ → Option (FileId × ℕ)). HoldsAt (λ p. b p.0 p.1 ≡ None) c.turns.self.pairs c.turns.self.looked) (c.turns.invariant.bad told) (c.in_ok-look_up.ensures.good told));
    }

-- Tables that follow a log go on doing so.
use Rattle.std.proofs.Common.{◌≡◌, ℕ, ◌+◌, ◌-◌, ◌≤◌, length, length-append, drop, List, [], ◌∷◌, ◌++◌, sym, ap, ◌∙◌, subst, arith}
use Rattle.std.proofs.lemmas.List.{take-append-le, drop-append-le, drop-drop}
use Rattle.std.proofs.Math.Seq.{drop-nil}
use Rattle.gt_model.specs.declared.entry.Entry.{Entry}
use Rattle.gt_model.specs.Contents.{Content, after_all, at}
use Rattle.gt_moves.specs.declared.moved.Move.{Move}
use Rattle.gt_objset.specs.Agree.{Agrees}
use Rattle.gt_objset.specs.Moved.{Repoints}
use Rattle.gt_objset.specs.Raised.{Raises}
use Rattle.gt_objset.specs.Table.{Table, Adds}
use Rattle.gt_objset.proofs.AgreeLaws.{agrees_more}
use Rattle.gt_objset.proofs.MovedLaws.{repointed_agrees}
use Rattle.gt_objset.proofs.RaisedLaws.{raised_agrees}
use Rattle.gt_standing.specs.Following.{Follows}
use Rattle.gt_standing.specs.Moved.{RepointsAll}
use Rattle.gt_standing.proofs.First.{no_entries, take_none}
use Rattle.gt_standing.proofs.Positions.{counted_on}

-- another content and another log that are the same
same_agrees : (t : Table) (c d : Content) (one two : List Entry) → c ≡ d → one ≡ two → Agrees t c one → Agrees t d two
same_agrees t c d one two content log h = subst (λ (es : List Entry). Agrees t d es) log (subst (λ (x : Content). Agrees t x one) content h)

module _ (begin : ℕ) (base : Content) where
  pub first_follows : (t : Table) → t.floor ≡ begin → t.front ≡ begin → Agrees t base [] → Follows begin base [] t
  first_follows t floor front h = record {
    low = omega arith;
    front = omega arith;
    agrees = same_agrees t base (at begin base [] t.floor) no_entries (drop (t.floor - begin) no_entries) (ap (after_all base) (sym (take_none (t.floor - begin)))) (sym (drop-nil (t.floor - begin))) h;
  }

  pub added_follows : (log : List Entry) (e : Entry) (old new : Table) → Follows begin base log old → Adds e old new → Follows begin base (log ++ e ∷ []) new
  added_follows log e old new h a =
      let low : begin ≤ old.floor = h.low in
      let front : old.front ≡ begin + length log = h.front in
      let long : old.front ≡ old.floor + length (drop (old.floor - begin) log) = h.agrees.front in
      let floor : new.floor ≡ old.floor = a.floor in
      let next : new.front ≡ old.front + 1 = a.front in
      record {
        low = omega arith;
        front = omega (arith, length-append log (e ∷ []));
        agrees =
            same_agrees new (at begin base log old.floor) (at begin base (log ++ e ∷ []) new.floor) (drop (old.floor - begin) log ++ e ∷ []) (drop (new.floor - begin) (log ++ e ∷ []))
            (sym (ap (λ n. at begin base (log ++ e ∷ []) n) floor ∙ ap (after_all base) (take-append-le (old.floor - begin) log (e ∷ []) (omega arith))))
            (sym (ap (λ n. drop (n - begin) (log ++ e ∷ [])) floor ∙ drop-append-le (old.floor - begin) log (e ∷ []) (omega arith)))
            (agrees_more old new (at begin base log old.floor) (drop (old.floor - begin) log) e h.agrees a);
      }

  one_follows : (log : List Entry) (m : Move) (old new : Table) → Follows begin base log old → Repoints m.position m.path m.name m.place old new → Follows begin base log new
  one_follows log m old new h r = record {
    low = let low : begin ≤ old.floor = h.low in let floor : new.floor ≡ old.floor = r.floor in omega arith;
    front = r.front ∙ h.front;
    agrees =
        subst (λ (n : ℕ). Agrees new (at begin base log n) (drop (n - begin) log)) (sym r.floor)
        (repointed_agrees old new (at begin base log old.floor) (drop (old.floor - begin) log) m.position m.path m.name m.place h.agrees r);
  }

  pub moved_follows : (log : List Entry) (ms : List Move) (old new : Table) → Follows begin base log old → RepointsAll ms old new → Follows begin base log new
  moved_follows log [] old new h is = subst (λ (t : Table). Follows begin base log t) (sym is) h
  moved_follows log (m ∷ ms) old new h all = moved_follows log ms all.0 new (one_follows log m old all.0 h all.1) all.2

  pub raised_follows : (to : ℕ) (log : List Entry) (old new : Table) → Follows begin base log old → old.floor ≤ to → to ≤ old.front → Raises to old new → Follows begin base log new
  raised_follows to log old new h l high r =
      let low : begin ≤ old.floor = h.low in
      let floor : new.floor ≡ to = r.floor in
      let same : (old.floor - begin) + (to - old.floor) ≡ to - begin = omega arith in
      record {
        low = omega arith;
        front = r.front ∙ h.front;
        agrees =
            same_agrees new (at old.floor (at begin base log old.floor) (drop (old.floor - begin) log) to) (at begin base log new.floor) (drop (to - old.floor) (drop (old.floor - begin) log)) (drop (new.floor - begin) log)
            (sym (ap (λ n. at begin base log n) floor ∙ counted_on begin old.floor to base log low l))
            (drop-drop (to - old.floor) (old.floor - begin) log ∙ ap (λ n. drop n log) same ∙ sym (ap (λ n. drop (n - begin) log) floor))
            (raised_agrees old new (at begin base log old.floor) (drop (old.floor - begin) log) to h.agrees l high r);
      }

-- What memory holds of a log goes on with it.
use Rattle.std.proofs.Common.{◌≡◌, ℕ, ◌+◌, ◌-◌, ◌≤◌, max, List, [], ◌∷◌, ◌++◌, take, Some, None, sym, ap, subst, arith, length-append, IsTrue}
use Rattle.std.proofs.lemmas.List.{take-append-le}
use Rattle.std.proofs.lemmas.List.Elements.{All-push, All-nil}
use Rattle.gt_apply.specs.Fitting.{Lists, HasGoodPools}
use Rattle.gt_base.specs.Built.{IsBuilt}
use Rattle.gt_base.specs.Loading.{BaseState}
use Rattle.gt_entry.specs.Fits.{IsEntry, HasSpelling}
use Rattle.gt_manifest.specs.declared.manifest.Manifest.{Manifest}
use Rattle.gt_manifest.specs.declared.version.Version.TheVariants.{Second}
use Rattle.gt_manifest.specs.Whole.{Fits}
use Rattle.gt_model.specs.declared.entry.Entry.{Entry}
use Rattle.gt_model.specs.Batches.{next_past, file_of}
use Rattle.gt_model.specs.Contents.{fits, after_all, at}
use Rattle.gt_model.proofs.Logs.{legal_append}
use Rattle.gt_table.specs.Table.{Past, base, front, content, content_at}
use Rattle.gt_journal.specs.Carried.{IsLogged, IsCarried, Carries, IsMemory}
use Rattle.gt_journal.specs.Ledger.{Ledger, changed}

-- ---- a log

-- nothing past a base
pub logged_none : (p : Past) → p.log ≡ [] → HasGoodPools (base p) → IsLogged p
logged_none p none pools = subst (λ (l : List Entry). IsLogged (record p { log = l })) (sym none) (record { legal = tt; typed = All-nil IsEntry; spelled = All-nil HasSpelling; built = All-nil IsBuilt; pools = pools })

-- an entry more
pub logged_push : (p : Past) (e : Entry) → IsLogged p → e.position ≡ front p + 1 → IsTrue (fits (content p) e) → IsEntry e → HasSpelling e → IsBuilt e → IsLogged (record p { log = p.log ++ e ∷ [] })
logged_push p e l at fit typed spelled built = record {
  legal = legal_append (base p) (p.begin + 1) p.log e l.legal (omega (arith, at)) fit;
  typed = All-push IsEntry p.log e l.typed typed;
  spelled = All-push HasSpelling p.log e l.spelled spelled;
  built = All-push IsBuilt p.log e l.built built;
  pools = l.pools;
}

-- ---- a manifest

content_same : (p : Past) (more : List Entry) (position : ℕ) → position ≤ front p → content_at (record p { log = p.log ++ more }) position ≡ content_at p position
content_same p more position le = ap (after_all (base p)) (take-append-le (position - p.begin) p.log more (omega (arith, le)))

pub carried_more : (p : Past) (more : List Entry) (next : ℕ) (m : Manifest) → IsCarried p next m → IsCarried (record p { log = p.log ++ more }) next m
carried_more p more next m c = record {
  fits = c.fits;
  from = c.from;
  to = omega (arith, c.to, length-append p.log more);
  lists = subst (Lists m) (sym (content_same p more m.applied c.to)) c.lists;
  numbers = c.numbers;
}

pub carries_more : (p : Past) (more : List Entry) (next : ℕ) (b : BaseState) → Carries p next b → Carries (record p { log = p.log ++ more }) next b
carries_more p more next b c = record {
  now = carried_more p more next b.manifest c.now;
  later = λ to is. let k = c.later to is in record { carried = carried_more p more next to k.carried; epoch = k.epoch; more = k.more };
}

-- the next free number is the manifest's or greater
pub next_above : (next : ℕ) (log : List Entry) → next ≤ next_past next log
next_above next [] = omega arith
next_above next (e ∷ es) = omega (arith, next_above (max next (file_of e.change + 1)) es)

-- a base that was read, where nothing past it has been applied
pub carried_start : (p : Past) (next : ℕ) (m : Manifest) → Fits Second m → p.begin ≡ m.applied → Lists m (base p) → m.next ≤ next → IsCarried p next m
carried_start p next m fits begin lists numbers =
    let none : m.applied - p.begin ≡ 0 = omega (arith, begin) in
    record {
      fits = fits;
      from = omega (arith, begin);
      to = omega (arith, begin);
      lists = subst (Lists m) (ap (λ (k : ℕ). after_all (base p) (take k p.log)) (sym none)) lists;
      numbers = numbers;
    }

-- ---- the whole

-- the entry is in, and nothing is in doubt
pub memory_push : (l : Ledger) (e : Entry) → IsMemory l → e.position ≡ front l.past + 1 → IsTrue (fits (content l.past) e) → IsEntry e → HasSpelling e → IsBuilt e → IsMemory (changed l (l.past.log ++ e ∷ []) None)
memory_push l e m at fit typed spelled built = record {
  logged = logged_push l.past e m.logged at fit typed spelled built;
  carried = carries_more l.past (e ∷ []) l.next l.base m.carried;
  begins = m.begins;
  floor = m.floor;
  doubt = λ x is. absurd (cc (is));
}

-- an entry is in doubt
pub memory_doubt : (l : Ledger) (e : Entry) → IsMemory l → IsEntry e → HasSpelling e → IsMemory (changed l l.past.log (Some e))
memory_doubt l e m typed spelled = record {
  logged = m.logged;
  carried = m.carried;
  begins = m.begins;
  floor = m.floor;
  doubt = λ x is. let same : e ≡ x = cc (is) in subst (λ (y : Entry). IsEntry y × HasSpelling y) same (typed, spelled);
}

-- nothing is in doubt
pub memory_clear : (l : Ledger) → IsMemory l → IsMemory (changed l l.past.log None)
memory_clear l m = record { logged = m.logged; carried = m.carried; begins = m.begins; floor = m.floor; doubt = λ x is. absurd (cc (is)) }

-- Programs one after the other, as code runs them.
use Rattle.std.proofs.Common.{◌≡◌, ℕ, ◌+◌, ◌<◌, length, drop, get_or, List, [], ◌∷◌, ◌++◌, Result, Ok, Err, IfOk, OnErr, sym, ap, ◌∙◌, subst}
use Rattle.std.proofs.lemmas.List.{drop_more}
use Rattle.gt_disk.specs.Files.{Files, View, Quiet}
use Rattle.gt_log.specs.declared.mount_cause.MountCause.{MountCause}
use Rattle.gt_log.specs.declared.mount_cause.MountCause.TheVariants.{DeviceFault, Damaged, Memory}
use Rattle.gt_reading.specs.Reading.{Damage, Reading, run, done, ◌>>=◌, each_in, one_more}
use Rattle.gt_reading.proofs.Programs.{run_then, run_damaged}
use Rattle.gt_base.specs.Answers.{Blames, Reads}

-- what stopped the first stops both
pub blames_then : {A B : Type 0} (r : Reading A) (more : A → Reading B) (files : Files) (cause : MountCause) → Blames (run files r) cause → Blames (run files (r >>= more)) cause
blames_then r more files DeviceFault is = tt
blames_then r more files Memory is = tt
blames_then r more files (Damaged file at) is = run_damaged r more files (file, at) is

-- the second goes on over what the first has left
pub reads_then : {A B : Type 0} (r : Reading A) (more : A → Reading B) (files : Files) (x : A) (result : Result B MountCause) → run files r ≡ Ok x → Reads (run files (more x)) result → Reads (run files (r >>= more)) result
reads_then r more files x result is next = subst (λ read. Reads read result) (sym (run_then r more files x is)) next

-- what is read later was there before
pub reads_before : {A : Type 0} (r : Reading A) (v w : View) (result : Result A MountCause) → Quiet v w → Reads (run w.reads r) result → Reads (run v.reads r) result
reads_before r v w result q is = subst (λ (files : Files). Reads (run files r) result) q.reads is

-- a loop over a list, before its next item
module _ {A B : Type 0} (read : A → Reading B) (files : Files) (all : Result (List B) Damage) (ys : List B) (xs : List A) (i : ℕ) (x : A) (inside : i < length xs) (here : x ≡ get_or xs i x) (so_far : all ≡ run files (each_in (one_more read) ys (drop i xs))) where
  abbrev step : B → Reading (List B)
  step y = done (ys ++ y ∷ [])

  abbrev on : List B → Reading (List B)
  on zs = each_in (one_more read) zs (drop (i + 1) xs)

  next_is : all ≡ run files (read x >>= step >>= on)
  next_is = so_far ∙ ap (λ (l : List A). run files (each_in (one_more read) ys l)) (drop_more xs i x inside ∙ ap (λ (y : A). y ∷ drop (i + 1) xs) (sym here))

  -- an item more
  pub list_next : (y : B) (zs : List B) → run files (read x) ≡ Ok y → zs ≡ ys ++ y ∷ [] → all ≡ run files (each_in (one_more read) zs (drop (i + 1) xs))
  list_next y zs is more =
      next_is ∙ run_then (read x >>= step) on files (ys ++ y ∷ []) (run_then (read x) step files y is)
      ∙ ap (λ (l : List B). run files (each_in (one_more read) l (drop (i + 1) xs))) (sym more)

  -- an item that isn't read
  pub list_blames : (cause : MountCause) → Blames (run files (read x)) cause → Blames all cause
  list_blames cause is = subst (λ (r : Result (List B) Damage). Blames r cause) (sym next_is) (blames_then (read x >>= step) on files cause (blames_then (read x) step files cause is))

pub quiet_join : (u v w : View) → Quiet u v → Quiet v w → Quiet u w
quiet_join u v w q r = record { reads = r.reads ∙ q.reads; clock = r.clock ∙ q.clock; at = r.at ∙ q.at }

-- a value that is made, or memory ran out
pub made_or_memory : {A : Type 0} (value : A) (result : Result A MountCause) → IfOk result (λ x. x ≡ value) → OnErr result (result ≡ Err Memory) → Reads (Ok value) result
made_or_memory value (Ok x) made memory = ap Ok (sym made)
made_or_memory {A} value (Err cause) made memory =
    let same : cause ≡ Memory = cc (memory) in
    subst (λ (c : MountCause). Blames {A = A} (Ok value) c) (sym same) tt

-- An entry is added to the log.
use Rattle.std.proofs.Common.{◌≡◌, ◌≢◌, ◌⊎◌, inl, inr, ⊎_elim, ℕ, ◌+◌, ◌-◌, ◌<◌, ◌≤◌, List, [], ◌∷◌, ◌++◌, length, Some, Result, Ok, Err, refl, sym, ◌∙◌, ap, subst, arith, length-append}
use Rattle.std.specs.List.{AllByRecursion}
use Rattle.gt_disk.specs.declared.file_id.FileId.{FileId}
use Rattle.gt_disk.specs.Files.{Content as FileContent, FileState, Files, Leaves, States, IsImage, View, now, still}
use Rattle.gt_disk.specs.Kinds.{gate_file, turn_file, manifest_file, entry_file, pack_file, packed_file, loose_file}
use Rattle.gt_disk.specs.Moments.{Since}
use Rattle.gt_disk.proofs.Steps.{cases_file}
use Rattle.gt_log.specs.Log.{content_length, KeepsEntries, Stands, Doubts, Adding, Staying, AddMoment, AfterAdd}
use Rattle.gt_log.specs.declared.log_error.LogError.{LogError}
use Rattle.gt_log.specs.declared.log_error.LogError.TheVariants.{Untouched, Unsure, Memory}
use Rattle.gt_log.proofs.Images.{image_still, later_each}
use Rattle.gt_model.specs.declared.entry.Entry.{Entry}
use Rattle.gt_model.specs.declared.limits.Limits.{Limits}
use Rattle.gt_reading.specs.Reading.{run, parsed}
use Rattle.gt_reading.specs.Frames.{IsStill, AreStill}
use Rattle.gt_reading.proofs.Framing.{either, mend, mend_other, since_now}
use Rattle.gt_reading.proofs.Programs.{every_weaker}
use Rattle.gt_base.specs.Entries.{entry_of, entry_in}
use Rattle.gt_base.specs.Held.{content_of}
use Rattle.gt_base.specs.Recovery.{Loaded, counted}
use Rattle.gt_ahead.specs.Adds.{with_entries, MayAdd, AddLoads, LoadsAfterAdd}
use Rattle.gt_ahead.specs.Files.{base_files, log_files, data_files_of}
use Rattle.gt_ahead.specs.Later.{last_content, with_entry}
use Rattle.gt_ahead.specs.Loads.{IsOneOf, LoadsAt, Loads, LoadsOver, HasBothLogs, GateCounts, IsBetween}
use Rattle.gt_ahead.proofs.Added.{adds_on_at}
use Rattle.gt_ahead.proofs.Asked.{asks_counted, entry_placed, manifest_read}
use Rattle.gt_ahead.proofs.Counters.{gate_either, gate_decides}
use Rattle.gt_ahead.proofs.Frame.{of_one, all_same, all_still, loads_over, loads_at, loads_weaker, one_of_first}
use Rattle.gt_ahead.proofs.Lists.{all_append, all_front}
use Rattle.gt_ahead.proofs.Older.{other_kind, data_kinds, stand_until}
use Rattle.gt_ahead.proofs.Parts.{base_parts, parts_of}

one_more_of : (xs : List Loaded) (e : Entry) (x : Loaded) → IsOneOf xs x → IsOneOf (with_entries xs e) (with_entry x e)
one_more_of [] e x one = absurd one
one_more_of (y ∷ ys) e x (inl same) = inl (ap (λ (z : Loaded). with_entry z e) same)
one_more_of (y ∷ ys) e x (inr later) = inr (one_more_of ys e x later)

all_added : (P : FileId → Type 0) (log : List Entry) (e : Entry) → AllByRecursion P (log_files log) → P (entry_file e.position) → AllByRecursion P (log_files (log ++ e ∷ []))
all_added P [] e all here = (here, tt)
all_added P (x ∷ log) e all here = (all.0, all_added P log e all.1 here)

-- an image with one file of another
leaves_mend : (f : FileId) (x : FileContent) (image : Files) (states : States) (g : FileId) → (g ≡ f → Leaves (states f) x) → (g ≢ f → Leaves (states g) (image g)) → Leaves (states g) (mend f x image g)
leaves_mend f x image states g this rest = by (cases_file g f)
  where
    by : (d : (g ≡ f) ⊎ (g ≢ f)) → Leaves (states g) (either f x image g d)
    by (inl same) = subst (λ (h : FileId). Leaves (states h) x) (sym same) (this same)
    by (inr other) = rest other

module _ (limits : Limits) (gate : ℕ) (olds : List Loaded) (e : Entry) (bytes : List ℕ) (before : States) (files : Files) (shows : IsImage before files) (may : MayAdd limits gate olds e bytes before) (counts : GateCounts gate before) where
  abbrev next : FileId
  next = entry_file (gate + 1)

  abbrev news : List Loaded
  news = with_entries olds e

  module _ (states : States) (others : (g : FileId) → g ≢ gate_file → g ≢ next → states g ≡ before g) where
    module _ (image : Files) (is : IsImage states image) where
      abbrev epoch : ℕ
      epoch = content_length (image turn_file)

      -- an image from before that differs at the gate and the entry alone
      abbrev earlier : Files
      earlier = mend next (files next) (mend gate_file (files gate_file) image)

      earlier_is : IsImage before earlier
      earlier_is g = leaves_mend next (files next) (mend gate_file (files gate_file) image) before g (λ same. shows next)
          (λ not_next. leaves_mend gate_file (files gate_file) image before g (λ same. shows gate_file) (λ not_gate. subst (λ (s : FileState). Leaves s (image g)) (others g not_gate not_next) (is g)))

      turn_same : content_length (earlier turn_file) ≡ epoch
      turn_same = ap content_length (mend_other next (files next) (mend gate_file (files gate_file) image) turn_file (other_kind turn_file next (λ k. omega (arith, k))) ∙ mend_other gate_file (files gate_file) image turn_file (other_kind turn_file gate_file (λ k. omega (arith, k))))

      gate_same : content_length (earlier gate_file) ≡ gate
      gate_same = ap content_length (image_still before earlier gate_file counts.bytes earlier_is counts.gate_still) ∙ counts.length

      loaded : LoadsAt limits epoch gate olds before earlier
      loaded = loads_at limits olds before earlier (content_length (earlier turn_file)) (content_length (earlier gate_file)) epoch gate turn_same gate_same (may.loads earlier earlier_is)

      abbrev x : Loaded
      x = loaded.what

      abbrev Stays : FileId → Type 0
      Stays f = states f ≡ before f

      stays : (f : FileId) → f.kind ≢ 1 → f ≢ next → Stays f
      stays f one not_next = others f (other_kind f gate_file one) not_next

      of_kind : (f : FileId) → f.kind ≢ 1 → f.kind ≢ 4 → Stays f
      of_kind f one four = stays f one (other_kind f next four)

      log_within : AllByRecursion (λ y. y.position < gate + 1) x.log
      log_within =
          let p = parts_of limits earlier epoch gate x loaded.is in
          let low : x.base.manifest.applied ≤ gate = (manifest_read earlier epoch gate x.base.manifest (base_parts earlier epoch gate x.base p.base).manifest).within in
          let end : x.base.manifest.applied + 1 + (gate - x.base.manifest.applied) ≡ gate + 1 = omega (arith, low) in
          subst (λ (n : ℕ). AllByRecursion (λ y. y.position < n) x.log) end (stand_until earlier (content_of x.base.repos) (x.base.manifest.applied + 1) (gate - x.base.manifest.applied) x.log p.log)

      all_stay : AllByRecursion Stays (data_files_of x)
      all_stay =
          data_kinds Stays (λ n. of_kind (pack_file n) (λ k. omega (arith, k)) (λ k. omega (arith, k))) (λ n. of_kind (packed_file n) (λ k. omega (arith, k)) (λ k. omega (arith, k))) (λ n. of_kind (loose_file n) (λ k. omega (arith, k)) (λ k. omega (arith, k)))
          x (of_kind (manifest_file x.base.manifest.epoch) (λ k. omega (arith, k)) (λ k. omega (arith, k)))
          (every_weaker (λ y. y.position < gate + 1) (λ y. Stays (entry_file y.position))
          (λ y lt. stays (entry_file y.position) (λ k. omega (arith, k)) (λ same. let n : y.position ≡ gate + 1 = ap (λ (f : FileId). f.number) same in omega (arith, lt, n))) x.log log_within)

      data_still : AreStill before (data_files_of x)
      data_still = subst (AreStill before) (asks_counted earlier limits epoch gate x loaded.is) loaded.steady

      old_here : LoadsAt limits epoch gate olds states image
      old_here = loads_over before states earlier image earlier_is is limits epoch gate olds loaded all_stay

      module _ (lasts : states next ≡ still (Some bytes)) where
        entry_here : run image (entry_in (last_content x) (gate + 1)) ≡ Ok e
        entry_here =
            ap (λ (c : FileContent). run image (parsed next (entry_of c (last_content x) (gate + 1)))) (image_still states image next (Some bytes) is lasts)
            ∙ ap (λ (o : Result Entry ℕ). run image (parsed next o)) (of_one (λ y. entry_of (Some bytes) (last_content y) (gate + 1) ≡ Ok e) olds x may.fits loaded.has)

        more_is : run image (counted limits epoch (gate + 1)) ≡ Ok (with_entry x e)
        more_is = adds_on_at limits x e epoch gate earlier image loaded.is may.within (all_same before states earlier image earlier_is is (data_files_of x) all_stay data_still) entry_here

        more_still : AreStill states (data_files_of (with_entry x e))
        more_still =
            let kept = all_front (λ f. IsStill (states f)) (base_files x.base.manifest) (log_files x.log) (all_still before states earlier image earlier_is is (data_files_of x) all_stay data_still) in
            let at : e.position ≡ gate + 1 = entry_placed image (last_content x) (gate + 1) e entry_here in
            all_append (λ f. IsStill (states f)) (base_files x.base.manifest) (log_files (x.log ++ e ∷ [])) kept.0
            (all_added (λ f. IsStill (states f)) x.log e kept.1 (Some bytes, ap (λ (n : ℕ). states (entry_file n)) at ∙ lasts))

        new_here : LoadsAt limits epoch (gate + 1) news states image
        new_here = record {
          what = with_entry x e;
          is = more_is;
          has = one_more_of olds e x loaded.has;
          steady = subst (AreStill states) (sym (asks_counted image limits epoch (gate + 1) (with_entry x e) more_is)) more_still;
        }

    old_over : LoadsOver limits gate olds states
    old_over image is = old_here image is

    both_over : states next ≡ still (Some bytes) → HasBothLogs limits gate olds news states
    both_over lasts = record { old = old_over; new = λ image is. new_here image is lasts }

  -- ---- moments

  module _ (first : ℕ) (entries : List (List ℕ)) (at : gate + 1 ≡ length entries + first) where
    not_next : (g : FileId) → g ≢ next → g ≢ entry_file (length entries + first)
    not_next g ne same = ne (same ∙ ap entry_file (sym at))

    stands_counts : (states : States) → Stands first entries states → GateCounts gate states
    stands_counts states s = record { bytes = s.gate; gate_still = s.gate_still; length = omega (arith, s.gate_length, at) }

    next_counts : (states : States) → Stands first (entries ++ bytes ∷ []) states → GateCounts (gate + 1) states
    next_counts states s = record { bytes = s.gate; gate_still = s.gate_still; length = omega (arith, s.gate_length, at, length-append entries (bytes ∷ [])) }

    doubts_between : (states : States) → Doubts first entries bytes states → IsBetween gate (states gate_file)
    doubts_between states d y leaves = ⊎_elim (λ out. inl (omega (arith, out, at))) (λ in_it. inr (omega (arith, in_it, at))) (d.gate y leaves)

    entry_lasts : (states : States) → KeepsEntries first (entries ++ bytes ∷ []) states → states next ≡ still (Some bytes)
    entry_lasts states keeps =
        let here : gate + 1 ≡ 0 + (length entries + first) = omega (arith, at) in
        ap (λ (n : ℕ). states (entry_file n)) here ∙ later_each first entries (bytes ∷ []) states (λ b. still (Some b)) keeps 0 (omega arith)

    staying_loads : (states : States) → Staying first entries before states → Loads limits olds states
    staying_loads states s = gate_decides limits gate olds states (old_over states (λ g not_gate ne. s.others g not_gate (not_next g ne))) (stands_counts states s.log)

    adding_loads : (states : States) → Adding first entries bytes before states → Loads limits (olds ++ news) states
    adding_loads states a = elim a.log [
      | inl out ↦ λ image is. loads_weaker limits olds (olds ++ news) states image (content_length (image turn_file)) (content_length (image gate_file)) (one_of_first olds news) (staying_loads states (record { log = out; others = a.others }) image is)
      | inr doubt ↦ gate_either limits gate olds news states (both_over states (λ g not_gate ne. a.others g not_gate (not_next g ne)) (entry_lasts states doubt.each)) (doubts_between states doubt)
    ]

    moment_loads : (result : Result ℕ LogError) (states : States) → AddMoment result first entries bytes before states → AddLoads result limits olds news states
    moment_loads (Ok n) states moment = adding_loads states moment
    moment_loads (Err Untouched) states moment = staying_loads states moment
    moment_loads (Err Unsure) states moment = adding_loads states moment
    moment_loads (Err Memory) states moment = staying_loads states moment

    pub since_loads : (result : Result ℕ LogError) (v w : View) → Since (AddMoment result first entries bytes before) v w → Since (AddLoads result limits olds news) v w
    since_loads result v w s = record { later = s.later; past = s.past; each = λ m lt le. moment_loads result (w.at m) (s.each m lt le) }

    end_loads : (result : Result ℕ LogError) (states : States) → AddMoment result first entries bytes before states → AfterAdd result first entries bytes states → LoadsAfterAdd result limits gate olds news states
    end_loads (Ok n) states moment after = gate_decides limits (gate + 1) news states (both_over states (λ g not_gate ne. moment.others g not_gate (not_next g ne)) (entry_lasts states after.each)).new (next_counts states after)
    end_loads (Err Untouched) states moment after = staying_loads states moment
    end_loads (Err Unsure) states moment after =
        let both = both_over states (λ g not_gate ne. moment.others g not_gate (not_next g ne)) (entry_lasts states after.each) in (both, gate_either limits gate olds news states both (doubts_between states after))
    end_loads (Err Memory) states moment after = staying_loads states moment

    begins : (result : Result ℕ LogError) → Stands first entries before → AddMoment result first entries bytes before before
    begins (Ok n) s = record { log = inl s; others = λ g a b. refl }
    begins (Err Untouched) s = record { log = s; others = λ g a b. refl }
    begins (Err Unsure) s = record { log = inl s; others = λ g a b. refl }
    begins (Err Memory) s = record { log = s; others = λ g a b. refl }

-- from the view before the call to the one after it
module _ (limits : Limits) (gate : ℕ) (olds : List Loaded) (e : Entry) (bytes : List ℕ) (first : ℕ) (entries : List (List ℕ)) (result : Result ℕ LogError) (v w : View) (shows : IsImage (now v) v.reads) (may : MayAdd limits gate olds e bytes (now v))
    (at : gate + 1 ≡ length entries + first) (stood : Stands first entries (now v)) (moments : Since (AddMoment result first entries bytes (now v)) v w) where
  stood_counts : GateCounts gate (now v)
  stood_counts = record { bytes = stood.gate; gate_still = stood.gate_still; length = omega (arith, stood.gate_length, at) }

  pub added_since : Since (AddLoads result limits olds (with_entries olds e)) v w
  added_since = since_loads limits gate olds e bytes (now v) v.reads shows may stood_counts first entries at result v w moments

  pub added_after : AfterAdd result first entries bytes (now w) → LoadsAfterAdd result limits gate olds (with_entries olds e) (now w)
  added_after = end_loads limits gate olds e bytes (now v) v.reads shows may stood_counts first entries at result (now w)
      (since_now (AddMoment result first entries bytes (now v)) v w moments (begins limits gate olds e bytes (now v) v.reads shows may stood_counts first entries at result stood))

-- A log that is read by its results, entry by entry.
use Rattle.std.proofs.Common.{◌≡◌, ℕ, zero, suc, ◌+◌, List, [], ◌∷◌, ◌++◌, Result, Ok, Err, refl, ◌∙◌, ap}
use Rattle.gt_disk.specs.Files.{Files}
use Rattle.gt_disk.specs.Kinds.{entry_file}
use Rattle.gt_model.specs.declared.entry.Entry.{Entry}
use Rattle.gt_model.specs.Contents.{Content, after}
use Rattle.gt_reading.specs.Reading.{Damage, done, run, parsed, ◌>>=◌}
use Rattle.gt_reading.proofs.Programs.{mapped, run_mapped}
use Rattle.gt_base.specs.Entries.{entry_of, entries_in}

abbrev pub and_more : Result Entry ℕ → ℕ → (Entry → Result (List Entry) Damage) → Result (List Entry) Damage
and_more (Err at) position more = Err (entry_file position, at)
and_more (Ok e) position more = elim (more e) [ Ok es ↦ Ok (e ∷ es) | Err bad ↦ Err bad ]

-- the next entries from a position on, as many as this, or the first that is damaged
abbrev pub read_log : Files → Content → ℕ → ℕ → Result (List Entry) Damage
read_log files c position zero = Ok []
read_log files c position (suc more) = and_more (entry_of (files (entry_file position)) c position) position (λ e. read_log files (after c e) (position + 1) more)

abbrev pub prepend : List Entry → Result (List Entry) Damage → Result (List Entry) Damage
prepend xs (Ok ys) = Ok (xs ++ ys)
prepend xs (Err bad) = Err bad

behind : (e : Entry) (r : Result (List Entry) Damage) → mapped (λ es. e ∷ es) r ≡ elim r [ Ok es ↦ Ok (e ∷ es) | Err bad ↦ Err bad ]
behind e (Ok es) = refl
behind e (Err bad) = refl

step_is : (files : Files) (c : Content) (position more : ℕ) (o : Result Entry ℕ) → ((d : Content) → run files (entries_in d (position + 1) more) ≡ read_log files d (position + 1) more)
    → run files (parsed (entry_file position) o >>= λ e. entries_in (after c e) (position + 1) more >>= λ es. done (e ∷ es)) ≡ and_more o position (λ e. read_log files (after c e) (position + 1) more)
step_is files c position more (Err at) rest = refl
step_is files c position more (Ok e) rest =
    run_mapped (λ es. e ∷ es) (entries_in (after c e) (position + 1) more) files
    ∙ behind e (run files (entries_in (after c e) (position + 1) more))
    ∙ ap (λ (r : Result (List Entry) Damage). elim r [ Ok es ↦ Ok (e ∷ es) | Err bad ↦ Err bad ]) (rest (after c e))

-- the program reads so
pub entries_are : (files : Files) (c : Content) (position count : ℕ) → run files (entries_in c position count) ≡ read_log files c position count
entries_are files c position zero = refl
entries_are files c position (suc more) = step_is files c position more (entry_of (files (entry_file position)) c position) (λ d. entries_are files d (position + 1) more)

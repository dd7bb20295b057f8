-- The record that is found under a name stands at its place in the files that have the base and its log.
use Rattle.std.proofs.Common.{◌≡◌, ℕ, ◌+◌, ◌-◌, ◌≤◌, List, [], ◌∷◌, length, drop, map, Option, Some, None, ⊎_elim, refl, sym, ◌∙◌, ap, subst, arith}
use Rattle.std.specs.Prelude.{◌^◌, slice_get}
use Rattle.std.specs.Option.{option_map, option_or}
use Rattle.std.proofs.lemmas.Option.{get_or_from_slice_get, slice_get-map, slice_get_within}
use Rattle.gt_bytes.proofs.StandingLaws.{range_is}
use Rattle.gt_disk.specs.Files.{Content as FileContent, Files, States, IsImage}
use Rattle.gt_disk.specs.Kinds.{entry_file}
use Rattle.gt_log.specs.Log.{KeepsEntries}
use Rattle.gt_log.proofs.Images.{image_still, keeps_front}
use Rattle.sha1.specs.Sha1.{sha1}
use Rattle.gt_model.specs.declared.entry.Entry.{Entry}
use Rattle.gt_model.specs.Contents.{Content, and_then, own, pool_of, found}
use Rattle.gt_model.specs.Soundness.{IsSound}
use Rattle.gt_model.specs.Machine.{with_doubt, opening}
use Rattle.gt_sound.specs.Sound.{IsSoundState}
use Rattle.gt_objset.specs.declared.place.Place.{Place}
use Rattle.gt_places.specs.Reading.{piece, IsRecordOf}
use Rattle.gt_object.specs.Whole.{why_not}
use Rattle.gt_places.specs.Standing.{StandsAt, IsBased}
use Rattle.gt_places.proofs.Logs.{seen_good}
use Rattle.gt_base.specs.Held.{places_of, HoldsPacks}
use Rattle.gt_base.specs.Spelling.{encode}
use Rattle.gt_table.specs.Table.{base, content_at, place_at}
use Rattle.gt_base.proofs.Contents.{base_placed}
use Rattle.gt_journal.specs.Ledger.{Ledger, past_floor, IsKept, FilesHave, HasLog, ground}
use Rattle.gt_journal.proofs.Recovering.{kept_front}
use Rattle.gt_journal.proofs.Typing.{entries_typed}
use Rattle.gt_base.proofs.Packed.{based_there}

kept_log : (c : Content) (first : ℕ) (log : List Entry) (doubt : Option Entry) → IsKept c first (with_doubt log doubt) → IsKept c first log
kept_log c first log None kept = kept
kept_log c first log (Some e) kept = kept_front c first log (e ∷ []) kept

entries_kept : (first : ℕ) (log : List Entry) (doubt : Option Entry) (states : States) → FilesHave first log doubt states → KeepsEntries first (map encode log) states
entries_kept first log None states files = files.each
entries_kept first log (Some e) states files = keeps_front first (map encode log) (encode e) states files.each

-- each entry of the log is in its file
entry_there : (first : ℕ) (log : List Entry) (states : States) (files : Files) (n : ℕ) (e : Entry) → KeepsEntries first (map encode log) states → IsImage states files → slice_get log n ≡ Some e → files (entry_file (n + first)) ≡ Some (encode e)
entry_there first log states files n e keeps shows is =
    let here : slice_get (map encode log) n ≡ Some (encode e) = slice_get-map encode log n ∙ ap (option_map encode) is in
    image_still states files (entry_file (n + first)) _ shows (keeps n (slice_get_within (map encode log) n (encode e) here)) ∙ ap Some (get_or_from_slice_get (map encode log) n (encode e) [] here)

-- what stands at a place is held there
piece_is : (begin : ℕ) (log : List Entry) (states : States) (files : Files) (place : Place) (whole : List ℕ) → KeepsEntries (begin + 1) (map encode log) states → IsImage states files → StandsAt begin log place whole → piece (files place.file) place ≡ whole
piece_is begin log states files place whole keeps shows stands =
    let there : files place.file ≡ Some (encode stands.entry) = ap files stands.file ∙ entry_there (begin + 1) log states files stands.number stands.entry keeps shows stands.there in
    ap (λ (file : FileContent). piece file place) there ∙ sym (range_is (encode stands.entry) place.at place.len) ∙ stands.stands

-- where no entry is gone, each has its file
whole_files : (l : Ledger) (states : States) → l.floor ≡ l.past.begin → FilesHave (l.floor + 1) (past_floor l) l.doubt states → FilesHave (l.past.begin + 1) l.past.log l.doubt states
whole_files l states all files =
    let none : l.past.begin - l.past.begin ≡ 0 = omega arith in
    subst (λ (n : ℕ). FilesHave (l.past.begin + 1) (drop n l.past.log) l.doubt states) none (subst (λ (n : ℕ). FilesHave (n + 1) (drop (n - l.past.begin) l.past.log) l.doubt states) all files)

-- what is found under a name in a sound content has that name
found_named : (c : Content) → IsSound c → (path name whole : List ℕ) → found c path name ≡ Some whole → sha1 whole ≡ name
found_named c sound path name whole is = by (own c path name) refl is
  where
    pooled : (o : Option (List ℕ)) → and_then o (λ pool. own c pool name) ≡ Some whole → sha1 whole ≡ name
    pooled None is = absurd (cc is)
    pooled (Some pool) is = sound.named pool name whole is

    by : (o : Option (List ℕ)) → own c path name ≡ o → option_or o (and_then (pool_of c path) (λ pool. own c pool name)) ≡ Some whole → sha1 whole ≡ name
    by None here is = pooled (pool_of c path) is
    by (Some own_one) here is = sound.named path name whole (here ∙ is)

-- what is held at the place of an object that is seen is its record
pub record IsHeld (files : Files) (place : Place) (name whole : List ℕ) : Type 0 where
  pub is : piece (files place.file) place ≡ whole
  pub of_name : IsRecordOf name whole

pub placed_is : (l : Ledger) (states : States) (files : Files) (position : ℕ) (path name whole : List ℕ) (place : Place) → l.floor ≡ l.past.begin → l.past.begin + 1 + length l.past.log ≤ 2 ^ 64 → HasLog l states → HoldsPacks l.past.repos states
    → IsSoundState (opening (ground l)) → IsImage states files → place_at l.past position path name ≡ Some place → found (content_at l.past position) path name ≡ Some whole → IsHeld files place name whole
placed_is l states files position path name whole place all few stored packs sound shows is has =
    let begin = l.past.begin in
    let log = l.past.log in
    let legal = kept_log (base l.past) (begin + 1) log l.doubt stored.legal in
    let typed = entries_typed log (base l.past) (begin + 1) few legal.0 legal.1 in
    let named = found_named (content_at l.past position) (sound.contents (position - begin)) path name whole has in
    ⊎_elim
    (λ (in_log : StandsAt begin log place whole × (place.len ≡ length whole) × (why_not whole ≡ None)). record { is = piece_is begin log states files place whole (entries_kept (begin + 1) log l.doubt states (whole_files l states all stored.files)) shows in_log.0; of_name = record { named = named; good = in_log.2 } })
    (λ (based : IsBased (base l.past) (places_of l.past.repos) place whole).
    let there = based_there states l.past.repos based.path based.name whole place packs based.owned based.placed in
    record {
      is = ap (λ (file : FileContent). piece file place) (image_still states files place.file _ shows there.file) ∙ sym (range_is there.bytes place.at place.len) ∙ there.is;
      of_name = record { named = named; good = there.good };
    })
    (seen_good begin (base l.past) (places_of l.past.repos) (base_placed l.past.repos) log position legal.0 typed path name whole place has is)

-- An answer, found again from its line; so different answers have different lines.
use Rattle.std.proofs.Common.{◌≡◌, ℕ, ◌^◌, ◌<◌, true, false, cond, List, [], ◌∷◌, ◌++◌, length, drop, get_or, Some, None, Result, Ok, Err, codes, refl, ap, sym, ◌∙◌}
use Rattle.std.specs.Prelude.{decimal, bytes_eq}
use Rattle.std.specs.List.{slice_split}
use Rattle.std.specs.Str.Parse.{digits_value}
use Rattle.hex.specs.Hex.{encode_lower}
use Rattle.gt_object.specs.Header.{kind_of as kind_in}
use Rattle.gt_object.specs.Whole.{content_of}
use Rattle.gt_model.specs.declared.done.Done.{Done}
use Rattle.gt_model.specs.declared.done.Done.TheVariants as done
use Rattle.gt_model.specs.declared.refusal.Refusal.{Refusal}
use Rattle.gt_model.specs.declared.refusal.Refusal.TheVariants as refusal
use Rattle.gt_script.specs.Printed.{line, needer_word, file_word, refs_words, kind_word, content_word, printed}
use Rattle.gt_script.specs.Proper.{IsDone, IsRefusal, IsProper}
use Rattle.gt_script.proofs.LineBackLemmas.{is_end, is_plain, are_plain, words-back, number-back, number-plain}
use Rattle.gt_script.proofs.PartsBackLemmas.{hex_value, hex-back, hex-plain, reference-plain, path-plain, needer_value, needer-back, needer-plain, refs_value, refs-back, refs-plain, record_value, record-words, file_value, file-back, file-plain}

abbrev word_at : ℕ → List (List ℕ) → List ℕ
word_at k ws = get_or ws k []

abbrev number_at : ℕ → List (List ℕ) → ℕ
number_at k ws = digits_value 10 (word_at k ws)

abbrev hex_at : ℕ → List (List ℕ) → List ℕ
hex_at k ws = hex_value (word_at k ws)

-- what was done, by the words behind `ok`
abbrev ok_value : List ℕ → List (List ℕ) → Done
ok_value w ws =
    (cond (bytes_eq w (codes "create")) (done.Created (number_at 1 ws) false)
    (cond (bytes_eq w (codes "pool")) (done.Created (number_at 1 ws) true)
    (cond (bytes_eq w (codes "delete")) (done.Deleted (number_at 1 ws))
    (cond (bytes_eq w (codes "link")) (done.Linked (number_at 1 ws))
    (cond (bytes_eq w (codes "begin")) (done.Begun (number_at 1 ws))
    (cond (bytes_eq w (codes "commit")) (done.Committed (number_at 1 ws))
    (cond (bytes_eq w (codes "done")) (done.Finished (number_at 1 ws))
    (cond (bytes_eq w (codes "house")) (done.HouseOpen (number_at 1 ws))
    (cond (bytes_eq w (codes "close")) (done.HouseDone (number_at 1 ws))
    (cond (bytes_eq w (codes "apply")) (done.Applied (number_at 1 ws))
    (cond (bytes_eq w (codes "trim")) (done.Trimmed (number_at 1 ws))
    (cond (bytes_eq w (codes "set")) (done.Staged)
    (cond (bytes_eq w (codes "verify")) (done.Checked)
    (cond (bytes_eq w (codes "abort")) (done.Aborted)
    (cond (bytes_eq w (codes "sweep")) (done.Swept)
    (done.Restarted))))))))))))))))

abbrev refusal_value : List ℕ → List (List ℕ) → Refusal
refusal_value w ws =
    (cond (bytes_eq w (codes "norepository")) (refusal.NoRepository)
    (cond (bytes_eq w (codes "exists")) (refusal.RepositoryExists)
    (cond (bytes_eq w (codes "gone")) (refusal.RepositoryGone)
    (cond (bytes_eq w (codes "behind")) (refusal.Behind (number_at 0 ws) (number_at 1 ws))
    (cond (bytes_eq w (codes "pinsfull")) (refusal.PinsFull)
    (cond (bytes_eq w (codes "absent")) (refusal.Absent (hex_at 0 ws))
    (cond (bytes_eq w (codes "conflict")) (refusal.ReferenceConflict (word_at 0 ws) (hex_at 2 ws) (hex_at 4 ws))
    (cond (bytes_eq w (codes "directory")) (refusal.DirectoryConflict (word_at 0 ws) (word_at 2 ws))
    (cond (bytes_eq w (codes "missing")) (refusal.MissingObject (hex_at 0 ws) (needer_value (word_at 2 ws)))
    (cond (bytes_eq w (codes "houseconflict")) (refusal.HousekeepingConflict (number_at 0 ws))
    (cond (bytes_eq w (codes "pruned")) (refusal.PrunedObject (hex_at 0 ws) (number_at 1 ws))
    (cond (bytes_eq w (codes "logfull")) (refusal.LogFull)
    (cond (bytes_eq w (codes "epochfull")) (refusal.EpochFull)
    (cond (bytes_eq w (codes "mapfull")) (refusal.MapFull)
    (cond (bytes_eq w (codes "stagefull")) (refusal.StageFull)
    (cond (bytes_eq w (codes "toolarge")) (refusal.TooLarge)
    (cond (bytes_eq w (codes "badobject")) (refusal.BadObject (number_at 0 ws))
    (cond (bytes_eq w (codes "badref")) (refusal.BadRef (number_at 0 ws) (number_at 1 ws))
    (cond (bytes_eq w (codes "badpath")) (refusal.BadPath (number_at 0 ws))
    (cond (bytes_eq w (codes "ispool")) (refusal.IsPool)
    (cond (bytes_eq w (codes "notpool")) (refusal.NotPool)
    (cond (bytes_eq w (codes "linked")) (refusal.AlreadyLinked)
    (cond (bytes_eq w (codes "notlinked")) (refusal.NotLinked)
    (cond (bytes_eq w (codes "poolinuse")) (refusal.PoolInUse (word_at 0 ws))
    (cond (bytes_eq w (codes "elsewhere")) (refusal.OtherPartition)
    (cond (bytes_eq w (codes "notopen")) (refusal.NotOpen)
    (cond (bytes_eq w (codes "alreadyopen")) (refusal.AlreadyOpen)
    (cond (bytes_eq w (codes "nojob")) (refusal.NoJob)
    (cond (bytes_eq w (codes "notready")) (refusal.NotReady)
    (cond (bytes_eq w (codes "devicefault")) (refusal.DeviceFault)
    (cond (bytes_eq w (codes "unsure")) (refusal.Unsure (number_at 0 ws))
    (cond (bytes_eq w (codes "mapunsure")) (refusal.MapUnsure (number_at 0 ws))
    (cond (bytes_eq w (codes "damaged")) (refusal.Damaged (file_value (word_at 0 ws)) (number_at 1 ws))
    (refusal.Memory))))))))))))))))))))))))))))))))))

abbrev answer_value : List (List ℕ) → Result Done Refusal
answer_value [] = Err refusal.Memory
answer_value (w ∷ ws) =
    (cond (bytes_eq w (codes "ok")) (Ok (ok_value (word_at 0 ws) ws))
    (cond (bytes_eq w (codes "noref")) (Ok (done.Value None))
    (cond (bytes_eq w (codes "ref")) (Ok (done.Value (Some (hex_at 0 ws))))
    (cond (bytes_eq w (codes "refs")) (Ok (done.Refs (refs_value (drop 1 ws))))
    (cond (bytes_eq w (codes "object")) (Ok (done.Object (record_value (word_at 0 ws) (word_at 1 ws))))
    (cond (bytes_eq w (codes "name")) (Ok (done.Named (hex_at 0 ws)))
    (cond (bytes_eq w (codes "more")) (Ok (done.Step false))
    (cond (bytes_eq w (codes "ready")) (Ok (done.Step true))
    (Err (refusal_value w ws))))))))))

abbrev Back : Result Done Refusal → Type 0
Back a = answer_value (slice_split is_end (printed a)) ≡ a

-- what the words of a line give
by-words : (w : List ℕ) (ws : List (List ℕ)) (a : Result Done Refusal) → is_plain w ≡ true → are_plain ws ≡ true → answer_value (w ∷ (ws ++ [] ∷ [])) ≡ a → answer_value (slice_split is_end (line w ws)) ≡ a
by-words w ws a h k e = ap answer_value (words-back w ws h k) ∙ e

ok-back : (word : List ℕ) (n : ℕ) (a : Result Done Refusal) → is_plain word ≡ true → n < 2 ^ 64 → answer_value (codes "ok" ∷ word ∷ decimal n ∷ [] ∷ []) ≡ a → answer_value (slice_split is_end (line (codes "ok") (word ∷ decimal n ∷ []))) ≡ a
ok-back word n a plain h e = by-words (codes "ok") (word ∷ decimal n ∷ []) a refl (rw (plain, number-plain n h) refl) e

done-back : (d : Done) → IsDone d → Back (Ok d)
done-back (done.Created n false) h = ok-back (codes "create") n (Ok (done.Created n false)) refl h (rw (number-back n h) refl)
done-back (done.Created n true) h = ok-back (codes "pool") n (Ok (done.Created n true)) refl h (rw (number-back n h) refl)
done-back (done.Deleted n) h = ok-back (codes "delete") n (Ok (done.Deleted n)) refl h (rw (number-back n h) refl)
done-back (done.Linked n) h = ok-back (codes "link") n (Ok (done.Linked n)) refl h (rw (number-back n h) refl)
done-back (done.Begun n) h = ok-back (codes "begin") n (Ok (done.Begun n)) refl h (rw (number-back n h) refl)
done-back (done.Committed n) h = ok-back (codes "commit") n (Ok (done.Committed n)) refl h (rw (number-back n h) refl)
done-back (done.Finished n) h = ok-back (codes "done") n (Ok (done.Finished n)) refl h (rw (number-back n h) refl)
done-back (done.HouseOpen n) h = ok-back (codes "house") n (Ok (done.HouseOpen n)) refl h (rw (number-back n h) refl)
done-back (done.HouseDone n) h = ok-back (codes "close") n (Ok (done.HouseDone n)) refl h (rw (number-back n h) refl)
done-back (done.Applied n) h = ok-back (codes "apply") n (Ok (done.Applied n)) refl h (rw (number-back n h) refl)
done-back (done.Trimmed n) h = ok-back (codes "trim") n (Ok (done.Trimmed n)) refl h (rw (number-back n h) refl)
done-back (done.Value None) h = refl
done-back (done.Value (Some x)) h = by-words (codes "ref") (encode_lower x ∷ []) (Ok (done.Value (Some x))) refl (rw (hex-plain x h.1) refl) (rw (hex-back x h.1) refl)
done-back (done.Refs list) h = by-words (codes "refs") (decimal (length list) ∷ refs_words list) (Ok (done.Refs list)) refl (rw (number-plain (length list) h.0) (refs-plain list h.1)) (rw (refs-back list h.1) refl)
done-back (done.Object whole) h =
    let words = record-words whole h.0 h.1 in
    by-words (codes "object") (kind_word (kind_in whole) ∷ content_word (content_of whole) ∷ []) (Ok (done.Object whole)) refl (rw (words.plain_kind, words.plain_content) refl) (ap (λ (w : List ℕ). Ok (done.Object w)) words.back)
done-back (done.Named x) h = by-words (codes "name") (encode_lower x ∷ []) (Ok (done.Named x)) refl (rw (hex-plain x h.1) refl) (rw (hex-back x h.1) refl)
done-back done.Staged h = refl
done-back done.Checked h = refl
done-back done.Aborted h = refl
done-back (done.Step true) h = refl
done-back (done.Step false) h = refl
done-back done.Swept h = refl
done-back done.Restarted h = refl

refusal-back : (r : Refusal) → IsRefusal r → Back (Err r)
refusal-back refusal.NoRepository h = refl
refusal-back refusal.RepositoryExists h = refl
refusal-back refusal.RepositoryGone h = refl
refusal-back (refusal.Behind seen front) h = by-words (codes "behind") (decimal seen ∷ decimal front ∷ []) (Err (refusal.Behind seen front)) refl (rw (number-plain seen h.0, number-plain front h.1) refl) (rw (number-back seen h.0, number-back front h.1) refl)
refusal-back refusal.PinsFull h = refl
refusal-back (refusal.Absent name) h = by-words (codes "absent") (encode_lower name ∷ []) (Err (refusal.Absent name)) refl (rw (hex-plain name h.1) refl) (rw (hex-back name h.1) refl)
refusal-back (refusal.ReferenceConflict name expected actual) h = by-words (codes "conflict") (name ∷ codes "expected" ∷ encode_lower expected ∷ codes "actual" ∷ encode_lower actual ∷ []) (Err (refusal.ReferenceConflict name expected actual)) refl (rw (reference-plain name h.0, hex-plain expected h.1.1, hex-plain actual h.2.1) refl) (rw (hex-back expected h.1.1, hex-back actual h.2.1) refl)
refusal-back (refusal.DirectoryConflict name existing) h = by-words (codes "directory") (name ∷ codes "with" ∷ existing ∷ []) (Err (refusal.DirectoryConflict name existing)) refl (rw (reference-plain name h.0, reference-plain existing h.1) refl) refl
refusal-back (refusal.MissingObject name needed_by) h = by-words (codes "missing") (encode_lower name ∷ codes "for" ∷ needer_word needed_by ∷ []) (Err (refusal.MissingObject name needed_by)) refl (rw (hex-plain name h.0.1, needer-plain needed_by h.1) refl) (rw (hex-back name h.0.1, needer-back needed_by h.1) refl)
refusal-back (refusal.HousekeepingConflict position) h = by-words (codes "houseconflict") (decimal position ∷ []) (Err (refusal.HousekeepingConflict position)) refl (rw (number-plain position h) refl) (rw (number-back position h) refl)
refusal-back (refusal.PrunedObject name position) h = by-words (codes "pruned") (encode_lower name ∷ decimal position ∷ []) (Err (refusal.PrunedObject name position)) refl (rw (hex-plain name h.0.1, number-plain position h.1) refl) (rw (hex-back name h.0.1, number-back position h.1) refl)
refusal-back refusal.LogFull h = refl
refusal-back refusal.EpochFull h = refl
refusal-back refusal.MapFull h = refl
refusal-back refusal.StageFull h = refl
refusal-back refusal.TooLarge h = refl
refusal-back (refusal.BadObject at) h = by-words (codes "badobject") (decimal at ∷ []) (Err (refusal.BadObject at)) refl (rw (number-plain at h) refl) (rw (number-back at h) refl)
refusal-back (refusal.BadRef rule at) h = by-words (codes "badref") (decimal rule ∷ decimal at ∷ []) (Err (refusal.BadRef rule at)) refl (rw (number-plain rule h.0, number-plain at h.1) refl) (rw (number-back rule h.0, number-back at h.1) refl)
refusal-back (refusal.BadPath at) h = by-words (codes "badpath") (decimal at ∷ []) (Err (refusal.BadPath at)) refl (rw (number-plain at h) refl) (rw (number-back at h) refl)
refusal-back refusal.IsPool h = refl
refusal-back refusal.NotPool h = refl
refusal-back refusal.AlreadyLinked h = refl
refusal-back refusal.NotLinked h = refl
refusal-back (refusal.PoolInUse member) h = by-words (codes "poolinuse") (member ∷ []) (Err (refusal.PoolInUse member)) refl (rw (path-plain member h) refl) refl
refusal-back refusal.OtherPartition h = refl
refusal-back refusal.NotOpen h = refl
refusal-back refusal.AlreadyOpen h = refl
refusal-back refusal.NoJob h = refl
refusal-back refusal.NotReady h = refl
refusal-back refusal.DeviceFault h = refl
refusal-back (refusal.Unsure position) h = by-words (codes "unsure") (decimal position ∷ []) (Err (refusal.Unsure position)) refl (rw (number-plain position h) refl) (rw (number-back position h) refl)
refusal-back (refusal.MapUnsure number) h = by-words (codes "mapunsure") (decimal number ∷ []) (Err (refusal.MapUnsure number)) refl (rw (number-plain number h) refl) (rw (number-back number h) refl)
refusal-back (refusal.Damaged file at) h = by-words (codes "damaged") (file_word file ∷ decimal at ∷ []) (Err (refusal.Damaged file at)) refl (rw (file-plain file h.0 h.1, number-plain at h.2) refl) (rw (file-back file h.0 h.1, number-back at h.2) refl)
refusal-back refusal.Memory h = refl

answer-back : (a : Result Done Refusal) → IsProper a → Back a
answer-back (Ok d) h = done-back d h
answer-back (Err r) h = refusal-back r h

pub different : (one other : Result Done Refusal) → IsProper one → IsProper other → printed one ≡ printed other → one ≡ other
different one other h k e = sym (answer-back one h) ∙ ap (λ (t : List ℕ). answer_value (slice_split is_end t)) e ∙ answer-back other k

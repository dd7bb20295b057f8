-- What the images of a log's files give.
use Rattle.std.proofs.Common.{◌≡◌, inl, inr, ⊎_elim, ℕ, ◌+◌, ◌<◌, List, [], ◌∷◌, ◌++◌, length, get_or, Some, sym, ◌∙◌, ap, subst, arith, length-append}
use Rattle.std.proofs.lemmas.List.{get_or_append_left, get_or-append-add, get_or_default, same_lists}
use Rattle.gt_disk.specs.declared.FileId.{FileId}
use Rattle.gt_disk.specs.Files.{Content, Files, FileState, States, View, still, Leaves, IsImage}
use Rattle.gt_disk.specs.Moments.{Since}
use Rattle.gt_log.specs.Log.{gate_file, entry_file, content_length, Recovers, KeepsEntries, Stands, Doubts, Adding, RecoversOnly, RecoversOldOrNew}

-- a file that is still is the same in each image
pub image_still : (states : States) (image : Files) (f : FileId) (x : Content) → IsImage states image → states f ≡ still x → image f ≡ x
image_still states image f x is s = subst (λ (t : FileState). Leaves t (image f)) s (is f)

each_image : (first : ℕ) (entries : List (List ℕ)) (states : States) (image : Files) → KeepsEntries first entries states → IsImage states image → (k : ℕ) → k < length entries → image (entry_file (k + first)) ≡ Some (get_or entries k [])
each_image first entries states image keeps is k lt = image_still states image (entry_file (k + first)) (Some (get_or entries k [])) is (keeps k lt)

pub keeps_front : (first : ℕ) (entries : List (List ℕ)) (last : List ℕ) (states : States) → KeepsEntries first (entries ++ last ∷ []) states → KeepsEntries first entries states
keeps_front first entries last states keeps k lt =
    keeps k (omega (arith, length-append entries (last ∷ []))) ∙ ap (λ (e : List ℕ). still (Some e)) (get_or_append_left entries (last ∷ []) [] k lt)

pub stands_recovers : (first : ℕ) (entries : List (List ℕ)) (states : States) → Stands first entries states → RecoversOnly first entries states
stands_recovers first entries states s image is = record {
  count = ap (λ (x : Content). content_length x + 1) (image_still states image gate_file s.gate is s.gate_still) ∙ s.gate_length;
  each = each_image first entries states image s.each is;
}

pub doubts_recovers : (first : ℕ) (entries : List (List ℕ)) (last : List ℕ) (states : States) → Doubts first entries last states → RecoversOldOrNew first entries last states
doubts_recovers first entries last states d image is =
    ⊎_elim
    (λ old. inl (record { count = old; each = each_image first entries states image (keeps_front first entries last states d.each) is }))
    (λ new. inr (record { count = omega (arith, new, length-append entries (last ∷ [])); each = each_image first (entries ++ last ∷ []) states image d.each is }))
    (d.gate (image gate_file) (is gate_file))

pub adding_recovers : (first : ℕ) (entries : List (List ℕ)) (last : List ℕ) (before states : States) → Adding first entries last before states → RecoversOldOrNew first entries last states
adding_recovers first entries last before states a image is =
    ⊎_elim (λ s. inl (stands_recovers first entries states s image is)) (λ d. doubts_recovers first entries last states d image is) a.log

-- an image recovers to one list
pub one_list : (first : ℕ) (image : Files) (entries others : List (List ℕ)) → Recovers first image entries → Recovers first image others → others ≡ entries
one_list first image entries others r s = same_lists others entries long each
  where
    long : length others ≡ length entries
    long = omega (arith, s.count, r.count)

    each : (k : ℕ) (d : List ℕ) → k < length others → get_or others k d ≡ get_or entries k d
    each k d lt =
        let le : k < length entries = subst (λ (n : ℕ). k < n) long lt in
        let whole : Some (get_or others k []) ≡ Some (get_or entries k []) = sym (s.each k lt) ∙ r.each k le in
        let same : get_or others k [] ≡ get_or entries k [] = cc whole in
        get_or_default others k d [] lt ∙ same ∙ get_or_default entries k [] d le

-- the images of the moments of an `add` or a `settle`
pub adding_images : (first : ℕ) (entries : List (List ℕ)) (last : List ℕ) (before : States) (v w : View) → Since (Adding first entries last before) v w → Since (RecoversOldOrNew first entries last) v w
adding_images first entries last before v w s = record { later = s.later; past = s.past; each = λ m lt le. adding_recovers first entries last before (w.at m) (s.each m lt le) }

-- the later entries of a list, as files and as states have them
module _ {X : Type 0} (first : ℕ) (front entries : List (List ℕ)) (has : FileId → X) (is : List ℕ → X) where
  pub later_each : ((k : ℕ) → k < length (front ++ entries) → has (entry_file (k + first)) ≡ is (get_or (front ++ entries) k []))
      → (k : ℕ) → k < length entries → has (entry_file (k + (length front + first))) ≡ is (get_or entries k [])
  later_each each k lt =
      let at : k + (length front + first) ≡ length front + k + first = omega arith in
      ap (λ (n : ℕ). has (entry_file n)) at
      ∙ each (length front + k) (omega (arith, length-append front entries))
      ∙ ap is (get_or-append-add front entries k [])

pub later_recovers : (first : ℕ) (image : Files) (front entries : List (List ℕ)) → Recovers first image (front ++ entries) → Recovers (length front + first) image entries
later_recovers first image front entries r = record {
  count = omega (arith, r.count, length-append front entries);
  each = later_each first front entries image (λ e. Some e) r.each;
}

pub later_stands : (first : ℕ) (states : States) (front entries : List (List ℕ)) → Stands first (front ++ entries) states → Stands (length front + first) entries states
later_stands first states front entries s = record {
  gate = s.gate;
  gate_still = s.gate_still;
  gate_length = omega (arith, s.gate_length, length-append front entries);
  each = later_each first front entries states (λ e. still (Some e)) s.each;
}

-- The files that a plan adds stand in a row, and each can be written.
use Rattle.std.proofs.Common.{◌≡◌, ℕ, ◌+◌, Bool, true, false, cond, List, [], ◌∷◌, ◌++◌, flat_map, filter, refl, ap, ◌∙◌, map as map_list}
use Rattle.std.proofs.lemmas.List.Elements.{recursion_from_All}
use Rattle.std.specs.Prelude.{All}
use Rattle.std.specs.List.{AllByRecursion}
use Rattle.gt_entry.specs.Fits.{IsEntry}
use Rattle.gt_manifest.specs.declared.manifest.Manifest.{Manifest}
use Rattle.gt_model.specs.Batches as batch
use Rattle.gt_model.specs.Batches.{is_deletion, files_of, cut, repos_at, paths_of}
use Rattle.gt_model.specs.Verdicts.{same_name}
use Rattle.gt_model.specs.declared.entry.Entry.{Entry}
use Rattle.gt_apply.specs.Plan.{content_of, contents_at, new_contents, numbered, planned, planned_files}
use Rattle.gt_apply.specs.declared.new_file.NewContent.{NewContent}
use Rattle.gt_applied.proofs.Typed.{all_append, records_packed}
use Rattle.gt_checkpoint.specs.Writing.{IsPackable, ArePackable, StandInRow}

abbrev AreEntries : List Entry → Type 0
AreEntries es = AllByRecursion IsEntry es

-- ---- the entries of one repository

all_filter : (p : Entry → Bool) (es : List Entry) → AreEntries es → AreEntries (filter p es)
all_filter p [] typed = tt
all_filter p (e ∷ es) typed = by (p e) (all_filter p es typed.1)
  where
    by : (b : Bool) → AreEntries (filter p es) → AreEntries (cond b (e ∷ filter p es) (filter p es))
    by true rest = (typed.0, rest)
    by false rest = rest

all_cut : (first es : List Entry) → AreEntries first → AreEntries es → AllByRecursion AreEntries (cut first es)
all_cut first [] before typed = (before, tt)
all_cut first (e ∷ es) before typed =
    let more : AreEntries (first ++ e ∷ []) = all_append IsEntry first (e ∷ []) before (typed.0, tt) in
    by (is_deletion e.change) (more, all_cut [] es tt typed.1) (all_cut (first ++ e ∷ []) es more typed.1)
  where
    by : (b : Bool) → AllByRecursion AreEntries ((first ++ e ∷ []) ∷ cut [] es) → AllByRecursion AreEntries (cut (first ++ e ∷ []) es) → AllByRecursion AreEntries (cond b ((first ++ e ∷ []) ∷ cut [] es) (cut (first ++ e ∷ []) es))
    by true ends goes = ends
    by false ends goes = goes

-- ---- contents

one_packable : (own : List Entry) → AreEntries own → (f : batch.NewFile) → IsPackable (content_of own f)
one_packable own typed batch.pack = λ few. records_packed own typed few
one_packable own typed (batch.loose name) = tt

own_packable : (own : List Entry) → AreEntries own → (fs : List batch.NewFile) → AllByRecursion IsPackable (map_list (content_of own) fs)
own_packable own typed [] = tt
own_packable own typed (f ∷ fs) = (one_packable own typed f, own_packable own typed fs)

repos_packable : (repos : List (List Entry)) → AllByRecursion AreEntries repos → AllByRecursion IsPackable (flat_map (λ own. map_list (content_of own) (files_of own)) repos)
repos_packable [] typed = tt
repos_packable (own ∷ repos) typed =
    all_append IsPackable (map_list (content_of own) (files_of own)) (flat_map (λ own. map_list (content_of own) (files_of own)) repos) (own_packable own typed.0 (files_of own)) (repos_packable repos typed.1)

paths_packable : (entries : List Entry) → AreEntries entries → (paths : List (List ℕ)) → AllByRecursion IsPackable (flat_map (λ path. contents_at path entries) paths)
paths_packable entries typed [] = tt
paths_packable entries typed (path ∷ paths) =
    all_append IsPackable (contents_at path entries) (flat_map (λ path. contents_at path entries) paths)
    (repos_packable (repos_at path entries) (all_cut [] (filter (λ e. same_name e.path path) entries) tt (all_filter (λ e. same_name e.path path) entries typed)))
    (paths_packable entries typed paths)

-- ---- files

numbered_packable : (n : ℕ) (cs : List NewContent) → AllByRecursion IsPackable cs → ArePackable (numbered n cs)
numbered_packable n [] h = tt
numbered_packable n (c ∷ cs) h = (h.0, numbered_packable (n + 1) cs h.1)

in_row : (n : ℕ) (cs : List NewContent) → StandInRow n (numbered n cs)
in_row n [] = tt
in_row n (c ∷ cs) = (refl, in_row (n + 1) cs)

pub planned_in_row : (next : ℕ) (entries : List Entry) → StandInRow next (planned_files next entries)
planned_in_row next entries = in_row next (new_contents entries)

pub planned_packable : (next : ℕ) (entries : List Entry) → All IsEntry entries → ArePackable (planned_files next entries)
planned_packable next entries typed = numbered_packable next (new_contents entries) (paths_packable entries (recursion_from_All IsEntry entries typed) (paths_of entries))

-- ---- its manifest

pub same_plan : (m from : Manifest) (next : ℕ) (entries : List Entry) (to : Manifest) → to ≡ planned m next entries → m ≡ from → to ≡ planned from next entries
same_plan m from next entries to is same = is ∙ ap (λ (n : Manifest). planned n next entries) same

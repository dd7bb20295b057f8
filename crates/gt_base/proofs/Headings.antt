-- What the manifest of epoch 0 is, and repositories under their headings, as they are read.
use Rattle.std.proofs.Common.{◌≡◌, ℕ, ◌+◌, ◌<◌, length, take, get_or, List, [], ◌∷◌, ◌++◌, refl, sym, ap, ◌∙◌, arith}
use Rattle.std.specs.List.{IsDistinct}
use Rattle.std.proofs.lemmas.List.{map-append, take_more}
use Rattle.std.proofs.lemmas.List.Elements.{All-from_recursion}
use Rattle.gt_manifest.specs.declared.manifest.RepoFiles.{RepoFiles}
use Rattle.gt_manifest.specs.declared.version.Version.TheVariants.{Second}
use Rattle.gt_manifest.specs.Whole.{IsFileNumber, PoolStands, Fits}
use Rattle.gt_base.specs.declared.held.BaseRepo.{BaseRepo}
use Rattle.gt_base.specs.Loading.{Heading, headings, manifest_headings}
use Rattle.gt_base.specs.Recovery.{first_manifest}

-- The manifest of epoch 0 may be written.
pub first_fits : Fits Second first_manifest
unfolding IsDistinct
first_fits = (
  ((omega arith, (omega arith, (omega arith, refl))), (omega arith, tt)),
  record {
    numbers = All-from_recursion (IsFileNumber 1) [] tt;
    once = tt;
    pools = All-from_recursion (PoolStands []) [] tt;
  },
)

-- a repository more
pub headings_next : (repos zs : List BaseRepo) (all : List RepoFiles) (i : ℕ) (x : RepoFiles) (y : BaseRepo) → i < length all → x ≡ get_or all i x → headings repos ≡ manifest_headings (take i all)
    → headings (y ∷ []) ≡ manifest_headings (x ∷ []) → zs ≡ repos ++ y ∷ [] → headings zs ≡ manifest_headings (take (i + 1) all)
headings_next repos zs all i x y inside here so_far same more =
    let next : take (i + 1) all ≡ take i all ++ x ∷ [] = take_more all i x inside ∙ ap (λ (r : RepoFiles). take i all ++ r ∷ []) (sym here) in
    ap headings more
    ∙ map-append (λ (r : BaseRepo). (r.path, (r.is_pool, r.pool))) repos (y ∷ [])
    ∙ ap (λ (hs : List Heading). hs ++ headings (y ∷ [])) so_far
    ∙ ap (λ (hs : List Heading). manifest_headings (take i all) ++ hs) same
    ∙ sym (ap manifest_headings next ∙ map-append (λ (r : RepoFiles). (r.path, (r.is_pool, r.pool))) (take i all) (x ∷ []))

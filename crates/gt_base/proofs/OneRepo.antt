-- The files of a repository, one list after the other, and repositories after a manifest.
use Rattle.std.proofs.Common.{◌≡◌, ℕ, List, Result, Ok, Err, IfOk, OnErr}
use Rattle.gt_disk.specs.Files.{View, Quiet}
use Rattle.gt_log.specs.declared.mount_cause.MountCause.{MountCause}
use Rattle.gt_log.specs.declared.mount_cause.MountCause.TheVariants.{Memory}
use Rattle.gt_manifest.specs.declared.manifest.Manifest.{Manifest}
use Rattle.gt_manifest.specs.declared.manifest.RepoFiles.{RepoFiles}
use Rattle.gt_model.specs.declared.reference.RefValue.{RefValue}
use Rattle.gt_reading.specs.Reading.{Reading, run, done, ◌>>=◌, list_in}
use Rattle.gt_reftext.specs.declared.packed_ref.PackedRef.{PackedRef}
use Rattle.gt_reading.proofs.Programs.{run_then}
use Rattle.gt_base.specs.Packs.{PackFile}
use Rattle.gt_base.specs.declared.held.BaseRepo.{BaseRepo}
use Rattle.gt_base.specs.Recovery.{pack_in, packed_in, loose_in, repo_in, manifest_in, Based, based_on, base_in}
use Rattle.gt_base.specs.Answers.{Blames, Reads}
use Rattle.gt_base.proofs.Lists.{blames_then, reads_then, reads_before, made_or_memory}

module _ (r : RepoFiles) (v : View) where
  abbrev pub made : List PackFile → List PackedRef → List RefValue → BaseRepo
  made packs packed loose = record { path = r.path; is_pool = r.is_pool; pool = r.pool; packs = packs; packed = packed; loose = loose }

  abbrev past_loose : List PackFile → List PackedRef → List RefValue → Reading BaseRepo
  past_loose packs packed loose = done (made packs packed loose)

  abbrev past_packed : List PackFile → List PackedRef → Reading BaseRepo
  past_packed packs packed = list_in loose_in r.loose >>= past_loose packs packed

  abbrev past_packs : List PackFile → Reading BaseRepo
  past_packs packs = packed_in r.packed >>= past_packed packs

  pub no_packs : (cause : MountCause) → Blames (run v.reads (list_in pack_in r.packs)) cause → Blames (run v.reads (repo_in r)) cause
  no_packs cause is = blames_then (list_in pack_in r.packs) past_packs v.reads cause is

  module _ (u : View) (packs : List PackFile) (packs_are : run v.reads (list_in pack_in r.packs) ≡ Ok packs) (first : Quiet v u) where
    pub no_packed : (cause : MountCause) → Blames (run u.reads (packed_in r.packed)) cause → Blames (run v.reads (repo_in r)) cause
    no_packed cause is =
        reads_then (list_in pack_in r.packs) past_packs v.reads packs (Err cause) packs_are
        (blames_then (packed_in r.packed) (past_packed packs) v.reads cause (reads_before (packed_in r.packed) v u (Err cause) first is))

    module _ (w : View) (packed : List PackedRef) (packed_are : run u.reads (packed_in r.packed) ≡ Ok packed) (second : Quiet u w) where
      over_packed : (result : Result BaseRepo MountCause) → Reads (run v.reads (past_packed packs packed)) result → Reads (run v.reads (repo_in r)) result
      over_packed result is =
          reads_then (list_in pack_in r.packs) past_packs v.reads packs result packs_are
          (reads_then (packed_in r.packed) (past_packed packs) v.reads packed result (reads_before (packed_in r.packed) v u (Ok packed) first packed_are) is)

      pub no_loose : (cause : MountCause) → Blames (run w.reads (list_in loose_in r.loose)) cause → Blames (run v.reads (repo_in r)) cause
      no_loose cause is =
          over_packed (Err cause) (blames_then (list_in loose_in r.loose) (past_loose packs packed) v.reads cause
          (reads_before (list_in loose_in r.loose) v u (Err cause) first (reads_before (list_in loose_in r.loose) u w (Err cause) second is)))

      pub all_read : (loose : List RefValue) (result : Result BaseRepo MountCause) → run w.reads (list_in loose_in r.loose) ≡ Ok loose → IfOk result (λ x. x ≡ made packs packed loose) → OnErr result (result ≡ Err Memory)
          → Reads (run v.reads (repo_in r)) result
      all_read loose result is whole memory =
          over_packed result (reads_then (list_in loose_in r.loose) (past_loose packs packed) v.reads loose result
          (reads_before (list_in loose_in r.loose) v u (Ok loose) first (reads_before (list_in loose_in r.loose) u w (Ok loose) second is))
          (made_or_memory (made packs packed loose) result whole memory))

module _ (epoch gate : ℕ) (v w : View) (m : Manifest) (m_is : run v.reads (manifest_in epoch gate) ≡ Ok m) (quiet : Quiet v w) where
  abbrev past_repos : List BaseRepo → Reading Based
  past_repos repos = done (record { manifest = m; repos = repos })

  pub no_repos : (cause : MountCause) → Blames (run w.reads (list_in repo_in m.repos)) cause → Blames (run v.reads (base_in epoch gate)) cause
  no_repos cause is =
      reads_then (manifest_in epoch gate) based_on v.reads m (Err cause) m_is
      (blames_then (list_in repo_in m.repos) past_repos v.reads cause (reads_before (list_in repo_in m.repos) v w (Err cause) quiet is))

  pub all_repos : (repos : List BaseRepo) → run w.reads (list_in repo_in m.repos) ≡ Ok repos → run v.reads (base_in epoch gate) ≡ Ok (record { manifest = m; repos = repos })
  all_repos repos is =
      reads_then (manifest_in epoch gate) based_on v.reads m (Ok (record { manifest = m; repos = repos })) m_is
      (run_then (list_in repo_in m.repos) past_repos v.reads repos (reads_before (list_in repo_in m.repos) v w (Ok repos) quiet is))

use Rattle.std.proofs.Common.{◌∙◌, ◌^◌, List, ap}
use Rattle.gt_manifest.specs.declared.manifest.RepoFiles.{RepoFiles}
use Rattle.gt_apply.specs.Plan.{shelves_of}
use Rattle.gt_apply.proofs.DraftLaws.{whole-room, is_planned, are_planned}
use Rattle.gt_apply.proofs.planning.plan.Goals as goal

pub file_paths-requires : goal.file_paths-requires
file_paths-requires c =
    whole-room c.args.entries.now c.deref.result.now (c.deref.ensures.value ∙ c.in_ok-paths.ensures) (record { shelves = c.in_ok-of.field-0; next = c.args.next; files = c.new.result }) (2 ^ 64) c.requires.next

pub returns-clause-manifest : goal.returns-clause-manifest
returns-clause-manifest c =
    is_planned c.args.entries.now c.deref.result.now (c.deref.ensures.value ∙ c.in_ok-paths.ensures) (record { shelves = c.in_ok-of.field-0; next = c.args.next; files = c.new.result }) c.in_ok-draft.draft c.in_ok-draft.ensures
    c.args.from.now c.in_ok-into_list.field-0 (c.in_ok-of.ensures ∙ ap (λ (rs : List RepoFiles). shelves_of rs) c.as_slice.ensures) c.in_ok-into_list.ensures

pub returns-clause-files : goal.returns-clause-files
returns-clause-files c =
    are_planned c.args.entries.now c.deref.result.now (c.deref.ensures.value ∙ c.in_ok-paths.ensures) (record { shelves = c.in_ok-of.field-0; next = c.args.next; files = c.new.result }) c.in_ok-draft.draft c.in_ok-draft.ensures c.new.ensures

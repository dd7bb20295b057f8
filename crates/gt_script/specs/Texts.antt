-- The fixed words of the language.
use Rattle.std.specs.Prelude.{ℕ, List, [], ◌∷◌, Option, codes, bytes_eq}
use Rattle.std.specs.List.{find}
use Rattle.gt_object.specs.declared.kind.Kind.{Kind}
use Rattle.gt_object.specs.declared.kind.Kind.TheVariants.{Commit as CommitKind, Tree, Blob, Tag}
use Rattle.gt_object.specs.Header.{word as kind_text}
use Rattle.gt_model.specs.declared.job.Job.{Job}
use Rattle.gt_model.specs.declared.job.Job.TheVariants.{Repack, Prune, PackRefs, Unlink}
use Rattle.gt_script.specs.declared.verb.Verb.{Verb}
use Rattle.gt_script.specs.declared.verb.Verb.TheVariants.{Create, Pool, Delete, Link, Begin, Put, Set, Verify, Get, List as ListRefs, Cat, Commit, Abort, House, Step, Close, Apply, Trim, Sweep, Restart}

abbrev pub verb_text : Verb → List ℕ
verb_text Create = codes "create"
verb_text Pool = codes "pool"
verb_text Delete = codes "delete"
verb_text Link = codes "link"
verb_text Begin = codes "begin"
verb_text Put = codes "put"
verb_text Set = codes "set"
verb_text Verify = codes "verify"
verb_text Get = codes "get"
verb_text ListRefs = codes "list"
verb_text Cat = codes "cat"
verb_text Commit = codes "commit"
verb_text Abort = codes "abort"
verb_text House = codes "house"
verb_text Step = codes "step"
verb_text Close = codes "close"
verb_text Apply = codes "apply"
verb_text Trim = codes "trim"
verb_text Sweep = codes "sweep"
verb_text Restart = codes "restart"

abbrev pub verbs : List Verb
verbs =
    Create ∷ Pool ∷ Delete ∷ Link ∷ Begin ∷ Put ∷ Set ∷ Verify ∷ Get ∷ ListRefs ∷ Cat ∷ Commit ∷ Abort ∷ House ∷ Step ∷ Close ∷ Apply ∷ Trim ∷ Sweep ∷ Restart ∷ []

-- the verb of this text
unfoldable pub verb_of : List ℕ → Option Verb
verb_of w = find (λ v. bytes_eq (verb_text v) w) verbs

-- the kind of this text
unfoldable pub kind_of : List ℕ → Option Kind
kind_of w = find (λ k. bytes_eq (kind_text k) w) (CommitKind ∷ Tree ∷ Blob ∷ Tag ∷ [])

abbrev pub job_text : Job → List ℕ
job_text Repack = codes "repack"
job_text Prune = codes "prune"
job_text PackRefs = codes "refs"
job_text Unlink = codes "unlink"

-- the job of this text
unfoldable pub job_of : List ℕ → Option Job
job_of w = find (λ j. bytes_eq (job_text j) w) (Repack ∷ Prune ∷ PackRefs ∷ Unlink ∷ [])

-- Which answers end a transaction.
use Rattle.std.specs.Prelude.{Bool, true, false, Result, Ok, Err}
use Rattle.gt_model.specs.declared.done.Done.{Done}
use Rattle.gt_model.specs.declared.refusal.Refusal.{Refusal}
use Rattle.gt_model.specs.declared.refusal.Refusal.TheVariants.{RepositoryGone, ReferenceConflict, DirectoryConflict, MissingObject, Unsure}

-- whether an answer to a commit ends its transaction
abbrev pub ends : Result Done Refusal → Bool
ends (Ok done) = true
ends (Err RepositoryGone) = true
ends (Err (ReferenceConflict name expected actual)) = true
ends (Err (DirectoryConflict name existing)) = true
ends (Err (MissingObject name needer)) = true
ends (Err (Unsure position)) = true
ends (Err refusal) = false

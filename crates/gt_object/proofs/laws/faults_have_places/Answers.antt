use Rattle.gt_object.proofs.PlaceLaws.{tree_place, commit_place, tag_place}
use Rattle.gt_object.proofs.laws.faults_have_places.Goals as goal

pub returns : goal.returns
returns c = λ b at good. record { of_tree = tree_place b at good; of_commit = commit_place b at good; of_tag = tag_place b at good }

use Rattle.gt_object.proofs.TagLaws.{tag_takes, tag_again}
use Rattle.gt_object.proofs.laws.tags_are_lines.Goals as goal

pub returns : goal.returns
returns c = λ b object good. (tag_takes b good object, tag_again b object)

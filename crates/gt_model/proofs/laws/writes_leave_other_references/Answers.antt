use Rattle.std.proofs.lemmas.List.Elements.{recursion_from_All}
use Rattle.gt_model.proofs.Values.{value-write_named, value-write_elsewhere}
use Rattle.gt_model.proofs.laws.writes_leave_other_references.Goals as goal

pub returns-clause-named : goal.returns-clause-named
returns-clause-named c c' path other name refs needed added h = value-write_named c' path other name refs needed added (recursion_from_All _ refs h)

pub returns-clause-elsewhere : goal.returns-clause-elsewhere
returns-clause-elsewhere c = value-write_elsewhere

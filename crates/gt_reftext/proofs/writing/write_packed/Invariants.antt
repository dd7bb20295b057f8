use Rattle.std.proofs.Common.{◌≡◌, ◌++◌, take}
use Rattle.std.specs.List.{flat_map}
use Rattle.gt_reftext.specs.Spelling.{header, ref_text}
use Rattle.gt_reftext.proofs.writing.write_packed.Given as goal

abbrev pub invariant-refs : goal.invariant-refs
invariant-refs l = l.out.items ≡ header ++ flat_map ref_text (take l.it-index l.it-items)

-- What was found so far, or else what is left to find, is what the whole text has.
use Rattle.std.proofs.Common.{◌≡◌, codes, drop, position}
use Rattle.gt_name.specs.declared.component.ComponentFault.TheVariants.{Empty, BeginsWithDot, EndsWithLock}
use Rattle.gt_name.specs.Broken.{or_else}
use Rattle.gt_name.specs.Components.{faulty_from}
use Rattle.gt_name.specs.References.{is_forbidden, first_text, ref_byte, ref_empty, ref_dot, ref_dots, ref_brace, ref_lock}
use Rattle.gt_name.proofs.PlacesLemmas.{moved}
use Rattle.gt_name.proofs.places.first_places.Given as goal

abbrev pub invariant-loop-at : goal.invariant-loop-at
invariant-loop-at l =
    let rest = drop l.at l.text in
    record {
      byte : ref_byte l.text ≡ or_else l.found.byte (moved l.at (position is_forbidden rest));
      empty : ref_empty l.text ≡ or_else l.found.empty (moved l.at (faulty_from Empty l.begins rest));
      dot : ref_dot l.text ≡ or_else l.found.dot (moved l.at (faulty_from BeginsWithDot l.begins rest));
      dots : ref_dots l.text ≡ or_else l.found.dots (moved l.at (first_text (codes "..") rest));
      brace : ref_brace l.text ≡ or_else l.found.brace (moved l.at (first_text (codes "@{") rest));
      lock : ref_lock l.text ≡ or_else l.found.lock (moved l.at (faulty_from EndsWithLock l.begins rest));
    }

use Rattle.std.proofs.Common.{codes}
use Rattle.gt_name.specs.declared.component.ComponentFault.TheVariants.{Empty, BeginsWithDot, EndsWithLock}
use Rattle.gt_name.specs.References.{is_forbidden}
use Rattle.gt_name.proofs.PlacesLemmas.{byte_noted, text_noted, component_noted}
use Rattle.gt_name.proofs.places.first_places.Goals as goal

pub loop-at-preserved : goal.loop-at-preserved
loop-at-preserved c =
    let t = c.args.text.now in
    let at = c.loop-at.at in
    let within = c.loop-at-test.true in
    let was = c.loop-at.invariant in
    let byte = c.and_byte.ensures in
    let component = c.and_component-found.ensures in
    let begins = c.loop-at.begins in
    record {
      byte = byte_noted t at within _ _ _ is_forbidden was.byte (rw byte.byte at component.byte);
      empty = component_noted t at within _ _ _ Empty begins was.empty (rw byte.empty at component.empty);
      dot = component_noted t at within _ _ _ BeginsWithDot begins was.dot (rw byte.dot at component.dot);
      dots = text_noted t at within _ _ _ (codes "..") was.dots (rw byte.dots at component.dots);
      brace = text_noted t at within _ _ _ (codes "@{") was.brace (rw byte.brace at component.brace);
      lock = component_noted t at within _ _ _ EndsWithLock begins was.lock (rw byte.lock at component.lock);
    }

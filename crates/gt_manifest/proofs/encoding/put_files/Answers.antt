use Rattle.gt_bytes.specs.Spelling.{counted}
use Rattle.gt_manifest.specs.Spelling.{number, loose}
use Rattle.gt_manifest.proofs.PutLemmas.{numbers_put, loose_put, three}
use Rattle.gt_manifest.proofs.encoding.put_files.Goals as goal

pub put_list-requires-clause-each : goal.put_list-requires-clause-each
put_list-requires-clause-each c = numbers_put c.args.it.now.packs c.requires.0

pub put_list-requires-2-clause-each : goal.put_list-requires-2-clause-each
put_list-requires-2-clause-each c = loose_put c.args.it.now.loose c.requires.1.1

pub returns : goal.returns
returns c = three c.args.out.now.items (counted number c.args.it.now.packs) (number c.args.it.now.packed) (counted loose c.args.it.now.loose) c.put_list.new.out.items c.put_u64.new.out.items c.put_list-2.new.out.items c.in_ok-put_list.ensures.ok c.in_ok-put_u64.ensures.ok c.in_ok-put_list-2.ensures.ok

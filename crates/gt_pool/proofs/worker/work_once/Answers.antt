use Rattle.gt_pool.proofs.ChainLemmas.{pieces_more, given_more, run_more}
use Rattle.gt_pool.proofs.worker.work_once.Goals as goal

pub returns-in-Ok-clause-moved : goal.returns-in-Ok-clause-moved
returns-in-Ok-clause-moved g c = λ kit h. record {
  of = c.in-Some.ensures.of.0;
  parts = rw c.in-Some.ensures.of.1 h.parts;
  pass = c.piece_of-piece.ensures.pass;
  pieces = λ _. pieces_more _ _ _ _ _ _ c.in-Ok.ensures.ok c.in-Some.ensures.claims.1 c.piece_of-piece.ensures.index (h.pieces c.requires.on);
  given = λ _. given_more _ _ _ _ c.in-Ok.ensures.ok (h.given c.requires.on) _ c.piece_of-piece.ensures.index c.piece_of-piece.ensures.piece;
  run = λ _. run_more _ _ _ _ _ _ _ c.in-Some.ensures.claims.1 (h.run c.requires.on) c.piece_of-piece.ensures.kit;
}

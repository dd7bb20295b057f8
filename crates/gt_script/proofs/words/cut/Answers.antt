use Rattle.gt_script.specs.Words.{is_space}
use Rattle.gt_script.proofs.SplitLemmas.{place-or, split-cut}
use Rattle.gt_script.proofs.words.cut.Goals as goal

pub returns-clause-words : goal.returns-clause-words
returns-clause-words c =
    let t = c.args.text.now in
    rw (c.split_at.ensures.front, c.split_at.ensures.back, c.unwrap_or-end.ensures, c.first_space.ensures, place-or is_space t) (split-cut t)

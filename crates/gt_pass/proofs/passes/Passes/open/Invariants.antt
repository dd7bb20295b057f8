use Rattle.gt_pass.proofs.passes.Passes.open.Given as goal

abbrev pub ghosts-open_as : goal.ghosts-open_as
ghosts-open_as a = record { pass = (a.number, a.mark) }

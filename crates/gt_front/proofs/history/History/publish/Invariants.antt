use Rattle.gt_front.proofs.history.History.publish.Given as goal

abbrev pub ghosts-publish_list : goal.ghosts-publish_list
ghosts-publish_list g a = record { list = g.L.Told.list a.told.now }

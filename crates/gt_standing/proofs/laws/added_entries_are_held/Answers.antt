use Rattle.std.proofs.Common.{inl, [], ◌∷◌, ◌++◌, refl}
use Rattle.std.proofs.lemmas.List.Elements.{recursion_from_All}
use Rattle.gt_apply.proofs.Lists.{each, in-back}
use Rattle.gt_entry.specs.Fits.{IsEntry}
use Rattle.gt_standing.proofs.Later.{added_held, added_moved}
use Rattle.gt_standing.proofs.Followed.{added_follows}
use Rattle.gt_standing.proofs.laws.added_entries_are_held.Goals as goal

pub returns-clause-held : goal.returns-clause-held
returns-clause-held g c = λ h begin base log e old new follows legal typed adds held.
    added_held begin base log e old new follows legal adds (g.H.Holding.holds h) (each IsEntry (log ++ e ∷ []) e (recursion_from_All IsEntry (log ++ e ∷ []) typed) (in-back log (e ∷ []) e (inl refl))) held

pub returns-clause-moved : goal.returns-clause-moved
returns-clause-moved g c = λ begin to base log e old new follows legal built adds reach moved. added_moved begin base log e old new follows legal adds to built reach moved

pub returns-clause-follows : goal.returns-clause-follows
returns-clause-follows g c = added_follows

use Rattle.std.proofs.Common.{ap, sym, ◌∙◌}
use Rattle.std.specs.Option.{option_copied}
use Rattle.gt_plain.proofs.Folders.{clash_none}
use Rattle.gt_plain.proofs.looks.PlainContentLook.clash.Goals as goal

pub returns-in-None : goal.returns-in-None
returns-in-None c = clash_none c.args.self.now c.args.path.now c.args.name.now c.args.gone.now (sym c.get.ensures ∙ ap option_copied c.in-None.is)

use Rattle.gt_model.specs.declared.limits.Limits.{Limits}

-- the program's limits
abbrev pub usual : Limits
usual = record { positions = 4294967295; epochs = 4294967295; pins = 64; paths = 65536 }

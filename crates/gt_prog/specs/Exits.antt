-- How the process ends.
use Rattle.std.specs.Prelude.{ℕ, List, [], ◌++◌, codes, decimal}
use Rattle.gt_prog.specs.declared.status.Status.{Status}
use Rattle.gt_prog.specs.declared.status.Status.TheVariants.{Done, Usage, ReadFault, WriteFault, DiskFault, Damaged, Memory, BadInput, NotYet}

-- its exit status
abbrev pub exit_code : Status → ℕ
exit_code Done = 0
exit_code Usage = 2
exit_code ReadFault = 3
exit_code WriteFault = 4
exit_code (DiskFault disk) = 5
exit_code (Damaged disk file at) = 6
exit_code Memory = 7
exit_code (BadInput line at) = 8
exit_code (NotYet line) = 10

-- its line on standard error, none where all is well
abbrev pub exit_text : Status → List ℕ
exit_text Done = []
exit_text Usage = codes "gitstore: usage\n"
exit_text ReadFault = codes "gitstore: read fault\n"
exit_text WriteFault = codes "gitstore: write fault\n"
exit_text (DiskFault disk) = codes "gitstore: disk " ++ (decimal disk ++ codes " fault\n")
exit_text (Damaged disk file at) = codes "gitstore: damaged " ++ (decimal disk ++ (codes " " ++ (decimal file.kind ++ (codes "-" ++ (decimal file.number ++ (codes " " ++ (decimal at ++ codes "\n")))))))
exit_text Memory = codes "gitstore: memory\n"
exit_text (BadInput line at) = codes "gitstore: bad input " ++ (decimal line ++ (codes " " ++ (decimal at ++ codes "\n")))
exit_text (NotYet line) = codes "gitstore: not yet " ++ (decimal line ++ codes "\n")

-- How the plain functions see new files.
use Rattle.gt_model.specs.Batches.{NewFile, pack, loose}
use Rattle.gt_plain_jobs.specs.declared.files.PlainFile.{PlainFile}
use Rattle.gt_plain_jobs.specs.declared.files.PlainFile.TheVariants.{Pack, Loose}

abbrev pub new_file : PlainFile → NewFile
new_file Pack = pack
new_file (Loose name) = loose name

-- Why a disk could not be mounted.
use Rattle.gt_disk.specs.declared.DiskError.{DiskError}
use Rattle.gt_disk.specs.declared.DiskError.TheVariants as disk
use Rattle.gt_log.specs.declared.mount_cause.MountCause.{MountCause}
use Rattle.gt_log.specs.declared.mount_cause.MountCause.TheVariants as mount

-- what a failed call of the disk is to a mount
abbrev pub mount_cause : DiskError → MountCause
mount_cause disk.Failed = mount.DeviceFault
mount_cause disk.Memory = mount.Memory

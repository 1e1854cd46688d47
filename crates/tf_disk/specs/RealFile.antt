-- A disk over a real file, as contracts see it.
use Rattle.std.specs.Prelude.{ℕ, List}
use Rattle.std.specs.String.{string_bytes}
use Rattle.tf_disk.specs.declared.file.FileDisk.{FileDisk}

-- how often a call of the disk has failed
abbrev pub fault_count : FileDisk → ℕ
fault_count disk = disk.faults

-- the path of the file that the disk opens
abbrev pub path_of : FileDisk → List ℕ
path_of disk = string_bytes disk.path

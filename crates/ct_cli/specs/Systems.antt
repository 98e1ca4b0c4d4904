-- What an error of the system means.
use Rattle.std.specs.Prelude.{ℤ, pos, Bool, Option, Some, None, if◌then◌else◌}
use Rattle.std.specs.Ordering.{int_eq}
use Rattle.std.specs.IoError.{error_kind, raw_os_error}
use Rattle.std.specs.declared.io.Error.{Error}
use Rattle.std.specs.declared.io.ErrorKind.{ErrorKind}
use Rattle.std.specs.declared.io.ErrorKind.TheVariants.{NotFound, NotADirectory, IsADirectory, OutOfMemory as kind_out_of_memory}
use Rattle.ct_cli.specs.declared.causes.Cause.{Cause}
use Rattle.ct_cli.specs.declared.causes.Cause.TheVariants.{Missing, OutOfMemory, System}

-- nothing lies at a path that is not found, that leads through what is no folder, or that is a folder
-- where a file is asked for
abbrev pub cause_of_kind : ErrorKind → Cause
cause_of_kind NotFound = Missing
cause_of_kind NotADirectory = Missing
cause_of_kind IsADirectory = Missing
cause_of_kind kind_out_of_memory = OutOfMemory
cause_of_kind _ = System

-- the number of the system's error for a path that is too long
abbrev pub name_too_long : ℤ
name_too_long = pos 36

-- nothing lies at a path that is too long, either
abbrev pub cause_by : Option ℤ → ErrorKind → Cause
cause_by None kind = cause_of_kind kind
cause_by (Some number) kind = if int_eq number name_too_long then Missing else cause_of_kind kind

abbrev pub cause_at : Error → Cause
cause_at error = cause_by (raw_os_error error) (error_kind error)

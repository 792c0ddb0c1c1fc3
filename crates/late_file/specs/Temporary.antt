-- Errors of a disk that takes no more.
use Rattle.std.specs.Prelude.{Bool, true, false}
use Rattle.std.specs.IoError.{error_kind}
use Rattle.std.specs.declared.io.Error.{Error}
use Rattle.std.specs.declared.io.ErrorKind.{ErrorKind}
use Rattle.std.specs.declared.io.ErrorKind.TheVariants.{StorageFull, QuotaExceeded}

abbrev pub is_of_room : ErrorKind → Bool
is_of_room StorageFull = true
is_of_room QuotaExceeded = true
is_of_room _ = false

-- the disk has no room, or its user may take no more of it
abbrev pub lacks_room : Error → Bool
lacks_room e = is_of_room (error_kind e)

-- Errors of a file that lacks a call, as a device or a pipe does.
use Rattle.std.specs.Prelude.{Bool, true, false}
use Rattle.std.specs.IoError.{error_kind}
use Rattle.std.specs.declared.io.Error.{Error}
use Rattle.std.specs.declared.io.ErrorKind.{ErrorKind}
use Rattle.std.specs.declared.io.ErrorKind.TheVariants.{InvalidInput, Unsupported}

abbrev pub is_of_call : ErrorKind → Bool
is_of_call InvalidInput = true
is_of_call Unsupported = true
is_of_call _ = false

-- the file has no such call
abbrev pub lacks_call : Error → Bool
lacks_call e = is_of_call (error_kind e)

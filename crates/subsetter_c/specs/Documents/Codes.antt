-- Codes without a font, handed to C.
use Rattle.std.specs.Prelude.{◌≡◌, ◌⊎◌, List}
use Rattle.subsetter_base.specs.declared.error.Error.{Error}
use Rattle.subsetter_base.specs.declared.error.Error.TheVariants.{OutOfMemory, OverflowError}
use Rattle.pdf_codes.specs.declared.codes.Codes.{Codes as Kind}
use Rattle.pdf_codes.specs.Codes.{IsOverfull, Used}

-- why there are no codes
abbrev pub IsCodesRefusal : Kind → List Used → Error → Type 0
IsCodesRefusal kind us e = (e ≡ OutOfMemory) ⊎ ((e ≡ OverflowError) × IsOverfull kind us)

-- What a glyph of a CFF table draws (Technical Note 5176, section 14 "CharStrings INDEX"; Technical Note 5177).
use Rattle.std.specs.Prelude.{ℕ, Option}
use Rattle.subsetter_base.specs.Options.{◌>>=◌}
use Rattle.subsetter_type2.specs.Runs.Machine.{Library, Trace, trace}
use Rattle.subsetter_cff.specs.Read.Cff.{Cff, char_string}
use Rattle.subsetter_cff.specs.Read.FdArray.Private.{Private, private_of}

-- the subroutines that a charstring under this private dict may call
abbrev pub library : Cff → Private → Library
library cff private = record { global = cff.subroutines; local = private.subroutines }

-- the trace of a glyph's charstring, with at most `tokens` tokens and no deeper than the depth, where the charstring
-- itself is at 1
unfoldable pub glyph_trace : Cff → ℕ → ℕ → ℕ → Option Trace
glyph_trace cff tokens depth glyph = do
  bytes ← char_string cff glyph
  private ← private_of cff glyph
  trace (library cff private) tokens depth bytes

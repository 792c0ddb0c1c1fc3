-- What is said within a bound, where none is set.
use Rattle.std.proofs.Common.{ℕ, List, None, refl}
use Rattle.subsetter_base.specs.declared.error.Error.{Error}
use Rattle.subsetter_base.proofs.Options.{some_not_none}
use Rattle.subsetter_sfnt.specs.Read.{Font}
use Rattle.subsetter.specs.Bound.{HasFaultWithin, in_font, beyond}
use Rattle.subsetter.specs.Fault.{HasFault}
use Rattle.subsetter.specs.Promise.{FaultsAreTheFonts}

-- a fault of the font
in_the_font : (tokens depth : ℕ) (font : Font) (glyphs order : List ℕ) (e : Error) → HasFaultWithin None tokens depth font glyphs order e → HasFault tokens depth font glyphs order e
in_the_font tokens depth font glyphs order e (in_font f) = f
in_the_font tokens depth font glyphs order e (beyond b) = absurd (some_not_none None b.most b.is_set refl)

pub without_bound : FaultsAreTheFonts
without_bound tokens depth font glyphs order = (λ e f. in_the_font tokens depth font glyphs order e f, λ none out a. none out tt a)

-- What the code's parts of a TrueType subset mean.
use Rattle.subsetter.specs.declared.truetype.TrueTypeTables.{TrueTypeTables}
use Rattle.subsetter.specs.Common.Shared.View.{shared_seen}
use Rattle.subsetter.specs.Truetype.Plain.{Made}

abbrev pub made_seen : TrueTypeTables → Made
made_seen m = record { outlines = m.outlines.items; loca = m.loca.items; shared = shared_seen m.shared }

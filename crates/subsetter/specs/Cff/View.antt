-- What the code's parts of a subset with a CFF table mean.
use Rattle.subsetter_cff.specs.Write.Laying.TableBy.{table_bytes}
use Rattle.subsetter.specs.declared.cff.CffTables.{CffTables}
use Rattle.subsetter.specs.Common.Shared.View.{shared_seen}
use Rattle.subsetter.specs.Cff.Plain.{Made}

abbrev pub made_seen : CffTables → Made
made_seen m = record { cff = table_bytes m.table; shared = shared_seen m.shared }

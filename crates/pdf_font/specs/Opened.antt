-- The face of a font that can be opened.
use Rattle.std.specs.Prelude.{◌≡◌}
use Rattle.subsetter_base.specs.declared.error.Error.{Error}
use Rattle.subsetter_variable.specs.Subset.{HasOpeningFaultAt}
use Rattle.subsetter_sfnt.specs.Read.{Font, stored, table_in}
use Rattle.subsetter_sfnt.specs.declared.face.Face.{Face}

-- it finds the tables that the font has, and there is no fault of opening it
pub record IsOpened (font : Font) (face : Face) : Type 0 where
  pub find : table_in face.«data».now face.records.now ≡ stored font
  pub clean : (e : Error) → ¬ (HasOpeningFaultAt font e)

-- What the code's values of outlines mean.
use Rattle.std.specs.Prelude.{ℕ, List, ◌∷◌, ◌++◌}
use Rattle.subsetter.specs.declared.glyf.GlyfTables.{GlyfTables}
use Rattle.subsetter.specs.declared.glyf.component.Component.{Component}
use Rattle.subsetter.specs.declared.glyf.pieces.Outline.{Outline}
use Rattle.subsetter.specs.declared.glyf.pieces.Outline.TheVariants.{Whole, InPieces}
use Rattle.subsetter.specs.Glyf.Read.{Outlines}
use Rattle.subsetter.specs.Glyf.Parts as parts

abbrev pub seen : GlyfTables → Outlines
seen t = record { loca = t.loca.now; glyf = t.glyf.now; head = t.head.now; long = t.long; hinting = t.hinting }

abbrev pub component_seen : Component → parts.Component
component_seen c = record { flags = c.flags; glyph = c.glyph; rest = c.rest.now }

-- the bytes of an outline that is written: one piece, or two with a length of 0 between them
abbrev pub outline_bytes : Outline → List ℕ
outline_bytes (Whole bytes) = bytes.now
outline_bytes (InPieces bare) = bare.front.now ++ 0 ∷ 0 ∷ bare.following.now

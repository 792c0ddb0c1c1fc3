-- What a reason is about.
use Rattle.std.specs.Prelude.{ℕ, Option, Some, None, codes}
use Rattle.subsetter_base.specs.declared.tag.Tag.{Tag}
use Rattle.font_reasons.specs.declared.reason.Reason.{Reason}
use Rattle.font_reasons.specs.declared.reason.Reason.TheVariants.{Cut, BitmapsAlone, NoGlyph, NoTable, NoEntries}
use Rattle.font_reasons.specs.declared.reason.Reason.TheVariants.{LocFormat, Descends, Outside, CutHeader, CutComponent}
use Rattle.font_reasons.specs.declared.reason.Reason.TheVariants.{ByComponent, NoMetrics, FewMetrics, NoMetric, NoUnits}
use Rattle.font_reasons.specs.declared.reason.Reason.TheVariants.{Short, LostName, NoUnicode, ShortMap, OnlyCff2}
use Rattle.font_reasons.specs.declared.reason.Reason.TheVariants.{Forbidden, Cff2Version, OtherVersion, AxisSize}
use Rattle.font_reasons.specs.declared.reason.Reason.TheVariants.{AxisCount, Unread, NoCharstring, WrongCharstring}
use Rattle.font_reasons.specs.declared.reason.Reason.TheVariants.{Composed, WrongOutline, Deep, Unvaried, WrongMetric}
use Rattle.font_reasons.specs.declared.reason.Reason.TheVariants.{LargeAdvance, LargeCff, LostString, NoIndex}

-- the table whose bytes show it, or that isn't there
abbrev pub reason_table : Reason → Option Tag
reason_table (Cut tag end size) = Some tag
reason_table (NoTable tag) = Some tag
reason_table (BitmapsAlone tag) = Some tag
reason_table (NoGlyph glyph count) = Some (record { 0 = codes "maxp" })
reason_table (NoEntries glyph) = Some (record { 0 = codes "loca" })
reason_table (LocFormat format) = Some (record { 0 = codes "head" })
reason_table (Descends glyph) = Some (record { 0 = codes "loca" })
reason_table (Outside glyph) = Some (record { 0 = codes "glyf" })
reason_table (CutHeader glyph) = Some (record { 0 = codes "glyf" })
reason_table (CutComponent glyph) = Some (record { 0 = codes "glyf" })
reason_table (ByComponent glyph component) = Some (record { 0 = codes "glyf" })
reason_table NoMetrics = Some (record { 0 = codes "hhea" })
reason_table (FewMetrics count) = Some (record { 0 = codes "hhea" })
reason_table (NoMetric glyph) = Some (record { 0 = codes "hmtx" })
reason_table NoUnits = Some (record { 0 = codes "head" })
reason_table (Short tag size needed) = Some tag
reason_table (LostName id) = Some (record { 0 = codes "name" })
reason_table NoUnicode = Some (record { 0 = codes "cmap" })
reason_table (ShortMap format size needed) = Some (record { 0 = codes "cmap" })
reason_table OnlyCff2 = Some (record { 0 = codes "CFF2" })
reason_table (Forbidden fs_type p) = Some (record { 0 = codes "OS/2" })
reason_table (LargeAdvance glyph limit) = Some (record { 0 = codes "hmtx" })
reason_table (NoIndex glyph) = Some (record { 0 = codes "post" })
reason_table LostString = Some (record { 0 = codes "CFF " })
reason_table LargeCff = Some (record { 0 = codes "CFF " })
reason_table (Cff2Version version) = Some (record { 0 = codes "CFF2" })
reason_table (OtherVersion tag) = Some tag
reason_table (AxisSize size) = Some (record { 0 = codes "fvar" })
reason_table (AxisCount tag count axes) = Some tag
reason_table (Unread tag) = Some tag
reason_table (NoCharstring tag glyph) = Some tag
reason_table (WrongCharstring tag glyph) = Some tag
reason_table (Composed glyph) = Some (record { 0 = codes "CFF " })
reason_table (WrongOutline glyph) = Some (record { 0 = codes "glyf" })
reason_table (Deep glyph) = Some (record { 0 = codes "glyf" })
reason_table (Unvaried tag glyph) = Some tag
reason_table (WrongMetric tag) = Some (record { 0 = codes "MVAR" })
reason_table reason = None

-- the glyph that it is about
abbrev pub reason_glyph : Reason → Option ℕ
reason_glyph (NoGlyph glyph count) = Some glyph
reason_glyph (NoEntries glyph) = Some glyph
reason_glyph (Descends glyph) = Some glyph
reason_glyph (Outside glyph) = Some glyph
reason_glyph (CutHeader glyph) = Some glyph
reason_glyph (CutComponent glyph) = Some glyph
reason_glyph (ByComponent glyph component) = Some glyph
reason_glyph (NoMetric glyph) = Some glyph
reason_glyph (NoIndex glyph) = Some glyph
reason_glyph (LargeAdvance glyph limit) = Some glyph
reason_glyph (NoCharstring tag glyph) = Some glyph
reason_glyph (WrongCharstring tag glyph) = Some glyph
reason_glyph (Composed glyph) = Some glyph
reason_glyph (WrongOutline glyph) = Some glyph
reason_glyph (Deep glyph) = Some glyph
reason_glyph (Unvaried tag glyph) = Some glyph
reason_glyph reason = None

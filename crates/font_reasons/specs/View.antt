-- Which records values of the code mean.
use Rattle.subsetter_cff2.specs.Cff2View.{cff2_of}
use Rattle.font_reasons.specs.Charstrings.{Opened2}
use Rattle.font_reasons.specs.Outlines.{Component, Reach, Tables, Walked}
use Rattle.font_reasons.specs.declared.charstrings.Opened2.{Opened2 as CodeOpened2}
use Rattle.font_reasons.specs.declared.outlines.Component.{Component as CodeComponent}
use Rattle.font_reasons.specs.declared.outlines.Reach.{Reach as CodeReach}
use Rattle.font_reasons.specs.declared.outlines.Tables.{Tables as CodeTables}
use Rattle.font_reasons.specs.declared.outlines.Walked.{Walked as CodeWalked}

abbrev pub component_view : CodeComponent → Component
component_view c = record { flags = c.flags; glyph = c.glyph; after = c.after.now }

abbrev pub walked_view : CodeWalked → Walked
walked_view w = record { glyphs = w.glyphs.items; is_cut = w.is_cut }

abbrev pub tables_view : CodeTables → Tables
tables_view t = record { glyf = t.glyf.now; loca = t.loca.now; format = t.format }

abbrev pub reach_view : CodeReach → Reach
reach_view r = record { steps = r.steps; seen = r.seen }

abbrev pub opened2_of : CodeOpened2 → Opened2
opened2_of o = record { cff = cff2_of o.table; variation = o.variation.variation }

use Rattle.std.proofs.Common.{List, ap, sym, ◌∙◌}
use Rattle.std.specs.Prelude.{slice_get}
use Rattle.subsetter_cff.specs.Read.Source.{cff_of}
use Rattle.pdf_widths.specs.declared.defaults.Defaults.{Defaults}
use Rattle.pdf_widths.proofs.Glyphs.{found, unnumbered}
use Rattle.pdf_widths.proofs.defaults.glyph_defaults.Goals as goal

pub returns-in-None : goal.returns-in-None
returns-in-None c = unnumbered (cff_of c.args.table.now) c.args.glyph (sym c.source_number.ensures ∙ c.in-None.is)

pub returns-in-Some : goal.returns-in-Some
returns-in-Some c =
    c.numbered.ensures ∙ ap (λ (l : List Defaults). slice_get l c.in-Some.number) c.requires.all ∙ found c.args.table.now c.args.glyph c.in-Some.number c.requires.source (sym c.source_number.ensures ∙ c.in-Some.is)

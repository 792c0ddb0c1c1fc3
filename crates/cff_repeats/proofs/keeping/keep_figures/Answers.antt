use Rattle.std.proofs.Common.{ℕ, ◌+◌, ◌∙◌, ◌++◌, ◌∷◌, [], ap, sym, drop, get_or, List, Option, None}
use Rattle.std.proofs.lemmas.List.{drop_more}
use Rattle.subsetter_cff.specs.Read.Source.{cff_of}
use Rattle.subsetter_cff.specs.Write.Glyphs.KeptView.{with_kept}
use Rattle.subsetter_cff.proofs.WriteLaws.GlyphsLaws.GlyphsKept.{one_more_kept}
use Rattle.cff_repeats.specs.Repeats.{figures_of}
use Rattle.cff_repeats.specs.View.{figure_view}
use Rattle.cff_repeats.proofs.Glyphs.{next_kept}
use Rattle.cff_repeats.proofs.keeping.keep_figures.Goals as goal

pub loop-glyph-preserved : goal.loop-glyph-preserved
loop-glyph-preserved c =
    let i = c.loop-glyph.invariant in
    let cff = cff_of c.args.table.now in
    let figures = c.args.figures.now in
    let at = c.loop-glyph.glyph-index in
    let one = figure_view c.in_ok-found.found in
    let more = drop_more figures at None c.loop-glyph-test.true in
    record {
      before = i.before ++ one ∷ [];
      whole = next_kept cff (get_or figures at None) (drop (at + 1) figures) i.before (figures_of cff figures)
          (ap (λ (l : List (Option ℕ)). with_kept i.before (figures_of cff l)) (sym more) ∙ i.whole) one (sym c.in_ok-found.ensures);
      shown = one_more_kept i.before c.loop-glyph.kept c.in_ok-kept.kept one i.shown c.in_ok-kept.ensures.ok;
    }

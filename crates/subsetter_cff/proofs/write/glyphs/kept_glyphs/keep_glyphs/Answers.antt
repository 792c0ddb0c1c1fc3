use Rattle.std.proofs.Common.{◌≡◌, arith, ◌∙◌, ◌++◌, ◌∷◌, [], ap, sym, List, ℕ}
use Rattle.std.specs.Prelude.{slice_index}
use Rattle.std.proofs.lemmas.Result.{err_from_is_err_and}
use Rattle.subsetter_cff.specs.Write.Glyphs.KeptView.{with_kept}
use Rattle.subsetter_cff.specs.Write.Plain.{kept_glyphs}
use Rattle.subsetter_cff.specs.Read.Source.{cff_of}
use Rattle.subsetter_cff.proofs.WriteLaws.GlyphsLaws.GlyphsKept.{one_more_kept, next_kept, next_past}
use Rattle.subsetter_cff.proofs.write.glyphs.kept_glyphs.keep_glyphs.Goals as goal

pub loop-glyph-preserved : goal.loop-glyph-preserved
loop-glyph-preserved c =
    let before = c.loop-glyph.invariant.before in
    let next = c.in_ok-kept.ensures.ok in
    let one = next.one in
    let cff = cff_of c.args.source.now in
    record {
      before = before ++ one ∷ [];
      whole = next_kept cff c.args.limits.tokens c.args.limits.depth c.in-Some.glyph c.next.new.self before one _
          (ap (λ (l : List ℕ). with_kept before (kept_glyphs cff c.args.limits.tokens c.args.limits.depth l)) (sym c.in-Some.ensures.steps) ∙ c.loop-glyph.invariant.whole) next.is;
      shown = one_more_kept before c.loop-glyph.kept c.in_ok-kept.kept one c.loop-glyph.invariant.shown next.put;
    }

pub returns-clause-small : goal.returns-clause-small
returns-clause-small c = λ i. (
    let same : slice_index c.deref.result.now i ≡ slice_index c.loop-glyph.kept.numbers.items i = ap (λ (l : List ℕ). slice_index l i) c.deref.ensures.value in
    omega (arith, same, c.are_bytes.ensures i)
    )

pub returns-in_err-kept-clause-err : goal.returns-in_err-kept-clause-err
returns-in_err-kept-clause-err c =
    let p = err_from_is_err_and c.from_residual-in_err-kept.result c.from_residual-in_err-kept.ensures.1 in
    let i = c.loop-glyph.invariant in
    let cff = cff_of c.args.source.now in
    rw (p.1, p.2) (next_past c.args.limits.bytes cff c.args.limits.tokens c.args.limits.depth c.in-Some.glyph _ i.before c.loop-glyph.kept.char_strings.items c.in_err-kept.field-0.0 _
    (ap (λ (l : List ℕ). with_kept i.before (kept_glyphs cff c.args.limits.tokens c.args.limits.depth l)) (sym c.in-Some.ensures.steps) ∙ i.whole) i.shown.char_strings c.in_err-kept.ensures.err)

use Rattle.std.proofs.Common.{◌∙◌, ◌+◌, ◌<◌, ◌≤◌, ◌++◌, ◌∷◌, [], ℕ, List, Option, None, get_or, length, map, drop, ap, sym, arith}
use Rattle.std.proofs.lemmas.List.{drop_more}
use Rattle.std.proofs.lemmas.Result.{err_from_is_err_and}
use Rattle.subsetter_cff2.specs.Made2View.{dict_view}
use Rattle.subsetter_cff_at.specs.Plain.{texts_from, texts_size}
use Rattle.subsetter_cff_at.specs.View.{opened_of, with_texts}
use Rattle.subsetter_cff_at.proofs.Steps.{next_text, one_more, text_past}
use Rattle.subsetter_cff_at.proofs.texts.draw_texts.Goals as goal

pub loop-glyph-preserved : goal.loop-glyph-preserved
loop-glyph-preserved c =
    let cff = (opened_of c.args.opened.now).cff in
    let v = (opened_of c.args.opened.now).variation in
    let tokens = c.args.limits.tokens in
    let depth = c.args.limits.depth in
    let dicts = map dict_view c.args.dicts.now in
    let places = c.args.places.now in
    let glyphs = c.args.glyphs.now in
    let i = c.loop-glyph.glyph in
    let inv = c.loop-glyph.invariant in
    let next = c.in_ok-draw_next.ensures.ok in
    let lt : i < length glyphs = omega arith in
    let also : i < length places = omega arith in
    record {
      before = inv.before ++ next.text ∷ [];
      whole = next_text cff v tokens depth dicts (get_or places i 0) i (get_or glyphs i None) (drop (i + 1) places) (drop (i + 1) glyphs) inv.before next.text _
          (ap (λ (l : List ℕ). with_texts inv.before (texts_from cff v tokens depth dicts l i (get_or glyphs i None ∷ drop (i + 1) glyphs))) (sym (drop_more places i 0 also))
          ∙ ap (λ (l : List (Option ℕ)). with_texts inv.before (texts_from cff v tokens depth dicts (drop i places) i l)) (sym (drop_more glyphs i None lt))
          ∙ inv.whole) next.is;
      shown = one_more inv.before c.loop-glyph.texts c.draw_next.new.texts next.text inv.shown next.put;
      within = c.in_ok-draw_next.ensures.within inv.within;
    }

pub returns-in_err-draw_next-clause-err : goal.returns-in_err-draw_next-clause-err
returns-in_err-draw_next-clause-err c =
    let p = err_from_is_err_and c.from_residual-in_err-draw_next.result c.from_residual-in_err-draw_next.ensures.1 in
    let cff = (opened_of c.args.opened.now).cff in
    let v = (opened_of c.args.opened.now).variation in
    let tokens = c.args.limits.tokens in
    let depth = c.args.limits.depth in
    let dicts = map dict_view c.args.dicts.now in
    let places = c.args.places.now in
    let glyphs = c.args.glyphs.now in
    let i = c.loop-glyph.glyph in
    let inv = c.loop-glyph.invariant in
    let lt : i < length glyphs = omega arith in
    let also : i < length places = omega arith in
    let size : c.loop-glyph.texts.requested ≤ texts_size inv.before = omega (arith, inv.shown.requested) in
    rw (p.1, p.2) (text_past cff v tokens depth dicts c.args.limits.bytes (get_or places i 0) i (get_or glyphs i None) (drop (i + 1) places) (drop (i + 1) glyphs) inv.before c.loop-glyph.texts.requested c.in_err-draw_next.field-0.0 _
    (ap (λ (l : List ℕ). with_texts inv.before (texts_from cff v tokens depth dicts l i (get_or glyphs i None ∷ drop (i + 1) glyphs))) (sym (drop_more places i 0 also))
    ∙ ap (λ (l : List (Option ℕ)). with_texts inv.before (texts_from cff v tokens depth dicts (drop i places) i l)) (sym (drop_more glyphs i None lt))
    ∙ inv.whole) size c.in_err-draw_next.ensures.err)

use Rattle.std.proofs.Common.{◌≡◌, ◌+◌, ◌++◌, ◌∷◌, [], ◌∙◌, ap, refl, arith, length, ℕ}
use Rattle.std.proofs.lemmas.Result.{err_from_is_err_and}
use Rattle.subsetter_cff.specs.Write.Glyphs.KeptView.{kept_view}
use Rattle.subsetter_cff.specs.Read.Source.{cff_of}
use Rattle.subsetter_cff.proofs.WriteLaws.GlyphsLaws.GlyphsKept.{after_past, keeps_next}
use Rattle.subsetter_cff.proofs.write.glyphs.kept_glyphs.keep_next.Goals as goal

pub returns-in_err-all-clause-err : goal.returns-in_err-all-clause-err
returns-in_err-all-clause-err c =
    let p = err_from_is_err_and c.from_residual.result c.from_residual.ensures.1 in
    rw (p.1, p.2) (after_past c.args.limits.bytes c.args.kept.char_strings.items (cff_of c.args.source.now) c.args.limits.tokens c.args.limits.depth c.args.glyph c.in_err-all.field-0.0 c.in_err-all.ensures)

pub returns-clause-ok : goal.returns-clause-ok
returns-clause-ok c =
    let size : c.len.result ≡ length c.in_ok-all.all.bytes.items = omega (arith, c.len.ensures) in
    keeps_next (cff_of c.args.source.now) c.args.limits.tokens c.args.limits.depth c.args.glyph c.args.kept _ (kept_view c.in_ok-all.all) c.in_ok-all.ensures
    c.in_ok-push.ensures.items refl
    (c.in_ok-push-2.ensures.items ∙ ap (λ (n : ℕ). c.args.kept.ends.items ++ (n + 1) ∷ []) size)

use Rattle.std.proofs.Common.{◌≡◌, ℕ, List, ◌++◌, Option, Vec, Global, Ok, Err, ◌+◌, ◌-◌, suc, sym, ap, ◌∙◌, arith}
use Rattle.std.specs.Option.{ok_or}
use Rattle.std.proofs.lemmas.Result.{err_from_is_err_and}
use Rattle.subsetter_base.specs.declared.error.Error.TheVariants.{MalformedFont}
use Rattle.subsetter_base.proofs.Results.{with_front}
use Rattle.subsetter_sfnt.specs.Fields.Hmtx.{advance_in}
use Rattle.cid_embed.specs.Afresh.{measures_seen}
use Rattle.pdf_source.specs.Exact.{advances_from}
use Rattle.pdf_source.proofs.ExactSteps.{advance_read, advance_missing}
use Rattle.pdf_source.proofs.exact.all_advances.Goals as goal

pub returns-in_err-advance : goal.returns-in_err-advance
returns-in_err-advance c =
    let p = err_from_is_err_and c.from_residual-in_err-advance.result c.from_residual-in_err-advance.ensures.1 in
    let m = measures_seen c.args.metrics.now in
    let g = c.loop-glyph.glyph in
    let step : c.args.count - g ≡ suc (c.args.count - (g + 1)) = omega arith in
    let lost : ok_or (advance_in m.hmtx m.number_of_h_metrics g) MalformedFont ≡ Err c.in_err-advance.field-0.0 = ap (λ (o : Option ℕ). ok_or o MalformedFont) (sym c.advance.ensures) ∙ sym c.ok_or.ensures.value ∙ c.in_err-advance.was in
    rw (p.1, p.2) (advance_missing {X = Vec ℕ Global} (λ v. v.items) m c.loop-glyph.advances.items g (c.args.count - g) (c.args.count - (g + 1)) c.in_err-advance.field-0.0 _ step lost c.loop-glyph.invariant)

pub loop-glyph-preserved : goal.loop-glyph-preserved
loop-glyph-preserved c =
    let m = measures_seen c.args.metrics.now in
    let g = c.loop-glyph.glyph in
    let step : c.args.count - g ≡ suc (c.args.count - (g + 1)) = omega arith in
    let found : ok_or (advance_in m.hmtx m.number_of_h_metrics g) MalformedFont ≡ Ok c.in_ok-advance.advance = ap (λ (o : Option ℕ). ok_or o MalformedFont) (sym c.advance.ensures) ∙ sym c.ok_or.ensures.value ∙ c.in_ok-advance.was in
    ap (λ (l : List ℕ). with_front l (advances_from m (g + 1) (c.args.count - (g + 1)))) c.in_ok-push.ensures.items ∙ advance_read m c.loop-glyph.advances.items g (c.args.count - g) (c.args.count - (g + 1)) c.in_ok-advance.advance _ step found c.loop-glyph.invariant

use Rattle.std.proofs.Common.{◌≡◌, ◌+◌, ℕ, List, [], Result, Ok, Err, get_or, drop, sym, ap, ◌∙◌, arith}
use Rattle.std.proofs.lemmas.List.{drop_all, drop_more}
use Rattle.std.proofs.lemmas.Result.{err_from_is_err_and}
use Rattle.subsetter_base.specs.declared.error.Error.{Error}
use Rattle.subsetter_base.proofs.Results.{with_front}
use Rattle.subsetter_instance.proofs.GlyphsLaws.Points.{fails}
use Rattle.font_advances.specs.Widths.{metrics_seen, still_width, each}
use Rattle.font_advances.proofs.Each.{each_end, each_fails, each_step}
use Rattle.font_advances.proofs.widths.each_still.Goals as goal

pub loop-place-preserved : goal.loop-place-preserved
loop-place-preserved c =
    let gs = c.args.glyphs.now in
    let place = c.loop-place.place in
    let width : ℕ → Result ℕ Error = still_width (metrics_seen c.args.metrics.now) in
    let e = drop_more gs place 0 c.loop-place-test.true in
    ap (λ (l : List ℕ). with_front l (each width (drop (place + 1) gs))) c.in_ok-push.ensures.items
    ∙ sym (each_step width c.loop-place.widths.items (get_or gs place 0) (drop place gs) (drop (place + 1) gs) c.in_ok-width.width e (sym c.in_ok-width.ensures))
    ∙ c.loop-place.invariant

pub returns-in_err-width : goal.returns-in_err-width
returns-in_err-width c =
    let gs = c.args.glyphs.now in
    let place = c.loop-place.place in
    let width : ℕ → Result ℕ Error = still_width (metrics_seen c.args.metrics.now) in
    let e = drop_more gs place 0 c.loop-place-test.true in
    let p = err_from_is_err_and c.from_residual-in_err-width.result c.from_residual-in_err-width.ensures.1 in
    rw (p.1, p.2) (each_fails width c.loop-place.widths.items (get_or gs place 0) (drop place gs) (drop (place + 1) gs) _ _ e c.loop-place.invariant (fails _ _ (sym c.in_err-width.ensures)))

pub returns : goal.returns
returns c =
    let width : ℕ → Result ℕ Error = still_width (metrics_seen c.args.metrics.now) in
    let none : drop c.loop-place.place c.args.glyphs.now ≡ [] = drop_all c.loop-place.place c.args.glyphs.now (omega arith) in
    sym c.loop-place.invariant ∙ each_end width c.loop-place.widths.items (drop c.loop-place.place c.args.glyphs.now) none

use Rattle.std.proofs.Common.{◌≡◌, ◌-◌, ◌<◌, ℕ, true, false, Some, ap, sym, ◌∙◌, rules, arith}
use Rattle.std.specs.Option.{option_copied}
use Rattle.std.proofs.lemmas.Result.{err_from_is_err_and}
use Rattle.subsetter_instance.specs.Source.{metric}
use Rattle.subsetter_instance.specs.Glyphs.Unfolded.{Composite, Unfolded, counted_description, is_composite, joined, no_points, unfolded}
use Rattle.subsetter_instance.proofs.GlyphsLaws.Joins.{as_simple, composite_begins, composite_fails}
use Rattle.subsetter_instance.proofs.glyphs.levels.Work.begin.Goals as goal

pub returns-in_err-composite-clause-err : goal.returns-in_err-composite-clause-err
returns-in_err-composite-clause-err c =
    let above : 0 < c.args.depth = omega arith in
    let d : counted_description c.args.source.now c.args.glyph ≡ Some c.in_ok-bytes.bytes.now = sym c.counted_description.ensures ∙ ap option_copied c.in_ok-bytes.ensures.ok_part in
    let m : metric c.args.source.now c.args.glyph ≡ Some c.in_ok-metric.metric = sym c.metric.ensures ∙ c.in_ok-metric.ensures.ok_part in
    let i : is_composite c.in_ok-bytes.bytes.now ≡ true = search rules in
    let p = err_from_is_err_and c.from_residual-in_err-composite.result c.from_residual-in_err-composite.ensures.1 in
    rw (p.1, p.2) (composite_fails c.args.depth c.args.source.now c.args.at.now c.args.self.now.left c.args.glyph c.in_ok-bytes.bytes.now c.in_ok-metric.metric _ above d m i c.in_err-composite.ensures)

pub returns-then-is_composite-clause-value : goal.returns-then-is_composite-clause-value
returns-then-is_composite-clause-value c =
    let q = c.in_ok-composite.composite in
    let child = unfolded (c.args.depth - 1) c.args.source.now c.args.at.now in
    let above : 0 < c.args.depth = omega arith in
    let d : counted_description c.args.source.now c.args.glyph ≡ Some c.in_ok-bytes.bytes.now = sym c.counted_description.ensures ∙ ap option_copied c.in_ok-bytes.ensures.ok_part in
    let m : metric c.args.source.now c.args.glyph ≡ Some c.in_ok-metric.metric = sym c.metric.ensures ∙ c.in_ok-metric.ensures.ok_part in
    let i : is_composite c.in_ok-bytes.bytes.now ≡ true = search rules in
    let start = composite_begins c.args.depth c.args.source.now c.args.at.now c.args.self.now.left c.args.glyph c.in_ok-bytes.bytes.now c.in_ok-metric.metric q above d m i c.in_ok-composite.ensures in
    let all = c.begin_composite.new.self.level.all in
    let left = c.begin_composite.new.self.left in
    ap (λ (x : Composite). joined child x.components 0 x.xs x.ys (all, left)) c.in_ok-begin_composite.ensures.composite
    ∙ ap (λ (u : Unfolded). joined child q.components 0 q.xs q.ys (u, left)) c.in_ok-begin_composite.ensures.all
    ∙ ap (λ (n : ℕ). joined child q.components 0 q.xs q.ys (no_points q.left q.right, n)) c.in_ok-begin_composite.ensures.left
    ∙ start

pub returns-in_err-part-clause-err : goal.returns-in_err-part-clause-err
returns-in_err-part-clause-err c =
    let above : 0 < c.args.depth = omega arith in
    let d : counted_description c.args.source.now c.args.glyph ≡ Some c.in_ok-bytes.bytes.now = sym c.counted_description.ensures ∙ ap option_copied c.in_ok-bytes.ensures.ok_part in
    let m : metric c.args.source.now c.args.glyph ≡ Some c.in_ok-metric.metric = sym c.metric.ensures ∙ c.in_ok-metric.ensures.ok_part in
    let i : is_composite c.in_ok-bytes.bytes.now ≡ false = search rules in
    let p = err_from_is_err_and c.from_residual-in_err-part.result c.from_residual-in_err-part.ensures.1 in
    rw (p.1, p.2, as_simple c.args.depth c.args.source.now c.args.at.now c.args.self.now.left c.args.glyph c.in_ok-bytes.bytes.now c.in_ok-metric.metric above d m i) c.in_err-part.ensures.value

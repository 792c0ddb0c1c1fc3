use Rattle.std.proofs.Common.{ap, ◌∙◌, ◌++◌, Some, arith}
use Rattle.subsetter_instance.specs.Glyphs.Drawn.{Drawn}
use Rattle.subsetter_instance.specs.Tables.Written.{outline_bytes}
use Rattle.subsetter_instance.proofs.TablesLaws.WriteLemmas.{padded_odd, padded_even}
use Rattle.subsetter_instance.proofs.glyphs.drawn.Drawn.write_outline.Goals as goal

pub returns-in_ok-push-clause-ok : goal.returns-in_ok-push-clause-ok
returns-in_ok-push-clause-ok c =
    let o = c.self.inside.outline in
    padded_odd c.args.glyf.now.items _ _ o.ends.items o.points.items _ _ c.self.invariant.0 (omega (arith, c.len-start.ensures, c.args.glyf.now.ok)) c.in_ok-write_bounded.ensures.ok (omega (arith, c.len.ensures, c.write_bounded.new.out.ok)) c.if-len-start-eq1.true c.in_ok-push.ensures.items
    ∙ ap (λ (d : Drawn). c.args.glyf.now.items ++ outline_bytes (Some d)) c.self.view_is

pub returns-else-len-start-eq1-clause-ok : goal.returns-else-len-start-eq1-clause-ok
returns-else-len-start-eq1-clause-ok c =
    let o = c.self.inside.outline in
    padded_even c.args.glyf.now.items _ o.ends.items o.points.items _ _ c.self.invariant.0 (omega (arith, c.len-start.ensures, c.args.glyf.now.ok)) c.in_ok-write_bounded.ensures.ok (omega (arith, c.len.ensures, c.write_bounded.new.out.ok)) c.if-len-start-eq1.false
    ∙ ap (λ (d : Drawn). c.args.glyf.now.items ++ outline_bytes (Some d)) c.self.view_is

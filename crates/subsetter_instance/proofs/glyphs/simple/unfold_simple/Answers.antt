use Rattle.std.proofs.Common.{◌≡◌, length, Some, rules, subst}
use Rattle.subsetter_base.specs.Gives.{Gives}
use Rattle.subsetter_points.specs.Simple.{parts, points}
use Rattle.subsetter_instance.proofs.GlyphsLaws.Ends.{simple_by_flags}
use Rattle.subsetter_instance.proofs.glyphs.simple.unfold_simple.Goals as goal

pub returns-clause-value : goal.returns-clause-value
returns-clause-value c =
    let o = c.in_ok-columns.columns in
    let a : length o.xs.items ≡ length o.flags.items = search rules in
    let b : length o.ys.items ≡ length o.flags.items = search rules in
    let e : Some (o.ends.items, points o.flags.items o.xs.items o.ys.items) ≡ parts c.args.bytes.now = search rules in
    subst (λ r. Gives (λ r. (r.0, r.1)) c.unfold_columns.result r) (simple_by_flags _ _ _ _ _ _ _ _ _ _ e a b) c.unfold_columns.ensures.value

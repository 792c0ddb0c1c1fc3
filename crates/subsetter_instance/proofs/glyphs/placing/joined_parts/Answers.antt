use Rattle.std.proofs.Common.{◌∙◌, ap, FitsSigned, w64, rules}
use Rattle.std.proofs.lemmas.Int.{to_z-of_z}
use Rattle.subsetter_instance.specs.Glyphs.Unfolded.{Unfolded, on_curve}
use Rattle.subsetter_instance.proofs.GlyphsLaws.Reach.{on_count, on_joined, same_unfolded}
use Rattle.subsetter_instance.proofs.glyphs.placing.joined_parts.Goals as goal

pub returns : goal.returns
returns c =
    let f : FitsSigned w64 c.args.across = c.ranges.across in
    let g : FitsSigned w64 c.args.up = c.ranges.up in
    let across = to_z-of_z w64 c.args.across f in
    let up = to_z-of_z w64 c.args.up g in
    let on = on_joined c.before-2.inside.on.items c.deref-2.result.now c.extend_from_slice.new.self.items c.args.before.on c.args.part.now.on c.in_ok-extend_from_slice.ensures.items (ap (λ (u : Unfolded). u.on) c.before-2.view_is) (ap on_curve c.deref-2.ensures.value ∙ ap (λ (u : Unfolded). u.on) c.part.view_is) in
    record { value = same_unfolded _ _ _ _ _ _ _ _ _ _ _ _ (search (rules, on_count)) on (search (rules, across)) (search (rules, up)) (search rules) (search rules) }

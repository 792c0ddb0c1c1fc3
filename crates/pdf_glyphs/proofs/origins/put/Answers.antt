use Rattle.std.proofs.Common.{◌≡◌, ◌∙◌, ℤ, List, Option, None, ap, get_or, sym, arith, rules, w16}
use Rattle.std.specs.Option.{option_or}
use Rattle.std.proofs.lemmas.Int.{to_z-of_z}
use mir.Val.{SFits}
use Rattle.pdf_glyphs.specs.Origins.{filled, origin_seen}
use Rattle.pdf_glyphs.proofs.OriginSteps.{y_noted, y_place, y_put}
use Rattle.pdf_glyphs.proofs.origins.put.Goals as goal

pub fill-requires : goal.fill-requires
fill-requires c = omega (arith, y_place c.args.mapper.now c.args.origin.glyph c.in-Some.number c.get.result c.in-Some.is c.get.ensures, c.requires)

pub returns-in-Some-clause-put : goal.returns-in-Some-clause-put
returns-in-Some-clause-put c =
    let fits : SFits w16 c.args.origin.y = search rules in
    let number : c.from.result ≡ c.in-Some.number = omega arith in
    let noted : c.fill.new.origins.items ≡ filled c.args.origins.now.items c.in-Some.number c.args.origin.y =
    y_noted c.args.origins.now.items c.fill.new.origins.items c.in-Some.number c.from.result c.args.origin.y _ c.fill.ensures number (to_z-of_z w16 c.args.origin.y fits)
    in
    λ k later lt.
    ap (λ (ys : List (Option ℤ)). option_or (get_or ys k None) later) noted
    ∙ y_put c.args.mapper.now c.num_gids-count.ensures.once (origin_seen c.args.origin) c.args.origins.now.items c.in-Some.number k later (sym c.get.ensures ∙ c.in-Some.is) c.requires lt

use Rattle.std.proofs.Common.{◌<◌, ◌≤◌, ◌-◌, ◌+◌, ◌∙◌, ap, sym, arith, subst}
use Rattle.cmap.specs.Groups.{Group, in_range}
use Rattle.cmap.proofs.GroupSteps.{all_below, first_found, none_between}
use Rattle.cmap.proofs.halves.find_by_halves.Goals as goal

pub returns-then-place-there : goal.returns-then-place-there
returns-then-place-there c =
    sym (all_below c.args.table.now c.args.count c.args.there c.args.character c.requires.there (λ j h. c.first_group-place.ensures.before j (let within = c.first_group-place.ensures.within in omega arith)))

pub returns-then-group-character : goal.returns-then-group-character
returns-then-group-character c =
    sym (none_between c.args.table.now c.args.count c.args.there c.args.character c.requires.there c.requires.ascending c.first_group-place.result c.if-place-there.false c.first_group-place.ensures.before
    (subst (λ (g : Group). c.args.character < g.start) c.group_at-group.ensures c.if-group-character.true))

pub returns : goal.returns
returns c =
    c.glyph_of.ensures
    ∙ ap (λ (g : Group). in_range (g.glyph + (c.args.character - g.start))) c.group_at-group.ensures
    ∙ sym (first_found c.args.table.now c.args.count c.args.there c.args.character c.requires.there c.first_group-place.result c.if-place-there.false c.first_group-place.ensures.before
    (subst (λ (g : Group). g.start ≤ c.args.character) c.group_at-group.ensures c.if-group-character.false)
    (c.first_group-place.ensures.here c.if-place-there.false))

use Rattle.std.proofs.Common.{◌≡◌, ◌+◌, ◌-◌, ◌*◌, true, false, Some, sym, ap, ◌∙◌}
use Rattle.subsetter_base.specs.Bytes.{range}
use Rattle.subsetter_base.specs.Read.{Source}
use Rattle.cmap.specs.Groups.{Group, group_of, has, in_range}
use Rattle.cmap.proofs.Steps.{groups_here, groups_on}
use Rattle.cmap.proofs.groups.find_glyph.Goals as goal

pub returns-then-has : goal.returns-then-has
returns-then-has c =
    let s : range c.args.table.now (16 + 12 * c.loop-place.place) 12 ≡ Some c.in_ok-bytes.bytes.now = ap (λ (x : Source). range x.bytes x.offset 12) (sym c.new_at.ensures) ∙ sym c.in_ok-bytes.ensures.value in
    let t : has (group_of c.in_ok-bytes.bytes.now) c.args.character ≡ true = ap (λ (x : Group). has x c.args.character) (sym c.group_of-group.ensures) ∙ (sym c.has.ensures ∙ c.if-has.true) in
    let r = ap (λ (x : Group). in_range (x.glyph + (c.args.character - x.start))) c.group_of-group.ensures in
    c.glyph_of.ensures ∙ (r ∙ (sym (groups_here c.args.table.now c.args.count c.loop-place.place c.args.character s t c.loop-place-test.true) ∙ c.loop-place.invariant))

pub loop-place-preserved : goal.loop-place-preserved
loop-place-preserved c =
    let s : range c.args.table.now (16 + 12 * c.loop-place.place) 12 ≡ Some c.in_ok-bytes.bytes.now = ap (λ (x : Source). range x.bytes x.offset 12) (sym c.new_at.ensures) ∙ sym c.in_ok-bytes.ensures.value in
    let f : has (group_of c.in_ok-bytes.bytes.now) c.args.character ≡ false = ap (λ (x : Group). has x c.args.character) (sym c.group_of-group.ensures) ∙ (sym c.has.ensures ∙ c.if-has.false) in
    sym (groups_on c.args.table.now c.args.count c.loop-place.place c.args.character s f c.loop-place-test.true) ∙ c.loop-place.invariant

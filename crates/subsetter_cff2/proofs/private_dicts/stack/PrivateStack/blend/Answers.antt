use Rattle.std.proofs.Common.{◌∙◌, ◌+◌, ◌-◌, ℕ, List, Option, map, take, ap, sym, arith, Some, true, length-take}
use Rattle.subsetter_cffdata.specs.Views.{number_of}
use Rattle.subsetter_cffdata.specs.declared.numerals.number.Number.{Number as StoredNumber}
use Rattle.subsetter_cff2.specs.PrivateDicts.PrivateAt.{blended_by, last_natural}
use Rattle.subsetter_cff2.specs.Variation.{Variation}
use Rattle.subsetter_cff2.proofs.PrivateDictsLaws.Stacks2.{blend_is, registers_of}
use Rattle.subsetter_cff2.proofs.private_dicts.stack.PrivateStack.blend.Goals as goal

pub returns : goal.returns
returns c =
    let s = c.self.inside in
    let n = c.in_ok-count.field-0 in
    let last = c.in_ok-count.ensures.value ∙ ap (λ (items : List StoredNumber). last_natural (map number_of (take s.len items))) c.deref.ensures.value in
    let found = rw c.from-outer.ensures at c.in_ok-regions.ensures.value in
    let value = rw (c.size_of_blend-size.ensures, c.from-outer.ensures) at c.blend_from.ensures.value in
    ap (λ (o : Option Variation). blended_by o c.args.self.now) c.in-Some.is
    ∙ ap (blended_by (Some c.in-Some.variation)) (sym c.self.view_is)
    ∙ blend_is c.in-Some.variation s.data_index n c.in_ok-regions.regions s.len s.defaults.items s.parts c.blend_from.new.all s.is_settled (omega (arith, c.self.invariant.room)) (omega (arith, c.self.invariant.room_of_parts)) (omega (arith, c.in_ok-count.ensures.some, length-take s.len c.deref.result.now)) last found (omega (arith, c.size_of_blend-size.ensures)) value
    ∙ ap (λ (k : ℕ). Some (registers_of s.defaults.items c.blend_from.new.all (s.len - 1 - k + n) s.data_index true)) (sym c.size_of_blend-size.ensures)

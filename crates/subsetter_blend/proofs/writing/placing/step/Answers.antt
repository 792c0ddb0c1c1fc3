use Rattle.std.proofs.Common.{◌∙◌, sym, rules, FitsSigned, w64}
use Rattle.std.specs.Prelude.{IfSome, Option, Some, None}
use Rattle.subsetter_cffdata.specs.declared.numerals.charstring_number.CharStringNumber.{CharStringNumber}
use Rattle.std.proofs.lemmas.Int.{to_z-of_z}
use Rattle.subsetter_blend.specs.Runs.Number.{IsWithin}
use Rattle.subsetter_blend.proofs.RunsLaws.Blends.{within_from}
use Rattle.subsetter_blend.proofs.WritingLaws.Places.{step_is}
use Rattle.subsetter_blend.proofs.writing.placing.step.Goals as goal

pub returns-clause-value : goal.returns-clause-value
returns-clause-value c =
    let f : FitsSigned w64 c.args.new = c.ranges.new in
    let g : FitsSigned w64 c.args.old = c.ranges.old in
    let h : FitsSigned w64 c.whole-end.result = search rules in
    let k : FitsSigned w64 c.whole.result = search rules in
    let l : FitsSigned w64 c.minus.result = search rules in
    step_is c.args.old c.args.new c.whole-end.result c.whole.result c.minus.result c.short.result
    (sym (simp to_z-of_z at c.is_within.ensures) ∙ c.if-not-is_within.false)
    (simp to_z-of_z at c.whole-end.ensures.value)
    (sym (simp to_z-of_z at c.is_short.ensures) ∙ c.if-not-is_short.false)
    (simp to_z-of_z at c.whole.ensures.value)
    (simp to_z-of_z at c.minus.ensures.value)
    (simp to_z-of_z at c.short.ensures)

any_some : (n : Option CharStringNumber) (P : Type 0) → P → IfSome n (λ _. P)
any_some None P h = tt
any_some (Some x) P h = h

pub returns-clause-within : goal.returns-clause-within
returns-clause-within c =
    let f : FitsSigned w64 c.args.new = c.ranges.new in
    any_some c.short.result (IsWithin c.args.new) (within_from c.args.new (sym (simp to_z-of_z at c.is_within.ensures) ∙ c.if-not-is_within.false))

use Rattle.std.proofs.Common.{◌∙◌, ◌∷◌, [], ℕ, ℤ, List, length, ap, sym, subst}
use Rattle.subsetter_cffdata.specs.declared.dicts.operator.OperatorType.TheVariants.{TwoByteOperator}
use Rattle.subsetter_blend.specs.Writing.Flex.{opened_by}
use Rattle.subsetter_blend.specs.Writing.Split.{split}
use Rattle.subsetter_blend.specs.Writing.Taking.{all_taken, Did}
use Rattle.subsetter_blend.specs.Writing.Written.{Fitted, width, fitted_piece}
use Rattle.subsetter_blend.proofs.writing.fitting.Fitting.flex.Goals as goal

pub returns-in-34 : goal.returns-in-34
returns-in-34 c =
    subst (λ (ops : List ℤ). Did {S = Fitted} (λ f. all_taken fitted_piece (split (length (width f.pen.advance)) (record { operator = record { 0 = TwoByteOperator (12 ∷ 35 ∷ []) }; operands = ops; mask = c.args.mask.now })) f) c.args.self.now c.draw.new.self c.draw.result)
    (c.open_hflex.ensures.value ∙ sym (ap (λ (b : ℕ). opened_by b c.args.operands.now) c.in-34.is)) c.draw.ensures

pub returns-in-36 : goal.returns-in-36
returns-in-36 c =
    subst (λ (ops : List ℤ). Did {S = Fitted} (λ f. all_taken fitted_piece (split (length (width f.pen.advance)) (record { operator = record { 0 = TwoByteOperator (12 ∷ 35 ∷ []) }; operands = ops; mask = c.args.mask.now })) f) c.args.self.now c.draw-in-36.new.self c.draw-in-36.result)
    (c.open_hflex1.ensures.value ∙ sym (ap (λ (b : ℕ). opened_by b c.args.operands.now) c.in-36.is)) c.draw-in-36.ensures

pub returns-in-37 : goal.returns-in-37
returns-in-37 c =
    subst (λ (ops : List ℤ). Did {S = Fitted} (λ f. all_taken fitted_piece (split (length (width f.pen.advance)) (record { operator = record { 0 = TwoByteOperator (12 ∷ 35 ∷ []) }; operands = ops; mask = c.args.mask.now })) f) c.args.self.now c.draw-in-37.new.self c.draw-in-37.result)
    (c.open_flex1.ensures.value ∙ sym (ap (λ (b : ℕ). opened_by b c.args.operands.now) c.in-37.is)) c.draw-in-37.ensures

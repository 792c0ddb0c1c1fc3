-- An event that is written.
use Rattle.std.proofs.Common.{◌≡◌, ℕ, ℤ, List, length, true, Ok, Err, refl, sym, ap, ◌∙◌}
use Rattle.std.specs.Prelude.{Result}
use Rattle.subsetter_base.specs.declared.error.Error.{Error}
use Rattle.subsetter_cffdata.specs.declared.dicts.operator.OperatorType.{OperatorType}
use Rattle.subsetter_cffdata.specs.declared.dicts.operator.OperatorType.TheVariants.{OneByteOperator, TwoByteOperator}
use Rattle.subsetter_blend.specs.Writing.Flex.{opened}
use Rattle.subsetter_blend.specs.Writing.Split.{split}
use Rattle.subsetter_blend.specs.Writing.Taking.{Event, all_taken, Did}
use Rattle.subsetter_blend.specs.Writing.Written.{width, may_begin, Fitted, fitted_piece, fitted}

pub did_same : {S A : Type 0} (f g : S → Result S Error) (old new : S) (r : Result A Error) → f old ≡ g old → Did f old new r → Did g old new r
did_same f g old new (Ok a) e h = sym e ∙ h
did_same f g old new (Err x) e h = λ ne. sym e ∙ h ne

opened_already : (t : OperatorType) (operands : List ℤ) (mask code : List ℕ) → t ≡ OneByteOperator code
    → opened (record { operator = record { 0 = t }; operands = operands; mask = mask }) ≡ record { operator = record { 0 = t }; operands = operands; mask = mask }
unfolding opened
opened_already (OneByteOperator c) operands mask code e = refl
opened_already (TwoByteOperator c) operands mask code e = absurd (cc)

-- an operator of one byte stays as it is
pub plain_event : (e : Event) (code : List ℕ) (f : Fitted) → e.operator.0 ≡ OneByteOperator code → may_begin f.pen.advance e.operator.0 ≡ true
    → all_taken fitted_piece (split (length (width f.pen.advance)) e) f ≡ fitted e f
plain_event e code f one stands =
    sym (rw stands (ap (λ (x : Event). all_taken fitted_piece (split (length (width f.pen.advance)) x) f) (opened_already e.operator.0 e.operands e.mask code one)))

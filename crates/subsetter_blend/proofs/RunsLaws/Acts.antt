-- What a token does, from what the code read.
use Rattle.std.proofs.Common.{◌≡◌, ℕ, ℤ, true, List, length, Option, Some, None, All, option_map, refl, ap, ◌∙◌}
use Rattle.std.specs.Option.{option_and_then}
use Rattle.subsetter_type2.specs.Runs.Machine.{On}
use Rattle.subsetter_blend.specs.Runs.Blend.{blended, scalars_in}
use Rattle.subsetter_blend.specs.Runs.Machine.{Registers, Does, last_operand, but_last, last_natural, stacked, blended_by, blend}
use Rattle.subsetter_blend.specs.Runs.Number.{IsWithin, natural_in}
use Rattle.subsetter_blend.proofs.RunsLaws.Blends.{all_within}

-- a blend that gives these operands
pub blend_done : (scalars : ℕ → Option (List ℤ)) (rest : List ℕ) (r : Registers) (o : Option (List ℤ)) (count n : ℕ) (last : ℤ) (new : List ℤ) → scalars r.data_index ≡ o
    → option_map length o ≡ Some count → last_operand r.operands ≡ Some last → natural_in last ≡ Some n → blended (scalars_in o) n (but_last r.operands) ≡ Some new → All IsWithin new
    → blend scalars rest r ≡ Does None (record r { operands = new; settled = true }) (On rest)
blend_done scalars rest r None count n last new e m l k b w = absurd (cc)
blend_done scalars rest r (Some ss) count n last new e m l k b w =
    let natural : last_natural r ≡ Some n = ap (λ (o : Option ℤ). option_and_then natural_in o) l ∙ k in
    ap (λ (o : Option (List ℤ)). stacked (blended_by o (last_natural r) (but_last r.operands)) rest r) e
    ∙ ap (λ (o : Option ℕ). stacked (blended_by (Some ss) o (but_last r.operands)) rest r) natural
    ∙ ap (λ (o : Option (List ℤ)). stacked o rest r) b
    ∙ rw (all_within new w) refl

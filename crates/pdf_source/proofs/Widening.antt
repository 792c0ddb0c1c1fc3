-- `head` with zeros in checkSumAdjustment has room for it.
use Rattle.std.proofs.Common.{◌≡◌, ℕ, ◌≤◌, Bool, true, false, List, ◌++◌, length, take, drop, Option, Some, None, refl, subst, ◌∙◌, arith}
use Rattle.std.specs.Prelude.{nat_le, if◌then◌else◌}
use Rattle.std.specs.Int.{w32, to_be_bytes}
use Rattle.std.proofs.lemmas.Bool.{leb-true}
use Rattle.std.proofs.lemmas.List.{length-append, length-take, length-drop}
use Rattle.std.proofs.lemmas.Option.{none-some, same_Some}
use Rattle.subsetter_sfnt.specs.Laying.Written.{with_adjustment}
use Rattle.subsetter_sfnt.proofs.Laws.Container.{adjusted_again}
use Rattle.subsetter_sfnt.proofs.Laws.LayingLaws.Rows.{HasRoom}
use Rattle.pdf_source.specs.Widened.{unadjusted}

same_length : (w : ℕ) (head : List ℕ) → 12 ≤ length head → length (with_adjustment w head) ≡ length head
same_length w head large =
    omega (arith, large, length-append (take 8 head ++ to_be_bytes w32 w) (drop 12 head), length-append (take 8 head) (to_be_bytes w32 w), length-take 8 head, length-drop 12 head)

pub unadjusted_is : (there head : List ℕ) → unadjusted there ≡ Some head → (12 ≤ length there) × (with_adjustment 0 there ≡ head)
unadjusted_is there head e = by (nat_le 12 (length there)) refl e
  where
    by : (test : Bool) → nat_le 12 (length there) ≡ test → (if test then Some (with_adjustment 0 there) else None) ≡ Some head → (12 ≤ length there) × (with_adjustment 0 there ≡ head)
    by true is h = (leb-true 12 (length there) is, same_Some _ _ h)
    by false is h = absurd (none-some head h)

pub has_room : (there head : List ℕ) → unadjusted there ≡ Some head → HasRoom (Some head)
has_room there head e =
    let is = unadjusted_is there head e in
    let large : 12 ≤ length (with_adjustment 0 there) = omega (arith, is.0, same_length 0 there is.0) in
    λ bytes h. subst (λ (l : List ℕ). (12 ≤ length l) × (with_adjustment 0 l ≡ l)) (is.1 ∙ same_Some _ _ h) (large, adjusted_again 0 0 there is.0)

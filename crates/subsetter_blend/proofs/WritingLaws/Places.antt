-- Places, one operand after the other.
use Rattle.std.proofs.Common.{◌≡◌, ℕ, ◌+◌, ◌<◌, ◌≤◌, ◌^◌, ℤ, pos, unsigned_abs, List, [], ◌∷◌, ◌++◌, length, get_or, drop, ◌-ℤ◌, All, FitsSigned, to_z, of_z, w64, Option, Some, None, option_map, refl, sym, ap, ◌∙◌, true}
use Rattle.std.specs.Option.{option_and_then}
use Rattle.std.proofs.lemmas.Int.{to_z-of_z}
use Rattle.std.proofs.lemmas.List.{drop_more}
use Rattle.std.proofs.lemmas.List.Elements.{All-from_recursion}
use Rattle.subsetter_cffdata.specs.declared.dicts.operator.Operator.{Operator}
use Rattle.subsetter_blend.specs.Axes.{along}
use Rattle.subsetter_cffdata.specs.declared.numerals.charstring_number.CharStringNumber.{CharStringNumber}
use Rattle.subsetter_blend.specs.declared.axes.Along.{Along}
use Rattle.subsetter_blend.specs.declared.writing.placing.Position.{Position}
use Rattle.subsetter_blend.specs.Runs.Number.{is_within, whole}
use Rattle.subsetter_blend.specs.Writing.Placed.{Placed, is_short, short, step, position_after, number_of, moved, placed}

abbrev pub Small : ℤ → Type 0
Small z = unsigned_abs z ≤ 2 ^ 48

pub seen : (z : ℤ) → FitsSigned w64 z → unsigned_abs z ≤ 2 ^ 48 → Small (to_z w64 (of_z w64 z))
seen z f h = rw (to_z-of_z w64 z f) h

pub all_small : (a b c d e f g h i j k l m : ℤ) → Small a → Small b → Small c → Small d → Small e → Small f → Small g → Small h → Small i → Small j → Small k → Small l → Small m
    → All Small (a ∷ b ∷ c ∷ d ∷ e ∷ f ∷ g ∷ h ∷ i ∷ j ∷ k ∷ l ∷ m ∷ [])
all_small a b c d e f g h i j k l m pa pb pc pd pe pf pg ph pi pj pk pl pm =
    All-from_recursion Small (a ∷ b ∷ c ∷ d ∷ e ∷ f ∷ g ∷ h ∷ i ∷ j ∷ k ∷ l ∷ m ∷ []) (pa, (pb, (pc, (pd, (pe, (pf, (pg, (ph, (pi, (pj, (pk, (pl, (pm, tt)))))))))))))

pub placed_step : (operator : Operator) (n i : ℕ) (operands : List ℤ) (p : Placed) → i < length operands
    → placed operator n i (drop i operands) p ≡ option_and_then (placed operator n (i + 1) (drop (i + 1) operands)) (moved (along operator n i) (get_or operands i (pos 0)) p)
placed_step operator n i operands p h = rw (drop_more operands i (pos 0) h) refl

pub step_is : (old new e o w : ℤ) (n : Option CharStringNumber) → is_within new ≡ true → e ≡ whole new → is_short e ≡ true → o ≡ whole old → w ≡ e -ℤ o → n ≡ short w → n ≡ step old new
unfolding step
step_is old new e o w n within end fits start way number =
    let fits_too : is_short (whole new) ≡ true = sym (ap is_short end) ∙ fits in
    number ∙ ap short (way ∙ ap (λ (z : ℤ). z -ℤ o) end ∙ ap (λ (z : ℤ). whole new -ℤ z) start) ∙ sym (rw (within, fits_too) refl)

-- one move more
pub place_more : (operator : Operator) (n i : ℕ) (operands : List ℤ) (at to : Position) (numbers now : List CharStringNumber) (a : Along) (v : ℤ) (m : CharStringNumber) → i < length operands
    → a ≡ along operator n i → v ≡ get_or operands i (pos 0) → to ≡ position_after a v at → number_of a v at ≡ Some m → now ≡ numbers ++ m ∷ []
    → placed operator n i (drop i operands) (record { at = at; numbers = numbers }) ≡ placed operator n (i + 1) (drop (i + 1) operands) (record { at = to; numbers = now })
unfolding moved
place_more operator n i operands at to numbers now a v m h along_is operand_is to_is some now_is =
    let p : Placed = record { at = at; numbers = numbers } in
    let go : Option Placed → Option Placed = λ (o : Option Placed). option_and_then (placed operator n (i + 1) (drop (i + 1) operands)) o in
    let is : moved (along operator n i) (get_or operands i (pos 0)) p ≡ Some (record { at = to; numbers = now }) =
    ap (λ (x : Along). moved x (get_or operands i (pos 0)) p) (sym along_is)
    ∙ ap (λ (z : ℤ). moved a z p) (sym operand_is)
    ∙ ap (λ (o : Option CharStringNumber). option_map {U = Placed} (λ k. record { at = position_after a v at; numbers = numbers ++ k ∷ [] }) o) some
    ∙ ap (λ (t : Position). Some (record { at = t; numbers = numbers ++ m ∷ [] })) (sym to_is)
    ∙ ap (λ (l : List CharStringNumber). Some (record { at = to; numbers = l })) (sym now_is) in
    placed_step operator n i operands p h ∙ ap go is

-- a move that doesn't fit
pub place_none : (operator : Operator) (n i : ℕ) (operands : List ℤ) (at : Position) (numbers : List CharStringNumber) (a : Along) (v : ℤ) → i < length operands
    → a ≡ along operator n i → v ≡ get_or operands i (pos 0) → number_of a v at ≡ None
    → placed operator n i (drop i operands) (record { at = at; numbers = numbers }) ≡ None
unfolding moved
place_none operator n i operands at numbers a v h along_is operand_is none =
    let p : Placed = record { at = at; numbers = numbers } in
    let is : moved (along operator n i) (get_or operands i (pos 0)) p ≡ None =
    ap (λ (x : Along). moved x (get_or operands i (pos 0)) p) (sym along_is)
    ∙ ap (λ (z : ℤ). moved a z p) (sym operand_is)
    ∙ ap (λ (o : Option CharStringNumber). option_map {U = Placed} (λ k. record { at = position_after a v at; numbers = numbers ++ k ∷ [] }) o) none in
    placed_step operator n i operands p h ∙ ap (λ (o : Option Placed). option_and_then (placed operator n (i + 1) (drop (i + 1) operands)) o) is

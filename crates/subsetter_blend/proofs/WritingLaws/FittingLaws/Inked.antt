-- The operands of a whole event.
use Rattle.std.proofs.Common.{◌≡◌, ℕ, suc, ◌+◌, ℤ, pos, negsuc, ◌+ℤ◌, ◌-ℤ◌, Bool, true, false, FitsSigned, w16, List, [], ◌∷◌, ◌++◌, length, Option, Some, None, option_map, Ok, refl, subst, arith, length-append}
use Rattle.std.specs.Prelude.{if◌then◌else◌}
use Rattle.std.specs.Option.{option_and_then}
use Rattle.std.proofs.lemmas.Int.{ints}
use Rattle.std.proofs.lemmas.Bool.Decides.{nat_tests}
use Rattle.subsetter_cffdata.specs.declared.numerals.charstring_number.CharStringNumber.{CharStringNumber}
use Rattle.subsetter_cffdata.specs.declared.numerals.charstring_number.CharStringNumber.TheVariants.{Integer}
use Rattle.subsetter_cffdata.specs.declared.dicts.operator.Operator.{Operator}
use Rattle.subsetter_cffdata.specs.Numerals.CharStringNumber.{NumberFits}
use Rattle.subsetter_type2.specs.Runs.OutputView.{AllFit}
use Rattle.subsetter_type2.proofs.RunsLaws.OutputLemmas.{fit_more}
use Rattle.subsetter_blend.specs.declared.axes.Along.{Along}
use Rattle.subsetter_blend.specs.declared.axes.Along.TheVariants.{X, Y, Still}
use Rattle.subsetter_blend.specs.declared.writing.placing.Position.{Position}
use Rattle.subsetter_blend.specs.Axes.{along}
use Rattle.subsetter_blend.specs.Hint.{is_hint}
use Rattle.subsetter_blend.specs.Runs.Number.{is_within, whole}
use Rattle.subsetter_blend.specs.Writing.Placed.{is_short, short, step, whole_operand, number_of, position_after, moved, Placed, placed}
use Rattle.subsetter_blend.specs.Writing.Taking.{Event}
use Rattle.subsetter_blend.specs.Writing.Written.{Pen, Inked, width, start_point, end_point, inked, whole_piece}

-- ---- numbers fit
short_range : (v : ℤ) → is_short v ≡ true → FitsSigned w16 v
short_range (pos n) h = record { sfits = grind (arith, ints, nat_tests) }
short_range (negsuc n) h = record { sfits = grind (arith, ints, nat_tests) }

short_of : (b : Bool) (v : ℤ) (m : CharStringNumber) → (b ≡ true → FitsSigned w16 v) → (if b then Some (Integer v) else None) ≡ Some m → NumberFits m
short_of true v m f e = let p : ◌≡◌ {A = CharStringNumber} (Integer v) m = cc in subst NumberFits p (f refl)
short_of false v m f e = absurd (cc)

short_fits : (v : ℤ) (m : CharStringNumber) → short v ≡ Some m → NumberFits m
short_fits v m e = short_of (is_short v) v m (short_range v) e

if_some : (b : Bool) (o : Option CharStringNumber) (m : CharStringNumber) → (if b then o else None) ≡ Some m → o ≡ Some m
if_some true o m e = e
if_some false o m e = absurd (cc)

step_fits : (old new : ℤ) (m : CharStringNumber) → step old new ≡ Some m → NumberFits m
unfolding step
step_fits old new m e = short_fits (whole new -ℤ whole old) m (if_some (is_short (whole new)) _ m (if_some (is_within new) _ m e))

still_fits : (v : ℤ) (m : CharStringNumber) → whole_operand v ≡ Some m → NumberFits m
unfolding whole_operand
still_fits v m e = short_fits (whole v) m (if_some (is_within v) _ m e)

number_fits : (a : Along) (v : ℤ) (at : Position) (m : CharStringNumber) → number_of a v at ≡ Some m → NumberFits m
number_fits X v at m e = step_fits at.x (at.x +ℤ v) m e
number_fits Y v at m e = step_fits at.y (at.y +ℤ v) m e
number_fits Still v at m e = still_fits v m e

-- ---- the operands of a whole event fit, and are as many as there are exact ones
record AreMore (numbers now : List CharStringNumber) (n : ℕ) : Type 0 where
  many : length now ≡ length numbers + n
  fit : AllFit numbers → AllFit now

one_of : (a : Along) (v : ℤ) (p q : Placed) (o : Option CharStringNumber) → number_of a v p.at ≡ o → option_map {U = Placed} (λ n. record { at = position_after a v p.at; numbers = p.numbers ++ n ∷ [] }) o ≡ Some q → AreMore p.numbers q.numbers 1
one_of a v p q None e h = absurd (cc)
one_of a v p q (Some m) e h =
    let same : ◌≡◌ {A = Placed} (record { at = position_after a v p.at; numbers = p.numbers ++ m ∷ [] }) q = cc in
    subst (λ (x : Placed). AreMore p.numbers x.numbers 1) same (record {
      many = length-append p.numbers (m ∷ []);
      fit = λ f. fit_more p.numbers m f (number_fits a v p.at m e);
    })

moved_more : (a : Along) (v : ℤ) (p q : Placed) → moved a v p ≡ Some q → AreMore p.numbers q.numbers 1
unfolding moved
moved_more a v p q h = one_of a v p q (number_of a v p.at) refl h

then_more : (operator : Operator) (n i : ℕ) (vs : List ℤ) (p q : Placed) (o : Option Placed) → ((r : Placed) → o ≡ Some r → AreMore p.numbers r.numbers 1)
    → ((r : Placed) → placed operator n (i + 1) vs r ≡ Some q → AreMore r.numbers q.numbers (length vs))
    → option_and_then (placed operator n (i + 1) vs) o ≡ Some q → AreMore p.numbers q.numbers (suc (length vs))
then_more operator n i vs p q None one ih h = absurd (cc)
then_more operator n i vs p q (Some r) one ih h =
    let a = one r refl in
    let b = ih r h in
    record { many = omega (arith, a.many, b.many); fit = λ f. b.fit (a.fit f) }

placed_more : (operator : Operator) (n i : ℕ) (vs : List ℤ) (p q : Placed) → placed operator n i vs p ≡ Some q → AreMore p.numbers q.numbers (length vs)
placed_more operator n i [] p q h =
    let same : ◌≡◌ {A = Placed} p q = cc in
    subst (λ (x : Placed). AreMore p.numbers x.numbers 0) same (record { many = omega arith; fit = λ f. f })
placed_more operator n i (v ∷ vs) p q h =
    then_more operator n i vs p q (moved (along operator n i) v p) (λ r e. moved_more (along operator n i) v p r e) (λ r e. placed_more operator n (i + 1) vs r q e) h

-- ---- a whole piece
pub record IsInk (x : Event) (pen : Pen) (i : Inked) : Type 0 where
  pub operator : i.event.operator ≡ x.operator
  pub mask : i.event.mask ≡ x.mask
  pub many : length i.event.operands ≡ length (width pen.advance) + length x.operands
  pub fit : AllFit (width pen.advance) → AllFit i.event.operands
  pub advance : i.pen.advance ≡ None

ink_of : (x : Event) (pen : Pen) (i : Inked) (o : Option Placed) → placed x.operator (length x.operands) 0 x.operands (record { at = start_point (is_hint x.operator.0) pen.at; numbers = width pen.advance }) ≡ o
    → inked x pen o ≡ Ok i → IsInk x pen i
ink_of x pen i None p h = absurd (cc)
ink_of x pen i (Some q) p h =
    let more = placed_more x.operator (length x.operands) 0 x.operands _ q p in
    let made : Inked = record { event = record { operator = x.operator; operands = q.numbers; mask = x.mask }; pen = record { at = end_point (is_hint x.operator.0) pen.at q.at; advance = None } } in
    let same : ◌≡◌ {A = Inked} made i = cc in
    subst (λ (y : Inked). IsInk x pen y) same (record {
      operator = refl;
      mask = refl;
      many = more.many;
      fit = more.fit;
      advance = refl;
    })

pub ink_piece : (x : Event) (pen : Pen) (i : Inked) → whole_piece x pen ≡ Ok i → IsInk x pen i
ink_piece x pen i h = ink_of x pen i (placed x.operator (length x.operands) 0 x.operands (record { at = start_point (is_hint x.operator.0) pen.at; numbers = width pen.advance })) refl h

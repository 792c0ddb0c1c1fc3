-- Whole operands after others, and after bytes.
use Rattle.std.proofs.Common.{◌≡◌, ℕ, Bool, zero, suc, ◌+◌, ◌<◌, ◌≤◌, ℤ, pos, List, [], ◌∷◌, ◌++◌, length, get_or, drop, Option, Some, None, Ok, Err, option_map, refl, sym, ap, ◌∙◌, append_assoc, append-nil, arith, ◌≢◌, ◌⊎◌, inl, inr}
use Rattle.std.specs.Prelude.{Result}
use Rattle.std.specs.Option.{option_and_then}
use Rattle.std.proofs.lemmas.Grind.{flat_map-append}
use Rattle.subsetter_base.specs.declared.error.Error.{Error}
use Rattle.subsetter_base.specs.declared.error.Error.TheVariants.{OverflowError, OutOfMemory}
use Rattle.subsetter_cffdata.specs.declared.dicts.operator.Operator.{Operator}
use Rattle.subsetter_cffdata.specs.declared.numerals.charstring_number.CharStringNumber.{CharStringNumber}
use Rattle.subsetter_cffdata.specs.Numerals.CharStringNumber.{written}
use Rattle.subsetter_cffdata.specs.Views.{operator_of}
use Rattle.subsetter_type2.specs.Flat.{flat_operands}
use Rattle.subsetter_blend.specs.declared.axes.Along.{Along}
use Rattle.subsetter_blend.specs.declared.writing.placing.Position.{Position}
use Rattle.subsetter_blend.specs.Axes.{along}
use Rattle.subsetter_blend.specs.Hint.{is_hint}
use Rattle.subsetter_blend.specs.Writing.Laid.{Laid, laid}
use Rattle.subsetter_blend.specs.Writing.Placed.{Placed, position_after, number_of, moved, placed}
use Rattle.subsetter_blend.specs.Writing.Taking.{Event}
use Rattle.subsetter_blend.specs.Writing.Written.{width, start_point, end_point, Fitted, with_ink, inked, fitted_piece}
use Rattle.subsetter_blend.proofs.WritingLaws.Places.{placed_step, place_none}

abbrev pub following : List CharStringNumber → Placed → Placed
following front p = record { at = p.at; numbers = front ++ p.numbers }

put_after : (at : Position) (front numbers : List CharStringNumber) (o : Option CharStringNumber)
    → option_map {U = Placed} (λ n. record { at = at; numbers = (front ++ numbers) ++ n ∷ [] }) o ≡ option_map (following front) (option_map {U = Placed} (λ n. record { at = at; numbers = numbers ++ n ∷ [] }) o)
put_after at front numbers None = refl
put_after at front numbers (Some n) = ap (λ (l : List CharStringNumber). Some (record { at = at; numbers = l })) (append_assoc front numbers (n ∷ []))

moved_after : (a : Along) (v : ℤ) (front : List CharStringNumber) (p : Placed) → moved a v (following front p) ≡ option_map (following front) (moved a v p)
unfolding moved
moved_after a v front p = put_after (position_after a v p.at) front p.numbers (number_of a v p.at)

and_after : (operator : Operator) (n i : ℕ) (vs : List ℤ) (front : List CharStringNumber) → ((q : Placed) → placed operator n i vs (following front q) ≡ option_map (following front) (placed operator n i vs q)) → (o : Option Placed)
    → option_and_then (placed operator n i vs) (option_map (following front) o) ≡ option_map (following front) (option_and_then (placed operator n i vs) o)
and_after operator n i vs front ih None = refl
and_after operator n i vs front ih (Some q) = ih q

pub placed_after : (operator : Operator) (n i : ℕ) (vs : List ℤ) (front : List CharStringNumber) (p : Placed) → placed operator n i vs (following front p) ≡ option_map (following front) (placed operator n i vs p)
placed_after operator n i [] front p = refl
placed_after operator n i (v ∷ vs) front p =
    ap (λ (o : Option Placed). option_and_then (placed operator n (i + 1) vs) o) (moved_after (along operator n i) v front p)
    ∙ and_after operator n (i + 1) vs front (λ q. placed_after operator n (i + 1) vs front q) (moved (along operator n i) v p)

pub laid_after : (bytes : List ℕ) (front : List CharStringNumber) (o : Option Placed) → laid bytes (option_map (following front) o) ≡ laid (bytes ++ flat_operands front) o
laid_after bytes front None = refl
laid_after bytes front (Some p) =
    ap (λ (b : List ℕ). Some (record { at = p.at; bytes = b }))
    (ap (λ (b : List ℕ). bytes ++ b) (flat_map-append written front p.numbers) ∙ sym (append_assoc bytes (flat_operands front) (flat_operands p.numbers)))

abbrev pub fresh : Position → Placed
fresh at = record { at = at; numbers = [] }

-- one move more is written
pub laid_more : (operator : Operator) (n i : ℕ) (operands : List ℤ) (at to : Position) (bytes now : List ℕ) (a : Along) (v : ℤ) (m : CharStringNumber) → i < length operands
    → a ≡ along operator n i → v ≡ get_or operands i (pos 0) → to ≡ position_after a v at → number_of a v at ≡ Some m → now ≡ bytes ++ written m
    → laid now (placed operator n (i + 1) (drop (i + 1) operands) (fresh to)) ≡ laid bytes (placed operator n i (drop i operands) (fresh at))
unfolding moved
laid_more operator n i operands at to bytes now a v m h along_is operand_is to_is some now_is =
    let rest = drop (i + 1) operands in
    let is : moved (along operator n i) (get_or operands i (pos 0)) (fresh at) ≡ Some (following (m ∷ []) (fresh to)) =
    ap (λ (x : Along). moved x (get_or operands i (pos 0)) (fresh at)) (sym along_is)
    ∙ ap (λ (z : ℤ). moved a z (fresh at)) (sym operand_is)
    ∙ ap (λ (o : Option CharStringNumber). option_map {U = Placed} (λ k. record { at = position_after a v at; numbers = k ∷ [] }) o) some
    ∙ ap (λ (t : Position). Some (record { at = t; numbers = m ∷ [] })) (sym to_is) in
    let one : flat_operands (m ∷ []) ≡ written m = append-nil (written m) in
    ap (λ (b : List ℕ). laid b (placed operator n (i + 1) rest (fresh to))) (now_is ∙ ap (λ (b : List ℕ). bytes ++ b) (sym one))
    ∙ sym (laid_after bytes (m ∷ []) (placed operator n (i + 1) rest (fresh to)))
    ∙ ap (laid bytes) (sym (placed_after operator n (i + 1) rest (m ∷ []) (fresh to)))
    ∙ ap (λ (o : Option Placed). laid bytes (option_and_then (placed operator n (i + 1) rest) o)) (sym is)
    ∙ ap (laid bytes) (sym (placed_step operator n i operands (fresh at) h))

-- ---- a piece, from its width, its operands, its operator and its mask as they are written
joined : (bytes front numbers operator mask : List ℕ) → ((bytes ++ front) ++ numbers) ++ (operator ++ mask) ≡ bytes ++ ((front ++ numbers) ++ (operator ++ mask))
joined bytes front numbers operator mask =
    ap (λ (b : List ℕ). b ++ (operator ++ mask)) (append_assoc bytes front numbers) ∙ append_assoc bytes (front ++ numbers) (operator ++ mask)

abbrev as_fitted : List ℕ → Position → Result Fitted Error
as_fitted bytes at = Ok (record { bytes = bytes; pen = record { at = at; advance = None } })

inked_so : (e : Event) (f : Fitted) (front : List CharStringNumber) (end : Position) (bytes : List ℕ) (o : Option Placed) → laid (f.bytes ++ flat_operands front) o ≡ Some (record { at = end; bytes = bytes })
    → with_ink f.bytes (inked e f.pen (option_map (following front) o)) ≡ Ok (record { bytes = bytes ++ (operator_of e.operator ++ e.mask); pen = record { at = end_point (is_hint e.operator.0) f.pen.at end; advance = None } })
inked_so e f front end bytes None h = absurd (cc)
inked_so e f front end bytes (Some p) h =
    let both : ◌≡◌ {A = Laid} (record { at = p.at; bytes = (f.bytes ++ flat_operands front) ++ flat_operands p.numbers }) (record { at = end; bytes = bytes }) = cc in
    let text : f.bytes ++ (flat_operands (front ++ p.numbers) ++ (operator_of e.operator ++ e.mask)) ≡ ((f.bytes ++ flat_operands front) ++ flat_operands p.numbers) ++ (operator_of e.operator ++ e.mask) =
    ap (λ (b : List ℕ). f.bytes ++ (b ++ (operator_of e.operator ++ e.mask))) (flat_map-append written front p.numbers)
    ∙ sym (joined f.bytes (flat_operands front) (flat_operands p.numbers) (operator_of e.operator) e.mask) in
    ap (λ (b : List ℕ). as_fitted b (end_point (is_hint e.operator.0) f.pen.at p.at)) text
    ∙ ap (λ (l : Laid). as_fitted (l.bytes ++ (operator_of e.operator ++ e.mask)) (end_point (is_hint e.operator.0) f.pen.at l.at)) both

module _ (e : Event) (f : Fitted) where
  abbrev start : Position
  start = start_point (is_hint e.operator.0) f.pen.at

  abbrev pub from_nothing : Option Placed
  from_nothing = placed e.operator (length e.operands) 0 e.operands (fresh start)

  front_is : (front : List CharStringNumber) → following front (fresh start) ≡ record { at = start; numbers = front }
  front_is front = ap (λ (l : List CharStringNumber). record { at = start; numbers = l }) (append-nil front)

  piece_is : fitted_piece e f ≡ with_ink f.bytes (inked e f.pen (option_map (following (width f.pen.advance)) from_nothing))
  piece_is =
      ap (λ (p : Placed). with_ink f.bytes (inked e f.pen (placed e.operator (length e.operands) 0 e.operands p))) (sym (front_is (width f.pen.advance)))
      ∙ ap (λ (o : Option Placed). with_ink f.bytes (inked e f.pen o)) (placed_after e.operator (length e.operands) 0 e.operands (width f.pen.advance) (fresh start))

  pub piece_laid : (end : Position) (bytes : List ℕ) → laid (f.bytes ++ flat_operands (width f.pen.advance)) from_nothing ≡ Some (record { at = end; bytes = bytes })
      → fitted_piece e f ≡ Ok (record { bytes = bytes ++ (operator_of e.operator ++ e.mask); pen = record { at = end_point (is_hint e.operator.0) f.pen.at end; advance = None } })
  piece_laid end bytes h = piece_is ∙ inked_so e f (width f.pen.advance) end bytes from_nothing h

  pub piece_none : from_nothing ≡ None → fitted_piece e f ≡ Err OverflowError
  piece_none h = piece_is ∙ ap (λ (o : Option Placed). with_ink f.bytes (inked e f.pen (option_map (following (width f.pen.advance)) o))) h

  pub piece_so : (hint : Bool) (s end after : Position) (front bytes now : List ℕ) → hint ≡ is_hint e.operator.0 → s ≡ start_point hint f.pen.at → front ≡ f.bytes ++ flat_operands (width f.pen.advance)
      → laid front (placed e.operator (length e.operands) 0 e.operands (fresh s)) ≡ Some (record { at = end; bytes = bytes }) → now ≡ bytes ++ (operator_of e.operator ++ e.mask) → after ≡ end_point hint f.pen.at end
      → fitted_piece e f ≡ Ok (record { bytes = now; pen = record { at = after; advance = None } })
  piece_so hint s end after front bytes now hint_is s_is front_bytes laid_is now_is after_is =
      let place : s ≡ start = s_is ∙ ap (λ (h : Bool). start_point h f.pen.at) hint_is in
      let here : laid (f.bytes ++ flat_operands (width f.pen.advance)) from_nothing ≡ Some (record { at = end; bytes = bytes }) =
      ap (λ (b : List ℕ). laid b from_nothing) (sym front_bytes)
      ∙ ap (λ (p : Position). laid front (placed e.operator (length e.operands) 0 e.operands (fresh p))) (sym place)
      ∙ laid_is in
      piece_laid end bytes here
      ∙ ap (λ (b : List ℕ). as_fitted b (end_point (is_hint e.operator.0) f.pen.at end)) (sym now_is)
      ∙ ap (λ (p : Position). as_fitted now p) (ap (λ (h : Bool). end_point h f.pen.at end) (sym hint_is) ∙ sym after_is)

  pub piece_not : (hint : Bool) (s : Position) → hint ≡ is_hint e.operator.0 → s ≡ start_point hint f.pen.at → placed e.operator (length e.operands) 0 e.operands (fresh s) ≡ None → fitted_piece e f ≡ Err OverflowError
  piece_not hint s hint_is s_is none =
      let place : s ≡ start = s_is ∙ ap (λ (h : Bool). start_point h f.pen.at) hint_is in
      piece_none (ap (λ (p : Position). placed e.operator (length e.operands) 0 e.operands (fresh p)) (sym place) ∙ none)

  pub piece_err : (hint : Bool) (s : Position) (x : Error) → hint ≡ is_hint e.operator.0 → s ≡ start_point hint f.pen.at
      → (x ≡ OutOfMemory) ⊎ ((x ≡ OverflowError) × (placed e.operator (length e.operands) 0 e.operands (fresh s) ≡ None)) → x ≢ OutOfMemory → fitted_piece e f ≡ Err x
  piece_err hint s x hint_is s_is (inl memory) ne = absurd (ne memory)
  piece_err hint s x hint_is s_is (inr (is, none)) ne = piece_not hint s hint_is s_is none ∙ ap (λ (y : Error). Err y) (sym is)

-- ---- all moves are written
nothing_left : (vs : List ℤ) (i : ℕ) → length vs ≤ i → drop i vs ≡ []
nothing_left [] zero h = refl
nothing_left [] (suc i) h = refl
nothing_left (v ∷ vs) zero h = absurd (omega arith)
nothing_left (v ∷ vs) (suc i) h = nothing_left vs i (omega arith)

pub laid_end : (operator : Operator) (n i : ℕ) (operands : List ℤ) (at : Position) (bytes : List ℕ) → length operands ≤ i → laid bytes (placed operator n i (drop i operands) (fresh at)) ≡ Some (record { at = at; bytes = bytes })
laid_end operator n i operands at bytes h =
    ap (λ (vs : List ℤ). laid bytes (placed operator n i vs (fresh at))) (nothing_left operands i h) ∙ ap (λ (b : List ℕ). Some (record { at = at; bytes = b })) (append-nil bytes)

none_laid : (bytes : List ℕ) (o : Option Placed) → laid bytes o ≡ None → o ≡ None
none_laid bytes None h = refl
none_laid bytes (Some p) h = absurd (cc)

pub laid_none : (operator : Operator) (n i : ℕ) (operands : List ℤ) (at : Position) (bytes before : List ℕ) (a : Along) (v : ℤ) (o : Option Placed) → i < length operands
    → a ≡ along operator n i → v ≡ get_or operands i (pos 0) → number_of a v at ≡ None → laid bytes (placed operator n i (drop i operands) (fresh at)) ≡ laid before o → o ≡ None
laid_none operator n i operands at bytes before a v o h along_is operand_is none same =
    none_laid before o (sym same ∙ ap (laid bytes) (place_none operator n i operands at [] a v h along_is operand_is none))

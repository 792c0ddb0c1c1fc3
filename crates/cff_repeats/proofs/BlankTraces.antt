-- What a blank draws, and the advance that it says.
use Rattle.std.proofs.Common.{◌≡◌, ℕ, suc, ◌<◌, ◌≤◌, Bool, true, false, List, [], ◌∷◌, ◌++◌, length, Option, Some, None, option_map, ℤ, pos, negsuc, ◌+ℤ◌, ◌-ℤ◌, w16, FitsSigned, refl, ap, ◌∙◌, subst, arith}
use Rattle.std.specs.Prelude.{if◌then◌else◌, ◌&&◌, int_le}
use Rattle.std.proofs.lemmas.Int.{ints}
use Rattle.std.proofs.lemmas.Bool.{le-leb, lt-ltb}
use Rattle.std.proofs.lemmas.Bool.Decides.{nat_tests, Decides-int_eq}
use Rattle.std.proofs.lemmas.Option.{none-some, same_Some}
use Rattle.subsetter_cffdata.specs.declared.numerals.charstring_number.CharStringNumber.{CharStringNumber}
use Rattle.subsetter_cffdata.specs.declared.numerals.charstring_number.CharStringNumber.TheVariants.{Integer}
use Rattle.subsetter_cffdata.specs.Numerals.CharStringNumber.{number_at, whole_of, written, NumberFits}
use Rattle.subsetter_cffdata.proofs.NumeralsLaws.CharStringNumbers.{read_back}
use Rattle.subsetter_type2.specs.Token.{Token, token_of, one_byte, effect_of}
use Rattle.subsetter_type2.specs.Runs.Machine.{Library, Registers, State, Event, Act, Does, Goes, On, Over, Finishes, unended, follow, act_at, move, run, outcome, trace, trace_of}
use Rattle.subsetter_type2.proofs.RunsLaws.Runs.{run_more, run_over}
use Rattle.subsetter_type2.proofs.Replay.{one, token_back, act_push}
use Rattle.subsetter_type2.proofs.TraceLimits.{outcome_longer}
use Rattle.pdf_widths.specs.Change.{advance_of, difference, is_advance, text, wanted}
use Rattle.pdf_widths.specs.Opening.{first_operator, opening_of, parity}
use Rattle.pdf_widths.specs.declared.defaults.Defaults.{Defaults}
use Rattle.cff_repeats.specs.Laws.{blank_trace}
use Rattle.cff_repeats.specs.Repeats.{endchar}

-- ---- the width
abbrev pub FitsWidth : Option CharStringNumber → Type 0
FitsWidth None = Unit {0}
FitsWidth (Some number) = NumberFits number

pub record SaysZero (d : Defaults) (width : Option CharStringNumber) : Type 0 where
  pub says : advance_of d width ≡ Some (pos 0)
  pub fits : FitsWidth width

short_range : (v : ℤ) → int_le (negsuc 32767) v && int_le v (pos 32767) ≡ true → FitsSigned w16 v
short_range (pos n) h = record { sfits = grind (arith, ints, nat_tests) }
short_range (negsuc n) h = record { sfits = grind (arith, ints, nat_tests) }

zero_is : (said : Option ℤ) → is_advance said 0 ≡ true → said ≡ Some (pos 0)
zero_is None h = absurd (cc)
zero_is (Some z) h = ap Some ((Decides-int_eq z (pos 0)).0 h)

nominal_says : (default : Option ℤ) (n : ℤ) (width : Option CharStringNumber) (test : Bool) → int_le (negsuc 32767) (pos 0 -ℤ n) && int_le (pos 0 -ℤ n) (pos 32767) ≡ test
    → option_map Some (if test then Some (Integer (pos 0 -ℤ n)) else None) ≡ Some width → SaysZero (record { default = default; nominal = Some n }) width
unfolding whole_of
nominal_says default n width false is e = absurd (none-some width e)
nominal_says default n width true is e =
    let sum : n +ℤ (pos 0 -ℤ n) ≡ pos 0 = omega (arith, ints) in
    subst (SaysZero (record { default = default; nominal = Some n })) (same_Some _ _ e) (record { says = ap Some sum; fits = short_range (pos 0 -ℤ n) is })

difference_says : (default nominal : Option ℤ) (width : Option CharStringNumber) → option_map Some (difference nominal 0) ≡ Some width → SaysZero (record { default = default; nominal = nominal }) width
difference_says default None width e = absurd (none-some width e)
difference_says default (Some n) width e = nominal_says default n width _ refl e

wanted_by : (d : Defaults) (width : Option CharStringNumber) (test : Bool) → is_advance d.default 0 ≡ test → (if test then Some None else option_map Some (difference d.nominal 0)) ≡ Some width → SaysZero d width
wanted_by d width true is e = subst (SaysZero d) (same_Some _ _ e) (record { says = zero_is d.default is; fits = tt })
wanted_by d width false is e = difference_says d.default d.nominal width e

pub wanted_says : (d : Defaults) (width : Option CharStringNumber) → wanted d 0 ≡ Some width → SaysZero d width
wanted_says d width e = wanted_by d width (is_advance d.default 0) refl e

-- ---- the charstring
abbrev pub blank_text : Option CharStringNumber → List ℕ
blank_text width = text (record { width = width; body = endchar ∷ [] })

abbrev registers : List CharStringNumber → Registers
registers operands = record { operands = operands; stems = 0; mask_len = 0 }

abbrev event : List CharStringNumber → Event
event operands = record { operator = one_byte endchar; operands = operands; mask = [] }

abbrev over : State
over = record { rests = []; registers = registers [] }

module _ (library : Library) (depth : ℕ) where
  endchar_acts : (operands : List CharStringNumber) → length operands < 4 → act_at library (endchar ∷ []) (registers operands) ≡ Does (Some (event operands)) (registers []) Over
  unfolding act_at token_of effect_of
  endchar_acts operands few = rw (lt-ltb (length operands) 4 few) refl

  over_moves : (operands : List CharStringNumber) → move depth [] (Does (Some (event operands)) (registers []) Over) ≡ Goes (Some (event operands)) over
  over_moves operands = rw (le-leb 0 depth (omega arith)) refl

  endchar_run : (m : ℕ) (operands : List CharStringNumber) → length operands < 4
      → run library depth (suc m) [] (one (endchar ∷ []) (registers operands)) ≡ Finishes (record { events = event operands ∷ []; left = [] })
  endchar_run m operands few =
      run_more library depth m [] (one (endchar ∷ []) (registers operands)) (endchar ∷ []) [] refl
      ∙ ap (λ (a : Act). follow (move depth [] a) [] (run library depth m)) (endchar_acts operands few)
      ∙ ap (λ st. follow st [] (run library depth m)) (over_moves operands)
      ∙ run_over library depth m (event operands ∷ []) over refl

  not_empty : (bytes : List ℕ) (t : Token × List ℕ) → token_of bytes ≡ Some t → unended (bytes ∷ []) ≡ bytes ∷ []
  unfolding token_of
  not_empty [] t e = absurd (none-some t e)
  not_empty (b ∷ bytes) t e = refl

  blank_run : (width : Option CharStringNumber) → 1 ≤ depth → FitsWidth width → outcome library 2 depth (blank_text width) ≡ Finishes (blank_trace width)
  unfolding outcome
  blank_run None deep fits = endchar_run 1 [] (omega arith)
  blank_run (Some x) deep fits =
      let bytes = written x ++ endchar ∷ [] in
      let back = token_back x (endchar ∷ []) fits in
      let moved : move depth [] (Does None (registers (x ∷ [])) (On (endchar ∷ []))) ≡ Goes None (one (endchar ∷ []) (registers (x ∷ []))) = rw (le-leb 1 depth deep) refl in
      run_more library depth 1 [] (one bytes (registers [])) bytes [] (not_empty bytes _ back)
      ∙ ap (λ (a : Act). follow (move depth [] a) [] (run library depth 1)) (act_push library bytes (endchar ∷ []) x (registers []) back (omega arith))
      ∙ ap (λ st. follow st [] (run library depth 1)) moved
      ∙ endchar_run 0 (x ∷ []) (omega arith)

  pub blank_traces : (width : Option CharStringNumber) (tokens : ℕ) → 2 ≤ tokens → 1 ≤ depth → FitsWidth width → trace library tokens depth (blank_text width) ≡ Some (blank_trace width)
  blank_traces width tokens enough deep fits =
      ap trace_of (outcome_longer library 2 tokens depth depth (blank_text width) (blank_trace width) enough (omega arith) (blank_run width deep fits))

-- ---- how it begins
no_number : number_at (endchar ∷ []) ≡ None
unfolding number_at
no_number = refl

pub blank_opens : (width : Option CharStringNumber) → FitsWidth width → opening_of (blank_text width) ≡ Some (record { width = width; operands = 0; body = endchar ∷ [] })
unfolding opening_of first_operator parity
blank_opens None fits = rw no_number refl
blank_opens (Some x) fits = rw (read_back x (endchar ∷ []) fits, no_number) refl

-- The charstring that is written: whole events, the first with the advance in front as its width, and endchar
-- (Technical Note 5177, section 4.1 and 3.1).
use Rattle.std.specs.Prelude.{ℕ, ℤ, ◌==◌, ◌||◌, Bool, true, false, if◌then◌else◌, List, [], ◌∷◌, ◌++◌, length, Option}
use Rattle.std.specs.Prelude.{Some, None, Result, Ok, Err}
use Rattle.subsetter_base.specs.declared.error.Error.{Error}
use Rattle.subsetter_base.specs.declared.error.Error.TheVariants.{CFFError, OverflowError}
use Rattle.subsetter_cffdata.specs.declared.dicts.operator.OperatorType.{OperatorType}
use Rattle.subsetter_cffdata.specs.declared.dicts.operator.OperatorType.TheVariants.{OneByteOperator}
use Rattle.subsetter_cffdata.specs.declared.numerals.charstring_number.CharStringNumber.{CharStringNumber}
use Rattle.subsetter_cffdata.specs.declared.numerals.charstring_number.CharStringNumber.TheVariants.{Integer}
use Rattle.subsetter_type2.specs.Runs.Machine as type2
use Rattle.subsetter_type2.specs.Flat.{flat_event, flat_operands}
use Rattle.subsetter_blend.specs.Writing.Flex.{opened}
use Rattle.subsetter_blend.specs.declared.writing.placing.Position.{Position}
use Rattle.subsetter_blend.specs.Writing.Placed.{Placed, placed, origin}
use Rattle.subsetter_blend.specs.Hint.{is_hint}
use Rattle.subsetter_blend.specs.Writing.Split.{split}
use Rattle.subsetter_blend.specs.Writing.Taking.{Event, all_taken}

-- where the path has come, and the advance as long as it isn't written
pub record Pen : Type 0 where
  pub at : Position
  pub advance : Option ℤ

abbrev pub width : Option ℤ → List CharStringNumber
width None = []
width (Some advance) = Integer advance ∷ []

-- a glyph begins with a hint or a move
abbrev pub begins : OperatorType → Bool
begins (OneByteOperator (b ∷ [])) =
    b == 1 || b == 3 || b == 18 || b == 19 || b == 20 || b == 23 || b == 4 || b == 21 || b == 22
begins _ = false

abbrev pub may_begin : Option ℤ → OperatorType → Bool
may_begin None operator = true
may_begin (Some advance) operator = begins operator

-- a whole event, and the pen after it
pub record Inked : Type 0 where
  pub event : type2.Event
  pub pen : Pen

abbrev pub start_point : Bool → Position → Position
start_point hint at = if hint then origin else at

abbrev pub end_point : Bool → Position → Position → Position
end_point hint old new = if hint then old else new

abbrev pub inked : Event → Pen → Option Placed → Result Inked Error
inked e pen None = Err OverflowError
inked e pen (Some p) = Ok (record {
  event = record { operator = e.operator; operands = p.numbers; mask = e.mask };
  pen = record { at = end_point (is_hint e.operator.0) pen.at p.at; advance = None };
})

-- an event that is open, and has few operands
abbrev pub whole_piece : Event → Pen → Result Inked Error
whole_piece e pen =
    inked e pen (placed e.operator (length e.operands) 0 e.operands
    (record { at = start_point (is_hint e.operator.0) pen.at; numbers = width pen.advance }))

-- something takes an event's pieces, one after the other, where it may be
abbrev pub in_pieces : {S : Type 0} → (Event → S → Result S Error) → Pen → Event → S → Result S Error
in_pieces take pen e s =
    if may_begin pen.advance e.operator.0 then all_taken take (split (length (width pen.advance)) (opened e)) s
    else Err CFFError

-- ---- what is written so far, as bytes
pub record Fitted : Type 0 where
  pub bytes : List ℕ
  pub pen : Pen

abbrev pub with_ink : List ℕ → Result Inked Error → Result Fitted Error
with_ink bytes (Err e) = Err e
with_ink bytes (Ok i) = Ok (record { bytes = bytes ++ flat_event i.event; pen = i.pen })

abbrev pub fitted_piece : Event → Fitted → Result Fitted Error
fitted_piece e f = with_ink f.bytes (whole_piece e f.pen)

abbrev pub fitted : Event → Fitted → Result Fitted Error
fitted e f = in_pieces fitted_piece f.pen e f

abbrev pub fitted_start : ℤ → Fitted
fitted_start advance = record { bytes = []; pen = record { at = origin; advance = Some advance } }

-- endchar, with the advance in front where no event has it
abbrev pub finished : Fitted → List ℕ
finished f = f.bytes ++ (flat_operands (width f.pen.advance) ++ 14 ∷ [])

-- ---- the same as events
pub record Whole : Type 0 where
  pub events : List type2.Event
  pub pen : Pen

abbrev pub also_ink : List type2.Event → Result Inked Error → Result Whole Error
also_ink events (Err e) = Err e
also_ink events (Ok i) = Ok (record { events = events ++ i.event ∷ []; pen = i.pen })

abbrev pub whole_also_piece : Event → Whole → Result Whole Error
whole_also_piece e w = also_ink w.events (whole_piece e w.pen)

abbrev pub whole_also : Event → Whole → Result Whole Error
whole_also e w = in_pieces whole_also_piece w.pen e w

abbrev pub whole_start : ℤ → Whole
whole_start advance = record { events = []; pen = record { at = origin; advance = Some advance } }

abbrev pub endchar : Option ℤ → type2.Event
endchar advance = record { operator = record { 0 = OneByteOperator (14 ∷ []) }; operands = width advance; mask = [] }

abbrev pub written_events : Whole → List type2.Event
written_events w = w.events ++ endchar w.pen.advance ∷ []

-- Laws of a table with other widths: each glyph draws as before, and its width is its advance.
use Rattle.std.specs.Prelude.{◌≡◌, ℕ, suc, ◌%◌, ◌<◌, ◌≤◌, List, [], ◌∷◌, ◌++◌, length, slice_index, Option, Some, None}
use Rattle.std.specs.Prelude.{Ok, pos}
use Rattle.std.specs.Option.{option_map_or}
use Rattle.subsetter_cffdata.specs.declared.numerals.charstring_number.CharStringNumber.{CharStringNumber}
use Rattle.subsetter_type2.specs.Runs.Machine.{Event, Library, Trace, trace}
use Rattle.subsetter_type2.specs.Token.{one_byte}
use Rattle.subsetter_cff.specs.Read.Cff.{Cff, char_string, cff_parts}
use Rattle.subsetter_cff.specs.Read.FdArray.Private.{Private, private_of}
use Rattle.subsetter_cff.specs.Write.Plain.{cff_subset}
use Rattle.pdf_widths.specs.Change.{Change, advance_of, change_of, text}
use Rattle.pdf_widths.specs.Defaults.{defaults_of}
use Rattle.pdf_widths.specs.Opening.{parity}
use Rattle.pdf_widths.specs.Tables.{with_widths}
use Rattle.pdf_widths.specs.declared.defaults.Defaults.{Defaults}

-- ---- traces
abbrev pub number_list : Option CharStringNumber → List CharStringNumber
number_list None = []
number_list (Some number) = number ∷ []

-- two traces that have the same events, but for a width before the first one's operands
pub record DifferInWidth (old new : Option CharStringNumber) (u v : Trace) : Type 0 where
  pub first : ℕ
  pub operands : List CharStringNumber
  pub mask : List ℕ
  pub events : List Event
  pub left : List CharStringNumber
  -- the first operator is one that takes a width, and it has as many operands beside it as it takes, modulo 2
  pub takes : parity first ≡ Some (length operands % 2)
  pub one : u
      ≡ record {
        events = record { operator = one_byte first; operands = number_list old ++ operands; mask = mask } ∷ events;
        left = left;
      }
  pub other : v
      ≡ record {
        events = record { operator = one_byte first; operands = number_list new ++ operands; mask = mask } ∷ events;
        left = left;
      }

-- a charstring becomes one with the same trace but for the width, in one token more, and the width says the advance
pub record ChangesWidth (library : Library) (tokens depth : ℕ) (d : Defaults) (advance : ℕ) (c : Change) (u : Trace)
    : Type 0 where
  pub new : Trace
  pub new_is : trace library (suc tokens) depth (text c) ≡ Some new
  pub old_width : Option CharStringNumber
  pub differ : DifferInWidth old_width c.width u new
  pub says : advance_of d c.width ≡ Some (pos advance)

abbrev pub TracesChangeWidths : Type 0
TracesChangeWidths =
    (library : Library) (tokens depth : ℕ) (d : Defaults) (advance : ℕ) (charstring : List ℕ) (c : Change) (u : Trace)
    → 1 ≤ depth → change_of d advance charstring ≡ Some c → trace library tokens depth charstring ≡ Some u
    → ChangesWidth library tokens depth d advance c u

-- ---- tables
abbrev pub changed : Defaults → ℕ → List ℕ → List ℕ
changed d advance charstring = option_map_or text (change_of d advance charstring) charstring

-- a glyph has the same private dict, and its charstring, which may become another one
pub record HasWidth (advance : ℕ) (one other : Cff) (glyph : ℕ) : Type 0 where
  pub private : Private
  pub private_is : private_of one glyph ≡ Some private
  pub same_private : private_of other glyph ≡ Some private
  pub charstring : List ℕ
  pub charstring_is : char_string one glyph ≡ Some charstring
  pub new_is : char_string other glyph ≡ Some (changed (defaults_of private.entries) advance charstring)

-- both tables can be read, and say the same but for widths
pub record HaveWidths (advances old new : List ℕ) : Type 0 where
  pub one : Cff
  pub one_is : cff_parts old ≡ Some one
  -- names, top dict and strings
  pub other_is : cff_parts new ≡ Some (record one { bytes = new })
  pub glyphs : (i : ℕ) → i < length advances → HasWidth (slice_index advances i) one (record one { bytes = new }) i

-- of the table of a subset
abbrev pub TablesChangeWidths : Type 0
TablesChangeWidths =
    (source : List ℕ) (tokens depth : ℕ) (glyphs advances old new : List ℕ) → 1 ≤ length glyphs → length glyphs ≤ 65535
    → cff_subset source tokens depth glyphs ≡ Ok old → with_widths old advances ≡ Some new → HaveWidths advances old new

-- A CFF table that can be taken as a source, or the error. A demanded operator has just its operands (Technical Note
-- 5176, section 9 "Top DICT Data" and section 18 "CID-keyed Fonts").
use Rattle.std.specs.Prelude.{ℕ, ◌==◌, ◌&&◌, nat_lt, if◌then◌else◌, Bool, true, List, [], ◌∷◌, length, is_some, Some}
use Rattle.std.specs.Prelude.{Result, Ok, Err}
use Rattle.std.specs.Option.{ok_or}
use Rattle.std.specs.Str.{bytes_eq}
use Rattle.subsetter_base.specs.Bytes.{◌>>=◌, first_number}
use Rattle.subsetter_base.specs.declared.error.Error.{Error}
use Rattle.subsetter_base.specs.declared.error.Error.TheVariants.{MalformedFont, CFFError}
use Rattle.subsetter_cffdata.specs.Dicts.Dict.{Entry}
use Rattle.subsetter_cff.specs.Read.Entries.Operators.{private_operator}
use Rattle.subsetter_cff.specs.Read.Cff.{Cff, cff_parts, char_strings, is_cid_keyed}
use Rattle.subsetter_cff.specs.Read.FdArray.FontDicts.{font_dicts, font_dict_select}
use Rattle.subsetter_cff.specs.Read.FdArray.Private.{private_by}
use Rattle.subsetter_cff.specs.Read.Entries.OperandDemands.{Demand, top_demands, font_dict_demands}

-- an entry meets each demand on its operator
abbrev pub meets : List Demand → Entry → Bool
meets [] e = true
meets (d ∷ ds) e = (if bytes_eq e.operator d.operator then d.holds e.operands else true) && meets ds e

-- each entry of a dict does
abbrev pub all_meet : List Demand → List Entry → Bool
all_meet ds [] = true
all_meet ds (e ∷ es) = meets ds e && all_meet ds es

-- each Private entry of a font dict, also one that a later one follows, leads to a private dict
abbrev pub leads : List ℕ → Entry → Bool
leads bytes e = if bytes_eq e.operator private_operator then is_some (private_by bytes (Some e.operands)) else true

abbrev pub all_lead : List ℕ → List Entry → Bool
all_lead bytes [] = true
all_lead bytes (e ∷ es) = leads bytes e && all_lead bytes es

-- each font dict is as it has to be, whether a glyph has it or not
abbrev pub sound_font_dicts : List ℕ → List (List Entry) → Bool
sound_font_dicts bytes [] = true
sound_font_dicts bytes (d ∷ ds) = all_meet font_dict_demands d && (all_lead bytes d && sound_font_dicts bytes ds)

-- goes on where a test is passed
abbrev pub check : {A : Type 0} → Bool → Error → Result A Error → Result A Error
check b e r = if b then r else Err e

-- of a CID-keyed font: FDArray and FDSelect are there, and the font dicts are sound
unfoldable pub opened_cid : Cff → Result Cff Error
opened_cid cff = do
  dicts ← ok_or (font_dicts cff) MalformedFont
  select ← ok_or (font_dict_select cff) MalformedFont
  check (sound_font_dicts cff.bytes dicts) MalformedFont (Ok cff)

-- of any font: all parts are there, the demands are met, and there is a glyph
unfoldable pub opened_parts : List ℕ → Result Cff Error
opened_parts bytes = do
  cff ← ok_or (cff_parts bytes) MalformedFont
  charstrings ← ok_or (char_strings cff) MalformedFont
  check (all_meet top_demands cff.top && nat_lt 0 (length charstrings))
      MalformedFont (if is_cid_keyed cff then opened_cid cff else Ok cff)

-- a first byte that isn't 1 is another version; none at all is a bad font
unfoldable pub opened : List ℕ → Result Cff Error
opened bytes =
    ok_or (first_number bytes) MalformedFont >>= λ version. check (version == 1) CFFError (opened_parts bytes)

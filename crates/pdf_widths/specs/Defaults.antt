-- defaultWidthX and nominalWidthX (Technical Note 5176, section 15 "Private DICT Data").
use Rattle.std.specs.Prelude.{ℕ, List, [], ◌∷◌, map, Option, Some, None, ℤ, pos}
use Rattle.subsetter_cffdata.specs.Dicts.Dict.{Entry}
use Rattle.subsetter_cffdata.specs.Numerals.Numbers.{Number, as_i32}
use Rattle.subsetter_cff.specs.declared.read.fd_array.font_dict.FontDict.{FontDict}
use Rattle.subsetter_cff.specs.declared.read.source.CIDMetadata.{CIDMetadata}
use Rattle.subsetter_cff.specs.declared.read.source.Table.{Table}
use Rattle.subsetter_cff.specs.Read.Entries.Lookup.{last_of}
use Rattle.subsetter_cff.specs.Read.FdArray.PrivateView.{private_view}
use Rattle.pdf_widths.specs.declared.defaults.Defaults.{Defaults}

abbrev pub default_width_operator : List ℕ
default_width_operator = 20 ∷ []

abbrev pub nominal_width_operator : List ℕ
nominal_width_operator = 21 ∷ []

-- just one operand, as a whole number
abbrev pub whole_of_one : List Number → Option ℤ
whole_of_one (x ∷ []) = as_i32 x
whole_of_one _ = None

-- 0 where there is no entry
abbrev pub whole_or_zero : Option (List Number) → Option ℤ
whole_or_zero None = Some (pos 0)
whole_or_zero (Some operands) = whole_of_one operands

-- of the entries of a private dict the last of each operator counts
unfoldable pub defaults_of : List Entry → Defaults
defaults_of es =
    record {
      default = whole_or_zero (last_of default_width_operator es);
      nominal = whole_or_zero (last_of nominal_width_operator es);
    }

-- by the numbers of font dicts
abbrev pub defaults_by : Table → Option CIDMetadata → List Defaults
defaults_by table None = defaults_of (private_view table.private).entries ∷ []
defaults_by table (Some keyed) =
    map (λ (f : FontDict). defaults_of (private_view f.private).entries) keyed.font_dicts.items

abbrev pub all_defaults : Table → List Defaults
all_defaults table = defaults_by table table.cid

-- What a PDF takes of a `CFF ` table (Technical Note 5176): its first name, and its first vertical stem.
use Rattle.std.specs.Prelude.{ℕ, if◌then◌else◌, List, [], ◌∷◌, map, Option, None}
use Rattle.std.specs.Option.{option_and_then, option_map, option_or, unwrap_or}
use Rattle.std.specs.Result.{result_ok}
use Rattle.subsetter_cffdata.specs.Indexes.Index.{index_at}
use Rattle.subsetter_type2.specs.Subroutines.{entry_at}
use Rattle.subsetter_cff.specs.Read.Cff.{Cff, is_cid_keyed}
use Rattle.subsetter_cff.specs.Read.FdArray.FontDicts.{font_dicts}
use Rattle.subsetter_cff.specs.Read.Opened.{opened}
use Rattle.subsetter_cff.specs.Read.FdArray.Private.{Private, no_private, private_at}
use Rattle.pdf_cff.specs.Stems.{stem_in}

-- the first entry of the Name INDEX (section 7)
abbrev pub first_name : Cff → Option (List ℕ)
first_name cff = option_and_then (λ names. entry_at names.0 0) (index_at cff.names)

-- that of the first private dict that says one
abbrev pub first_stem : ℕ → List Private → Option ℕ
first_stem units [] = None
first_stem units (p ∷ ps) = option_or (stem_in units p.entries) (first_stem units ps)

-- the private dict that a dict names; an empty one where it can't be read
abbrev pub private_of : Option Private → Private
private_of found = unwrap_or found no_private

-- those of the font dicts, in their order (section 18), else that of the top dict
abbrev pub privates : Cff → List Private
privates cff =
    if is_cid_keyed cff then map (λ d. private_of (private_at cff.bytes d)) (unwrap_or (font_dicts cff) [])
    else private_of (private_at cff.bytes cff.top) ∷ []

-- the name and the stem width of a font
pub record CffValues : Type 0 where
  pub name : Option (List ℕ)
  pub stem : Option ℕ

abbrev pub cff_values_of : ℕ → Cff → CffValues
cff_values_of units cff = record { name = first_name cff; stem = first_stem units (privates cff) }

-- of a table that can't be opened nothing
abbrev pub cff_values_in : ℕ → List ℕ → CffValues
cff_values_in units bytes =
    unwrap_or (option_map (cff_values_of units) (result_ok (opened bytes))) (record { name = None; stem = None })

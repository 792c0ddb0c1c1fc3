-- What StdVW entries say, and font dicts with the private dicts of their last Private entries.
use Rattle.std.specs.Prelude.{ℕ, List, [], ◌∷◌, Option, Some, None, if◌then◌else◌}
use Rattle.std.specs.Option.{option_and_then, option_map}
use Rattle.std.specs.Str.{bytes_eq}
use Rattle.subsetter_cffdata.specs.Dicts.Dict.{entries}
use Rattle.subsetter_cffdata.specs.Numerals.Numbers.{Number}
use Rattle.subsetter_cff.specs.declared.read.fd_array.font_dict.FontDict.{FontDict}
use Rattle.subsetter_cff.specs.Read.Entries.FirstEntries.{Saying}
use Rattle.subsetter_cff.specs.Read.FdArray.FontDictFaults.{IsFontDictIn}
use Rattle.subsetter_cff.specs.Read.FdArray.FontDictList.{AreFontDicts}
use Rattle.pdf_cff.specs.Stems.{stem_by, stem_operator}

-- the stem of just one operand
abbrev pub stem_one : ℕ → Option Number → Option ℕ
stem_one units None = None
stem_one units (Some x) = stem_by units (x ∷ [])

abbrev pub stem_saying : ℕ → Saying
stem_saying units operator operand =
    if bytes_eq operator stem_operator then option_map Some (stem_one units operand) else None

abbrev pub joined : Option (Option ℕ) → Option ℕ
joined said = option_and_then (λ stem. stem) said

-- it is what some bytes say
abbrev pub IsDictIn : List ℕ → FontDict → Type 0
IsDictIn table f = (dict : List ℕ) × IsFontDictIn table (entries dict) f

abbrev pub AreDictsIn : List ℕ → List FontDict → Type 0
AreDictsIn table fs = (dicts : List (List ℕ)) × AreFontDicts table dicts fs

-- The font dicts of an FDArray (Technical Note 5176, section 18 "CID-keyed Fonts").
use Rattle.std.specs.Prelude.{ℕ, ◌⊎◌, List, [], ◌∷◌}
use Rattle.subsetter_cffdata.specs.Dicts.Dict.{entries}
use Rattle.subsetter_cff.specs.declared.read.fd_array.font_dict.FontDict.{FontDict}
use Rattle.subsetter_cff.specs.Read.FdArray.FontDictFaults.{IsFontDictIn, HasFontDictFault}

-- each is what its bytes say
abbrev pub AreFontDicts : List ℕ → List (List ℕ) → List FontDict → Type 0
AreFontDicts table [] [] = Unit {0}
AreFontDicts table (d ∷ ds) (f ∷ fs) = IsFontDictIn table (entries d) f × AreFontDicts table ds fs
AreFontDicts table [] (f ∷ fs) = ⊥
AreFontDicts table (d ∷ ds) [] = ⊥

-- one of them has a fault
abbrev pub HasFaultAmong : List ℕ → List (List ℕ) → Type 0
HasFaultAmong table [] = ⊥
HasFaultAmong table (d ∷ ds) = HasFontDictFault table (entries d) ⊎ HasFaultAmong table ds

-- Text as UTF-16 (Unicode, 3.9, "Unicode Encoding Forms").
use Rattle.std.specs.Prelude.{ℕ, List, [], ◌∷◌, ◌++◌}
use Rattle.subsetter_base.specs.Texts.{utf16}

abbrev pub units_of : List ℕ → List ℕ
units_of [] = []
units_of (c ∷ cs) = utf16 c ++ units_of cs

-- The texts of what is known of a refusal.
use Rattle.std.specs.Prelude.{ℕ, List, ◌++◌, codes, decimal}
use Rattle.font_reasons.specs.Texts.{reason_text}
use Rattle.subset_font.specs.declared.refusals.hint.text.Hint.{Hint}
use Rattle.subset_font.specs.declared.refusals.hint.text.Hint.TheVariants.{Font, Cff2, WrongAxes, NoAxes}
use Rattle.subset_font.specs.declared.refusals.hint.text.Hint.TheVariants.{MoreBytes, LittleLimits, GivenLimits}
use Rattle.subset_font.specs.declared.refusals.hint.text.Hint.TheVariants.{Forbidden}

-- limits that are too little
abbrev pub limits_text : ℕ → ℕ → List ℕ
limits_text tokens depth =
    codes "a glyph needs more than the " ++ (decimal tokens ++ (codes "," ++ (decimal depth ++ codes " of --limits")))

abbrev pub hint_text : Hint → List ℕ
hint_text (Font reason) = reason_text reason
hint_text Cff2 = codes "CFF2: choose coordinates by --at; \"\" is the default"
hint_text WrongAxes = codes "fvar: the table can't be read"
hint_text NoAxes = codes "no axes in the font"
hint_text (MoreBytes most) = codes "the new font has more than the " ++ (decimal most ++ codes " bytes of --limits")
hint_text (LittleLimits tokens depth) = limits_text tokens depth
hint_text GivenLimits = codes "twice the given --limits is too little, too, or the font is wrong"
hint_text (Forbidden reason) = reason_text reason ++ codes ": if you hold the rights, --rights held"

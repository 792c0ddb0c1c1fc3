-- Laws of the codes.
use Rattle.std.specs.Prelude.{◌≡◌, ◌<◌, ℕ, List, [], ◌++◌, get_or, length, take}
use Rattle.pdf_codes.specs.Cmaps.Texts.{said_by}
use Rattle.pdf_codes.specs.Codes.{Used, AreCodes, coded}
use Rattle.pdf_codes.specs.declared.codes.Codes.{Codes}

-- where more glyphs come into use, the codes of the earlier entries stay
abbrev pub CodesStay : Type 0
CodesStay =
    (choice : Codes) (us more : List Used) (codes longer : List ℕ) → AreCodes choice us codes
    → AreCodes choice (us ++ more) longer
    → take (length codes) longer ≡ codes

-- the glyphs in use and the choice determine the codes
abbrev pub CodesAreDetermined : Type 0
CodesAreDetermined =
    (choice : Codes) (us : List Used) (a b : List ℕ) → AreCodes choice us a → AreCodes choice us b → a ≡ b

-- each code of an entry has a text in ToUnicode, but for code 0, which has none
pub record HaveTexts (us : List Used) (codes : List ℕ) : Type 0 where
  pub each : (i : ℕ) → i < length codes → 0 < get_or codes i 0 → 0 < length (said_by (coded us codes) (get_or codes i 0))
  pub zeroth : said_by (coded us codes) 0 ≡ []

abbrev pub CodesHaveTexts : Type 0
CodesHaveTexts = (choice : Codes) (us : List Used) (codes : List ℕ) → AreCodes choice us codes → HaveTexts us codes

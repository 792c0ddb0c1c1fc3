-- What readers of ToUnicode find of the codes of a text (ISO 32000-1, 9.10.3).
use Rattle.std.specs.Prelude.{◌≡◌, ℕ, ◌==◌, Bool, false, if◌then◌else◌, List, [], ◌∷◌, map, drop, All, Option, Some}
use Rattle.std.specs.Prelude.{None}
use Rattle.std.specs.Option.{option_and_then}
use Rattle.pdf_text.specs.Cmaps.Cmap.{Line, cmap_text, mapping_in}
use Rattle.pdf_codes.specs.Units.{is_left_out}
use Rattle.pdf_runs.specs.declared.codes.Pair.{Pair}
use Rattle.pdf_runs.specs.Codes.{is_zeroth, zeroth}
use Rattle.pdf_operators.specs.Content.{Mark}
use Rattle.pdf_operators.specs.Reading.{extracted, text_in}
use Rattle.pdf_text_font.specs.Texts.{lines_of}

-- ---- read

-- the text of a code: that of the first line which has the code
abbrev pub text_by : List Line → ℕ → Option (List ℕ)
text_by [] k = None
text_by (l ∷ ls) k = if l.code == k then Some l.units else text_by ls k

-- what a ToUnicode CMap says of a code
abbrev pub says_in : List ℕ → ℕ → Option (List ℕ)
says_in cmap k = option_and_then (λ ls. text_by ls k) (mapping_in cmap)

-- ---- of a text

-- a character that a code may say
abbrev pub may_say : Option ℕ → Option ℕ
may_say None = None
may_say (Some c) = if is_left_out c then None else Some c

-- a pair that says nothing in place of U+0000, U+FEFF and U+FFFE
abbrev pub sayable : Pair → Pair
sayable p = record { figure = p.figure; says = may_say p.says }

-- no pair says one of these three
abbrev pub AreSayable : List Pair → Type 0
AreSayable ps = All (λ (p : Pair). may_say p.says ≡ p.says) ps

-- pairs as runs have them: the first is that of glyph 0, which says nothing, and no other is one of glyph 0
pub record HaveZeroth (ps : List Pair) : Type 0 where
  pub first : ps ≡ zeroth ∷ drop 1 ps
  pub others : All (λ (p : Pair). is_zeroth p.figure ≡ false) (drop 1 ps)

-- a reader by the ToUnicode CMap of pairs finds what one finds by the pairs
pub record AreSaid (ps : List Pair) : Type 0 where
  -- of each code, where these three characters are nothing: of them, as of nothing, U+2060
  pub each : (k : ℕ) → says_in (cmap_text (lines_of ps)) k ≡ text_in (map sayable ps) k
  -- of all that operators show, where no pair says one of the three
  pub all : AreSayable ps → (within : Bool) (ms : List Mark)
      → extracted (says_in (cmap_text (lines_of ps))) within ms ≡ extracted (text_in ps) within ms

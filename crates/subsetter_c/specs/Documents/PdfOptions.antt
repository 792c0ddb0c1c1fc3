-- What the words of `struct subsetter_pdf_options` choose (bindings/c/subsetter.h): those of `subsetter_options`, and
-- after them the choices of a font for a PDF.
use Rattle.std.specs.Prelude.{◌≡◌, ◌≤◌, ◌<◌, ◌*◌, ◌++◌, ◌⊎◌, ℕ, List, length, drop, Option, Some, None, ◌==◌}
use Rattle.std.specs.Prelude.{if◌then◌else◌}
use Rattle.std.specs.Int.{w32, to_be_bytes}
use Rattle.pdf_text.specs.SubsetName.{IsTag}
use Rattle.pdf_codes.specs.declared.codes.Codes.{Codes}
use Rattle.pdf_codes.specs.declared.codes.Codes.TheVariants.{Consecutive, Source, EachText}
use Rattle.pdf_values.specs.declared.looks.bounds.Bounds.{Bounds}
use Rattle.pdf_values.specs.declared.looks.bounds.Bounds.TheVariants.{Font, Kept}
use Rattle.pdf_values.specs.declared.permission.Rights.{Rights}
use Rattle.pdf_values.specs.declared.permission.Rights.TheVariants.{AsSaid, Held}
use Rattle.pdf_source.specs.declared.choice.Direction.{Direction}
use Rattle.pdf_source.specs.declared.choice.Direction.TheVariants.{Horizontal, Vertical}
use Rattle.pdf_source.specs.declared.choice.FontOptions.{FontOptions}
use Rattle.pdf_source.specs.declared.choice.ProgramChoice.{ProgramChoice}
use Rattle.pdf_source.specs.declared.choice.ProgramChoice.TheVariants.{Smallest, OpenType}
use Rattle.pdf_source.specs.declared.tag.SubsetTag.{SubsetTag}
use Rattle.subsetter.specs.declared.choice.Options.{Options}
use Rattle.subsetter_c.specs.Options.{requested_bytes, requested_depth, keeps, requested_tokens, word}

-- ---- the tag

-- three letters of a word, the first in the higher bits
abbrev pub letters : ℕ → List ℕ
letters n = drop 1 (to_be_bytes w32 n)

abbrev pub tag_letters : ℕ → ℕ → List ℕ
tag_letters front back = letters front ++ letters back

-- two words with three capitals each
pub record AreLetters (front back : ℕ) : Type 0 where
  pub front_fits : front < 16777216
  pub back_fits : back < 16777216
  pub is : IsTag (tag_letters front back)

-- two words of 0 choose no tag
abbrev pub HasNoTag : ℕ → ℕ → Type 0
HasNoTag front back = (front ≡ 0) × (back ≡ 0)

abbrev pub IsTagKnown : ℕ → ℕ → Type 0
IsTagKnown front back = HasNoTag front back ⊎ AreLetters front back

-- a tag of these letters
pub record IsTagOf (front back : ℕ) (t : SubsetTag) : Type 0 where
  pub known : AreLetters front back
  pub letters_are : t.letters ≡ tag_letters front back

abbrev pub IsTagChosen : ℕ → ℕ → Option SubsetTag → Type 0
IsTagChosen front back None = HasNoTag front back
IsTagChosen front back (Some t) = IsTagOf front back t

-- ---- the other choices

abbrev pub program_chosen : ℕ → ProgramChoice
program_chosen n = if n == 0 then Smallest else OpenType

abbrev pub codes_chosen : ℕ → Codes
codes_chosen n = if n == 0 then Consecutive else if n == 1 then Source else EachText

abbrev pub direction_chosen : ℕ → Direction
direction_chosen n = if n == 0 then Horizontal else Vertical

abbrev pub bounds_chosen : ℕ → Bounds
bounds_chosen n = if n == 0 then Font else Kept

abbrev pub rights_chosen : ℕ → Rights
rights_chosen n = if n == 0 then AsSaid else Held

-- the library knows the words after those of `subsetter_options`
pub record AreFurtherKnown (words : List ℕ) : Type 0 where
  pub program : word words 5 < 2
  pub codes : word words 6 < 3
  pub direction : word words 7 < 2
  pub bounds : word words 8 < 2
  pub cid_set : word words 9 < 2
  pub rights : word words 10 < 2
  pub tag : IsTagKnown (word words 11) (word words 12)
  pub own_glyphs : word words 13 < 2

-- the library knows all
pub record AreFontWordsKnown (words : List ℕ) : Type 0 where
  -- the first is their size in bytes
  pub size : word words 0 ≡ 4 * length words
  -- there are fourteen at most
  pub count : length words ≤ 14
  pub depth : word words 2 ≤ 255
  -- the fourth has no other bits than 1, 2 and 4
  pub bits : word words 3 < 8
  pub further : AreFurtherKnown words

-- options have what these words choose beside other options
pub record IsFurtherChosen (own : Options) (words : List ℕ) (options : FontOptions) : Type 0 where
  pub limits : options.limits ≡ own.limits
  pub hinting : options.hinting ≡ own.extras.hinting
  pub program : options.program ≡ program_chosen (word words 5)
  pub codes : options.codes ≡ codes_chosen (word words 6)
  pub direction : options.direction ≡ direction_chosen (word words 7)
  pub bounds : options.bounds ≡ bounds_chosen (word words 8)
  pub cid_set : options.cid_set ≡ (word words 9 == 1)
  pub rights : options.rights ≡ rights_chosen (word words 10)
  pub tag : IsTagChosen (word words 11) (word words 12) options.tag

-- options have what the words choose
pub record AreFontOptionsChosen (words : List ℕ) (options : FontOptions) : Type 0 where
  pub tokens : options.limits.tokens ≡ requested_tokens words
  pub depth : options.limits.depth ≡ requested_depth words
  pub bytes : options.limits.bytes ≡ requested_bytes words
  pub hinting : options.hinting ≡ keeps words 1
  pub program : options.program ≡ program_chosen (word words 5)
  pub codes : options.codes ≡ codes_chosen (word words 6)
  pub direction : options.direction ≡ direction_chosen (word words 7)
  pub bounds : options.bounds ≡ bounds_chosen (word words 8)
  pub cid_set : options.cid_set ≡ (word words 9 == 1)
  pub rights : options.rights ≡ rights_chosen (word words 10)
  pub tag : IsTagChosen (word words 11) (word words 12) options.tag

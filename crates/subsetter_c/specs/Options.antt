-- What the words of `struct subsetter_options` ask for (bindings/c/subsetter.h): their size in bytes, the limits of a
-- charstring, what is left out, and the most bytes of the font.
use Rattle.std.specs.Prelude.{◌≡◌, ℕ, ◌*◌, ◌<◌, ◌≤◌, List, length, slice_index_or, Bool, Option, Some, None, ◌==◌}
use Rattle.std.specs.Prelude.{if◌then◌else◌}
use Rattle.std.specs.Int.Bits.{bit_and}
use Rattle.subsetter.specs.Limits.{token_limit, depth_limit}
use Rattle.subsetter_sfnt.specs.declared.extras.Extras.{Extras}
use Rattle.subsetter.specs.declared.choice.Options.{Options}

-- a word by its place; one past the end is 0
abbrev pub word : List ℕ → ℕ → ℕ
word words at = slice_index_or words at 0

-- the library knows them; where there are none they are
pub record AreKnown (words : List ℕ) : Type 0 where
  -- the first is their size in bytes
  pub size : word words 0 ≡ 4 * length words
  -- there are five at most
  pub count : length words ≤ 5
  -- the third is a depth of at most 255
  pub depth : word words 2 ≤ 255
  -- the fourth has no other bits than 1, 2 and 4
  pub bits : word words 3 < 8

-- 0 means the default
abbrev pub or_default : ℕ → ℕ → ℕ
or_default n usual = if n == 0 then usual else n

abbrev pub requested_tokens : List ℕ → ℕ
requested_tokens words = or_default (word words 1) token_limit

abbrev pub requested_depth : List ℕ → ℕ
requested_depth words = or_default (word words 2) depth_limit

-- 0 means no bound
abbrev pub requested_bytes : List ℕ → Option ℕ
requested_bytes words = if word words 4 == 0 then None else Some (word words 4)

-- a bit that isn't set drops nothing
abbrev pub keeps : List ℕ → ℕ → Bool
keeps words bit = bit_and (word words 3) bit == 0

abbrev pub requested_extras : List ℕ → Extras
requested_extras words = record { hinting = keeps words 1; names = keeps words 2; glyph_names = keeps words 4 }

-- options say what the words ask for
pub record AreRequested (words : List ℕ) (options : Options) : Type 0 where
  pub tokens : options.limits.tokens ≡ requested_tokens words
  pub depth : options.limits.depth ≡ requested_depth words
  pub bytes : options.limits.bytes ≡ requested_bytes words
  pub extras : options.extras ≡ requested_extras words

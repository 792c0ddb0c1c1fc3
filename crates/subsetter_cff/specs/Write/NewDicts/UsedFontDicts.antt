-- The font dicts that glyphs use: their new numbers follow the old ones.
use Rattle.std.specs.Prelude.{ℕ, nat_lt, List, length, Result, Ok}
use Rattle.std.specs.List.{filter, range_with_len}
use Rattle.subsetter_base.specs.Indexes.{is_listed}
use Rattle.subsetter_base.specs.declared.error.Error.{Error}
use Rattle.subsetter_base.specs.declared.error.Error.TheVariants.{OverflowError}
use Rattle.subsetter_cff.specs.Read.Opened.{check}

-- the used ones, ascending
unfoldable pub used_font_dicts : List ℕ → List ℕ
used_font_dicts numbers = filter (is_listed numbers) (range_with_len 0 256)

-- the font dicts that are used, at most 255
unfoldable pub counted_font_dicts : List ℕ → Result (List ℕ) Error
counted_font_dicts numbers =
    check (nat_lt (length (used_font_dicts numbers)) 256) OverflowError (Ok (used_font_dicts numbers))

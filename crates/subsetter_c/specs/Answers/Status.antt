-- What the calls return to C: a number.
use Rattle.std.specs.Prelude.{ℕ, List, codes, ◌==◌, if◌then◌else◌}
use Rattle.subsetter_base.specs.Texts.{error_text}
use Rattle.subsetter_base.specs.declared.error.Error.{Error}
use Rattle.subsetter_base.specs.declared.error.Error.TheVariants.{UnknownKind, MalformedFont, Unimplemented}
use Rattle.subsetter_base.specs.declared.error.Error.TheVariants.{SubsetError, OverflowError, CFFError, OutOfMemory}

-- the errors are numbered from 1 on, in the order of their names in `Error`; 0 is none
abbrev pub status_of : Error → ℕ
status_of UnknownKind = 1
status_of MalformedFont = 2
status_of Unimplemented = 3
status_of SubsetError = 4
status_of OverflowError = 5
status_of CFFError = 6
status_of OutOfMemory = 7

-- a request for memory was refused
abbrev pub out_of_memory : ℕ
out_of_memory = 7

-- a buffer is too small
abbrev pub too_small : ℕ
too_small = 8

-- the limit of the depth is 0
abbrev pub no_depth : ℕ
no_depth = 9

-- the options have a size, a depth or a bit that isn't known
abbrev pub unknown_option : ℕ
unknown_option = 10

-- the font's maker doesn't permit that it is embedded
abbrev pub not_permitted : ℕ
not_permitted = 11

-- a text isn't one, or is too long
abbrev pub invalid_text : ℕ
invalid_text = 12

-- the font has no table by which characters have glyphs
abbrev pub no_cmap : ℕ
no_cmap = 13

-- the face has no outlines
abbrev pub bitmaps_alone : ℕ
bitmaps_alone = 14

-- there would be more than 65,535 codes
abbrev pub overfull : ℕ
overfull = 15

-- the numbers of objects aren't distinct, one is 0, or there are too few or too many
abbrev pub invalid_numbers : ℕ
invalid_numbers = 16

-- the text of a status
unfoldable pub status_text : ℕ → List ℕ
status_text status =
    if status == 0 then codes "all done"
    else if status == 1 then error_text UnknownKind
    else if status == 2 then error_text MalformedFont
    else if status == 3 then error_text Unimplemented
    else if status == 4 then error_text SubsetError
    else if status == 5 then error_text OverflowError
    else if status == 6 then error_text CFFError
    else if status == 7 then error_text OutOfMemory
    else if status == too_small then codes "a buffer is too small"
    else if status == no_depth then codes "the limit of the depth is 0"
    else if status == unknown_option then codes "wrong option, size or text"
    else if status == not_permitted then codes "embedding not permitted"
    else if status == invalid_text then codes "invalid text"
    else if status == no_cmap then codes "no usable cmap in font"
    else if status == bitmaps_alone then codes "no outlines in font"
    else if status == overfull then codes "too many codes"
    else if status == invalid_numbers then codes "invalid numbers"
    else codes "unknown status"

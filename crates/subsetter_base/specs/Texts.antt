-- The texts that errors and tags print, and what several crates say of texts.
use Rattle.std.specs.Prelude.{ℕ, ◌+◌, ◌-◌, ◌/◌, ◌%◌, ◌&&◌, ◌||◌, nat_le, nat_lt, Bool, List, [], ◌∷◌, map}
use Rattle.std.specs.Prelude.{if◌then◌else◌, codes}
use Rattle.std.specs.Borrow.{Bor}
use Rattle.std.specs.Str.{is_utf8}
use Rattle.subsetter_base.specs.declared.error.Error.{Error}
use Rattle.subsetter_base.specs.declared.error.Error.TheVariants.{UnknownKind, MalformedFont, Unimplemented}
use Rattle.subsetter_base.specs.declared.error.Error.TheVariants.{SubsetError, OverflowError, CFFError, OutOfMemory}

abbrev pub error_text : Error → List ℕ
error_text UnknownKind = codes "unknown font kind"
error_text MalformedFont = codes "malformed font"
error_text Unimplemented = codes "unsupported feature in font"
error_text SubsetError = codes "subsetting of font failed"
error_text OverflowError = codes "overflow occurred"
error_text CFFError = codes "processing CFF table failed"
error_text OutOfMemory = codes "out of memory"

-- the bytes of a tag, where they are a text
abbrev pub tag_text : List ℕ → List ℕ
tag_text bytes = if is_utf8 bytes then bytes else codes "..."

-- a text, or another where it is empty
abbrev pub or_else : List ℕ → List ℕ → List ℕ
or_else [] other = other
or_else (c ∷ text) other = c ∷ text

-- a Unicode scalar value: no surrogate, and at most U+10FFFF (Unicode, 3.9, D76)
abbrev pub is_scalar : ℕ → Bool
is_scalar n = nat_lt n 0xD800 || (nat_le 0xE000 n && nat_lt n 0x110000)

-- UTF-16 (Unicode, 3.9, "Unicode Encoding Forms"): a character below 65,536 is one unit, and another is a high
-- surrogate and a low one
abbrev pub utf16 : ℕ → List ℕ
utf16 c = if nat_lt c 65536 then c ∷ [] else (55296 + (c - 65536) / 1024) ∷ (56320 + (c - 65536) % 1024) ∷ []

-- the texts that are borrowed
abbrev pub views : List (Bor (List ℕ)) → List (List ℕ)
views texts = map (λ t. t.now) texts

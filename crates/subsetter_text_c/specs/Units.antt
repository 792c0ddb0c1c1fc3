-- A text in UTF-8, UTF-16 or UTF-32 (Unicode, 3.9, "Unicode Encoding Forms").
use Rattle.std.specs.Prelude.{◌≡◌, ℕ, ◌+◌, ◌-◌, ◌*◌, ◌&&◌, nat_le, nat_lt, Bool, false, if◌then◌else◌, List, [], ◌∷◌}
use Rattle.std.specs.Prelude.{◌++◌, Option, Some, None}
use Rattle.std.specs.Option.{option_and_then, option_map}
use Rattle.std.specs.Str.{IsUtf8, encode_utf8_all}
use Rattle.subsetter_pdf_c.specs.Entries.{are_scalars}
use Rattle.pdf_runs.specs.declared.shaped.Unit.{Unit as Counted}
use Rattle.pdf_runs.specs.declared.shaped.Unit.TheVariants.{Utf8 as Bytes, Utf16 as Words, Utf32 as Numbers}
use Rattle.subsetter_text_c.specs.declared.units.Read.{Read}
use Rattle.subsetter_text_c.specs.declared.units.Read.TheVariants.{High, Character}
use Rattle.subsetter_text_c.specs.declared.units.Units.{Units}
use Rattle.subsetter_text_c.specs.declared.units.Units.TheVariants.{Utf8, Utf16, Utf32}
use Rattle.subsetter_text_c.specs.Pairs.{said}

abbrev pub unit_of : Units → Counted
unit_of (Utf8 bytes) = Bytes
unit_of (Utf16 units) = Words
unit_of (Utf32 numbers) = Numbers

-- ---- UTF-16

abbrev pub is_high : ℕ → Bool
is_high u = nat_le 0xD800 u && nat_lt u 0xDC00

abbrev pub is_low : ℕ → Bool
is_low u = nat_le 0xDC00 u && nat_lt u 0xE000

abbrev pub joined : ℕ → ℕ → ℕ
joined h l = (65536 + (h - 0xD800) * 1024) + (l - 0xDC00)

abbrev pub read_past : ℕ → ℕ → Option Read
read_past h u = if is_high h && is_low u then option_map Character (said (joined h u)) else None

abbrev pub read_alone : ℕ → Option Read
read_alone u = if is_high u then Some (High u) else option_map Character (said u)

abbrev pub read_unit : Option ℕ → ℕ → Option Read
read_unit None u = read_alone u
read_unit (Some h) u = read_past h u

abbrev pub next_high : Read → Option ℕ
next_high (High u) = Some u
next_high (Character c) = None

abbrev pub read_out : Read → List ℕ
read_out (High u) = []
read_out (Character c) = c ∷ []

-- a text doesn't end after a high surrogate
abbrev pub ended : Option ℕ → Option (List ℕ)
ended None = Some []
ended (Some h) = None

-- the characters of units, after a high surrogate or none
abbrev pub decoded : Option ℕ → List ℕ → Option (List ℕ)
decoded high [] = ended high
decoded high (u ∷ us) =
    option_and_then (λ r. option_map (λ cs. read_out r ++ cs) (decoded (next_high r) us)) (read_unit high u)

-- ---- all

abbrev pub AreCharactersOf : Units → List ℕ → Type 0
AreCharactersOf (Utf8 bytes) cs = encode_utf8_all cs ≡ bytes.now
AreCharactersOf (Utf16 units) cs = decoded None units.now ≡ Some cs
AreCharactersOf (Utf32 numbers) cs = cs ≡ numbers.now

abbrev pub IsNoText : Units → Type 0
IsNoText (Utf8 bytes) = ¬ (IsUtf8 bytes.now)
IsNoText (Utf16 units) = decoded None units.now ≡ None
IsNoText (Utf32 numbers) = are_scalars numbers.now ≡ false

-- Worked examples, computed.
use Rattle.std.proofs.Common.{◌≡◌, [], ◌∷◌, ◌++◌, replicate, Some, None, refl}
use Rattle.std.specs.Prelude.{pos, negsuc}
use Rattle.subsetter_cffdata.specs.Bytes.{card, part}
use Rattle.subsetter_base.specs.Bytes.{byte}
use Rattle.subsetter_cffdata.specs.Reals.Decimals.{decimal_digits, unsigned_real, real_of, text_at, real_at, real_text, packed}
use Rattle.subsetter_cffdata.specs.Numerals.Numbers.{Integer, Real, in_i32, integer, integer_from, signed16, signed32, integer_at, dict_number_from, short_integer}
use Rattle.subsetter_cffdata.specs.Numerals.Values.{value, thousand, by_1000}
use Rattle.subsetter_cffdata.specs.Indexes.Index.{index_data, index_body, index_of, index_at, header, index}
use Rattle.subsetter_cffdata.specs.Dicts.Dict.{entry_in, entry_at, entries_in, entries}

-- integers written
written : (integer (negsuc 106) ≡ 32 ∷ []) × (integer (pos 108) ≡ 0xF7 ∷ 0 ∷ []) × (integer (pos 1131) ≡ 0xFA ∷ 0xFF ∷ [])
    × (integer (pos 1132) ≡ 0x1C ∷ 0x04 ∷ 0x6C ∷ []) × (integer (negsuc 32767) ≡ 0x1C ∷ 0x80 ∷ 0 ∷ []) × (integer (pos 32768) ≡ 0x1D ∷ 0 ∷ 0 ∷ 0x80 ∷ 0 ∷ [])
unfolding integer
written = (refl, refl, refl, refl, refl, refl)

-- and read
read : (integer_at (32 ∷ 7 ∷ []) ≡ Some (negsuc 106, 7 ∷ [])) × (integer_at (0xFA ∷ 0xFF ∷ []) ≡ Some (pos 1131, [])) × (integer_at (0xFE ∷ 0xFF ∷ []) ≡ Some (negsuc 1130, []))
    × (integer_at (0x1C ∷ 0x80 ∷ 0 ∷ []) ≡ Some (negsuc 32767, [])) × (integer_at (0x1D ∷ 0xFF ∷ 0xFF ∷ 0xFF ∷ 0xFF ∷ []) ≡ Some (negsuc 0, []))
unfolding integer_from short_integer signed16 signed32 byte card part
read = (refl, refl, refl, refl, refl)

-- reals read: -249.3212, 0.001, 5 E 3, -0, an exponent of 1000, 1 E 999
reals : (real_at (0xE2 ∷ 0x49 ∷ 0x32 ∷ 0xA1 ∷ 0x2C ∷ 0x2F ∷ []) ≡ Some (record { mantissa = negsuc 2493211; power = negsuc 3 }, []))
    × (real_at (0x0A ∷ 0x00 ∷ 0x1F ∷ []) ≡ Some (record { mantissa = pos 1; power = negsuc 2 }, []))
    × (real_at (0x5B ∷ 0x3F ∷ 9 ∷ []) ≡ Some (record { mantissa = pos 5; power = pos 3 }, 9 ∷ []))
    × (real_at (0xE0 ∷ 0xFF ∷ []) ≡ Some (record { mantissa = pos 0; power = pos 0 }, []))
    × (real_at (0x1B ∷ 0x10 ∷ 0x00 ∷ 0xFF ∷ []) ≡ None)
    × (real_at (0x1B ∷ 0x99 ∷ 0x9F ∷ []) ≡ Some (record { mantissa = pos 1; power = pos 999 }, []))
unfolding text_at unsigned_real real_of real_at
reals = (refl, refl, refl, refl, refl, refl)

-- 64 digits 1 are read, 65 aren't
long_reals : (real_at (replicate 32 0x11 ++ 0xFF ∷ []) ≡ Some (record { mantissa = pos 1111111111111111111111111111111111111111111111111111111111111111; power = pos 0 }, []))
    × (real_at (replicate 32 0x11 ++ 0x1F ∷ []) ≡ None)
unfolding text_at unsigned_real real_of real_at
long_reals = (refl, refl)

-- reals written: 0.58, -0.21, 5906.2, 5000, 0, 0.001, -249.3212
reals_written : (packed (real_text (record { mantissa = pos 58; power = negsuc 1 })) ≡ 0x0A ∷ 0x58 ∷ 0xFF ∷ [])
    × (packed (real_text (record { mantissa = negsuc 20; power = negsuc 1 })) ≡ 0xE0 ∷ 0xA2 ∷ 0x1F ∷ [])
    × (packed (real_text (record { mantissa = pos 59062; power = negsuc 0 })) ≡ 0x59 ∷ 0x06 ∷ 0xA2 ∷ 0xFF ∷ [])
    × (packed (real_text (record { mantissa = pos 5; power = pos 3 })) ≡ 0x50 ∷ 0x00 ∷ 0xFF ∷ [])
    × (packed (real_text (record { mantissa = pos 0; power = pos 0 })) ≡ 0x0F ∷ [])
    × (packed (real_text (record { mantissa = pos 1; power = negsuc 2 })) ≡ 0x0A ∷ 0x00 ∷ 0x1F ∷ [])
    × (packed (real_text (record { mantissa = negsuc 2493211; power = negsuc 3 })) ≡ 0xE2 ∷ 0x49 ∷ 0xA3 ∷ 0x21 ∷ 0x2F ∷ [])
unfolding real_text decimal_digits
reals_written = (refl, refl, refl, refl, refl, refl, refl)

-- an INDEX with a last offset of 0, one with unreadable entries, two items, none
indexes : (index_at (0 ∷ 1 ∷ 1 ∷ 0 ∷ 0 ∷ 9 ∷ []) ≡ Some ([], 9 ∷ []))
    × (index_at (0 ∷ 2 ∷ 1 ∷ 1 ∷ 0 ∷ 3 ∷ 0xAA ∷ 0xBB ∷ 9 ∷ []) ≡ Some (None ∷ None ∷ [], 9 ∷ []))
    × (index ((7 ∷ 8 ∷ []) ∷ []) ≡ 0 ∷ 1 ∷ 1 ∷ 1 ∷ 3 ∷ 7 ∷ 8 ∷ []) × (index [] ≡ 0 ∷ 0 ∷ [])
    × (header (replicate 254 5 ∷ []) ≡ 0 ∷ 1 ∷ 1 ∷ 1 ∷ 0xFF ∷ []) × (header (replicate 255 5 ∷ []) ≡ 0 ∷ 1 ∷ 2 ∷ 0 ∷ 1 ∷ 1 ∷ 0 ∷ [])
unfolding index_of index_body index_data header index byte card part
indexes = (refl, refl, refl, refl, refl, refl)

-- an unreadable real ends the dict; 255 is an operator; 48 of 49 operands are kept
dicts : (entries (0x8C ∷ 0x14 ∷ 0x1E ∷ 0xD0 ∷ 0x15 ∷ []) ≡ record { operator = 20 ∷ []; operands = Integer (pos 1) ∷ [] } ∷ [])
    × (entries (0x8C ∷ 0xFF ∷ 0x8D ∷ 0x14 ∷ []) ≡ record { operator = 255 ∷ []; operands = Integer (pos 1) ∷ [] } ∷ record { operator = 20 ∷ []; operands = Integer (pos 2) ∷ [] } ∷ [])
    × (entries (replicate 49 0x8B ++ 6 ∷ []) ≡ record { operator = 6 ∷ []; operands = replicate 48 (Integer (pos 0)) } ∷ [])
unfolding entries entries_in entry_at entry_in dict_number_from integer_from short_integer signed16 signed32 real_at text_at real_of unsigned_real byte card part
dicts = (refl, refl, refl)

-- exact values: 5, 1000, 0, -20
values : (value (Integer (pos 5)) ≡ record { mantissa = pos 5; power = pos 0 }) × (value (Integer (pos 1000)) ≡ record { mantissa = pos 1; power = pos 3 })
    × (value (Integer (pos 0)) ≡ record { mantissa = pos 0; power = pos 0 }) × (value (Integer (negsuc 19)) ≡ record { mantissa = negsuc 1; power = pos 1 })
values = (refl, refl, refl, refl)

-- a thousand times 0.001, 0 and -120; a power of ten that doesn't fit in 32 bits
thousands : (thousand (Real (record { mantissa = pos 1; power = negsuc 2 })) ≡ Some (Real (record { mantissa = pos 1; power = pos 0 })))
    × (thousand (Integer (pos 0)) ≡ Some (Real (record { mantissa = pos 0; power = pos 0 })))
    × (thousand (Integer (negsuc 119)) ≡ Some (Real (record { mantissa = negsuc 11; power = pos 4 })))
    × (thousand (Real (record { mantissa = pos 1; power = pos 2147483645 })) ≡ None)
unfolding in_i32 thousand
thousands = (refl, refl, refl, refl)

-- the matrix 0.001 0 0 0.001 7 0 after a scaling by 1000
matrix : (let thousandth = Real (record { mantissa = pos 1; power = negsuc 2 }) in let zero = Integer (pos 0) in let one = Real (record { mantissa = pos 1; power = pos 0 }) in let nothing = Real (record { mantissa = pos 0; power = pos 0 }) in
    by_1000 (thousandth ∷ zero ∷ zero ∷ thousandth ∷ Integer (pos 7) ∷ zero ∷ []) ≡ Some (one ∷ nothing ∷ nothing ∷ one ∷ Real (record { mantissa = pos 7; power = pos 0 }) ∷ nothing ∷ []))
unfolding in_i32 thousand by_1000
matrix = refl

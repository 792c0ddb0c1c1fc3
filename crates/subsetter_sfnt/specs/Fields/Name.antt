-- The records of `name` (OpenType, "name - Naming Table").
use Rattle.std.specs.Prelude.{ℕ, Bool, ◌&&◌, ◌||◌, List, ◌++◌, take, drop, Option, ◌==◌}
use Rattle.std.specs.Int.{w16, to_be_bytes}
use Rattle.subsetter_base.specs.Bytes.{be, range}
use Rattle.subsetter_sfnt.specs.declared.fields.name.NameRecord.{NameRecord}

-- a record: platform, encoding, language, name, and length and offset of a string, two bytes each
abbrev pub name_record_of : List ℕ → NameRecord
name_record_of b =
    record {
      platform_id = be (take 2 b);
      encoding_id = be (take 2 (drop 2 b));
      language_id = be (take 2 (drop 4 b));
      name_id = be (take 2 (drop 6 b));
      length = be (take 2 (drop 8 b));
      string_offset = be (take 2 (drop 10 b));
    }

abbrev pub name_record_bytes : NameRecord → List ℕ
name_record_bytes r =
    to_be_bytes w16 r.platform_id ++ to_be_bytes w16 r.encoding_id ++ to_be_bytes w16 r.language_id
    ++ to_be_bytes w16 r.name_id ++ to_be_bytes w16 r.length ++ to_be_bytes w16 r.string_offset

-- the string of a record
abbrev pub string_of : List ℕ → NameRecord → Option (List ℕ)
string_of storage r = range storage r.string_offset r.length

-- strings of the platform Unicode (0), and of Windows (3) in the encodings symbol, Unicode BMP and full Unicode
abbrev pub is_unicode : ℕ → ℕ → Bool
is_unicode platform encoding =
    (platform == 0) || ((platform == 3) && ((encoding == 0) || ((encoding == 1) || (encoding == 10))))

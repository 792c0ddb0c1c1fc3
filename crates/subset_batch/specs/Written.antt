-- Members as they are written: strings alone, without white space.
use Rattle.std.specs.Prelude.{◌≡◌, ℕ, ◌/◌, ◌%◌, ◌+◌, ◌==◌, ◌&&◌, ◌||◌, nat_lt, Bool, true, if◌then◌else◌, List, [], ◌∷◌}
use Rattle.std.specs.Prelude.{◌++◌, Some, None, codes}
use Rattle.std.specs.Str.{is_utf8}
use Rattle.subset_batch.specs.declared.kinds.Kind.{Kind}
use Rattle.subset_batch.specs.Members.{Value, absent, present, text, texts, Member, kind_of, fits, repeated}

-- a hexadecimal digit
unfoldable pub hex_of : ℕ → ℕ
hex_of d = if nat_lt d 10 then 48 + d else 87 + d

-- a byte of a string (RFC 8259, section 7): a quotation mark, a backslash and a control character are escaped
abbrev pub escaped_byte : ℕ → List ℕ
escaped_byte b =
    if b == 34 || b == 92 then 92 ∷ b ∷ []
    else if nat_lt b 32 then codes "\\u00" ++ hex_of (b / 16) ∷ hex_of (b % 16) ∷ []
    else b ∷ []

abbrev pub escaped_text : List ℕ → List ℕ
escaped_text [] = []
escaped_text (b ∷ bytes) = escaped_byte b ++ escaped_text bytes

abbrev pub quoted : List ℕ → List ℕ
quoted t = codes "\"" ++ escaped_text t ++ codes "\""

-- strings with a comma between each two, and this before the first
abbrev pub strings : List ℕ → List (List ℕ) → List ℕ
strings before [] = []
strings before (t ∷ ts) = before ++ quoted t ++ strings (codes ",") ts

abbrev pub written_value : Value → List ℕ
written_value absent = codes "null"
written_value present = codes "true"
written_value (text t) = quoted t
written_value (texts ts) = codes "[" ++ strings [] ts ++ codes "]"

abbrev pub written_members : List ℕ → List Member → List ℕ
written_members before [] = []
written_members before (m ∷ members) =
    before ++ quoted m.name ++ codes ":" ++ written_value m.value ++ written_members (codes ",") members

abbrev pub written : List Member → List ℕ
written members = codes "{" ++ written_members [] members ++ codes "}"

-- ---- what can be written: each name once, and one that a member may have, with a value that it may have,
-- and texts in UTF-8

abbrev pub all_utf8 : List (List ℕ) → Bool
all_utf8 [] = true
all_utf8 (t ∷ ts) = is_utf8 t && all_utf8 ts

abbrev pub value_utf8 : Value → Bool
value_utf8 absent = true
value_utf8 present = true
value_utf8 (text t) = is_utf8 t
value_utf8 (texts ts) = all_utf8 ts

-- a member that can be written
pub record IsWritable (m : Member) : Type 0 where
  pub kind : Kind
  pub known : kind_of m.name ≡ Some kind
  pub fitting : fits kind m.value ≡ true
  pub name_in_utf8 : is_utf8 m.name ≡ true
  pub value_in_utf8 : value_utf8 m.value ≡ true

abbrev pub AllWritable : List Member → Type 0
AllWritable [] = Unit {0}
AllWritable (m ∷ members) = IsWritable m × AllWritable members

pub record AreWritable (members : List Member) : Type 0 where
  pub each : AllWritable members
  pub distinct : repeated members ≡ None

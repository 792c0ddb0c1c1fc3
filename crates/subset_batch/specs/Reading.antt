-- What a line in JSON (RFC 8259) requests, read from left to right, or what is wrong first.
use Rattle.std.specs.Prelude.{ℕ, zero, suc, ◌+◌, ◌-◌, ◌*◌, ◌==◌, ◌&&◌, nat_lt, Bool, true, false, if◌then◌else◌, List}
use Rattle.std.specs.Prelude.{[], ◌∷◌, ◌++◌, length, Option, Some, None, Result, Ok, Err, codes}
use Rattle.std.specs.Char.{encode_utf8}
use Rattle.std.proofs.Math.Utf8.{scalar}
use Rattle.std.specs.Str.{bytes_eq, is_utf8}
use Rattle.subset_batch.specs.declared.fault.Wanted.{Wanted}
use Rattle.subset_batch.specs.declared.fault.Wanted.TheVariants as needs
use Rattle.subset_batch.specs.declared.kinds.Kind.{Kind}
use Rattle.subset_batch.specs.Bytes.{skip_ws, word, past_word, following, escaped, hex_digit, is_high, is_low, paired}
use Rattle.subset_batch.specs.Numbers.{is_number}
use Rattle.subset_batch.specs.Words.{request_words}
use Rattle.subset_batch.specs.Members.{Value, absent, present, text, texts, Member, kind_of, fits, repeated}

-- what is wrong: something else is expected or a name isn't known, with the number of bytes left, or two members have a
-- name
pub data Fault : Type 0 where
  expected : Wanted → ℕ → Fault
  unknown : List ℕ → ℕ → Fault
  twice : List ℕ → Fault

-- with the bytes from the start of a line
abbrev pub from_start : List ℕ → Fault → Fault
from_start line (expected wanted left) = expected wanted (length line - left)
from_start line (unknown name left) = unknown name (length line - left)
from_start line (twice name) = twice name

infixl 10 ◌>>=◌
abbrev pub ◌>>=◌ : {A B : Type 0} → Result A Fault → (A → Result B Fault) → Result B Fault
(Ok x) >>= f = f x
(Err e) >>= f = Err e

abbrev pub missing : {A : Type 0} → Wanted → List ℕ → Result A Fault
missing wanted bytes = Err (expected wanted (length bytes))

-- a value that is there, or what is expected before these bytes
abbrev pub or_missing : {A : Type 0} → Wanted → List ℕ → Option A → Result A Fault
or_missing wanted bytes None = missing wanted bytes
or_missing wanted bytes (Some x) = Ok x

abbrev pub byte_at : ℕ → Wanted → List ℕ → Result (List ℕ) Fault
byte_at b wanted bytes = or_missing wanted bytes (following b bytes)

-- ---- members one after another

-- what is read before, and what is read after it
abbrev pub with_front : {A : Type 0} → List A → Result (List A × List ℕ) Fault → Result (List A × List ℕ) Fault
with_front front read = read >>= λ more. Ok (front ++ more.0, more.1)

-- what a step reads again and again, at most n times, until it says that no more follows; a step gives what it read,
-- whether more follows, and the bytes after
unfoldable pub many : {A : Type 0} → (List ℕ → Result (List A × Bool × List ℕ) Fault) → Wanted → ℕ → List ℕ
    → Result (List A × List ℕ) Fault
many step wanted zero bytes = missing wanted bytes
many step wanted (suc n) bytes =
    step bytes >>= λ x. if x.1 then with_front x.0 (many step wanted n x.2) else Ok (x.0, x.2)

-- value-separator or what closes an array or an object (sections 2, 4 and 5), with white space before it: whether a
-- member follows, and the bytes after
abbrev pub separator_in : ℕ → Wanted → List ℕ → Result (Bool × List ℕ) Fault
separator_in close wanted [] = missing wanted []
separator_in close wanted (b ∷ bytes) =
    if b == 44 then Ok (true, skip_ws bytes) else (if b == close then Ok (false, bytes) else missing wanted (b ∷ bytes))

abbrev pub separator_at : ℕ → Wanted → List ℕ → Result (Bool × List ℕ) Fault
separator_at close wanted bytes = separator_in close wanted (skip_ws bytes)

-- ---- strings (section 7)

-- a hexadecimal digit
abbrev pub digit_at : List ℕ → Result (ℕ × List ℕ) Fault
digit_at [] = missing needs.HexDigit []
digit_at (b ∷ bytes) = or_missing needs.HexDigit (b ∷ bytes) (hex_digit b) >>= λ d. Ok (d, bytes)

-- 4HEXDIG
unfoldable pub unit_at : List ℕ → Result (ℕ × List ℕ) Fault
unit_at bytes = do
  a ← digit_at bytes
  b ← digit_at a.1
  c ← digit_at b.1
  d ← digit_at c.1
  Ok (((a.0 * 16 + b.0) * 16 + c.0) * 16 + d.0, d.1)

-- \uXXXX with a low surrogate
unfoldable pub low_at : List ℕ → Result (ℕ × List ℕ) Fault
low_at bytes = do
  escape ← byte_at 92 needs.LowSurrogate bytes
  digits ← byte_at 117 needs.LowSurrogate escape
  low ← unit_at digits
  if is_low low.0 then Ok low else missing needs.LowSurrogate bytes

-- a character in UTF-8, after which these bytes are
abbrev pub coded : ℕ → List ℕ → List ℕ → Result (List ℕ × List ℕ) Fault
coded code rest bytes = if scalar code then Ok (encode_utf8 code, rest) else missing needs.Scalar bytes

-- after \u: a character, or the surrogate pair of one
unfoldable pub unicode_at : List ℕ → Result (List ℕ × List ℕ) Fault
unicode_at bytes = do
  unit ← unit_at bytes
  if is_high unit.0 then (low_at unit.1 >>= λ low. coded (paired unit.0 low.0) low.1 bytes)
      else coded unit.0 unit.1 bytes

-- after a backslash
abbrev pub escape_at : List ℕ → Result (List ℕ × List ℕ) Fault
escape_at [] = missing needs.Escape []
escape_at (e ∷ bytes) =
    if e == 117 then unicode_at bytes else (or_missing needs.Escape (e ∷ bytes) (escaped e) >>= λ b. Ok (b ∷ [], bytes))

-- char: an escape, or a byte of an unescaped character, which is no control character
abbrev pub char_at : List ℕ → Result (List ℕ × List ℕ) Fault
char_at [] = missing needs.Quote []
char_at (b ∷ bytes) =
    if b == 92 then escape_at bytes
    else (if nat_lt b 32 then missing needs.Character (b ∷ bytes) else Ok (b ∷ [], bytes))

-- whether a string goes on, and the bytes after its quotation mark if it doesn't
abbrev pub goes_on : List ℕ → Bool × List ℕ
goes_on bytes = elim (following 34 bytes) [ Some rest ↦ (false, rest) | None ↦ (true, bytes) ]

unfoldable pub char_step : List ℕ → Result (List ℕ × Bool × List ℕ) Fault
char_step bytes = do
  char ← char_at bytes
  Ok (char.0, (goes_on char.1).0, (goes_on char.1).1)

-- the characters after the first quotation mark
abbrev pub chars_at : List ℕ → Result (List ℕ × List ℕ) Fault
chars_at bytes =
    elim (following 34 bytes) [ Some rest ↦ Ok ([], rest) | None ↦ many char_step needs.Quote (length bytes) bytes ]

-- a text in UTF-8 (section 8.1)
abbrev pub in_utf8 : List ℕ → List ℕ × List ℕ → Result (List ℕ × List ℕ) Fault
in_utf8 bytes x = if is_utf8 x.0 then Ok x else missing needs.Utf8 bytes

unfoldable pub string_at : List ℕ → Result (List ℕ × List ℕ) Fault
string_at bytes = chars_at bytes >>= in_utf8 bytes

-- ---- values (section 3)

-- a string or a number
abbrev pub number_at : Wanted → List ℕ → Result (List ℕ × List ℕ) Fault
number_at wanted bytes =
    if is_number (word bytes) && is_utf8 (word bytes) then Ok (word bytes, past_word bytes) else missing wanted bytes

abbrev pub item_at : Wanted → List ℕ → Result (List ℕ × List ℕ) Fault
item_at wanted bytes = elim (following 34 bytes) [ Some rest ↦ string_at rest | None ↦ number_at wanted bytes ]

unfoldable pub item_step : List ℕ → Result (List (List ℕ) × Bool × List ℕ) Fault
item_step bytes = do
  item ← item_at needs.Item bytes
  after ← separator_at 93 needs.CommaOrBracket item.1
  Ok (item.0 ∷ [], after.0, after.1)

-- the members of an array (section 5), after its bracket
abbrev pub items_in : List ℕ → Result (List (List ℕ) × List ℕ) Fault
items_in bytes =
    elim (following 93 bytes)
    [ Some rest ↦ Ok ([], rest) | None ↦ many item_step needs.CommaOrBracket (length bytes) bytes ]

-- the literal names
unfoldable pub literal : List ℕ → Option Value
literal name =
    if bytes_eq name (codes "true") then Some present
    else if bytes_eq name (codes "false") then Some absent
    else if bytes_eq name (codes "null") then Some absent
    else None

abbrev pub plain_at : List ℕ → Result (Value × List ℕ) Fault
plain_at bytes = elim (literal (word bytes)) [
  | Some value ↦ Ok (value, past_word bytes)
  | None ↦ item_at needs.Value bytes >>= λ item. Ok (text item.0, item.1)
]

unfoldable pub value_at : List ℕ → Result (Value × List ℕ) Fault
value_at bytes = elim (following 91 bytes) [
  | Some rest ↦ items_in (skip_ws rest) >>= λ items. Ok (texts items.0, items.1)
  | None ↦ plain_at bytes
]

-- ---- the object (section 4)

-- a name that a member may have
unfoldable pub name_at : List ℕ → Result (Kind × List ℕ × List ℕ) Fault
name_at bytes = do
  quoted ← byte_at 34 needs.Name bytes
  name ← string_at quoted
  elim (kind_of name.0) [ Some kind ↦ Ok (kind, name.0, name.1) | None ↦ Err (unknown name.0 (length bytes)) ]

-- the value of a member of a kind
unfoldable pub fitting_at : Kind → List ℕ → Result (Value × List ℕ) Fault
fitting_at kind bytes = do
  value ← value_at bytes
  if fits kind value.0 then Ok value else missing needs.Fitting bytes

-- member = string name-separator value
unfoldable pub member_at : List ℕ → Result (Member × List ℕ) Fault
member_at bytes = do
  name ← name_at bytes
  colon ← byte_at 58 needs.Colon (skip_ws name.2)
  value ← fitting_at name.0 (skip_ws colon)
  Ok (record { name = name.1; value = value.0 }, value.1)

unfoldable pub member_step : List ℕ → Result (List Member × Bool × List ℕ) Fault
member_step bytes = do
  member ← member_at bytes
  after ← separator_at 125 needs.CommaOrBrace member.1
  Ok (member.0 ∷ [], after.0, after.1)

-- the members after the brace
abbrev pub members_in : List ℕ → Result (List Member × List ℕ) Fault
members_in bytes =
    elim (following 125 bytes)
    [ Some rest ↦ Ok ([], rest) | None ↦ many member_step needs.CommaOrBrace (length bytes) bytes ]

-- members with names of their own
abbrev pub distinct : List Member → Result (List Member) Fault
distinct members = elim (repeated members) [ Some name ↦ Err (twice name) | None ↦ Ok members ]

-- members, after which nothing is
abbrev pub at_end : List Member → List ℕ → Result (List Member) Fault
at_end members [] = distinct members
at_end members (b ∷ bytes) = missing needs.End (b ∷ bytes)

-- the members of the object that a line is, with white space around it
unfoldable pub object_of : List ℕ → Result (List Member) Fault
object_of line = do
  brace ← byte_at 123 needs.Object (skip_ws line)
  members ← members_in (skip_ws brace)
  at_end members.0 (skip_ws members.1)

-- ---- the request

unfoldable pub request_in : List ℕ → Result (List (List ℕ)) Fault
request_in line = do
  members ← object_of line
  Ok (request_words members)

-- the words of a line, or what is wrong first and where
abbrev pub counted : List ℕ → Result (List (List ℕ)) Fault → Result (List (List ℕ)) Fault
counted line (Ok words) = Ok words
counted line (Err fault) = Err (from_start line fault)

abbrev pub request_of : List ℕ → Result (List (List ℕ)) Fault
request_of line = counted line (request_in line)

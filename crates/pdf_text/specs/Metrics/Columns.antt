-- Vertical metrics of CIDs (ISO 32000-1, 9.7.4.3): DW2 and W2, as they are written and as they are read.
use Rattle.std.specs.Prelude.{◌≡◌, ◌≤◌, ◌<◌, ℕ, suc, ◌+◌, ◌-◌, ◌*◌, ◌==◌, ◌&&◌, nat_lt, nat_le, Bool, if◌then◌else◌}
use Rattle.std.specs.Prelude.{List, [], ◌∷◌, ◌++◌, map, length, get_or, codes, decimal, Option, Some, None, ℤ, pos}
use Rattle.std.specs.Prelude.{neg_ℤ, unsigned_abs, ◌^◌}
use Rattle.std.specs.List.{join_with_byte}
use Rattle.std.specs.Option.{option_map, option_and_then}
use Rattle.std.specs.Ordering.{int_eq}
use Rattle.std.specs.Str.{bytes_eq}
use Rattle.pdf_text.specs.declared.metrics.columns.Column.{Column}
use Rattle.pdf_text.specs.declared.metrics.columns.DefaultColumn.{DefaultColumn}
use Rattle.pdf_text.specs.Metrics.Arrays.{Entry, each, same, entries_from, lists_from, has_room, spread}
use Rattle.pdf_text.specs.Numbers.{integers}
use Rattle.pdf_text.specs.Tokens.{tokens, number_in}

-- ---- which columns are left out, and which are equal

-- whether a column is the default one, but for its x, which is then half of the width
abbrev pub is_default : DefaultColumn → Column → Bool
is_default d c = int_eq d.y c.y && int_eq d.advance c.advance

abbrev pub alike : Column → Column → Bool
alike a b = int_eq a.advance b.advance && (int_eq a.x b.x && int_eq a.y b.y)

abbrev pub no_column : Column
no_column = record { advance = pos 0; x = pos 0; y = pos 0 }

-- the mark of a column after another: 0 if it is the default one, that of the other if both are alike, else one of its
-- own
abbrev pub mark : DefaultColumn → ℕ → Column → ℕ → Column → ℕ
mark d own before m c = if is_default d c then 0 else if alike before c then m else own

abbrev pub marks_from : DefaultColumn → ℕ → Column → ℕ → List Column → List ℕ
marks_from d own before m [] = []
marks_from d own before m (c ∷ cs) = mark d own before m c ∷ marks_from d (own + 1) c (mark d own before m c) cs

-- the marks of columns: 0 for the default one, else one more than the CID of the first of the neighbours that are alike
abbrev pub marks : DefaultColumn → List Column → List ℕ
marks d cs = marks_from d 1 no_column 1 cs

abbrev pub column_at : List Column → ℕ → Column
column_at cs m = get_or cs (m - 1) no_column

-- ---- W2

-- a part of W2: `first [w1 x y ..]`, or `first last w1 x y`
pub data Span : Type 0 where
  listed_columns : ℕ → List Column → Span
  same_columns : ℕ → ℕ → Column → Span

abbrev pub span_of : List Column → Entry → Span
span_of cs (each first ms) = listed_columns first (map (column_at cs) ms)
span_of cs (same first last m) = same_columns first last (column_at cs m)

-- marks of their own for all columns
abbrev pub own_marks : ℕ → List Column → List ℕ
own_marks own [] = []
own_marks own (c ∷ cs) = own ∷ own_marks (own + 1) cs

-- the parts by the marks: at most 2,730 columns in a list, which are 8,190 numbers
abbrev pub marked : DefaultColumn → List Column → List Entry
marked d cs = entries_from 2729 0 0 0 (marks d cs)

-- whether default columns are left out: where the other ones have room in the outer array
abbrev pub leaves_out : DefaultColumn → List Column → Bool
leaves_out d cs = has_room 3 (marked d cs)

-- the parts of W2, as those of W by the marks; where these are too many for the outer array, lists of all columns
abbrev pub column_entries : DefaultColumn → List Column → List Entry
column_entries d cs = if leaves_out d cs then marked d cs else lists_from 2729 (length cs) 0 (own_marks 1 cs)

abbrev pub spans : DefaultColumn → List Column → List Span
spans d cs = map (span_of cs) (column_entries d cs)

-- the vertical displacement, and the position of the origin
abbrev pub column_text : Column → List ℕ
column_text c = integers (c.advance ∷ c.x ∷ c.y ∷ [])

abbrev pub span_text : Span → List ℕ
span_text (listed_columns first cs) =
    decimal first ++ (codes " [" ++ (join_with_byte 32 (map column_text cs) ++ codes "]"))
span_text (same_columns first last c) = decimal first ++ (codes " " ++ (decimal last ++ (codes " " ++ column_text c)))

abbrev pub columns_text : List Span → List ℕ
columns_text ss = codes "[" ++ (join_with_byte 32 (map span_text ss) ++ codes "]")

-- ---- read

-- the column that parts say of a CID, which else has this one: of DW2 and W
abbrev pub column_in : List Span → Column → ℕ → Column
column_in [] n k = n
column_in (listed_columns first cs ∷ ss) n k =
    if nat_le first k && nat_lt (k - first) (length cs) then get_or cs (k - first) n else column_in ss n k
column_in (same_columns first last c ∷ ss) n k = if nat_le first k && nat_le k last then c else column_in ss n k

-- the integer that a token writes: digits, or a minus (45) and digits
abbrev pub integer_in : List ℕ → Option ℤ
integer_in [] = None
integer_in (b ∷ t) =
    if b == 45 then option_map (λ n. neg_ℤ (pos n)) (number_in t) else option_map pos (number_in (b ∷ t))

-- where a reader is: between two parts, after a first CID, after a last one and up to two numbers, or on a list
pub data State : Type 0 where
  between_spans : State
  past_first : ℕ → State
  after_last : ℕ → ℕ → State
  after_advance : ℕ → ℕ → ℤ → State
  after_x : ℕ → ℕ → ℤ → ℤ → State
  on_list : ℕ → List Column → State
  on_advance : ℕ → List Column → ℤ → State
  on_x : ℕ → List Column → ℤ → ℤ → State

-- nothing is after the array
abbrev pub at_end : List (List ℕ) → Option (List Span)
at_end [] = Some []
at_end (t ∷ ts) = None

abbrev pub spans_in : State → List (List ℕ) → Option (List Span)
spans_in state [] = None
spans_in between_spans (t ∷ ts) =
    if bytes_eq t (codes "]") then at_end ts
    else option_and_then (λ first. spans_in (past_first first) ts) (number_in t)
spans_in (past_first first) (t ∷ ts) =
    if bytes_eq t (codes "[") then spans_in (on_list first []) ts
    else option_and_then (λ last. spans_in (after_last first last) ts) (number_in t)
spans_in (after_last first last) (t ∷ ts) =
    option_and_then (λ a. spans_in (after_advance first last a) ts) (integer_in t)
spans_in (after_advance first last a) (t ∷ ts) =
    option_and_then (λ x. spans_in (after_x first last a x) ts) (integer_in t)
spans_in (after_x first last a x) (t ∷ ts) =
    option_and_then (λ y.
    option_map (λ ss. same_columns first last (record { advance = a; x = x; y = y }) ∷ ss) (spans_in between_spans ts))
    (integer_in t)
spans_in (on_list first cs) (t ∷ ts) =
    if bytes_eq t (codes "]") then option_map (λ ss. listed_columns first cs ∷ ss) (spans_in between_spans ts)
    else option_and_then (λ a. spans_in (on_advance first cs a) ts) (integer_in t)
spans_in (on_advance first cs a) (t ∷ ts) = option_and_then (λ x. spans_in (on_x first cs a x) ts) (integer_in t)
spans_in (on_x first cs a x) (t ∷ ts) =
    option_and_then (λ y. spans_in (on_list first (cs ++ record { advance = a; x = x; y = y } ∷ [])) ts) (integer_in t)

abbrev pub spans_of : List (List ℕ) → Option (List Span)
spans_of [] = None
spans_of (t ∷ ts) = if bytes_eq t (codes "[") then spans_in between_spans ts else None

-- the column that W2 says of a CID, which else has this one
abbrev pub column_for : List ℕ → Column → ℕ → Option Column
column_for text n k = option_map (λ ss. column_in ss n k) (spans_of (tokens (spread text)))

-- ---- the law

-- what a reader finds for a column: itself, or what DW2 and W say where it is left out
abbrev pub column_found : DefaultColumn → Column → Column → Column
column_found d n c = if is_default d c then n else c

-- what a reader finds for CID k
abbrev pub column_read : DefaultColumn → List Column → Column → ℕ → Column
column_read d cs n k = if leaves_out d cs then column_found d n (get_or cs k n) else get_or cs k n

-- the numbers of a column are at most 2 ^ 31
pub record IsColumn (c : Column) : Type 0 where
  pub advance : unsigned_abs c.advance ≤ 2 ^ 31
  pub x : unsigned_abs c.x ≤ 2 ^ 31
  pub y : unsigned_abs c.y ≤ 2 ^ 31

-- no list has more numbers than an array of PDF/A-1
abbrev pub AreShortSpans : List Span → Type 0
AreShortSpans [] = Unit {0}
AreShortSpans (listed_columns first cs ∷ ss) = (3 * length cs ≤ 8190) × AreShortSpans ss
AreShortSpans (same_columns first last c ∷ ss) = AreShortSpans ss

-- a CID and a list, or two CIDs and three numbers
abbrev pub span_elements : List Span → ℕ
span_elements [] = 0
span_elements (listed_columns first cs ∷ ss) = 2 + span_elements ss
span_elements (same_columns first last c ∷ ss) = 5 + span_elements ss

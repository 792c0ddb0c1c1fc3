-- DW2, the most frequent column (ISO 32000-1, 9.7.4.3).
use Rattle.std.specs.Prelude.{◌≡◌, ◌<◌, ◌≤◌, ℕ, nat_lt, ◌&&◌, Bool, if◌then◌else◌, List, [], ◌∷◌, length, get_or}
use Rattle.std.specs.Prelude.{count_by, ℤ, pos, neg_ℤ}
use Rattle.std.specs.Ordering.{int_eq}
use Rattle.pdf_text.specs.declared.metrics.columns.Column.{Column}
use Rattle.pdf_text.specs.declared.metrics.columns.DefaultColumn.{DefaultColumn}
use Rattle.pdf_text.specs.Metrics.Columns.{no_column}

-- whether a column has this y and this advance
abbrev pub has_both : ℤ → ℤ → Column → Bool
has_both y a c = int_eq c.y y && int_eq c.advance a

-- how many columns have both
abbrev pub count : List Column → ℤ → ℤ → ℕ
count cs y a = count_by (has_both y a) cs

abbrev pub default_of : Column → DefaultColumn
default_of c = record { y = c.y; advance = c.advance }

-- among all columns, the first of these that more have than n, and so on; else the one so far
abbrev pub most_from : List Column → ℕ → DefaultColumn → List Column → DefaultColumn
most_from all n d [] = d
most_from all n d (c ∷ cs) =
    if nat_lt n (count all c.y c.advance) then most_from all (count all c.y c.advance) (default_of c) cs
    else most_from all n d cs

-- the default of DW2 (ISO 32000-1, Table 117): 880 and -1000
abbrev pub own_default : DefaultColumn
own_default = record { y = pos 880; advance = neg_ℤ (pos 1000) }

-- of several the earliest; PDF's own of none
abbrev pub most_frequent : List Column → DefaultColumn
most_frequent cs = most_from cs 0 own_default cs

-- ---- the law

-- how many columns have y and advance of the one at an index
abbrev pub count_at : List Column → ℕ → ℕ
count_at cs i = count cs (get_or cs i no_column).y (get_or cs i no_column).advance

-- it is that of a column, none is more frequent, and each one before it is rarer
pub record IsMostFrequent (cs : List Column) (d : DefaultColumn) : Type 0 where
  pub index : ℕ
  pub within : index < length cs
  pub there : default_of (get_or cs index no_column) ≡ d
  pub most : (y a : ℤ) → count cs y a ≤ count cs d.y d.advance
  pub earliest : (i : ℕ) → i < index → count_at cs i < count cs d.y d.advance

abbrev pub IsMostOfAll : Type 0
IsMostOfAll = (c : Column) (cs : List Column) → IsMostFrequent (c ∷ cs) (most_frequent (c ∷ cs))

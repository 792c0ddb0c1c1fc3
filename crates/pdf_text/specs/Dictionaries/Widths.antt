-- The widths and the columns of a CIDFont (ISO 32000-1, 9.7.4.3), as texts.
use Rattle.std.specs.Prelude.{◌≡◌, ◌<◌, ◌⊎◌, ℕ, ◌&&◌, nat_lt, if◌then◌else◌, List, [], ◌∷◌, ◌++◌, length, Option, Some}
use Rattle.std.specs.Prelude.{None, codes, decimal, ℤ, pos, neg_ℤ}
use Rattle.std.specs.Ordering.{int_eq}
use Rattle.subsetter_base.specs.declared.error.Error.{Error}
use Rattle.subsetter_base.specs.declared.error.Error.TheVariants.{OutOfMemory, OverflowError}
use Rattle.pdf_text.specs.declared.values.FontColumns.{FontColumns}
use Rattle.pdf_text.specs.declared.values.FontValues.{FontValues}
use Rattle.pdf_text.specs.Metrics.Arrays.{entries, array_text}
use Rattle.pdf_text.specs.Metrics.Columns.{spans, columns_text}
use Rattle.pdf_text.specs.Dictionaries.Entries.{array, entry}

-- ---- arrays

abbrev pub w_text : FontValues → List ℕ
w_text v = array_text (entries v.widths.now v.default_width)

-- of horizontal writing there is none
abbrev pub w2_text : Option FontColumns → List ℕ
w2_text None = codes "[]"
w2_text (Some c) = columns_text (spans c.default c.each.now)

-- DW2, if it isn't PDF's own: y, and advance
abbrev pub default_column : Option FontColumns → Option (List ℤ)
default_column None = None
default_column (Some c) =
    if int_eq c.default.y (pos 880) && int_eq c.default.advance (neg_ℤ (pos 1000)) then None
    else Some (c.default.y ∷ c.default.advance ∷ [])

-- there are more columns than CIDs, which have 16 bits
abbrev pub HasManyColumns : Option FontColumns → Type 0
HasManyColumns None = ⊥
HasManyColumns (Some c) = 65536 < length c.each.now

-- why nothing is written: memory ran out, or there are more columns than CIDs
abbrev pub IsRefused : Option FontColumns → Error → Type 0
IsRefused columns e = (e ≡ OutOfMemory) ⊎ ((e ≡ OverflowError) × HasManyColumns columns)

-- ---- entries

-- an array, if it has a member: then its text is longer than its brackets
abbrev pub array_entry : List ℕ → List ℕ → List ℕ
array_entry key value = if nat_lt 2 (length value) then entry key value else []

abbrev pub column_entry : Option (List ℤ) → List ℕ
column_entry (Some zs) = entry (codes "DW2") (array zs)
column_entry None = []

-- the entries DW, W, DW2 and W2 of a CIDFont
abbrev pub metric_entries : FontValues → List ℕ
metric_entries v = entry (codes "DW") (decimal v.default_width) ++ (array_entry (codes "W") (w_text v)
    ++ (column_entry (default_column v.columns) ++ array_entry (codes "W2") (w2_text v.columns)))

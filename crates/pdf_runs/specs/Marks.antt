-- Characters without a width of their own: marks and format characters (Unicode, 4.5, General_Category Mn, Me and Cf).
use Rattle.std.specs.Prelude.{ℕ, ◌%◌, ◌==◌, nat_le, Bool}
use Rattle.std.specs.List.{prefix_len}
use Rattle.pdf_runs.specs.declared.tables.TheConstants.{BOUNDS}

-- how many of the table's first bounds are at most a character
unfoldable pub bounds_up_to : ℕ → ℕ
bounds_up_to c = prefix_len (λ bound. nat_le bound c) BOUNDS

-- the table has where marks begin and where others begin, in turn
abbrev pub is_mark : ℕ → Bool
is_mark c = bounds_up_to c % 2 == 1

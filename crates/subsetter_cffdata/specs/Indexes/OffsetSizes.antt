-- How many bytes an offset takes (Technical Note 5176, section 3 "Data Types": OffSize).
use Rattle.std.specs.Prelude.{ℕ, ◌==◌, if◌then◌else◌, Option, Some, None}
use Rattle.subsetter_cffdata.specs.declared.indexes.offset_size.OffsetSize.{OffsetSize}
use Rattle.subsetter_cffdata.specs.declared.indexes.offset_size.OffsetSize.TheVariants.{Size1, Size2, Size3, Size4}

abbrev pub size_of : OffsetSize → ℕ
size_of Size1 = 1
size_of Size2 = 2
size_of Size3 = 3
size_of Size4 = 4

-- a size is 1 to 4
abbrev pub size_from : ℕ → Option OffsetSize
size_from b =
    if b == 1 then Some Size1
    else (if b == 2 then Some Size2 else (if b == 3 then Some Size3 else (if b == 4 then Some Size4 else None)))

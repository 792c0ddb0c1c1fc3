-- What the code's values of `name` mean.
use Rattle.std.specs.Prelude.{ℕ, List, map, Some}
use Rattle.std.specs.Borrow.{Bor}
use Rattle.subsetter_base.specs.Items.{values}
use Rattle.subsetter.specs.declared.common.name.Table.{Table as ReadTable}
use Rattle.subsetter.specs.declared.common.name.NewName.{NewName}
use Rattle.subsetter.specs.declared.common.name.NewName.TheVariants.{Copied, Kept}
use Rattle.subsetter.specs.Common.Name.Read.{NameTable, name_records_in}
use Rattle.subsetter_sfnt.specs.Fields.Name.{name_record_of}

-- what a list of slices points to
abbrev pub nows : List (Bor (List ℕ)) → List (List ℕ)
nows bs = map (λ (b : Bor (List ℕ)). b.now) bs

-- a table by its whole records
abbrev pub seen_parts : ReadTable → NameTable
seen_parts t = record { records = name_records_in t.records.count t.records.bytes; storage = t.storage.now }

-- the same by the records that a walk through it yields
abbrev pub seen_table : ReadTable → NameTable
seen_table t = record { records = values 12 (λ bytes. Some (name_record_of bytes)) t.records; storage = t.storage.now }

abbrev pub name_seen : NewName → List ℕ
name_seen (Copied bytes) = bytes.now
name_seen (Kept names) = names

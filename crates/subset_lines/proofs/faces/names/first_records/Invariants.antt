use Rattle.std.proofs.Common.{◌≡◌, ◌-◌, ℕ, nat_eq}
use Rattle.std.specs.HashMap.{get}
use Rattle.std.specs.Option.{option_map, option_or}
use Rattle.subset_lines.specs.Faces.Names.{first_name}
use Rattle.subsetter_sfnt.specs.Fields.Name.{name_record_of}
use Rattle.subset_lines.proofs.faces.names.first_records.Given as goal

abbrev pub invariant-loop-i : goal.invariant-loop-i
invariant-loop-i l = record {
  bytes : l.r.bytes ≡ l.table;
  rest : (id : ℕ) → option_or (get nat_eq l.records id) (option_map name_record_of (first_name l.kind id (l.count - l.i) l.table l.r.offset)) ≡ option_map name_record_of (first_name l.kind id l.count l.table 6);
}

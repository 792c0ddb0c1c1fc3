use Rattle.std.proofs.Common.{◌≡◌, ◌+◌, ◌-◌, ℕ, nat_eq, Some, None, rules, subst, sym}
use Rattle.std.specs.HashMap.{get}
use Rattle.std.specs.Option.{option_map, option_or}
use Rattle.subsetter_base.specs.Bytes.{range}
use Rattle.subsetter_sfnt.specs.Fields.Name.{name_record_of}
use Rattle.subset_lines.specs.Faces.Names.{first_name}
use Rattle.subset_lines.proofs.Listed.{record_later, record_cut}
use Rattle.subset_lines.proofs.faces.names.first_records.Goals as goal

pub returns-in_default : goal.returns-in_default
returns-in_default c =
    let cut : range c.args.table.now c.loop-i.r.offset 12 ≡ None = search rules in
    record_cut c.args.kind c.args.count c.loop-i.i c.args.table.now c.loop-i.r.offset (λ id. get nat_eq c.loop-i.records id) (λ id. option_map name_record_of (first_name c.args.kind id c.args.count c.args.table.now 6)) c.loop-i-test.true cut c.loop-i.invariant.rest

pub loop-i-preserved : goal.loop-i-preserved
loop-i-preserved c =
    let here : range c.args.table.now c.loop-i.r.offset 12 ≡ Some c.in-Some.bytes.now = search rules in
    let whole : c.read_bytes.new.self.bytes ≡ c.args.table.now = search rules in
    let moved : c.read_bytes.new.self.offset ≡ c.loop-i.r.offset + 12 = search rules in
    let later = record_later c.args.kind c.args.count c.loop-i.i c.args.table.now c.loop-i.r.offset c.in-Some.bytes.now (λ id. get nat_eq c.loop-i.records id) (λ id. get nat_eq c.add_record.new.records id) (λ id. option_map name_record_of (first_name c.args.kind id c.args.count c.args.table.now 6)) c.loop-i-test.true here c.in_ok-add_record.ensures c.loop-i.invariant.rest in
    record {
      bytes = whole;
      rest = λ id. subst (λ (at : ℕ). option_or (get nat_eq c.add_record.new.records id) (option_map name_record_of (first_name c.args.kind id (c.args.count - (c.loop-i.i + 1)) c.args.table.now at)) ≡ option_map name_record_of (first_name c.args.kind id c.args.count c.args.table.now 6)) (sym moved) (later id);
    }

use Rattle.std.proofs.Common.{◌≡◌, ◌++◌, length, ap, ◌∙◌, arith}
use Rattle.std.proofs.lemmas.List.{length-append}
use Rattle.subsetter_base.specs.Bytes.{aligned}
use Rattle.subsetter_sfnt.specs.Laying.Written.{record_bytes}
use Rattle.subsetter_sfnt.specs.View.{view}
use Rattle.subsetter_sfnt.proofs.Laws.LayingLaws.Written.{length-record, aligned_after, patched_in}
use Rattle.subsetter_sfnt.proofs.laying.construct.write_table.Goals as goal

pub new_record-bytes-requires-clause-len : goal.new_record-bytes-requires-clause-len
new_record-bytes-requires-clause-len g c = c.len.ensures.exact c.requires.at.1

pub overflow_cast-len : goal.overflow_cast-len
overflow_cast-len g c = omega (arith, c.len.ensures.exact c.requires.at.1, c.requires.at.1)

pub patch_bytes-requires : goal.patch_bytes-requires
patch_bytes-requires g c =
    let t = view g.T.TableBytes.bytes_of c.args.table.now in
    let out = c.args.out.now.items in
    let whole : c.align.new.out.items ≡ out ++ aligned 4 t.bytes = c.align.ensures.items ∙ ap (aligned 4) c.write_summed-sum.ensures.items ∙ aligned_after out t.bytes c.requires.multiple in
    omega (arith, c.requires.place, ap length whole, length-append out (aligned 4 t.bytes), ap length c.new_record-bytes.ensures, length-record c.args.at t c.requires.is_table)

pub returns-clause-record : goal.returns-clause-record
returns-clause-record g c =
    let t = view g.T.TableBytes.bytes_of c.args.table.now in
    let out = c.args.out.now.items in
    let whole : c.align.new.out.items ≡ out ++ aligned 4 t.bytes = c.align.ensures.items ∙ ap (aligned 4) c.write_summed-sum.ensures.items ∙ aligned_after out t.bytes c.requires.multiple in
    (patched_in out (aligned 4 t.bytes) (record_bytes c.args.at t) c.align.new.out.items c.new_record-bytes.result c.patch_bytes.new.out.items c.args.place 16 whole c.new_record-bytes.ensures (length-record c.args.at t c.requires.is_table) c.requires.place c.patch_bytes.ensures.items).front

pub returns-clause-items : goal.returns-clause-items
returns-clause-items g c =
    let t = view g.T.TableBytes.bytes_of c.args.table.now in
    let out = c.args.out.now.items in
    let whole : c.align.new.out.items ≡ out ++ aligned 4 t.bytes = c.align.ensures.items ∙ ap (aligned 4) c.write_summed-sum.ensures.items ∙ aligned_after out t.bytes c.requires.multiple in
    (patched_in out (aligned 4 t.bytes) (record_bytes c.args.at t) c.align.new.out.items c.new_record-bytes.result c.patch_bytes.new.out.items c.args.place 16 whole c.new_record-bytes.ensures (length-record c.args.at t c.requires.is_table) c.requires.place c.patch_bytes.ensures.items).following

pub returns-clause-len : goal.returns-clause-len
returns-clause-len g c =
    let t = view g.T.TableBytes.bytes_of c.args.table.now in
    let out = c.args.out.now.items in
    let whole : c.align.new.out.items ≡ out ++ aligned 4 t.bytes = c.align.ensures.items ∙ ap (aligned 4) c.write_summed-sum.ensures.items ∙ aligned_after out t.bytes c.requires.multiple in
    (patched_in out (aligned 4 t.bytes) (record_bytes c.args.at t) c.align.new.out.items c.new_record-bytes.result c.patch_bytes.new.out.items c.args.place 16 whole c.new_record-bytes.ensures (length-record c.args.at t c.requires.is_table) c.requires.place c.patch_bytes.ensures.items).len

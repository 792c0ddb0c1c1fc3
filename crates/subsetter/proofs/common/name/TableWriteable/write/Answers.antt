use Rattle.std.proofs.Common.{◌+◌, ◌*◌, ◌%◌, ◌++◌, ap, ◌∙◌, ℕ}
use Rattle.std.specs.Int.{w16, to_be_bytes}
use Rattle.subsetter.specs.Common.Name.View.{seen_table}
use Rattle.subsetter.proofs.CommonLaws.NameLaws.Written.{table_written}
use Rattle.subsetter.proofs.common.name.TableWriteable.write.Goals as goal

pub returns-clause-ok : goal.returns-clause-ok
returns-clause-ok c =
    let t = seen_table c.args.self.now in
    table_written c.args.w.now t.records t.storage c.write.new.self c.write-2.new.self c.write-3.new.self c.write_records.new.w c.extend.new.self
    c.in_ok-write.ensures.ok
    (c.in_ok-write-2.ensures.ok ∙ ap (λ (n : ℕ). c.write.new.self ++ to_be_bytes w16 n) c.count_records-count.ensures)
    (c.in_ok-write-3.ensures.ok ∙ ap (λ (n : ℕ). c.write-2.new.self ++ to_be_bytes w16 ((6 + 12 * n) % 65536)) c.count_records-count.ensures)
    c.in_ok-write_records.ensures.ok
    c.in_ok-extend.ensures.ok

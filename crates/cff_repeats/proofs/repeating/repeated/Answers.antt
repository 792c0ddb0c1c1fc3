use Rattle.std.proofs.Common.{length, sym}
use Rattle.std.proofs.lemmas.Result.{err_from_is_err_and}
use Rattle.subsetter_cff.specs.Read.Source.{cff_of}
use Rattle.subsetter_cff.proofs.WriteLaws.StepsAgree.{few_in_table, written_is}
use Rattle.cff_repeats.specs.Repeats.{repeated}
use Rattle.cff_repeats.proofs.Laid.{count_is, keeping_fails, made_is, parts_fail}
use Rattle.cff_repeats.proofs.repeating.repeated.Goals as goal

pub returns-in_err-kept : goal.returns-in_err-kept
returns-in_err-kept c =
    let p = err_from_is_err_and c.from_residual.result c.from_residual.ensures.1 in
    rw (p.1, p.2) (keeping_fails (cff_of c.args.table.now) c.args.figures.now c.in_err-kept.field-0.0 c.in_err-kept.ensures.err)

pub returns-in_err-new : goal.returns-in_err-new
returns-in_err-new c =
    let p = err_from_is_err_and c.from_residual-in_err-new.result c.from_residual-in_err-new.ensures.1 in
    rw (p.1, p.2) (parts_fail (cff_of c.args.table.now) c.args.figures.now c.in_ok-kept.kept c.in_ok-kept.ensures.ok c.in_ok-kept.ensures.small c.in_err-new.field-0.0 c.in_err-new.ensures.value)

pub write_table-requires-clause-font_dicts : goal.write_table-requires-clause-font_dicts
write_table-requires-clause-font_dicts c = few_in_table (cff_of c.args.table.now) c.in_ok-kept.kept.numbers.items c.in_ok-new.new c.in_ok-new.ensures.value

pub write_table-requires-clause-glyphs : goal.write_table-requires-clause-glyphs
write_table-requires-clause-glyphs c =
    sym (count_is (cff_of c.args.table.now) c.args.figures.now c.in_ok-kept.kept c.in_ok-kept.ensures.ok c.in_ok-kept.ensures.small c.in_ok-new.new c.in_ok-new.ensures.ends)

pub returns : goal.returns
returns c =
    let cff = cff_of c.args.table.now in
    let k = c.in_ok-kept.kept in
    let t = c.in_ok-new.new in
    let count = count_is cff c.args.figures.now k c.in_ok-kept.ensures.ok c.in_ok-kept.ensures.small t c.in_ok-new.ensures.ends in
    let made = made_is cff c.args.figures.now k c.in_ok-kept.ensures.ok c.in_ok-kept.ensures.small t c.in_ok-new.ensures.ends c.in_ok-new.ensures.char_strings c.in_ok-new.ensures.value in
    written_is (repeated cff c.args.figures.now) t c.write_table.result (length c.args.figures.now) made (sym count) c.write_table.ensures.value c.write_table.ensures.checked

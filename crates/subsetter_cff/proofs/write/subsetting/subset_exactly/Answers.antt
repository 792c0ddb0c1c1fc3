use Rattle.std.proofs.Common.{◌≡◌, Ok, ◌∙◌, sym, inl}
use Rattle.std.proofs.lemmas.Result.{err_from_is_err_and}
use Rattle.subsetter_base.specs.Gives.{Fails}
use Rattle.subsetter_cff.specs.Read.Opened.{opened}
use Rattle.subsetter_cff.specs.Read.Source.{cff_of}
use Rattle.subsetter_cff.specs.Write.Laying.TableBy.{table_bytes}
use Rattle.subsetter_cff.proofs.WriteLaws.StepsAgree.{opening_fails, keeping_fails_within, given_within, privates_fail_within, steps_are, parts_fail, few_in_table, made_is, written_is, count_is}
use Rattle.subsetter_cff.proofs.write.subsetting.subset_exactly.Goals as goal

pub returns-in-Err : goal.returns-in-Err
returns-in-Err c =
    let fails : Fails c.in-Err.error (opened c.args.table.now) = rw c.in-Err.is at c.parse-opened.ensures.value in
    inl (opening_fails c.args.table.now c.args.limits.tokens c.args.limits.depth c.args.mapper.now c.in-Err.error fails)

pub returns-in_err-kept : goal.returns-in_err-kept
returns-in_err-kept c =
    let p = err_from_is_err_and c.from_residual.result c.from_residual.ensures.1 in
    let is : opened c.args.table.now ≡ Ok (cff_of c.in-Ok.source) = rw c.in-Ok.is at c.parse-opened.ensures.value in
    rw (p.1, p.2) (keeping_fails_within c.args.limits.bytes c.args.table.now (cff_of c.in-Ok.source) c.args.limits.tokens c.args.limits.depth c.args.mapper.now c.in_err-kept.field-0.0 is c.in_err-kept.ensures.err)

pub returns : goal.returns
returns c =
    let is : opened c.args.table.now ≡ Ok (cff_of c.in-Ok.source) = rw c.in-Ok.is at c.parse-opened.ensures.value in
    let steps = steps_are c.args.table.now (cff_of c.in-Ok.source) c.args.limits.tokens c.args.limits.depth c.args.mapper.now c.in_ok-kept.kept is c.in_ok-kept.ensures.ok c.in_ok-kept.ensures.small in
    inl (parts_fail c.args.table.now (cff_of c.in-Ok.source) c.args.limits.tokens c.args.limits.depth c.args.mapper.now c.in_ok-kept.kept.numbers.items c.in_ok-kept.kept c.in-Err-new_table_of.error steps c.in-Err-new_table_of.ensures.value)

pub write_table-requires-clause-font_dicts : goal.write_table-requires-clause-font_dicts
write_table-requires-clause-font_dicts c = few_in_table (cff_of c.in-Ok.source) c.in_ok-kept.kept.numbers.items c.in-Ok-new_table_of.new c.in-Ok-new_table_of.ensures.value

pub write_table-requires-clause-glyphs : goal.write_table-requires-clause-glyphs
write_table-requires-clause-glyphs c =
    c.num_gids.ensures.count ∙ sym (count_is (cff_of c.in-Ok.source) c.args.limits.tokens c.args.limits.depth c.args.mapper.now c.in_ok-kept.kept c.in-Ok-new_table_of.new c.in_ok-kept.ensures.ok c.in-Ok-new_table_of.ensures.ends)

pub returns-in-Ok-new_table_of : goal.returns-in-Ok-new_table_of
returns-in-Ok-new_table_of c =
    let cff = cff_of c.in-Ok.source in
    let k = c.in_ok-kept.kept in
    let t = c.in-Ok-new_table_of.new in
    let is : opened c.args.table.now ≡ Ok (cff_of c.in-Ok.source) = rw c.in-Ok.is at c.parse-opened.ensures.value in
    let steps = steps_are c.args.table.now cff c.args.limits.tokens c.args.limits.depth c.args.mapper.now k is c.in_ok-kept.ensures.ok c.in_ok-kept.ensures.small in
    let made = made_is c.args.table.now cff c.args.limits.tokens c.args.limits.depth c.args.mapper.now k.numbers.items k t steps c.in-Ok-new_table_of.ensures.value c.in-Ok-new_table_of.ensures.char_strings c.in-Ok-new_table_of.ensures.ends in
    let count = c.num_gids.ensures.count ∙ sym (count_is cff c.args.limits.tokens c.args.limits.depth c.args.mapper.now k t c.in_ok-kept.ensures.ok c.in-Ok-new_table_of.ensures.ends) in
    given_within table_bytes c.args.limits.bytes c.write_table.result _ (written_is _ t c.write_table.result c.num_gids.result made count c.write_table.ensures.value c.write_table.ensures.checked)

pub returns-in_err-judge_privates-in-Ok-new_table_of : goal.returns-in_err-judge_privates-in-Ok-new_table_of
returns-in_err-judge_privates-in-Ok-new_table_of c =
    let cff = cff_of c.in-Ok.source in
    let k = c.in_ok-kept.kept in
    let t = c.in-Ok-new_table_of.new in
    let p = err_from_is_err_and c.from_residual-in_err-judge_privates-in-Ok-new_table_of.result c.from_residual-in_err-judge_privates-in-Ok-new_table_of.ensures.1 in
    let is : opened c.args.table.now ≡ Ok (cff_of c.in-Ok.source) = rw c.in-Ok.is at c.parse-opened.ensures.value in
    let steps = steps_are c.args.table.now cff c.args.limits.tokens c.args.limits.depth c.args.mapper.now k is c.in_ok-kept.ensures.ok c.in_ok-kept.ensures.small in
    let made = made_is c.args.table.now cff c.args.limits.tokens c.args.limits.depth c.args.mapper.now k.numbers.items k t steps c.in-Ok-new_table_of.ensures.value c.in-Ok-new_table_of.ensures.char_strings c.in-Ok-new_table_of.ensures.ends in
    rw (p.1, p.2) (privates_fail_within c.args.limits.bytes _ t c.in_err-judge_privates-in-Ok-new_table_of.field-0.0 made c.in_err-judge_privates-in-Ok-new_table_of.ensures.err)

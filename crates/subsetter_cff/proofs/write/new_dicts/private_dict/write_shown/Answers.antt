use Rattle.std.proofs.Common.{◌≡◌, ℕ, List, ◌++◌, Some, Ok, map, sym, ◌∙◌, ap, refl}
use Rattle.std.proofs.lemmas.Result.{err_from_is_err_and}
use Rattle.subsetter_cffdata.specs.Dicts.Dict.{entry_bytes, operand_limit}
use Rattle.subsetter_cffdata.specs.Dicts.Operands.{operands_at}
use Rattle.subsetter_cffdata.specs.Dicts.ParserView.{left}
use Rattle.subsetter_cffdata.specs.Numerals.Numbers.{Number}
use Rattle.subsetter_cffdata.specs.Views.{number_of, operator_of}
use Rattle.subsetter_base.specs.Gives.{following}
use Rattle.subsetter_cffdata.specs.Dicts.Plain.{plain_entry}
use Rattle.subsetter_cff.specs.Write.Laying.TableLimits.{limit, short}
use Rattle.subsetter_cff.specs.Write.NewDicts.Rewritten.{written_entry, rewritten_private}
use Rattle.subsetter_cff.proofs.ReadLaws.Failing.{fails_on, goes_on}
use Rattle.subsetter_cff.proofs.WriteLaws.LayingLaws.Checked.{entry_checked}
use Rattle.subsetter_cff.proofs.WriteLaws.NewDictsLaws.Rewriting.{shorter, left_out, taken_by}
use Rattle.subsetter_cff.proofs.write.new_dicts.private_dict.write_shown.Goals as goal

-- an entry whose numbers keep the limit is written
entry_is_written : (front operator : List ℕ) (xs : List Number) (new : List ℕ) → limit (short xs) ≡ Ok tt → new ≡ front ++ entry_bytes (plain_entry operator xs) → following front (written_entry operator xs) ≡ Ok new
entry_is_written front operator xs new kept same = sym (goes_on _ _ _ tt (entry_checked front operator xs) kept) ∙ ap (λ (l : List ℕ). Ok l) (sym same)

pub returns-then-is_subroutines-clause-ok : goal.returns-then-is_subroutines-clause-ok
unfolding rewritten_private
returns-then-is_subroutines-clause-ok c =
    let operator = operator_of c.args.operator in (
      sym (left_out c.args.w.now c.args.bytes.now operator (left c.args.parser.now) c.requires.entry (sym c.is_subroutines.ensures ∙ c.if-is_subroutines.true)),
      shorter c.args.bytes.now operator (left c.args.parser.now) c.requires.entry,
    )

pub returns-clause-ok : goal.returns-clause-ok
unfolding rewritten_private
returns-clause-ok c =
    let operator = operator_of c.args.operator in
    let xs = map number_of c.operands.result.now in
    let are : Some xs ≡ operands_at operand_limit c.args.bytes.now = ap Some c.operands.ensures ∙ c.requires.shown in
    let taken = taken_by c.args.w.now c.args.bytes.now operator (left c.args.parser.now) operand_limit xs c.requires.entry (sym c.is_subroutines.ensures ∙ c.if-is_subroutines.false) refl are in (
      goes_on _ _ _ c.write_numbers.new.w taken (entry_is_written c.args.w.now operator xs c.write_numbers.new.w c.in_ok-write_numbers.ensures.checked c.in_ok-write_numbers.ensures.ok),
      shorter c.args.bytes.now operator (left c.args.parser.now) c.requires.entry,
    )

pub returns-in_err-write_numbers-clause-err : goal.returns-in_err-write_numbers-clause-err
unfolding rewritten_private
returns-in_err-write_numbers-clause-err c =
    let p = err_from_is_err_and c.from_residual.result c.from_residual.ensures.1 in
    let operator = operator_of c.args.operator in
    let xs = map number_of c.operands.result.now in
    let are : Some xs ≡ operands_at operand_limit c.args.bytes.now = ap Some c.operands.ensures ∙ c.requires.shown in
    let taken = taken_by c.args.w.now c.args.bytes.now operator (left c.args.parser.now) operand_limit xs c.requires.entry (sym c.is_subroutines.ensures ∙ c.if-is_subroutines.false) refl are in
    rw (p.1, p.2) (fails_on _ _ _ c.in_err-write_numbers.field-0.0 taken (fails_on _ _ _ c.in_err-write_numbers.field-0.0 (entry_checked c.args.w.now operator xs) c.in_err-write_numbers.ensures.checked))

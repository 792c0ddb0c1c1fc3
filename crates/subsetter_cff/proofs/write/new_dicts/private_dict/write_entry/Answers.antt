use Rattle.std.proofs.Common.{◌≡◌, ℕ, List, Some, drop, length, rules, arith, sym, ◌∙◌, ap, subst}
use Rattle.std.proofs.lemmas.List.{length-map}
use Rattle.std.proofs.lemmas.Result.{err_from_is_err_and}
use Rattle.subsetter_cffdata.specs.Dicts.Dict.{entry_at}
use Rattle.subsetter_cffdata.specs.Dicts.Operands.{operands_at}
use Rattle.subsetter_cffdata.specs.Dicts.ParserView.{left, shown}
use Rattle.subsetter_cffdata.specs.Dicts.Tokens.{operator_part}
use Rattle.subsetter_cffdata.specs.Views.{number_of}
use Rattle.subsetter_cff.specs.Write.NewDicts.Rewritten.{rewritten_private, Rewrites}
use Rattle.subsetter_cff.proofs.WriteLaws.NewDictsLaws.Rewriting.{at_end, few_operands}
use Rattle.subsetter_cff.proofs.write.new_dicts.private_dict.write_entry.Goals as goal

-- no entry can be read
pub returns-in_default-clause-ok : goal.returns-in_default-clause-ok
unfolding rewritten_private
returns-in_default-clause-ok c = at_end c.args.w.now c.args.bytes.now (ap (λ (l : List ℕ). operator_part (entry_at l)) (sym c.new-parser.ensures.left) ∙ c.in_default.ensures.value)

pub write_shown-requires-clause-entry : goal.write_shown-requires-clause-entry
write_shown-requires-clause-entry c = ap (λ (l : List ℕ). operator_part (entry_at l)) (sym c.new-parser.ensures.left) ∙ c.in-Some.ensures.value

pub write_shown-requires-clause-shown : goal.write_shown-requires-clause-shown
write_shown-requires-clause-shown c =
    let p = c.new-parser.result in
    let room : length p.operands.now ≡ 2 = search rules in
    few_operands c.args.bytes.now (shown c.parse_entry.new.self) (c.in-Some.ensures.operands ∙ ap (λ (n : ℕ). operands_at n (left p)) room ∙ ap (operands_at 2) c.new-parser.ensures.left)
    (λ h. c.if-operands-eq2.false (omega (arith, h, length-map c.operands.result.now number_of, ap length c.operands.ensures)))

pub returns-in_err-write_shown-clause-err : goal.returns-in_err-write_shown-clause-err
returns-in_err-write_shown-clause-err c =
    let p = err_from_is_err_and c.from_residual.result c.from_residual.ensures.1 in
    rw (p.1, p.2) c.in_err-write_shown.ensures.err

pub returns-clause-ok : goal.returns-clause-ok
returns-clause-ok c =
    let p = c.parse_entry.new.self in
    let is : c.bytes_from.result.now ≡ left p = c.bytes_from.ensures ∙ ap (λ (n : ℕ). drop n c.args.bytes.now) c.next_offset.ensures ∙ ap (λ (l : List ℕ). drop p.offset l) (sym (c.in-Some.ensures.same ∙ c.new-parser.ensures.same)) in
    subst (λ (l : List ℕ). Rewrites c.args.w.now c.args.bytes.now c.write_shown.new.w (Some l)) (sym is) c.in_ok-write_shown.ensures.ok

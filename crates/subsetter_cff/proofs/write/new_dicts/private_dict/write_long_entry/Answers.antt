use Rattle.std.proofs.Common.{◌≡◌, ℕ, List, Some, drop, length, rules, sym, ◌∙◌, ap, subst}
use Rattle.std.proofs.lemmas.Result.{err_from_is_err_and}
use Rattle.subsetter_cffdata.specs.Dicts.Dict.{entry_at}
use Rattle.subsetter_cffdata.specs.Dicts.Operands.{operands_at}
use Rattle.subsetter_cffdata.specs.Dicts.ParserView.{left}
use Rattle.subsetter_cffdata.specs.Dicts.Tokens.{operator_part}
use Rattle.subsetter_cff.specs.Write.NewDicts.Rewritten.{rewritten_private, Rewrites}
use Rattle.subsetter_cff.proofs.WriteLaws.NewDictsLaws.Rewriting.{at_end}
use Rattle.subsetter_cff.proofs.write.new_dicts.private_dict.write_long_entry.Goals as goal

-- no entry can be read
pub returns-in_default-clause-ok : goal.returns-in_default-clause-ok
unfolding rewritten_private
returns-in_default-clause-ok c = at_end c.args.w.now c.args.bytes.now (ap (λ (l : List ℕ). operator_part (entry_at l)) (sym c.new-parser.ensures.left) ∙ c.in_default.ensures.value)

pub write_shown-requires-clause-entry : goal.write_shown-requires-clause-entry
write_shown-requires-clause-entry c = ap (λ (l : List ℕ). operator_part (entry_at l)) (sym c.new-parser.ensures.left) ∙ c.in-Some.ensures.value

pub write_shown-requires-clause-shown : goal.write_shown-requires-clause-shown
write_shown-requires-clause-shown c =
    let p = c.new-parser.result in
    let room : length p.operands.now ≡ 48 = search rules in
    c.in-Some.ensures.operands ∙ ap (λ (n : ℕ). operands_at n (left p)) room ∙ ap (operands_at 48) c.new-parser.ensures.left

pub returns-in_err-write_shown-clause-err : goal.returns-in_err-write_shown-clause-err
returns-in_err-write_shown-clause-err c =
    let p = err_from_is_err_and c.from_residual.result c.from_residual.ensures.1 in
    rw (p.1, p.2) c.in_err-write_shown.ensures.err

pub returns-clause-ok : goal.returns-clause-ok
returns-clause-ok c =
    let p = c.parse_entry.new.self in
    let is : c.bytes_from.result.now ≡ left p = c.bytes_from.ensures ∙ ap (λ (n : ℕ). drop n c.args.bytes.now) c.next_offset.ensures ∙ ap (λ (l : List ℕ). drop p.offset l) (sym (c.in-Some.ensures.same ∙ c.new-parser.ensures.same)) in
    subst (λ (l : List ℕ). Rewrites c.args.w.now c.args.bytes.now c.write_shown.new.w (Some l)) (sym is) c.in_ok-write_shown.ensures.ok

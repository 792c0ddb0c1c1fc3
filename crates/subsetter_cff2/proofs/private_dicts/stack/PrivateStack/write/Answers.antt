use Rattle.std.proofs.Common.{List, ◌∙◌, ap, sym, take, map}
use Rattle.std.proofs.lemmas.Result.{err_from_is_err_and}
use Rattle.subsetter_cffdata.specs.Numerals.Numbers.{Number}
use Rattle.subsetter_cffdata.specs.declared.numerals.number.Number.{Number as StoredNumber}
use Rattle.subsetter_cffdata.specs.Views.{number_of, operator_of}
use Rattle.subsetter_cff.specs.Write.NewDicts.Rewritten.{written_entry}
use Rattle.subsetter_base.specs.Gives.{following}
use Rattle.subsetter_cff2.specs.PrivateDicts.PrivateAt.{Registers, placed_numbers}
use Rattle.subsetter_cff2.proofs.PrivateDictsLaws.PrivateWrites.{placed_first, first_err}
use Rattle.subsetter_cff2.proofs.private_dicts.stack.PrivateStack.write.Goals as goal

pub returns-clause-ok : goal.returns-clause-ok
returns-clause-ok c =
    let first = placed_first c.args.is_array c.self.inside.len c.min-len.result c.self.inside.defaults.items c.self.inside.parts c.min-len.ensures in
    let same =
    ap (λ (items : List StoredNumber). placed_numbers c.args.is_array (map number_of (take c.min-len.result items)) (take c.min-len.result c.self.inside.parts)) c.deref_mut.ensures.value
    ∙ first ∙ ap (λ (r : Registers). placed_numbers c.args.is_array (take 48 r.defaults) (take 48 r.parts)) c.self.view_is in
    ap (λ (xs : List Number). following c.args.w.now (written_entry (operator_of c.args.operator) xs)) (sym same) ∙ c.in_ok-write_front.ensures.ok

pub returns-in_err-write_front-clause-err : goal.returns-in_err-write_front-clause-err
returns-in_err-write_front-clause-err c =
    let first = placed_first c.args.is_array c.self.inside.len c.min-len.result c.self.inside.defaults.items c.self.inside.parts c.min-len.ensures in
    let same =
    ap (λ (items : List StoredNumber). placed_numbers c.args.is_array (map number_of (take c.min-len.result items)) (take c.min-len.result c.self.inside.parts)) c.deref_mut.ensures.value
    ∙ first ∙ ap (λ (r : Registers). placed_numbers c.args.is_array (take 48 r.defaults) (take 48 r.parts)) c.self.view_is in
    let p = err_from_is_err_and c.from_residual.result c.from_residual.ensures.1 in
    rw (p.1, p.2) (first_err c.in_err-write_front.field-0.0 c.args.w.now (operator_of c.args.operator) _ _ same c.in_err-write_front.ensures.err)

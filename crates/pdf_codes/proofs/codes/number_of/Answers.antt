use Rattle.std.proofs.Common.{◌≡◌, false, ap, refl, ◌∙◌, inr, rules, arith}
use Rattle.std.specs.Prelude.{is_some, not}
use Rattle.pdf_codes.proofs.Pairs.{grown, list_put, none_found, number_put}
use Rattle.pdf_codes.proofs.codes.number_of.Goals as goal

pub returns-clause-list : goal.returns-clause-list
returns-clause-list c = search (rules, list_put)

pub returns-clause-number : goal.returns-clause-number
returns-clause-number c = search (rules, number_put)

pub returns-then-is_none-clause-err : goal.returns-then-is_none-clause-err
returns-then-is_none-clause-err c =
    let absent : is_some c.get.result ≡ false = c.is_none.ensures ∙ ap not c.if-is_none.true in
    inr (refl, omega (arith, grown c.args.pairs.now c.args.pair (none_found c.get.result _ _ absent c.get.ensures), c.len.ensures.count, c.if-len-eq65535.true))

use Rattle.std.proofs.Common.{rules, arith, ◌≡◌, length, get_or, []}
use Rattle.std.proofs.lemmas.Grind.{common_steps}
use Rattle.subsetter_base.specs.Texts.{views}
use Rattle.pdf_codes.proofs.CmapsLaws.TextSteps.{empty_at, written_at}
use Rattle.pdf_codes.proofs.cmaps.texts.put.Goals as goal

pub returns-then-is_empty-clause-put : goal.returns-then-is_empty-clause-put
returns-then-is_empty-clause-put c =
    let is : c.from-code.result ≡ c.args.line.code = search rules in
    let none : length (get_or (views c.args.texts.now.items) c.from-code.result []) ≡ 0 = grind (arith, common_steps, empty_at) in
    written_at c.args.texts.now.items c.args.line c.from-code.result is c.requires none

use Rattle.std.proofs.Common.{rules, ◌≡◌, ◌++◌, Bool, length, take, drop, ap, ◌∙◌}
use Rattle.pdf_runs.specs.Words.{groups}
use Rattle.pdf_operators.specs.Order.{is_turned, turned}
use Rattle.pdf_operators.proofs.PartLaws.{groups_turned, turned_whole}
use Rattle.pdf_operators.proofs.runs.run_parts.Goals as goal

pub returns-clause-ok : goal.returns-clause-ok
returns-clause-ok c =
    let b = is_turned c.args.direction c.args.order in
    let found = c.in_ok-parts.parts.items in
    let long : length found ≡ c.in_ok-parts.parts.len = search rules in
    let whole : take c.in_ok-parts.parts.len (c.turn_parts.new.parts ++ drop (length c.turn_parts.new.parts) found) ≡ turned b found = turned_whole b c.in_ok-parts.parts.len found c.turn_parts.new.parts long (c.turn_parts.ensures ∙ ap (λ (t : Bool). turned t c.deref_mut.result.now) c.is_turned.ensures ∙ ap (turned b) c.deref_mut.ensures.value) in
    ap groups whole ∙ groups_turned b found ∙ ap (turned b) c.in_ok-parts.ensures.ok

use Rattle.subsetter_c.specs.Documents.Runs.{IsRunShownIn, IsRunUnshownIn}
use Rattle.subsetter_c.proofs.DocumentsLaws.Runs.{items_shown, items_unshown, run_handed}
use Rattle.subsetter_c.proofs.documents.runs.text_show_run.Goals as goal

pub returns-clause-made : goal.returns-clause-made
returns-clause-made c = λ known.
    let t = c.args.text.now in
    let is = c.args.items.now in
    let cs = c.args.characters.now in
    let d = c.args.direction in
    let o = c.args.order in
    run_handed (IsRunShownIn t is cs d o c.args.size) (IsRunUnshownIn t is cs d o) c.show_items-answer.result t c.hand_run.new.text c.hand_run.new.made c.hand_run.new.left c.hand_run.result
    (items_shown t d o c.font_of-font.result c.choice_of-choice.result c.direction_of-direction.result c.order_of-order.result c.font_of-font.ensures c.choice_of-choice.ensures c.direction_of-direction.ensures c.order_of-order.ensures is cs c.args.size c.show_items-answer.result c.show_items-answer.ensures.ok)
    (items_unshown t d o c.font_of-font.result c.choice_of-choice.result c.direction_of-direction.result c.order_of-order.result c.font_of-font.ensures c.choice_of-choice.ensures c.direction_of-direction.ensures c.order_of-order.ensures is cs c.show_items-answer.result c.show_items-answer.ensures.err)
    c.hand_run.ensures

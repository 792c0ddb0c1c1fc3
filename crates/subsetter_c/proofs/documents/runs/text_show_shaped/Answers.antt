use Rattle.subsetter_c.specs.Documents.Runs.{IsTextShownIn, IsTextUnshownIn}
use Rattle.subsetter_c.proofs.DocumentsLaws.Runs.{run_handed, text_shown, text_unshown}
use Rattle.subsetter_c.proofs.documents.runs.text_show_shaped.Goals as goal

pub returns-clause-made : goal.returns-clause-made
returns-clause-made c = λ known.
    let t = c.args.text.now in
    let w = c.args.width in
    let a = c.args.utf8.now in
    let b = c.args.utf16.now in
    let e = c.args.utf32.now in
    let gs = c.args.glyphs.now in
    let d = c.args.direction in
    let o = c.args.order in
    run_handed (IsTextShownIn t w a b e gs d o c.args.size) (IsTextUnshownIn t w a b e gs d o) c.show_shaped-answer.result t c.hand_run.new.text c.hand_run.new.made c.hand_run.new.left c.hand_run.result
    (text_shown t d o c.font_of-font.result c.choice_of-choice.result c.direction_of-direction.result c.order_of-order.result c.font_of-font.ensures c.choice_of-choice.ensures c.direction_of-direction.ensures c.order_of-order.ensures w a b e c.in-Some.units c.in-Some.ensures.1 gs c.args.size c.show_shaped-answer.result c.show_shaped-answer.ensures.ok)
    (text_unshown t d o c.font_of-font.result c.choice_of-choice.result c.direction_of-direction.result c.order_of-order.result c.font_of-font.ensures c.choice_of-choice.ensures c.direction_of-direction.ensures c.order_of-order.ensures w a b e c.in-Some.units c.in-Some.ensures.1 gs c.show_shaped-answer.result c.show_shaped-answer.ensures.err)
    c.hand_run.ensures

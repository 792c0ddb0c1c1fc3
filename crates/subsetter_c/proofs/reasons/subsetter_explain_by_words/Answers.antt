use Rattle.subsetter_c.specs.Reasons.{call_named, explained_text}
use Rattle.subsetter_c.specs.Settings.{settings_of}
use Rattle.subsetter_c.proofs.TextsHanded.{explained_handed}
use Rattle.subsetter_c.proofs.reasons.subsetter_explain_by_words.Goals as goal

pub returns-in-Some-Some-clause-text : goal.returns-in-Some-Some-clause-text
returns-in-Some-Some-clause-text c = λ known are.
    explained_handed c.in-Some-Some.call (call_named c.args.call) (λ k. explained_text k c.args.status c.args.font.now c.args.index (settings_of c.args.coordinates.now) c.args.glyphs.now c.args.options.now)
    c.text_by.result c.args.out.now c.hand_text.new.buffer c.hand_text.new.told c.hand_text.result c.in-Some-Some.ensures.1 c.text_by.ensures.ok c.text_by.ensures.err c.hand_text.ensures

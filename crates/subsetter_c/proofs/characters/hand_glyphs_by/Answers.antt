use Rattle.std.proofs.Common.{◌≡◌, List, ℕ, map}
use Rattle.subsetter_base.specs.declared.error.Error.TheVariants.{OutOfMemory}
use Rattle.text_glyphs.specs.Choice.{character_glyph}
use Rattle.text_glyphs.specs.View.{source_view}
use Rattle.subsetter_c.proofs.AnswersLaws.Bytes.{answer_handed}
use Rattle.subsetter_c.proofs.characters.hand_glyphs_by.Goals as goal

pub returns-in-Some-clause-some : goal.returns-in-Some-clause-some
returns-in-Some-clause-some c =
    rw c.in-Some.is (answer_handed (λ (found : List ℕ). found ≡ map (character_glyph (source_view c.in-Some.source).table) c.args.text.now) (λ e. e ≡ OutOfMemory) c.glyphs_by.result c.args.glyphs.now c.hand_glyphs.new.buffer c.hand_glyphs.new.told c.hand_glyphs.result c.glyphs_by.ensures.ok c.glyphs_by.ensures.err c.hand_glyphs.ensures)

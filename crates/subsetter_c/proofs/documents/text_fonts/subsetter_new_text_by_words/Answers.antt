use Rattle.std.proofs.Common.{◌&&◌}
use Rattle.subsetter_sfnt.specs.Extras.{all_extras}
use Rattle.subsetter_sfnt.specs.FontAt.{font_at}
use Rattle.subsetter_c.specs.Documents.TextFonts.{chosen_by, is_horizontal, makes_own}
use Rattle.subsetter_c.specs.Settings.{settings_of}
use Rattle.subsetter_c.proofs.DocumentsLaws.Runs.{text_read}
use Rattle.subsetter_c.proofs.documents.text_fonts.subsetter_new_text_by_words.Goals as goal

pub returns-in-Some-clause-unknown : goal.returns-in-Some-clause-unknown
returns-in-Some-clause-unknown c = λ own no. absurd (no c.in-Some.ensures.0)

pub returns-in-Some-clause-made : goal.returns-in-Some-clause-made
returns-in-Some-clause-made c = λ own known.
    let o = c.in-Some.chosen in
    record {
      options = o;
      chosen = c.in-Some.ensures.1;
      handed = text_read c.kept_by-answer.result (chosen_by (makes_own c.args.options.now && is_horizontal o.direction) o.direction o.limits (font_at c.args.font.now c.args.index all_extras) (settings_of c.args.coordinates.now)) c.args.font.now c.args.index c.args.coordinates.now o.direction c.hand_text.new.made c.hand_text.result
          c.kept_by-answer.ensures.seen c.kept_by-answer.ensures.coordinates c.hand_text.ensures;
    }

pub returns-in-None-clause-made : goal.returns-in-None-clause-made
returns-in-None-clause-made c = λ own known. absurd (c.in-None.ensures known)

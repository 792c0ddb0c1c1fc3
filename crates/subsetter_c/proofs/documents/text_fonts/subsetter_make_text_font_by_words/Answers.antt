use Rattle.std.proofs.Common.{inl, refl, subst}
use Rattle.pdf_source.specs.declared.choice.FontOptions.{FontOptions}
use Rattle.subsetter_c.specs.Documents.TextFonts.{HasNoTextFont, IsTextFontHandedBy, IsTextFontOf}
use Rattle.subsetter_c.proofs.DocumentsLaws.Runs.{text_font_handed}
use Rattle.subsetter_c.proofs.documents.text_fonts.subsetter_make_text_font_by_words.Goals as goal

pub returns-in-Some-clause-unknown : goal.returns-in-Some-clause-unknown
returns-in-Some-clause-unknown c = λ own no. absurd (no c.in-Some.ensures.0)

pub returns-in-Some-clause-made : goal.returns-in-Some-clause-made
returns-in-Some-clause-made c = λ own there known.
    let t = c.args.text.now in
    record {
      options = c.in-Some.options;
      chosen = c.in-Some.ensures.1;
      handed = subst (λ (o : FontOptions). IsTextFontHandedBy (IsTextFontOf t o) (HasNoTextFont t o) c.hand_font.new.made c.hand_font.result) c.directed-options.ensures (text_font_handed (IsTextFontOf t c.directed-options.result) (HasNoTextFont t c.directed-options.result) c.font_for.result c.hand_font.new.made c.hand_font.result c.font_for.ensures.ok c.font_for.ensures.err (inl refl) c.hand_font.ensures);
    }

pub returns-in-None-clause-made : goal.returns-in-None-clause-made
returns-in-None-clause-made c = λ own there known. absurd (c.in-None.ensures known)

use Rattle.std.proofs.Common.{◌<◌, ◌++◌, ℕ, ap, ◌∙◌, subst, arith}
use Rattle.subsetter_base.specs.Texts.{utf16}
use Rattle.pdf_text.specs.Cmaps.Cmap.{words}
use Rattle.pdf_operators.proofs.Elements.{All-more, All-seen}
use Rattle.pdf_operators.proofs.RunSteps.{character_put}
use Rattle.pdf_operators.proofs.hex.write_characters.Goals as goal

pub loop-character-preserved : goal.loop-character-preserved
loop-character-preserved c =
    let cs = c.args.characters.now in
    let k = c.loop-character.character-index in
    let e = c.character-item.result in
    let so_far = c.loop-character.text.items in
    let small : e < 1114112 = c.write_character.ensures.character in
    record {
      so_far = character_put cs k e so_far c.write_character.new.text.items _ c.loop-character-test.true (c.in_ok-write_character.ensures.ok ∙ ap (λ (n : ℕ). so_far ++ words (utf16 n)) c.character-item.is) c.loop-character.invariant.so_far;
      seen = All-more (λ (n : ℕ). n < 1114112) cs k e c.loop-character-test.true (subst (λ (n : ℕ). n < 1114112) c.character-item.is small) c.loop-character.invariant.seen;
    }

pub returns-clause-characters : goal.returns-clause-characters
returns-clause-characters c = All-seen (λ n. n < 1114112) c.args.characters.now c.loop-character.character-index (omega arith) c.loop-character.invariant.seen

use Rattle.std.proofs.Common.{◌++◌, ◌/◌, ◌%◌, map, ap, ◌∙◌}
use Rattle.std.specs.Prelude.{codes, ◌==◌}
use Rattle.subset_lines.specs.Faces.Info.{has_bit, word_if}
use Rattle.subset_lines.proofs.Words.{word_next, word_last}
use Rattle.subset_lines.proofs.faces.info.face.words_of_bits.Goals as goal

pub returns : goal.returns
returns c =
    let installable = word_if (c.args.bits % 16 / 2 == 0) (codes "installable embedding") in
    let restricted = word_if (has_bit c.args.bits 2) (codes "restricted license embedding") in
    let preview = word_if (has_bit c.args.bits 4) (codes "preview and print embedding") in
    let editable = word_if (has_bit c.args.bits 8) (codes "editable embedding") in
    let whole = word_if (has_bit c.args.bits 256) (codes "no subsetting") in
    let w1 = c.in_ok-words.ensures ∙ ap (λ l. map (λ w. w.now) l ++ installable) c.new-words.ensures.items in
    let w2 = word_next (map (λ w. w.now) c.in_ok-words.words.items) installable (map (λ w. w.now) c.in_ok-words-2.words.items) c.has_bit.result (has_bit c.args.bits 2) (codes "restricted license embedding") c.in_ok-words-2.ensures w1 c.has_bit.ensures in
    let w3 = word_next (map (λ w. w.now) c.in_ok-words-2.words.items) (installable ++ restricted) (map (λ w. w.now) c.in_ok-words-3.words.items) c.has_bit-2.result (has_bit c.args.bits 4) (codes "preview and print embedding") c.in_ok-words-3.ensures w2 c.has_bit-2.ensures in
    let w4 = word_next (map (λ w. w.now) c.in_ok-words-3.words.items) (installable ++ restricted ++ preview) (map (λ w. w.now) c.in_ok-words-4.words.items) c.has_bit-3.result (has_bit c.args.bits 8) (codes "editable embedding") c.in_ok-words-4.ensures w3 c.has_bit-3.ensures in
    let w5 = word_next (map (λ w. w.now) c.in_ok-words-4.words.items) (installable ++ restricted ++ preview ++ editable) (map (λ w. w.now) c.in_ok-words-5.words.items) c.has_bit-4.result (has_bit c.args.bits 256) (codes "no subsetting") c.in_ok-words-5.ensures w4 c.has_bit-4.ensures in
    word_last c.with_word-6.result (λ v. map (λ w. w.now) v.items) (map (λ w. w.now) c.in_ok-words-5.words.items) (installable ++ restricted ++ preview ++ editable ++ whole) c.has_bit-5.result (has_bit c.args.bits 512) (codes "bitmap embedding only") c.with_word-6.ensures w5 c.has_bit-5.ensures

use Rattle.std.proofs.Common.{◌≡◌, arith, ◌++◌, ◌∙◌, ap, List, ℕ, length}
use Rattle.subsetter_cff.specs.Write.Glyphs.FlatIndex.{flat_header}
use Rattle.subsetter_cff.proofs.WriteLaws.LayingLaws.TablesWritten.{whole_written}
use Rattle.subsetter_cff.proofs.write.laying.writing.write_table.Goals as goal

pub returns-clause-value : goal.returns-clause-value
returns-clause-value c =
    let t = c.args.table in
    let size : c.len.result ≡ length t.char_strings.items = omega (arith, c.len.ensures) in
    ap (λ (l : List ℕ). l ++ t.char_strings.items) c.finish.ensures
    ∙ whole_written t c.in_ok-remapper.remapper.texts c.args.glyphs c.in_ok-front.front c.write_flat_header.new.w c.in_ok-remapper.ensures.ok c.requires.glyphs c.in_ok-front.ensures.value
    (c.in_ok-write_flat_header.ensures.ok
    ∙ ap (λ (n : ℕ). c.in_ok-front.front ++ flat_header n c.deref.result.now) size
    ∙ ap (λ (l : List ℕ). c.in_ok-front.front ++ flat_header (length t.char_strings.items) l) c.deref.ensures.value)

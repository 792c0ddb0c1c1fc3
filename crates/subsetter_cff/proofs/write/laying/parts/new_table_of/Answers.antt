use Rattle.std.proofs.Common.{◌∙◌, ap, sym, List, ℕ, refl}
use Rattle.subsetter_cff.specs.declared.write.laying.table.TableParts.{TableParts}
use Rattle.subsetter_cff.specs.Write.Laying.PartsBy.{select_by}
use Rattle.subsetter_cff.specs.Write.Plain.{new_font_dicts}
use Rattle.subsetter_cff.specs.Read.Source.{cff_of}
use Rattle.subsetter_cff.specs.Write.NewDicts.UsedFontDicts.{counted_font_dicts}
use Rattle.subsetter_cff.proofs.WriteLaws.LayingLaws.PartsMade.{parts_made}
use Rattle.subsetter_cff.proofs.write.laying.parts.new_table_of.Goals as goal

pub returns-clause-value : goal.returns-clause-value
returns-clause-value c =
    let cff = cff_of c.args.source.now in
    let t : TableParts = record {
      names = c.args.source.now.front.names;
      copyright = c.in_ok-copyright.copyright;
      notice = c.in_ok-notice.notice;
      font_name = c.in_ok-font_name.font_name;
      matrix = c.new_top_matrix.result;
      font_box = c.new_box.result;
      font_dicts = c.in_ok-font_dicts.font_dicts;
      numbers = c.in_ok-numbers.numbers;
      char_strings = c.args.kept.char_strings;
      ends = c.args.kept.ends;
    } in
    parts_made c.args.source.now t c.args.kept.numbers.items c.in_ok-used.used c.requires c.in_ok-copyright.ensures c.in_ok-font_name.ensures c.in_ok-notice.ensures
    (sym (ap counted_font_dicts c.deref.ensures.value) ∙ c.in_ok-used.ensures)
    (ap (λ (l : List ℕ). new_font_dicts cff l) (sym c.sorted.ensures.value) ∙ c.in_ok-font_dicts.ensures)
    (c.in_ok-numbers.ensures.ok ∙ ap (λ (l : List ℕ). select_by cff c.in_ok-used.used l) c.deref-2.ensures.value)
    refl c.new_top_matrix.ensures c.new_box.ensures

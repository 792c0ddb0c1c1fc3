use Rattle.std.proofs.Common.{[], ap, List, ◌∙◌}
use Rattle.subsetter_cff.specs.declared.write.laying.table.FontDictParts.{FontDictParts}
use Rattle.subsetter_cff.specs.Write.Laying.Layout.{custom_string, with_strings}
use Rattle.subsetter_cff.specs.Write.Laying.PartsView.{dict_texts, parts_view, string_view}
use Rattle.subsetter_cff.specs.Write.Strings.SidRemapping.{Remapped}
use Rattle.subsetter_cff.proofs.WriteLaws.StringsLaws.Numbering.{all_numbered, table_names}
use Rattle.subsetter_cff.proofs.write.laying.table.number_strings.Goals as goal

pub returns-clause-ok : goal.returns-clause-ok
returns-clause-ok c =
    let t = c.args.table.now in
    all_numbered (parts_view t []) c.in_ok-remapper.remapper.texts c.put_name.new.remapper.texts c.put_name-2.new.remapper.texts c.put_name-3.new.remapper.texts c.put_name-4.new.remapper.texts c.put_name-5.new.remapper.texts
    c.put_dicts.new.remapper.texts (custom_string (string_view t.copyright)) (custom_string (string_view t.font_name)) (custom_string (string_view t.notice)) (dict_texts t.font_dicts.items)
    (ap (λ (r : Remapped). r.texts) c.in_ok-remapper.ensures.ok) c.in_ok-put_name.ensures.texts c.in_ok-put_name-2.ensures.texts c.in_ok-put_name-3.ensures.texts c.in_ok-put_name-4.ensures.texts c.in_ok-put_name-5.ensures.texts
    (c.in_ok-put_dicts.ensures.texts ∙ ap (λ (fs : List FontDictParts). with_strings c.put_name-5.new.remapper.texts (dict_texts fs)) c.deref.ensures.value) (table_names t)

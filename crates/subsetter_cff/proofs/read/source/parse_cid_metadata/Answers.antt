use Rattle.std.proofs.Common.{Some, None, map, sym}
use Rattle.std.proofs.lemmas.Result.{err_from_is_err_and}
use Rattle.subsetter_cffdata.specs.Dicts.Dict.{entries}
use Rattle.subsetter_cffdata.specs.Indexes.Index.{readable}
use Rattle.subsetter_cffdata.specs.Indexes.IndexView.{items}
use Rattle.subsetter_cff.specs.Read.FrontView.{front_of}
use Rattle.subsetter_cff.specs.Read.Views.{select_view}
use Rattle.subsetter_cff.proofs.ReadLaws.Opening.{font_dicts_are, no_font_dicts, select_is, all_sound, cid_opens, cid_without_dicts, cid_without_select, cid_refused}
use Rattle.subsetter_cff.proofs.read.source.parse_cid_metadata.Goals as goal

pub returns-in_default-clause-value : goal.returns-in_default-clause-value
returns-in_default-clause-value c =
    cid_without_dicts (front_of c.args.front.now) (no_font_dicts (front_of c.args.front.now) c.args.top.now.fd_array c.requires.top.fd_array (sym c.in_default.ensures))

pub returns-in_default-select_at_offset-clause-value : goal.returns-in_default-select_at_offset-clause-value
returns-in_default-select_at_offset-clause-value c =
    let cff = front_of c.args.front.now in
    let es = items c.in-Some.dicts in
    cid_without_select cff (map entries (readable es)) (font_dicts_are cff c.args.top.now.fd_array es c.requires.top.fd_array (sym c.in-Some.ensures))
    (select_is cff (items c.args.glyphs.now) c.len.result c.args.top.now.fd_select None c.requires.glyphs c.len.ensures c.requires.top.fd_select c.in_default-select_at_offset.ensures)

pub returns-in_err-font_dicts-clause-value : goal.returns-in_err-font_dicts-clause-value
returns-in_err-font_dicts-clause-value c =
    let cff = front_of c.args.front.now in
    let es = items c.in-Some.dicts in
    let s = select_view c.in-Some-select_at_offset.select in
    let p = err_from_is_err_and c.from_residual.result c.from_residual.ensures.1 in
    rw (p.1, p.2) (cid_refused cff (readable es) s _ (font_dicts_are cff c.args.top.now.fd_array es c.requires.top.fd_array (sym c.in-Some.ensures))
    (select_is cff (items c.args.glyphs.now) c.len.result c.args.top.now.fd_select (Some s) c.requires.glyphs c.len.ensures c.requires.top.fd_select c.in-Some-select_at_offset.ensures)
    c.in_err-font_dicts.ensures.err)

pub returns-clause-value : goal.returns-clause-value
returns-clause-value c =
    let cff = front_of c.args.front.now in
    let es = items c.in-Some.dicts in
    let s = select_view c.in-Some-select_at_offset.select in
    cid_opens cff (map entries (readable es)) s (font_dicts_are cff c.args.top.now.fd_array es c.requires.top.fd_array (sym c.in-Some.ensures))
    (select_is cff (items c.args.glyphs.now) c.len.result c.args.top.now.fd_select (Some s) c.requires.glyphs c.len.ensures c.requires.top.fd_select c.in-Some-select_at_offset.ensures)
    (all_sound cff.bytes (readable es) c.in_ok-font_dicts.ensures.sound)

pub returns-clause-ok : goal.returns-clause-ok
returns-clause-ok c =
    let cff = front_of c.args.front.now in
    let es = items c.in-Some.dicts in
    let s = select_view c.in-Some-select_at_offset.select in
    record {
      dicts = readable es;
      dicts_are = font_dicts_are cff c.args.top.now.fd_array es c.requires.top.fd_array (sym c.in-Some.ensures);
      made = c.in_ok-font_dicts.ensures.ok;
      sound = all_sound cff.bytes (readable es) c.in_ok-font_dicts.ensures.sound;
      select = select_is cff (items c.args.glyphs.now) c.len.result c.args.top.now.fd_select (Some s) c.requires.glyphs c.len.ensures c.requires.top.fd_select c.in-Some-select_at_offset.ensures;
    }

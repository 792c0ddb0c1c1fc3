use Rattle.std.proofs.Common.{◌+◌, length}
use Rattle.std.proofs.lemmas.Result.{err_from_is_err_and}
use Rattle.subsetter_cffdata.specs.Indexes.Owned.{views}
use Rattle.subsetter_cff.specs.Write.Laying.Layout.{private_bytes}
use Rattle.subsetter_cff.specs.Write.Laying.PartsView.{font_dict_view}
use Rattle.subsetter_cff.proofs.WriteLaws.NewDictsLaws.DictsWritten.{dict_fails, privates_next, dicts_next, dict_kept, next_place}
use Rattle.subsetter_cff.proofs.write.new_dicts.dicts.write_dicts.Goals as goal

pub returns-in_err-put_dict-clause-checked : goal.returns-in_err-put_dict-clause-checked
returns-in_err-put_dict-clause-checked c =
    let p = err_from_is_err_and c.from_residual-in_err-put_dict.result c.from_residual-in_err-put_dict.ensures.1 in
    rw (p.1, p.2) (dict_fails c.args.dicts.now c.loop-dict.dict-index c.dict-item.result (c.args.place + length c.loop-dict.made.privates) _ _ c.loop-dict-test.true c.dict-item.is c.loop-dict.invariant.checked c.in_err-put_dict.ensures.checked)

pub loop-dict-preserved : goal.loop-dict-preserved
loop-dict-preserved c =
    let old = c.loop-dict.made in
    let new = c.put_dict.new.made in
    let i = c.loop-dict.dict-index in
    let f = c.dict-item.result in
    let inv = c.loop-dict.invariant in
    let at = next_place c.args.place old.privates (private_bytes (font_dict_view f)) new.privates c.in_ok-put_dict.ensures.privates in
    record {
      privates = privates_next c.args.dicts.now i f old.privates new.privates _ c.loop-dict-test.true c.dict-item.is c.in_ok-put_dict.ensures.privates inv.privates;
      dicts = dicts_next c.args.dicts.now i f c.args.remapper.now.texts (c.args.place + length old.privates) (c.args.place + length new.privates) (views old.dicts.items) (views new.dicts.items) _ c.loop-dict-test.true c.dict-item.is c.in_ok-put_dict.ensures.dicts at inv.dicts;
      checked = dict_kept c.args.dicts.now i f (c.args.place + length old.privates) (c.args.place + length new.privates) _ c.loop-dict-test.true c.dict-item.is at inv.checked c.in_ok-put_dict.ensures.checked;
    }

use Rattle.std.proofs.Common.{◌≡◌, ◌+◌, ◌++◌, drop, length, map}
use Rattle.subsetter_cffdata.specs.Indexes.Owned.{views}
use Rattle.subsetter_cff.specs.Write.Laying.Layout.{font_dicts_from, privates}
use Rattle.subsetter_cff.specs.Write.Laying.PartsView.{font_dict_view}
use Rattle.subsetter_cff.specs.Write.Laying.TableLimits.{dicts_limits}
use Rattle.subsetter_cff.proofs.write.new_dicts.dicts.write_dicts.Given as goal

abbrev pub invariant-loop-dict : goal.invariant-loop-dict
invariant-loop-dict l = record {
  privates : l.made.privates ++ privates (map font_dict_view (drop l.dict-index l.dicts)) ≡ privates (map font_dict_view l.dicts);
  dicts : views l.made.dicts.items ++ font_dicts_from l.remapper.texts (l.place + length l.made.privates) (map font_dict_view (drop l.dict-index l.dicts)) ≡ font_dicts_from l.remapper.texts l.place (map font_dict_view l.dicts);
  checked : dicts_limits (l.place + length l.made.privates) (map font_dict_view (drop l.dict-index l.dicts)) ≡ dicts_limits l.place (map font_dict_view l.dicts);
}

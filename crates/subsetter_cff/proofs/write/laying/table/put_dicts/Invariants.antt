use Rattle.std.proofs.Common.{◌≡◌, ◌+◌, ◌≤◌, drop, length}
use Rattle.subsetter_cff.specs.Write.Laying.Layout.{with_strings}
use Rattle.subsetter_cff.specs.Write.Laying.PartsView.{dict_texts}
use Rattle.subsetter_cff.proofs.write.laying.table.put_dicts.Given as goal

abbrev pub invariant-loop-dict : goal.invariant-loop-dict
invariant-loop-dict l = record {
  texts : with_strings l.remapper.texts (dict_texts (drop l.dict-index l.dicts)) ≡ with_strings l.initial.remapper.texts (dict_texts l.dicts);
  room : length l.remapper.texts + length (drop l.dict-index l.dicts) ≤ 65145;
}

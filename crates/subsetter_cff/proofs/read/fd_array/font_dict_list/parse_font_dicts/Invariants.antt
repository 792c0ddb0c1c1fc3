use Rattle.std.proofs.Common.{◌≡◌, ℕ, List, ◌++◌}
use Rattle.subsetter_cffdata.specs.Indexes.Index.{readable}
use Rattle.subsetter_cffdata.specs.Indexes.IndexRest.{left}
use Rattle.subsetter_cffdata.specs.Indexes.IndexView.{items}
use Rattle.subsetter_cff.specs.Read.FdArray.FontDictList.{AreFontDicts, HasFaultAmong}
use Rattle.subsetter_cff.proofs.read.fd_array.font_dict_list.parse_font_dicts.Given as goal

-- the font dicts so far, and those that are left
abbrev pub invariant-loop-dict : goal.invariant-loop-dict
invariant-loop-dict l = record {
  before : List (List ℕ);
  whole : before ++ left l.dict-iterator ≡ readable (items l.fn.index);
  made : AreFontDicts l.table before l.font_dicts.items;
  sound : HasFaultAmong l.table before → ⊥;
}

use Rattle.std.proofs.Common.{◌≡◌, ◌++◌, drop, map}
use Rattle.subsetter_cff.specs.Write.Laying.Layout.{privates}
use Rattle.subsetter_cff.specs.Write.Laying.PartsView.{font_dict_view}
use Rattle.subsetter_cff.proofs.write.new_dicts.dicts.privates_pass.Given as goal

-- what is written, and what is left
abbrev pub invariant-loop-dict : goal.invariant-loop-dict
invariant-loop-dict l = l.w ++ privates (map font_dict_view (drop l.dict-index l.dicts)) ≡ privates (map font_dict_view l.dicts)

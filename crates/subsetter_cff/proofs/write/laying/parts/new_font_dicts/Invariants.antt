use Rattle.std.proofs.Common.{◌≡◌, drop, map}
use Rattle.subsetter_cff.specs.Write.Laying.PartsBy.{with_dicts}
use Rattle.subsetter_cff.specs.Write.Laying.PartsView.{font_dict_view}
use Rattle.subsetter_cff.specs.Write.Plain.{new_font_dicts}
use Rattle.subsetter_cff.specs.Read.Source.{cff_of}
use Rattle.subsetter_cff.proofs.write.laying.parts.new_font_dicts.Given as goal

abbrev pub invariant-loop-number : goal.invariant-loop-number
invariant-loop-number l = with_dicts (map font_dict_view l.made.items) (new_font_dicts (cff_of l.source) (drop l.number-index l.numbers)) ≡ new_font_dicts (cff_of l.source) l.numbers

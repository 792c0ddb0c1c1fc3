use Rattle.std.proofs.Common.{◌≡◌, ◌++◌, drop, map}
use Rattle.subsetter_base.specs.Indexes.{new_index}
use Rattle.subsetter_cff.proofs.write.new_dicts.font_dict_remapper.renumber.Given as goal

abbrev pub invariant-loop-number : goal.invariant-loop-number
invariant-loop-number l = l.places.items ++ map (new_index l.remapper) (drop l.number-index l.numbers) ≡ map (new_index l.remapper) l.numbers

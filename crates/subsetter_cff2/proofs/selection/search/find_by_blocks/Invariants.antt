use Rattle.std.proofs.Common.{◌≡◌, ◌-◌, ◌*◌, min}
use Rattle.subsetter_cff2.specs.Selection.Select.{in_ranges}
use Rattle.subsetter_cff2.proofs.SelectionLaws.RangeSteps.{ranges_from}
use Rattle.subsetter_cff2.proofs.selection.search.find_by_blocks.Given as goal

abbrev pub invariant-loop-block : goal.invariant-loop-block
invariant-loop-block l = record {
  reached : l.from ≡ min (l.block * l.blocks.size) l.list.count;
  rest : ranges_from l.bytes l.list.is_wide l.list.at l.glyph (l.list.count - l.from) l.from ≡ in_ranges l.bytes l.list.is_wide l.glyph l.list.count l.list.at;
}

use Rattle.std.proofs.Common.{◌≡◌, ◌-◌, drop, length}
use Rattle.std.specs.Option.{option_copied}
use Rattle.std.specs.Prelude.{map}
use Rattle.subsetter.specs.Glyf.Plain.{kept_outlines, with_outlines}
use Rattle.subsetter.proofs.glyf.subset.Given as goal

abbrev pub invariant-loop-at : goal.invariant-loop-at
invariant-loop-at l = with_outlines l.list.items (kept_outlines l.list.hinting l.order (map option_copied (drop l.at l.found.items))) ≡ kept_outlines l.hinting l.order (map option_copied l.found.items)

abbrev pub decreases-loop-at : goal.decreases-loop-at
decreases-loop-at l = length l.found.items - l.at

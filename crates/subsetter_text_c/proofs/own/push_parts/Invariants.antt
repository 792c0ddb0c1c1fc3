use Rattle.std.proofs.Common.{◌≡◌, ◌++◌, drop, map}
use Rattle.subsetter_text_c.specs.Own.{part_of}
use Rattle.subsetter_text_c.proofs.own.push_parts.Given as goal

abbrev pub invariant-loop-place : goal.invariant-loop-place
invariant-loop-place l = l.parts.items ++ map part_of (drop l.place-index l.own.parts.items) ≡ l.fn.parts.items ++ map part_of l.own.parts.items

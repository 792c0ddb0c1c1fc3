use Rattle.std.proofs.Common.{◌≡◌, ℕ, take}
use Rattle.std.specs.Prelude.{nat_eq}
use Rattle.std.specs.HashMap.{get}
use Rattle.pdf_source.specs.Counted.{counted}
use Rattle.pdf_source.specs.Frequent.{count_of}
use Rattle.pdf_source.proofs.widths.counts_of.Given as goal

abbrev pub invariant-loop-width : goal.invariant-loop-width
invariant-loop-width l = (w : ℕ) → counted l.counts.placed.items (get nat_eq l.counts.mapped) w ≡ count_of (take l.width-index l.widths) w

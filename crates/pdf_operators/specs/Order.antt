-- The order in which the glyphs of a run are written.
use Rattle.std.specs.Prelude.{Bool, true, false, List, reverse}
use Rattle.pdf_runs.specs.declared.items.Direction.{Direction}
use Rattle.pdf_runs.specs.declared.items.Direction.TheVariants.{LeftToRight, RightToLeft, TopToBottom}
use Rattle.pdf_operators.specs.declared.order.Order.{Order}
use Rattle.pdf_operators.specs.declared.order.Order.TheVariants.{Visual, Logical}

-- whether they are written from the last to the first
abbrev pub is_turned : Direction → Order → Bool
is_turned LeftToRight o = false
is_turned RightToLeft Visual = false
is_turned RightToLeft Logical = true
is_turned TopToBottom o = false

abbrev pub turned : {A : Type 0} → Bool → List A → List A
turned false xs = xs
turned true xs = reverse xs

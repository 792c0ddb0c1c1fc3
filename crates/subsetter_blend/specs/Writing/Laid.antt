-- The whole operands of an operator as they are written after bytes.
use Rattle.std.specs.Prelude.{ℕ, List, ◌++◌, Option, Some, None}
use Rattle.subsetter_type2.specs.Flat.{flat_operands}
use Rattle.subsetter_blend.specs.declared.writing.placing.Position.{Position}
use Rattle.subsetter_blend.specs.Writing.Placed.{Placed}

-- where the path has come, and the bytes so far
pub record Laid : Type 0 where
  pub at : Position
  pub bytes : List ℕ

abbrev pub laid : List ℕ → Option Placed → Option Laid
laid bytes None = None
laid bytes (Some p) = Some (record { at = p.at; bytes = bytes ++ flat_operands p.numbers })

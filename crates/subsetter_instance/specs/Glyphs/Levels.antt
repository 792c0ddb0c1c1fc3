-- Composite glyphs that are begun.
use Rattle.std.specs.Prelude.{ℕ, Option, Some, None, Result, Ok}
use Rattle.subsetter_base.specs.declared.error.Error.{Error}
use Rattle.subsetter_instance.specs.Glyphs.Unfolded.{Child, Unfolded, joined}
use Rattle.subsetter_instance.specs.declared.glyphs.levels.Level.{Level}

-- what a glyph that is begun comes to: a simple one is unfolded, and the components of a composite one are to be placed
abbrev pub begun : Option ℕ → Child → Level → Unfolded → ℕ → Result (Unfolded × ℕ) Error
begun None child l part steps = Ok (part, steps)
begun (Some n) child l part steps = joined child l.composite.components 0 l.composite.xs l.composite.ys (l.all, steps)

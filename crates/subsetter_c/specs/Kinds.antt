-- Kinds of pictures of glyphs, handed to C.
use Rattle.std.specs.Prelude.{◌≡◌, ◌<◌, ℕ, List, length, Result, Ok}
use Rattle.subsetter_base.specs.Gives.{Fails}
use Rattle.subsetter_base.specs.declared.error.Error.{Error}
use Rattle.subsetter_c.specs.Answers.Handed.{begun_with}
use Rattle.subsetter_c.specs.Answers.Status.{status_of, too_small}

-- what a reading of the font gives is handed over: the buffer before and after, and the status
pub data AreKindsOf (reading : Result (List ℕ) Error) (before after : List ℕ) (status : ℕ) : Type 0 where
  -- they are at the front of the buffer
  whole : (kinds : List ℕ) → reading ≡ Ok kinds → after ≡ begun_with kinds before → status ≡ 0
      → AreKindsOf reading before after status
  -- the buffer is too small and unchanged
  short : (kinds : List ℕ) → reading ≡ Ok kinds → length before < length kinds → after ≡ before → status ≡ too_small
      → AreKindsOf reading before after status
  -- the error is the reading's, unless memory ran out, and the buffer is unchanged
  refused : (e : Error) → Fails e reading → after ≡ before → status ≡ status_of e
      → AreKindsOf reading before after status

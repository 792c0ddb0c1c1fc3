-- Advances of glyphs, handed to C.
use Rattle.std.specs.Prelude.{◌≡◌, ◌⊎◌, ◌<◌, ℕ, List, length, Result, Ok}
use Rattle.subsetter_base.specs.Gives.{Fails}
use Rattle.subsetter_base.specs.declared.error.Error.{Error}
use Rattle.font_advances.specs.Advances.{Advances}
use Rattle.subsetter_c.specs.Answers.Handed.{begun_with}
use Rattle.subsetter_c.specs.Answers.Status.{status_of, too_small}

-- what the caller has: two buffers and a number
pub record Buffers : Type 0 where
  pub widths : List ℕ
  pub heights : List ℕ
  pub units_per_em : ℕ

abbrev pub buffers : List ℕ → List ℕ → ℕ → Buffers
buffers widths heights units = record { widths = widths; heights = heights; units_per_em = units }

-- advances are there at the front
abbrev pub begun : Advances → Buffers → Buffers
begun a before = buffers (begun_with a.widths before.widths) (begun_with a.heights before.heights) a.units_per_em

-- advances of which `Is` holds, or an error of which `Why` holds, are handed over: what the caller had and has, and the
-- status
pub data AreAdvancesHanded (Is : Advances → Type 0) (Why : Error → Type 0) (before after : Buffers) (status : ℕ)
    : Type 0 where
  whole : (a : Advances) → Is a → after ≡ begun a before → status ≡ 0 → AreAdvancesHanded Is Why before after status
  short : (a : Advances) → Is a → (length before.widths < length a.widths) ⊎ (length before.heights < length a.heights)
      → after ≡ before → status ≡ too_small
      → AreAdvancesHanded Is Why before after status
  refused : (e : Error) → Why e → after ≡ before → status ≡ status_of e → AreAdvancesHanded Is Why before after status

-- they are what a reading of the font gives, or the error is the reading's, unless memory ran out
abbrev pub AreAdvancesOf : Result Advances Error → Buffers → Buffers → ℕ → Type 0
AreAdvancesOf reading = AreAdvancesHanded (λ a. reading ≡ Ok a) (λ e. Fails e reading)

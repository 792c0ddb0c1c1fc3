-- Simple glyphs that composites lead to, and what they unfold to.
use Rattle.std.specs.Prelude.{◌≡◌, ℕ, suc, ◌+◌, List, ℤ, Option, IfSome, Ok, All}
use Rattle.subsetter_instance.specs.Source.{Source}
use Rattle.subsetter_instance.specs.Glyphs.Unfolded.{IsInReach, Unfolded, unfolded}

-- A glyph that is kept: its number, how many steps it takes, and what it unfolds to.
pub record KeptGlyph : Type 0 where
  pub glyph : ℕ
  pub cost : ℕ
  pub outline : Unfolded

-- it unfolds to that at any depth, and leaves whatever steps there are beside its own
pub record IsKept (s : Source) (at : List ℤ) (k : KeptGlyph) : Type 0 where
  pub same : (depth steps : ℕ) → unfolded (suc depth) s at (k.cost + steps) k.glyph ≡ Ok (k.outline, steps)
  pub reach : IsInReach k.outline

-- the same of the glyph of each place that has one
abbrev pub AreKept : Source → List ℤ → List (Option KeptGlyph) → Type 0
AreKept s at places = All (λ place. IfSome place (IsKept s at)) places

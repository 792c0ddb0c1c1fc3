-- The plain way to take the outlines of the kept glyphs, with the error that is returned where one can't be taken.
use Rattle.std.specs.Prelude.{ℕ, Bool, List, [], ◌∷◌, ◌++◌, map, Option, Result, Ok}
use Rattle.std.specs.Option.{option_map, ok_or}
use Rattle.subsetter_base.specs.Bytes.{◌>>=◌}
use Rattle.subsetter_base.specs.Indexes.{new_index}
use Rattle.subsetter_base.specs.declared.error.Error.{Error}
use Rattle.subsetter_base.specs.declared.error.Error.TheVariants.{MalformedFont}
use Rattle.subsetter.specs.Glyf.Read.{Outlines, outlines_in, outline_in}
use Rattle.subsetter.specs.Glyf.BareOutlines.Bare.{requested_parts}
use Rattle.subsetter.specs.Glyf.Parts.{Component, Chain, Parts, Empty, Simple, Composite, composite_parts}
use Rattle.subsetter.specs.Glyf.Parts.{outline_parts, parts_bytes}

-- the tables of the outlines
abbrev pub outlines_read : Bool → (List ℕ → Option (List ℕ)) → Result Outlines Error
outlines_read hinting find = ok_or (outlines_in hinting find) MalformedFont

-- a component under the new number of its glyph
abbrev pub renumbered_component : List ℕ → Component → Component
renumbered_component order c = record { flags = c.flags; glyph = new_index order c.glyph; rest = c.rest }

abbrev pub renumbered_chain : List ℕ → Chain → Chain
renumbered_chain order chain =
    record { components = map (renumbered_component order) chain.components; tail = chain.tail }

-- parts with their components under the new numbers
abbrev pub renumbered : List ℕ → Parts → Parts
renumbered order Empty = Empty
renumbered order (Simple bytes) = Simple bytes
renumbered order (Composite head chain) = Composite head (renumbered_chain order chain)

-- a composite with its components under the new numbers
unfoldable pub rewritten_composite : Bool → List ℕ → List ℕ → Result (List ℕ) Error
rewritten_composite hinting order bytes =
    ok_or (option_map (λ p. parts_bytes (renumbered order p)) (requested_parts hinting (composite_parts bytes)))
    MalformedFont

-- an outline with its components under the new numbers
unfoldable pub rewritten : Bool → List ℕ → List ℕ → Result (List ℕ) Error
rewritten hinting order bytes =
    ok_or (option_map (λ p. parts_bytes (renumbered order p)) (requested_parts hinting (outline_parts bytes)))
    MalformedFont

-- a list with one outline more
abbrev pub with_last : List (List ℕ) → Result (List ℕ) Error → Result (List (List ℕ)) Error
with_last outlines read = read >>= λ bytes. Ok (outlines ++ bytes ∷ [])

-- the outline of a glyph that is kept
unfoldable pub kept : Outlines → List ℕ → ℕ → Result (List ℕ) Error
kept t order g = do
  bytes ← ok_or (outline_in t g) MalformedFont
  rewritten t.hinting order bytes

-- the outlines of a list of glyphs
abbrev pub kept_all : Outlines → List ℕ → List ℕ → Result (List (List ℕ)) Error
kept_all t order [] = Ok []
kept_all t order (g ∷ gs) = do
  first ← kept t order g
  rest ← kept_all t order gs
  Ok (first ∷ rest)

-- ---- the same of outlines that were looked up before

-- a list with more outlines
abbrev pub with_outlines : List (List ℕ) → Result (List (List ℕ)) Error → Result (List (List ℕ)) Error
with_outlines outlines read = read >>= λ more. Ok (outlines ++ more)

-- an outline that is kept, if it is there
unfoldable pub kept_outline : Bool → List ℕ → Option (List ℕ) → Result (List ℕ) Error
kept_outline hinting order found = do
  bytes ← ok_or found MalformedFont
  rewritten hinting order bytes

-- such outlines
abbrev pub kept_outlines : Bool → List ℕ → List (Option (List ℕ)) → Result (List (List ℕ)) Error
kept_outlines hinting order [] = Ok []
kept_outlines hinting order (o ∷ os) = do
  first ← kept_outline hinting order o
  rest ← kept_outlines hinting order os
  Ok (first ∷ rest)

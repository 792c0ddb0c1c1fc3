-- How the glyphs that a list reaches are found.
use Rattle.std.specs.Prelude.{◌≡◌, ℕ, ◌+◌, ◌<◌, ◌^◌, not, List, [], ◌∷◌, ◌++◌, length, Option, Some, None, is_some}
use Rattle.std.specs.Prelude.{filter, map, slice_index, if◌then◌else◌}
use Rattle.std.specs.Borrow.{Bor}
use Rattle.std.specs.Option.{option_copied}
use Rattle.subsetter_base.specs.Indexes.{index_of, with_glyph}
use Rattle.subsetter_base.specs.declared.error.Error.{Error}
use Rattle.subsetter_base.specs.declared.error.Error.TheVariants.{MalformedFont, OverflowError, OutOfMemory}
use Rattle.subsetter.specs.Glyf.Read.{Outlines, outline_in}
use Rattle.subsetter.specs.Glyf.Parts.{component_numbers, outline_parts}
use Rattle.subsetter.specs.Glyf.Reaching.Reach.{IsReachableBy}
use Rattle.subsetter.specs.Glyf.BareOutlines.Size.{AreLonger}

-- the numbers of the components of an outline, none where there is no outline
abbrev pub components_in : Option (List ℕ) → List ℕ
components_in None = []
components_in (Some bytes) = component_numbers bytes

-- the numbers that aren't in a list
abbrev pub others_in : List ℕ → List ℕ → List ℕ
others_in order numbers = filter (λ h. not (is_some (index_of order h))) numbers

-- the outlines of some glyphs, each if it is there
abbrev pub AreFound : Outlines → List ℕ → List (Option (Bor (List ℕ))) → Type 0
AreFound t glyphs found = map option_copied found ≡ map (outline_in t) glyphs

-- the first byte of an outline, 0 where there is none; 255 where it is the only one, so that the glyph is followed and
-- found faulty
abbrev pub first_byte_in : Option (List ℕ) → ℕ
first_byte_in None = 0
first_byte_in (Some []) = 0
first_byte_in (Some (a ∷ [])) = 255
first_byte_in (Some (a ∷ b ∷ bytes)) = a

-- a list ends with another
pub record EndsWith (all end : List ℕ) : Type 0 where
  pub front : List ℕ
  pub is : all ≡ front ++ end

-- the last member of a list was taken, and what is before it ends with another list
pub record IsTaken (all : List ℕ) (last : ℕ) (end : List ℕ) : Type 0 where
  pub front : List ℕ
  pub is : all ≡ front ++ last ∷ []
  pub ends : EndsWith front end

-- there is an outline, but it has no parts
pub record LacksParts (outline : Option (List ℕ)) : Type 0 where
  pub bytes : List ℕ
  pub there : outline ≡ Some bytes
  pub faulty : outline_parts bytes ≡ None

-- a glyph has an outline without parts
abbrev pub IsFaulty : Outlines → ℕ → Type 0
IsFaulty t g = LacksParts (outline_in t g)

-- a list of 65535 glyphs lacks a further one
pub record IsFull (order : List ℕ) (g : ℕ) : Type 0 where
  pub full : length order ≡ 65535
  pub further : index_of order g ≡ None
  pub fits : g < 65536
  pub small : (i : ℕ) → slice_index order i < 65536

-- an order and the waiting glyphs, before and after a glyph was taken
pub record IsVisited (t : Outlines) (order waiting : List ℕ) (g : ℕ) (order_after waiting_after : List ℕ) : Type 0 where
  pub is_last : order_after ≡ with_glyph order g
  pub wait : waiting_after
      ≡ (if is_some (index_of order g) then waiting
      else waiting ++ others_in order_after (components_in (outline_in t g)))
  -- an outline has fewer than 2 ^ 32 components
  pub few : length waiting_after < length waiting + 2 ^ 32
  -- the order has at most 65535 glyphs
  pub room : length order_after < 65536

-- a glyph that the given ones reach is faulty, or they reach all numbers, or outlines that take more than `most` bytes,
-- or memory ran out
pub data StopsClosure (t : Outlines) (glyphs : List ℕ) (most : ℕ) : Error → Type 0 where
  no_memory : StopsClosure t glyphs most OutOfMemory
  faulty_glyph : (g : ℕ) → IsReachableBy (outline_in t) glyphs g → IsFaulty t g
      → StopsClosure t glyphs most MalformedFont
  all_reached : ((g : ℕ) → g < 65536 → IsReachableBy (outline_in t) glyphs g) → StopsClosure t glyphs most OverflowError
  too_long : AreLonger t.hinting (outline_in t) glyphs most → StopsClosure t glyphs most OverflowError

-- `Finds t found left waiting order`: with the given glyphs `left` to be followed (from the last one on), the
-- components `waiting` (the last one first) and the glyphs `order` found so far, `found` is the list in the end
pub data Finds (t : Outlines) (found : List ℕ) : List ℕ → List ℕ → List ℕ → Type 0 where
  -- no glyph is left to be followed, and none waits
  all_found : {left waiting order : List ℕ} → left ≡ [] → waiting ≡ [] → order ≡ found
      → Finds t found left waiting order
  -- none waits: the last given glyph is followed, and its components that aren't in the order wait
  follows : {left waiting order : List ℕ} (rest : List ℕ) (g : ℕ) → left ≡ rest ++ g ∷ [] → waiting ≡ []
      → Finds t found rest (others_in order (components_in (outline_in t g))) order
      → Finds t found left waiting order
  -- the last of those that wait is taken
  visits : {left waiting order : List ℕ} (rest : List ℕ) (g : ℕ) (order_after waiting_after : List ℕ)
      → waiting ≡ rest ++ g ∷ [] → IsVisited t order rest g order_after waiting_after
      → Finds t found left waiting_after order_after
      → Finds t found left waiting order

-- What an outline is made of (OpenType, "glyf": simple glyph description, composite glyph description).
use Rattle.std.specs.Prelude.{ℕ, zero, suc, ◌+◌, Bool, List, [], ◌∷◌, ◌++◌, length, drop, Option, Some, None, nat_lt}
use Rattle.std.specs.Prelude.{if◌then◌else◌}
use Rattle.std.specs.List.{flat_map}
use Rattle.std.specs.Int.{w16, to_be_bytes}
use Rattle.subsetter_base.specs.Bytes.{range, number, has_flag}
use Rattle.subsetter_base.specs.Options.{◌>>=◌}

-- a component: its flags, its glyph, and the bytes of its arguments and its transform
pub record Component : Type 0 where
  pub flags : ℕ
  pub glyph : ℕ
  pub rest : List ℕ

-- arguments of two words (ARG_1_AND_2_ARE_WORDS) or two bytes, and a scale (WE_HAVE_A_SCALE), two scales
-- (WE_HAVE_AN_X_AND_Y_SCALE), a matrix (WE_HAVE_A_TWO_BY_TWO) or nothing
abbrev pub rest_size : ℕ → ℕ
rest_size flags =
    (if has_flag flags 0x0001 then 4 else 2)
    + (if has_flag flags 0x0008 then 2
    else (if has_flag flags 0x0040 then 4 else (if has_flag flags 0x0080 then 8 else 0)))

-- another component follows exactly where the flags have MORE_COMPONENTS
abbrev pub has_more : ℕ → Bool
has_more flags = has_flag flags 0x0020

-- bytes after the last component are its instructions exactly where its flags have WE_HAVE_INSTRUCTIONS
abbrev pub has_instructions : ℕ → Bool
has_instructions flags = has_flag flags 0x0100

-- the component at the front: flags, glyph, arguments and transform
abbrev pub component_at : List ℕ → Option Component
component_at bytes = do
  flags ← number bytes 0 2
  glyph ← number bytes 2 2
  rest ← range bytes 4 (rest_size flags)
  Some (record { flags = flags; glyph = glyph; rest = rest })

-- components one after another, and the bytes that are kept after the last
pub record Chain : Type 0 where
  pub components : List Component
  pub tail : List ℕ

abbrev pub with_component : Component → Chain → Chain
with_component c chain = record { components = c ∷ chain.components; tail = chain.tail }

-- the last component, with the bytes after it where they are instructions
abbrev pub last_component : Component → List ℕ → Chain
last_component c after = record { components = c ∷ []; tail = if has_instructions c.flags then after else [] }

-- the components at the front, none where one is cut; n is at least their count, as the count of the bytes is
unfoldable pub chain_at : ℕ → List ℕ → Option Chain
chain_at zero bytes = None
chain_at (suc n) bytes = do
  c ← component_at bytes
  let after = drop (4 + rest_size c.flags) bytes in
      if has_more c.flags then (chain_at n after >>= λ chain. Some (with_component c chain))
      else Some (last_component c after)

-- an outline is empty, simple, or a composite with ten bytes of head
pub data Parts : Type 0 where
  Empty : Parts
  Simple : (bytes : List ℕ) → Parts
  Composite : (head : List ℕ) (chain : Chain) → Parts

abbrev pub composite_parts : List ℕ → Option Parts
composite_parts bytes = do
  head ← range bytes 0 10
  chain ← chain_at (length bytes) (drop 10 bytes)
  Some (Composite head chain)

-- an outline begins with its number of contours, which is below 0 for a composite; one byte and a cut composite have no
-- parts
unfoldable pub outline_parts : List ℕ → Option Parts
outline_parts [] = Some Empty
outline_parts (a ∷ []) = None
outline_parts (a ∷ b ∷ bytes) = if nat_lt a 128 then Some (Simple (a ∷ b ∷ bytes)) else composite_parts (a ∷ b ∷ bytes)

-- ---- the lenient reading: a component counts once its flags and its number are there

-- the numbers of the components at the front; n is at least their count
unfoldable pub numbers_at : ℕ → List ℕ → List ℕ
numbers_at zero bytes = []
numbers_at (suc n) bytes =
    elim (number bytes 0 2) [
      | None ↦ []
      | Some flags ↦
          elim (number bytes 2 2) [
            | None ↦ []
            | Some glyph ↦ glyph ∷ (if has_more flags then numbers_at n (drop (4 + rest_size flags) bytes) else [])
          ]
    ]

-- the numbers of an outline's components, also of a cut composite whose head is there
unfoldable pub component_numbers : List ℕ → List ℕ
component_numbers [] = []
component_numbers (a ∷ bytes) = if nat_lt a 128 then [] else numbers_at (length bytes) (drop 10 (a ∷ bytes))

-- ---- written

-- a component as bytes
abbrev pub spelled : Component → List ℕ
spelled c = to_be_bytes w16 c.flags ++ to_be_bytes w16 c.glyph ++ c.rest

abbrev pub parts_bytes : Parts → List ℕ
parts_bytes Empty = []
parts_bytes (Simple bytes) = bytes
parts_bytes (Composite head chain) = head ++ flat_map spelled chain.components ++ chain.tail

-- The points of a glyph, moved by its tuples one after the other (OpenType, "gvar"), in a number of steps: 1 for each
-- tuple, and 1 for each point of one that counts. Each is taken before what it is for is read.
use Rattle.std.specs.Prelude.{◌≡◌, ℕ, zero, suc, ◌-◌, ◌≤◌, ◌<◌, ◌^◌, ◌==◌, ℤ, pos, List, length, Option, Result, Ok}
use Rattle.std.specs.Prelude.{Err, nat_le, if◌then◌else◌, unsigned_abs, All}
use Rattle.std.specs.Option.{ok_or}
use Rattle.std.specs.Ordering.{int_eq}
use Rattle.subsetter_base.specs.Bytes.{◌>>=◌}
use Rattle.subsetter_base.specs.declared.error.Error.{Error}
use Rattle.subsetter_base.specs.declared.error.Error.TheVariants.{MalformedFont, OverflowError}
use Rattle.subsetter_variation.specs.Region.{scalar}
use Rattle.subsetter_variation.specs.Glyphs.Tuples.{Gvar, TupleHeaders, TupleHeader, next_header, tuple_of}
use Rattle.subsetter_variation.specs.Glyphs.Tuples.{variations_of, tuple_headers, shared_numbers}
use Rattle.subsetter_variation.specs.Glyphs.Varied.{AreEnds, added, deltas_by_point, in_units}

-- The default outline of a glyph: the coordinates of its points, phantom points last, and the ends of its contours.
pub record Outline : Type 0 where
  pub xs : List ℤ
  pub ys : List ℤ
  pub ends : List ℕ

abbrev pub IsOutline : Outline → Type 0
IsOutline o = (length o.ys ≡ length o.xs) × (length o.xs < 2 ^ 32) × AreEnds 0 o.ends (length o.xs)

-- Points under way: their coordinates in parts of 2^30, the steps that are left, and the tuples that are left.
pub record Walk : Type 0 where
  pub xs : List ℤ
  pub ys : List ℤ
  pub steps : ℕ
  pub headers : TupleHeaders

-- as many points as the outline has, each coordinate within b
abbrev pub IsWithin : ℕ → Outline → Walk → Type 0
IsWithin b o w =
    (length w.xs ≡ length o.xs) × (length w.ys ≡ length o.xs) × All (λ z. unsigned_abs z ≤ b) w.xs
    × All (λ z. unsigned_abs z ≤ b) w.ys

-- the same of the coordinates alone
abbrev pub AreWithin : ℕ → Outline → List ℤ → List ℤ → Type 0
AreWithin b o xs ys =
    (length xs ≡ length o.xs) × (length ys ≡ length o.xs) × All (λ z. unsigned_abs z ≤ b) xs
    × All (λ z. unsigned_abs z ≤ b) ys

-- n of the steps that are left
abbrev pub spent : ℕ → ℕ → Result ℕ Error
spent n steps = if nat_le n steps then Ok (steps - n) else Err OverflowError

-- moved by one tuple, with these steps left
abbrev pub moved_by : Outline → ℤ → Option (List ℕ) → List ℤ → List ℤ → ℕ → Walk → Walk
moved_by o s numbers dx dy left w = record w {
  steps = left;
  xs = added o.xs o.ends (deltas_by_point (length o.xs) numbers dx) s w.xs;
  ys = added o.ys o.ends (deltas_by_point (length o.ys) numbers dy) s w.ys;
}

-- moved by a tuple that counts: a step for each point, and its deltas
unfoldable pub counted_walk : Outline → Option (List ℕ) → ℤ → TupleHeader → Walk → Result Walk Error
counted_walk o shared s h w = do
  left ← spent (length o.xs) w.steps
  t ← ok_or (tuple_of (length o.xs) shared h) MalformedFont
  Ok (moved_by o s t.numbers t.dx t.dy left w)

-- the deltas of a tuple whose scalar is 0 are passed over
abbrev pub scaled_walk : Outline → Option (List ℕ) → ℤ → TupleHeader → Walk → Result Walk Error
scaled_walk o shared s h w = if int_eq s (pos 0) then Ok w else counted_walk o shared s h w

-- moved by the next tuple: a step, its header, its scalar, and its deltas
unfoldable pub next_walk : Gvar → Outline → Option (List ℕ) → List ℤ → Walk → Result Walk Error
next_walk t o shared at w = do
  left ← spent 1 w.steps
  next ← ok_or (next_header t w.headers) MalformedFont
  scaled_walk o shared (scalar next.0.region at) next.0 (record w { steps = left; headers = next.1 })

-- moved by the next n tuples
abbrev pub walk_all : Gvar → Outline → Option (List ℕ) → List ℤ → ℕ → Walk → Result Walk Error
walk_all t o shared at zero w = Ok w
walk_all t o shared at (suc n) w = next_walk t o shared at w >>= walk_all t o shared at n

-- before the first tuple
abbrev pub start : Outline → ℕ → TupleHeaders → Walk
start o steps headers = record { xs = in_units o.xs; ys = in_units o.ys; steps = steps; headers = headers }

-- moved by all tuples, whose bytes these are
unfoldable pub moved_in_bytes : Gvar → Outline → List ℤ → ℕ → List ℕ → Result (List ℤ × List ℤ × ℕ) Error
moved_in_bytes t o at steps bytes = do
  all ← ok_or (tuple_headers bytes) MalformedFont
  shared ← ok_or (shared_numbers (length o.xs) all.0 all.1) MalformedFont
  w ← walk_all t o shared.0 at shared.1.left (start o steps shared.1)
  Ok (w.xs, w.ys, w.steps)

-- where the points of a glyph go at a location, in parts of 2^30, and the steps that are left; they are unmoved where
-- it has no variations
unfoldable pub moved_points : Gvar → ℕ → Outline → List ℤ → ℕ → Result (List ℤ × List ℤ × ℕ) Error
moved_points t g o at steps = do
  bytes ← ok_or (variations_of t g) MalformedFont
  if length bytes == 0 then Ok (in_units o.xs, in_units o.ys, steps) else moved_in_bytes t o at steps bytes

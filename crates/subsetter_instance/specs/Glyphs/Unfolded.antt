-- A glyph at a place, unfolded: where its contours and its phantom points lie (OpenType, "glyf": "Phantom points", and
-- "gvar").
use Rattle.std.specs.Prelude.{◌≡◌, ◌≤◌, ◌<◌, ℕ, zero, suc, ◌+◌, ◌^◌, Bool, false, not, ◌&&◌, ◌||◌, List, [], ◌∷◌, ◌++◌}
use Rattle.std.specs.Prelude.{length, take, map, zip, All, slice_get, slice_index_or, Option, Some, None, Result, Ok}
use Rattle.std.specs.Prelude.{Err, nat_le, nat_lt, if◌then◌else◌, ℤ, pos, ◌+ℤ◌, ◌-ℤ◌, ◌*ℤ◌, unsigned_abs}
use Rattle.std.specs.Int.{w16, cast_signed}
use Rattle.std.specs.List.{list_all, range_with_len}
use Rattle.std.specs.Option.{ok_or}
use Rattle.std.specs.Ordering.{int_eq}
use Rattle.subsetter_base.specs.Bytes.{number, ◌>>=◌, has_flag}
use Rattle.subsetter_base.specs.declared.error.Error.{Error}
use Rattle.subsetter_base.specs.declared.error.Error.TheVariants.{MalformedFont, Unimplemented, OverflowError}
use Rattle.subsetter_base.specs.Options as optional
use Rattle.subsetter_points.specs.declared.outline.Point.{Point}
use Rattle.subsetter_points.specs.Simple.{after, parts, xs_of, ys_of}
use Rattle.subsetter_variation.specs.Nearest.{nearest}
use Rattle.subsetter_variation.specs.Glyphs.Tuples.{Gvar}
use Rattle.subsetter_variation.specs.Glyphs.Movement.{Outline, spent, moved_points}
use Rattle.subsetter_variation.specs.Glyphs.Varied.{in_units}
use Rattle.subsetter_instance.specs.Glyphs.Components.{components_at, offset_xs, offset_ys}
use Rattle.subsetter_instance.specs.declared.glyphs.components.Arguments.{Arguments}
use Rattle.subsetter_instance.specs.declared.glyphs.components.Arguments.TheVariants.{Offset, Points}
use Rattle.subsetter_instance.specs.declared.glyphs.components.Matrix.{Matrix}
use Rattle.subsetter_instance.specs.declared.glyphs.components.Component.{Component}
use Rattle.subsetter_instance.specs.Source.{Source, description, metric}
use Rattle.subsetter_sfnt.specs.declared.fields.hmtx.LongHorMetric.{LongHorMetric}

-- The number of each contour's last point, which points are on the curve, where they lie, and x of the left and of the
-- right phantom point. All coordinates are in parts of 2^30.
pub record Unfolded : Type 0 where
  pub ends : List ℕ
  pub on : List Bool
  pub xs : List ℤ
  pub ys : List ℤ
  pub left : ℤ
  pub right : ℤ

-- as many coordinates as points; the last point of each contour is one of them; the phantom points fit
pub record IsShaped (u : Unfolded) : Type 0 where
  pub xs : length u.xs ≡ length u.on
  pub ys : length u.ys ≡ length u.on
  pub ends : All (λ e. e < length u.on) u.ends
  pub left : unsigned_abs u.left ≤ 2 ^ 58
  pub right : unsigned_abs u.right ≤ 2 ^ 58

-- and no coordinate is more than 32768 units from 0
pub record IsInReach (u : Unfolded) : Type 0 where
  pub shape : IsShaped u
  pub xs : All (λ v. unsigned_abs v ≤ 2 ^ 45) u.xs
  pub ys : All (λ v. unsigned_abs v ≤ 2 ^ 45) u.ys

-- no coordinate is more than 32768 units from 0
abbrev pub are_near : List ℤ → Bool
are_near vs = list_all (λ v. nat_le (unsigned_abs v) (2 ^ 45)) vs

abbrev pub in_range_or_fault : Unfolded → ℕ → Result (Unfolded × ℕ) Error
in_range_or_fault u steps = if are_near u.xs && are_near u.ys then Ok (u, steps) else Err OverflowError

-- ---- moved

-- where the points of an outline go, in parts of 2^30, in at most `steps` steps
abbrev pub moved : Option Gvar → ℕ → Outline → List ℤ → ℕ → Result (List ℤ × List ℤ × ℕ) Error
moved None g o at steps = Ok (in_units o.xs, in_units o.ys, steps)
moved (Some t) g o at steps = moved_points t g o at steps

-- four phantom points after n points, each a contour of its own. They are handed over at 0, as what moves them doesn't
-- depend on where they lie
abbrev pub with_phantoms : List ℕ → List ℤ → List ℤ → Outline
with_phantoms ends xs ys = record {
  xs = xs ++ (pos 0 ∷ pos 0 ∷ pos 0 ∷ pos 0 ∷ []);
  ys = ys ++ (pos 0 ∷ pos 0 ∷ pos 0 ∷ pos 0 ∷ []);
  ends = ends ++ (length xs ∷ (length xs + 1) ∷ (length xs + 2) ∷ (length xs + 3) ∷ []);
}

-- where the left side of the default lies: xMin of its header less its bearing, of a glyph without bytes 0 less its
-- bearing
abbrev pub signed_or_zero : Option ℕ → ℤ
signed_or_zero None = pos 0
signed_or_zero (Some n) = cast_signed w16 n

abbrev pub x_min : List ℕ → ℤ
x_min bytes = signed_or_zero (number bytes 2 2)

abbrev pub left_side : List ℕ → LongHorMetric → ℤ
left_side bytes m = x_min bytes -ℤ cast_signed w16 m.lsb

-- the left phantom point, and the right one, which is an advance from it: of the default, and moved as the first two of
-- the points after n
abbrev pub left_point : List ℕ → LongHorMetric → ℕ → List ℤ → ℤ
left_point bytes m n xs = pos (2 ^ 30) *ℤ left_side bytes m +ℤ slice_index_or xs n (pos 0)

abbrev pub right_point : List ℕ → LongHorMetric → ℕ → List ℤ → ℤ
right_point bytes m n xs =
    pos (2 ^ 30) *ℤ (left_side bytes m +ℤ pos m.advance_width) +ℤ slice_index_or xs (n + 1) (pos 0)

-- ---- a simple glyph

-- moved points, without their phantom points
abbrev pub simple_outline : List ℕ → LongHorMetric → List ℕ → List Point → List ℤ → List ℤ → Unfolded
simple_outline bytes m ends points xs ys = record {
  ends = ends;
  on = map (λ p. p.on_curve) points;
  xs = take (length points) xs;
  ys = take (length points) ys;
  left = left_point bytes m (length points) xs;
  right = right_point bytes m (length points) xs;
}

-- bit 0 of a point's flag says whether it is on the curve
abbrev pub on_curve : List ℕ → List Bool
on_curve flags = map (λ f. has_flag f 1) flags

-- the same by the flags of the points
abbrev pub outline_by_flags : List ℕ → LongHorMetric → List ℕ → List ℕ → List ℤ → List ℤ → Unfolded
outline_by_flags bytes m ends flags xs ys = record {
  ends = ends;
  on = on_curve flags;
  xs = take (length flags) xs;
  ys = take (length flags) ys;
  left = left_point bytes m (length flags) xs;
  right = right_point bytes m (length flags) xs;
}

-- a step, one for each point and four more are taken before the variations are read
unfoldable pub unfolded_simple : Source → List ℤ → ℕ → ℕ → List ℕ → LongHorMetric → Result (Unfolded × ℕ) Error
unfolded_simple s at steps g bytes m = do
  outline ← ok_or (parts bytes) MalformedFont
  left ← spent (length outline.1 + 5) steps
  to ← moved s.gvar g (with_phantoms outline.0 (xs_of outline.1) (ys_of outline.1)) at left
  in_range_or_fault (simple_outline bytes m outline.0 outline.1 to.0 to.1) to.2

-- the same of an outline of which flags and coordinates are known
unfoldable pub unfolded_by_flags : Source → List ℤ → ℕ → ℕ → List ℕ → LongHorMetric → List ℕ → List ℕ → List ℤ → List ℤ
    → Result (Unfolded × ℕ) Error
unfolded_by_flags s at steps g bytes m ends flags xs ys = do
  left ← spent (length flags + 5) steps
  to ← moved s.gvar g (with_phantoms ends xs ys) at left
  in_range_or_fault (outline_by_flags bytes m ends flags to.0 to.1) to.2

-- ---- a component

-- through a matrix, in 16384ths
abbrev pub transformed_x : Matrix → ℤ × ℤ → ℤ
transformed_x m p = nearest (m.xx *ℤ p.0 +ℤ m.xy *ℤ p.1) 16384

abbrev pub transformed_y : Matrix → ℤ × ℤ → ℤ
transformed_y m p = nearest (m.yx *ℤ p.0 +ℤ m.yy *ℤ p.1) 16384

-- a matrix with its rows swapped, by which x is y of the other
abbrev pub swapped : Matrix → Matrix
swapped m = record { xx = m.yx; yx = m.xx; xy = m.yy; yy = m.xy }

abbrev pub transformed_xs : Option Matrix → List ℤ → List ℤ → List ℤ
transformed_xs None xs ys = xs
transformed_xs (Some m) xs ys = map (transformed_x m) (zip xs ys)

abbrev pub transformed_ys : Option Matrix → List ℤ → List ℤ → List ℤ
transformed_ys None xs ys = ys
transformed_ys (Some m) xs ys = map (transformed_y m) (zip xs ys)

abbrev pub shifted : ℤ → List ℤ → List ℤ
shifted by vs = map (λ v. v +ℤ by) vs

-- a matrix that changes nothing
abbrev pub is_identity : Matrix → Bool
is_identity m = int_eq m.xx (pos 16384) && (int_eq m.yx (pos 0) && (int_eq m.xy (pos 0) && int_eq m.yy (pos 16384)))

-- An offset is to be scaled: SCALED_COMPONENT_OFFSET with a matrix that isn't the identity (OpenType, "glyf": composite
-- glyph flags). Beside UNSCALED_COMPONENT_OFFSET, which is the default, it doesn't count.
abbrev pub is_scaled : ℕ → Option Matrix → Bool
is_scaled flags None = false
is_scaled flags (Some m) = has_flag flags 0x0800 && not (has_flag flags 0x1000 || is_identity m)

-- a point by its number
abbrev pub point_at : List ℤ → List ℤ → ℕ → Option (ℤ × ℤ)
point_at xs ys number =
    optional.◌>>=◌ (slice_get xs number) (λ x. optional.◌>>=◌ (slice_get ys number) (λ y. Some (x, y)))

-- how far a point of a component is from the point of those before it that it is to lie on
unfoldable pub matched : Option (ℤ × ℤ) → Option (ℤ × ℤ) → Result (ℤ × ℤ) Error
matched parent child = do
  p ← ok_or parent MalformedFont
  q ← ok_or child MalformedFont
  Ok (p.0 -ℤ q.0, p.1 -ℤ q.1)

-- how far a component moves: by its varied offset, which isn't taken where it is to be scaled, or until two points
-- match
abbrev pub shift_by : Arguments → Bool → ℤ → ℤ → Unfolded → List ℤ → List ℤ → Result (ℤ × ℤ) Error
shift_by (Offset _ _) scaled x y before xs ys = if scaled then Err Unimplemented else Ok (x, y)
shift_by (Points parent child) scaled x y before xs ys =
    matched (point_at before.xs before.ys parent) (point_at xs ys child)

-- a component's points, through its matrix and moved
unfoldable pub placed : Component → ℤ → ℤ → Unfolded → Unfolded → Result Unfolded Error
placed c x y before part = do
  by ← shift_by c.arguments (is_scaled c.flags c.matrix) x y before
      (transformed_xs c.matrix part.xs part.ys) (transformed_ys c.matrix part.xs part.ys)
  Ok (record part {
    xs = shifted by.0 (transformed_xs c.matrix part.xs part.ys);
    ys = shifted by.1 (transformed_ys c.matrix part.xs part.ys);
  })

-- after the components before it: at most 65535 points
abbrev pub joined_parts : Unfolded → Unfolded → Unfolded
joined_parts before part = record before {
  ends = before.ends ++ map (λ e. e + length before.on) part.ends;
  on = before.on ++ part.on;
  xs = before.xs ++ part.xs;
  ys = before.ys ++ part.ys;
}

abbrev pub joined_or_fault : Unfolded → Unfolded → ℕ → Result (Unfolded × ℕ) Error
joined_or_fault before part steps =
    if nat_lt (length before.on + length part.on) 65536 then Ok (joined_parts before part, steps) else Err OverflowError

-- the components before it, with one more, and the steps that it left
unfoldable pub with_part : Component → ℤ → ℤ → Unfolded → Unfolded → ℕ → Result (Unfolded × ℕ) Error
with_part c x y before part steps = do
  p ← placed c x y before part
  near ← in_range_or_fault p steps
  joined_or_fault before near.0 near.1

-- the points of a component that come out of its matrix, moved
abbrev pub moved_part : Unfolded → ℤ → ℤ → List ℤ → List ℤ → Unfolded
moved_part part x y xs ys = record part { xs = shifted x xs; ys = shifted y ys }

-- the same in two parts, for points that come out of the matrix
unfoldable pub joined_moved : Unfolded → Unfolded → ℤ → ℤ → List ℤ → List ℤ → ℕ → Result (Unfolded × ℕ) Error
joined_moved before part x y xs ys steps = do
  near ← in_range_or_fault (moved_part part x y xs ys) steps
  joined_or_fault before near.0 near.1

unfoldable pub with_points : Component → ℤ → ℤ → Unfolded → Unfolded → List ℤ → List ℤ → ℕ → Result (Unfolded × ℕ) Error
with_points c x y before part xs ys steps = do
  by ← shift_by c.arguments (is_scaled c.flags c.matrix) x y before xs ys
  joined_moved before part by.0 by.1 xs ys steps

-- USE_MY_METRICS: the phantom points of a component, as it is at the place, before its matrix and its offset, take the
-- place of the glyph's own and of those of the components before it
abbrev pub with_metrics : ℕ → Unfolded → Unfolded → Unfolded
with_metrics flags before part =
    if has_flag flags 0x0200 then record before { left = part.left; right = part.right } else before

abbrev pub with_component : Component → ℤ → ℤ → Unfolded → Unfolded → ℕ → Result (Unfolded × ℕ) Error
with_component c x y before part steps = with_part c x y (with_metrics c.flags before part) part steps

-- ---- a composite glyph

-- of a component's number what it unfolds to, in the steps that are left
abbrev pub Child : Type 0
Child = ℕ → ℕ → Result (Unfolded × ℕ) Error

-- one component after the other; the point k of gvar is the offset of component k
unfoldable pub joined : Child → List Component → ℕ → List ℤ → List ℤ → Unfolded × ℕ → Result (Unfolded × ℕ) Error
joined child [] k xs ys before = Ok before
joined child (c ∷ cs) k xs ys before = do
  part ← child before.1 c.glyph
  all ← with_component c (slice_index_or xs k (pos 0)) (slice_index_or ys k (pos 0)) before.0 part.0 part.1
  joined child cs (k + 1) xs ys all

-- no points yet
abbrev pub no_points : ℤ → ℤ → Unfolded
no_points left right = record { ends = []; on = []; xs = []; ys = []; left = left; right = right }

-- the components, their varied offsets, the phantom points, and the steps that are left
pub record Composite : Type 0 where
  pub components : List Component
  pub xs : List ℤ
  pub ys : List ℤ
  pub left : ℤ
  pub right : ℤ
  pub steps : ℕ

-- five steps, and one for each component, are taken before the variations are read. A component is a point of gvar, and
-- a contour of its own. The header has ten bytes
unfoldable pub composite : Source → List ℤ → ℕ → ℕ → List ℕ → LongHorMetric → Result Composite Error
composite s at steps g bytes m = do
  left ← spent 5 steps
  body ← ok_or (after 10 bytes) MalformedFont
  cs ← components_at left body
  to ← moved s.gvar g (with_phantoms (range_with_len 0 (length cs.0)) (offset_xs cs.0) (offset_ys cs.0)) at cs.1
  Ok (record {
    components = cs.0;
    xs = to.0;
    ys = to.1;
    left = left_point bytes m (length cs.0) to.0;
    right = right_point bytes m (length cs.0) to.0;
    steps = to.2;
  })

unfoldable pub unfolded_composite : Child → Source → List ℤ → ℕ → ℕ → List ℕ → LongHorMetric
    → Result (Unfolded × ℕ) Error
unfolded_composite child s at steps g bytes m = do
  c ← composite s at steps g bytes m
  joined child c.components 0 c.xs c.ys (no_points c.left c.right, c.steps)

-- ---- a glyph

-- numberOfContours below 0 says that a glyph is composite
abbrev pub is_below_zero : Option ℕ → Bool
is_below_zero None = false
is_below_zero (Some n) = nat_le 0x8000 n

abbrev pub is_composite : List ℕ → Bool
is_composite bytes = is_below_zero (number bytes 0 2)

-- a glyph is one of those that maxp counts
abbrev pub counted_description : Source → ℕ → Option (List ℕ)
counted_description s g = if nat_lt g s.count then description s g else None

-- A glyph at a place, and the steps that are left. It may lead to components down to a depth, in a number of steps.
unfoldable pub unfolded : ℕ → Source → List ℤ → ℕ → ℕ → Result (Unfolded × ℕ) Error
unfolded zero s at steps g = Err MalformedFont
unfolded (suc depth) s at steps g = do
  bytes ← ok_or (counted_description s g) MalformedFont
  m ← ok_or (metric s g) MalformedFont
  if is_composite bytes then unfolded_composite (unfolded depth s at) s at steps g bytes m
      else unfolded_simple s at steps g bytes m

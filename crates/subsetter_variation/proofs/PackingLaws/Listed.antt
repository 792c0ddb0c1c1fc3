-- Lists that are read one member after another.
use Rattle.std.proofs.Common.{◌≡◌, ℕ, ℤ, pos, add-one, ◌*◌, length, drop, get_or, drop-cons, suc, ◌+◌, ◌-◌, ◌<◌, List, [], ◌∷◌, ◌++◌, Option, Some, None, Err, refl, append_assoc, arith}
use Rattle.std.specs.Option.{ok_or}
use Rattle.subsetter_base.specs.Bytes.{range}
use Rattle.subsetter_base.specs.Items.{Items}
use Rattle.subsetter_base.specs.declared.error.Error.{Error}
use Rattle.subsetter_base.specs.declared.tag.Tag.{Tag}
use Rattle.subsetter_base.proofs.Results.{with_front}
use Rattle.subsetter_base.specs.Options.{◌>>=◌}
use Rattle.subsetter_variation.specs.Locations.Axes.{axis_of, axes_at}
use Rattle.subsetter_variation.specs.Locations.Segments.{segment_map_at, axis_value_maps}
use Rattle.subsetter_variation.specs.Locations.Coordinates.{coordinate, coordinates_at}
use Rattle.subsetter_variation.specs.declared.locations.axes.Axis.{Axis}

-- what is past the end of a list of axes
abbrev pub no_axis : Axis
no_axis = record { tag = record { 0 = [] }; minimum = pos 0; default = pos 0; maximum = pos 0 }

-- a member that is read moves to the front
pub front_more : {A : Type 0} (front : List A) (x : A) (o : Option (List A)) (e : Error) → with_front front (ok_or (o >>= λ xs. Some (x ∷ xs)) e) ≡ with_front (front ++ x ∷ []) (ok_or o e)
front_more front x None e = refl
front_more front x (Some xs) e = simp append_assoc

pub axes_step : (front : List Axis) (n i size : ℕ) (fvar : List ℕ) (at : ℕ) (bytes : List ℕ) (e : Error) → i < n → range fvar at size ≡ Some bytes → with_front front (ok_or (axes_at (n - i) size fvar at) e) ≡ with_front (front ++ axis_of bytes ∷ []) (ok_or (axes_at (n - (i + 1)) size fvar (at + size)) e)
axes_step front n i size fvar at bytes e less h =
    let one : n - i ≡ suc (n - (i + 1)) = omega arith in
    rw (one, h) (front_more front (axis_of bytes) (axes_at (n - (i + 1)) size fvar (at + size)) e)

pub axes_cut : (front : List Axis) (n i size : ℕ) (fvar : List ℕ) (at : ℕ) (e : Error) → i < n → range fvar at size ≡ None → with_front front (ok_or (axes_at (n - i) size fvar at) e) ≡ Err e
axes_cut front n i size fvar at e less h =
    let one : n - i ≡ suc (n - (i + 1)) = omega arith in
    rw (one, h) refl

pub coordinates_step : (front : List ℤ) (axes : List Axis) (i : ℕ) (a : Axis) (settings : List (Tag × ℤ)) (avar : List ℕ) (at : ℕ) (segments : Items) (e : Error) → i < length axes → segment_map_at avar at ≡ Some segments → with_front front (ok_or (coordinates_at (drop i axes) settings avar at) e) ≡ with_front (front ++ coordinate (get_or axes i a) (axis_value_maps segments) settings ∷ []) (ok_or (coordinates_at (drop (i + 1) axes) settings avar (at + 2 + segments.count * 4)) e)
coordinates_step front axes i a settings avar at segments e less h =
    rw (add-one, drop-cons axes i a less, h) (front_more front (coordinate (get_or axes i a) (axis_value_maps segments) settings) (coordinates_at (drop (suc i) axes) settings avar (at + 2 + segments.count * 4)) e)

pub coordinates_cut : (front : List ℤ) (axes : List Axis) (i : ℕ) (settings : List (Tag × ℤ)) (avar : List ℕ) (at : ℕ) (e : Error) → i < length axes → segment_map_at avar at ≡ None → with_front front (ok_or (coordinates_at (drop i axes) settings avar at) e) ≡ Err e
coordinates_cut front axes i settings avar at e less h = rw (drop-cons axes i no_axis less, h) refl

-- Axes that are asked for and that a font doesn't have (OpenType, "fvar").
use Rattle.std.specs.Prelude.{ℕ, Bool, is_some, not, ◌&&◌, if◌then◌else◌, List, [], ◌∷◌, ◌++◌, codes, Option, ℤ}
use Rattle.std.specs.List.{list_any}
use Rattle.std.specs.Option.{unwrap_or}
use Rattle.std.specs.Str.{bytes_eq}
use Rattle.subsetter_base.specs.declared.tag.Tag.{Tag}
use Rattle.subsetter_variation.specs.Locations.Axes.{find_axis}
use Rattle.subsetter_variation.specs.declared.locations.axes.Axis.{Axis}
use Rattle.pdf_source.specs.Moved.{axes_in}

abbrev pub has_axis : List Axis → Tag → Bool
has_axis axes tag = is_some (find_axis tag.0 axes)

-- one of the settings is for a tag
abbrev pub is_set : List (Tag × ℤ) → Tag → Bool
is_set settings tag = list_any (λ s. bytes_eq s.0.0 tag.0) settings

-- a tag that no axis has is listed where it doesn't come before
abbrev pub is_listed : List Axis → List (Tag × ℤ) → Tag → Bool
is_listed axes before tag = not (has_axis axes tag) && not (is_set before tag)

-- the tags of settings that come after others
abbrev pub unknown_after : List Axis → List (Tag × ℤ) → List (Tag × ℤ) → List Tag
unknown_after axes before [] = []
unknown_after axes before (s ∷ settings) =
    (if is_listed axes before s.0 then s.0 ∷ [] else []) ++ unknown_after axes (before ++ s ∷ []) settings

-- of a font whose `fvar` is missing or can't be read all are unknown
abbrev pub unknown_axes : (List ℕ → Option (List ℕ)) → List (Tag × ℤ) → List Tag
unknown_axes find settings = unknown_after (unwrap_or (axes_in (find (codes "fvar"))) []) [] settings

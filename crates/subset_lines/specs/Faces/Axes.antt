-- The lines of the outlines of a font, of its axes, and of its named instances (OpenType, "fvar").
use Rattle.std.specs.Prelude.{ℕ, zero, suc, ◌+◌, ◌*◌, ◌==◌, nat_lt, Bool, if◌then◌else◌, List, [], ◌∷◌, ◌++◌, map, drop}
use Rattle.std.specs.Prelude.{Option, Some, None, codes}
use Rattle.std.specs.Option.{option_map, option_and_then}
use Rattle.subsetter_base.specs.Bytes.{range, number}
use Rattle.subsetter_variation.specs.declared.locations.axes.Axis.{Axis}
use Rattle.plain_text.specs.Characters.{shown}
use Rattle.plain_text.specs.Fixed.{fixed_text}
use Rattle.subset_lines.specs.Faces.Outlines.{outlines_line}
use Rattle.subset_lines.specs.Faces.Names.{name_of, after_instance}
use Rattle.subset_lines.specs.Faces.Settings.{settings_by}
use Rattle.subset_lines.specs.declared.faces.outlines.Outlines.{Outlines}
use Rattle.subset_lines.specs.declared.faces.settings.SettingForm.TheVariants.{Line}

-- ---- axes

-- `axis wght 100 400 900`: the least coordinate, the default and the greatest one
unfoldable pub axis_line : Axis → List ℕ
axis_line a =
    codes "axis " ++ map shown a.tag.0 ++ codes " " ++ fixed_text a.minimum ++ codes " " ++ fixed_text a.default
    ++ codes " " ++ fixed_text a.maximum ++ 10 ∷ []

abbrev pub axis_lines : List Axis → List ℕ
axis_lines [] = []
axis_lines (a ∷ axes) = axis_line a ++ axis_lines axes

-- ---- named instances

-- n records of `size` bytes each, one after the other
abbrev pub records_at : ℕ → ℕ → List ℕ → ℕ → Option (List (List ℕ))
records_at zero size fvar at = Some []
records_at (suc n) size fvar at =
    option_and_then (λ record_bytes. option_map (λ more. record_bytes ∷ more) (records_at n size fvar (at + size)))
    (range fvar at size)

-- they are after the axes; each has a name, flags, and a coordinate for each axis
abbrev pub instances_of : ℕ → ℕ → ℕ → ℕ → ℕ → List ℕ → Option (List (List ℕ))
instances_of at axes axis_size count size fvar =
    if count == 0 then Some []
    else if nat_lt size (4 + 4 * axes) then None
    else records_at count size fvar (at + axes * axis_size)

-- the records of the named instances
unfoldable pub instances : List ℕ → Option (List (List ℕ))
instances fvar =
    option_and_then (λ at. option_and_then (λ axes. option_and_then (λ axis_size. option_and_then (λ count.
    option_and_then (λ size. instances_of at axes axis_size count size fvar) (number fvar 14 2))
    (number fvar 12 2))
    (number fvar 10 2))
    (number fvar 8 2))
    (number fvar 4 2)

-- `instance wght=650,wdth=87.5 Semi Bold`: its coordinates, which begin after its name's number and its flags, and its
-- name, where the table `name` has it
abbrev pub instance_line : List Axis → List ℕ → List ℕ → List ℕ
instance_line axes names bytes =
    codes "instance " ++ settings_by Line [] axes (drop 4 bytes) ++ after_instance (name_of names (number bytes 0 2))
    ++ 10 ∷ []

abbrev pub instance_lines : List Axis → List ℕ → List (List ℕ) → List ℕ
instance_lines axes names [] = []
instance_lines axes names (record_bytes ∷ more) =
    instance_line axes names record_bytes ++ instance_lines axes names more

-- a line for the outlines, one for each axis, and one for each named instance
abbrev pub text_of : Outlines → Bool → List Axis → List ℕ → List (List ℕ) → List ℕ
text_of outlines is_variable axes names records =
    outlines_line outlines is_variable ++ axis_lines axes ++ instance_lines axes names records

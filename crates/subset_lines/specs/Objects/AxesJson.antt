-- The outlines of a font, its axes and its named instances as one JSON object (RFC 8259).
use Rattle.std.specs.Prelude.{ℕ, Bool, List, [], ◌∷◌, ◌++◌, map, drop, Option, Some, None, codes}
use Rattle.subsetter_base.specs.Bytes.{number}
use Rattle.subsetter_variation.specs.declared.locations.axes.Axis.{Axis}
use Rattle.plain_text.specs.Characters.{shown}
use Rattle.plain_text.specs.Fixed.{fixed_text}
use Rattle.plain_text.specs.Quoted.{quoted}
use Rattle.subset_lines.specs.Faces.Names.{name_of, text_of_units}
use Rattle.subset_lines.specs.Faces.Outlines.{outlines_members}
use Rattle.subset_lines.specs.Faces.Settings.{settings_by}
use Rattle.subset_lines.specs.declared.faces.outlines.Outlines.{Outlines}
use Rattle.subset_lines.specs.declared.faces.settings.SettingForm.TheVariants.{Member}

unfoldable pub axis_object : Axis → List ℕ
axis_object a =
    codes "{\"tag\":" ++ quoted (map shown a.tag.0) ++ codes ",\"least\":" ++ fixed_text a.minimum
    ++ codes ",\"default\":" ++ fixed_text a.default ++ codes ",\"greatest\":" ++ fixed_text a.maximum ++ codes "}"

-- with a text before the first, and a comma between each two
abbrev pub axis_objects : List ℕ → List Axis → List ℕ
axis_objects before [] = []
axis_objects before (a ∷ axes) = (before ++ axis_object a) ++ axis_objects (codes ",") axes

abbrev pub name_or_null : Option (List ℕ) → List ℕ
name_or_null None = codes "null"
name_or_null (Some bytes) = quoted (text_of_units bytes)

-- the name of an instance, and its coordinates, which begin after its name's number and its flags
unfoldable pub instance_object : List Axis → List ℕ → List ℕ → List ℕ
instance_object axes names bytes =
    codes "{\"name\":" ++ name_or_null (name_of names (number bytes 0 2))
    ++ codes ",\"coordinates\":{" ++ settings_by Member [] axes (drop 4 bytes) ++ codes "}}"

abbrev pub instance_objects : List ℕ → List Axis → List ℕ → List (List ℕ) → List ℕ
instance_objects before axes names [] = []
instance_objects before axes names (record_bytes ∷ more) =
    (before ++ instance_object axes names record_bytes) ++ instance_objects (codes ",") axes names more

abbrev pub axes_json : Outlines → Bool → List Axis → List ℕ → List (List ℕ) → List ℕ
axes_json outlines is_variable axes names records =
    outlines_members outlines is_variable ++ codes ",\"axes\":[" ++ axis_objects [] axes
    ++ codes "],\"instances\":[" ++ instance_objects [] axes names records ++ codes "]}\n"

-- The coordinates of a named instance, each with the tag of its axis.
use Rattle.std.specs.Prelude.{ℕ, List, [], ◌∷◌, ◌++◌, map, drop, Option, Some, None, codes}
use Rattle.std.specs.Int.{w32, cast_signed}
use Rattle.subsetter_base.specs.Bytes.{number}
use Rattle.subsetter_base.specs.declared.tag.Tag.{Tag}
use Rattle.subsetter_variation.specs.declared.locations.axes.Axis.{Axis}
use Rattle.plain_text.specs.Characters.{shown}
use Rattle.plain_text.specs.Fixed.{fixed_text}
use Rattle.plain_text.specs.Quoted.{quoted}
use Rattle.subset_lines.specs.declared.faces.settings.SettingForm.{SettingForm}
use Rattle.subset_lines.specs.declared.faces.settings.SettingForm.TheVariants.{Line, Member}

-- the coordinate that bits say
abbrev pub coordinate_text : Option ℕ → List ℕ
coordinate_text None = []
coordinate_text (Some bits) = fixed_text (cast_signed w32 bits)

-- an axis with the coordinate that four bytes say: `wght=650`, as `--at` takes it, or a member of an object
abbrev pub setting_by : SettingForm → Tag → List ℕ → List ℕ
setting_by Line tag bytes = map shown tag.0 ++ codes "=" ++ coordinate_text (number bytes 0 4)
setting_by Member tag bytes = quoted (map shown tag.0) ++ codes ":" ++ coordinate_text (number bytes 0 4)

-- all of them, with a text before the first and a comma between each two
abbrev pub settings_by : SettingForm → List ℕ → List Axis → List ℕ → List ℕ
settings_by form before [] bytes = []
settings_by form before (a ∷ axes) bytes =
    (before ++ setting_by form a.tag bytes) ++ settings_by form (codes ",") axes (drop 4 bytes)

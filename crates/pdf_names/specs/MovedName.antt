-- The PostScript name of a font that is off its default (Technical Note 5902).
use Rattle.std.specs.Prelude.{◌≤◌, ◌<◌, ℕ, nat_le, if◌then◌else◌, List, ◌++◌, codes, length, take, Option}
use Rattle.pdf_values.specs.Movement.{Movement}
use Rattle.pdf_names.specs.AxisTexts.{axes_text}
use Rattle.pdf_names.specs.Instances.{instance_name}
use Rattle.pdf_names.specs.Letters.{prefix}
use Rattle.pdf_text.specs.SubsetName.{tag_of}
use Rattle.pdf_values.specs.Name.{IsNameText}
use Rattle.subsetter_base.specs.Texts.{or_else}

-- the name of the named instance at the coordinates, else the prefix with each coordinate that is off its default
unfoldable pub whole_name : List ℕ → Option (List ℕ) → Option (List ℕ) → Movement → List ℕ
whole_name front name fvar m =
    or_else (instance_name name front m.axes m.settings fvar) (front ++ axes_text m.axes m.settings)

-- a name of more than 120 bytes is cut to the front of its prefix, `-`, six letters by the rule of a subset's tag, and
-- `...`
unfoldable pub shortened : List ℕ → List ℕ → List ℕ
shortened front text =
    if nat_le (length text) 120 then text else take 110 front ++ (codes "-" ++ (tag_of text ++ codes "..."))

abbrev pub name_at : Option (List ℕ) → Option (List ℕ) → Movement → Option (List ℕ) → List ℕ
name_at name fvar m cff = shortened (prefix name cff) (whole_name (prefix name cff) name fvar m)

-- a name that a subset's name can end with as it is, but for number signs
pub record IsShortName (text : List ℕ) : Type 0 where
  pub characters : IsNameText text
  pub some : 0 < length text
  pub most : length text ≤ 120

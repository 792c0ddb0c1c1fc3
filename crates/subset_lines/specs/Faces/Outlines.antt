-- What the outlines of a face are, as a line and as members of a JSON object (RFC 8259).
use Rattle.std.specs.Prelude.{ℕ, Bool, if◌then◌else◌, List, ◌++◌, codes}
use Rattle.plain_text.specs.Quoted.{quoted}
use Rattle.subset_lines.specs.declared.faces.outlines.Outlines.{Outlines}
use Rattle.subset_lines.specs.declared.faces.outlines.Outlines.TheVariants.{TrueType, Cff, Cff2, Missing}

abbrev pub outlines_name : Outlines → List ℕ
outlines_name TrueType = codes "TrueType"
outlines_name Cff = codes "CFF"
outlines_name Cff2 = codes "CFF2"
outlines_name Missing = codes "none"

-- `outlines CFF2, variable`
abbrev pub outlines_end : Bool → List ℕ
outlines_end is_variable = if is_variable then codes ", variable\n" else codes "\n"

abbrev pub outlines_line : Outlines → Bool → List ℕ
outlines_line outlines is_variable = codes "outlines " ++ outlines_name outlines ++ outlines_end is_variable

-- the first members of an object, which they open
abbrev pub variable_member : Bool → List ℕ
variable_member is_variable = if is_variable then codes ",\"variable\":true" else codes ",\"variable\":false"

abbrev pub outlines_members : Outlines → Bool → List ℕ
outlines_members outlines is_variable =
    codes "{\"outlines\":" ++ quoted (outlines_name outlines) ++ variable_member is_variable

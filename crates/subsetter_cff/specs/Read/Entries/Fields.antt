-- What the operators of a top dict or a font dict say, one by one, and which operands are demanded of them.
use Rattle.std.specs.Prelude.{ℕ, if◌then◌else◌, Bool, true, false, List}
use Rattle.std.specs.Str.{bytes_eq}
use Rattle.subsetter_cffdata.specs.Numerals.Numbers.{Number}
use Rattle.subsetter_cffdata.specs.Dicts.Operands.{string_operand, offset_operand, range_operands, just}
use Rattle.subsetter_cff.specs.declared.read.entries.fields.Field.{Field}
use Rattle.subsetter_cff.specs.declared.read.entries.fields.Field.TheVariants as fields
use Rattle.subsetter_cff.specs.declared.read.entries.fields.Demands.{Demands}
use Rattle.subsetter_cff.specs.declared.read.entries.fields.Demands.TheVariants as kinds
use Rattle.subsetter_cff.specs.Read.Entries.OperandDemands.{Demand, one_string, one_offset, one_range, so_many}
use Rattle.subsetter_cff.specs.Read.Entries.OperandDemands.{top_demands, font_dict_demands}
use Rattle.subsetter_cff.specs.Read.Entries.Operators.{notice_operator, font_box_operator, charset_operator}
use Rattle.subsetter_cff.specs.Read.Entries.Operators.{char_strings_operator, private_operator, copyright_operator}
use Rattle.subsetter_cff.specs.Read.Entries.Operators.{font_matrix_operator, registry_operator, font_dicts_operator}
use Rattle.subsetter_cff.specs.Read.Entries.Operators.{font_dict_select_operator, font_name_operator}
use Rattle.subsetter_cff.specs.Read.Entries.Values.{DictValues}

-- what an operator says
abbrev pub field_by : List ℕ → Field
field_by o =
    if bytes_eq o notice_operator then fields.Notice
    else if bytes_eq o copyright_operator then fields.Copyright
    else if bytes_eq o font_name_operator then fields.FontName
    else if bytes_eq o charset_operator then fields.Charset
    else if bytes_eq o char_strings_operator then fields.CharStrings
    else if bytes_eq o font_dicts_operator then fields.FdArray
    else if bytes_eq o font_dict_select_operator then fields.FdSelect
    else if bytes_eq o private_operator then fields.Private
    else if bytes_eq o font_matrix_operator then fields.FontMatrix
    else if bytes_eq o font_box_operator then fields.FontBBox
    else if bytes_eq o registry_operator then fields.Ros
    else fields.Other

-- the values after one more entry
abbrev pub taken_as : DictValues → Field → List Number → DictValues
taken_as s fields.Notice xs = record s { notice = string_operand xs }
taken_as s fields.Copyright xs = record s { copyright = string_operand xs }
taken_as s fields.FontName xs = record s { font_name = string_operand xs }
taken_as s fields.Charset xs = record s { charset = offset_operand xs }
taken_as s fields.CharStrings xs = record s { char_strings = offset_operand xs }
taken_as s fields.FdArray xs = record s { fd_array = offset_operand xs }
taken_as s fields.FdSelect xs = record s { fd_select = offset_operand xs }
taken_as s fields.Private xs = record s { private = range_operands xs }
taken_as s fields.FontMatrix xs = record s { font_matrix = just 6 xs }
taken_as s fields.FontBBox xs = record s { font_bbox = just 4 xs }
taken_as s fields.Ros xs = record s { has_ros = true }
taken_as s fields.Other xs = s

-- the operands are as a top dict demands
abbrev pub holds_as : Field → List Number → Bool
holds_as fields.Notice xs = one_string xs
holds_as fields.Copyright xs = one_string xs
holds_as fields.FontName xs = one_string xs
holds_as fields.Charset xs = one_offset xs
holds_as fields.CharStrings xs = one_offset xs
holds_as fields.FdArray xs = one_offset xs
holds_as fields.FdSelect xs = one_offset xs
holds_as fields.Private xs = one_range xs
holds_as fields.FontMatrix xs = so_many 6 xs
holds_as fields.FontBBox xs = so_many 4 xs
holds_as fields.Ros xs = true
holds_as fields.Other xs = true

-- whose demands are to be met
abbrev pub demands_of : Demands → List Demand
demands_of kinds.TopDict = top_demands
demands_of kinds.FontDict = font_dict_demands

-- of a font dict just these are demanded
abbrev pub of_font_dict : Field → Bool
of_font_dict fields.Private = true
of_font_dict fields.FontName = true
of_font_dict fields.FontMatrix = true
of_font_dict fields.Notice = false
of_font_dict fields.Copyright = false
of_font_dict fields.Charset = false
of_font_dict fields.CharStrings = false
of_font_dict fields.FdArray = false
of_font_dict fields.FdSelect = false
of_font_dict fields.FontBBox = false
of_font_dict fields.Ros = false
of_font_dict fields.Other = false

abbrev pub is_demanded : Demands → Field → Bool
is_demanded kinds.TopDict f = true
is_demanded kinds.FontDict f = of_font_dict f

-- Faults have five names, and want of memory is none of them.
use Rattle.std.proofs.Common.{ℕ, List}
use Rattle.subsetter_base.specs.declared.error.Error.{Error}
use Rattle.subsetter_base.specs.declared.error.Error.TheVariants.{UnknownKind, MalformedFont, Unimplemented, SubsetError, OverflowError, CFFError, OutOfMemory}
use Rattle.subsetter_cff.specs.Read.Cff.{Cff}
use Rattle.subsetter_cff.specs.Read.GlyphTrace.{library}
use Rattle.subsetter_cff.specs.Read.Fault.{HasFrontFault, short, other_version, bad_names, bad_tops, bad_strings, bad_subroutines, no_top_dict, HasTopFault, wrong_operands, no_char_strings, empty_char_strings, no_font_dicts, no_select, bad_font_dict, bad_private, HasGlyphFault, no_number, no_font_dict, no_char_string, stops, bad_name, HasStringFault, bad_copyright, bad_notice, bad_font_name, HasCffOpeningFault, in_front, in_top}
use Rattle.subsetter_cff.specs.Write.Refusals.LimitFault.{HasLimitFault, many_font_dicts, long_matrix, long_box, long_own_matrix, long_private, large_index, large_offset}
use Rattle.subsetter_cff.specs.Write.Refusals.CffFault.{in_opening, in_glyph, in_strings, in_limits, IsCffError, FaultIsNamed}
use Rattle.subsetter_cff.proofs.WriteLaws.GlyphsLaws.RunErrors.{IsRunError, run_error}

of_run : (e : Error) → IsRunError e → IsCffError e
of_run CFFError h = tt
of_run Unimplemented h = tt
of_run UnknownKind h = absurd h
of_run MalformedFont h = absurd h
of_run SubsetError h = absurd h
of_run OverflowError h = absurd h
of_run OutOfMemory h = absurd h

front_named : (bytes : List ℕ) (e : Error) → HasFrontFault bytes e → IsCffError e
front_named bytes _ (short lt) = tt
front_named bytes _ (other_version b is other) = tt
front_named bytes _ (bad_names none) = tt
front_named bytes _ (bad_tops none) = tt
front_named bytes _ (bad_strings none) = tt
front_named bytes _ (bad_subroutines none) = tt
front_named bytes _ (no_top_dict none) = tt

top_named : (cff : Cff) (e : Error) → HasTopFault cff e → IsCffError e
top_named cff _ (wrong_operands f) = tt
top_named cff _ (no_char_strings none) = tt
top_named cff _ (empty_char_strings none) = tt
top_named cff _ (no_font_dicts cid none) = tt
top_named cff _ (no_select cid none) = tt
top_named cff _ (bad_font_dict dicts dict cid are inside wrong) = tt
top_named cff _ (bad_private dicts dict cid are inside wrong) = tt

opening_named : (bytes : List ℕ) (e : Error) → HasCffOpeningFault bytes e → IsCffError e
opening_named bytes e (in_front f) = front_named bytes e f
opening_named bytes e (in_top cff is f) = top_named cff e f

glyph_named : (cff : Cff) (tokens depth g : ℕ) (e : Error) → HasGlyphFault cff tokens depth g e → IsCffError e
glyph_named cff tokens depth g _ (no_number cid none) = tt
glyph_named cff tokens depth g _ (no_font_dict cid none) = tt
glyph_named cff tokens depth g _ (no_char_string none) = tt
glyph_named cff tokens depth g _ (stops private bytes e private_is bytes_is out) = of_run e (run_error (library cff private) tokens depth bytes e out)
glyph_named cff tokens depth g _ (bad_name dict cid dict_is none) = tt

string_named : (cff : Cff) (e : Error) → HasStringFault cff e → IsCffError e
string_named cff _ (bad_copyright f) = tt
string_named cff _ (bad_notice f) = tt
string_named cff _ (bad_font_name f) = tt

limit_named : (cff : Cff) (tokens depth : ℕ) (glyphs : List ℕ) (e : Error) → HasLimitFault cff tokens depth glyphs e → IsCffError e
limit_named cff tokens depth glyphs _ (many_font_dicts cid many) = tt
limit_named cff tokens depth glyphs _ (long_matrix xs is six long) = tt
limit_named cff tokens depth glyphs _ (long_box xs is four long) = tt
limit_named cff tokens depth glyphs _ (long_own_matrix g own m inside own_is six is long) = tt
limit_named cff tokens depth glyphs _ (long_private g es inside is long) = tt
limit_named cff tokens depth glyphs _ (large_index p items laid inside large) = tt
limit_named cff tokens depth glyphs _ (large_offset p n laid inside large) = tt

pub fault_is_named : FaultIsNamed
fault_is_named bytes tokens depth glyphs e (in_opening f) = opening_named bytes e f
fault_is_named bytes tokens depth glyphs e (in_glyph cff g is inside f) = glyph_named cff tokens depth g e f
fault_is_named bytes tokens depth glyphs e (in_strings cff is f) = string_named cff e f
fault_is_named bytes tokens depth glyphs e (in_limits cff is f) = limit_named cff tokens depth glyphs e f

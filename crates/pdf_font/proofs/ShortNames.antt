-- The name of a font has room for that of its CMap.
use Rattle.std.proofs.Common.{◌≡◌, ℕ, ◌+◌, ◌-◌, ◌≤◌, Bool, true, false, List, ◌++◌, length, take, Option, Some, None, refl, sym, ap, subst, arith, length-append, length-take}
use Rattle.std.specs.Prelude.{if◌then◌else◌, nat_le, codes}
use Rattle.std.proofs.lemmas.Bool.Decides.{nat_tests}
use Rattle.std.specs.Option.{unwrap_or}
use Rattle.subsetter_sfnt.specs.Read.{stored}
use Rattle.pdf_text.specs.Cmaps.CmapName.{code_lines, mode_end}
use Rattle.pdf_text.specs.Dictionaries.Fonts.{identity_name, name_end}
use Rattle.pdf_text.specs.SubsetName.{font_name, tag_of}
use Rattle.pdf_text.specs.declared.values.ProgramKind.{ProgramKind}
use Rattle.pdf_text.specs.declared.values.ProgramKind.TheVariants.{TrueType, BareCff, OpenType}
use Rattle.pdf_codes.specs.Cmaps.Leading.{are_cids, pairs_of_codes, pairs_with}
use Rattle.pdf_source.specs.Chosen.{is_vertical}
use Rattle.pdf_source.specs.Named.{name_there}
use Rattle.pdf_source.specs.Source.{tag_in}
use Rattle.pdf_font.specs.Laws.{NamesAreShort}
use Rattle.pdf_font.specs.PdfFont.{cmap_name, cut_name, name_room, short_name}

-- ---- a name that is cut

end : List ℕ → List ℕ
end text = codes "-" ++ (tag_of text ++ codes "...")

ten : (text : List ℕ) → length (end text) ≡ 10
unfolding end
ten text = refl

cut_size : (room : ℕ) (name : List ℕ) → length (cut_name room name) ≤ (room - 10) + 10
unfolding end
cut_size room name =
    let e = ten name in
    let t : length (take (room - 10) name) ≤ room - 10 = simp length-take (omega arith) in
    omega (arith, length-append (take (room - 10) name) (end name))

is_short : (n room : ℕ) → nat_le n room ≡ true → n ≤ room
is_short n room h = grind (arith, nat_tests)

chosen_size : (b : Bool) (room : ℕ) (name : List ℕ) → nat_le (length name) room ≡ b → 10 ≤ room → length (if b then name else cut_name room name) ≤ room
chosen_size true room name e h = is_short (length name) room e
chosen_size false room name e h = let s = cut_size room name in omega arith

short_size : (room : ℕ) (name : List ℕ) → 10 ≤ room → length (short_name room name) ≤ room
short_size room name h = chosen_size (nat_le (length name) room) room name refl h

whole_size : (name following : List ℕ) → length name ≤ 127 - length following → length following ≤ 127 → length (name ++ following) ≤ 127
whole_size name following h g = omega (arith, length-append name following)

-- ---- the name of the CMap

-- ten bytes at most: `Identity-H`, or six letters, a hyphen and the writing mode
cmap_size : (same v : Bool) (lines : List ℕ) → length (unwrap_or (if same then None else Some (tag_of lines ++ mode_end v)) (identity_name v)) ≤ 10
cmap_size true true lines = omega arith
cmap_size true false lines = omega arith
cmap_size false true lines = omega arith
cmap_size false false lines = omega arith

end_size : (kind : ProgramKind) (cmap : List ℕ) → length cmap ≤ 10 → length (name_end kind cmap) ≤ 11
end_size TrueType cmap h = omega arith
end_size BareCff cmap h = omega arith
end_size OpenType cmap h = omega arith

pub names_are_short : NamesAreShort
names_are_short font settings options us f p =
    let cmap = cmap_name f.encoding options.direction in
    let vertical = is_vertical options.direction in
    let few : length cmap ≤ 10 =
    subst (λ (o : Option (List ℕ)). length (unwrap_or o (identity_name vertical)) ≤ 10) (sym p.made.filled.coded.encoding_name) (cmap_size (are_cids (pairs_with f.codes.items f.cids.items)) vertical (code_lines (pairs_of_codes (pairs_with f.codes.items f.cids.items)))) in
    let following : length (name_end f.kind cmap) ≤ 11 = end_size f.kind cmap few in
    let short = short_size (name_room f.kind cmap) (font_name (tag_in options.tag f.program.items) (name_there (stored font) settings)) (omega arith) in
    let name : length f.descriptor.font_name.items ≤ name_room f.kind cmap = omega (arith, ap length p.made.filled.name, short) in
    whole_size f.descriptor.font_name.items (name_end f.kind cmap) name (omega arith)

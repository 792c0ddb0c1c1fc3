-- What is borrowed of a font that was laid out for C is what `pdf_objects` borrows of the font itself.
use Rattle.std.proofs.Common.{◌≡◌, ◌<◌, ℕ, ◌+◌, Bool, true, false, List, [], ◌++◌, length, get_or, map, refl, ap, ◌∙◌, arith, ℤ, Option, Some, None, Vec, Global}
use Rattle.std.specs.Prelude.{◌==◌, if◌then◌else◌, min, pos}
use Rattle.std.specs.Option.{option_map}
use Rattle.std.proofs.lemmas.List.{length-append, length-map}
use Rattle.subsetter_base.specs.declared.tag.Tag.{Tag}
use Rattle.subsetter_base.proofs.Options.{just_is}
use Rattle.subsetter_sfnt.specs.Read.{Font, as_font, stored}
use Rattle.cid_embed.specs.Width.{width}
use Rattle.pdf_codes.specs.Codes.{Used}
use Rattle.pdf_codes.specs.Cmaps.Leading.{are_cids, own_cmap, pairs_of_codes, pairs_with, text_of}
use Rattle.pdf_font.specs.PdfFont.{IsCidSetIf, IsPdfFont}
use Rattle.pdf_font.specs.declared.font.PdfFont.{PdfFont}
use Rattle.pdf_glyphs.specs.declared.columns.Columns.{Columns}
use Rattle.pdf_objects.specs.View.{IsDescriptorOf as IsDescriptorOfFont, IsViewOf as IsViewOfFont}
use Rattle.pdf_objects.specs.declared.view.FontView.{FontView}
use Rattle.pdf_source.specs.Chosen.{is_vertical}
use Rattle.pdf_source.specs.Cff.{font_stem}
use Rattle.pdf_source.specs.Moved.{Location, kept_in, location_in, movement_of, values_by}
use Rattle.pdf_source.specs.Source.{tables_of}
use Rattle.pdf_source.specs.Tops.{known_of}
use Rattle.pdf_source.specs.declared.choice.FontOptions.{FontOptions}
use Rattle.pdf_text.specs.Cmaps.CmapName.{code_lines, name_back, name_front, name_of_codes}
use Rattle.pdf_text.specs.Cmaps.Encoding.{Pair}
use Rattle.pdf_text.specs.declared.metrics.columns.Column.{Column}
use Rattle.pdf_text.specs.declared.metrics.columns.DefaultColumn.{DefaultColumn}
use Rattle.pdf_text.specs.declared.cmaps.named.NamedCmap.{NamedCmap}
use Rattle.pdf_text.specs.declared.values.Descriptor.{Descriptor}
use Rattle.pdf_text.specs.declared.values.ProgramKind.{ProgramKind}
use Rattle.pdf_text.specs.declared.values.ProgramKind.TheVariants.{TrueType, BareCff, OpenType}
use Rattle.pdf_values.specs.Looks.Weight.{font_weight, weight_at}
use Rattle.pdf_values.specs.declared.looks.bounds.Bounds.{Bounds}
use Rattle.pdf_values.specs.declared.descriptor.Known.{Known}
use Rattle.subsetter_pdf_c.specs.Made.{IsDescriptorOf, IsViewOf, kind_of, unless_empty, unless_zero, weight_of}
use Rattle.subsetter_pdf_c.specs.declared.made.PdfMade.{PdfMade}
use Rattle.subsetter_c.specs.Documents.PdfFonts.{IsLaidOut, bytes_of, cmap_name, cmap_text, columns_of, default_column, is_there, kind_number, or_zero, vertical_number}

-- ---- numbers

kind_back : (k : ProgramKind) → kind_of (kind_number k) ≡ k
kind_back TrueType = refl
kind_back BareCff = refl
kind_back OpenType = refl

height_back : (h : Option ℤ) → unless_zero (is_there h) (or_zero h) ≡ h
height_back None = refl
height_back (Some x) = refl

weight_fits : (w : ℕ) → min (font_weight w) 1000 ≡ font_weight w
weight_fits w = omega arith

-- FontWeight is at most 1000
weight_back : (p : Option Location) (known : Known) (find : List ℕ → Option (List ℕ)) (choice : Bounds) (settings : List (Tag × ℤ)) → weight_of (values_by p known find choice settings).font_weight ≡ (values_by p known find choice settings).font_weight
weight_back None known find choice settings = weight_fits (weight_at None (tables_of find).os2 (tables_of find).head)
weight_back (Some p) known find choice settings = weight_fits (weight_at (Some (movement_of find settings p)) (tables_of find).os2 (tables_of find).head)

-- ---- columns

each_back : (cs : Option Columns) → unless_zero (vertical_number cs) (columns_of cs) ≡ option_map (λ (c : Columns). c.each.items) cs
each_back None = refl
each_back (Some c) = refl

-- y of DW2, and its advance
abbrev default_in : List ℤ → DefaultColumn
default_in default = record { y = get_or default 0 (pos 0); advance = get_or default 1 (pos 0) }

default_back : (cs : Option Columns) → unless_zero (vertical_number cs) (default_in (default_column cs)) ≡ option_map (λ (c : Columns). c.default) cs
default_back None = refl
default_back (Some c) = refl

-- ---- lists that aren't empty

not_zero : (n : ℕ) → 0 < n → (n == 0) ≡ false
not_zero n lt = grind arith

kept : {A : Type 0} (bytes : List ℕ) (value : A) → 0 < length bytes → unless_empty bytes value ≡ Some value
kept {A} bytes value lt = ap (λ (b : Bool). if b then None else Some value) (not_zero (length bytes) lt)

front_size : length name_front ≡ 150
unfolding name_front
front_size = refl

-- a CMap isn't empty
cmap_there : (t more : List ℕ) (b : Bool) → Some t ≡ (if b then None else Some (name_front ++ more)) → 0 < length t
cmap_there t more true h = absurd cc
cmap_there t more false h =
    let e : length t ≡ length name_front + length more = ap length (just_is t (name_front ++ more) h) ∙ length-append name_front more in
    let n : length name_front ≡ 150 = front_size in
    omega arith

own_there : (c : NamedCmap) (vertical : Bool) (ps : List Pair) → text_of (Some c) ≡ own_cmap vertical ps → 0 < length c.text.items
own_there c vertical ps h = cmap_there c.text.items (name_of_codes vertical (pairs_of_codes ps) ++ (name_back vertical ++ code_lines (pairs_of_codes ps))) (are_cids ps) h

name_there : (c : Option NamedCmap) (vertical : Bool) (ps : List Pair) → text_of c ≡ own_cmap vertical ps → unless_empty (cmap_text c) (cmap_name c) ≡ option_map (λ (c : NamedCmap). c.name.items) c
name_there None vertical ps h = refl
name_there (Some c) vertical ps h = kept c.text.items c.name.items (own_there c vertical ps h)

text_there : (c : Option NamedCmap) (vertical : Bool) (ps : List Pair) → text_of c ≡ own_cmap vertical ps → unless_empty (cmap_text c) (cmap_text c) ≡ option_map (λ (c : NamedCmap). c.text.items) c
text_there None vertical ps h = refl
text_there (Some c) vertical ps h = kept c.text.items c.text.items (own_there c vertical ps h)

-- nor is a CIDSet of a CID
set_size : (requested : Bool) (count : ℕ) (bytes : List ℕ) → IsCidSetIf requested count (Some bytes) → 0 < count → 0 < length bytes
set_size false count bytes h lt = absurd cc
set_size true count bytes h lt =
    let size = h.1.size in
    omega arith

set_there : (requested : Bool) (count : ℕ) (s : Option (Vec ℕ Global)) → IsCidSetIf requested count (option_map (λ v. v.items) s) → 0 < count → unless_empty (bytes_of s) (bytes_of s) ≡ option_map (λ s. s.items) s
set_there requested count None h lt = refl
set_there requested count (Some s) h lt = kept s.items s.items (set_size requested count s.items h lt)

-- ---- the values

module _ (f : PdfFont) (made : PdfMade) (laid : IsLaidOut f made) where
  descriptor_back : (d : Descriptor) → weight_of f.descriptor.values.font_weight ≡ f.descriptor.values.font_weight → IsDescriptorOf made d → IsDescriptorOfFont f d
  descriptor_back d fits h = record {
    font_name = h.font_name ∙ laid.font_name;
    flags = h.flags ∙ laid.numbers.flags;
    bounds = h.bounds ∙ laid.numbers.bounds;
    italic_angle = h.italic_angle ∙ laid.numbers.italic_angle;
    ascent = h.ascent ∙ laid.numbers.ascent;
    descent = h.descent ∙ laid.numbers.descent;
    cap_height = h.cap_height ∙ laid.numbers.cap_height;
    x_height = h.x_height ∙ ap (λ (n : ℕ). unless_zero n made.numbers.x_height) laid.numbers.has_x_height ∙ ap (unless_zero (is_there f.descriptor.values.heights.x_height)) laid.numbers.x_height ∙ height_back f.descriptor.values.heights.x_height;
    stem_v = h.stem_v ∙ laid.numbers.stem_v;
    font_weight = h.font_weight ∙ ap weight_of laid.numbers.font_weight ∙ fits;
  }

  each_is : unless_zero made.numbers.is_vertical made.columns.now ≡ option_map (λ (c : Columns). c.each.items) f.columns
  each_is =
      ap (λ (n : ℕ). unless_zero n made.columns.now) laid.numbers.is_vertical
      ∙ ap (λ (cs : List Column). unless_zero (vertical_number f.columns) cs) laid.columns ∙ each_back f.columns

  default_is : unless_zero made.numbers.is_vertical (default_in made.numbers.default_column) ≡ option_map (λ (c : Columns). c.default) f.columns
  default_is =
      ap (λ (n : ℕ). unless_zero n (default_in made.numbers.default_column)) laid.numbers.is_vertical
      ∙ ap (λ (d : List ℤ). unless_zero (vertical_number f.columns) (default_in d)) laid.numbers.default_column_is ∙ default_back f.columns

  name_is : (vertical : Bool) (ps : List Pair) → text_of f.encoding ≡ own_cmap vertical ps → unless_empty made.encoding.now made.encoding_name.now ≡ option_map (λ (c : NamedCmap). c.name.items) f.encoding
  name_is vertical ps h =
      ap (λ (t : List ℕ). unless_empty t made.encoding_name.now) laid.encoding
      ∙ ap (unless_empty (cmap_text f.encoding)) laid.encoding_name ∙ name_there f.encoding vertical ps h

  text_is : (vertical : Bool) (ps : List Pair) → text_of f.encoding ≡ own_cmap vertical ps → unless_empty made.encoding.now made.encoding.now ≡ option_map (λ (c : NamedCmap). c.text.items) f.encoding
  text_is vertical ps h = ap (λ (t : List ℕ). unless_empty t t) laid.encoding ∙ text_there f.encoding vertical ps h

  set_is : (requested : Bool) → IsCidSetIf requested f.glyph_count (option_map (λ v. v.items) f.cid_set) → 0 < f.glyph_count → unless_empty made.cid_set.now made.cid_set.now ≡ option_map (λ s. s.items) f.cid_set
  set_is requested h lt = ap (λ (t : List ℕ). unless_empty t t) laid.cid_set ∙ set_there requested f.glyph_count f.cid_set h lt

-- the program has a CID
some_cid : (font : Font) (settings : List (Tag × ℤ)) (options : FontOptions) (us : List Used) (f : PdfFont) → IsPdfFont font settings options us f → 0 < f.glyph_count
some_cid font settings options us f p =
    let order = p.made.embedded.answer.embedded.subset.keeps.order in
    let same : length (map Some f.widths.items) ≡ length (map (width p.made.embedded.static) order) = ap length p.made.widths in
    let left : length (map Some f.widths.items) ≡ length f.widths.items = length-map f.widths.items Some in
    let right : length (map (width p.made.embedded.static) order) ≡ length order = length-map order (width p.made.embedded.static) in
    let counted : f.glyph_count ≡ length order = p.made.counted in
    let within : p.made.filled.default_width.index < length f.widths.items = p.made.filled.default_width.within in
    omega arith

weight_is : (font : Font) (settings : List (Tag × ℤ)) (options : FontOptions) (us : List Used) (f : PdfFont) → IsPdfFont font settings options us f → weight_of f.descriptor.values.font_weight ≡ f.descriptor.values.font_weight
weight_is font settings options us f p = rw p.made.values (weight_back (location_in (stored font) settings) (known_of (stored font) options.limits (font_stem (stored font) (stored (as_font p.made.new.font.items))) (kept_in (stored font) (stored (as_font p.made.new.font.items)) f.glyph_count)) (stored font) options.bounds settings)

pub views_are_of_the_font : (font : Font) (settings : List (Tag × ℤ)) (options : FontOptions) (us : List Used) (f : PdfFont) (made : PdfMade) → IsPdfFont font settings options us f → IsLaidOut f made → (w : FontView) → IsViewOf made [] w → IsViewOfFont f w
views_are_of_the_font font settings options us f made p laid w h =
    let ps = pairs_with f.codes.items f.cids.items in
    record {
      kind = h.kind ∙ ap kind_of laid.numbers.kind ∙ kind_back f.kind;
      descriptor = descriptor_back f made laid w.values.descriptor (weight_is font settings options us f p) h.descriptor;
      widths = h.widths ∙ laid.widths;
      default_width = h.default_width ∙ laid.numbers.default_width;
      columns = h.columns ∙ each_is f made laid;
      default_column = h.default_column ∙ default_is f made laid;
      program = h.program ∙ laid.program;
      cid_to_gid_map = h.cid_to_gid_map;
      to_unicode = h.to_unicode ∙ laid.to_unicode;
      cmap_name = h.cmap_name ∙ name_is f made laid (is_vertical options.direction) ps p.made.filled.coded.encoding;
      cmap_text = h.cmap_text ∙ text_is f made laid (is_vertical options.direction) ps p.made.filled.coded.encoding;
      cid_set = h.cid_set ∙ set_is f made laid options.cid_set p.made.filled.cid_set (some_cid font settings options us f p);
      cids = h.cids ∙ laid.cids;
      codes = h.codes ∙ laid.codes;
      is_said = h.is_said ∙ laid.is_said;
    }

-- There is one answer, and its program has its widths.
use Rattle.std.proofs.Common.{◌≡◌, ℕ, ◌<◌, ◌≤◌, List, [], ◌∷◌, length, map, Option, Some, None, Result, Ok, ℤ, refl, sym, ap, subst, ◌∙◌, inl, inr, arith}
use Rattle.std.specs.Prelude.{codes, slice_index, IsSome}
use Rattle.std.specs.Option.{option_map, unwrap_or}
use Rattle.std.proofs.lemmas.Bool.{cases_lt}
use Rattle.std.proofs.lemmas.List.{length-map}
use Rattle.subsetter_base.specs.declared.tag.Tag.{Tag}
use Rattle.subsetter_base.specs.declared.error.Error.{Error}
use Rattle.subsetter_base.proofs.Options.{just_is}
use Rattle.subsetter_base.proofs.Results.{done_is}
use Rattle.subsetter_sfnt.specs.Read.{Font, as_font, flavor, stored, table}
use Rattle.subsetter_sfnt.specs.Laying.Rows.{tags_of}
use Rattle.subsetter_sfnt.specs.declared.flavor.FontFlavor.{FontFlavor}
use Rattle.subsetter_variable.proofs.Static.{one_static}
use Rattle.cid_embed.specs.Afresh.{widths_of}
use Rattle.cid_embed.specs.Embed.{numbering, in_subset, in_widths}
use Rattle.cid_embed.specs.Width.{units_per_em, width}
use Rattle.pdf_codes.specs.Codes.{Used, coded, glyphs_of}
use Rattle.pdf_codes.specs.Cmaps.Leading.{name_of, own_cmap, own_name, pairs_with}
use Rattle.pdf_codes.specs.Cmaps.Texts.{is_line_found, lines_of_codes}
use Rattle.pdf_codes.proofs.StayLaws.{codes_are_determined}
use Rattle.pdf_glyphs.specs.Frequent.{most_frequent}
use Rattle.pdf_glyphs.specs.HeightVariation.{Variation}
use Rattle.pdf_glyphs.specs.Vertical.{Vertical}
use Rattle.pdf_glyphs.specs.declared.columns.Columns.{Columns}
use Rattle.pdf_text.specs.Cmaps.Cmap.{cmap_text}
use Rattle.pdf_text.specs.Dictionaries.Fonts.{identity_name}
use Rattle.pdf_text.specs.SubsetName.{font_name}
use Rattle.pdf_text.specs.declared.metrics.columns.Column.{Column}
use Rattle.pdf_text.specs.declared.metrics.columns.DefaultColumn.{DefaultColumn}
use Rattle.pdf_text.specs.declared.values.ProgramKind.{ProgramKind}
use Rattle.pdf_text.specs.declared.values.ProgramKind.TheVariants.{TrueType as TrueTypeFile, BareCff, OpenType as OpenTypeFile}
use Rattle.pdf_values.specs.declared.looks.bounds.GlyphBox.{GlyphBox}
use Rattle.pdf_source.specs.Chosen.{is_vertical}
use Rattle.pdf_source.specs.Frequent.{IsMostFrequent, count_of}
use Rattle.pdf_source.specs.Made.{Made, made_in}
use Rattle.pdf_source.specs.Moved.{program_box, values_in}
use Rattle.pdf_source.specs.Widened.{widened}
use Rattle.pdf_source.specs.Program.{IsProgram, kind_of}
use Rattle.pdf_source.specs.Named.{heights_there, name_there}
use Rattle.pdf_source.specs.Source.{tag_in, vertical_of}
use Rattle.pdf_source.specs.Tops.{tops_of}
use Rattle.pdf_source.specs.declared.choice.Direction.{Direction}
use Rattle.pdf_source.specs.declared.choice.Direction.TheVariants.{Horizontal, Vertical as TopToBottom}
use Rattle.pdf_source.specs.declared.choice.FontOptions.{FontOptions}
use Rattle.pdf_font.specs.Laws.{AreSame, ColumnsSeen, OneAnswer, WidthsAgree, columns_seen}
use Rattle.pdf_font.specs.PdfFont.{AreColumns, IsPdfFont, cmap_name, name_room, short_name}
use Rattle.pdf_font.specs.declared.font.PdfFont.{PdfFont}
use Rattle.pdf_font.proofs.AllWidths.{AreAllWidths, are_all_widths}
use Rattle.pdf_font.proofs.Fresh.{Opens, new_opens}
use Rattle.pdf_font.proofs.KeptBoxes.{is_laid, program_is, same_read}
use Rattle.pdf_font.proofs.Wide.{wide_laid, wide_widths}
use Rattle.pdf_font.proofs.NewLaws.{MadeCase, made_case}

-- ---- what is determined by a part

pub same_numbers : (a b : List ℕ) → map Some a ≡ map Some b → a ≡ b
same_numbers [] [] e = refl
same_numbers [] (y ∷ b) e = absurd cc
same_numbers (x ∷ a) [] e = absurd cc
same_numbers (x ∷ a) (y ∷ b) e =
    let head : Some x ≡ Some y = cc in
    let rest : map Some a ≡ map Some b = cc in
    let one : x ≡ y = just_is x y head in
    let later : a ≡ b = same_numbers a b rest in
    ap (λ (t : List ℕ). x ∷ t) later ∙ ap (λ (n : ℕ). n ∷ b) one

one_program : (kind : ProgramKind) (box : Option GlyphBox) (file a b : List ℕ) → IsProgram kind box file a → IsProgram kind box file b → a ≡ b
one_program TrueTypeFile box file a b x y = x ∙ sym y
one_program BareCff box file a b x y = just_is a b (sym x ∙ y)
one_program OpenTypeFile box file a b x y = x ∙ sym y

-- no glyph before the first of the most frequent width has a width as frequent
rarer_before : (ws : List ℕ) (a b : ℕ) (x : IsMostFrequent ws a) (y : IsMostFrequent ws b) → x.index < y.index → ⊥
rarer_before ws a b x y lt =
    let less : count_of ws (slice_index ws x.index) < count_of ws b = y.earliest x.index lt in
    let most : count_of ws (slice_index ws y.index) ≤ count_of ws a = x.most y.index y.within in
    let here : count_of ws (slice_index ws x.index) ≡ count_of ws a = ap (count_of ws) x.there in
    let there : count_of ws (slice_index ws y.index) ≡ count_of ws b = ap (count_of ws) y.there in
    omega arith

one_width : (ws : List ℕ) (a b : ℕ) → IsMostFrequent ws a → IsMostFrequent ws b → a ≡ b
one_width ws a b x y = elim (cases_lt x.index y.index) [
  | inl less ↦ absurd (rarer_before ws a b x y less)
  | inr ge ↦ elim (cases_lt y.index x.index) [
    | inl less ↦ absurd (rarer_before ws b a y x less)
    | inr le ↦ (let same : x.index ≡ y.index = omega arith in sym x.there ∙ ap (slice_index ws) same ∙ y.there)
  ]
]

seen_by : (each other : List Column) (a b : DefaultColumn) → each ≡ other → a ≡ b → ColumnsSeen
seen_by each other a b e d = record { each = each; default = a }

same_seen : (a b : Columns) → a.each.items ≡ b.each.items → a.default ≡ b.default → columns_seen a ≡ columns_seen b
same_seen a b e d =
    let first : columns_seen a ≡ record { each = b.each.items; default = a.default } = ap (λ (l : List Column). let s : ColumnsSeen = record { each = l; default = a.default } in s) e in
    first ∙ ap (λ (x : DefaultColumn). let s : ColumnsSeen = record { each = b.each.items; default = x } in s) d

one_columns : (d : Direction) (t : Vertical) (v : Option Variation) (tops : List ℤ) (glyphs ws : List ℕ) (a b : Option Columns) → AreColumns d t v tops glyphs ws a → AreColumns d t v tops glyphs ws b → option_map columns_seen a ≡ option_map columns_seen b
one_columns Horizontal t v tops glyphs ws a b x y = ap (option_map columns_seen) (x ∙ sym y)
one_columns TopToBottom t v tops glyphs ws None b x y = absurd (let no = x.0 in cc)
one_columns TopToBottom t v tops glyphs ws (Some a) None x y = absurd (let no = y.0 in cc)
one_columns TopToBottom t v tops glyphs ws (Some a) (Some b) x y =
    let each : a.each.items ≡ b.each.items = x.1.0 ∙ sym y.1.0 in
    let default : a.default ≡ b.default = x.1.1 ∙ ap most_frequent each ∙ sym y.1.1 in
    ap (λ (s : ColumnsSeen). Some s) (same_seen a b each default)

absent : (o : Option (List ℕ)) → o ≡ None → IsSome o → ⊥
absent None e h = absurd cc
absent (Some x) e h = cc

-- ---- what is read of the new font of an answer

module _ (font : Font) (settings : List (Tag × ℤ)) (options : FontOptions) (us : List Used) (f : PdfFont) (p : IsPdfFont font settings options us f) where
  abbrev wanted : List ℕ
  wanted = numbering (glyphs_of us)

  abbrev file : List ℕ
  file = p.made.new.font.items

  abbrev static : Font
  static = p.made.embedded.static

  abbrev kind : FontFlavor
  kind = p.made.embedded.answer.embedded.subset.keeps.kind

  abbrev order : List ℕ
  order = p.made.embedded.answer.embedded.subset.keeps.order

  abbrev made : Result Made Error
  made = made_in (stored font) settings options (length wanted) file

  requested : length wanted ≡ length p.made.new.widths.items
  requested = sym (sym (length-map p.made.new.widths.items Some) ∙ ap length p.made.embedded.answer.embedded.widths ∙ length-map wanted (width static))

  the_case : MadeCase static (stored font) settings options order file kind made
  the_case = made_case options.limits.tokens options.limits.depth static (glyphs_of us) p.made.new p.made.embedded.answer (stored font) settings options (length wanted) requested

  pub record HasMade : Type 0 where
    pub it : Made
    pub is : made ≡ Ok it
    pub count : it.profile.count ≡ f.glyph_count
    pub widths : it.profile.widths ≡ f.widths.items
    pub exact : it.profile.exact.widths ≡ f.exact_widths.items

  by_case : MadeCase static (stored font) settings options order file kind made → HasMade
  by_case (inl c) = record { it = c.0; is = c.1; count = c.2.count ∙ sym p.made.counted; widths = same_numbers c.0.profile.widths f.widths.items (c.2.widths ∙ sym p.made.widths); exact = same_numbers c.0.profile.exact.widths f.exact_widths.items (c.2.exact ∙ sym p.made.exact) }
  by_case (inr c) = absurd (absent (table (as_font file) (codes "maxp")) c.1.copy (p.made.maxp c.1.kind_is))

  pub has_made : HasMade
  has_made = by_case the_case

  -- ---- the widths

  all : AreAllWidths static order file
  all = are_all_widths options.limits.tokens options.limits.depth static wanted file p.made.embedded.answer.embedded.subset (λ e g. p.made.embedded.answer.clean e (in_subset g)) (λ e g. p.made.embedded.answer.clean e (in_widths g))

  read_afresh : widths_of (table (as_font file)) f.glyph_count ≡ Ok f.widths.items
  read_afresh =
      ap (widths_of (table (as_font file))) p.made.counted ∙ all.read ∙ ap (λ (l : List ℕ). Ok l) (same_numbers all.widths f.widths.items (all.are ∙ sym p.made.widths))

  opens : Opens file
  opens = new_opens kind (tags_of kind (table static)) file p.made.embedded.answer.embedded.subset.keeps.container

  abbrev box : Option GlyphBox
  box = program_box (stored font) (stored (as_font file)) f.glyph_count options.bounds

  pub agree : (f.kind ≡ BareCff → ⊥) → widths_of (stored (as_font f.program.items)) f.glyph_count ≡ Ok f.widths.items
  agree not =
      let l = is_laid options.limits.tokens options.limits.depth static wanted file p.made.embedded.answer.embedded.subset in
      let wide = widened f.exact_widths.items file in
      let anew = wide_laid f.exact_widths.items file kind opens l in
      subst (λ (l : List ℕ). widths_of (table (as_font l)) f.glyph_count ≡ Ok f.widths.items) (program_is f.kind box wide f.program.items p.made.program not)
      (same_read wide anew.0 anew.1 box f.glyph_count ∙ wide_widths f.exact_widths.items file kind opens l f.glyph_count ∙ read_afresh)

pub widths_agree : WidthsAgree
widths_agree font settings options us f p not = agree font settings options us f p not

-- ---- two results

module _ (font : Font) (settings : List (Tag × ℤ)) (options : FontOptions) (us : List Used) (f g : PdfFont) (p : IsPdfFont font settings options us f) (q : IsPdfFont font settings options us g) where
  abbrev ours : List ℕ
  ours = p.made.new.font.items

  abbrev theirs : List ℕ
  theirs = q.made.new.font.items

  statics : p.made.embedded.static ≡ q.made.embedded.static
  statics = one_static font settings (numbering (glyphs_of us)) p.made.embedded.static q.made.embedded.static p.made.embedded.is_static q.made.embedded.is_static

  files : ours ≡ theirs
  files = p.made.same options.limits.tokens options.limits.depth theirs (record { static = q.made.embedded.static; is_static = q.made.embedded.is_static; made = q.made.embedded.made; cff_made = q.made.embedded.cff_made; answer = q.made.embedded.answer.font_is })

  flavors : p.made.embedded.answer.embedded.subset.keeps.kind ≡ q.made.embedded.answer.embedded.subset.keeps.kind
  flavors = just_is p.made.embedded.answer.embedded.subset.keeps.kind q.made.embedded.answer.embedded.subset.keeps.kind (sym p.made.embedded.answer.embedded.subset.keeps.kind_is ∙ ap flavor statics ∙ q.made.embedded.answer.embedded.subset.keeps.kind_is)

  kinds : f.kind ≡ g.kind
  kinds = p.made.kind ∙ ap (λ (k : FontFlavor). kind_of k options.program) flavors ∙ sym q.made.kind

  both : (has_made font settings options us f p).it ≡ (has_made font settings options us g q).it
  both =
      let ours_made = has_made font settings options us f p in
      let theirs_made = has_made font settings options us g q in
      done_is ours_made.it theirs_made.it (sym ours_made.is ∙ ap (made_in (stored font) settings options (length (numbering (glyphs_of us)))) files ∙ theirs_made.is)

  counts : f.glyph_count ≡ g.glyph_count
  counts = sym (has_made font settings options us f p).count ∙ ap (λ (m : Made). m.profile.count) both ∙ (has_made font settings options us g q).count

  exact : f.exact_widths.items ≡ g.exact_widths.items
  exact = sym (has_made font settings options us f p).exact ∙ ap (λ (m : Made). m.profile.exact.widths) both ∙ (has_made font settings options us g q).exact

  programs : f.program.items ≡ g.program.items
  programs =
      let b : List ℕ → ℕ → Option GlyphBox = λ l n. program_box (stored font) (stored (as_font l)) n options.bounds in
      let theirs_too = subst (λ (l : List ℕ). IsProgram f.kind (b l f.glyph_count) (widened f.exact_widths.items l) f.program.items) files p.made.program in
      let wide = subst (λ (l : List ℕ). IsProgram f.kind (b theirs f.glyph_count) (widened l theirs) f.program.items) exact theirs_too in
      let counted = subst (λ (n : ℕ). IsProgram f.kind (b theirs n) (widened g.exact_widths.items theirs) f.program.items) counts wide in
      let of_kind = subst (λ (k : ProgramKind). IsProgram k (b theirs g.glyph_count) (widened g.exact_widths.items theirs) f.program.items) kinds counted in
      one_program g.kind (b theirs g.glyph_count) (widened g.exact_widths.items theirs) f.program.items g.program.items of_kind q.made.program

  widths : f.widths.items ≡ g.widths.items
  widths = sym (has_made font settings options us f p).widths ∙ ap (λ (m : Made). m.profile.widths) both ∙ (has_made font settings options us g q).widths

  units : f.units_per_em ≡ g.units_per_em
  units = just_is f.units_per_em g.units_per_em (sym p.made.units ∙ ap units_per_em statics ∙ q.made.units)

  cids : f.cids.items ≡ g.cids.items
  cids = p.made.cids ∙ same_numbers p.made.new.cids.items q.made.new.cids.items (p.made.embedded.answer.embedded.cids ∙ sym q.made.embedded.answer.embedded.cids) ∙ sym q.made.cids

  same_codes : f.codes.items ≡ g.codes.items
  same_codes = codes_are_determined options.codes us f.codes.items g.codes.items p.made.filled.coded.codes q.made.filled.coded.codes

  requested_widths : p.made.new.widths.items ≡ q.made.new.widths.items
  requested_widths = same_numbers p.made.new.widths.items q.made.new.widths.items (p.made.embedded.answer.embedded.widths ∙ ap (λ (s : Font). map (width s) (numbering (glyphs_of us))) statics ∙ sym q.made.embedded.answer.embedded.widths)

  columns : option_map columns_seen f.columns ≡ option_map columns_seen g.columns
  columns =
      let tops : List ℤ = tops_of (stored font) options.limits (numbering (glyphs_of us)) in
      let of_widths = subst (λ (l : List ℕ). AreColumns options.direction (vertical_of (stored font)) (heights_there (stored font) settings) tops (glyphs_of us) l f.columns) requested_widths p.made.filled.columns in
      one_columns options.direction (vertical_of (stored font)) (heights_there (stored font) settings) tops (glyphs_of us) q.made.new.widths.items f.columns g.columns of_widths q.made.filled.columns

  values : f.descriptor.values ≡ g.descriptor.values
  values =
      p.made.values ∙ ap (λ (l : List ℕ). values_in (stored font) (stored (as_font l)) f.glyph_count options settings) files
      ∙ ap (λ (n : ℕ). values_in (stored font) (stored (as_font theirs)) n options settings) counts ∙ sym q.made.values

  abbrev same_pairs : pairs_with f.codes.items f.cids.items ≡ pairs_with g.codes.items g.cids.items
  same_pairs = ap (λ (l : List ℕ). pairs_with l f.cids.items) same_codes ∙ ap (pairs_with g.codes.items) cids

  encoding_names : name_of f.encoding ≡ name_of g.encoding
  encoding_names = p.made.filled.coded.encoding_name ∙ ap (own_name (is_vertical options.direction)) same_pairs ∙ sym q.made.filled.coded.encoding_name

  name : f.descriptor.font_name.items ≡ g.descriptor.font_name.items
  name =
      p.made.filled.name ∙ ap (λ (l : List ℕ). short_name (name_room f.kind (cmap_name f.encoding options.direction)) (font_name (tag_in options.tag l) (name_there (stored font) settings))) programs
      ∙ ap (λ (k : ProgramKind). short_name (name_room k (cmap_name f.encoding options.direction)) (font_name (tag_in options.tag g.program.items) (name_there (stored font) settings))) kinds
      ∙ ap (λ (o : Option (List ℕ)). short_name (name_room g.kind (unwrap_or o (identity_name (is_vertical options.direction)))) (font_name (tag_in options.tag g.program.items) (name_there (stored font) settings))) encoding_names
      ∙ sym q.made.filled.name

  pub are_same : AreSame f g
  are_same = record {
    kind = kinds;
    program = programs;
    count = counts;
    cids = cids;
    codes = same_codes;
    said = p.made.filled.coded.said ∙ ap (λ (l : List ℕ). map (is_line_found (coded us l)) (coded us l)) same_codes ∙ sym q.made.filled.coded.said;
    widths = widths;
    exact = exact;
    units = units;
    default_width = one_width g.widths.items f.default_width g.default_width (subst (λ (l : List ℕ). IsMostFrequent l f.default_width) widths p.made.filled.default_width) q.made.filled.default_width;
    columns = columns;
    name = name;
    values = values;
    unknown_axes = p.made.filled.unknown_axes ∙ sym q.made.filled.unknown_axes;
    permission = p.permission ∙ sym q.permission;
    to_unicode = p.made.filled.coded.to_unicode ∙ ap (λ (l : List ℕ). cmap_text (lines_of_codes (coded us l))) same_codes ∙ sym q.made.filled.coded.to_unicode;
    encoding = p.made.filled.coded.encoding ∙ ap (own_cmap (is_vertical options.direction)) same_pairs ∙ sym q.made.filled.coded.encoding;
    encoding_name = encoding_names;
  }

pub one_answer : OneAnswer
one_answer font settings options us f g p q = are_same font settings options us f g p q

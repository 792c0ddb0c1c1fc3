-- What a PDF has of a font is made of an embedding and what is read of its new font; and what is said of a refusal.
use Rattle.std.proofs.Common.{◌≡◌, ℕ, ◌<◌, true, List, [], ◌∷◌, length, length-append, map, Option, Some, None, Result, Ok, Err, ℤ, refl, sym, ap, subst, ◌∙◌, ◌⊎◌, inl, inr, arith}
use Rattle.std.specs.Prelude.{codes, IsSome, IfOk, IfErr}
use Rattle.std.proofs.lemmas.List.{length-map}
use Rattle.subsetter_base.specs.Gives.{Gives}
use Rattle.subsetter_base.specs.Indexes.{HasAllAboveZero}
use Rattle.subsetter_base.specs.declared.tag.Tag.{Tag}
use Rattle.subsetter_base.specs.declared.error.Error.{Error}
use Rattle.subsetter_base.specs.declared.error.Error.TheVariants.{MalformedFont, OverflowError, OutOfMemory}
use Rattle.subsetter_base.proofs.GlyphLemmas.{known, known-all}
use Rattle.subsetter_base.proofs.Options.{just_is}
use Rattle.subsetter_base.proofs.Results.{failed_is, done_is, ok_not_err}
use Rattle.subsetter_sfnt.specs.Read.{Font, as_font, flavor, stored, table}
use Rattle.subsetter_sfnt.specs.declared.flavor.FontFlavor.{FontFlavor}
use Rattle.subsetter.specs.Bound.{IsWithin}
use Rattle.subsetter_variable.specs.Afresh.{HasGlyphsDrawn}
use Rattle.subsetter_variable.specs.Blended.{HasGlyphsBlended}
use Rattle.subsetter_variable.specs.DefaultLocation.{IsAtDefault, IsCff2Font}
use Rattle.subsetter_variable.specs.Subset.{IsTheAnswerAt, whole}
use Rattle.subsetter_variable.proofs.Stands.{fails_is}
use Rattle.subsetter_variable.proofs.Static.{one_static}
use Rattle.cid_embed.specs.Embed.{numbering, in_numbering as none_left}
use Rattle.cid_embed.specs.Width.{width}
use Rattle.cid_embed.specs.declared.embedding.Embedded.{Embedded}
use Rattle.cid_embed_at.specs.Embed.{HasEmbedFaultAt, HasNoEmbeddingAt, IsEmbeddingAnswerAt, in_numbering}
use Rattle.pdf_codes.specs.Codes.{IsOverfull, Used, glyphs_of}
use Rattle.pdf_text.specs.declared.values.ProgramKind.{ProgramKind}
use Rattle.pdf_values.specs.declared.looks.bounds.GlyphBox.{GlyphBox}
use Rattle.pdf_values.specs.declared.permission.Permission.{Permission}
use Rattle.pdf_source.specs.Made.{Made, made_in, made_seen}
use Rattle.pdf_font.specs.Taken.{Takes}
use Rattle.pdf_font.specs.PdfFont.{HasFontFault, HasNoPdfFont, IsEmbeddedFor, IsFilled, in_embedding, no_maxp, overfull}
use Rattle.pdf_source.specs.Program.{IsProgram}
use Rattle.pdf_source.specs.Moved.{program_box, values_in}
use Rattle.pdf_source.specs.Widened.{widened}
use Rattle.pdf_source.specs.declared.choice.FontOptions.{FontOptions}
use Rattle.pdf_font.specs.declared.error.FontError.TheVariants.{Subset}
use Rattle.pdf_font.specs.declared.font.PdfFont.{PdfFont}
use Rattle.pdf_source.specs.declared.program.NewFont.{NewFont}
use Rattle.pdf_font.proofs.NewLaws.{IsRead, LacksMaxp, MadeCase, made_case, numbered, some_glyphs}

-- a table that isn't there
not_there : (o : Option (List ℕ)) → o ≡ None → IsSome o → ⊥
not_there None e h = absurd cc
not_there (Some x) e h = cc

pub known_some : (l : List ℕ) → known l 0 ≡ true → 0 < length l
known_some [] h = absurd cc
known_some (x ∷ l) h = omega arith

-- the program is taken over
program_taken : (n : NewFont) (cids : List ℕ) (p : Permission) (f : PdfFont) → Takes n cids p f → (box : ℕ → Option GlyphBox) (file : List ℕ) → IsProgram n.kind (box n.profile.count) (widened n.profile.exact.widths.items file) n.program.items → IsProgram f.kind (box f.glyph_count) (widened f.exact_widths.items file) f.program.items
program_taken n cids p f t box file h =
    let wide = subst (λ (l : List ℕ). IsProgram n.kind (box n.profile.count) (widened l file) n.program.items) (sym t.exact) h in
    let counted = subst (λ (k : ℕ). IsProgram n.kind (box k) (widened f.exact_widths.items file) n.program.items) (sym t.count) wide in
    let taken = subst (λ (l : List ℕ). IsProgram n.kind (box f.glyph_count) (widened f.exact_widths.items file) l) (sym t.program) counted in
    subst (λ (k : ProgramKind). IsProgram k (box f.glyph_count) (widened f.exact_widths.items file) f.program.items) (sym t.kind) taken

module _ (font : Font) (settings : List (Tag × ℤ)) (options : FontOptions) (us : List Used) where
  abbrev pub IsRefusal : Error → Type 0
  IsRefusal why = (why ≡ OutOfMemory) ⊎ ((order : List ℕ) × HasFontFault font settings options us order (Subset why))

  abbrev pub IsFinal : Error → Type 0
  IsFinal why = (why ≡ OutOfMemory) ⊎ HasNoPdfFont font settings options us

  abbrev pub IsEmbedding : List ℕ → Embedded → Type 0
  IsEmbedding g e = IsEmbeddingAnswerAt options.limits.tokens options.limits.depth font settings g e

  -- ---- no embedding

  module _ (g : List ℕ) (eg : g ≡ glyphs_of us) where
    pub embed_refused : (why : Error) → (why ≡ OutOfMemory) ⊎ ((order : List ℕ) × HasEmbedFaultAt options.limits.bytes options.limits.tokens options.limits.depth font settings g order why) → IsRefusal why
    embed_refused why (inl m) = inl m
    embed_refused why (inr f) = inr (f.0, in_embedding (subst (λ (l : List ℕ). HasEmbedFaultAt options.limits.bytes options.limits.tokens options.limits.depth font settings l f.0 why) eg f.1))

    pub embed_final : (why : Error) → (why ≡ OutOfMemory) ⊎ HasNoEmbeddingAt options.limits.bytes options.limits.tokens options.limits.depth font settings g → IsFinal why
    embed_final why (inl m) = inl m
    embed_final why (inr n) = inr (λ f p. n p.made.new p.made.within (subst (λ (l : List ℕ). IsEmbedding l p.made.new) (sym eg) p.made.embedded))

    pub at_us : (e : Embedded) → IsEmbedding g e → IsEmbedding (glyphs_of us) e
    at_us e a = subst (λ (l : List ℕ). IsEmbedding l e) eg a

  -- ---- an embedding

  module _ (e : Embedded) (a : IsEmbedding (glyphs_of us) e) (find : List ℕ → Option (List ℕ)) (ef : find ≡ stored font) (requested : ℕ) (r : requested ≡ length e.widths.items) where
    abbrev kind : FontFlavor
    kind = a.answer.embedded.subset.keeps.kind

    abbrev order : List ℕ
    order = a.answer.embedded.subset.keeps.order

    abbrev made : Result Made Error
    made = made_in find settings options requested e.font.items

    abbrev Case : Result Made Error → Type 0
    Case x = MadeCase a.static find settings options order e.font.items kind x

    the_case : Case made
    the_case = made_case options.limits.tokens options.limits.depth a.static (glyphs_of us) e a.answer find settings options requested r

    pub few : length e.widths.items < 65536
    few = omega (arith, numbered options.limits.tokens options.limits.depth a.static (glyphs_of us) e a.answer find settings options requested r, some_glyphs options.limits.tokens options.limits.depth a.static (glyphs_of us) e a.answer find settings options requested r, r)

    -- a refusal of the new font
    refused_by : (x : Result Made Error) (why : Error) → Case x → x ≡ Err why → (why ≡ MalformedFont) × LacksMaxp a.static e.font.items kind
    refused_by x why (inl c) h = absurd (ok_not_err {A = Made} x c.0 why c.1 h)
    refused_by x why (inr c) h = (sym (failed_is {A = Made} MalformedFont why (sym c.0 ∙ h)), c.1)

    pub refused : {X : Type 0} (view : X → Made) (why : Error) → Gives view (Err why) made → (why ≡ OutOfMemory) ⊎ ((why ≡ MalformedFont) × LacksMaxp a.static e.font.items kind)
    refused view why g = elim (fails_is why made g) [ inl m ↦ inl m | inr h ↦ inr (refused_by made why the_case h) ]

    pub new_refused : (why : Error) → (why ≡ OutOfMemory) ⊎ ((why ≡ MalformedFont) × LacksMaxp a.static e.font.items kind) → IsRefusal why
    new_refused why (inl m) = inl m
    new_refused why (inr l) =
        let known = a.answer.embedded.subset.keeps.kind_is ∙ ap (λ (k : FontFlavor). Some k) l.1.kind_is in
        inr ([], subst (λ (d : Error). HasFontFault font settings options us [] (Subset d)) (sym l.0) (no_maxp a.static a.is_static known l.1.source))

    pub new_final : IsTheAnswerAt font settings (numbering (glyphs_of us)) e.font.items → (why : Error) → (why ≡ OutOfMemory) ⊎ ((why ≡ MalformedFont) × LacksMaxp a.static e.font.items kind) → IsFinal why
    new_final same why (inl m) = inl m
    new_final same why (inr l) = inr (λ f p.
        let other = p.made.embedded in
        let file : e.font.items ≡ p.made.new.font.items = same options.limits.tokens options.limits.depth p.made.new.font.items (record { static = other.static; is_static = other.is_static; made = other.made; cff_made = other.cff_made; answer = other.answer.font_is }) in
        let static : other.static ≡ a.static = one_static font settings (numbering (glyphs_of us)) other.static a.static other.is_static a.is_static in
        let kinds : other.answer.embedded.subset.keeps.kind ≡ kind = just_is other.answer.embedded.subset.keeps.kind kind (sym other.answer.embedded.subset.keeps.kind_is ∙ ap flavor static ∙ a.answer.embedded.subset.keeps.kind_is) in
        let none : table (as_font p.made.new.font.items) (codes "maxp") ≡ None = subst (λ (b : List ℕ). table (as_font b) (codes "maxp") ≡ None) file l.1.copy in
        not_there (table (as_font p.made.new.font.items) (codes "maxp")) none (p.made.maxp (kinds ∙ l.1.kind_is)))

    -- ---- what is filled in

    pub filled_refused : (g : List ℕ) → g ≡ glyphs_of us → (x : Result PdfFont Error) → IfErr x (λ why. (why ≡ OutOfMemory) ⊎ ((why ≡ OverflowError) × (IsOverfull options.codes us ⊎ HasAllAboveZero g))) → IfErr x (λ why. IsRefusal why)
    filled_refused g eg (Ok f) h = tt
    filled_refused g eg (Err why) (inl m) = inl m
    filled_refused g eg (Err why) (inr (o, inl full)) = inr ([], subst (λ (d : Error). HasFontFault font settings options us [] (Subset d)) (sym o) (overfull full))
    filled_refused g eg (Err why) (inr (o, inr all)) = inr ([], subst (λ (d : Error). HasFontFault font settings options us [] (Subset d)) (sym o) (in_embedding (in_numbering (subst HasAllAboveZero eg all))))

    pub filled_final : (g : List ℕ) → g ≡ glyphs_of us → (x : Result PdfFont Error) → IfErr x (λ why. (why ≡ OutOfMemory) ⊎ ((why ≡ OverflowError) × (IsOverfull options.codes us ⊎ HasAllAboveZero g))) → IfErr x (λ why. IsFinal why)
    filled_final g eg (Ok f) h = tt
    filled_final g eg (Err why) (inl m) = inl m
    filled_final g eg (Err why) (inr (o, inl full)) = inr (λ f p. p.made.filled.coded.room full)
    filled_final g eg (Err why) (inr (o, inr all)) = inr (λ f p. p.made.embedded.answer.clean OverflowError (none_left (subst HasAllAboveZero eg all)))

    -- ---- the answer

    read_by : (x : Result Made Error) (m : Made) → Case x → x ≡ Ok m → IsRead a.static find settings options order e.font.items kind m
    read_by x m (inl c) h = subst (IsRead a.static find settings options order e.font.items kind) (done_is {A = Made} c.0 m (sym c.1 ∙ h)) c.2
    read_by x m (inr c) h = absurd (ok_not_err {A = Made} x m MalformedFont h c.0)

    pub is_read : (n : NewFont) → made ≡ Ok (made_seen n) → IsRead a.static find settings options order e.font.items kind (made_seen n)
    is_read n h = read_by made (made_seen n) the_case h

    module _ (n : NewFont) (h : made ≡ Ok (made_seen n)) where
      pub widths_size : length n.profile.widths.items ≡ length order
      widths_size = sym (length-map n.profile.widths.items Some) ∙ ap length (is_read n h).widths ∙ length-map order (width a.static)

      pub answered : (within : IsWithin options.limits.bytes e.font.items) → IsTheAnswerAt font settings (numbering (glyphs_of us)) e.font.items → ((IsAtDefault (whole font) settings → ⊥) → HasGlyphsDrawn (whole font) settings (numbering (glyphs_of us)) e.font.items) → (IsCff2Font (whole font) → HasGlyphsBlended (whole font) settings (numbering (glyphs_of us)) e.font.items) → (f : PdfFont) → Takes n e.cids.items f.permission f → IsFilled find settings options us e.widths.items f → IsEmbeddedFor font settings options us f
      answered within same drawn blended f t filled =
          let read = is_read n h in
          record {
            new = e;
            embedded = a;
            within = within;
            same = same;
            drawn = drawn;
            drawn_cff = blended;
            kind = t.kind ∙ read.kind_is;
            program = program_taken n e.cids.items f.permission f t (λ (k : ℕ). program_box (stored font) (stored (as_font e.font.items)) k options.bounds) e.font.items
                (subst (λ (look : List ℕ → Option (List ℕ)). IsProgram n.kind (program_box look (stored (as_font e.font.items)) n.profile.count options.bounds) (widened n.profile.exact.widths.items e.font.items) n.program.items) ef read.program);
            maxp = read.maxp;
            cids = t.cids;
            counted = t.count ∙ read.count;
            widths = ap (map Some) t.widths ∙ read.widths;
            exact = ap (map Some) t.exact ∙ read.exact;
            units = read.units ∙ ap (λ (n : ℕ). Some n) (sym t.units);
            values = t.values ∙ read.values ∙ ap (λ (k : ℕ). values_in find (stored (as_font e.font.items)) k options settings) (sym t.count) ∙ ap (λ (look : List ℕ → Option (List ℕ)). values_in look (stored (as_font e.font.items)) f.glyph_count options settings) ef;
            filled = subst (λ (look : List ℕ → Option (List ℕ)). IsFilled look settings options us e.widths.items f) ef filled;
          }

      -- of what was answered, whatever slice its widths were read of
      pub all_answered : (within : IsWithin options.limits.bytes e.font.items) → IsTheAnswerAt font settings (numbering (glyphs_of us)) e.font.items → ((IsAtDefault (whole font) settings → ⊥) → HasGlyphsDrawn (whole font) settings (numbering (glyphs_of us)) e.font.items) → (IsCff2Font (whole font) → HasGlyphsBlended (whole font) settings (numbering (glyphs_of us)) e.font.items) → (p : Permission) (ws : List ℕ) → ws ≡ e.widths.items → (x : Result PdfFont Error) → IfOk x (λ f. IsFilled find settings options us ws f) → IfOk x (λ f. Takes n e.cids.items p f) → IfOk x (λ f. IsEmbeddedFor font settings options us f)
      all_answered within same drawn blended p ws w (Ok f) filled t =
          answered within same drawn blended f
          (record { kind = t.kind; program = t.program; count = t.count; widths = t.widths; exact = t.exact; units = t.units; values = t.values; cids = t.cids; permission = refl })
          (subst (λ (l : List ℕ). IsFilled find settings options us l f) w filled)
      all_answered within same drawn blended p ws w (Err why) filled t = tt

      pub widths_some : 0 < length n.profile.widths.items
      widths_some =
          let some : 0 < length (numbering (glyphs_of us)) = known_some (numbering (glyphs_of us)) (known-all (glyphs_of us) 0) in
          omega (arith, widths_size, ap length a.answer.embedded.subset.keeps.is_order.begins, length-append (numbering (glyphs_of us)) a.answer.embedded.subset.keeps.is_order.others)

      pub widths_few : length n.profile.widths.items < 65536
      widths_few = omega (arith, widths_size, a.answer.embedded.subset.keeps.few)

-- what the font permits is taken over
pub permission_taken : (n : NewFont) (cids : List ℕ) (p : Permission) (x : Result PdfFont Error) → IfOk x (λ f. Takes n cids p f) → IfOk x (λ f. f.permission ≡ p)
permission_taken n cids p (Ok f) t = t.permission
permission_taken n cids p (Err why) t = tt

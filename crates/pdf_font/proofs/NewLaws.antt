-- What is read of a new font: what it was made from, unless it is a TrueType font without `maxp`.
use Rattle.std.proofs.Common.{◌≡◌, ℕ, ◌<◌, List, length, map, Option, Some, None, Result, Ok, Err, ℤ, refl, sym, ap, subst, ◌∙◌, ◌⊎◌, inl, inr, arith, length-append}
use Rattle.std.specs.Prelude.{codes, IsSome}
use Rattle.std.specs.Option.{ok_or}
use Rattle.std.proofs.lemmas.List.{length-map}
use Rattle.subsetter_base.specs.Bytes.{number, ◌>>=◌}
use Rattle.subsetter_base.specs.declared.tag.Tag.{Tag}
use Rattle.subsetter_base.specs.declared.error.Error.{Error}
use Rattle.subsetter_base.specs.declared.error.Error.TheVariants.{MalformedFont}
use Rattle.subsetter_base.proofs.Options.{is_some_of}
use Rattle.subsetter_sfnt.specs.Container.{IsSoundContainer}
use Rattle.subsetter_sfnt.specs.Read.{Font, as_font, stored, table, table_in}
use Rattle.subsetter_sfnt.specs.Laying.Rows.{tags_of}
use Rattle.subsetter_sfnt.specs.Laying.Written.{kind_word}
use Rattle.subsetter_sfnt.specs.declared.flavor.FontFlavor.{FontFlavor}
use Rattle.subsetter_sfnt.specs.declared.flavor.FontFlavor.TheVariants.{TrueType, Cff}
use Rattle.subsetter.specs.Cff.Read.{KeepsCharStrings}
use Rattle.subsetter.specs.Common.Maxp.Read.{IsMaxProfile}
use Rattle.subsetter.specs.Subset.{KeepsDrawing, by_outlines, by_charstrings}
use Rattle.cid_embed.proofs.AgainLaws.OrderLaws.GivenOrder.{only_given}
use Rattle.cid_embed.specs.Afresh.{widths_of}
use Rattle.cid_embed.specs.Embed.{numbering, IsEmbeddingAnswer, in_subset, in_widths}
use Rattle.cid_embed.specs.Width.{units_per_em, width}
use Rattle.cid_embed.specs.declared.embedding.Embedded.{Embedded}
use Rattle.pdf_values.specs.declared.looks.bounds.GlyphBox.{GlyphBox}
use Rattle.pdf_source.specs.Boxed.{boxed_if}
use Rattle.pdf_source.specs.Exact.{Exact, exact_of}
use Rattle.pdf_source.specs.Made.{Made, Profile, made_in, profile_in}
use Rattle.pdf_source.specs.Program.{IsProgram, bare_cff, count_in, flavor_in, kind_of, program_in}
use Rattle.pdf_source.specs.Moved.{program_box, values_in}
use Rattle.pdf_source.specs.Widened.{widened}
use Rattle.pdf_source.specs.declared.choice.FontOptions.{FontOptions}
use Rattle.pdf_source.specs.declared.choice.ProgramChoice.{ProgramChoice}
use Rattle.pdf_source.specs.declared.choice.ProgramChoice.TheVariants.{Smallest, OpenType}
use Rattle.pdf_font.specs.PdfFont.{exact_width}
use Rattle.pdf_font.proofs.Fresh.{Opens, new_opens, same_flavor}
use Rattle.pdf_font.proofs.Tables.{no_maxp_again}
use Rattle.pdf_font.proofs.AllWidths.{AreAllWidths, are_all_widths}
use Rattle.pdf_font.proofs.Wide.{has_cff}

-- ---- step by step

module _ (find : List ℕ → Option (List ℕ)) (settings : List (Tag × ℤ)) (options : FontOptions) (requested : ℕ) (file : List ℕ) (kind : FontFlavor) (o : Opens file) (f : flavor_in file ≡ kind) where
  abbrev afresh : List ℕ → Option (List ℕ)
  afresh = stored (as_font file)

  abbrev profile_by : Result ℕ Error → Result Profile Error
  profile_by r = r >>= λ count. (widths_of afresh count >>= λ widths. (exact_of afresh count >>= λ exact. Ok (record { count = count; widths = widths; exact = exact; values = values_in find afresh count options settings; head_box = program_box find afresh count options.bounds })))

  abbrev in_directory : (List ℕ → Option (List ℕ)) → FontFlavor → Result Profile Error
  in_directory look k = count_in k look requested >>= λ count. (widths_of look count >>= λ widths. (exact_of look count >>= λ exact. Ok (record { count = count; widths = widths; exact = exact; values = values_in find look count options settings; head_box = program_box find look count options.bounds })))

  profile_opened : profile_in find settings options requested file ≡ in_directory (table_in file o.directory) (flavor_in file)
  unfolding profile_in
  profile_opened = ap (λ (r : Result (List ℕ) Error). r >>= λ d. in_directory (table_in file d) (flavor_in file)) o.opens

  profile_is : profile_in find settings options requested file ≡ profile_by (count_in kind afresh requested)
  profile_is = profile_opened ∙ ap (λ (look : List ℕ → Option (List ℕ)). in_directory look (flavor_in file)) o.find ∙ ap (in_directory afresh) f

  abbrev profile_of : ℕ → List ℕ → Exact → Profile
  profile_of n ws x = record { count = n; widths = ws; exact = x; values = values_in find afresh n options settings; head_box = program_box find afresh n options.bounds }

  profile_read : (n : ℕ) (ws : List ℕ) (x : Exact) → count_in kind afresh requested ≡ Ok n → widths_of afresh n ≡ Ok ws → exact_of afresh n ≡ Ok x → profile_in find settings options requested file ≡ Ok (profile_of n ws x)
  profile_read n ws x c w e =
      profile_is ∙ ap profile_by c ∙ ap (λ (r : Result (List ℕ) Error). r >>= λ widths. (exact_of afresh n >>= λ exact. Ok (profile_of n widths exact))) w
      ∙ ap (λ (r : Result Exact Error). r >>= λ exact. Ok (profile_of n ws exact)) e

  profile_missing : count_in kind afresh requested ≡ Err MalformedFont → profile_in find settings options requested file ≡ Err MalformedFont
  profile_missing c = profile_is ∙ ap profile_by c

  abbrev program_by : FontFlavor → Result Profile Error → Result Made Error
  program_by k r = r >>= λ profile. (program_in (kind_of k options.program) profile.head_box (widened profile.exact.widths file) >>= λ program. Ok (record { kind = kind_of k options.program; program = program; profile = profile }))

  made_by : (r : Result Profile Error) → profile_in find settings options requested file ≡ r → made_in find settings options requested file ≡ program_by kind r
  unfolding made_in
  made_by r h = ap (program_by (flavor_in file)) h ∙ ap (λ (k : FontFlavor). program_by k r) f

  pub made_missing : count_in kind afresh requested ≡ Err MalformedFont → made_in find settings options requested file ≡ Err MalformedFont
  made_missing c = made_by (Err MalformedFont) (profile_missing c)

  pub made_read : (n : ℕ) (ws : List ℕ) (x : Exact) (program : List ℕ) → count_in kind afresh requested ≡ Ok n → widths_of afresh n ≡ Ok ws → exact_of afresh n ≡ Ok x → program_in (kind_of kind options.program) (program_box find afresh n options.bounds) (widened x.widths file) ≡ Ok program → made_in find settings options requested file ≡ Ok (record { kind = kind_of kind options.program; program = program; profile = profile_of n ws x })
  made_read n ws x program c w e p =
      let profile : Profile = profile_of n ws x in
      made_by (Ok profile) (profile_read n ws x c w e) ∙ ap (λ (r : Result (List ℕ) Error). r >>= λ bytes. Ok (record { kind = kind_of kind options.program; program = bytes; profile = profile })) p

-- the `CFF ` of a file that has one
bare_is : (file copy : List ℕ) (o : Opens file) → stored (as_font file) (codes "CFF ") ≡ Some copy → bare_cff file ≡ Ok copy
unfolding bare_cff
bare_is file copy o h =
    ap (λ (r : Result (List ℕ) Error). r >>= λ d. ok_or (table_in file d (codes "CFF ")) MalformedFont) o.opens ∙ ap (λ (look : List ℕ → Option (List ℕ)). ok_or (look (codes "CFF ")) MalformedFont) o.find ∙ ap (λ (x : Option (List ℕ)). ok_or x MalformedFont) h

charstrings : (tokens depth : ℕ) (font : Font) (order : List ℕ) (out : Font) (kind : FontFlavor) → KeepsDrawing tokens depth font order out kind → kind ≡ Cff → KeepsCharStrings tokens depth font order out
charstrings tokens depth font order out _ (by_outlines k) e = absurd cc
charstrings tokens depth font order out _ (by_charstrings k) e = k

-- ---- the law

-- what is read of a new font of these glyphs
pub record IsRead (font : Font) (find : List ℕ → Option (List ℕ)) (settings : List (Tag × ℤ)) (options : FontOptions) (order file : List ℕ) (kind : FontFlavor) (m : Made) : Type 0 where
  pub kind_is : m.kind ≡ kind_of kind options.program
  pub program : IsProgram m.kind (program_box find (stored (as_font file)) m.profile.count options.bounds) (widened m.profile.exact.widths file) m.program
  pub maxp : kind ≡ TrueType → IsSome (table (as_font file) (codes "maxp"))
  pub count : m.profile.count ≡ length order
  pub widths : map Some m.profile.widths ≡ map (width font) order
  pub exact : map Some m.profile.exact.widths ≡ map (exact_width font) order
  pub units : units_per_em font ≡ Some m.profile.exact.units_per_em
  pub values : m.profile.values ≡ values_in find (stored (as_font file)) m.profile.count options settings

pub record LacksMaxp (font : Font) (file : List ℕ) (kind : FontFlavor) : Type 0 where
  pub kind_is : kind ≡ TrueType
  pub source : table font (codes "maxp") ≡ None
  pub copy : table (as_font file) (codes "maxp") ≡ None

abbrev pub MadeCase : Font → (List ℕ → Option (List ℕ)) → List (Tag × ℤ) → FontOptions → List ℕ → List ℕ → FontFlavor → Result Made Error → Type 0
MadeCase font find settings options order file kind r = ((m : Made) × (r ≡ Ok m) × IsRead font find settings options order file kind m) ⊎ ((r ≡ Err MalformedFont) × LacksMaxp font file kind)

module _ (tokens depth : ℕ) (font : Font) (glyphs : List ℕ) (new : Embedded) (a : IsEmbeddingAnswer tokens depth font glyphs new) (find : List ℕ → Option (List ℕ)) (settings : List (Tag × ℤ)) (options : FontOptions) (requested : ℕ) (r : requested ≡ length new.widths.items) where
  abbrev file : List ℕ
  file = new.font.items

  abbrev order : List ℕ
  order = a.embedded.subset.keeps.order

  abbrev made : Result Made Error
  made = made_in find settings options requested file

  all : AreAllWidths font order file
  all = are_all_widths tokens depth font (numbering glyphs) file a.embedded.subset (λ e f. a.clean e (in_subset f)) (λ e f. a.clean e (in_widths f))

  abbrev wide : List ℕ
  wide = widened all.exact.widths file

  pub numbered : requested ≡ length (numbering glyphs)
  numbered = r ∙ sym (length-map new.widths.items Some) ∙ ap length a.embedded.widths ∙ length-map (numbering glyphs) (width font)

  module _ (kind : FontFlavor) (same : a.embedded.subset.keeps.kind ≡ kind) where
    container : IsSoundContainer file (kind_word kind) (tags_of kind (table font))
    container = subst (λ (k : FontFlavor). IsSoundContainer file (kind_word k) (tags_of k (table font))) same a.embedded.subset.keeps.container

    opens : Opens file
    opens = new_opens kind (tags_of kind (table font)) file container

    flavor_is : flavor_in file ≡ kind
    flavor_is = same_flavor kind file container.kind_is

    abbrev box : Option GlyphBox
    box = program_box find (stored (as_font file)) (length order) options.bounds

    read : (program : List ℕ) → count_in kind (stored (as_font file)) requested ≡ Ok (length order) → program_in (kind_of kind options.program) box wide ≡ Ok program → IsProgram (kind_of kind options.program) box wide program → (kind ≡ TrueType → IsSome (table (as_font file) (codes "maxp"))) → MadeCase font find settings options order file kind made
    read program c p is m =
        inl (
          record { kind = kind_of kind options.program; program = program; profile = record { count = length order; widths = all.widths; exact = all.exact; values = values_in find (stored (as_font file)) (length order) options settings; head_box = box } },
          made_read find settings options requested file kind opens flavor_is (length order) all.widths all.exact program c all.read all.exact_read p,
          record { kind_is = refl; program = is; maxp = m; count = refl; widths = all.are; exact = all.exact_are; units = all.units_are; values = refl },
        )

  by_maxp : a.embedded.subset.keeps.kind ≡ TrueType → (maxp : Option (List ℕ)) → table font (codes "maxp") ≡ maxp → MadeCase font find settings options order file TrueType made
  by_maxp same None h =
      let none : table (as_font file) (codes "maxp") ≡ None = no_maxp_again font file (container TrueType same) h in
      inr (
        made_missing find settings options requested file TrueType (opens TrueType same) (flavor_is TrueType same) (ap (λ (x : Option (List ℕ)). ok_or x MalformedFont >>= λ bytes. ok_or (number bytes 4 2) MalformedFont) none),
        record { kind_is = refl; source = h; copy = none },
      )
  by_maxp same (Some maxp) h =
      let p : IsMaxProfile (table font) a.embedded.subset.keeps.kind (length order) (table (as_font file)) = a.embedded.subset.keeps.shared.max_profile (is_some_of (table font (codes "maxp")) maxp h) in
      read TrueType same (boxed_if (box TrueType same) wide)
      (ap (λ (x : Option (List ℕ)). ok_or x MalformedFont >>= λ bytes. ok_or (number bytes 4 2) MalformedFont) p.maxp_is ∙ ap (λ (x : Option ℕ). ok_or x MalformedFont) p.count)
      refl refl (λ e. is_some_of (table (as_font file) (codes "maxp")) p.maxp p.maxp_is)

  by_choice : a.embedded.subset.keeps.kind ≡ Cff → (choice : ProgramChoice) → options.program ≡ choice → MadeCase font find settings options order file Cff made
  by_choice same choice h =
      let flavor_of_source = a.embedded.subset.keeps.kind_is ∙ ap (λ (k : FontFlavor). Some k) same in
      let given : order ≡ numbering glyphs = only_given font (numbering glyphs) order flavor_of_source a.embedded.subset.keeps.is_order in
      let counted : count_in Cff (stored (as_font file)) requested ≡ Ok (length order) = ap (λ (n : ℕ). Ok n) (numbered ∙ sym (ap length given)) in
      let kept = charstrings tokens depth font order (as_font file) a.embedded.subset.keeps.kind a.embedded.subset.keeps.drawing same in
      by choice h counted kept
    where
      by : (choice : ProgramChoice) → options.program ≡ choice → count_in Cff (stored (as_font file)) requested ≡ Ok (length order) → KeepsCharStrings tokens depth font order (as_font file) → MadeCase font find settings options order file Cff made
      by Smallest h counted kept =
          let w = has_cff all.exact.widths file (opens Cff same) kept.copy kept.copy_is in
          read Cff same w.cff counted
          (ap (λ (c : ProgramChoice). program_in (kind_of Cff c) (box Cff same) wide) h ∙ bare_is wide w.cff w.opens w.cff_is)
          (subst (λ (c : ProgramChoice). IsProgram (kind_of Cff c) (box Cff same) wide w.cff) (sym h) w.cff_is) (λ e. absurd cc)
      by OpenType h counted kept =
          read Cff same (boxed_if (box Cff same) wide) counted
          (ap (λ (c : ProgramChoice). program_in (kind_of Cff c) (box Cff same) wide) h)
          (subst (λ (c : ProgramChoice). IsProgram (kind_of Cff c) (box Cff same) wide (boxed_if (box Cff same) wide)) (sym h) refl) (λ e. absurd cc)

  by_kind : (kind : FontFlavor) → a.embedded.subset.keeps.kind ≡ kind → MadeCase font find settings options order file kind made
  by_kind TrueType same = by_maxp same (table font (codes "maxp")) refl
  by_kind Cff same = by_choice same options.program refl

  pub made_case : MadeCase font find settings options order file a.embedded.subset.keeps.kind made
  made_case = by_kind a.embedded.subset.keeps.kind refl

  -- ---- how many glyphs there are

  pub some_glyphs : length (numbering glyphs) < 65536
  some_glyphs = omega (arith, a.embedded.subset.keeps.few, ap length a.embedded.subset.keeps.is_order.begins, length-append (numbering glyphs) a.embedded.subset.keeps.is_order.others)

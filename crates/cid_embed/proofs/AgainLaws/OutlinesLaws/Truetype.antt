-- A subset with outlines in `glyf` of a subset.
use Rattle.std.proofs.Common.{◌≡◌, ℕ, ◌≤◌, ◌<◌, Bool, true, cond, List, length, get_or, Option, Some, None, Ok, Err, refl, sym, ap, subst, ◌∙◌, arith}
use Rattle.std.specs.Prelude.{codes, is_some, IsSome}
use Rattle.std.specs.Option.{option_and_then, ok_or}
use Rattle.std.proofs.lemmas.List.{length-append}
use Rattle.subsetter_base.specs.Bytes.{IsBytes}
use Rattle.subsetter_base.specs.declared.error.Error.{Error}
use Rattle.subsetter_base.specs.declared.error.Error.TheVariants.{MalformedFont, OverflowError}
use Rattle.subsetter_base.proofs.Options.{is_some_of}
use Rattle.subsetter_base.proofs.Results.{done_is}
use Rattle.subsetter_sfnt.specs.declared.flavor.FontFlavor.TheVariants.{TrueType, Cff}
use Rattle.subsetter.specs.Fault as faults
use Rattle.subsetter.specs.Fault.{HasFault}
use Rattle.subsetter_sfnt.specs.Read.{Font, as_font, table, flavor}
use Rattle.subsetter_sfnt.specs.Laying.Written.{Table, file, fits, start_of, kind_word}
use Rattle.subsetter_sfnt.specs.Plain.{file_of}
use Rattle.subsetter.specs.Glyf.Read.{Outlines, outlines, outline, outline_in}
use Rattle.subsetter.specs.Glyf.Reaching.Reach.{IsGlyphOrder, IsGlyphOrderBy}
use Rattle.subsetter.specs.Truetype.Answered.{IsAnswered}
use Rattle.subsetter.specs.Truetype.Plain.{truetype_tables, laid}
use Rattle.subsetter.specs.Truetype.Read.{HasGlyphCount}
use Rattle.subsetter.specs.Subset.{IsSubset}
use Rattle.subsetter.proofs.GlyfLaws.Fault.{has_tables}
use Rattle.subsetter.proofs.TruetypeLaws.Fault.{no_fault}
use Rattle.subsetter.proofs.TruetypeLaws.Steps.{made_steps, tables_steps}
use Rattle.subsetter.proofs.TruetypeLaws.Subset.{made_subset}
use Rattle.subsetter_cff.specs.Write.Again.{AreAll, composed}
use Rattle.cid_embed.specs.Again.{requests_less}
use Rattle.cid_embed.proofs.AgainLaws.Basics.{one_found, has_parts}
use Rattle.cid_embed.proofs.AgainLaws.ByKind.{IsOutlineSubset}
use Rattle.cid_embed.proofs.AgainLaws.OrderLaws.Closed.{closed, only_order}
use Rattle.cid_embed.proofs.AgainLaws.OrderLaws.FoundAll.{found_all}
use Rattle.cid_embed.proofs.AgainLaws.OutlinesLaws.Laid
use Rattle.cid_embed.proofs.AgainLaws.Less.{flavor_less, outlines_less, order_less, order_more}
use Rattle.cid_embed.proofs.AgainLaws.OrderLaws.OneOrder.{each}
use Rattle.cid_embed.proofs.AgainLaws.Opening.{no_opening}
use Rattle.cid_embed.proofs.AgainLaws.OrderLaws.Order.{are_at, closed_order}
use Rattle.cid_embed.proofs.AgainLaws.OrderLaws.Places.{AreAt, all_places, same_lists}
use Rattle.cid_embed.proofs.AgainLaws.TablesLaws.TruetypeTables.{few_order, tables_same}

-- the subset is of the same kind
pub glyf_there : (font : Font) (glyphs out : List ℕ) (s : IsOutlineSubset font glyphs out) → IsSome (table (as_font out) (codes "glyf"))
glyf_there font glyphs out s = is_some_of (table (as_font out) (codes "glyf")) s.drawn.count.tables.glyf (has_tables true (table (as_font out)) s.drawn.count.tables s.drawn.count.read).glyf_is

pub outline_flavor : (font : Font) (glyphs out : List ℕ) → IsOutlineSubset font glyphs out → flavor (as_font out) ≡ Some TrueType
outline_flavor font glyphs out s = ap (λ b. cond b (Some TrueType) (cond (is_some (table (as_font out) (codes "CFF "))) (Some Cff) None)) (glyf_there font glyphs out s)

-- ---- a subset of a subset is a subset of the first font, also where less is asked for

module _ (n g : Bool) (tokens depth : ℕ) (font : Font) (glyphs out more again : List ℕ) (bytes : IsBytes font.bytes) (first : IsOutlineSubset font glyphs out) (second : IsOutlineSubset (requests_less n g (as_font out)) more again) (some : 1 ≤ length more) where
  abbrev L : List ℕ
  L = first.order

  abbrev M : List ℕ
  M = second.order

  abbrev source : Font
  source = requests_less n g font

  abbrev middle : Font
  middle = requests_less n g (as_font out)

  is_order : IsGlyphOrder (as_font out) more M
  is_order = order_less n g (as_font out) more M second.is_order

  count : HasGlyphCount middle (length L)
  count = let c = first.drawn.count in record { tables = c.tables; read = outlines_less n g (as_font out) ∙ c.read; entries = c.entries }

  inside : (i : ℕ) → i < length M → get_or M i 0 < length L
  inside i lt = let d = second.drawn.drawing 1 i lt in has_parts middle (length L) (get_or M i 0) d.source count d.source_is

  same_source : second.source ≡ Laid.afresh font glyphs out first
  same_source = one_found (outlines (as_font out)) second.source (Laid.afresh font glyphs out first) (sym (outlines_less n g (as_font out)) ∙ second.read) (Laid.read_afresh font glyphs out first)

  read : outlines source ≡ Some first.source
  read = outlines_less n g font ∙ first.read

  tables_are : truetype_tables (table source) first.source (composed L M) ≡ Ok second.tables
  tables_are = sym (tables_same font glyphs out bytes first more M is_order inside n g) ∙ ap (λ (o : Outlines). truetype_tables (table middle) o M) (sym same_source) ∙ second.tables_are

  some_glyph : 0 < length (composed L M)
  some_glyph = omega (arith, some, ap length second.is_order.begins, length-append more second.is_order.others, (are_at font glyphs out bytes first more M is_order inside).size)

  pub outlines_composed : (third : IsSubset tokens depth source (composed L more) again) × (third.keeps.order ≡ composed L M)
  unfolding made_subset
  outlines_composed =
      let made = tables_steps (table source) first.source (composed L M) second.tables tables_are in
      let steps = made_steps (table source) first.source (composed L M) made.0 made.1 in
      let fit : fits (start_of (laid (table source) made.0)) (laid (table source) made.0) ≡ true = subst (λ (l : List Table). fits (start_of l) l ≡ true) (sym made.2) second.room in
      let same : file (kind_word TrueType) (laid (table source) made.0) ≡ again = ap (file (kind_word TrueType)) made.2 ∙ sym second.bytes in
      let closed_is = order_more n g font (composed L more) (composed L M) (closed_order font glyphs out bytes first more M is_order inside) in
      let few = few_order font glyphs out bytes first more M is_order inside in
      subst (λ (f : List ℕ). (third : IsSubset tokens depth source (composed L more) f) × (third.keeps.order ≡ composed L M)) same
      (made_subset source first.source (composed L M) made.0 read steps fit tokens depth (composed L more) bytes closed_is some_glyph few (flavor_less n g font ∙ first.kind_is) second.tables (sym made.2) tables_are, refl)

-- ---- all glyphs in order

module _ (font : Font) (glyphs out : List ℕ) (bytes : IsBytes font.bytes) (first : IsOutlineSubset font glyphs out) (all : List ℕ) (a : AreAll (length first.order) all) where
  all_at : AreAt first.order all first.order
  all_at = all_places first.order all a.count (each (length first.order) all a)

  all_closed : IsGlyphOrder (as_font out) all all
  all_closed = closed font glyphs out first all a

  same_order : composed first.order all ≡ first.order
  same_order =
      let at = are_at font glyphs out bytes first all all all_closed all_at.within in
      same_lists (composed first.order all) first.order 0 (at.size ∙ a.count) (λ i lt. let less : i < length all = omega (arith, lt, at.size) in at.nth i less ∙ sym (all_at.nth i less))

  -- the tables are the same
  pub tables_again : truetype_tables (table (as_font out)) (Laid.afresh font glyphs out first) all ≡ Ok first.tables
  tables_again = tables_same font glyphs out bytes first all all all_closed all_at.within true true ∙ ap (truetype_tables (table font) first.source) same_order ∙ first.tables_are

  pub outlines_canonical : (again : List ℕ) → IsOutlineSubset (as_font out) all again → again ≡ out
  outlines_canonical again second =
      let source = one_found (outlines (as_font out)) second.source (Laid.afresh font glyphs out first) second.read (Laid.read_afresh font glyphs out first) in
      let order = only_order font glyphs out first all a second.order second.is_order in
      let same : second.tables ≡ first.tables = done_is second.tables first.tables (sym second.tables_are ∙ ap (truetype_tables (table (as_font out)) second.source) order ∙ ap (λ (o : Outlines). truetype_tables (table (as_font out)) o all) source ∙ tables_again) in
      second.bytes ∙ ap (file (kind_word TrueType)) same ∙ sym first.bytes

  -- ---- the steps to the same file

  outlines_are : (λ g. outline (as_font out) g) ≡ outline_in (Laid.afresh font glyphs out first)
  outlines_are = let by : Option Outlines → ℕ → Option (List ℕ) = λ o g. option_and_then (λ u. outline_in u g) o in ap by (Laid.read_afresh font glyphs out first)

  file_again : file_of (kind_word TrueType) first.tables ≡ Ok out
  unfolding file_of
  file_again = ap (λ b. cond b (Ok (file (kind_word TrueType) first.tables)) (Err OverflowError)) first.room ∙ ap (λ (l : List ℕ). Ok l) (sym first.bytes)

  answered_again : IsAnswered true (table (as_font out)) all out
  answered_again = record {
    source = Laid.afresh font glyphs out first;
    read = ap (λ (o : Option Outlines). ok_or o MalformedFont) (Laid.read_afresh font glyphs out first);
    order = all;
    is_order = subst (λ f. IsGlyphOrderBy f all all) outlines_are all_closed;
    found = found_all font glyphs out first all a (Laid.afresh font glyphs out first) (Laid.read_afresh font glyphs out first);
    few = omega (arith, first.few, a.count);
    tables = first.tables;
    tables_are = tables_again;
    laid_out = file_again;
  }

  -- the size limits are judged for the one order that there is
  for_all : (tokens depth : ℕ) (order : List ℕ) (e : Error) → HasFault tokens depth (as_font out) all order e → HasFault tokens depth (as_font out) all all e
  for_all tokens depth order e (faults.in_opening f) = faults.in_opening f
  for_all tokens depth order e (faults.in_cff b k t f) = faults.in_cff b k t f
  for_all tokens depth order e (faults.in_outlines f) = faults.in_outlines f
  for_all tokens depth order e (faults.in_metrics f) = faults.in_metrics f
  for_all tokens depth order e (faults.in_max_profile f) = faults.in_max_profile f
  for_all tokens depth order e (faults.in_names f) = faults.in_names f
  for_all tokens depth order e (faults.in_glyph_names f) = faults.in_glyph_names f
  for_all tokens depth order e (faults.long_glyf source bs o r k large) = subst (λ l. HasFault tokens depth (as_font out) all l OverflowError) (only_order font glyphs out first all a order o) (faults.long_glyf source bs o r k large)
  for_all tokens depth order e (faults.large_file kind ts o k large) = subst (λ l. HasFault tokens depth (as_font out) all l OverflowError) (only_order font glyphs out first all a order o) (faults.large_file kind ts o k large)

  pub outlines_sound : (tokens depth : ℕ) (order : List ℕ) (e : Error) → IsBytes out → HasFault tokens depth (as_font out) all order e → ⊥
  unfolding answered_again
  outlines_sound tokens depth order e out_bytes f =
      no_fault tokens depth (as_font out) all out out_bytes (glyf_there font glyphs out first) (no_opening TrueType out _ first.container (outline_flavor font glyphs out first)) answered_again e (for_all tokens depth order e f)

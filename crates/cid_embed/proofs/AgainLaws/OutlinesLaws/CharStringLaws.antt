-- A subset with a CFF table of a subset: the laws that the joined ones call.
use Rattle.std.proofs.Common.{◌≡◌, ℕ, ◌≤◌, ◌<◌, ◌^◌, Bool, true, false, cond, List, length, Option, Some, Result, Ok, Err, refl, sym, ap, subst, ◌∙◌, arith}
use Rattle.std.specs.Prelude.{codes, Contains}
use Rattle.std.specs.Option.{ok_or}
use Rattle.subsetter_base.specs.Bytes.{IsBytes, ◌>>=◌}
use Rattle.subsetter_base.specs.declared.error.Error.{Error}
use Rattle.subsetter_base.specs.declared.error.Error.TheVariants.{MalformedFont, OverflowError}
use Rattle.subsetter_base.proofs.Results.{done_is, bind_ok}
use Rattle.subsetter_cff.specs.Write.Refusals.CffFault.{in_glyph}
use Rattle.subsetter_cff.specs.Write.Headline.{IsSubsetTable}
use Rattle.subsetter_cff.specs.Write.Again.{composed, AreGlyphs, AreAll, HaveSameCharStrings}
use Rattle.subsetter_cff.proofs.WriteLaws.AgainLaws.Faults.{unknown_is_fault}
use Rattle.subsetter_cff.proofs.WriteLaws.AgainLaws.ThreeTables.{tables_compose, tables_keep_char_strings}
use Rattle.subsetter_sfnt.specs.declared.flavor.FontFlavor.TheVariants.{Cff}
use Rattle.subsetter_sfnt.specs.Container.{IsSoundContainer}
use Rattle.subsetter_sfnt.specs.Plain.{file_of}
use Rattle.subsetter_sfnt.specs.Read.{Font, as_font, table, flavor}
use Rattle.subsetter_sfnt.specs.Laying.Rows.{tags_of}
use Rattle.subsetter_sfnt.specs.Laying.Written.{file, kind_word}
use Rattle.subsetter.specs.Common.Shared.Plain.{shared_of}
use Rattle.subsetter.specs.Cff.Plain.{Made, made_of, laid, cff_tables, cff_file}
use Rattle.subsetter.specs.Cff.Read.{KeepsCharStrings}
use Rattle.subsetter.specs.Glyf.Reaching.Reach.{IsGlyphOrder}
use Rattle.subsetter.specs.Fault as faults
use Rattle.subsetter.specs.Fault.{HasFault}
use Rattle.subsetter.specs.Laid.{of_charstrings}
use Rattle.subsetter.specs.Subset.{KeepsShared, KeepsFont, by_charstrings, IsSubset}
use Rattle.subsetter.proofs.CommonLaws.SharedLaws.Kept.{keeps_shared}
use Rattle.subsetter.proofs.CommonLaws.SharedLaws.Steps.{shared_steps}
use Rattle.subsetter.proofs.CffLaws.Fault.{is_cff_subset}
use Rattle.cid_embed.specs.Again.{requests_less, IsCidKeyed}
use Rattle.cid_embed.proofs.AgainLaws.Basics.{one_found}
use Rattle.cid_embed.proofs.AgainLaws.ByKind.{IsCharStringSubset}
use Rattle.cid_embed.proofs.AgainLaws.OutlinesLaws.CharStrings as laid_out
use Rattle.cid_embed.proofs.AgainLaws.TablesLaws.CharStringTables.{at, tags_same, shared_same, tables_same}
use Rattle.cid_embed.proofs.AgainLaws.OrderLaws.GivenOrder.{only_given, all_of, composed_once, composed_order}
use Rattle.cid_embed.proofs.AgainLaws.Less.{other_table, flavor_less}
use Rattle.cid_embed.proofs.AgainLaws.OrderLaws.OneOrder.{each, all_once}
use Rattle.cid_embed.proofs.AgainLaws.Opening.{no_opening}
use Rattle.cid_embed.proofs.AgainLaws.OrderLaws.Places.{AreAt, all_places, same_lists}

-- a subset of a font with a CFF table is one too
pub charstring_flavor : (tokens depth : ℕ) (font : Font) (glyphs out : List ℕ) → IsCharStringSubset tokens depth font glyphs out → flavor (as_font out) ≡ Some Cff
charstring_flavor tokens depth font glyphs out x = laid_out.kind_back tokens depth font glyphs out x

-- a glyph that it doesn't have is a fault in it
pub unknown_charstring : (tokens depth : ℕ) (font : Font) (glyphs out more order : List ℕ) (g : ℕ) (x : IsCharStringSubset tokens depth font glyphs out) → Contains more g → length x.order ≤ g → HasFault tokens depth (as_font out) more order MalformedFont
unknown_charstring tokens depth font glyphs out more order g x among past =
    let d = x.drawn in
    faults.in_cff d.copy (charstring_flavor tokens depth font glyphs out x) d.copy_is (in_glyph d.kept.copy g d.kept.copy_is among (unknown_is_fault d.kept.source d.kept.copy tokens depth g x.order d.kept.kept past))

module _ (n g : Bool) (tokens depth : ℕ) (font : Font) (glyphs out more again : List ℕ) (first : IsCharStringSubset tokens depth font glyphs out) (second : IsCharStringSubset tokens depth (requests_less n g (as_font out)) more again) where
  -- the second source is the first copy
  same_copy : IsSubsetTable first.drawn.copy tokens depth second.order second.drawn.copy
  same_copy =
      subst (λ b. IsSubsetTable b tokens depth second.order second.drawn.copy)
      (one_found (table (as_font out) (codes "CFF ")) second.drawn.source first.drawn.copy (sym (other_table n g (as_font out) (codes "CFF ") refl refl) ∙ second.drawn.source_is) first.drawn.copy_is) second.drawn.kept

  drawn : AreGlyphs first.order second.order × KeepsCharStrings tokens depth (requests_less n g font) (composed first.order second.order) (as_font again)
  drawn =
      let k = tables_compose first.drawn.source first.drawn.copy second.drawn.copy tokens depth first.order second.order first.drawn.kept same_copy in
      (k.0, record { source = first.drawn.source; source_is = other_table n g font (codes "CFF ") refl refl ∙ first.drawn.source_is; copy = second.drawn.copy; copy_is = second.drawn.copy_is; kept = k.1 })

  given : second.order ≡ more
  given = only_given (requests_less n g (as_font out)) more second.order second.kind_is second.is_order

  -- all glyphs in order keep their charstrings
  same_char_strings : AreAll (length first.order) more → HaveSameCharStrings first.drawn.copy second.drawn.copy
  same_char_strings a = tables_keep_char_strings first.drawn.source first.drawn.copy second.drawn.copy tokens depth first.order second.order first.drawn.kept (subst (AreAll (length first.order)) (sym given) a) same_copy

pub charstrings_same : (tokens depth : ℕ) (font : Font) (glyphs out all again : List ℕ) (x : IsCharStringSubset tokens depth font glyphs out) → AreAll (length x.order) all → (y : IsCharStringSubset tokens depth (as_font out) all again) → HaveSameCharStrings x.drawn.copy y.drawn.copy
charstrings_same tokens depth font glyphs out all again x a y = same_char_strings true true tokens depth font glyphs out all again x y a

-- ---- a subset of a subset is a subset of the first font, also where less is asked for

module _ (n g : Bool) (tokens depth : ℕ) (font : Font) (glyphs out more again : List ℕ) (bytes : IsBytes font.bytes) (deep : 1 ≤ depth) (first : IsCharStringSubset tokens depth font glyphs out) (second : IsCharStringSubset tokens depth (requests_less n g (as_font out)) more again) (some : 1 ≤ length more) where
  abbrev order : List ℕ
  order = composed first.order second.order

  abbrev source : Font
  source = requests_less n g font

  abbrev middle : Font
  middle = requests_less n g (as_font out)

  kind_is : flavor source ≡ Some Cff
  kind_is = flavor_less n g font ∙ first.kind_is

  source_is : table source (codes "CFF ") ≡ Some first.source
  source_is = other_table n g font (codes "CFF ") refl refl ∙ first.source_is

  inside : AreGlyphs first.order second.order
  inside = (drawn n g tokens depth font glyphs out more again first second).0

  no_others : second.order ≡ more
  no_others = given n g tokens depth font glyphs out more again first second

  places : AreAt first.order second.order order
  places = at tokens depth font glyphs out bytes first second.order inside

  is_order : IsGlyphOrder source (composed first.order more) order
  is_order = composed_order source first.order more second.order kind_is (composed_once first.order second.order order first.is_order.once second.is_order.once places) no_others

  few : length order < 2 ^ 16
  few = omega (arith, places.size, second.few)

  container : IsSoundContainer again (kind_word Cff) (tags_of Cff (table source))
  container = subst (λ (l : List (List ℕ)). IsSoundContainer again (kind_word Cff) l) (tags_same tokens depth font glyphs out bytes first n g) second.container

  shared : KeepsShared source Cff order (as_font again)
  shared =
      let made = laid_out.m tokens depth middle more again second in
      let answered : shared_of (table source) Cff false order ≡ Ok made.shared = sym (shared_same tokens depth font glyphs out bytes first second.order inside n g) ∙ laid_out.shared_is tokens depth middle more again second in
      keeps_shared source (as_font again) Cff false order made.shared (laid_out.word tokens depth middle more again second) (shared_steps (table source) Cff false order made.shared answered) (laid_out.shared_back tokens depth middle more again second) bytes
      (omega (arith, some, places.size, ap length no_others)) few

  -- read afresh
  pub charstrings_kept : (third : KeepsFont tokens depth source (composed first.order more) again) × (third.order ≡ order)
  charstrings_kept = (
    record {
      order = order;
      is_order = is_order;
      few = few;
      kind = Cff;
      kind_is = kind_is;
      container = container;
      shared = shared;
      drawing = by_charstrings (drawn n g tokens depth font glyphs out more again first second).1;
    },
    refl,
  )

  -- ---- and byte for byte, where the first font is CID-keyed

  some_first : 1 ≤ length first.order
  some_first = let lt = places.within 0 (omega (arith, some, ap length no_others)) in omega (arith, lt)

  tables_are : IsCidKeyed font → cff_tables (table source) first.source tokens depth order ≡ Ok second.tables
  tables_are keyed =
      let same =
      one_found (table (as_font out) (codes "CFF ")) second.source (laid_out.m tokens depth font glyphs out first).cff (sym (other_table n g (as_font out) (codes "CFF ") refl refl) ∙ second.source_is) (laid_out.cff_back tokens depth font glyphs out first) in
      sym (tables_same tokens depth font glyphs out bytes first second.order inside n g deep some_first keyed) ∙ ap (λ b. cff_tables (table middle) b tokens depth second.order) (sym same) ∙ second.tables_are

  pub charstrings_composed : IsCidKeyed font → (third : IsSubset tokens depth source (composed first.order more) again) × (third.keeps.order ≡ order)
  charstrings_composed keyed = (
    record {
      keeps = record {
        order = order;
        is_order = is_order;
        few = few;
        kind = Cff;
        kind_is = kind_is;
        container = container;
        shared = shared;
        drawing = by_charstrings (drawn n g tokens depth font glyphs out more again first second).1;
      };
      layout = record { tables = second.tables; made = of_charstrings first.source kind_is source_is (tables_are keyed); bytes = second.bytes; room = second.room };
    },
    refl,
  )

-- ---- all glyphs in order, of a CID-keyed font

module _ (tokens depth : ℕ) (font : Font) (glyphs out : List ℕ) (bytes : IsBytes font.bytes) (deep : 1 ≤ depth) (first : IsCharStringSubset tokens depth font glyphs out) (keyed : IsCidKeyed font) (all : List ℕ) (a : AreAll (length first.order) all) (some : 1 ≤ length all) where
  all_at : AreAt first.order all first.order
  all_at = all_places first.order all a.count (each (length first.order) all a)

  all_inside : AreGlyphs first.order all
  all_inside = all_of (length first.order) all all_at.within

  same_order : composed first.order all ≡ first.order
  same_order =
      let k = at tokens depth font glyphs out bytes first all all_inside in
      same_lists (composed first.order all) first.order 0 (k.size ∙ a.count) (λ i lt. let less : i < length all = omega (arith, lt, k.size) in k.nth i less ∙ sym (all_at.nth i less))

  -- the tables are the same
  tables_again : cff_tables (table (as_font out)) (laid_out.m tokens depth font glyphs out first).cff tokens depth all ≡ Ok first.tables
  tables_again = tables_same tokens depth font glyphs out bytes first all all_inside true true deep (omega (arith, some, a.count)) keyed ∙ ap (cff_tables (table font) first.source tokens depth) same_order ∙ first.tables_are

  pub charstrings_canonical : (again : List ℕ) → IsCharStringSubset tokens depth (as_font out) all again → again ≡ out
  charstrings_canonical again second =
      let source = one_found (table (as_font out) (codes "CFF ")) second.source (laid_out.m tokens depth font glyphs out first).cff second.source_is (laid_out.cff_back tokens depth font glyphs out first) in
      let order = only_given (as_font out) all second.order second.kind_is second.is_order in
      let same : second.tables ≡ first.tables = done_is second.tables first.tables (sym second.tables_are ∙ ap (cff_tables (table (as_font out)) second.source tokens depth) order ∙ ap (λ b. cff_tables (table (as_font out)) b tokens depth all) source ∙ tables_again) in
      second.bytes ∙ ap (file (kind_word Cff)) same ∙ sym first.bytes

  -- the steps to the same file
  file_again : cff_file (table (as_font out)) tokens depth all ≡ Ok out
  unfolding cff_file cff_tables file_of
  file_again =
      let back = table (as_font out) in
      let source = (laid_out.m tokens depth font glyphs out first).cff in
      let k = bind_ok (made_of back source tokens depth all) (λ m. Ok (laid m)) first.tables tables_again in
      let same : laid k.0 ≡ first.tables = done_is (laid k.0) first.tables k.2 in
      ap (λ (o : Option (List ℕ)). ok_or o MalformedFont >>= λ s. made_of back s tokens depth all >>= λ m. file_of (kind_word Cff) (laid m)) (laid_out.cff_back tokens depth font glyphs out first)
      ∙ ap (λ (r : Result Made Error). r >>= λ m. file_of (kind_word Cff) (laid m)) k.1
      ∙ ap (file_of (kind_word Cff)) same
      ∙ ap (λ b. cond b (Ok (file (kind_word Cff) first.tables)) (Err OverflowError)) first.room
      ∙ ap (λ (l : List ℕ). Ok l) (sym first.bytes)

  -- there is one order
  one : (before after : List ℕ) → IsGlyphOrder (as_font out) all before → IsGlyphOrder (as_font out) all after → before ≡ after
  one before after o p = let kind = charstring_flavor tokens depth font glyphs out first in only_given (as_font out) all before kind o ∙ sym (only_given (as_font out) all after kind p)

  -- so the size limits are judged for it
  own : (before after : List ℕ) (e : Error) → IsGlyphOrder (as_font out) all after → HasFault tokens depth (as_font out) all before e → HasFault tokens depth (as_font out) all after e
  own before after e is (faults.in_opening f) = faults.in_opening f
  own before after e is (faults.in_cff b k t f) = faults.in_cff b k t f
  own before after e is (faults.in_outlines f) = faults.in_outlines f
  own before after e is (faults.in_metrics f) = faults.in_metrics f
  own before after e is (faults.in_max_profile f) = faults.in_max_profile f
  own before after e is (faults.in_names f) = faults.in_names f
  own before after e is (faults.in_glyph_names f) = faults.in_glyph_names f
  own before after e is (faults.long_glyf source bs o r k large) = subst (λ l. HasFault tokens depth (as_font out) all l OverflowError) (one before after o is) (faults.long_glyf source bs o r k large)
  own before after e is (faults.large_file kind ts o k large) = subst (λ l. HasFault tokens depth (as_font out) all l OverflowError) (one before after o is) (faults.large_file kind ts o k large)

  pub charstrings_sound : (order : List ℕ) (e : Error) → IsBytes out → HasFault tokens depth (as_font out) all order e → ⊥
  charstrings_sound order e out_bytes f =
      let kind = charstring_flavor tokens depth font glyphs out first in
      let clean = is_cff_subset tokens depth (as_font out) all out out_bytes deep (omega (arith, some)) (omega (arith, first.few, a.count)) (all_once (length first.order) all a) kind (no_opening Cff out _ first.container kind) file_again in
      clean.clean e (own order clean.subset.keeps.order e clean.subset.keeps.is_order f)

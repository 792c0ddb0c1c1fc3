-- What is made is a table that says, read afresh, what was requested.
use Rattle.std.proofs.Common.{◌≡◌, ℕ, zero, suc, ◌<◌, ◌≤◌, ℤ, pos, FitsSigned, true, List, [], ◌∷◌, length, map, Option, Some, None, refl, ap, arith, ◌∙◌, sym, subst}
use Rattle.std.specs.Prelude.{slice_get, slice_index, Ok}
use Rattle.std.specs.Int.{w16}
use Rattle.std.specs.List.{AllByRecursion}
use Rattle.std.specs.Option.{ok_or, option_map}
use Rattle.std.proofs.lemmas.List.{length-map}
use Rattle.std.proofs.lemmas.Option.{none-some, same_Some, slice_get-map, slice_get_within, get_or_from_slice_get}
use Rattle.subsetter_base.specs.Bytes.{◌>>=◌}
use Rattle.subsetter_base.specs.Indexes.{index_of}
use Rattle.subsetter_base.specs.declared.error.Error.TheVariants.{MalformedFont}
use Rattle.subsetter_cffdata.proofs.Options.{step}
use Rattle.subsetter_cffdata.specs.Dicts.Dict.{Entry, entries}
use Rattle.subsetter_cffdata.specs.Numerals.Numbers.{Number, Integer}
use Rattle.subsetter_cffdata.specs.Numerals.Values.{value}
use Rattle.subsetter_type2.specs.Runs.Machine.{Trace, trace}
use Rattle.subsetter_cff.specs.Read.Cff.{Cff, char_strings, char_string}
use Rattle.subsetter_cff.specs.Read.GlyphTrace.{glyph_trace, library}
use Rattle.subsetter_cff.specs.Read.Entries.Lookup.{last_of}
use Rattle.subsetter_cff.specs.Read.Entries.Matrices.{stated_matrices, unit_matrix}
use Rattle.subsetter_cff.specs.Read.Entries.Operators.{char_strings_operator, font_dicts_operator, font_dict_select_operator, font_matrix_operator, subroutines_operator}
use Rattle.subsetter_cff.specs.Read.FdArray.Private.{Private, private_of, private_entries, own_entries}
use Rattle.subsetter_cff.specs.Write.Laying.Layout.{FontDict, Parts}
use Rattle.subsetter_cff.specs.Write.Laying.ReadsAs.{IsReadAs, ReadsAs, GlyphReadsAs}
use Rattle.subsetter_cff.proofs.ReadLaws.Results.{bind_ok, same_Ok, some_of, passed}
use Rattle.subsetter_cff.proofs.WriteLaws.NewDictsLaws.FontDicts.{none_left_out}
use Rattle.subsetter_cff.proofs.WriteLaws.Keeping.{entry_of_some}
use Rattle.subsetter_blend.specs.Laws.{IsDrawnAndWritten}
use Rattle.subsetter_blend.specs.Resolved.{resolved}
use Rattle.subsetter_blend.proofs.DrawnLaws.Listed.{resolved_draws_rounded}
use Rattle.subsetter_cff2.specs.Cff2.{Cff2, wide_index, named_index, optional_offset, store_by, cff2_parts, parts_by}
use Rattle.subsetter_cff2.specs.Front2.{front_at}
use Rattle.subsetter_cff2.specs.Made2.{NewDict, new_font_dict, new_matrix, new_parts, optional_matrix, made_of}
use Rattle.subsetter_cff2.specs.MadeReads.{IsMadeOf, DictIsPlaced}
use Rattle.subsetter_cff2.specs.Operators2.{store_operator}
use Rattle.subsetter_cff2.specs.PrivateDicts.Private2 as source
use Rattle.subsetter_cff2.specs.Selection.UsedDicts.{index_in}
use Rattle.subsetter_cff2.specs.Variation.{Variation, optional_variation}
use Rattle.subsetter_cff2.proofs.MadeFits.{made_is_read, new_dict_is_placed}
use Rattle.subsetter_cff_at.specs.Plain.{dict_bound, present, setting, filled, all_filled, no_glyph, text_boxes, Drawn, drawn, drawn_box, drawn_of, Opened, opened, parts_of, some_requested, made_table}
use Rattle.subsetter_cff_at.specs.Promise.{DrawsGlyph, IsTableAt, IsRequest, MadeIsTable}
use Rattle.subsetter_cff_at.specs.Request.{Request}
use Rattle.subsetter_cff_at.specs.Units.{top_matrix, matrix_or, units_dict}
use Rattle.subsetter_cff_at.specs.View.{HasBoxes}
use Rattle.subsetter_cff_at.specs.Boxes.{table_boxes}
use Rattle.subsetter_points.specs.declared.bounds.Bounds.{Bounds}
use Rattle.subsetter_cff_at.proofs.Boxes.{drawn_box_fits, drawn_box_is, drawn_box_length, table_boxes_are, entry_boxes_are}
use Rattle.subsetter_cff_at.proofs.Found.{text_here, length-texts, length-dicts, few_used, requested_at, all_inside}
use Rattle.subsetter_cff_at.proofs.DrawnGlyphs.{DrawnSteps, drawn_steps, GlyphFound, as_many, place_found, glyph_found}

-- ---- FontMatrix is that of a dict
pub record MatrixOf (matrix : Option (List Number)) : Type 0 where
  pub dict : List ℕ
  pub is : optional_matrix (last_of font_matrix_operator (entries dict)) ≡ Some matrix

matrix_by : (top : List ℕ) (own : Option (Option (List Number))) (units : ℕ) (matrix : Option (List Number)) → optional_matrix (last_of font_matrix_operator (entries top)) ≡ own
    → matrix_or own units ≡ Some matrix → MatrixOf matrix
matrix_by top None units matrix is e = absurd (none-some matrix e)
matrix_by top (Some None) units matrix is e = record { dict = units_dict units; is = e }
matrix_by top (Some (Some m)) units matrix is e = record { dict = top; is = is ∙ e }

-- the entries of the top dict are those of bytes
top_of : (bytes : List ℕ) (axes : ℕ) (cff : Cff2) → cff2_parts bytes axes ≡ Some cff → (top : List ℕ) × (entries top ≡ cff.top)
unfolding cff2_parts parts_by
top_of bytes axes cff e =
    let a = step (front_at bytes) _ cff e in
    let b = step (wide_index bytes a.0.1) _ cff a.1.1 in
    let c = step (named_index bytes (last_of char_strings_operator (entries a.0.0))) _ cff b.1.1 in
    let d = step (named_index bytes (last_of font_dicts_operator (entries a.0.0))) _ cff c.1.1 in
    let f = step (optional_offset (last_of store_operator (entries a.0.0))) _ cff d.1.1 in
    let g = step (store_by bytes axes f.0) _ cff f.1.1 in
    let h = step (optional_offset (last_of font_dict_select_operator (entries a.0.0))) _ cff g.1.1 in
    (a.0.0, ap (λ (x : Cff2). x.top) (same_Some _ _ h.1.1))

pub matrix_of : (bytes : List ℕ) (axes units : ℕ) (cff : Cff2) (matrix : Option (List Number)) → cff2_parts bytes axes ≡ Some cff → top_matrix cff units ≡ Some matrix → MatrixOf matrix
unfolding top_matrix
matrix_of bytes axes units cff matrix is e =
    let top = top_of bytes axes cff is in
    matrix_by top.0 (optional_matrix (last_of font_matrix_operator cff.top)) units matrix (ap (λ (es : List Entry). optional_matrix (last_of font_matrix_operator es)) top.1) e

-- ---- a glyph of the new table
traced : (cff : Cff) (tokens depth glyph : ℕ) (bytes : List ℕ) (private : Private) (u : Trace) → char_string cff glyph ≡ Some bytes → private_of cff glyph ≡ Some private
    → trace (library cff private) tokens depth bytes ≡ Some u → glyph_trace cff tokens depth glyph ≡ Some u
unfolding glyph_trace
traced cff tokens depth glyph bytes private u e f h = rw (e, f) h

own_of : (cff : Cff) (glyph : ℕ) (es : List Entry) → private_of cff glyph ≡ Some (record { entries = es; subroutines = [] }) → own_entries (record { entries = es; subroutines = [] }) ≡ es → private_entries cff glyph ≡ Some es
own_of cff glyph es e own = rw e (ap Some own)

source_private : (cff : Cff2) (glyph number : ℕ) (private : source.Private2) → source.font_dict_number cff glyph ≡ Some number → source.private_numbered cff number ≡ Some private → source.private_of cff glyph ≡ Some private
source_private cff glyph number private e f = rw e f

filled_at : (texts : List (Option (List ℕ))) (i : ℕ) (text : Option (List ℕ)) → slice_get texts i ≡ Some text → slice_get (all_filled texts) i ≡ Some (filled text)
filled_at texts i text at = slice_get-map filled texts i ∙ ap (option_map filled) at

pub text_of : (copy : Cff) (texts : List (Option (List ℕ))) (i : ℕ) (text : Option (List ℕ)) → char_strings copy ≡ Some (map Some (all_filled texts)) → slice_get texts i ≡ Some text → char_string copy i ≡ Some (filled text)
text_of copy texts i text e at = rw e (entry_of_some (all_filled texts) i (filled text) (filled_at texts i text at))

fits_width : (n : ℕ) → n < 32768 → FitsSigned w16 (pos n)
fits_width n lt = record { sfits = omega (arith, lt) }

same_run : (cff : Cff2) (v : Option Variation) (tokens depth : ℕ) (locals other : List (Option (List ℕ))) (data_index index advance : ℕ) (charstring bytes : List ℕ) → locals ≡ other → data_index ≡ index
    → resolved (setting cff v locals) tokens depth data_index (pos advance) charstring ≡ Ok bytes → resolved (setting cff v other) tokens depth index (pos advance) charstring ≡ Ok bytes
same_run cff v tokens depth locals other data_index index advance charstring bytes p q e = rw (← p, ← q) e

module _ (cff : Cff2) (v : Option Variation) (tokens depth glyph advance : ℕ) (d : Drawn) (f : GlyphFound cff v tokens depth glyph advance d) (p : Parts) (copy : Cff) (reads : ReadsAs p copy) (texts_are : p.char_strings ≡ all_filled d.texts)
    (dicts_are : p.font_dicts ≡ map new_font_dict d.dicts) (read : GlyphReadsAs p copy glyph) (dict_in : slice_get p.font_dicts f.index ≡ Some read.font_dict) where
  placed : DictIsPlaced cff v f.number f.dict
  placed = new_dict_is_placed cff v f.number f.dict f.dict_is

  same_dict : read.font_dict ≡ new_font_dict f.dict
  same_dict = same_Some _ _ (sym dict_in ∙ ap (λ (l : List FontDict). slice_get l f.index) dicts_are ∙ slice_get-map new_font_dict d.dicts f.index ∙ ap (option_map new_font_dict) f.dict_at)

  entries_are : read.font_dict.private ≡ placed.at_location.entries
  entries_are = ap (λ (x : FontDict). x.private) same_dict ∙ placed.entries_are

  bytes_are : char_string copy glyph ≡ Some f.bytes
  bytes_are = text_of copy d.texts glyph (Some f.bytes) (reads.charstrings ∙ ap (λ (l : List (List ℕ)). Some (map Some l)) texts_are) f.text_at

  drawn_is : IsDrawnAndWritten (setting cff v placed.source.subroutines) tokens depth placed.at_location.data_index (pos advance) f.charstring f.bytes
  drawn_is = resolved_draws_rounded (setting cff v placed.source.subroutines) tokens depth placed.at_location.data_index (pos advance) f.charstring f.bytes (fits_width advance f.small)
      (same_run cff v tokens depth f.dict.subroutines placed.source.subroutines f.dict.data_index placed.at_location.data_index advance f.charstring f.bytes placed.subroutines_are placed.data_index_is f.ran)

  pub draws_glyph : DrawsGlyph cff v tokens depth glyph advance copy
  draws_glyph = record {
    private = placed.source;
    private_is = source_private cff glyph f.number placed.source f.number_is placed.source_is;
    at_location = placed.at_location;
    at_location_is = placed.at_location_is;
    entries_are = own_of copy glyph read.font_dict.private read.private (none_left_out subroutines_operator read.font_dict.private read.leads_nowhere) ∙ ap Some entries_are;
    charstring = f.charstring;
    charstring_is = f.charstring_is;
    bytes = f.bytes;
    bytes_are = bytes_are;
    drawn = drawn_is;
    trace_is = λ n deep one enough. traced copy n deep glyph f.bytes (record { entries = read.font_dict.private; subroutines = [] }) _ bytes_are read.private (drawn_is.written.plays _ n deep one enough);
  }

-- ---- the whole
item_at : (places : List ℕ) (i index_of : ℕ) → slice_get places i ≡ Some index_of → slice_index places i ≡ index_of
item_at places i index_of at = get_or_from_slice_get places i index_of 0 at

pub record TableSteps (bytes : List ℕ) (r : Request) (tokens depth : ℕ) (out : List ℕ) : Type 0 where
  pub requested : some_requested r.glyphs ≡ true
  pub cff : Cff2
  pub cff_is : cff2_parts bytes (length r.at) ≡ Some cff
  pub matrix : Option (List Number)
  pub matrix_is : top_matrix cff r.units ≡ Some matrix
  pub variation : Option Variation
  pub variation_is : optional_variation cff.store r.at ≡ Some variation
  pub opened_is : opened bytes r ≡ Ok (record { cff = cff; matrix = matrix; variation = variation })
  pub glyphs : Drawn
  pub glyphs_are : drawn cff variation tokens depth r.glyphs ≡ Ok glyphs
  pub made : made_of (new_parts matrix (drawn_box glyphs) glyphs.dicts glyphs.places (all_filled glyphs.texts)) ≡ Ok out

pub record OpenSteps (bytes : List ℕ) (r : Request) (o : Opened) : Type 0 where
  pub cff_is : cff2_parts bytes (length r.at) ≡ Some o.cff
  pub matrix_is : top_matrix o.cff r.units ≡ Some o.matrix
  pub variation_is : optional_variation o.cff.store r.at ≡ Some o.variation

pub open_steps : (bytes : List ℕ) (r : Request) (o : Opened) → opened bytes r ≡ Ok o → OpenSteps bytes r o
unfolding opened
open_steps bytes r o e =
    let a = bind_ok (ok_or (cff2_parts bytes (length r.at)) MalformedFont) _ o e in
    let b = bind_ok (ok_or (top_matrix a.0 r.units) MalformedFont) _ o a.1.1 in
    let c = bind_ok (ok_or (optional_variation a.0.store r.at) MalformedFont) _ o b.1.1 in
    let same : record { cff = a.0; matrix = b.0; variation = c.0 } ≡ o = same_Ok _ _ c.1.1 in
    subst (λ (x : Opened). OpenSteps bytes r x) same (record {
      cff_is = some_of (cff2_parts bytes (length r.at)) MalformedFont a.0 a.1.0;
      matrix_is = some_of (top_matrix a.0 r.units) MalformedFont b.0 b.1.0;
      variation_is = some_of (optional_variation a.0.store r.at) MalformedFont c.0 c.1.0;
    })

pub table_steps : (bytes : List ℕ) (r : Request) (tokens depth : ℕ) (out : List ℕ) → made_table bytes r tokens depth ≡ Ok out → TableSteps bytes r tokens depth out
unfolding made_table
table_steps bytes r tokens depth out e =
    let a = passed (some_requested r.glyphs) MalformedFont _ out e in
    let b = bind_ok (opened bytes r) (λ o. drawn o.cff o.variation tokens depth r.glyphs >>= parts_of o) out a.1 in
    let c = bind_ok (drawn b.0.cff b.0.variation tokens depth r.glyphs) (parts_of b.0) out b.1.1 in
    let o = open_steps bytes r b.0 b.1.0 in
    record {
      requested = a.0;
      cff = b.0.cff;
      cff_is = o.cff_is;
      matrix = b.0.matrix;
      matrix_is = o.matrix_is;
      variation = b.0.variation;
      variation_is = o.variation_is;
      opened_is = b.1.0;
      glyphs = c.0;
      glyphs_are = c.1.0;
      made = c.1.1;
    }

unit_of : (dicts : List NewDict) (i : ℕ) (f : FontDict) → slice_get (map new_font_dict dicts) i ≡ Some f → f.matrix ≡ unit_matrix
unit_of [] i f at = absurd (none-some f at)
unit_of (d ∷ dicts) zero f at = ap (λ (x : FontDict). x.matrix) (sym (same_Some _ f at))
unit_of (d ∷ dicts) (suc i) f at = unit_of dicts i f at

module _ (bytes : List ℕ) (r : Request) (tokens depth : ℕ) (out : List ℕ) (is : IsRequest r) (s : TableSteps bytes r tokens depth out) where
  steps : DrawnSteps s.cff s.variation tokens depth r.glyphs s.glyphs
  steps = drawn_steps s.cff s.variation tokens depth r.glyphs s.glyphs s.glyphs_are

  texts_many : length (all_filled s.glyphs.texts) ≡ length r.glyphs
  texts_many =
      length-map s.glyphs.texts filled
      ∙ length-texts s.cff s.variation tokens depth s.glyphs.dicts s.glyphs.places 0 r.glyphs s.glyphs.texts steps.texts_are (as_many s.cff s.variation tokens depth r.glyphs s.glyphs steps)

  dicts_many : length s.glyphs.dicts ≡ length steps.used
  dicts_many = length-dicts s.cff s.variation steps.used s.glyphs.dicts steps.dicts_are

  abbrev matrix_dict : MatrixOf s.matrix
  matrix_dict = matrix_of bytes (length r.at) r.units s.cff s.matrix s.cff_is s.matrix_is

  some_used : 0 < length steps.used
  some_used =
      let a = requested_at r.glyphs s.requested in
      let p = place_found s.cff s.variation tokens depth r.glyphs s.glyphs steps a.glyph a.advance a.is in
      omega (arith, slice_get_within steps.used p.index p.number p.used_at)

  some_glyph : 1 ≤ length r.glyphs
  some_glyph = let a = requested_at r.glyphs s.requested in omega (arith, slice_get_within r.glyphs a.glyph (Some a.advance) a.is)

  made_of_these : IsMadeOf s.cff s.variation matrix_dict.dict steps.used s.glyphs.dicts s.matrix (drawn_box s.glyphs) s.glyphs.places (all_filled s.glyphs.texts)
  made_of_these = record {
    dicts_are = steps.dicts_are;
    few_dicts = omega (arith, dicts_many, (few_used (dict_bound s.cff) (present steps.numbers) steps.used steps.used_are).1);
    matrix_is = matrix_dict.is;
    box_fits = drawn_box_fits s.glyphs;
    box_length = drawn_box_length s.glyphs;
    as_many = as_many s.cff s.variation tokens depth r.glyphs s.glyphs steps ∙ sym texts_many;
    inside =
        subst (λ (l : List ℕ). AllByRecursion (λ n. n < length s.glyphs.dicts) l) (sym steps.places_are)
        (subst (λ (k : ℕ). AllByRecursion (λ n. n < k) (map (index_in steps.used) steps.numbers)) (sym dicts_many) (all_inside steps.used steps.numbers some_used));
    some_glyph = omega (arith, some_glyph, texts_many);
    few_glyphs = omega (arith, is.few, texts_many);
  }

  abbrev parts : Parts
  parts = new_parts s.matrix (drawn_box s.glyphs) s.glyphs.dicts s.glyphs.places (all_filled s.glyphs.texts)

  module _ (read : IsReadAs out parts) where
    glyph_read : (glyph : ℕ) → glyph < length r.glyphs → GlyphReadsAs parts read.cff glyph
    glyph_read glyph lt = read.reads.glyphs glyph (omega (arith, lt, texts_many))

    requested : (glyph advance : ℕ) → slice_get r.glyphs glyph ≡ Some (Some advance) → DrawsGlyph s.cff s.variation tokens depth glyph advance read.cff
    requested glyph advance at =
        let f = glyph_found s.cff s.variation tokens depth r.glyphs s.glyphs steps glyph advance at in
        let g = glyph_read glyph (slice_get_within r.glyphs glyph (Some advance) at) in
        draws_glyph s.cff s.variation tokens depth glyph advance s.glyphs f parts read.cff read.reads refl refl g
        (ap (slice_get parts.font_dicts) (sym (item_at s.glyphs.places glyph f.index f.place_at)) ∙ g.font_dict_is)

    not_requested : (glyph : ℕ) → slice_get r.glyphs glyph ≡ Some None → char_string read.cff glyph ≡ Some no_glyph
    not_requested glyph at =
        let t = text_here s.cff s.variation tokens depth s.glyphs.dicts s.glyphs.places r.glyphs glyph None s.glyphs.texts steps.texts_are (as_many s.cff s.variation tokens depth r.glyphs s.glyphs steps) at in
        text_of read.cff s.glyphs.texts glyph None read.reads.charstrings (t.at ∙ ap Some (sym (same_Ok _ _ t.is)))

    matrices : (glyph : ℕ) → glyph < length r.glyphs → stated_matrices read.cff glyph ≡ Some (map value (new_matrix s.matrix), map value unit_matrix)
    matrices glyph lt =
        let g = glyph_read glyph lt in
        g.matrices_are ∙ ap (λ (m : List Number). Some (map value (new_matrix s.matrix), map value m)) (unit_of s.glyphs.dicts (slice_index s.glyphs.places glyph) g.font_dict g.font_dict_is)

    pub table_is : made_table bytes r tokens depth ≡ Ok out → IsTableAt bytes r tokens depth out
    table_is e = record {
      source = s.cff;
      source_is = s.cff_is;
      variation = s.variation;
      variation_is = s.variation_is;
      copy = read.cff;
      copy_is = read.read;
      charstrings = map Some (all_filled s.glyphs.texts);
      charstrings_are = read.reads.charstrings;
      count = length-map (all_filled s.glyphs.texts) Some ∙ texts_many;
      cids = λ glyph lt. (glyph_read glyph lt).cid;
      drawn = requested;
      empty = not_requested;
      keyed = read.reads.keyed;
      no_subroutines = read.reads.no_subroutines;
      matrix = s.matrix;
      matrix_is = s.matrix_is;
      matrices_are = matrices;
      box = read.reads.box ∙ ap (λ (l : List ℤ). Some (map Integer l)) (drawn_box_is s.glyphs);
      layout = e;
    }

module _ (bytes : List ℕ) (r : Request) (tokens depth : ℕ) (out : List ℕ) (is : IsRequest r) (s : TableSteps bytes r tokens depth out) where
  read_afresh : IsReadAs out (parts bytes r tokens depth out is s)
  read_afresh =
      let m = matrix_of bytes (length r.at) r.units s.cff s.matrix s.cff_is s.matrix_is in
      let d = steps bytes r tokens depth out is s in
      made_is_read s.cff s.variation m.dict d.used s.glyphs.dicts s.matrix (drawn_box s.glyphs) s.glyphs.places (all_filled s.glyphs.texts) out (made_of_these bytes r tokens depth out is s) s.made

  -- the boxes of the glyphs of the new table are those of its charstrings
  pub boxes_read : table_boxes out ≡ text_boxes s.glyphs.texts
  boxes_read = table_boxes_are out read_afresh.cff (map Some (all_filled s.glyphs.texts)) read_afresh.read read_afresh.reads.charstrings ∙ entry_boxes_are (all_filled s.glyphs.texts)

pub made_is_table : MadeIsTable
made_is_table bytes r tokens depth out is e =
    let s = table_steps bytes r tokens depth out e in
    table_is bytes r tokens depth out is s (read_afresh bytes r tokens depth out is s) e

-- the boxes of what is drawn are those of the new table
pub boxes_back : (bytes : List ℕ) (r : Request) (tokens depth : ℕ) (out : List ℕ) (boxes : List (Option Bounds)) → IsRequest r → made_table bytes r tokens depth ≡ Ok out → HasBoxes boxes (drawn_of bytes r tokens depth) → boxes ≡ table_boxes out
unfolding drawn_of
boxes_back bytes r tokens depth out boxes is e has =
    let s = table_steps bytes r tokens depth out e in
    let drawn_is : drawn_of bytes r tokens depth ≡ Ok s.glyphs = rw s.opened_is s.glyphs_are in
    let are : boxes ≡ text_boxes s.glyphs.texts = subst (HasBoxes boxes) drawn_is has in
    are ∙ sym (boxes_read bytes r tokens depth out is s)

-- The new table, read afresh, has the glyphs that it was asked for.
use Rattle.std.proofs.Common.{◌≡◌, ℕ, ◌≤◌, true, false, List, [], ◌∷◌, map, length, Option, Some, None, refl, ap, arith, inl, inr, ◌∙◌, sym, subst}
use Rattle.std.specs.Prelude.{slice_get, if◌then◌else◌, nat_lt, ◌==◌, Result, Ok, Err, IfOk}
use Rattle.std.specs.Str.{bytes_eq}
use Rattle.std.proofs.lemmas.Bool.{cases_Bool, eqb-true, ltb-true}
use Rattle.std.proofs.lemmas.List.{length-map}
use Rattle.std.proofs.lemmas.Option.{same_Some, slice_get-map, slice_get_within}
use Rattle.std.proofs.lemmas.Slice.Eq.{bytes_eq-Decides}
use Rattle.subsetter_base.specs.Options.{◌>>=◌}
use Rattle.subsetter_base.specs.Gives.{Gives}
use Rattle.subsetter_base.specs.declared.error.Error.{Error}
use Rattle.subsetter_base.specs.declared.error.Error.TheVariants.{OverflowError}
use Rattle.subsetter_base.proofs.Lists.{and_parts}
use Rattle.subsetter_cffdata.specs.Dicts.Dict.{Entry}
use Rattle.subsetter_cffdata.specs.Numerals.Numbers.{Number}
use Rattle.subsetter_cffdata.specs.Numerals.Values.{value}
use Rattle.subsetter_type2.specs.Runs.Machine.{Library, trace}
use Rattle.subsetter_cff.specs.Read.Cff.{Cff, cff_parts, char_string}
use Rattle.subsetter_cff.specs.Read.Entries.Lookup.{last_after, last_of, without}
use Rattle.subsetter_cff.specs.Read.Entries.Operators.{subroutines_operator, copyright_operator, notice_operator, font_name_operator}
use Rattle.subsetter_cff.specs.Read.FdArray.Private.{Private, own_entries, private_entries, private_of}
use Rattle.subsetter_cff.specs.Read.GlyphTrace.{glyph_trace, library}
use Rattle.subsetter_cff.specs.Read.Opened.{opened}
use Rattle.subsetter_cff.specs.Read.Strings.{FontString, string_at}
use Rattle.subsetter_cff.specs.Write.Laying.Layout.{FontDict, Parts, cff_table}
use Rattle.subsetter_cff.specs.Write.Laying.Fits.{Fits}
use Rattle.subsetter_cff.specs.Write.Laying.ReadsAs.{font_dict_in}
use Rattle.subsetter_cff.specs.Write.Plain.{KeptGlyph, counted_parts, limited, used_numbers, new_font_dicts, new_select, new_parts}
use Rattle.subsetter_cff.proofs.ReadLaws.Results.{bind_ok, same_Ok, passed, number_there}
use Rattle.subsetter_cff.proofs.ReadLaws.SourceBytes.{none_first, source_of}
use Rattle.subsetter_cff.proofs.WriteLaws.GlyphsLaws.KeptSteps.{in_used}
use Rattle.subsetter_cff.proofs.WriteLaws.Headline.{opened_is}
use Rattle.subsetter_cff.proofs.WriteLaws.Keeping.{entry_of_some}
use Rattle.subsetter_cff.proofs.WriteLaws.LayingLaws.Fronts.{laid_out, parts_read}
use Rattle.subsetter_cff.proofs.WriteLaws.LayingLaws.MadeOf.{Limits, bytes_of, parts_steps}
use Rattle.subsetter_cff.proofs.WriteLaws.LayingLaws.Whole.{chars_read, reads_as}
use Rattle.subsetter_cff.proofs.WriteLaws.NewDictsLaws.FontDicts.{none_left_out}
use Rattle.subsetter_cff.proofs.WriteLaws.NewDictsLaws.FontDictSteps.{agrees, dict_at, dict_made}
use Rattle.pdf_widths.specs.Change.{advance_of}
use Rattle.pdf_widths.specs.Defaults.{default_width_operator, defaults_of, nominal_width_operator, whole_or_zero}
use Rattle.pdf_widths.specs.Laws.{HaveWidths}
use Rattle.pdf_widths.specs.Opening.{opening_of}
use Rattle.pdf_widths.specs.Tables.{with_widths}
use Rattle.pdf_widths.specs.declared.defaults.Defaults.{Defaults}
use Rattle.pdf_widths.proofs.Whole.{opened_has}
use Rattle.cff_repeats.specs.Laws.{HasDict, HasFigures, IsFigure, advance_in}
use Rattle.cff_repeats.specs.Repeats.{calls_none, figure, figures_of, is_count, repeated, with_repeats}
use Rattle.cff_repeats.proofs.BlankTraces.{blank_opens, blank_text, blank_traces, wanted_says}
use Rattle.cff_repeats.proofs.Fitting.{are_limited, parts_fit}
use Rattle.cff_repeats.proofs.Glyphs.{again_steps, blank_steps, dict_steps, figure_at, length-figures, old_glyph, selects}
use Rattle.cff_repeats.proofs.Matrices.{matrices_are}

-- ---- the private dict says the same of widths without its subroutines
last_without : (found : Option (List Number)) (operator other : List ℕ) (es : List Entry) → ((o : List ℕ) → bytes_eq o other ≡ true → bytes_eq o operator ≡ false)
    → last_after found operator (without other es) ≡ last_after found operator es
last_without found operator other [] apart = refl
last_without found operator other (e ∷ es) apart =
    elim (cases_Bool (bytes_eq e.operator other)) [
      | inl same ↦ rw (same, apart e.operator same) (last_without found operator other es apart)
      | inr apart_is ↦ rw apart_is (last_without (if bytes_eq e.operator operator then Some e.operands else found) operator other es apart)
    ]

default_apart : (o : List ℕ) → bytes_eq o subroutines_operator ≡ true → bytes_eq o default_width_operator ≡ false
default_apart o h = ap (λ (l : List ℕ). bytes_eq l default_width_operator) ((bytes_eq-Decides o subroutines_operator).0 h)

nominal_apart : (o : List ℕ) → bytes_eq o subroutines_operator ≡ true → bytes_eq o nominal_width_operator ≡ false
nominal_apart o h = ap (λ (l : List ℕ). bytes_eq l nominal_width_operator) ((bytes_eq-Decides o subroutines_operator).0 h)

same_defaults : (p : Private) → defaults_of (own_entries p) ≡ defaults_of p.entries
unfolding defaults_of
same_defaults p =
    ap (λ (x : Option (List Number)). record { default = whole_or_zero x; nominal = whole_or_zero (last_of nominal_width_operator (own_entries p)) }) (last_without None default_width_operator subroutines_operator p.entries default_apart)
    ∙ ap (λ (x : Option (List Number)). record { default = whole_or_zero (last_of default_width_operator p.entries); nominal = whole_or_zero x }) (last_without None nominal_width_operator subroutines_operator p.entries nominal_apart)

-- ---- a glyph
nothing : {A : Type 0} (xs : List A) → length xs ≡ 0 → xs ≡ []
nothing [] e = refl
nothing (x ∷ xs) e = absurd (omega (arith, e))

no_library : (cff : Cff) (private : Private) → calls_none cff private ≡ true → library cff private ≡ record { global = []; local = [] }
no_library cff private h =
    let both = and_parts (length cff.subroutines == 0) (length private.subroutines == 0) h in
    ap (λ (global : List (Option (List ℕ))). record { global = global; local = private.subroutines }) (nothing cff.subroutines (eqb-true (length cff.subroutines) 0 both.0))
    ∙ ap (λ (local : List (Option (List ℕ))). record { global = []; local = local }) (nothing private.subroutines (eqb-true (length private.subroutines) 0 both.1))

traced : (cff : Cff) (glyph tokens depth : ℕ) (bytes : List ℕ) (private : Private) → char_string cff glyph ≡ Some bytes → private_of cff glyph ≡ Some private
    → glyph_trace cff tokens depth glyph ≡ trace (library cff private) tokens depth bytes
unfolding glyph_trace
traced cff glyph tokens depth bytes private e f = rw (e, f) refl

advances : (cff : Cff) (glyph : ℕ) (bytes : List ℕ) (private : Private) → char_string cff glyph ≡ Some bytes → private_of cff glyph ≡ Some private
    → advance_in cff glyph ≡ (opening_of bytes >>= λ o. advance_of (defaults_of private.entries) o.width)
unfolding advance_in
advances cff glyph bytes private e f = rw (e, f) refl

entries_of : (cff : Cff) (glyph : ℕ) (private : Private) → private_of cff glyph ≡ Some private → private_entries cff glyph ≡ Some (own_entries private)
entries_of cff glyph private e = rw e refl

-- the private dict in the new table
abbrev kept_private : Private → Private
kept_private p = record { entries = own_entries p; subroutines = [] }

record IsMade (cff new : Cff) (f : Option ℕ) (k : KeptGlyph) (i : ℕ) : Type 0 where
  figure_is : figure cff f ≡ Ok k
  dict : HasDict cff new (old_glyph f) i
  text : char_string new i ≡ Some k.bytes
  private : Private
  private_is : private_of cff (old_glyph f) ≡ Some private
  new_private : private_of new i ≡ Some (kept_private private)
  no_subroutines : new.subroutines ≡ []

is_figure : (cff new : Cff) (f : Option ℕ) (k : KeptGlyph) (i : ℕ) → IsMade cff new f k i → IsFigure cff new f i
is_figure cff new (Some glyph) k i m =
    let s = again_steps cff glyph k m.figure_is in
    let same : s.dict.private ≡ m.private = same_Some _ _ (sym s.dict.private_is ∙ m.private_is) in
    let old_library : library cff m.private ≡ record { global = []; local = [] } = ap (library cff) (sym same) ∙ no_library cff s.dict.private s.none in
    let new_library : library new (kept_private m.private) ≡ record { global = []; local = [] } = ap (λ (global : List (Option (List ℕ))). record { global = global; local = [] }) m.no_subroutines in
    record {
      dict = m.dict;
      charstring = record { what = k.bytes; source_is = s.charstring_is; copy_is = m.text };
      drawing = λ tokens depth.
          traced new i tokens depth k.bytes (kept_private m.private) m.text m.new_private
          ∙ ap (λ (l : Library). trace l tokens depth k.bytes) (new_library ∙ sym old_library)
          ∙ sym (traced cff glyph tokens depth k.bytes m.private s.charstring_is m.private_is);
      advance =
          advances new i k.bytes (kept_private m.private) m.text m.new_private
          ∙ ap (λ (d : Defaults). opening_of k.bytes >>= λ o. advance_of d o.width) (same_defaults m.private)
          ∙ sym (advances cff glyph k.bytes m.private s.charstring_is m.private_is);
    }
is_figure cff new None k i m =
    let s = blank_steps cff k m.figure_is in
    let same : s.dict.private ≡ m.private = same_Some _ _ (sym s.dict.private_is ∙ m.private_is) in
    let says = wanted_says (defaults_of s.dict.private.entries) s.width s.width_is in
    let there : char_string new i ≡ Some (blank_text s.width) = m.text ∙ ap Some s.bytes_are in
    record {
      dict = m.dict;
      width = s.width;
      drawing = λ tokens depth enough deep.
          traced new i tokens depth (blank_text s.width) (kept_private m.private) there m.new_private
          ∙ blank_traces (library new (kept_private m.private)) depth s.width tokens enough deep says.fits;
      advance =
          advances new i (blank_text s.width) (kept_private m.private) there m.new_private
          ∙ ap (λ o. o >>= λ x. advance_of (defaults_of (own_entries m.private)) x.width) (blank_opens s.width says.fits)
          ∙ ap (λ (d : Defaults). advance_of d s.width) (same_defaults m.private ∙ ap (λ (p : Private). defaults_of p.entries) (sym same))
          ∙ says.says;
    }

-- ---- the table
module _ (bytes : List ℕ) (cff : Cff) (source : cff_parts bytes ≡ Some cff) (figures : List (Option ℕ)) (some : 1 ≤ length figures) (few : length figures ≤ 65535)
    (kept : List KeptGlyph) (kept_are : figures_of cff figures ≡ Ok kept) (copyright notice font_name : Option FontString) (dicts : List FontDict) (dicts_are : new_font_dicts cff (used_numbers kept) ≡ Ok dicts)
    (copyright_is : string_at cff.strings copyright_operator cff.top ≡ Some copyright) (notice_is : string_at cff.strings notice_operator cff.top ≡ Some notice)
    (font_name_is : string_at cff.strings font_name_operator cff.top ≡ Some font_name) where
  abbrev parts : Parts
  parts = new_parts cff copyright notice font_name dicts (new_select cff (used_numbers kept) kept) kept

  module _ (limits : Limits parts) where
    count : length kept ≡ length figures
    count = length-figures cff figures kept kept_are

    texts_count : length parts.char_strings ≡ length figures
    texts_count = length-map kept (λ (k : KeptGlyph). k.bytes) ∙ count

    fits : Fits parts
    fits = parts_fit bytes cff kept copyright notice font_name dicts (source_of bytes cff source) (omega (arith, some, count)) (omega (arith, few, count)) copyright_is notice_is font_name_is dicts_are limits

    glyph_is : (i : ℕ) (f : Option ℕ) → slice_get figures i ≡ Some f → IsFigure cff (laid_out parts) f i
    glyph_is i f at =
        let one = figure_at cff figures kept i f kept_are at in
        let steps = dict_steps cff f one.one one.made in
        let used = in_used kept i one.one one.at in
        let there = dict_at cff (used_numbers kept) dicts used.at one.one.number dicts_are (number_there (used_numbers kept) one.one.number used.at used.is) in
        let made = dict_made cff one.one.number there.one there.made in
        let agree = agrees cff (old_glyph f) one.one.number made.dict steps.number_is made.dict_is in
        let same : steps.private ≡ made.dict.private = same_Some _ _ (sym steps.private_is ∙ agree.private_is) in
        let read = (reads_as parts fits).glyphs i (omega (arith, slice_get_within figures i f at, texts_count)) in
        let dict_there : font_dict_in parts i ≡ Some there.one = ap (slice_get dicts) (selects cff figures kept i used.at one.one kept_are one.at used.is) ∙ there.at in
        let same_dict : read.font_dict ≡ there.one = same_Some _ _ (sym read.font_dict_is ∙ dict_there) in
        let own : read.font_dict.private ≡ own_entries steps.private = ap (λ (d : FontDict). d.private) same_dict ∙ made.private ∙ ap own_entries (sym same) in
        let new_private : private_of (laid_out parts) i ≡ Some (kept_private steps.private) = read.private ∙ ap (λ (es : List Entry). Some (record { entries = es; subroutines = [] })) own in
        is_figure cff (laid_out parts) f one.one i (record {
          figure_is = one.made;
          dict = record {
            cid = read.cid;
            private = record {
              what = own_entries steps.private;
              source_is = entries_of cff (old_glyph f) steps.private steps.private_is;
              copy_is = entries_of (laid_out parts) i (kept_private steps.private) new_private
                  ∙ ap Some (none_left_out subroutines_operator (own_entries steps.private) (none_first subroutines_operator steps.private.entries));
            };
            matrices_kept = record {
              what = (map value parts.matrix, map value there.one.matrix);
              source_is = matrices_are cff (old_glyph f) made.dict.own parts.matrix there.one.matrix agree.own_is refl made.matrix;
              copy_is = read.matrices_are ∙ ap (λ (d : FontDict). Some (map value parts.matrix, map value d.matrix)) same_dict;
            };
            font_dict_name_kept = record { what = there.one.name; source_is = agree.name_is ∙ made.name; copy_is = read.font_dict_name_is ∙ ap (λ (d : FontDict). Some d.name) same_dict };
          };
          text = rw (chars_read parts fits) (entry_of_some parts.char_strings i one.one.bytes (slice_get-map (λ (k : KeptGlyph). k.bytes) kept i ∙ bytes_of one.one (slice_get kept i) one.at));
          private = steps.private;
          private_is = steps.private_is;
          new_private = new_private;
          no_subroutines = (reads_as parts fits).no_subroutines;
        })

    pub has_figures : HasFigures figures bytes (cff_table parts)
    has_figures =
        let reads = reads_as parts fits in
        record {
          one = cff;
          one_is = source;
          other = laid_out parts;
          other_is = parts_read parts fits;
          charstrings = map Some parts.char_strings;
          charstrings_are = reads.charstrings;
          count = length-map parts.char_strings Some ∙ texts_count;
          glyphs = λ i f at. glyph_is i f at;
          keyed = reads.keyed;
          no_subroutines = reads.no_subroutines;
          names = reads.names;
          copyright = record { what = copyright; source_is = copyright_is; copy_is = reads.copyright };
          notice = record { what = notice; source_is = notice_is; copy_is = reads.notice };
          font_name = record { what = font_name; source_is = font_name_is; copy_is = reads.font_name };
          box = reads.box;
        }

is_written : (p q r : Parts) (out : List ℕ) → p ≡ q → q ≡ r → cff_table r ≡ out → cff_table p ≡ out
is_written p q r out a b c = ap cff_table (a ∙ b) ∙ c

-- what the new table is laid out of
record IsLaid (bytes : List ℕ) (figures : List (Option ℕ)) (out : List ℕ) : Type 0 where
  made : Parts
  fits : Fits made
  table : cff_table made ≡ out
  has : HasFigures figures bytes (cff_table made)

laid : (bytes : List ℕ) (figures : List (Option ℕ)) (out : List ℕ) → with_repeats bytes figures ≡ Ok out → IsLaid bytes figures out
unfolding with_repeats repeated
laid bytes figures out e =
    let c = passed (is_count (length figures)) OverflowError _ out e in
    let counts = and_parts (nat_lt 0 (length figures)) (nat_lt (length figures) 65536) c.0 in
    let a = bind_ok (opened bytes) _ out c.1 in
    let k = bind_ok (figures_of a.0 figures) _ out a.1.1 in
    let n = bind_ok (counted_parts a.0 k.0) _ out k.1.1 in
    let l = bind_ok (limited n.0) _ out n.1.1 in
    let limited_are = are_limited a.0 k.0 n.0 l.0 n.1.0 l.1.0 in
    let s = parts_steps a.0 k.0 n.0 limited_are.made in
    let source = opened_is bytes a.0 a.1.0 in
    let some = ltb-true 0 (length figures) counts.0 in
    let few : length figures ≤ 65535 = let lt = ltb-true (length figures) 65536 counts.1 in omega (arith, lt) in
    let limits = subst Limits (sym s.parts_are) limited_are.limits in
    record {
      made = parts bytes a.0 source figures some few k.0 k.1.0 s.copyright s.notice s.font_name s.dicts s.dicts_are s.copyright_is s.notice_is s.font_name_is;
      fits = fits bytes a.0 source figures some few k.0 k.1.0 s.copyright s.notice s.font_name s.dicts s.dicts_are s.copyright_is s.notice_is s.font_name_is limits;
      table = is_written _ n.0 l.0 out s.parts_are limited_are.same (same_Ok (cff_table l.0) out l.1.1);
      has = has_figures bytes a.0 source figures some few k.0 k.1.0 s.copyright s.notice s.font_name s.dicts s.dicts_are s.copyright_is s.notice_is s.font_name_is limits;
    }

pub repeats_have : (bytes : List ℕ) (figures : List (Option ℕ)) (out : List ℕ) → with_repeats bytes figures ≡ Ok out → HasFigures figures bytes out
repeats_have bytes figures out e = let l = laid bytes figures out e in subst (HasFigures figures bytes) l.table l.has

-- with other widths it is the same but for these
pub repeats_change : (bytes : List ℕ) (figures : List (Option ℕ)) (advances out new : List ℕ) → with_repeats bytes figures ≡ Ok out → with_widths out advances ≡ Some new → HaveWidths advances out new
repeats_change bytes figures advances out new e w =
    let l = laid bytes figures out e in
    subst (λ (o : List ℕ). HaveWidths advances o new) l.table (opened_has l.made advances new l.fits (ap (λ (o : List ℕ). with_widths o advances) l.table ∙ w))

pub given_have : (bytes : List ℕ) (figures : List (Option ℕ)) {X : Type 0} (view : X → List ℕ) (r : Result X Error) → Gives view r (with_repeats bytes figures) → IfOk r (λ x. HasFigures figures bytes (view x))
given_have bytes figures view (Ok x) h = repeats_have bytes figures (view x) h
given_have bytes figures view (Err e) h = tt

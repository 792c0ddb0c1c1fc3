-- What was made of a source, laid out and read afresh, is a subset of it.
use Rattle.std.proofs.Common.{◌≡◌, ℕ, ◌≤◌, List, [], ◌∷◌, map, Option, Some, None, refl, ap, arith, inl, inr, ◌∙◌, sym}
use Rattle.std.specs.Prelude.{ℤ, pos, negsuc, slice_get, slice_index, unwrap_or}
use Rattle.std.specs.Option.{option_map}
use Rattle.std.proofs.lemmas.Bool.{cases_lt, lt-ltb, le-ltb}
use Rattle.std.proofs.lemmas.Option.{none-some, same_Some, slice_get-map}
use Rattle.std.proofs.lemmas.List.{length-map}
use Rattle.subsetter_cffdata.specs.Reals.Decimals.{Decimal}
use Rattle.subsetter_cffdata.specs.Numerals.Numbers.{Number, Real, in_i32}
use Rattle.subsetter_cffdata.specs.Numerals.Values.{value, thousandfold, thousand, by_1000}
use Rattle.subsetter_cffdata.proofs.Options.{step}
use Rattle.subsetter_type2.specs.Runs.Machine.{Trace, trace}
use Rattle.subsetter_type2.specs.Subroutines.{entry_at}
use Rattle.subsetter_type2.proofs.TraceLaws.{keeps_trace}
use Rattle.subsetter_cff.specs.Read.Entries.Lookup.{last_of}
use Rattle.subsetter_cff.specs.Read.Cff.{Cff, char_string}
use Rattle.subsetter_cff.specs.Read.FdArray.Private.{Private, private_of, private_entries, own_entries}
use Rattle.subsetter_cff.specs.Read.Entries.Matrices.{thousandth_matrix, magnified, matrix_pair, own_matrix, matrices}
use Rattle.subsetter_cff.specs.Read.GlyphTrace.{library, glyph_trace}
use Rattle.subsetter_cff.specs.Read.Entries.Operators.{subroutines_operator, font_matrix_operator}
use Rattle.subsetter_cff.specs.Write.Laying.Layout.{Parts, FontDict}
use Rattle.subsetter_cff.specs.Write.Laying.ReadsAs.{GlyphReadsAs, ReadsAs}
use Rattle.subsetter_cff.specs.Write.Subset.{KeepsGlyph, IsCffSubset}
use Rattle.subsetter_cff.specs.Write.Made.{new_matrix, MadeGlyph, IsMade, MadeIsSubset}
use Rattle.subsetter_cff.proofs.WriteLaws.NewDictsLaws.FontDicts.{none_left_out}
use Rattle.subsetter_cff.proofs.WriteLaws.LayingLaws.Whole.{laid_out_is_read}

-- ---- matrices a thousand times as great
pub in_i32_is : (z y : ℤ) → in_i32 z ≡ Some y → y ≡ z
unfolding in_i32
in_i32_is (pos n) y e =
    elim (cases_lt n 2147483648) [
      | inl lt ↦ sym (same_Some _ _ (rw (lt-ltb n 2147483648 lt) at e))
      | inr le ↦ absurd (none-some y (rw (le-ltb n 2147483648 le) at e))
    ]
in_i32_is (negsuc n) y e =
    elim (cases_lt n 2147483648) [
      | inl lt ↦ sym (same_Some _ _ (rw (lt-ltb n 2147483648 lt) at e))
      | inr le ↦ absurd (none-some y (rw (le-ltb n 2147483648 le) at e))
    ]

held_is : (d : Decimal) (x : Number) (o : Option ℤ) → ((y : ℤ) → o ≡ Some y → y ≡ d.power)
    → option_map Real (option_map (λ power. record { mantissa = d.mantissa; power = power }) o) ≡ Some x → value x ≡ d
held_is d x None same e = absurd (none-some x e)
held_is d x (Some y) same e =
    ap value (sym (same_Some _ _ e)) ∙ ap (λ (p : ℤ). record { mantissa = d.mantissa; power = p }) (same y refl)

thousand_is : (x y : Number) → thousand x ≡ Some y → value y ≡ thousandfold (value x)
unfolding thousand
thousand_is x y e = held_is (thousandfold (value x)) y (in_i32 (thousandfold (value x)).power) (λ z. in_i32_is (thousandfold (value x)).power z) e

four : (a b c d a' b' c' d' : Decimal) (rest : List Decimal) → a' ≡ a → b' ≡ b → c' ≡ c → d' ≡ d → a ∷ b ∷ c ∷ d ∷ rest ≡ a' ∷ b' ∷ c' ∷ d' ∷ rest
four a b c d a' b' c' d' rest e f g h = rw (e, f, g, h) refl

by_1000_is : (m n : List Number) → by_1000 m ≡ Some n → magnified (map value m) ≡ map value n
unfolding by_1000
by_1000_is (a ∷ b ∷ c ∷ d ∷ e ∷ f ∷ []) n h =
    let s1 = step (thousand a) _ n h in
    let s2 = step (thousand b) _ n s1.1.1 in
    let s3 = step (thousand c) _ n s2.1.1 in
    let s4 = step (thousand d) _ n s3.1.1 in
    four (thousandfold (value a)) (thousandfold (value b)) (thousandfold (value c)) (thousandfold (value d)) (value s1.0) (value s2.0) (value s3.0) (value s4.0) (value e ∷ value f ∷ [])
    (thousand_is a s1.0 s1.1.0) (thousand_is b s2.0 s2.1.0) (thousand_is c s3.0 s3.1.0) (thousand_is d s4.0 s4.1.0) ∙ ap (map value) (same_Some _ _ s4.1.1)
by_1000_is [] n h = absurd (none-some n h)
by_1000_is (a ∷ []) n h = absurd (none-some n h)
by_1000_is (a ∷ b ∷ []) n h = absurd (none-some n h)
by_1000_is (a ∷ b ∷ c ∷ []) n h = absurd (none-some n h)
by_1000_is (a ∷ b ∷ c ∷ d ∷ []) n h = absurd (none-some n h)
by_1000_is (a ∷ b ∷ c ∷ d ∷ e ∷ []) n h = absurd (none-some n h)
by_1000_is (a ∷ b ∷ c ∷ d ∷ e ∷ f ∷ g ∷ m) n h = absurd (none-some n h)

pair_is : (top own : Option (List Number)) (m n : List Number) → m ≡ unwrap_or top thousandth_matrix → new_matrix top own ≡ Some n → matrix_pair top own ≡ (map value m, map value n)
pair_is (Some t) (Some o) m n e h = rw (e, same_Some _ _ h) refl
pair_is (Some t) None m n e h = rw (e, ← same_Some _ _ h) refl
pair_is None None m n e h = rw (e, ← same_Some _ _ h) refl
pair_is None (Some o) m n e h = rw (e, by_1000_is o n h) refl

matrices_kept : (source : Cff) (old : ℕ) (own : Option (List Number)) (m n : List Number) → own_matrix source old ≡ Some own → m ≡ unwrap_or (last_of font_matrix_operator source.top) thousandth_matrix
    → new_matrix (last_of font_matrix_operator source.top) own ≡ Some n → matrices source old ≡ Some (map value m, map value n)
unfolding matrices
matrices_kept source old own m n is e h = rw is (ap Some (pair_is (last_of font_matrix_operator source.top) own m n e h))

-- ---- a glyph
pub entry_of_some : (xs : List (List ℕ)) (i : ℕ) (x : List ℕ) → slice_get xs i ≡ Some x → entry_at (map Some xs) i ≡ Some x
entry_of_some xs i x at = rw (slice_get-map Some xs i, at) refl

traced : (cff : Cff) (tokens depth glyph : ℕ) (bytes : List ℕ) (private : Private) (u : Trace) → char_string cff glyph ≡ Some bytes → private_of cff glyph ≡ Some private
    → trace (library cff private) tokens depth bytes ≡ Some u → glyph_trace cff tokens depth glyph ≡ Some u
unfolding glyph_trace
traced cff tokens depth glyph bytes private u e f h = rw (e, f) h

entries_of : (cff : Cff) (glyph : ℕ) (private : Private) → private_of cff glyph ≡ Some private → private_entries cff glyph ≡ Some (own_entries private)
entries_of cff glyph private e = rw e refl

module _ (source out : Cff) (tokens depth : ℕ) (p : Parts) (deep : 1 ≤ depth) (reads : ReadsAs p out) (matrix : p.matrix ≡ unwrap_or (last_of font_matrix_operator source.top) thousandth_matrix)
    (old i : ℕ) (made : MadeGlyph source tokens depth old p i) (read : GlyphReadsAs p out i) where
  same_dict : read.font_dict ≡ made.font_dict
  same_dict = same_Some _ _ (sym read.font_dict_is ∙ made.font_dict_is)

  abbrev new_private : Private
  new_private = record { entries = read.font_dict.private; subroutines = [] }

  char_string_is : char_string out i ≡ Some made.bytes
  char_string_is = rw reads.charstrings (entry_of_some p.char_strings i made.bytes made.bytes_are)

  same_entries : own_entries new_private ≡ own_entries made.private_dict
  same_entries = none_left_out subroutines_operator read.font_dict.private read.leads_nowhere ∙ ap (λ (f : FontDict). f.private) same_dict ∙ made.private

  pub keeps_glyph : KeepsGlyph source out tokens depth old i
  keeps_glyph =
      let k = keeps_trace (library source made.private_dict) (library out new_private) tokens depth depth made.charstring made.bytes deep made.flat in
      record {
        drawing = record {
          what = k.0;
          source_is = traced source tokens depth old made.charstring made.private_dict k.0 made.charstring_is made.private_dict_is k.1;
          copy_is = traced out tokens depth i made.bytes new_private k.0 char_string_is read.private k.2;
        };
        flat_bytes = char_string_is ∙ ap Some k.3;
        cid = read.cid;
        private = record { what = own_entries made.private_dict; source_is = entries_of source old made.private_dict made.private_dict_is; copy_is = entries_of out i new_private read.private ∙ ap Some same_entries };
        private_dict = new_private;
        private_dict_is = read.private;
        no_subroutines = read.leads_nowhere;
        matrices_kept = record {
          what = (map value p.matrix, map value made.font_dict.matrix);
          source_is = matrices_kept source old made.own p.matrix made.font_dict.matrix made.own_is matrix made.matrix;
          copy_is = read.matrices_are ∙ ap (λ (f : FontDict). Some (map value p.matrix, map value f.matrix)) same_dict;
        };
        font_dict_name_kept = record { what = made.font_dict.name; source_is = made.name; copy_is = read.font_dict_name_is ∙ ap (λ (f : FontDict). Some f.name) same_dict };
      }

-- ---- the table
keeps : (source out : Cff) (tokens depth : ℕ) (glyphs : List ℕ) (p : Parts) → 1 ≤ depth → IsMade source tokens depth glyphs p → ReadsAs p out → IsCffSubset source tokens depth glyphs out
keeps source out tokens depth glyphs p deep made reads = record {
  charstrings = map Some p.char_strings;
  charstrings_are = reads.charstrings;
  count = length-map p.char_strings Some ∙ made.count;
  kept = λ i lt. keeps_glyph source out tokens depth p deep reads made.matrix (slice_index glyphs i) i (made.made i lt) (reads.glyphs i (omega (arith, lt, made.count)));
  keyed = reads.keyed;
  no_subroutines = reads.no_subroutines;
  names = reads.names ∙ made.names;
  copyright = record { what = p.copyright; source_is = made.copyright; copy_is = reads.copyright };
  notice = record { what = p.notice; source_is = made.notice; copy_is = reads.notice };
  font_name = record { what = p.font_name; source_is = made.font_name; copy_is = reads.font_name };
  box = reads.box ∙ ap Some made.box;
}

pub made_is_subset : MadeIsSubset
made_is_subset source tokens depth glyphs p deep made fits =
    let read = laid_out_is_read p fits in
    (read.cff, (read.read, keeps source read.cff tokens depth glyphs p deep made read.reads))

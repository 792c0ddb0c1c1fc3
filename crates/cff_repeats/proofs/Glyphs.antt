-- The glyphs of the new table, one by one.
use Rattle.std.proofs.Common.{◌≡◌, ℕ, zero, suc, true, false, List, [], ◌∷◌, ◌++◌, map, length, Option, Some, None, refl, ap, inl, inr, ◌∙◌, sym, append_assoc}
use Rattle.std.specs.Prelude.{slice_get, unwrap_or, Result, Ok, Err}
use Rattle.std.specs.Option.{ok_or, option_map}
use Rattle.std.proofs.lemmas.Bool.{cases_Bool}
use Rattle.std.proofs.lemmas.Option.{none-some, same_Some, slice_get-map, get_or_from_slice_get}
use Rattle.subsetter_base.specs.Bytes.{◌>>=◌}
use Rattle.subsetter_base.specs.Gives.{Fails}
use Rattle.subsetter_base.specs.Indexes.{index_of}
use Rattle.subsetter_base.specs.declared.error.Error.{Error}
use Rattle.subsetter_base.specs.declared.error.Error.TheVariants.{UnknownKind, MalformedFont, Unimplemented, SubsetError, OverflowError, CFFError, OutOfMemory}
use Rattle.subsetter_cffdata.specs.declared.numerals.charstring_number.CharStringNumber.{CharStringNumber}
use Rattle.subsetter_cff.specs.Read.Cff.{Cff, char_string, is_cid_keyed}
use Rattle.subsetter_cff.specs.Read.FdArray.Private.{Private, private_of}
use Rattle.subsetter_cff.specs.Write.Glyphs.KeptView.{with_kept}
use Rattle.subsetter_cff.specs.Write.Laying.ReadsAs.{number_in}
use Rattle.subsetter_cff.specs.Write.Plain.{KeptGlyph, source_number, used_numbers, new_select}
use Rattle.subsetter_cff.proofs.ReadLaws.Failing.{fails_on}
use Rattle.subsetter_cff.proofs.ReadLaws.Results.{bind_ok, same_Ok, some_of, passed}
use Rattle.subsetter_cff.proofs.WriteLaws.GlyphsLaws.KeptSteps.{AllZero, zero_first}
use Rattle.pdf_widths.specs.Change.{text, wanted}
use Rattle.pdf_widths.specs.Defaults.{defaults_of}
use Rattle.cff_repeats.specs.Repeats.{again, blank, calls_none, endchar, figure, figures_of}

-- ---- one more
pub fails_of : {Y : Type 0} (e : Error) (r : Result Y Error) → r ≡ Err e → Fails e r
fails_of UnknownKind r h = h
fails_of MalformedFont r h = h
fails_of Unimplemented r h = h
fails_of SubsetError r h = h
fails_of OverflowError r h = h
fails_of CFFError r h = h
fails_of OutOfMemory r h = tt

moved : (front : List KeptGlyph) (g : KeptGlyph) (r : Result (List KeptGlyph) Error) → with_kept front (r >>= λ rest. Ok (g ∷ rest)) ≡ with_kept (front ++ g ∷ []) r
moved front g (Ok xs) = ap (λ (l : List KeptGlyph). Ok l) (sym (append_assoc front (g ∷ []) xs))
moved front g (Err e) = refl

module _ (cff : Cff) (f : Option ℕ) (fs : List (Option ℕ)) (front : List KeptGlyph) (whole : Result (List KeptGlyph) Error) (same : with_kept front (figures_of cff (f ∷ fs)) ≡ whole) where
  pub next_kept : (one : KeptGlyph) → figure cff f ≡ Ok one → with_kept (front ++ one ∷ []) (figures_of cff fs) ≡ whole
  next_kept one e =
      sym (moved front one (figures_of cff fs))
      ∙ ap (λ (r : Result KeptGlyph Error). with_kept front (r >>= λ first. figures_of cff fs >>= λ rest. Ok (first ∷ rest))) (sym e) ∙ same

  pub next_fails : (e : Error) → Fails e (figure cff f) → Fails e whole
  next_fails e h =
      fails_on (figures_of cff (f ∷ fs)) (λ more. Ok (front ++ more)) whole e same
      (fails_on (figure cff f) (λ first. figures_of cff fs >>= λ rest. Ok (first ∷ rest)) (figures_of cff (f ∷ fs)) e refl h)

-- ---- what the steps answered
-- of the font dict of an old glyph
pub record HasNumber (cff : Cff) (glyph : ℕ) (k : KeptGlyph) : Type 0 where
  pub number_is : source_number cff glyph ≡ Some k.number
  pub private : Private
  pub private_is : private_of cff glyph ≡ Some private

pub record AgainSteps (cff : Cff) (glyph : ℕ) (k : KeptGlyph) : Type 0 where
  pub dict : HasNumber cff glyph k
  pub charstring_is : char_string cff glyph ≡ Some k.bytes
  pub none : calls_none cff dict.private ≡ true

pub again_steps : (cff : Cff) (glyph : ℕ) (k : KeptGlyph) → again cff glyph ≡ Ok k → AgainSteps cff glyph k
unfolding again
again_steps cff glyph k e =
    let a = bind_ok (ok_or (source_number cff glyph) MalformedFont) _ k e in
    let b = bind_ok (ok_or (private_of cff glyph) MalformedFont) _ k a.1.1 in
    let c = bind_ok (ok_or (char_string cff glyph) MalformedFont) _ k b.1.1 in
    let d = passed (calls_none cff b.0) Unimplemented _ k c.1.1 in
    let same = same_Ok _ _ d.1 in
    record {
      dict = record {
        number_is = some_of (source_number cff glyph) MalformedFont a.0 a.1.0 ∙ ap (λ (x : KeptGlyph). Some x.number) same;
        private = b.0;
        private_is = some_of (private_of cff glyph) MalformedFont b.0 b.1.0;
      };
      charstring_is = some_of (char_string cff glyph) MalformedFont c.0 c.1.0 ∙ ap (λ (x : KeptGlyph). Some x.bytes) same;
      none = d.0;
    }

pub record BlankSteps (cff : Cff) (k : KeptGlyph) : Type 0 where
  pub dict : HasNumber cff 0 k
  pub width : Option CharStringNumber
  pub width_is : wanted (defaults_of dict.private.entries) 0 ≡ Some width
  pub bytes_are : k.bytes ≡ text (record { width = width; body = endchar ∷ [] })

pub blank_steps : (cff : Cff) (k : KeptGlyph) → blank cff ≡ Ok k → BlankSteps cff k
unfolding blank
blank_steps cff k e =
    let a = bind_ok (ok_or (source_number cff 0) MalformedFont) _ k e in
    let b = bind_ok (ok_or (private_of cff 0) MalformedFont) _ k a.1.1 in
    let c = bind_ok (ok_or (wanted (defaults_of b.0.entries) 0) OverflowError) _ k b.1.1 in
    let same = same_Ok _ _ c.1.1 in
    record {
      dict = record {
        number_is = some_of (source_number cff 0) MalformedFont a.0 a.1.0 ∙ ap (λ (x : KeptGlyph). Some x.number) same;
        private = b.0;
        private_is = some_of (private_of cff 0) MalformedFont b.0 b.1.0;
      };
      width = c.0;
      width_is = some_of (wanted (defaults_of b.0.entries) 0) OverflowError c.0 c.1.0;
      bytes_are = ap (λ (x : KeptGlyph). x.bytes) (sym same);
    }

-- the old glyph whose font dict it has
abbrev pub old_glyph : Option ℕ → ℕ
old_glyph None = 0
old_glyph (Some glyph) = glyph

pub dict_steps : (cff : Cff) (f : Option ℕ) (k : KeptGlyph) → figure cff f ≡ Ok k → HasNumber cff (old_glyph f) k
dict_steps cff None k e = (blank_steps cff k e).dict
dict_steps cff (Some glyph) k e = (again_steps cff glyph k e).dict

-- ---- all of them
figure_steps : (cff : Cff) (f : Option ℕ) (fs : List (Option ℕ)) (kept : List KeptGlyph) → figures_of cff (f ∷ fs) ≡ Ok kept
    → (first : KeptGlyph) × ((figure cff f ≡ Ok first) × ((rest : List KeptGlyph) × ((figures_of cff fs ≡ Ok rest) × (first ∷ rest ≡ kept))))
figure_steps cff f fs kept e =
    let s = bind_ok (figure cff f) (λ first. figures_of cff fs >>= λ rest. Ok (first ∷ rest)) kept e in
    let t = bind_ok (figures_of cff fs) (λ rest. Ok (s.0 ∷ rest)) kept s.1.1 in
    (s.0, (s.1.0, (t.0, (t.1.0, same_Ok _ _ t.1.1))))

pub length-figures : (cff : Cff) (figures : List (Option ℕ)) (kept : List KeptGlyph) → figures_of cff figures ≡ Ok kept → length kept ≡ length figures
length-figures cff [] kept e = ap length (sym (same_Ok _ _ e))
length-figures cff (f ∷ fs) kept e =
    let s = figure_steps cff f fs kept e in
    ap length (sym s.1.1.1.1) ∙ ap suc (length-figures cff fs s.1.1.0 s.1.1.1.0)

pub record FigureAt (cff : Cff) (f : Option ℕ) (kept : List KeptGlyph) (i : ℕ) : Type 0 where
  pub one : KeptGlyph
  pub at : slice_get kept i ≡ Some one
  pub made : figure cff f ≡ Ok one

pub figure_at : (cff : Cff) (figures : List (Option ℕ)) (kept : List KeptGlyph) (i : ℕ) (f : Option ℕ) → figures_of cff figures ≡ Ok kept → slice_get figures i ≡ Some f → FigureAt cff f kept i
figure_at cff [] kept i f e at = absurd (none-some f at)
figure_at cff (g ∷ gs) kept zero f e at =
    let s = figure_steps cff g gs kept e in
    record { one = s.0; at = ap (λ (ks : List KeptGlyph). slice_get ks 0) (sym s.1.1.1.1); made = ap (figure cff) (sym (same_Some _ _ at)) ∙ s.1.0 }
figure_at cff (g ∷ gs) kept (suc i) f e at =
    let s = figure_steps cff g gs kept e in
    let more = figure_at cff gs s.1.1.0 i f s.1.1.1.0 at in
    record { one = more.one; at = ap (λ (ks : List KeptGlyph). slice_get ks (suc i)) (sym s.1.1.1.1) ∙ more.at; made = more.made }

-- ---- the new number of a glyph's font dict
zeros : (cff : Cff) (figures : List (Option ℕ)) (kept : List KeptGlyph) → is_cid_keyed cff ≡ false → figures_of cff figures ≡ Ok kept → AllZero kept
zeros cff [] kept sid e = rw (← same_Ok _ _ e) tt
zeros cff (f ∷ fs) kept sid e =
    let s = figure_steps cff f fs kept e in
    let first = dict_steps cff f s.0 s.1.0 in
    rw (← s.1.1.1.1) (sym (same_Some _ _ (rw sid at first.number_is)), zeros cff fs s.1.1.0 sid s.1.1.1.0)

new_number : (used : List ℕ) (k : KeptGlyph) (j : ℕ) (o : Option KeptGlyph) → o ≡ Some k → index_of used k.number ≡ Some j → option_map (λ (l : KeptGlyph). unwrap_or (index_of used l.number) 0) o ≡ Some j
new_number used k j o e is = rw (e, is) refl

pub selects : (cff : Cff) (figures : List (Option ℕ)) (kept : List KeptGlyph) (i j : ℕ) (k : KeptGlyph) → figures_of cff figures ≡ Ok kept → slice_get kept i ≡ Some k
    → index_of (used_numbers kept) k.number ≡ Some j → number_in (new_select cff (used_numbers kept) kept) i ≡ j
selects cff figures kept i j k e at is =
    elim (cases_Bool (is_cid_keyed cff)) [
      | inl cid ↦ rw cid (get_or_from_slice_get (map (λ (l : KeptGlyph). unwrap_or (index_of (used_numbers kept) l.number) 0) kept) i j 0
          (slice_get-map (λ (l : KeptGlyph). unwrap_or (index_of (used_numbers kept) l.number) 0) kept i ∙ new_number (used_numbers kept) k j (slice_get kept i) at is))
      | inr sid ↦ rw sid (same_Some _ _ (sym (zero_first k kept i (zeros cff figures kept sid e) at) ∙ is))
    ]

-- A used font dict of a table that was opened can't be made just where its name has no readable string.
use Rattle.std.proofs.Common.{◌≡◌, ◌≢◌, ℕ, true, false, List, [], ◌∷◌, length, Option, Some, None, refl, ap, arith, inl, inr, ◌∙◌, sym, subst}
use Rattle.std.specs.Prelude.{slice_get, Contains, Ok, Err}
use Rattle.std.specs.Option.{ok_or, option_and_then, option_map}
use Rattle.std.specs.List.{AllByRecursion}
use Rattle.std.proofs.lemmas.Bool.{cases_Bool, eqb-true}
use Rattle.std.proofs.lemmas.Option.{none-some, same_Some}
use Rattle.subsetter_base.specs.Bytes.{◌>>=◌}
use Rattle.subsetter_base.specs.declared.error.Error.{Error}
use Rattle.subsetter_base.specs.declared.error.Error.TheVariants.{MalformedFont, SubsetError, OverflowError}
use Rattle.subsetter_cffdata.specs.Numerals.Numbers.{Number}
use Rattle.subsetter_cffdata.specs.Numerals.Values.{by_1000}
use Rattle.subsetter_cffdata.specs.Dicts.Dict.{Entry}
use Rattle.subsetter_cff.specs.Read.Entries.Lookup.{last_of}
use Rattle.subsetter_cff.specs.Read.Cff.{Cff, is_cid_keyed}
use Rattle.subsetter_cff.specs.Read.FdArray.FontDicts.{font_dicts, font_dict_number, font_dict_of}
use Rattle.subsetter_cff.specs.Read.FdArray.Private.{Private, private_at, private_of}
use Rattle.subsetter_cff.specs.Read.Entries.Matrices.{own_matrix, font_dict_name}
use Rattle.subsetter_cff.specs.Read.Strings.{string_at}
use Rattle.subsetter_cff.specs.Read.Entries.Operators.{font_matrix_operator, font_name_operator}
use Rattle.subsetter_cff.specs.Write.Made.{new_matrix}
use Rattle.subsetter_cff.specs.Read.Entries.OperandDemands.{so_many, font_dict_demands}
use Rattle.subsetter_cff.specs.Write.Plain.{source_number, source_dict, new_font_dict, new_font_dicts}
use Rattle.subsetter_cff.specs.Read.Fault.{HasGlyphFault, bad_name}
use Rattle.subsetter_cff.proofs.ReadLaws.Results.{some_of}
use Rattle.subsetter_cff.proofs.ReadLaws.Refusals.{bind_err, none_of}
use Rattle.subsetter_cffdata.proofs.Options.{step}
use Rattle.subsetter_cff.proofs.WriteLaws.NewDictsLaws.FontDicts.{all_at}
use Rattle.subsetter_cff.proofs.ReadLaws.SourceBytes.{Fitting, last_of_fits, font_dicts_fit}
use Rattle.subsetter_cff.proofs.ReadLaws.Soundness.{TopIsSound}
use Rattle.subsetter_cff.proofs.ReadLaws.EntriesLaws.Holding.{last_holds, demand_holds}
use Rattle.subsetter_cff.proofs.ReadLaws.FdArrayLaws.SoundDicts.{sound_dict_of}
use Rattle.subsetter_cff.proofs.WriteLaws.NewDictsLaws.Powers.{by_1000_there}
use Rattle.subsetter_cff.proofs.WriteLaws.GlyphsLaws.KeptSteps.{glyph_steps}
use Rattle.subsetter_cff.proofs.WriteLaws.NewDictsLaws.FontDictSteps.{agrees}
use Rattle.subsetter_cff.proofs.ReadLaws.StringFaults.{string_refused}
use Rattle.subsetter_cff.proofs.WriteLaws.NewDictsLaws.UsedByGlyphs.{UsedBy}

-- ---- the font dict of a kept glyph
record DictOf (cff : Cff) (glyph n : ℕ) (private : Private) : Type 0 where
  dicts : List (List Entry)
  dicts_are : font_dicts cff ≡ Some dicts
  dict : List Entry
  at : slice_get dicts n ≡ Some dict
  dict_is : font_dict_of cff glyph ≡ Some dict
  private_is : private_at cff.bytes dict ≡ Some private

dict_of_glyph : (cff : Cff) (glyph n : ℕ) (private : Private) → is_cid_keyed cff ≡ true → source_number cff glyph ≡ Some n → private_of cff glyph ≡ Some private → DictOf cff glyph n private
unfolding private_of font_dict_of
dict_of_glyph cff glyph n private cid numbered e =
    let a = step (option_and_then (λ number. option_and_then (λ dicts. slice_get dicts number) (font_dicts cff)) (font_dict_number cff glyph)) (private_at cff.bytes) private (rw cid at e) in
    let b = step (font_dict_number cff glyph) (λ number. option_and_then (λ dicts. slice_get dicts number) (font_dicts cff)) a.0 a.1.0 in
    let c = step (font_dicts cff) (λ dicts. slice_get dicts b.0) a.0 b.1.1 in
    let same : b.0 ≡ n = same_Some _ _ (sym b.1.0 ∙ rw cid at numbered) in
    record { dicts = c.0; dicts_are = c.1.0; dict = a.0; at = subst (λ k. slice_get c.0 k ≡ Some a.0) same c.1.1; dict_is = a.1.0; private_is = a.1.1 }

source_there : (cff : Cff) (glyph n : ℕ) (private : Private) → source_number cff glyph ≡ Some n → private_of cff glyph ≡ Some private → source_dict cff n ≢ None
source_there cff glyph n private numbered e =
    elim (cases_Bool (is_cid_keyed cff)) [
      | inl cid ↦ (let d = dict_of_glyph cff glyph n private cid numbered e in λ h. none-some _ (sym (rw (cid, d.dicts_are, d.at, d.private_is) at h)))
      | inr sid ↦ λ h. none-some _ (sym (rw sid at h))
    ]

-- ---- its name
name_refused : (cff : Cff) (tokens depth glyph n : ℕ) (private : Private) → TopIsSound cff → source_number cff glyph ≡ Some n → private_of cff glyph ≡ Some private → font_dict_name cff glyph ≡ None → HasGlyphFault cff tokens depth glyph SubsetError
unfolding font_dict_name
name_refused cff tokens depth glyph n private sound numbered e none =
    elim (cases_Bool (is_cid_keyed cff)) [
      | inl cid ↦ (let d = dict_of_glyph cff glyph n private cid numbered e in
          let nothing : string_at cff.strings font_name_operator d.dict ≡ None = rw (cid, d.dict_is) at none in
          bad_name d.dict cid d.dict_is (string_refused font_dict_demands cff.strings font_name_operator d.dict (1, omega arith, refl) (sound_dict_of cff glyph d.dict sound cid d.dict_is).meets nothing))
      | inr sid ↦ absurd (none-some _ (sym (rw sid at none)))
    ]

-- ---- its matrix
matrix_there : (top own : Option (List Number)) → ((xs : List Number) → own ≡ Some xs → by_1000 xs ≢ None) → new_matrix top own ≢ None
matrix_there top None there = λ h. none-some _ (sym h)
matrix_there (Some t) (Some xs) there = λ h. none-some _ (sym h)
matrix_there None (Some xs) there = there xs refl

own_of : (cff : Cff) (glyph : ℕ) (dict : List Entry) (own : Option (List Number)) → is_cid_keyed cff ≡ true → font_dict_of cff glyph ≡ Some dict → own_matrix cff glyph ≡ Some own → last_of font_matrix_operator dict ≡ own
unfolding own_matrix
own_of cff glyph dict own cid is e = same_Some _ _ (rw (cid, is) at e)

no_own : (cff : Cff) (glyph : ℕ) (own : Option (List Number)) → is_cid_keyed cff ≡ false → own_matrix cff glyph ≡ Some own → None ≡ own
unfolding own_matrix
no_own cff glyph own sid e = same_Some _ _ (rw sid at e)

scales : (cff : Cff) (glyph n : ℕ) (private : Private) (own : Option (List Number)) (xs : List Number) → TopIsSound cff → source_number cff glyph ≡ Some n → private_of cff glyph ≡ Some private
    → own_matrix cff glyph ≡ Some own → own ≡ Some xs → by_1000 xs ≢ None
scales cff glyph n private own xs sound numbered e own_is is =
    elim (cases_Bool (is_cid_keyed cff)) [
      | inl cid ↦ (let d = dict_of_glyph cff glyph n private cid numbered e in
          let last : last_of font_matrix_operator d.dict ≡ Some xs = own_of cff glyph d.dict own cid d.dict_is own_is ∙ is in
          let six = last_holds (so_many 6) font_matrix_operator d.dict xs (demand_holds font_dict_demands (record { operator = font_matrix_operator; holds = so_many 6 }) d.dict (2, omega arith, refl) (sound_dict_of cff glyph d.dict sound cid d.dict_is).meets) last in
          let read = last_of_fits font_matrix_operator d.dict xs (all_at Fitting d.dicts n d.dict (font_dicts_fit cff d.dicts d.dicts_are) d.at) last in
          let scaled = by_1000_there xs read.each (eqb-true (length xs) 6 six) in
          λ h. none-some scaled.scaled (sym h ∙ scaled.is))
      | inr sid ↦ absurd (none-some xs (no_own cff glyph own sid own_is ∙ is))
    ]

six_of : (cff : Cff) (glyph : ℕ) (o : Option (List Entry)) (xs : List Number) → TopIsSound cff → is_cid_keyed cff ≡ true → font_dict_of cff glyph ≡ o → option_map (last_of font_matrix_operator) o ≡ Some (Some xs) → length xs ≡ 6
six_of cff glyph None xs sound cid is e = absurd (none-some _ e)
six_of cff glyph (Some dict) xs sound cid is e =
    eqb-true (length xs) 6 (last_holds (so_many 6) font_matrix_operator dict xs (demand_holds font_dict_demands (record { operator = font_matrix_operator; holds = so_many 6 }) dict (2, omega arith, refl) (sound_dict_of cff glyph dict sound cid is).meets) (same_Some _ _ e))

-- a font dict's own matrix has six numbers
pub own_six : (cff : Cff) (glyph : ℕ) (xs : List Number) → TopIsSound cff → own_matrix cff glyph ≡ Some (Some xs) → length xs ≡ 6
unfolding own_matrix
own_six cff glyph xs sound e =
    elim (cases_Bool (is_cid_keyed cff)) [
      | inl cid ↦ six_of cff glyph (font_dict_of cff glyph) xs sound cid refl (rw cid at e)
      | inr sid ↦ absurd (none-some xs (same_Some _ _ (rw sid at e)))
    ]

-- ---- the whole
pub dict_refused : (cff : Cff) (tokens depth : ℕ) (glyphs : List ℕ) (n : ℕ) (e : Error) → TopIsSound cff → UsedBy cff tokens depth glyphs n → new_font_dict cff n ≡ Err e
    → (g : ℕ) × (Contains glyphs g × HasGlyphFault cff tokens depth g e)
unfolding new_font_dict
dict_refused cff tokens depth glyphs n e sound used h =
    let steps = glyph_steps cff tokens depth used.glyph used.kept used.made in
    let numbered : source_number cff used.glyph ≡ Some n = steps.number_is ∙ ap Some used.number in
    elim (bind_err (ok_or (source_dict cff n) MalformedFont) _ e h) [
      | inl none ↦ absurd (source_there cff used.glyph n steps.private numbered steps.private_is (none_of (source_dict cff n) MalformedFont e none).0)
      | inr (dict, (dict_ok, h1)) ↦ (let agree = agrees cff used.glyph n dict numbered (some_of (source_dict cff n) MalformedFont dict dict_ok) in
          elim (bind_err (ok_or dict.name SubsetError) _ e h1) [
            | inl none ↦ (let o = none_of dict.name SubsetError e none in
                (used.glyph, (used.inside, subst (HasGlyphFault cff tokens depth used.glyph) o.1 (name_refused cff tokens depth used.glyph n steps.private sound numbered steps.private_is (agree.name_is ∙ o.0)))))
            | inr (name, (name_ok, h2)) ↦ elim (bind_err (ok_or (new_matrix (last_of font_matrix_operator cff.top) dict.own) OverflowError) _ e h2) [
              | inl none ↦ absurd (matrix_there (last_of font_matrix_operator cff.top) dict.own (λ xs is. scales cff used.glyph n steps.private dict.own xs sound numbered steps.private_is agree.own_is is)
                  (none_of (new_matrix (last_of font_matrix_operator cff.top) dict.own) OverflowError e none).0)
              | inr (matrix, (matrix_ok, h3)) ↦ absurd cc
            ]
          ])
    ]

pub dicts_refused : (cff : Cff) (tokens depth : ℕ) (glyphs ns : List ℕ) (e : Error) → TopIsSound cff → AllByRecursion (UsedBy cff tokens depth glyphs) ns → new_font_dicts cff ns ≡ Err e
    → (g : ℕ) × (Contains glyphs g × HasGlyphFault cff tokens depth g e)
dicts_refused cff tokens depth glyphs [] e sound used h = absurd cc
dicts_refused cff tokens depth glyphs (n ∷ ns) e sound used h =
    elim (bind_err (new_font_dict cff n) (λ first. new_font_dicts cff ns >>= λ rest. Ok (first ∷ rest)) e h) [
      | inl first ↦ dict_refused cff tokens depth glyphs n e sound used.0 first
      | inr (f, (f_is, h1)) ↦ elim (bind_err (new_font_dicts cff ns) (λ rest. Ok (f ∷ rest)) e h1) [
        | inl rest ↦ dicts_refused cff tokens depth glyphs ns e sound used.1 rest
        | inr (fs, (fs_are, h2)) ↦ absurd cc
      ]
    ]

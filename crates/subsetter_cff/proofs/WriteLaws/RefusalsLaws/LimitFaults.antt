-- What is refused as too much is too much.
use Rattle.std.proofs.Common.{◌≡◌, ℕ, ◌+◌, ◌^◌, ◌≤◌, Bool, true, false, cond, ltb, ◌||◌, List, [], ◌∷◌, ◌++◌, length, Option, Some, None, refl, ap, arith, inl, inr, ◌⊎◌, ◌∙◌, sym, subst}
use Rattle.std.specs.Prelude.{Contains, unwrap_or, Result, Ok, Err}
use Rattle.std.specs.List.{concat, flat_map, AllByRecursion}
use Rattle.std.proofs.lemmas.Bool.{eqb-true, cases_Bool, false≢true, ltb-false}
use Rattle.std.proofs.lemmas.Option.{same_Some}
use Rattle.subsetter_base.specs.declared.error.Error.{Error}
use Rattle.subsetter_base.specs.declared.error.Error.TheVariants.{OverflowError}
use Rattle.subsetter_cffdata.specs.Reals.Decimals.{decimal_digits, real_text}
use Rattle.subsetter_cffdata.specs.Numerals.Numbers.{Number, is_too_long}
use Rattle.subsetter_cffdata.specs.Dicts.Dict.{Entry}
use Rattle.subsetter_cff.specs.Read.Entries.Lookup.{last_of}
use Rattle.subsetter_cff.specs.Read.Cff.{Cff, is_cid_keyed}
use Rattle.subsetter_cff.specs.Read.FdArray.Private.{Private, own_entries, private_of, private_entries}
use Rattle.subsetter_cff.specs.Read.Entries.Matrices.{thousandth_matrix, unit_matrix, zero_box, own_matrix}
use Rattle.subsetter_cff.specs.Read.Entries.Operators.{font_matrix_operator, font_box_operator}
use Rattle.subsetter_cff.specs.Write.Laying.Layout.{FontDict, Parts, char_strings_offset}
use Rattle.subsetter_cff.specs.Write.Made.{new_matrix}
use Rattle.subsetter_cff.specs.Read.Entries.OperandDemands.{so_many, top_demands}
use Rattle.subsetter_cff.specs.Write.NewDicts.WrittenNumbers.{any_long, entry_numbers, font_dict_numbers, written_numbers}
use Rattle.subsetter_cff.specs.Write.Plain.{KeptGlyph, kept_glyphs, used_numbers, new_font_dicts, parts_for, limited}
use Rattle.subsetter_cff.specs.Write.Refusals.LimitFault.{AreDrafted, HasLimitFault, many_font_dicts, long_matrix, long_box, long_own_matrix, long_private, large_index, large_offset}
use Rattle.subsetter_cff.proofs.ReadLaws.Results.{same_Ok}
use Rattle.subsetter_cff.proofs.ReadLaws.Refusals.{failed}
use Rattle.subsetter_cff.proofs.WriteLaws.GlyphsLaws.KeptSteps.{AllZero, zeros, used_of_zeros, glyph_steps}
use Rattle.subsetter_cff.proofs.WriteLaws.NewDictsLaws.FontDictSteps.{dict_steps, DictSteps, dict_made, agrees}
use Rattle.subsetter_cff.proofs.WriteLaws.LayingLaws.MadeOf.{parts_steps}
use Rattle.subsetter_cff.proofs.ReadLaws.EntriesLaws.Holding.{last_holds, demand_holds}
use Rattle.subsetter_cff.proofs.ReadLaws.Soundness.{TopIsSound}
use Rattle.subsetter_cff.proofs.WriteLaws.NewDictsLaws.FontDictRefusals.{own_six}
use Rattle.subsetter_cff.proofs.WriteLaws.NewDictsLaws.UsedByGlyphs.{UsedBy, all_used, used_are}

-- ---- used font dicts
few_used : (kept : List KeptGlyph) → AllZero kept → length (used_numbers kept) ≤ 1
few_used [] all = omega arith
few_used (k ∷ kept) all = omega (arith, ap length (used_of_zeros k kept all))

pub many_used : (cff : Cff) (tokens depth : ℕ) (glyphs : List ℕ) (kept : List KeptGlyph) → kept_glyphs cff tokens depth glyphs ≡ Ok kept → 256 ≤ length (used_numbers kept) → HasLimitFault cff tokens depth glyphs OverflowError
many_used cff tokens depth glyphs kept are many =
    elim (cases_Bool (is_cid_keyed cff)) [
      | inl cid ↦ many_font_dicts cid (omega (arith, many, ap length (used_are cff tokens depth glyphs kept cid are)))
      | inr sid ↦ absurd (omega (arith, many, few_used kept (zeros cff tokens depth glyphs kept sid are)))
    ]

-- ---- reals
or_true : (a b : Bool) → a || b ≡ true → (a ≡ true) ⊎ (b ≡ true)
or_true true b e = inl refl
or_true false b e = inr e

pub in_either : (xs ys : List Number) → any_long (xs ++ ys) ≡ true → (any_long xs ≡ true) ⊎ (any_long ys ≡ true)
in_either [] ys e = inr e
in_either (x ∷ xs) ys e =
    elim (cases_Bool (is_too_long x)) [
      | inl long ↦ inl (rw long refl)
      | inr short ↦ rw short (in_either xs ys (rw short at e))
    ]

given : (o : Option (List Number)) (d : List Number) → any_long d ≡ false → any_long (unwrap_or o d) ≡ true → (xs : List Number) × ((o ≡ Some xs) × (any_long xs ≡ true))
given None d short e = absurd (false≢true (sym short ∙ e))
given (Some xs) d short e = (xs, (refl, e))

thousandth_short : any_long thousandth_matrix ≡ false
unfolding real_text decimal_digits
thousandth_short = refl

-- in a font dict
own_long : (cff : Cff) (tokens depth : ℕ) (glyphs : List ℕ) (g : ℕ) (own : Option (List Number)) (m : List Number) → TopIsSound cff → Contains glyphs g → own_matrix cff g ≡ Some own → new_matrix (last_of font_matrix_operator cff.top) own ≡ Some m
    → any_long m ≡ true → HasLimitFault cff tokens depth glyphs OverflowError
own_long cff tokens depth glyphs g None m sound inside own_is is e = absurd (let same : unit_matrix ≡ m = same_Some _ _ is in false≢true (ap any_long same ∙ e))
own_long cff tokens depth glyphs g (Some xs) m sound inside own_is is e = long_own_matrix g xs m inside own_is (own_six cff g xs sound own_is) is e

entries_are : (cff : Cff) (g : ℕ) (p : Private) (es : List Entry) → private_of cff g ≡ Some p → es ≡ own_entries p → private_entries cff g ≡ Some es
entries_are cff g p es e is = rw (e, is) refl

dict_long : (cff : Cff) (tokens depth : ℕ) (glyphs : List ℕ) (n : ℕ) (f : FontDict) → TopIsSound cff → UsedBy cff tokens depth glyphs n → DictSteps cff n f → any_long (font_dict_numbers f) ≡ true → HasLimitFault cff tokens depth glyphs OverflowError
dict_long cff tokens depth glyphs n f sound used steps e =
    let glyph = glyph_steps cff tokens depth used.glyph used.kept used.made in
    let agree = agrees cff used.glyph n steps.dict (glyph.number_is ∙ ap Some used.number) steps.dict_is in
    elim (in_either f.matrix (entry_numbers f.private) e) [
      | inl matrix ↦ own_long cff tokens depth glyphs used.glyph steps.dict.own f.matrix sound used.inside agree.own_is steps.matrix matrix
      | inr private ↦ long_private used.glyph f.private used.inside (entries_are cff used.glyph steps.dict.private f.private agree.private_is steps.private) private
    ]

dicts_long : (cff : Cff) (tokens depth : ℕ) (glyphs ns : List ℕ) (dicts : List FontDict) → TopIsSound cff → AllByRecursion (UsedBy cff tokens depth glyphs) ns → new_font_dicts cff ns ≡ Ok dicts → any_long (flat_map font_dict_numbers dicts) ≡ true
    → HasLimitFault cff tokens depth glyphs OverflowError
dicts_long cff tokens depth glyphs [] dicts sound used are e = absurd (false≢true (ap (λ (ds : List FontDict). any_long (flat_map font_dict_numbers ds)) (same_Ok _ _ are) ∙ e))
dicts_long cff tokens depth glyphs (n ∷ ns) dicts sound used are e =
    let s = dict_steps cff n ns dicts are in
    let long : any_long (font_dict_numbers s.0 ++ flat_map font_dict_numbers s.1.1.0) ≡ true = subst (λ ds. any_long (flat_map font_dict_numbers ds) ≡ true) (sym s.1.1.1.1) e in
    elim (in_either (font_dict_numbers s.0) (flat_map font_dict_numbers s.1.1.0) long) [
      | inl first ↦ dict_long cff tokens depth glyphs n s.0 sound used.0 (dict_made cff n s.0 s.1.0) first
      | inr rest ↦ dicts_long cff tokens depth glyphs ns s.1.1.0 sound used.1 s.1.1.1.0 rest
    ]

-- ---- the whole
not_false : (b : Bool) → cond b false true ≡ false → b ≡ true
not_false true e = refl
not_false false e = absurd cc

no_error : (p : Parts) (e : Error) → ◌≡◌ {A = Result Parts Error} (Ok p) (Err e) → ⊥
no_error p e h = cc

-- n numbers, where they are demanded
so_many_of : (cff : Cff) (operator : List ℕ) (n : ℕ) (xs : List Number) → Contains top_demands (record { operator = operator; holds = so_many n }) → TopIsSound cff → last_of operator cff.top ≡ Some xs → length xs ≡ n
so_many_of cff operator n xs inside sound is =
    eqb-true (length xs) n (last_holds (so_many n) operator cff.top xs (demand_holds top_demands (record { operator = operator; holds = so_many n }) cff.top inside sound.operands) is)

long_stands : (cff : Cff) (tokens depth : ℕ) (glyphs : List ℕ) (kept : List KeptGlyph) (p : Parts) → TopIsSound cff → kept_glyphs cff tokens depth glyphs ≡ Ok kept → parts_for cff kept ≡ Ok p → any_long (written_numbers p) ≡ true → HasLimitFault cff tokens depth glyphs OverflowError
long_stands cff tokens depth glyphs kept p sound are made e =
    let s = parts_steps cff kept p made in
    elim (in_either p.matrix (p.box ++ flat_map font_dict_numbers p.font_dicts) e) [
      | inl matrix ↦ (let x = given (last_of font_matrix_operator cff.top) thousandth_matrix thousandth_short (subst (λ (q : Parts). any_long q.matrix ≡ true) (sym s.parts_are) matrix) in long_matrix x.0 x.1.0 (so_many_of cff font_matrix_operator 6 x.0 (8, omega arith, refl) sound x.1.0) x.1.1)
      | inr more ↦ elim (in_either p.box (flat_map font_dict_numbers p.font_dicts) more) [
        | inl box ↦ (let x = given (last_of font_box_operator cff.top) zero_box refl (subst (λ (q : Parts). any_long q.box ≡ true) (sym s.parts_are) box) in long_box x.0 x.1.0 (so_many_of cff font_box_operator 4 x.0 (9, omega arith, refl) sound x.1.0) x.1.1)
        | inr dicts ↦ dicts_long cff tokens depth glyphs (used_numbers kept) s.dicts sound (all_used cff tokens depth glyphs kept are) s.dicts_are (subst (λ (q : Parts). any_long (flat_map font_dict_numbers q.font_dicts) ≡ true) (sym s.parts_are) dicts)
      ]
    ]

pub limit_stands : (cff : Cff) (tokens depth : ℕ) (glyphs : List ℕ) (kept : List KeptGlyph) (p : Parts) (e : Error) → TopIsSound cff → kept_glyphs cff tokens depth glyphs ≡ Ok kept → parts_for cff kept ≡ Ok p → limited p ≡ Err e → HasLimitFault cff tokens depth glyphs e
unfolding limited
limit_stands cff tokens depth glyphs kept p e sound are made h =
    let F = HasLimitFault cff tokens depth glyphs in
    let laid : AreDrafted cff tokens depth glyphs p = record { kept = kept; kept_are = are; parts_are = made } in
    elim (failed (cond (any_long (written_numbers p)) false true) OverflowError e _ h) [
      | inl over ↦ subst F over.1 (long_stands cff tokens depth glyphs kept p sound are made (not_false (any_long (written_numbers p)) over.0))
      | inr h2 ↦ elim (failed (ltb (length (concat p.char_strings) + 1) (2 ^ 32)) OverflowError e _ h2.1) [
        | inl over ↦ subst F over.1 (large_index p p.char_strings laid (3, omega arith, refl) (ltb-false (length (concat p.char_strings) + 1) (2 ^ 32) over.0))
        | inr h3 ↦ elim (failed (ltb (char_strings_offset p) (2 ^ 31)) OverflowError e _ h3.1) [
          | inl over ↦ subst F over.1 (large_offset p (char_strings_offset p) laid (0, omega arith, refl) (ltb-false (char_strings_offset p) (2 ^ 31) over.0))
          | inr h4 ↦ absurd (no_error p e h4.1)
        ]
      ]
    ]

-- The plain way refuses a table just where it has a fault.
use Rattle.std.proofs.Common.{◌≡◌, ℕ, ltb, ◌≤◌, List, length, refl, arith, inl, inr, ◌⊎◌, ◌∙◌, sym, subst}
use Rattle.std.specs.Prelude.{Contains, Ok, Err}
use Rattle.std.specs.Option.{ok_or}
use Rattle.std.proofs.lemmas.Bool.{ltb-false}
use Rattle.std.proofs.lemmas.Option.{same_Some}
use Rattle.subsetter_base.specs.declared.error.Error.{Error}
use Rattle.subsetter_base.specs.declared.error.Error.TheVariants.{SubsetError, OverflowError}
use Rattle.subsetter_cff.specs.Read.Strings.{string_at}
use Rattle.subsetter_cff.specs.Read.Cff.{Cff}
use Rattle.subsetter_cff.specs.Read.Entries.Operators.{copyright_operator, notice_operator, font_name_operator}
use Rattle.subsetter_cff.specs.Write.Laying.Layout.{Parts}
use Rattle.subsetter_cff.specs.Read.Entries.OperandDemands.{top_demands}
use Rattle.subsetter_cff.specs.Read.Opened.{opened}
use Rattle.subsetter_cff.specs.Write.Plain.{KeptGlyph, kept_glyphs, used_numbers, new_font_dicts, parts_for, counted_parts, parts_of, cff_subset}
use Rattle.subsetter_cff.specs.Read.Fault.{HasGlyphFault, HasStringFault, bad_copyright, bad_notice, bad_font_name}
use Rattle.subsetter_cff.specs.Write.Refusals.LimitFault.{HasLimitFault}
use Rattle.subsetter_cff.specs.Write.Refusals.CffFault.{HasCffFault, in_opening, in_glyph, in_strings, in_limits, RefusedHasFault}
use Rattle.subsetter_cff.proofs.ReadLaws.Results.{passed}
use Rattle.subsetter_cff.proofs.ReadLaws.Refusals.{bind_err, none_of, failed}
use Rattle.subsetter_cff.proofs.ReadLaws.Faults.{opening_refused}
use Rattle.subsetter_cff.proofs.ReadLaws.Soundness.{TopIsSound, was_opened}
use Rattle.subsetter_cff.proofs.WriteLaws.Headline.{opened_is}
use Rattle.subsetter_cff.proofs.ReadLaws.StringFaults.{string_refused}
use Rattle.subsetter_cff.proofs.WriteLaws.NewDictsLaws.UsedByGlyphs.{all_used}
use Rattle.subsetter_cff.proofs.WriteLaws.GlyphsLaws.GlyphFaults.{refused_glyphs}
use Rattle.subsetter_cff.proofs.WriteLaws.NewDictsLaws.FontDictRefusals.{dicts_refused}
use Rattle.subsetter_cff.proofs.WriteLaws.RefusalsLaws.LimitFaults.{many_used, limit_stands}

pub opened_sound : (bytes : List ℕ) (cff : Cff) → opened bytes ≡ Ok cff → TopIsSound cff
opened_sound bytes cff e =
    let w = was_opened bytes cff e in
    subst TopIsSound (same_Some _ _ (sym w.cff_is ∙ opened_is bytes cff e)) w.top

-- the strings of the top dict, then the font dicts
made_refused : (cff : Cff) (tokens depth : ℕ) (glyphs : List ℕ) (kept : List KeptGlyph) (e : Error) → TopIsSound cff → kept_glyphs cff tokens depth glyphs ≡ Ok kept → parts_for cff kept ≡ Err e
    → HasStringFault cff e ⊎ ((g : ℕ) × (Contains glyphs g × HasGlyphFault cff tokens depth g e))
unfolding parts_for
made_refused cff tokens depth glyphs kept e sound are h =
    elim (bind_err (ok_or (string_at cff.strings copyright_operator cff.top) SubsetError) _ e h) [
      | inl none ↦ (let n = none_of (string_at cff.strings copyright_operator cff.top) SubsetError e none in
          inl (subst (HasStringFault cff) n.1 (bad_copyright (string_refused top_demands cff.strings copyright_operator cff.top (1, omega arith, refl) sound.operands n.0))))
      | inr (copyright, (copyright_is, h1)) ↦ elim (bind_err (ok_or (string_at cff.strings font_name_operator cff.top) SubsetError) _ e h1) [
        | inl none ↦ (let n = none_of (string_at cff.strings font_name_operator cff.top) SubsetError e none in
            inl (subst (HasStringFault cff) n.1 (bad_font_name (string_refused top_demands cff.strings font_name_operator cff.top (2, omega arith, refl) sound.operands n.0))))
        | inr (font_name, (font_name_is, h2)) ↦ elim (bind_err (ok_or (string_at cff.strings notice_operator cff.top) SubsetError) _ e h2) [
          | inl none ↦ (let n = none_of (string_at cff.strings notice_operator cff.top) SubsetError e none in
              inl (subst (HasStringFault cff) n.1 (bad_notice (string_refused top_demands cff.strings notice_operator cff.top (0, omega arith, refl) sound.operands n.0))))
          | inr (notice, (notice_is, h3)) ↦ elim (bind_err (new_font_dicts cff (used_numbers kept)) _ e h3) [
            | inl dicts ↦ inr (dicts_refused cff tokens depth glyphs (used_numbers kept) e sound (all_used cff tokens depth glyphs kept are) dicts)
            | inr (dicts, (dicts_are, h4)) ↦ absurd cc
          ]
        ]
      ]
    ]

-- but first the count of the font dicts
count_refused : (cff : Cff) (kept : List KeptGlyph) (e : Error) → counted_parts cff kept ≡ Err e → ((256 ≤ length (used_numbers kept)) × (OverflowError ≡ e)) ⊎ (parts_for cff kept ≡ Err e)
unfolding counted_parts
count_refused cff kept e h =
    elim (failed (ltb (length (used_numbers kept)) 256) OverflowError e _ h) [
      | inl over ↦ inl (ltb-false (length (used_numbers kept)) 256 over.0, over.1)
      | inr more ↦ inr more.1
    ]

count_passed : (cff : Cff) (kept : List KeptGlyph) (p : Parts) → counted_parts cff kept ≡ Ok p → parts_for cff kept ≡ Ok p
unfolding counted_parts
count_passed cff kept p e = (passed (ltb (length (used_numbers kept)) 256) OverflowError _ p e).1

parts_refused : (bytes : List ℕ) (tokens depth : ℕ) (glyphs : List ℕ) (cff : Cff) (e : Error) → opened bytes ≡ Ok cff → parts_of cff tokens depth glyphs ≡ Err e → HasCffFault bytes tokens depth glyphs e
unfolding parts_of
parts_refused bytes tokens depth glyphs cff e opened_ok h =
    let is = opened_is bytes cff opened_ok in
    let sound = opened_sound bytes cff opened_ok in
    elim (bind_err (kept_glyphs cff tokens depth glyphs) _ e h) [
      | inl glyph ↦ (let g = refused_glyphs cff tokens depth glyphs e sound glyph in in_glyph cff g.0 is g.1.0 g.1.1)
      | inr (kept, (kept_are, h1)) ↦ elim (bind_err (counted_parts cff kept) _ e h1) [
        | inl counted ↦ elim (count_refused cff kept e counted) [
          | inl many ↦ in_limits cff is (subst (HasLimitFault cff tokens depth glyphs) many.1 (many_used cff tokens depth glyphs kept kept_are many.0))
          | inr made ↦ elim (made_refused cff tokens depth glyphs kept e sound kept_are made) [
            | inl string ↦ in_strings cff is string
            | inr glyph ↦ in_glyph cff glyph.0 is glyph.1.0 glyph.1.1
          ]
        ]
        | inr (p, (p_is, last)) ↦ in_limits cff is (limit_stands cff tokens depth glyphs kept p e sound kept_are (count_passed cff kept p p_is) last)
      ]
    ]

pub refused_stands : RefusedHasFault
unfolding cff_subset
refused_stands bytes tokens depth glyphs e h =
    elim (bind_err (opened bytes) _ e h) [
      | inl opening ↦ in_opening (opening_refused bytes e opening)
      | inr (cff, (cff_is, h1)) ↦ elim (bind_err (parts_of cff tokens depth glyphs) _ e h1) [
        | inl parts ↦ parts_refused bytes tokens depth glyphs cff e cff_is parts
        | inr (p, (p_is, h2)) ↦ absurd cc
      ]
    ]

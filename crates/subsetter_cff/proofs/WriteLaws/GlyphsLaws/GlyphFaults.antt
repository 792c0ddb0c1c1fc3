-- The plain way refuses a glyph of a table that was opened just where it has a fault.
use Rattle.std.proofs.Common.{◌≡◌, ℕ, Bool, true, false, cond, List, ◌∷◌, [], Some, None, refl, inl, inr, sym, subst}
use Rattle.std.specs.Prelude.{Contains, Ok, Err}
use Rattle.std.specs.Option.{ok_or}
use Rattle.std.proofs.lemmas.Bool.{cases_Bool}
use Rattle.std.proofs.lemmas.Option.{none-some}
use Rattle.subsetter_base.specs.Bytes.{◌>>=◌}
use Rattle.subsetter_base.specs.declared.error.Error.{Error}
use Rattle.subsetter_base.specs.declared.error.Error.TheVariants.{MalformedFont}
use Rattle.subsetter_type2.specs.Runs.Machine.{Outcome, Finishes, Stops, outcome}
use Rattle.subsetter_type2.specs.Flat.{bytes_of, flat_form}
use Rattle.subsetter_cff.specs.Read.Cff.{Cff, char_string, is_cid_keyed}
use Rattle.subsetter_cff.specs.Read.FdArray.FontDicts.{font_dict_number, font_dict_of}
use Rattle.subsetter_cff.specs.Read.FdArray.Private.{private_at, private_of}
use Rattle.subsetter_cff.specs.Read.GlyphTrace.{library}
use Rattle.subsetter_cff.specs.Write.Plain.{source_number, kept_glyph, kept_glyphs}
use Rattle.subsetter_cff.specs.Read.Fault.{HasGlyphFault, no_number, no_font_dict, no_char_string, stops}
use Rattle.subsetter_cff.proofs.ReadLaws.Results.{some_of}
use Rattle.subsetter_cff.proofs.ReadLaws.Refusals.{bind_err, none_of, none_or, here, there}
use Rattle.subsetter_cff.proofs.ReadLaws.Soundness.{TopIsSound}
use Rattle.subsetter_cff.proofs.ReadLaws.FdArrayLaws.SoundDicts.{sound_dict_of, private_there}

stopped : (o : Outcome) (e : Error) → bytes_of o ≡ Err e → o ≡ Stops e
stopped (Finishes u) e h = absurd cc
stopped (Stops d) e h = cc

unnumbered : (cff : Cff) (tokens depth glyph : ℕ) (b : Bool) → is_cid_keyed cff ≡ b → cond b (font_dict_number cff glyph) (Some 0) ≡ None → HasGlyphFault cff tokens depth glyph MalformedFont
unnumbered cff tokens depth glyph true cid none = no_number cid none
unnumbered cff tokens depth glyph false sid none = absurd (none-some 0 (sym none))

-- in a table that was opened, the private dict of a font dict is there
without_private : (cff : Cff) (tokens depth glyph : ℕ) → TopIsSound cff → private_of cff glyph ≡ None → HasGlyphFault cff tokens depth glyph MalformedFont
unfolding private_of
without_private cff tokens depth glyph sound none =
    elim (cases_Bool (is_cid_keyed cff)) [
      | inl cid ↦ elim (none_or (font_dict_of cff glyph) (private_at cff.bytes) (rw cid at none)) [
        | inl nothing ↦ no_font_dict cid nothing
        | inr (dict, (is, nowhere)) ↦ absurd (private_there cff.bytes dict (sound_dict_of cff glyph dict sound cid is).leads nowhere)
      ]
      | inr sid ↦ absurd (none-some _ (sym (rw sid at none)))
    ]

pub refused_glyph : (cff : Cff) (tokens depth glyph : ℕ) (e : Error) → TopIsSound cff → kept_glyph cff tokens depth glyph ≡ Err e → HasGlyphFault cff tokens depth glyph e
unfolding kept_glyph
refused_glyph cff tokens depth glyph e sound h =
    elim (bind_err (ok_or (source_number cff glyph) MalformedFont) _ e h) [
      | inl none ↦ (let n = none_of (source_number cff glyph) MalformedFont e none in subst (HasGlyphFault cff tokens depth glyph) n.1 (unnumbered cff tokens depth glyph (is_cid_keyed cff) refl n.0))
      | inr (k, (k_is, h1)) ↦ elim (bind_err (ok_or (private_of cff glyph) MalformedFont) _ e h1) [
        | inl none ↦ (let n = none_of (private_of cff glyph) MalformedFont e none in subst (HasGlyphFault cff tokens depth glyph) n.1 (without_private cff tokens depth glyph sound n.0))
        | inr (p, (p_is, h2)) ↦ elim (bind_err (ok_or (char_string cff glyph) MalformedFont) _ e h2) [
          | inl none ↦ (let n = none_of (char_string cff glyph) MalformedFont e none in subst (HasGlyphFault cff tokens depth glyph) n.1 (no_char_string n.0))
          | inr (b, (b_is, h3)) ↦ elim (bind_err (flat_form (library cff p) tokens depth b) _ e h3) [
            | inl fault ↦ stops p b e (some_of (private_of cff glyph) MalformedFont p p_is) (some_of (char_string cff glyph) MalformedFont b b_is) (stopped (outcome (library cff p) tokens depth b) e fault)
            | inr (bytes, (bytes_is, h4)) ↦ absurd cc
          ]
        ]
      ]
    ]

-- where the kept glyphs are refused, one of them has a fault
pub refused_glyphs : (cff : Cff) (tokens depth : ℕ) (glyphs : List ℕ) (e : Error) → TopIsSound cff → kept_glyphs cff tokens depth glyphs ≡ Err e → (g : ℕ) × (Contains glyphs g × HasGlyphFault cff tokens depth g e)
refused_glyphs cff tokens depth [] e sound h = absurd cc
refused_glyphs cff tokens depth (g ∷ gs) e sound h =
    elim (bind_err (kept_glyph cff tokens depth g) (λ first. kept_glyphs cff tokens depth gs >>= λ rest. Ok (first ∷ rest)) e h) [
      | inl first ↦ (g, (here g gs, refused_glyph cff tokens depth g e sound first))
      | inr (k, (k_is, h1)) ↦ elim (bind_err (kept_glyphs cff tokens depth gs) (λ rest. Ok (k ∷ rest)) e h1) [
        | inl rest ↦ (let r = refused_glyphs cff tokens depth gs e sound rest in (r.0, (there g gs r.0 r.1.0, r.1.1)))
        | inr (ks, (ks_are, h2)) ↦ absurd cc
      ]
    ]

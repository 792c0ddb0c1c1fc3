-- A glyph kept again of a table that was laid out.
use Rattle.std.proofs.Common.{◌≡◌, ℕ, ◌<◌, ◌≤◌, List, [], ◌∷◌, map, length, Some, refl, ap, ◌∙◌, sym}
use Rattle.std.specs.Prelude.{slice_get, Ok}
use Rattle.std.specs.List.{AllByRecursion}
use Rattle.std.proofs.lemmas.Option.{none-some}
use Rattle.subsetter_type2.specs.Runs.Machine.{Library, Trace, Outcome, Finishes, Stops, outcome, trace_of}
use Rattle.subsetter_type2.specs.Flat.{flat, bytes_of, flat_form}
use Rattle.subsetter_type2.proofs.TraceLaws.{keeps_trace}
use Rattle.subsetter_cff.specs.Read.Cff.{Cff, char_string}
use Rattle.subsetter_cff.specs.Read.FdArray.Private.{Private, private_of}
use Rattle.subsetter_cff.specs.Read.GlyphTrace.{library}
use Rattle.subsetter_cff.specs.Write.Laying.Layout.{Parts}
use Rattle.subsetter_cff.specs.Write.Laying.Fits.{Fits}
use Rattle.subsetter_cff.specs.Write.Laying.ReadsAs.{number_in}
use Rattle.subsetter_cff.specs.Write.Plain.{KeptGlyph, source_number, kept_glyph, kept_glyphs}
use Rattle.subsetter_cff.proofs.WriteLaws.LayingLaws.Fronts.{laid_out}
use Rattle.subsetter_cff.proofs.WriteLaws.LayingLaws.Whole.{chars_read, number_read, reads_as}
use Rattle.subsetter_cff.proofs.WriteLaws.Keeping.{entry_of_some}
use Rattle.subsetter_cff.proofs.WriteLaws.AgainLaws.NumberLaws.FontDicts.{keyed_again}

-- ---- a flat charstring flattens to itself
abbrev pub IsFlat : ℕ → ℕ → List ℕ → Type 0
IsFlat tokens depth bytes = (library : Library) → flat_form library tokens depth bytes ≡ Ok bytes

flat_of : (o : Outcome) (u : Trace) → trace_of o ≡ Some u → bytes_of o ≡ Ok (flat u)
flat_of (Finishes t) u e = cc
flat_of (Stops error) u e = absurd (none-some u e)

pub is_flat : (source : Library) (tokens depth : ℕ) (charstring bytes : List ℕ) → 1 ≤ depth → flat_form source tokens depth charstring ≡ Ok bytes → IsFlat tokens depth bytes
is_flat source tokens depth charstring bytes deep e other =
    let k = keeps_trace source other tokens depth depth charstring bytes deep e in
    flat_of (outcome other tokens depth bytes) k.0 k.2 ∙ ap Ok (sym k.3)

-- ---- a glyph
glyph_of : (cff : Cff) (tokens depth glyph number : ℕ) (private : Private) (charstring bytes : List ℕ) → source_number cff glyph ≡ Some number → private_of cff glyph ≡ Some private → char_string cff glyph ≡ Some charstring
    → flat_form (library cff private) tokens depth charstring ≡ Ok bytes → kept_glyph cff tokens depth glyph ≡ Ok (record { number = number; bytes = bytes })
unfolding kept_glyph
glyph_of cff tokens depth glyph number private charstring bytes a b c d = rw (a, b, c, d) refl

pub kept_again : (p : Parts) → Fits p → (tokens depth glyph : ℕ) (bytes : List ℕ) → glyph < length p.char_strings → slice_get p.char_strings glyph ≡ Some bytes → IsFlat tokens depth bytes
    → kept_glyph (laid_out p) tokens depth glyph ≡ Ok (record { number = number_in p.select glyph; bytes = bytes })
kept_again p fits tokens depth glyph bytes lt at flat_already =
    let reads = (reads_as p fits).glyphs glyph lt in
    glyph_of (laid_out p) tokens depth glyph (number_in p.select glyph) _ bytes bytes
    (rw (keyed_again p) (number_read p fits glyph lt)) reads.private (rw (chars_read p fits) (entry_of_some p.char_strings glyph bytes at)) (flat_already _)

-- ---- glyphs
pub kept_each : (cff : Cff) (tokens depth : ℕ) (old : ℕ → ℕ) (f : ℕ → KeptGlyph) (gs : List ℕ) → AllByRecursion (λ g. kept_glyph cff tokens depth (old g) ≡ Ok (f g)) gs
    → kept_glyphs cff tokens depth (map old gs) ≡ Ok (map f gs)
kept_each cff tokens depth old f [] all = refl
kept_each cff tokens depth old f (g ∷ gs) all = rw (all.0, kept_each cff tokens depth old f gs all.1) refl

pub kept_these : (cff : Cff) (tokens depth : ℕ) (new : KeptGlyph → KeptGlyph) (f : ℕ → KeptGlyph) (gs : List ℕ) → AllByRecursion (λ g. kept_glyph cff tokens depth g ≡ Ok (new (f g))) gs
    → kept_glyphs cff tokens depth gs ≡ Ok (map new (map f gs))
kept_these cff tokens depth new f [] all = refl
kept_these cff tokens depth new f (g ∷ gs) all = rw (all.0, kept_these cff tokens depth new f gs all.1) refl

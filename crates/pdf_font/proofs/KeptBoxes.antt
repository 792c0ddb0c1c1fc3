-- The program is the new font, but for the box of `head` and its checksums.
use Rattle.std.proofs.Common.{◌≡◌, ℕ, ◌<◌, true, false, List, length, Option, Some, None, Result, Ok, refl, sym, ap, subst, ◌∙◌}
use Rattle.std.specs.Prelude.{codes}
use Rattle.std.specs.Option.{ok_or, option_map}
use Rattle.subsetter_base.specs.Bytes.{◌>>=◌}
use Rattle.subsetter_base.specs.declared.error.Error.{Error}
use Rattle.subsetter_base.specs.declared.error.Error.TheVariants.{MalformedFont}
use Rattle.subsetter_base.proofs.Results.{bind_ok, done_is}
use Rattle.subsetter_sfnt.specs.Fields.Head.{units_per_em}
use Rattle.subsetter_sfnt.specs.Fields.Hhea.{number_of_h_metrics}
use Rattle.subsetter_sfnt.specs.Read.{Font, as_font, table}
use Rattle.subsetter_sfnt.specs.Laying.Rows.{FontTables, present, rows}
use Rattle.subsetter_sfnt.specs.Laying.Written.{Table, file as laid_out, fits, kind_word, start_of}
use Rattle.subsetter_sfnt.specs.declared.flavor.FontFlavor.{FontFlavor}
use Rattle.subsetter_sfnt.specs.declared.flavor.FontFlavor.TheVariants.{TrueType, Cff}
use Rattle.subsetter_sfnt.proofs.Laws.LayingLaws.Rows.{HasRoom, lookup_row, some_table}
use Rattle.subsetter.specs.Cff.Plain.{Made as CffMade, cff_tables, font_of as cff_font_of, laid as cff_laid, made_of as cff_made_of}
use Rattle.subsetter.specs.Glyf.Written.{is_long}
use Rattle.subsetter.specs.Laid.{AreMade, of_charstrings, of_outlines}
use Rattle.subsetter.specs.Subset.{IsSubset}
use Rattle.subsetter.specs.Truetype.Plain.{font_of}
use Rattle.subsetter.proofs.CffLaws.Steps.{made_steps as cff_steps}
use Rattle.subsetter.proofs.CommonLaws.SharedLaws.Kept.{shared_room}
use Rattle.subsetter.proofs.TruetypeLaws.Steps.{made_steps, tables_steps}
use Rattle.subsetter.proofs.TruetypeLaws.Subset.{laid_is}
use Rattle.cid_embed.specs.Afresh.{Measures, if_units, measures_of, widths_from, widths_of}
use Rattle.pdf_text.specs.declared.values.ProgramKind.{ProgramKind}
use Rattle.pdf_text.specs.declared.values.ProgramKind.TheVariants.{TrueType as TrueTypeFile, BareCff, OpenType as OpenTypeFile}
use Rattle.pdf_values.specs.declared.looks.bounds.GlyphBox.{GlyphBox}
use Rattle.pdf_source.specs.Boxed.{boxed, boxed_if}
use Rattle.pdf_source.specs.Program.{IsProgram}
use Rattle.pdf_source.proofs.Boxes.{other_stays, units_stay}

-- ---- a subset is laid out of tables

pub record IsLaid (out : List ℕ) (kind : FontFlavor) : Type 0 where
  pub tables : FontTables
  pub room : HasRoom tables.head
  pub fit : fits (start_of (present (rows tables))) (present (rows tables)) ≡ true
  pub some : 0 < length (present (rows tables))
  pub is : out ≡ laid_out (kind_word kind) (present (rows tables))

pub cff_before : (find : List ℕ → Option (List ℕ)) (source : List ℕ) (tokens depth : ℕ) (order : List ℕ) (ts : List Table) → cff_tables find source tokens depth order ≡ Ok ts → (m : CffMade) × (cff_made_of find source tokens depth order ≡ Ok m) × (cff_laid m ≡ ts)
unfolding cff_tables
cff_before find source tokens depth order ts h = let a = bind_ok (cff_made_of find source tokens depth order) (λ m. Ok (cff_laid m)) ts h in (a.0, a.1, done_is (cff_laid a.0) ts a.2)

is_laid_by : (tokens depth : ℕ) (font : Font) (order out : List ℕ) (kind : FontFlavor) (ts : List Table) → AreMade tokens depth font order ts kind → fits (start_of ts) ts ≡ true → out ≡ laid_out (kind_word kind) ts → IsLaid out kind
is_laid_by tokens depth font order out _ ts (of_outlines source read made) fit is =
    let a = tables_steps (table font) source order ts made in
    let steps = made_steps (table font) source order a.0 a.1 in
    let same : ts ≡ present (rows (font_of (table font) a.0)) = sym a.2 ∙ laid_is (table font) a.0 in
    record {
      tables = font_of (table font) a.0;
      room = shared_room (table font) TrueType (is_long a.0.outlines) order a.0.shared steps.shared;
      fit = subst (λ (l : List Table). fits (start_of l) l ≡ true) same fit;
      some = some_table (codes "loca") a.0.loca (present (rows (font_of (table font) a.0))) (lookup_row (font_of (table font) a.0) (codes "loca"));
      is = is ∙ ap (laid_out (kind_word TrueType)) same;
    }
is_laid_by tokens depth font order out _ ts (of_charstrings source flavored there made) fit is =
    let a = cff_before (table font) source tokens depth order ts made in
    let steps = cff_steps (table font) source tokens depth order a.0 a.1 in
    record {
      tables = cff_font_of a.0;
      room = shared_room (table font) Cff false order a.0.shared steps.shared;
      fit = subst (λ (l : List Table). fits (start_of l) l ≡ true) (sym a.2) fit;
      some = some_table (codes "CFF ") a.0.cff (cff_laid a.0) (lookup_row (cff_font_of a.0) (codes "CFF "));
      is = is ∙ ap (laid_out (kind_word Cff)) (sym a.2);
    }

pub is_laid : (tokens depth : ℕ) (font : Font) (glyphs out : List ℕ) (s : IsSubset tokens depth font glyphs out) → IsLaid out s.keeps.kind
is_laid tokens depth font glyphs out s = is_laid_by tokens depth font s.keeps.order out s.keeps.kind s.layout.tables s.layout.made s.layout.room s.layout.bytes

-- ---- the widths, read afresh

from_tables : Option (List ℕ) → Option (List ℕ) → Option (List ℕ) → Result Measures Error
from_tables hmtx_table head_table hhea_table = do
  hmtx ← ok_or hmtx_table MalformedFont
  head ← ok_or head_table MalformedFont
  found ← ok_or (units_per_em head) MalformedFont
  units ← if_units found
  hhea ← ok_or hhea_table MalformedFont
  pairs ← ok_or (number_of_h_metrics hhea) MalformedFont
  Ok (record { hmtx = hmtx; number_of_h_metrics = pairs; units = units })

-- of `head` unitsPerEm alone is read
from_units : Option (List ℕ) → Option (Option ℕ) → Option (List ℕ) → Result Measures Error
from_units hmtx_table units_there hhea_table = do
  hmtx ← ok_or hmtx_table MalformedFont
  there ← ok_or units_there MalformedFont
  found ← ok_or there MalformedFont
  units ← if_units found
  hhea ← ok_or hhea_table MalformedFont
  pairs ← ok_or (number_of_h_metrics hhea) MalformedFont
  Ok (record { hmtx = hmtx; number_of_h_metrics = pairs; units = units })

by_units : (hmtx head hhea : Option (List ℕ)) → from_tables hmtx head hhea ≡ from_units hmtx (option_map units_per_em head) hhea
unfolding from_tables from_units
by_units None head hhea = refl
by_units (Some x) None hhea = refl
by_units (Some x) (Some y) hhea = refl

measured : (look : List ℕ → Option (List ℕ)) → measures_of look ≡ from_units (look (codes "hmtx")) (option_map units_per_em (look (codes "head"))) (look (codes "hhea"))
unfolding measures_of from_tables
measured look = by_units (look (codes "hmtx")) (look (codes "head")) (look (codes "hhea"))

pub same_widths : (look other : List ℕ → Option (List ℕ)) (n : ℕ) → look (codes "hmtx") ≡ other (codes "hmtx") → option_map units_per_em (look (codes "head")) ≡ option_map units_per_em (other (codes "head")) → look (codes "hhea") ≡ other (codes "hhea") → widths_of look n ≡ widths_of other n
unfolding widths_of
same_widths look other n a b c =
    let first = ap (λ (o : Option (List ℕ)). from_units o (option_map units_per_em (look (codes "head"))) (look (codes "hhea"))) a in
    let second = ap (λ (o : Option (Option ℕ)). from_units (other (codes "hmtx")) o (look (codes "hhea"))) b in
    let third = ap (λ (o : Option (List ℕ)). from_units (other (codes "hmtx")) (option_map units_per_em (other (codes "head"))) o) c in
    ap (λ (r : Result Measures Error). r >>= λ m. widths_from m 0 n) (measured look ∙ first ∙ second ∙ third ∙ sym (measured other))

boxed_widths : (out : List ℕ) (kind : FontFlavor) (l : IsLaid out kind) (b : GlyphBox) (n : ℕ) → widths_of (table (as_font (boxed b out))) n ≡ widths_of (table (as_font out)) n
boxed_widths out kind l b n =
    let F = laid_out (kind_word kind) (present (rows l.tables)) in
    let of_laid : widths_of (table (as_font (boxed b F))) n ≡ widths_of (table (as_font F)) n =
    same_widths (table (as_font (boxed b F))) (table (as_font F)) n
    (other_stays kind l.tables l.room l.fit b (codes "hmtx") refl refl) (units_stay kind l.tables l.room l.fit b) (other_stays kind l.tables l.room l.fit b (codes "hhea") refl refl) in
    subst (λ (x : List ℕ). widths_of (table (as_font (boxed b x))) n ≡ widths_of (table (as_font x)) n) (sym l.is) of_laid

pub same_read : (out : List ℕ) (kind : FontFlavor) (l : IsLaid out kind) (box : Option GlyphBox) (n : ℕ) → widths_of (table (as_font (boxed_if box out))) n ≡ widths_of (table (as_font out)) n
same_read out kind l None n = refl
same_read out kind l (Some b) n = boxed_widths out kind l b n

-- ---- the program

pub program_is : (kind : ProgramKind) (box : Option GlyphBox) (file program : List ℕ) → IsProgram kind box file program → (kind ≡ BareCff → ⊥) → boxed_if box file ≡ program
program_is TrueTypeFile box file program is not = sym is
program_is BareCff box file program is not = absurd (not refl)
program_is OpenTypeFile box file program is not = sym is

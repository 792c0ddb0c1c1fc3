-- The `CFF ` of a program is that of the subset but for widths.
use Rattle.std.proofs.Common.{◌≡◌, ℕ, ◌≤◌, true, false, List, length, Option, Some, None, Ok, refl, sym, ap, subst, ◌∙◌, inl, inr, arith, length-append}
use Rattle.std.specs.Prelude.{codes}
use Rattle.std.proofs.lemmas.Option.{same_Some}
use Rattle.subsetter_base.proofs.GlyphLemmas.{known-all}
use Rattle.subsetter_cff.specs.Write.Plain.{cff_subset}
use Rattle.subsetter_sfnt.specs.Read.{Font, as_font, stored, table}
use Rattle.subsetter_sfnt.specs.Laying.Rows.{tags_of}
use Rattle.subsetter_sfnt.specs.Laying.Written.{Table, file as laid_out, fits, kind_word, start_of}
use Rattle.subsetter_sfnt.specs.declared.flavor.FontFlavor.{FontFlavor}
use Rattle.subsetter_sfnt.specs.declared.flavor.FontFlavor.TheVariants.{TrueType, Cff}
use Rattle.subsetter_sfnt.proofs.Laws.LayingLaws.Laid.{row_back}
use Rattle.subsetter.specs.Cff.Plain.{font_of}
use Rattle.subsetter.specs.Laid.{AreMade, of_charstrings, of_outlines}
use Rattle.subsetter.proofs.CffLaws.Steps.{made_steps}
use Rattle.subsetter.proofs.CommonLaws.SharedLaws.Kept.{shared_room}
use Rattle.cid_embed.specs.Embed.{numbering}
use Rattle.pdf_codes.specs.Codes.{glyphs_of}
use Rattle.pdf_text.specs.declared.values.ProgramKind.{ProgramKind}
use Rattle.pdf_text.specs.declared.values.ProgramKind.TheVariants.{TrueType as TrueTypeFile, BareCff, OpenType as OpenTypeFile}
use Rattle.pdf_values.specs.declared.looks.bounds.GlyphBox.{GlyphBox}
use Rattle.pdf_widths.proofs.Whole.{tables_change}
use Rattle.pdf_source.specs.Boxed.{boxed, boxed_if}
use Rattle.pdf_source.specs.Moved.{program_box}
use Rattle.pdf_source.specs.Program.{IsProgram, kind_of}
use Rattle.pdf_source.specs.Widened.{widened}
use Rattle.pdf_source.specs.declared.choice.ProgramChoice.{ProgramChoice}
use Rattle.pdf_source.proofs.Boxes.{other_stays}
use Rattle.pdf_font.specs.Laws.{CffWidthsAgree, cff_in}
use Rattle.pdf_font.proofs.Answered.{known_some}
use Rattle.pdf_font.proofs.Fresh.{new_opens}
use Rattle.pdf_font.proofs.KeptBoxes.{IsLaid, cff_before, is_laid}
use Rattle.pdf_font.proofs.Wide.{has_cff, wide_laid}

-- ---- the table of the subset
cff_made : (tokens depth : ℕ) (font : Font) (order out : List ℕ) (kind : FontFlavor) (ts : List Table) → AreMade tokens depth font order ts kind → fits (start_of ts) ts ≡ true → out ≡ laid_out (kind_word kind) ts → kind ≡ Cff
    → (old : List ℕ) → table (as_font out) (codes "CFF ") ≡ Some old → (source : List ℕ) × (cff_subset source tokens depth order ≡ Ok old)
cff_made tokens depth font order out _ ts (of_outlines source read made) fit is e old at = absurd cc
cff_made tokens depth font order out _ ts (of_charstrings source flavored there made) fit is e old at =
    let a = cff_before (table font) source tokens depth order ts made in
    let steps = made_steps (table font) source tokens depth order a.0 a.1 in
    let room = shared_room (table font) Cff false order a.0.shared steps.shared in
    let back = row_back Cff (font_of a.0) room (subst (λ (l : List Table). fits (start_of l) l ≡ true) (sym a.2) fit) (codes "CFF ") refl in
    let whole : table (as_font (laid_out (kind_word Cff) ts)) (codes "CFF ") ≡ Some a.0.cff = ap (λ (l : List Table). table (as_font (laid_out (kind_word Cff) l)) (codes "CFF ")) (sym a.2) ∙ back in
    let there : table (as_font (laid_out (kind_word Cff) ts)) (codes "CFF ") ≡ Some old = ap (λ (l : List ℕ). table (as_font l) (codes "CFF ")) (sym is) ∙ at in
    (source, steps.cff_is ∙ ap Ok (same_Some _ _ (sym whole ∙ there)))

-- ---- the program
boxed_cff : (wide : List ℕ) (kind : FontFlavor) (l : IsLaid wide kind) (box : Option GlyphBox) → table (as_font (boxed_if box wide)) (codes "CFF ") ≡ table (as_font wide) (codes "CFF ")
boxed_cff wide kind l None = refl
boxed_cff wide kind l (Some b) =
    subst (λ (x : List ℕ). table (as_font (boxed b x)) (codes "CFF ") ≡ table (as_font x) (codes "CFF ")) (sym l.is) (other_stays kind l.tables l.room l.fit b (codes "CFF ") refl refl)

program_cff : (kind : ProgramKind) (box : Option GlyphBox) (wide program : List ℕ) (flavor : FontFlavor) → IsLaid wide flavor → (kind ≡ TrueTypeFile → ⊥) → IsProgram kind box wide program → cff_in kind program ≡ table (as_font wide) (codes "CFF ")
program_cff TrueTypeFile box wide program flavor l not is = absurd (not refl)
program_cff BareCff box wide program flavor l not is = sym is
program_cff OpenTypeFile box wide program flavor l not is = ap (λ (x : List ℕ). table (as_font x) (codes "CFF ")) is ∙ boxed_cff wide flavor l box

has_charstrings : (kind : ProgramKind) (flavor : FontFlavor) (choice : ProgramChoice) → kind ≡ kind_of flavor choice → (kind ≡ TrueTypeFile → ⊥) → flavor ≡ Cff
has_charstrings kind TrueType choice e not = absurd (not e)
has_charstrings kind Cff choice e not = refl

pub cff_widths : CffWidthsAgree
cff_widths font settings options us f p old not is =
    let file = p.made.new.font.items in
    let advances = f.exact_widths.items in
    let wide = widened advances file in
    let subset = p.made.embedded.answer.embedded.subset in
    let keeps = subset.keeps in
    let laid = is_laid options.limits.tokens options.limits.depth p.made.embedded.static (numbering (glyphs_of us)) file subset in
    let opens = new_opens keeps.kind (tags_of keeps.kind (table p.made.embedded.static)) file keeps.container in
    let anew = wide_laid advances file keeps.kind opens laid in
    let has = has_cff advances file opens old is in
    let there = program_cff f.kind (program_box (stored font) (stored (as_font file)) f.glyph_count options.bounds) wide f.program.items anew.0 anew.1 not p.made.program in
    let flavor = has_charstrings f.kind keeps.kind options.program p.made.kind not in
    let made = cff_made options.limits.tokens options.limits.depth p.made.embedded.static keeps.order file keeps.kind subset.layout.tables subset.layout.made subset.layout.room subset.layout.bytes flavor old is in
    let some : 1 ≤ length (numbering (glyphs_of us)) = omega (arith, known_some (numbering (glyphs_of us)) (known-all (glyphs_of us) 0)) in
    let all : 1 ≤ length keeps.order = omega (arith, some, ap length keeps.is_order.begins, length-append (numbering (glyphs_of us)) keeps.is_order.others) in
    record {
      cff = has.cff;
      cff_is = there ∙ has.cff_is;
      widths = elim has.wide [
        | inl same ↦ inl same
        | inr other ↦ inr (tables_change made.0 options.limits.tokens options.limits.depth keeps.order advances old has.cff all (omega (arith, keeps.few)) made.1 other)
      ];
    }

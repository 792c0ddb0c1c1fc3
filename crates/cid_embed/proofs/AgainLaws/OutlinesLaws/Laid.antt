-- The parts that a subset with outlines in `glyf` was laid out from, and its tables read afresh.
use Rattle.std.proofs.Common.{◌≡◌, ℕ, ◌<◌, Bool, true, List, [], length, get_or, Option, Some, Ok, refl, sym, ap, subst, ◌∙◌, arith}
use Rattle.std.specs.Prelude.{codes}
use Rattle.subsetter_base.specs.Bytes.{IsBytes}
use Rattle.subsetter_sfnt.specs.declared.flavor.FontFlavor.TheVariants.{TrueType}
use Rattle.subsetter_sfnt.specs.Read.{Font, as_font, table}
use Rattle.subsetter_sfnt.specs.Laying.Written.{Table, with_adjustment, fits, file, start_of, kind_word}
use Rattle.subsetter.specs.Glyf.BareOutlines.Bare.{requested_parts}
use Rattle.subsetter.specs.Glyf.Parts.{Parts, outline_parts, parts_bytes}
use Rattle.subsetter.specs.Glyf.Plain.{renumbered}
use Rattle.subsetter.specs.Glyf.Read.{Outlines, outlines, outline_in}
use Rattle.subsetter.specs.Glyf.Reaching.Unfold.{padded}
use Rattle.subsetter.specs.Glyf.Written.{is_long, glyf_bytes}
use Rattle.subsetter.specs.Common.Head.Written.{head_bytes}
use Rattle.subsetter.specs.Truetype.Plain.{Made, made_of, laid}
use Rattle.subsetter.proofs.GlyfLaws.Back.{AreWritten, read_back}
use Rattle.subsetter.proofs.GlyfLaws.Fault.{has_tables}
use Rattle.subsetter.proofs.GlyfLaws.Kept.{kept_at, length-kept_all}
use Rattle.subsetter.proofs.GlyfLaws.ReachingLaws.Unfold.{padded_parts, parts_back, outline_bytes, small_numbers}
use Rattle.subsetter_sfnt.proofs.Laws.Back.{word_of}
use Rattle.subsetter_sfnt.proofs.Laws.LayingLaws.TableBytes.{table_bytes}
use Rattle.subsetter.proofs.CommonLaws.SharedLaws.Kept.{AreBack}
use Rattle.subsetter.proofs.TruetypeLaws.Steps.{MadeSteps, made_steps, tables_steps}
use Rattle.subsetter.proofs.TruetypeLaws.Subset as landed
use Rattle.cid_embed.proofs.AgainLaws.ByKind.{IsOutlineSubset}

-- a glyph of a subset, and its source
pub record IsGlyph (t u : Outlines) (order : List ℕ) (i : ℕ) (b : List ℕ) : Type 0 where
  pub bytes : List ℕ
  pub there : outline_in t (get_or order i 0) ≡ Some bytes
  pub parts : Parts
  pub parts_are : requested_parts t.hinting (outline_parts bytes) ≡ Some parts
  pub fit : IsBytes bytes
  pub written : parts_bytes (renumbered order parts) ≡ b
  pub copy_is : outline_in u i ≡ Some (padded u.long b)
  pub copy_parts : outline_parts (padded u.long b) ≡ Some (padded_parts u.long (renumbered order parts))

module _ (font : Font) (glyphs out : List ℕ) (sub : IsOutlineSubset font glyphs out) where
  abbrev pub find : List ℕ → Option (List ℕ)
  find = table font

  abbrev pub order : List ℕ
  order = sub.order

  abbrev pub t : Outlines
  t = sub.source

  pub made : (m : Made) × (made_of find t order ≡ Ok m) × (laid find m ≡ sub.tables)
  made = tables_steps find t order sub.tables sub.tables_are

  abbrev pub m : Made
  m = made.0

  pub s : MadeSteps find t order m
  s = made_steps find t order m made.1

  pub out_is : out ≡ file (kind_word TrueType) (laid find m)
  out_is = sub.bytes ∙ ap (file (kind_word TrueType)) (sym made.2)

  pub fit : fits (start_of (laid find m)) (laid find m) ≡ true
  fit = subst (λ (l : List Table). fits (start_of l) l ≡ true) (sym made.2) sub.room

  abbrev pub long : Bool
  long = is_long m.outlines

  abbrev pub word : ℕ
  word = word_of (kind_word TrueType) (laid find m)

  -- the shared tables, read afresh
  pub shared_back : AreBack (as_font out) word m.shared
  shared_back = subst (λ (f : List ℕ). AreBack (as_font f) word m.shared) (sym out_is) (landed.shared_back font t order m sub.read s fit)

  -- the tables of outlines, read afresh
  abbrev pub afresh : Outlines
  afresh = record { loca = m.loca; glyf = glyf_bytes long m.outlines; head = with_adjustment word (head_bytes long t.head); long = long; hinting = true }

  pub read_afresh : outlines (as_font out) ≡ Some afresh
  read_afresh = ap (λ (f : List ℕ). outlines (as_font f)) out_is ∙ landed.outlines_back font t order m sub.read s fit

  written : AreWritten m.outlines afresh
  written = record { long_is = refl; glyf_is = refl; loca_is = s.loca_is; small = s.small }

  -- each glyph and its source
  pub glyph_is : IsBytes font.bytes → (i : ℕ) → i < length order → IsGlyph t afresh order i (get_or m.outlines i [])
  glyph_is bytes i lt =
      let k = kept_at t order order m.outlines i s.kept lt in
      let size = length-kept_all t order order m.outlines s.kept in
      let fit_bytes = outline_bytes t (get_or order i 0) k.bytes (table_bytes font (codes "glyf") t.glyf bytes (has_tables font.extras.hinting find t sub.read).glyf_is) k.there in
      record {
        bytes = k.bytes;
        there = k.there;
        parts = k.parts;
        parts_are = k.parts_are;
        fit = fit_bytes;
        written = k.written;
        copy_is = read_back m.outlines afresh i written (omega (arith, lt, size));
        copy_parts = ap (λ (x : List ℕ). outline_parts (padded long x)) (sym k.written) ∙ parts_back t.hinting long order k.bytes k.parts (small_numbers order sub.few) fit_bytes k.parts_are;
      }

-- What is made of a font with a CFF table is a subset.
use Rattle.std.proofs.Common.{◌≡◌, ℕ, ◌≤◌, true, false, List, length, Option, Some, None, refl, sym, ap, ◌∙◌, arith}
use Rattle.std.specs.Prelude.{codes, is_some}
use Rattle.std.specs.Option.{option_map}
use Rattle.std.specs.Str.{bytes_eq}
use Rattle.subsetter_base.specs.Bytes.{IsBytes}
use Rattle.subsetter_base.specs.Indexes.{IsWithoutRepeats}
use Rattle.subsetter_base.specs.declared.error.Error.{Error}
use Rattle.subsetter_base.proofs.Options.{some_not_none}
use Rattle.subsetter_cff.proofs.WriteLaws.Headline.{answered_is_subset}
use Rattle.subsetter_sfnt.specs.declared.flavor.FontFlavor.TheVariants.{Cff}
use Rattle.subsetter_sfnt.specs.Container.{IsSoundContainer}
use Rattle.subsetter_sfnt.specs.Read.{Font, as_font, table, flavor}
use Rattle.subsetter_sfnt.specs.Laying.Rows.{bytes_of, rows, called_for, tags_of}
use Rattle.subsetter_sfnt.specs.Laying.Written.{fits, file, start_of, kind_word}
use Rattle.subsetter.specs.Glyf.Read.{outlines}
use Rattle.subsetter.specs.Common.Hmtx.Written.{MetricBytes}
use Rattle.subsetter.specs.Cff.Plain.{Made, font_of, laid}
use Rattle.subsetter.specs.Cff.Read.{KeepsCharStrings}
use Rattle.subsetter.specs.Fault.{HasFault}
use Rattle.subsetter.specs.Laid.{of_charstrings}
use Rattle.subsetter.specs.Subset.{by_charstrings, IsSubset}
use Rattle.subsetter.specs.Answer.{IsAnswer}
use Rattle.subsetter_sfnt.proofs.Laws.Back.{word_of}
use Rattle.subsetter_sfnt.proofs.Laws.LayingLaws.Laid.{row_back, head_row_back, rows_sound}
use Rattle.subsetter_sfnt.proofs.Laws.LayingLaws.Rows.{HasRoom, AreAlike, lookup_row, some_table}
use Rattle.subsetter.proofs.CommonLaws.SharedLaws.Steps.{head_there, maxp_there, metrics_there, name_there, post_there}
use Rattle.subsetter.proofs.CommonLaws.SharedLaws.Kept.{shared_room, AreBack, keeps_shared}
use Rattle.subsetter.proofs.CffLaws.Order.{no_glyf, no_outlines, given_order}
use Rattle.subsetter.proofs.CffLaws.Steps.{MadeSteps, made_tables}

some_map : {A B : Type 0} (f : A → B) (o : Option A) → is_some (option_map f o) ≡ is_some o
some_map f None = refl
some_map f (Some x) = refl

module _ (tokens depth : ℕ) (font : Font) (glyphs source : List ℕ) (kind : flavor font ≡ Some Cff) (there : table font (codes "CFF ") ≡ Some source) (m : Made) (s : MadeSteps (table font) source tokens depth glyphs m) (fit : fits (start_of (laid m)) (laid m) ≡ true) where
  room : HasRoom m.shared.head
  room = shared_room (table font) Cff false glyphs m.shared s.shared

  pub back : (tag : List ℕ) → bytes_eq tag (codes "head") ≡ false → table (as_font (file (kind_word Cff) (laid m))) tag ≡ bytes_of tag (rows (font_of m))
  back tag other = row_back Cff (font_of m) room fit tag other

  pub shared_back : AreBack (as_font (file (kind_word Cff) (laid m))) (word_of (kind_word Cff) (laid m)) m.shared
  shared_back = record {
    head = head_row_back Cff (font_of m) room fit;
    hhea = back (codes "hhea") refl;
    hmtx = back (codes "hmtx") refl;
    maxp = back (codes "maxp") refl;
    name = back (codes "name") refl;
    post = back (codes "post") refl;
  }

  -- the tables that were laid out are those that the source calls for
  alike : AreAlike (font_of m) (called_for Cff (table font))
  alike =
      let metrics = metrics_there (table font) glyphs m.shared.metrics s.shared.metrics_are in
      record {
        cff = sym (ap (λ (o : Option (List ℕ)). is_some o) there);
        cvt = refl;
        fpgm = refl;
        glyf = refl;
        head = head_there (table font) false m.shared.head s.shared.head_is;
        hhea = some_map (λ (x : MetricBytes). x.hhea) m.shared.metrics ∙ metrics;
        hmtx = some_map (λ (x : MetricBytes). x.hmtx) m.shared.metrics ∙ metrics;
        loca = refl;
        maxp = maxp_there (table font) Cff (length glyphs) m.shared.maxp s.shared.maxp_is;
        name = name_there (table font) m.shared.name s.shared.name_is;
        post = post_there (table font) glyphs m.shared.post s.shared.post_is;
        prep = refl;
      }

  pub container : IsSoundContainer (file (kind_word Cff) (laid m)) (kind_word Cff) (tags_of Cff (table font))
  container = rows_sound Cff (font_of m) room fit (called_for Cff (table font)) (some_table (codes "CFF ") m.cff (laid m) (lookup_row (font_of m) (codes "CFF "))) alike

  pub char_strings : 1 ≤ depth → 1 ≤ length glyphs → length glyphs ≤ 65535 → KeepsCharStrings tokens depth font glyphs (as_font (file (kind_word Cff) (laid m)))
  char_strings deep some few = record {
    source = source;
    source_is = there;
    copy = m.cff;
    copy_is = back (codes "CFF ") refl;
    kept = answered_is_subset source tokens depth glyphs m.cff deep some few s.cff_is;
  }

  unfoldable pub made_subset : IsBytes font.bytes → 1 ≤ depth → 1 ≤ length glyphs → length glyphs ≤ 65535 → IsWithoutRepeats glyphs → IsSubset tokens depth font glyphs (file (kind_word Cff) (laid m))
  made_subset bytes deep some few once = record {
    keeps = record {
      order = glyphs;
      is_order = given_order font glyphs (no_glyf font kind) once;
      few = omega (arith, few);
      kind = Cff;
      kind_is = kind;
      container = container;
      shared = keeps_shared font (as_font (file (kind_word Cff) (laid m))) Cff false glyphs m.shared (word_of (kind_word Cff) (laid m)) s.shared shared_back bytes (omega (arith, some)) (omega (arith, few));
      drawing = by_charstrings (char_strings deep some few);
    };
    layout = record { tables = laid m; made = of_charstrings source kind there (made_tables (table font) source tokens depth glyphs m s.made); bytes = refl; room = fit };
  }

  -- and there is no fault
  pub made_clean : IsBytes font.bytes → 1 ≤ depth → 1 ≤ length glyphs → length glyphs ≤ 65535 → IsWithoutRepeats glyphs → ((e : Error) → HasFault tokens depth font glyphs glyphs e → ⊥) → IsAnswer tokens depth font glyphs (file (kind_word Cff) (laid m))
  unfolding made_subset
  made_clean bytes deep some few once clean = record {
    subset = made_subset bytes deep some few once;
    clean = clean;
    found = λ source r. absurd (some_not_none (outlines font) source r (no_outlines font (no_glyf font kind)));
  }

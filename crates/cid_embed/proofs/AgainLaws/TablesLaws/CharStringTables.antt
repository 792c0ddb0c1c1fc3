-- The tables with a CFF table of some glyphs of a subset: as they are answered of the first font.
use Rattle.std.proofs.Common.{◌≡◌, ℕ, ◌≤◌, ◌<◌, Bool, true, false, cond, List, length, Option, Some, None, refl, sym, ap, ◌∙◌, arith}
use Rattle.std.specs.Prelude.{codes, is_some, IsSome}
use Rattle.std.specs.Option.{option_map}
use Rattle.std.specs.Str.{bytes_eq}
use Rattle.subsetter_base.specs.Bytes.{IsBytes}
use Rattle.subsetter_cff.specs.Read.Cff.{cff_parts}
use Rattle.subsetter_cff.specs.Write.Plain.{cff_subset}
use Rattle.subsetter_cff.specs.Write.Again.{composed, AreGlyphs, IsRequested}
use Rattle.subsetter_cff.proofs.WriteLaws.AgainLaws.Tables.{is_same_table}
use Rattle.subsetter_sfnt.specs.declared.flavor.FontFlavor.TheVariants.{Cff}
use Rattle.subsetter_sfnt.specs.Read.{Font, as_font, table}
use Rattle.subsetter_sfnt.specs.Laying.Rows.{called_for, tags_of}
use Rattle.subsetter_sfnt.specs.Laying.Written.{with_adjustment}
use Rattle.subsetter.specs.Common.Hmtx.Written.{MetricBytes}
use Rattle.subsetter.specs.Common.Shared.Plain.{shared_of}
use Rattle.subsetter.specs.Cff.Plain.{made_of, cff_tables}
use Rattle.subsetter_sfnt.proofs.Laws.LayingLaws.Rows.{AreAlike, same_tags}
use Rattle.subsetter.proofs.CommonLaws.SharedLaws.Steps.{head_there, maxp_there, metrics_there, name_there, post_there}
use Rattle.cid_embed.specs.Again.{requests_less, IsCidKeyed}
use Rattle.cid_embed.proofs.AgainLaws.Basics.{one_found}
use Rattle.cid_embed.proofs.AgainLaws.ByKind.{IsCharStringSubset}
use Rattle.cid_embed.proofs.AgainLaws.OutlinesLaws.CharStrings as laid_out
use Rattle.cid_embed.proofs.AgainLaws.OrderLaws.GivenOrder.{each_of}
use Rattle.cid_embed.proofs.AgainLaws.Less.{other_table, name_table, post_there_less}
use Rattle.cid_embed.proofs.AgainLaws.OrderLaws.Places.{AreAt, picked_at}
use Rattle.cid_embed.proofs.AgainLaws.TablesLaws.Shared.{shared_again}

tables_by : (find back : List ℕ → Option (List ℕ)) (source copy : List ℕ) (tokens depth : ℕ) (order second : List ℕ) → cff_subset copy tokens depth second ≡ cff_subset source tokens depth order → shared_of back Cff false second ≡ shared_of find Cff false order
    → cff_tables back copy tokens depth second ≡ cff_tables find source tokens depth order
unfolding cff_tables made_of
tables_by find back source copy tokens depth order second h k = rw (h, k) refl

some_map : {A B : Type 0} (f : A → B) (o : Option A) → is_some (option_map f o) ≡ is_some o
some_map f None = refl
some_map f (Some x) = refl

module _ (tokens depth : ℕ) (font : Font) (glyphs out : List ℕ) (bytes : IsBytes font.bytes) (first : IsCharStringSubset tokens depth font glyphs out) where
  -- the subset has the tables that its source has, of those that a subset calls for
  alike : AreAlike (called_for Cff (table (as_font out))) (called_for Cff (table font))
  alike =
      let m = laid_out.m tokens depth font glyphs out first in
      let s = (laid_out.s tokens depth font glyphs out first).shared in
      let back = laid_out.shared_back tokens depth font glyphs out first in
      let there : Option (List ℕ) → Bool = λ o. is_some o in
      let metrics = ap there back.hmtx ∙ some_map (λ (x : MetricBytes). x.hmtx) m.shared.metrics ∙ metrics_there (table font) first.order m.shared.metrics s.metrics_are in
      record {
        cff = ap there (laid_out.cff_back tokens depth font glyphs out first) ∙ sym (ap there first.source_is);
        cvt = refl;
        fpgm = refl;
        glyf = refl;
        head = ap there back.head ∙ some_map (with_adjustment (laid_out.word tokens depth font glyphs out first)) m.shared.head ∙ head_there (table font) false m.shared.head s.head_is;
        hhea = metrics;
        hmtx = metrics;
        loca = refl;
        maxp = ap there back.maxp ∙ maxp_there (table font) Cff (length first.order) m.shared.maxp s.maxp_is;
        name = ap there back.name ∙ name_there (table font) m.shared.name s.name_is;
        post = ap there back.post ∙ post_there (table font) first.order m.shared.post s.post_is;
        prep = refl;
      }

  -- also where less is asked for
  module _ (n g : Bool) where
    abbrev middle : Font
    middle = requests_less n g (as_font out)

    abbrev source : Font
    source = requests_less n g font

    there_less : (tag : List ℕ) → bytes_eq tag (codes "name") ≡ false → bytes_eq tag (codes "post") ≡ false → is_some (table (as_font out) tag) ≡ is_some (table font tag) → is_some (table middle tag) ≡ is_some (table source tag)
    there_less tag h k same =
        let there : Option (List ℕ) → Bool = λ o. is_some o in
        ap there (other_table n g (as_font out) tag h k) ∙ same ∙ sym (ap there (other_table n g font tag h k))

    names_there : is_some (table (as_font out) (codes "name")) ≡ is_some (table font (codes "name")) → is_some (table middle (codes "name")) ≡ is_some (table source (codes "name"))
    names_there same =
        let there : Option (List ℕ) → Bool = λ o. is_some o in
        ap there (name_table n g (as_font out)) ∙ by n ∙ sym (ap there (name_table n g font))
      where
        by : (b : Bool) → is_some (cond b (table (as_font out) (codes "name")) None) ≡ is_some (cond b (table font (codes "name")) None)
        by true = same
        by false = refl

    alike_less : AreAlike (called_for Cff (table middle)) (called_for Cff (table source))
    alike_less = record {
      cff = there_less (codes "CFF ") refl refl alike.cff;
      cvt = refl;
      fpgm = refl;
      glyf = refl;
      head = there_less (codes "head") refl refl alike.head;
      hhea = there_less (codes "hmtx") refl refl alike.hhea;
      hmtx = there_less (codes "hmtx") refl refl alike.hmtx;
      loca = refl;
      maxp = there_less (codes "maxp") refl refl alike.maxp;
      name = names_there alike.name;
      post = post_there_less n g (as_font out) ∙ alike.post ∙ sym (post_there_less n g font);
      prep = refl;
    }

    pub tags_same : tags_of Cff (table middle) ≡ tags_of Cff (table source)
    tags_same = same_tags (called_for Cff (table middle)) (called_for Cff (table source)) alike_less

  some : IsSome (table font (codes "hmtx")) → 0 < length first.order
  some there = let k = first.shared.metrics there in omega (arith, k.at_least, k.at_most)

  -- ---- of glyphs of the subset

  module _ (second : List ℕ) (inside : AreGlyphs first.order second) where
    pub at : AreAt first.order second (composed first.order second)
    at = picked_at first.order second (each_of (length first.order) second inside)

    module _ (n g : Bool) where
      pub shared_same : shared_of (table (requests_less n g (as_font out))) Cff false second ≡ shared_of (table (requests_less n g font)) Cff false (composed first.order second)
      shared_same =
          shared_again font (as_font out) bytes Cff false first.order second (composed first.order second) (laid_out.word tokens depth font glyphs out first) (laid_out.m tokens depth font glyphs out first).shared (laid_out.s tokens depth font glyphs out first).shared
          (laid_out.shared_back tokens depth font glyphs out first) some first.few at n g false

      -- the same tables, or the same refusal, where the first font is CID-keyed
      pub tables_same : 1 ≤ depth → 1 ≤ length first.order → IsCidKeyed font
          → cff_tables (table (requests_less n g (as_font out))) (laid_out.m tokens depth font glyphs out first).cff tokens depth second ≡ cff_tables (table (requests_less n g font)) first.source tokens depth (composed first.order second)
      tables_same deep one cid =
          let source : cid.bytes ≡ first.source = one_found (table font (codes "CFF ")) _ _ cid.bytes_are first.source_is in
          let asked : IsRequested depth first.order = record { deep = deep; some = one; few = omega (arith, first.few) } in
          let cff = is_same_table first.source cid.cff tokens depth first.order second (laid_out.m tokens depth font glyphs out first).cff asked (ap cff_parts (sym source) ∙ cid.cff_is) cid.keyed (laid_out.s tokens depth font glyphs out first).cff_is inside in
          tables_by (table (requests_less n g font)) (table (requests_less n g (as_font out))) first.source (laid_out.m tokens depth font glyphs out first).cff tokens depth (composed first.order second) second cff shared_same

-- What the plain way makes is a static font.
use Rattle.std.proofs.Common.{◌≡◌, ℕ, List, Ok, ℤ, refl, sym, ap, subst, ◌∙◌}
use Rattle.subsetter_base.specs.Bytes.{IsBytes}
use Rattle.subsetter_base.specs.declared.tag.Tag.{Tag}
use Rattle.subsetter_sfnt.specs.Read.{Font, stored}
use Rattle.subsetter_cff_instance.specs.CffInstance.{IsCffInstance}
use Rattle.subsetter_cff_instance.specs.Laws.{IsCffReadAfresh}
use Rattle.subsetter_cff_instance.specs.Plain.{cff_instance_of}
use Rattle.subsetter_cff_instance.proofs.FileLaws.Afresh.{made, container, alone, afresh, read_back, table_back, outlines, asked_for, others, extents, keeps_head, keeps_head_middle, has_head_box, keeps_hhea, has_extremes, keeps_middle, keeps_maxp, keeps_name, keeps_post}
use Rattle.subsetter_cff_instance.proofs.Steps.{CffSteps, font_steps}

module _ (font : Font) (settings : List (Tag × ℤ)) (glyphs : List ℕ) (tokens depth : ℕ) (out : List ℕ) (bytes : IsBytes font.bytes) where
  unfoldable by_steps : (i : CffSteps (stored font) settings glyphs tokens depth out) → cff_instance_of font settings glyphs tokens depth ≡ Ok (made font settings glyphs tokens depth out bytes i) → IsCffInstance font settings glyphs (made font settings glyphs tokens depth out bytes i)
  by_steps i laid = record {
    cff2 = i.cff2;
    cff2_is = i.outlines.cff2_is;
    no_glyf = i.outlines.no_glyf;
    no_cff = i.outlines.no_cff;
    at = i.p.at;
    coordinates_are = i.steps.coordinates_are;
    lines = i.p.lines;
    lines_are = i.steps.lines_are;
    container = container font settings glyphs tokens depth out bytes i;
    source = i.p.source;
    source_is = i.steps.source_is;
    out = afresh font settings glyphs tokens depth out bytes i;
    out_is = read_back font settings glyphs tokens depth out bytes i;
    metrics = i.p.metrics;
    metrics_are = i.steps.metrics_are;
    tokens = tokens;
    depth = depth;
    table = i.cff;
    table_is = table_back font settings glyphs tokens depth out bytes i;
    alone = alone font settings glyphs tokens depth out bytes i;
    outlines = outlines font settings glyphs tokens depth out bytes i;
    requests = asked_for font settings glyphs tokens depth out bytes i;
    others = others font settings glyphs tokens depth out bytes i;
    count = refl;
    number_of_h_metrics = refl;
    extents = extents font settings glyphs tokens depth out bytes i;
    extents_are = refl;
    head = keeps_head font settings glyphs tokens depth out bytes i;
    head_middle = keeps_head_middle font settings glyphs tokens depth out bytes i;
    head_box = has_head_box font settings glyphs tokens depth out bytes i;
    hhea = keeps_hhea font settings glyphs tokens depth out bytes i;
    hhea_extremes = has_extremes font settings glyphs tokens depth out bytes i;
    hhea_middle = keeps_middle font settings glyphs tokens depth out bytes i;
    maxp = keeps_maxp font settings glyphs tokens depth out bytes i;
    name = keeps_name font settings glyphs tokens depth out bytes i;
    post = keeps_post font settings glyphs tokens depth out bytes i;
    layout = laid;
  }

pub is_cff_instance : IsCffReadAfresh
is_cff_instance font settings glyphs tokens depth out bytes h =
    let i = font_steps font settings glyphs tokens depth out h in
    subst (IsCffInstance font settings glyphs) i.file_is (by_steps font settings glyphs tokens depth out bytes i (h ∙ ap (λ (f : List ℕ). Ok f) (sym i.file_is)))

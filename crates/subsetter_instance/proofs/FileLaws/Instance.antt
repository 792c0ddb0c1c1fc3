-- What the plain way makes is an instance.
use Rattle.std.proofs.Common.{◌≡◌, ℕ, List, Ok, ℤ, refl, sym, ap, subst, ◌∙◌}
use Rattle.subsetter_base.specs.Bytes.{IsBytes}
use Rattle.subsetter_base.specs.declared.tag.Tag.{Tag}
use Rattle.subsetter_sfnt.specs.Read.{Font, stored}
use Rattle.subsetter_instance.specs.Instance.{IsInstance}
use Rattle.subsetter_instance.specs.Plain.{instance_of}
use Rattle.subsetter_instance.proofs.FileLaws.Steps.{InstanceSteps, font_steps}
use Rattle.subsetter_instance.proofs.FileLaws.Afresh.{made, container, afresh, read_back, asked_for, others, keeps_head, keeps_middle, has_box, keeps_style, keeps_hhea, has_extremes, keeps_hhea_middle, keeps_name, keeps_post}

module _ (font : Font) (settings : List (Tag × ℤ)) (glyphs : List ℕ) (steps : ℕ) (out : List ℕ) (bytes : IsBytes font.bytes) where
  unfoldable by_steps : (i : InstanceSteps (stored font) settings glyphs steps out) → instance_of font settings glyphs steps ≡ Ok (made font settings glyphs steps out bytes i) → IsInstance font settings glyphs (made font settings glyphs steps out bytes i)
  by_steps i laid = record {
    at = i.at;
    coordinates_are = i.coordinates_are;
    lines = i.lines;
    lines_are = i.lines_are;
    container = container font settings glyphs steps out bytes i;
    source = i.source;
    source_is = i.source_is;
    out = afresh font settings glyphs steps out bytes i;
    out_is = read_back font settings glyphs steps out bytes i;
    steps = steps;
    requests = asked_for font settings glyphs steps out bytes i;
    others = others font settings glyphs steps out bytes i;
    count = refl;
    number_of_h_metrics = refl;
    drawn = i.ds;
    all_drawn = i.drawn_is;
    head = keeps_head font settings glyphs steps out bytes i;
    head_middle = keeps_middle font settings glyphs steps out bytes i;
    head_box = has_box font settings glyphs steps out bytes i;
    head_style = keeps_style font settings glyphs steps out bytes i;
    hhea = keeps_hhea font settings glyphs steps out bytes i;
    hhea_extremes = has_extremes font settings glyphs steps out bytes i;
    hhea_middle = keeps_hhea_middle font settings glyphs steps out bytes i;
    name = keeps_name font settings glyphs steps out bytes i;
    post = keeps_post font settings glyphs steps out bytes i;
    layout = laid;
  }

  pub is_instance : instance_of font settings glyphs steps ≡ Ok out → IsInstance font settings glyphs out
  is_instance h =
      let i = font_steps font settings glyphs steps out h in
      subst (IsInstance font settings glyphs) i.file_is (by_steps i (h ∙ ap (λ (f : List ℕ). Ok f) (sym i.file_is)))

use Rattle.std.proofs.Common.{ℕ, List, length, Vec, Global, refl, ap, subst, ◌∙◌}
use Rattle.std.specs.Option.{option_map}
use Rattle.pdf_source.specs.Frequent.{IsMostFrequent}
use Rattle.pdf_text_font.specs.Drawn.{AreDrawn}
use Rattle.pdf_text_font.specs.Pairs.{values_of}
use Rattle.pdf_text_font.specs.TextFont.{renamed}
use Rattle.pdf_text_font.proofs.font.filled.Goals as goal

pub returns-clause-ok : goal.returns-clause-ok
returns-clause-ok c = record {
  drawn =
      subst (λ (ws : List ℕ). AreDrawn c.args.subset.kind c.args.subset.program.items c.args.others.now (length c.args.own.now) ws c.args.drawings.now c.in_ok-drawn.drawn.program.items (option_map (λ (m : Vec ℕ Global). m.items) c.in_ok-drawn.drawn.map))
      c.deref-6.ensures.value c.in_ok-drawn.ensures.ok;
  kind = refl;
  count = refl;
  widths =
      c.in_ok-widths.ensures.ok ∙ ap (λ (ws : List ℕ). values_of 0 ws c.deref-2.result.now c.args.drawings.now) c.deref.ensures.value
      ∙ ap (λ (ws : List ℕ). values_of 0 c.args.subset.widths.items ws c.args.drawings.now) (c.deref-2.ensures.value ∙ c.in_ok-own_widths.ensures.ok);
  exact =
      c.in_ok-exact_widths.ensures.ok ∙ ap (λ (ws : List ℕ). values_of 0 ws c.deref-4.result.now c.args.drawings.now) c.deref-3.ensures.value
      ∙ ap (λ (ws : List ℕ). values_of 0 c.args.subset.exact_widths.items ws c.args.drawings.now) (c.deref-4.ensures.value ∙ c.in_ok-advances.ensures.ok);
  units = refl;
  default_width = subst (λ (ws : List ℕ). IsMostFrequent ws c.in_ok-default_width.default_width) c.deref-5.ensures.value c.in_ok-default_width.ensures.ok;
  columns = c.in_ok-columns.ensures.each;
  default_column = c.in_ok-columns.ensures.default;
  name =
      c.in_ok-font_name.ensures.ok ∙ ap (λ (p : List ℕ). renamed c.args.options.now.tag p c.deref-8.result.now) c.deref-7.ensures.value
      ∙ ap (λ (n : List ℕ). renamed c.args.options.now.tag c.in_ok-drawn.drawn.program.items n) c.deref-8.ensures.value;
  values = refl;
  unknown_axes = refl;
  permission = refl;
  to_unicode = c.in_ok-to_unicode.ensures.ok;
  encoding = refl;
  cid_set = c.in_ok-cid_set.ensures.ok;
  cids = c.new.ensures.items;
  codes = c.new-2.ensures.items;
  is_said = c.new-3.ensures.items;
}

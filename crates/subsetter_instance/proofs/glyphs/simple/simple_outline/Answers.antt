use Rattle.std.proofs.Common.{◌<◌, ◌∙◌, ap, sym, subst, length, refl, rules}
use Rattle.std.specs.Prelude.{All}
use Rattle.subsetter_base.specs.Bytes.{has_flag}
use Rattle.subsetter_instance.specs.Glyphs.Unfolded.{on_curve}
use Rattle.subsetter_instance.proofs.GlyphsLaws.Ends.{ends_below, without_phantoms}
use Rattle.subsetter_instance.proofs.GlyphsLaws.Reach.{on_count}
use Rattle.subsetter_instance.proofs.glyphs.simple.simple_outline.Goals as goal

pub returns-clause-shape : goal.returns-clause-shape
returns-clause-shape c =
    let fs = c.args.on.items in
    record {
      xs = ap length c.truncate.ensures.items ∙ without_phantoms _ c.args.xs.items fs (on_curve fs) (λ f. has_flag f 1) (search rules) c.requires.xs_count refl;
      ys = ap length c.truncate-2.ensures.items ∙ without_phantoms _ c.args.ys.items fs (on_curve fs) (λ f. has_flag f 1) (search rules) c.requires.ys_count refl;
      ends = subst (λ n. All (λ e. e < n) c.args.ends.items) (sym (on_count fs)) (ends_below 0 c.args.ends.items (length fs) c.requires.sound);
      left = search rules;
      right = search rules;
    }

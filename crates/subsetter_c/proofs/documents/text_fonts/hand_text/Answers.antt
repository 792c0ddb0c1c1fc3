use Rattle.std.proofs.Common.{◌≡◌, ◌<◌, ℕ, refl, subst, sym}
use Rattle.subsetter_c.specs.Documents.TextFonts.{kept, unkept}
use Rattle.subsetter_c.proofs.documents.text_fonts.hand_text.Goals as goal

pub returns-in-Ok : goal.returns-in-Ok
returns-in-Ok c =
    let u : c.from.result ≡ c.in-Ok.kept.units = c.from.ensures in
    kept c.in-Ok.kept c.in-Ok.is (record {
      size = refl;
      units = u;
      divides = subst (λ (n : ℕ). 0 < n) (sym u) c.in-Ok.kept.divides;
      font_is = refl;
      coordinates_are = c.kept_coordinates.ensures;
      metrics = c.kept_metrics.ensures;
      inked = c.kept_flags.ensures;
      advances = c.kept_shorts.ensures;
      partable = c.kept_flags-in-Ok.ensures;
      most_parts = c.from-in-Ok.ensures;
      is_still = c.number_of.ensures;
      own = refl;
      parts = refl;
      pairs = refl;
      index_is = refl;
      is_vertical = c.vertical_number.ensures;
    }) refl

pub returns-in-Err : goal.returns-in-Err
returns-in-Err c = unkept c.in-Err.error c.in-Err.is c.no_text.ensures c.status_of.ensures

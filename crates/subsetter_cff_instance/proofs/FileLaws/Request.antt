-- What is requested of CFF2 has the ranges of its types.
use Rattle.std.proofs.Common.{ℕ, ◌<◌, ◌^◌, List, arith}
use Rattle.std.specs.Option.{option_map}
use Rattle.std.proofs.lemmas.List.{length-map}
use Rattle.subsetter_sfnt.specs.declared.fields.hmtx.LongHorMetric.{LongHorMetric}
use Rattle.subsetter_cff_at.specs.Promise.{IsRequest}
use Rattle.subsetter_cff_instance.specs.Metrics.{metrics_by_glyph}
use Rattle.subsetter_cff_instance.specs.Plain.{Prepared, request_at}
use Rattle.subsetter_cff_instance.proofs.FileLaws.Metrics.{length-by_glyph}

pub is_request : (glyphs : List ℕ) (p : Prepared) → p.source.count < 2 ^ 16 → IsRequest (request_at glyphs p)
is_request glyphs p few =
    let all = metrics_by_glyph glyphs p.metrics p.source.count in
    record { few = omega (arith, few, length-map all (option_map (λ (m : LongHorMetric). m.advance_width)), length-by_glyph glyphs p.metrics p.source.count) }

use Rattle.std.proofs.Common.{◌∙◌, get_or, sym, arith}
use Rattle.std.specs.Option.{option_copied, option_map}
use Rattle.pdf_glyphs.specs.Origins.{origin_seen}
use Rattle.pdf_glyphs.specs.Vertical.{record_count}
use Rattle.pdf_glyphs.proofs.OriginSteps.{origin_next}
use Rattle.pdf_glyphs.proofs.origins.origins_of.Goals as goal

pub loop-index-preserved : goal.loop-index-preserved
loop-index-preserved c = record {
  as_long = c.put_record.ensures.len ∙ c.loop-index.invariant.as_long;
  so_far = λ k lt.
      origin_next (option_copied c.args.vorg) (option_map origin_seen c.origin_at.result) (record_count (option_copied c.args.vorg)) c.loop-index.index (get_or c.args.mapper.now k 0) _ _ _ (omega arith) (sym c.origin_at.ensures)
      (λ later. c.put_record.ensures.put k later lt) (c.loop-index.invariant.so_far k lt);
}

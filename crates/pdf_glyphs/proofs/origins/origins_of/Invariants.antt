use Rattle.std.proofs.Common.{◌≡◌, ◌<◌, ◌-◌, ℕ, length, get_or, None}
use Rattle.std.specs.Option.{option_copied, option_or}
use Rattle.pdf_glyphs.specs.Vertical.{origin_from, origin_of, record_count}
use Rattle.pdf_glyphs.proofs.origins.origins_of.Given as goal

abbrev pub invariant-loop-index : goal.invariant-loop-index
invariant-loop-index l = record {
  as_long : length l.origins.items ≡ length l.mapper;
  so_far : (k : ℕ) → k < length l.mapper → option_or (get_or l.origins.items k None) (origin_from (option_copied l.vorg) l.index (record_count (option_copied l.vorg) - l.index) (get_or l.mapper k 0)) ≡ origin_of (option_copied l.vorg) (get_or l.mapper k 0);
}

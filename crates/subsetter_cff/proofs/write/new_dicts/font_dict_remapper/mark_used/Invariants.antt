use Rattle.std.proofs.Common.{◌≡◌, ◌<◌, ◌||◌, ℕ, drop, false, length, slice_index_or}
use Rattle.subsetter_base.specs.Indexes.{is_listed}
use Rattle.subsetter_cff.proofs.write.new_dicts.font_dict_remapper.mark_used.Given as goal

-- those that are marked or among what is left are those among all
abbrev pub invariant-loop-number : goal.invariant-loop-number
invariant-loop-number l = record {
  marked : (n : ℕ) → n < 256 → (slice_index_or l.used n false || is_listed (drop l.number-index l.numbers) n) ≡ is_listed l.numbers n;
  len : length l.used ≡ 256;
}

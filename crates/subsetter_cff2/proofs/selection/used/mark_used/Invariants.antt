use Rattle.std.proofs.Common.{◌≡◌, ◌<◌, ◌||◌, ℕ, drop, false, length, slice_index_or}
use Rattle.subsetter_base.specs.Indexes.{is_listed}
use Rattle.subsetter_cff2.proofs.selection.used.mark_used.Given as goal

-- those that are marked or among what is left are those among all
abbrev pub invariant-loop-number : goal.invariant-loop-number
invariant-loop-number l = record {
  marked : (n : ℕ) → n < l.bound → (slice_index_or l.used.items n false || is_listed (drop l.number-index l.numbers) n) ≡ is_listed l.numbers n;
  len : length l.used.items ≡ l.bound;
}

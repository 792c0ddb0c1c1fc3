use Rattle.std.proofs.Common.{◌≡◌, ◌++◌, ◌-◌, false, length, slice_index_or}
use Rattle.std.specs.List.{filter, range_with_len}
use Rattle.subsetter_cff2.proofs.selection.used.marked_numbers.Given as goal

abbrev pub invariant-loop-i : goal.invariant-loop-i
invariant-loop-i l =
    l.places.items ++ filter (λ n. slice_index_or l.used n false) (range_with_len l.i (length l.used - l.i)) ≡ filter (λ n. slice_index_or l.used n false) (range_with_len 0 (length l.used))

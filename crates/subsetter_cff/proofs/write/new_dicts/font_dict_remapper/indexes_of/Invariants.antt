use Rattle.std.proofs.Common.{◌≡◌, ◌+◌, ◌<◌, ℕ, None, drop, length, slice_index_or}
use Rattle.std.specs.Option.{option_map}
use Rattle.subsetter_base.specs.Indexes.{index_of}
use Rattle.subsetter_cff.proofs.write.new_dicts.font_dict_remapper.indexes_of.Given as goal

-- the places in what was gone through
abbrev pub invariant-loop-i : goal.invariant-loop-i
invariant-loop-i l = record {
  stands : (n : ℕ) → n < 256 → slice_index_or l.places n None ≡ option_map (λ (j : ℕ). l.i + j) (index_of (drop l.i l.numbers) n);
  len : length l.places ≡ 256;
}

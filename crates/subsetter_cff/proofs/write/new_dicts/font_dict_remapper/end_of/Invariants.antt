use Rattle.std.proofs.Common.{◌≡◌, ◌≤◌, ℕ, drop}
use Rattle.subsetter_base.specs.Indexes.{is_listed}
use Rattle.subsetter_cff.proofs.write.new_dicts.font_dict_remapper.end_of.Given as goal

-- from here on, just those are listed that are left
abbrev pub invariant-loop-number : goal.invariant-loop-number
invariant-loop-number l = record {
  none : (n : ℕ) → l.end ≤ n → is_listed (drop l.number-index l.numbers) n ≡ is_listed l.numbers n;
  within : l.end ≤ 256;
}

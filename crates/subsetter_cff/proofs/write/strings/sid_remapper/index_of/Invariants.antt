use Rattle.std.proofs.Common.{◌≡◌, ◌+◌, ℕ, drop}
use Rattle.std.specs.Option.{option_map}
use Rattle.std.specs.Str.{bytes_eq}
use Rattle.subsetter_base.specs.Remap.{index_by}
use Rattle.subsetter_base.specs.Texts.{views}
use Rattle.subsetter_cff.proofs.write.strings.sid_remapper.index_of.Given as goal

abbrev pub invariant-loop-i : goal.invariant-loop-i
invariant-loop-i l = option_map (λ (n : ℕ). l.i + n) (index_by bytes_eq (views (drop l.i l.strings)) l.string) ≡ index_by bytes_eq (views l.strings) l.string

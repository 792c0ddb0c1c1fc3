use Rattle.std.proofs.Common.{◌≡◌, ◌-◌, ◌+◌, ◌*◌, ◌^◌}
use Rattle.std.specs.Option.{option_map}
use Rattle.subsetter_variation.specs.Glyphs.Movement.{IsWithin, walk_all}
use Rattle.subsetter_variation.proofs.glyphs.movement.walk_all.Given as goal

abbrev pub invariant-loop-i : goal.invariant-loop-i
invariant-loop-i l = record {
  read : walk_all l.t l.o (option_map (λ x. x.items) l.shared) l.at (l.count - l.i) l.w ≡ walk_all l.t l.o (option_map (λ x. x.items) l.shared) l.at l.count l.fn.w;
  bound : IsWithin (2 ^ 45 * (l.i + 1)) l.o l.w;
}

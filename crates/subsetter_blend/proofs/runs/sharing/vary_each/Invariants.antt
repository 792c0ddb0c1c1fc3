use Rattle.std.proofs.Common.{◌≡◌, ℕ, ◌≤◌, ◌<◌, ◌*◌, drop, get_or, pos, All}
use Rattle.subsetter_blend.specs.Runs.Blend.{result_at, scalars_in}
use Rattle.subsetter_blend.specs.Runs.Number.{IsWithin}
use Rattle.subsetter_blend.proofs.runs.sharing.vary_each.Given as goal

abbrev pub invariant-loop-i : goal.invariant-loop-i
invariant-loop-i g l =
    record {
      written : (j : ℕ) → j < l.i → get_or l.defaults j (pos 0) ≡ result_at (scalars_in (g.R.Regions.scalars l.regions l.data_index)) l.initial.defaults l.deltas j;
      kept : (j : ℕ) → l.i ≤ j → get_or l.defaults j (pos 0) ≡ get_or l.initial.defaults j (pos 0);
      within : All IsWithin l.defaults;
      rest : l.rest ≡ drop (l.i * l.count) l.deltas;
    }

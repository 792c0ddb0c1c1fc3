use Rattle.std.proofs.Common.{◌≡◌, ℕ, ◌≤◌, ◌<◌, get_or, None, All}
use Rattle.subsetter_blend.specs.Runs.Blend.{scalars_in}
use Rattle.subsetter_cff2.specs.PrivateDicts.Blend.{result_at}
use Rattle.subsetter_cff2.specs.PrivateDicts.Held.{IsHeld}
use Rattle.subsetter_cff2.specs.Variation.{data_scalars}
use Rattle.subsetter_cff2.proofs.private_dicts.blend.vary_each.Given as goal

abbrev pub invariant-loop-i : goal.invariant-loop-i
invariant-loop-i l =
    record {
      written : (j : ℕ) → j < l.i → get_or l.defaults j None ≡ result_at (scalars_in (data_scalars l.variation l.outer)) l.initial.defaults l.deltas j;
      kept : (j : ℕ) → l.i ≤ j → get_or l.defaults j None ≡ get_or l.initial.defaults j None;
      held : All IsHeld l.defaults;
    }

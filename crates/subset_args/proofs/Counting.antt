-- Numbers in a row.
use Rattle.std.proofs.Common.{◌≡◌, ℕ, suc, ◌+◌, ◌-◌, ◌<◌, ◌≤◌, [], ◌∷◌, ap, arith}
use Rattle.subset_args.specs.Listing.Lists.{counting}

left : (first end : ℕ) → first < end → end - first ≡ suc (end - (first + 1))
left first end h = omega arith

none_left : (first end : ℕ) → end ≤ first → end - first ≡ 0
none_left first end h = omega arith

pub counting_step : (first end : ℕ) → first < end → counting first (end - first) ≡ first ∷ counting (first + 1) (end - (first + 1))
counting_step first end h = ap (counting first) (left first end h)

pub counting_end : (first end : ℕ) → end ≤ first → counting first (end - first) ≡ []
counting_end first end h = ap (counting first) (none_left first end h)

-- One more strike.
use Rattle.std.proofs.Common.{◌≡◌, ℕ, suc, ◌+◌, ◌-◌, ◌<◌, ◌≤◌, Bool, true, false, ap, ◌∙◌, arith}
use Rattle.std.specs.Prelude.{if◌then◌else◌}
use Rattle.glyph_kinds.specs.Strikes.{any_from}

left : (n i : ℕ) → i < n → n - i ≡ suc (n - (i + 1))
left n i h = omega arith

none_left : (n i : ℕ) → n ≤ i → n - i ≡ 0
none_left n i h = omega arith

module _ (has : ℕ → Bool) (n i : ℕ) where
  any_step : i < n → any_from has (n - i) i ≡ (if has i then true else any_from has (n - (i + 1)) (i + 1))
  unfolding any_from
  any_step h = ap (λ k. any_from has k i) (left n i h)

  pub any_here : has i ≡ true → i < n → any_from has (n - i) i ≡ true
  any_here s h = any_step h ∙ ap (λ b. if b then true else any_from has (n - (i + 1)) (i + 1)) s

  pub any_on : has i ≡ false → i < n → any_from has (n - i) i ≡ any_from has (n - (i + 1)) (i + 1)
  any_on s h = any_step h ∙ ap (λ b. if b then true else any_from has (n - (i + 1)) (i + 1)) s

  pub any_end : n ≤ i → any_from has (n - i) i ≡ false
  unfolding any_from
  any_end h = ap (λ k. any_from has k i) (none_left n i h)

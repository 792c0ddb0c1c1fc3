-- One more record of a name.
use Rattle.std.proofs.Common.{◌≡◌, ℕ, suc, ◌+◌, ◌-◌, ◌*◌, ◌<◌, ◌≤◌, List, Option, Some, None, ap, ◌∙◌, arith}
use Rattle.font_reasons.specs.File.{or_else}
use Rattle.font_reasons.specs.Names.{lost_at, lost_from}
use Rattle.font_reasons.specs.declared.reason.Reason.{Reason}

left : (n i : ℕ) → i < n → n - i ≡ suc (n - (i + 1))
left n i h = omega arith

none_left : (n i : ℕ) → n ≤ i → n - i ≡ 0
none_left n i h = omega arith

module _ (name storage : List ℕ) (n i : ℕ) where
  lost_step : i < n → lost_from name storage (n - i) (6 + 12 * i) ≡ or_else (lost_at name storage (6 + 12 * i)) (lost_from name storage (n - (i + 1)) (6 + 12 * (i + 1)))
  unfolding lost_from
  lost_step h =
      let next : 6 + 12 * i + 12 ≡ 6 + 12 * (i + 1) = omega arith in
      ap (λ k. lost_from name storage k (6 + 12 * i)) (left n i h) ∙ ap (λ at. or_else (lost_at name storage (6 + 12 * i)) (lost_from name storage (n - (i + 1)) at)) next

  pub lost_here : {reason : Reason} → lost_at name storage (6 + 12 * i) ≡ Some reason → i < n → lost_from name storage (n - i) (6 + 12 * i) ≡ Some reason
  lost_here s h = lost_step h ∙ ap (λ (found : Option Reason). or_else found (lost_from name storage (n - (i + 1)) (6 + 12 * (i + 1)))) s

  pub lost_on : lost_at name storage (6 + 12 * i) ≡ None → i < n → lost_from name storage (n - i) (6 + 12 * i) ≡ lost_from name storage (n - (i + 1)) (6 + 12 * (i + 1))
  lost_on s h = lost_step h ∙ ap (λ (found : Option Reason). or_else found (lost_from name storage (n - (i + 1)) (6 + 12 * (i + 1)))) s

  pub lost_end : n ≤ i → lost_from name storage (n - i) (6 + 12 * i) ≡ None
  unfolding lost_from
  lost_end h = ap (λ k. lost_from name storage k (6 + 12 * i)) (none_left n i h)

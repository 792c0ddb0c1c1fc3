-- Value records, one after another.
use Rattle.std.proofs.Common.{◌≡◌, ℕ, suc, ◌+◌, ◌-◌, ◌*◌, ◌<◌, ◌≤◌, List, take, Some, None, true, false, refl, arith}
use Rattle.std.specs.Str.{bytes_eq}
use Rattle.subsetter_base.specs.Bytes.{range}
use Rattle.subsetter_variation.specs.Items.FontMetrics.{value_from, value_indexes}

module _ (n k size : ℕ) (mvar tag bytes : List ℕ) where
  pub value_step : k < n → range mvar (12 + k * size) 8 ≡ Some bytes → bytes_eq (take 4 bytes) tag ≡ false → value_from (n - k) k size mvar tag ≡ value_from (n - (k + 1)) (k + 1) size mvar tag
  value_step less h e =
      let one : n - k ≡ suc (n - (k + 1)) = omega arith in
      rw (one, h, e) refl

  pub value_found : k < n → range mvar (12 + k * size) 8 ≡ Some bytes → bytes_eq (take 4 bytes) tag ≡ true → value_from (n - k) k size mvar tag ≡ Some (Some (value_indexes bytes))
  value_found less h e =
      let one : n - k ≡ suc (n - (k + 1)) = omega arith in
      rw (one, h, e) refl

pub value_cut : (n k size : ℕ) (mvar tag : List ℕ) → k < n → range mvar (12 + k * size) 8 ≡ None → value_from (n - k) k size mvar tag ≡ None
value_cut n k size mvar tag less h =
    let one : n - k ≡ suc (n - (k + 1)) = omega arith in
    rw (one, h) refl

pub value_end : (n k size : ℕ) (mvar tag : List ℕ) → n ≤ k → value_from (n - k) k size mvar tag ≡ Some None
value_end n k size mvar tag less =
    let none : n - k ≡ 0 = omega arith in
    rw none refl

-- Offsets within their limit.
use Rattle.std.proofs.Common.{◌≡◌, ℕ, ◌<◌, ◌≤◌, ◌^◌, refl}
use Rattle.std.specs.Prelude.{Ok, Err}
use Rattle.std.proofs.lemmas.Bool.{lt-ltb, le-ltb}
use Rattle.subsetter_base.specs.declared.error.Error.TheVariants.{OverflowError}
use Rattle.subsetter_cff.specs.Write.Laying.TableLimits.{limit, is_offset}

pub offset_kept : (n : ℕ) → n < 2 ^ 31 → limit (is_offset n) ≡ Ok tt
offset_kept n lt = rw (lt-ltb n (2 ^ 31) lt) refl

pub offset_broken : (n : ℕ) → 2 ^ 31 ≤ n → limit (is_offset n) ≡ Err OverflowError
offset_broken n le = rw (le-ltb n (2 ^ 31) le) refl

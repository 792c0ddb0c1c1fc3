-- When no code is left, where the codes are the new numbers of the glyphs.
use Rattle.std.proofs.Common.{◌≡◌, ℕ, List, sym, subst, ◌⊎◌, Vec, Global, Result}
use Rattle.std.specs.Prelude.{IfErr, OnOk}
use Rattle.subsetter_base.specs.Indexes.{HasAllAboveZero}
use Rattle.subsetter_base.specs.declared.error.Error.{Error}
use Rattle.subsetter_base.specs.declared.error.Error.TheVariants.{OutOfMemory, OverflowError}
use Rattle.pdf_codes.specs.declared.codes.Codes.{Codes}
use Rattle.pdf_codes.specs.declared.codes.Codes.TheVariants.{Consecutive}
use Rattle.pdf_codes.specs.Codes.{Used, IsOverfull, glyphs_of}

pub room_led : (r : Result (Vec ℕ Global) Error) (choice : Codes) (us : List Used) (gs : List ℕ) → choice ≡ Consecutive → gs ≡ glyphs_of us → OnOk r (HasAllAboveZero gs → ⊥) → OnOk r (IsOverfull choice us → ⊥)
room_led r choice us gs is same h =
    let P : Codes → Type 0 = λ ch. OnOk r (IsOverfull ch us → ⊥) in
    let Q : List ℕ → Type 0 = λ l. OnOk r (HasAllAboveZero l → ⊥) in
    subst P (sym is) (subst Q same h)

pub refused_led : (r : Result (Vec ℕ Global) Error) (choice : Codes) (us : List Used) (gs : List ℕ) → choice ≡ Consecutive → gs ≡ glyphs_of us
    → IfErr r (λ e. (e ≡ OutOfMemory) ⊎ ((e ≡ OverflowError) × HasAllAboveZero gs)) → IfErr r (λ e. (e ≡ OutOfMemory) ⊎ ((e ≡ OverflowError) × IsOverfull choice us))
refused_led r choice us gs is same h =
    let P : Codes → Type 0 = λ ch. IfErr r (λ e. (e ≡ OutOfMemory) ⊎ ((e ≡ OverflowError) × IsOverfull ch us)) in
    let Q : List ℕ → Type 0 = λ l. IfErr r (λ e. (e ≡ OutOfMemory) ⊎ ((e ≡ OverflowError) × HasAllAboveZero l)) in
    subst P (sym is) (subst Q same h)

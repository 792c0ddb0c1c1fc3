-- The components of a composite glyph, one after another.
use Rattle.std.proofs.Common.{◌≡◌, ℕ, suc, ◌+◌, ◌-◌, ◌<◌, List, [], ◌∷◌, ◌++◌, Some, None, Result, Ok, Err, true, false, refl, ap, sym, append_assoc, arith}
use Rattle.subsetter_base.specs.Bytes.{◌>>=◌, has_flag}
use Rattle.subsetter_base.specs.declared.error.Error.{Error}
use Rattle.subsetter_base.specs.declared.error.Error.TheVariants.{MalformedFont, OverflowError}
use Rattle.subsetter_instance.specs.Glyphs.Components.{component_at, components_at}
use Rattle.subsetter_instance.specs.declared.glyphs.components.Component.{Component}

-- what follows, after the components so far
abbrev pub following : List Component → Result (List Component × ℕ) Error → Result (List Component × ℕ) Error
following front rest = rest >>= λ r. Ok (front ++ r.0, r.1)

after_more : (front : List Component) (c : Component) (rest : Result (List Component × ℕ) Error) → following front (rest >>= λ more. Ok (c ∷ more.0, more.1)) ≡ following (front ++ c ∷ []) rest
after_more front c (Ok r) = ap (λ l. Ok (l, r.1)) (sym (append_assoc front (c ∷ []) r.0))
after_more front c (Err e) = refl

pub chain_goes_on : (front : List Component) (n k : ℕ) (rest : List ℕ) (c : Component) (after : List ℕ) → k < n → component_at rest ≡ Some (c, after) → has_flag c.flags 0x0020 ≡ true → following front (components_at (n - k) rest) ≡ following (front ++ c ∷ []) (components_at (n - (k + 1)) after)
unfolding components_at
chain_goes_on front n k rest c after less h more =
    let one : n - k ≡ suc (n - (k + 1)) = omega arith in
    rw (one, h, more) (after_more front c (components_at (n - (k + 1)) after))

pub chain_ends : (front : List Component) (n k : ℕ) (rest : List ℕ) (c : Component) (after : List ℕ) → k < n → component_at rest ≡ Some (c, after) → has_flag c.flags 0x0020 ≡ false → following front (components_at (n - k) rest) ≡ Ok (front ++ c ∷ [], n - k - 1)
unfolding components_at
chain_ends front n k rest c after less h last =
    let one : n - k ≡ suc (n - (k + 1)) = omega arith in
    let left : suc (n - (k + 1)) - 1 ≡ n - (k + 1) = omega arith in
    rw (one, h, last) (ap (λ (l : ℕ). Ok (front ++ c ∷ [], l)) (sym left))

pub chain_cut : (front : List Component) (n k : ℕ) (rest : List ℕ) → k < n → component_at rest ≡ None → following front (components_at (n - k) rest) ≡ Err MalformedFont
unfolding components_at
chain_cut front n k rest less h =
    let one : n - k ≡ suc (n - (k + 1)) = omega arith in
    rw (one, h) refl

pub chain_out : (front : List Component) (n k : ℕ) (rest : List ℕ) → n ≡ k → following front (components_at (n - k) rest) ≡ Err OverflowError
unfolding components_at
chain_out front n k rest same =
    let none : n - k ≡ 0 = omega arith in
    rw none refl

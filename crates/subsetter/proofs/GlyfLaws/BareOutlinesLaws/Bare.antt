-- A simple outline that has no instructions stays as it is.
use Rattle.std.proofs.Common.{◌≡◌, ℕ, ◌+◌, ◌*◌, ◌≤◌, cond, List, [], ◌∷◌, ◌++◌, length, take, drop, Option, Some, None, sym, ap, ◌∙◌, arith}
use Rattle.std.specs.Option.{option_and_then, option_map, unwrap_or}
use Rattle.std.proofs.lemmas.Bool.{le-leb}
use Rattle.std.proofs.lemmas.List.{take-append-drop, length-drop, drop-drop}
use Rattle.subsetter_base.specs.Bytes.{be, number, from_offset}
use Rattle.subsetter_base.proofs.ByteLemmas.{range-take_drop, be-append, be-u8}
use Rattle.subsetter_base.proofs.Options.{just}
use Rattle.subsetter.specs.Glyf.BareOutlines.Bare.{bare_at, bare_simple}

zeros : (x y : ℕ) (l : List ℕ) → be (x ∷ y ∷ []) ≡ 0 → 0 ∷ 0 ∷ l ≡ x ∷ y ∷ l
zeros x y l h =
    let both : x * 256 + y ≡ 0 = omega (arith, sym (be-append (x ∷ []) (y ∷ [])) ∙ h, be-u8 x, be-u8 y) in
    let a : 0 ≡ x = omega (arith, both) in
    let b : 0 ≡ y = omega (arith, both) in
    ap (λ (n : ℕ). n ∷ 0 ∷ l) a ∙ ap (λ (n : ℕ). x ∷ n ∷ l) b

two_zeros : (l : List ℕ) → 2 ≤ length l → be (take 2 l) ≡ 0 → 0 ∷ 0 ∷ drop 2 l ≡ l
two_zeros [] le h = absurd (omega arith)
two_zeros (x ∷ []) le h = absurd (omega arith)
two_zeros (x ∷ y ∷ l) le h = zeros x y l h

same : (bytes : List ℕ) (at : ℕ) → at + 2 ≤ length bytes → be (take 2 (drop at bytes)) ≡ 0 → take at bytes ++ 0 ∷ 0 ∷ drop (at + 2) bytes ≡ bytes
same bytes at le h =
    ap (λ (l : List ℕ). take at bytes ++ 0 ∷ 0 ∷ l) (sym (drop-drop 2 at bytes)) ∙ ap (λ (l : List ℕ). take at bytes ++ l) (two_zeros (drop at bytes) (omega (arith, length-drop at bytes)) h) ∙ take-append-drop at bytes

pub stays_bare : (bytes : List ℕ) → 2 ≤ length bytes → 10 + 2 * be (take 2 bytes) + 2 ≤ length bytes → be (take 2 (drop (10 + 2 * be (take 2 bytes)) bytes)) ≡ 0 → bytes ≡ bare_simple bytes
unfolding bare_simple
stays_bare bytes le within h =
    let at = 10 + 2 * be (take 2 bytes) in
    let a : number bytes 0 2 ≡ Some (be (take 2 bytes)) = ap (option_map be) (range-take_drop bytes 0 2 le) in
    let b : number bytes at 2 ≡ Some 0 = ap (option_map be) (range-take_drop bytes at 2 within) ∙ ap (λ (n : ℕ). Some n) h in
    let none : at + 2 + 0 ≡ at + 2 = omega arith in
    let c : from_offset bytes (at + 2 + 0) ≡ Some (drop (at + 2) bytes) = ap (from_offset bytes) none ∙ ap (λ q. cond q (Some (drop (at + 2) bytes)) None) (le-leb (at + 2) (length bytes) within) in
    sym (ap (λ (o : Option ℕ). unwrap_or (option_and_then (λ n. bare_at bytes (10 + 2 * n)) o) bytes) a
    ∙ ap (λ (o : Option ℕ). unwrap_or (option_and_then (λ size. option_and_then (λ following. just (take at bytes ++ 0 ∷ 0 ∷ following)) (from_offset bytes (at + 2 + size))) o) bytes) b
    ∙ ap (λ (o : Option (List ℕ)). unwrap_or (option_and_then (λ following. just (take at bytes ++ 0 ∷ 0 ∷ following)) o) bytes) c
    ∙ same bytes at within h)

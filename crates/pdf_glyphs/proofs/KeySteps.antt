-- A column that is counted once more.
use Rattle.std.proofs.Common.{◌≡◌, ℕ, ◌+◌, Bool, true, false, cond, Option, Some, refl, ap, ◌∙◌, ℤ, arith}
use Rattle.std.specs.Ordering.{int_eq}
use Rattle.std.specs.Option.{unwrap_or}
use Rattle.std.proofs.lemmas.Bool.Decides.{Decides-int_eq}
use Rattle.subsetter_base.proofs.Lists.{and_parts}
use Rattle.pdf_glyphs.specs.declared.frequent.Key.{Key}
use Rattle.pdf_glyphs.specs.Keys.{same_key}

abbrev keyed : ℤ → ℤ → Key
keyed y a = record { y = y; advance = a }

same_key_is : (a b : Key) → same_key a b ≡ true → a ≡ b
same_key_is a b h =
    let both = and_parts (int_eq a.y b.y) (int_eq a.advance b.advance) h in
    ap (λ (y : ℤ). keyed y a.advance) ((Decides-int_eq a.y b.y).0 both.0) ∙ ap (keyed b.y) ((Decides-int_eq a.advance b.advance).0 both.1)

more_by : (b : Bool) (n : ℕ) (was : Option ℕ) → (b ≡ true → n ≡ unwrap_or was 0) → unwrap_or (cond b (Some (n + 1)) was) 0 ≡ unwrap_or was 0 + cond b 1 0
more_by true n was h = ap (λ (k : ℕ). k + 1) (h refl)
more_by false n was h = omega arith

-- its count is one more, and each other one stays
pub one_more : (old new : Key → Option ℕ) (key : Key) (n : ℕ) → n ≡ unwrap_or (old key) 0 → (q : Key) → new q ≡ cond (same_key key q) (Some (n + 1)) (old q) → unwrap_or (new q) 0 ≡ unwrap_or (old q) 0 + cond (same_key key q) 1 0
one_more old new key n is q step =
    ap (λ (v : Option ℕ). unwrap_or v 0) step
    ∙ more_by (same_key key q) n (old q) (λ same. is ∙ ap (λ (k : Key). unwrap_or (old k) 0) (same_key_is key q same))

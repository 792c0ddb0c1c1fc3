-- Two texts after another, and lists of texts with a space between each two.
use Rattle.std.proofs.Common.{refl, ◌≡◌, ℕ, ◌-◌, ◌≤◌, List, [], ◌∷◌, ◌++◌, length, get_or, map, take, drop, ap, ◌∙◌, append_assoc, arith}
use Rattle.std.proofs.lemmas.List.{take_all}
use Rattle.std.specs.List.{join_with_byte}
use Rattle.std.proofs.lemmas.Int.{to_z-of_z}
use Rattle.pdf_text.proofs.Written.{three_written, four_written}
use Rattle.subsetter_base.proofs.TextLemmas.{spaced, list_begun}

pub two_written : (w a b w1 w2 : List ℕ) → w1 ≡ w ++ a → w2 ≡ w1 ++ b → w2 ≡ w ++ (a ++ b)
two_written w a b w1 w2 f g = rw (g, f) (append_assoc w a b)

pub two_after_nothing : (empty a b w v : List ℕ) → empty ≡ [] → w ≡ empty ++ a → v ≡ w ++ b → v ≡ a ++ b
two_after_nothing empty a b w v n f g = rw (g, f, n) refl

pub four_after_nothing : (empty a b c d w1 w2 w3 w4 : List ℕ) → empty ≡ [] → w1 ≡ empty ++ a → w2 ≡ w1 ++ b → w3 ≡ w2 ++ c → w4 ≡ w3 ++ d → w4 ≡ a ++ (b ++ (c ++ d))
four_after_nothing empty a b c d w1 w2 w3 w4 n f g h i = four_written empty a b c d w1 w2 w3 w4 f g h i ∙ ap (λ (l : List ℕ). l ++ (a ++ (b ++ (c ++ d)))) n

-- the first of some things is written without a space
pub first_written : {X : Type 0} (f : X → List ℕ) (d : X) (old new : List ℕ) (xs : List X) → 1 ≤ length xs → new ≡ old ++ f (get_or xs 0 d) → new ++ spaced (map f (take (length xs - 1) (drop 1 xs))) ≡ old ++ join_with_byte 32 (map f xs)
first_written f d old new [] l e = absurd (omega arith)
first_written {X} f d old new (x ∷ xs) l e =
    ap (λ (l : List X). new ++ spaced (map f l)) (take_all (length (x ∷ xs) - 1) xs (omega arith)) ∙ list_begun old new (f x) (map f xs) e

-- texts of signed numbers, which are passed as their bits
pub ruleset two_signed = (two_written, to_z-of_z)

pub ruleset three_signed = (three_written, to_z-of_z)

-- The text of a tag, by whether its bytes are UTF-8, and texts with a space between each two.
use Rattle.std.proofs.Common.{◌≡◌, ℕ, ◌-◌, ◌≤◌, Bool, true, false, cond, List, [], ◌∷◌, ◌++◌, length, get_or, map, take, drop, decimal, refl, sym, ap, ◌∙◌, append_assoc, append-nil, arith}
use Rattle.std.specs.List.{join_with_byte}
use Rattle.std.specs.Prelude.{codes, IsUtf8}
use Rattle.std.specs.Str.{is_utf8}
use Rattle.std.proofs.lemmas.Str.{IsUtf8-from_is_utf8, is_utf8-from_IsUtf8}
use Rattle.subsetter_base.specs.Texts.{tag_text}
use Rattle.subsetter_base.proofs.Lists.{rest_of}

pub text_is : (bytes : List ℕ) → IsUtf8 bytes → bytes ≡ tag_text bytes
text_is bytes is = sym (ap (λ b. cond b bytes (codes "...")) (is_utf8-from_IsUtf8 bytes is))

not_true : (b : Bool) → (b ≡ true → ⊥) → b ≡ false
not_true true h = absurd (h refl)
not_true false h = refl

pub dots_are : (bytes : List ℕ) → (IsUtf8 bytes → ⊥) → codes "..." ≡ tag_text bytes
dots_are bytes not = sym (ap (λ b. cond b bytes (codes "...")) (not_true (is_utf8 bytes) (λ e. not (IsUtf8-from_is_utf8 bytes e))))

-- ---- texts with a space between each two

-- each text with a space in front
abbrev pub spaced : List (List ℕ) → List ℕ
spaced [] = []
spaced (t ∷ ts) = (32 ∷ t) ++ spaced ts

pub joined : (t : List ℕ) (ts : List (List ℕ)) → join_with_byte 32 (t ∷ ts) ≡ t ++ spaced ts
joined t [] = sym (append-nil t)
joined t (u ∷ ts) = ap (λ (l : List ℕ). t ++ (32 ∷ l)) (joined u ts)

-- the first text is written without a space
pub list_begun : (old new t : List ℕ) (ts : List (List ℕ)) → new ≡ old ++ t → new ++ spaced ts ≡ old ++ join_with_byte 32 (t ∷ ts)
list_begun old new t ts e =
    ap (λ (l : List ℕ). l ++ spaced ts) e ∙ append_assoc old t (spaced ts) ∙ ap (λ (l : List ℕ). old ++ l) (sym (joined t ts))

pub decimals_begun : (old new ws : List ℕ) → 1 ≤ length ws → new ≡ old ++ decimal (get_or ws 0 0) → new ++ spaced (map decimal (take (length ws - 1) (drop 1 ws))) ≡ old ++ join_with_byte 32 (map decimal ws)
decimals_begun old new [] l e = absurd (omega arith)
decimals_begun old new (w ∷ ws) l e =
    ap (λ (l : List ℕ). new ++ spaced (map decimal l)) (rest_of 1 (w ∷ ws)) ∙ list_begun old new (decimal w) (map decimal ws) e

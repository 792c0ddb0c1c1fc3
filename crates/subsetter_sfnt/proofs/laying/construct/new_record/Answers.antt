use Rattle.std.proofs.Common.{◌≡◌, ◌∷◌, [], ◌++◌, List, ℕ, length, get_or, refl, ap, ◌∙◌, rules, arith}
use Rattle.std.specs.Int.{w32, to_be_bytes}
use Rattle.subsetter_sfnt.proofs.laying.construct.new_record.Goals as goal

-- four bytes, one by one
abbrev spelled : List ℕ → List ℕ
spelled xs = get_or xs 0 0 ∷ get_or xs 1 0 ∷ get_or xs 2 0 ∷ get_or xs 3 0 ∷ []

four : (xs : List ℕ) → length xs ≡ 4 → spelled xs ≡ xs
four [] l = absurd (omega arith)
four (a ∷ []) l = absurd (omega arith)
four (a ∷ b ∷ []) l = absurd (omega arith)
four (a ∷ b ∷ c ∷ []) l = absurd (omega arith)
four (a ∷ b ∷ c ∷ d ∷ []) l = refl
four (a ∷ b ∷ c ∷ d ∷ e ∷ xs) l = absurd (omega arith)

joined : (t a b c u x y z : List ℕ) → length t ≡ 4 → length a ≡ 4 → length b ≡ 4 → length c ≡ 4 → t ≡ u → a ≡ x → b ≡ y → c ≡ z → spelled t ++ spelled a ++ spelled b ++ spelled c ≡ u ++ x ++ y ++ z
joined t a b c u x y z lt la lb lc et ea eb ec =
    ap (λ (l : List ℕ). l ++ spelled a ++ spelled b ++ spelled c) (four t lt ∙ et)
    ∙ ap (λ (l : List ℕ). u ++ l ++ spelled b ++ spelled c) (four a la ∙ ea)
    ∙ ap (λ (l : List ℕ). u ++ x ++ l ++ spelled c) (four b lb ∙ eb)
    ∙ ap (λ (l : List ℕ). u ++ x ++ y ++ l) (four c lc ∙ ec)

pub returns : goal.returns
returns g c =
    joined c.get-tag.result.now c.to_be_bytes.result c.to_be_bytes-2.result c.to_be_bytes-3.result _ _ _ _
    (search rules) (search rules) (search rules) (search rules)
    c.get-tag.ensures (c.to_be_bytes.ensures ∙ ap (to_be_bytes w32) c.requires.sum) c.to_be_bytes-2.ensures (c.to_be_bytes-3.ensures ∙ ap (to_be_bytes w32) c.requires.len)

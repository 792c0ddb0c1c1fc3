-- The matrices of a glyph are in the new table.
use Rattle.std.proofs.Common.{◌≡◌, ℕ, List, [], ◌∷◌, map, Option, Some, None, refl, ap, ◌∙◌, sym}
use Rattle.std.specs.Prelude.{ℤ, unwrap_or}
use Rattle.std.specs.Option.{option_map}
use Rattle.std.proofs.lemmas.Option.{none-some, same_Some}
use Rattle.subsetter_cffdata.specs.Reals.Decimals.{Decimal}
use Rattle.subsetter_cffdata.specs.Numerals.Numbers.{Number, Real, in_i32}
use Rattle.subsetter_cffdata.specs.Numerals.Values.{value, thousandfold, thousand, by_1000}
use Rattle.subsetter_cffdata.proofs.Options.{step}
use Rattle.subsetter_cff.specs.Read.Cff.{Cff}
use Rattle.subsetter_cff.specs.Read.Entries.Lookup.{last_of}
use Rattle.subsetter_cff.specs.Read.Entries.Matrices.{thousandth_matrix, magnified, matrix_pair, own_matrix, matrices}
use Rattle.subsetter_cff.specs.Read.Entries.Operators.{font_matrix_operator}
use Rattle.subsetter_cff.specs.Write.Made.{new_matrix}
use Rattle.subsetter_cff.proofs.WriteLaws.Keeping.{in_i32_is}

held_is : (d : Decimal) (x : Number) (o : Option ℤ) → ((y : ℤ) → o ≡ Some y → y ≡ d.power)
    → option_map Real (option_map (λ power. record { mantissa = d.mantissa; power = power }) o) ≡ Some x → value x ≡ d
held_is d x None same e = absurd (none-some x e)
held_is d x (Some y) same e =
    ap value (sym (same_Some _ _ e)) ∙ ap (λ (p : ℤ). record { mantissa = d.mantissa; power = p }) (same y refl)

thousand_is : (x y : Number) → thousand x ≡ Some y → value y ≡ thousandfold (value x)
unfolding thousand
thousand_is x y e = held_is (thousandfold (value x)) y (in_i32 (thousandfold (value x)).power) (λ z. in_i32_is (thousandfold (value x)).power z) e

four : (a b c d a' b' c' d' : Decimal) (rest : List Decimal) → a' ≡ a → b' ≡ b → c' ≡ c → d' ≡ d → a ∷ b ∷ c ∷ d ∷ rest ≡ a' ∷ b' ∷ c' ∷ d' ∷ rest
four a b c d a' b' c' d' rest e f g h = rw (e, f, g, h) refl

by_1000_is : (m n : List Number) → by_1000 m ≡ Some n → magnified (map value m) ≡ map value n
unfolding by_1000
by_1000_is (a ∷ b ∷ c ∷ d ∷ e ∷ f ∷ []) n h =
    let s1 = step (thousand a) _ n h in
    let s2 = step (thousand b) _ n s1.1.1 in
    let s3 = step (thousand c) _ n s2.1.1 in
    let s4 = step (thousand d) _ n s3.1.1 in
    four (thousandfold (value a)) (thousandfold (value b)) (thousandfold (value c)) (thousandfold (value d)) (value s1.0) (value s2.0) (value s3.0) (value s4.0) (value e ∷ value f ∷ [])
    (thousand_is a s1.0 s1.1.0) (thousand_is b s2.0 s2.1.0) (thousand_is c s3.0 s3.1.0) (thousand_is d s4.0 s4.1.0) ∙ ap (map value) (same_Some _ _ s4.1.1)
by_1000_is [] n h = absurd (none-some n h)
by_1000_is (a ∷ []) n h = absurd (none-some n h)
by_1000_is (a ∷ b ∷ []) n h = absurd (none-some n h)
by_1000_is (a ∷ b ∷ c ∷ []) n h = absurd (none-some n h)
by_1000_is (a ∷ b ∷ c ∷ d ∷ []) n h = absurd (none-some n h)
by_1000_is (a ∷ b ∷ c ∷ d ∷ e ∷ []) n h = absurd (none-some n h)
by_1000_is (a ∷ b ∷ c ∷ d ∷ e ∷ f ∷ g ∷ m) n h = absurd (none-some n h)

pair_is : (top own : Option (List Number)) (m n : List Number) → m ≡ unwrap_or top thousandth_matrix → new_matrix top own ≡ Some n → matrix_pair top own ≡ (map value m, map value n)
pair_is (Some t) (Some o) m n e h = rw (e, same_Some _ _ h) refl
pair_is (Some t) None m n e h = rw (e, ← same_Some _ _ h) refl
pair_is None None m n e h = rw (e, ← same_Some _ _ h) refl
pair_is None (Some o) m n e h = rw (e, by_1000_is o n h) refl

pub matrices_are : (cff : Cff) (glyph : ℕ) (own : Option (List Number)) (m n : List Number) → own_matrix cff glyph ≡ Some own → m ≡ unwrap_or (last_of font_matrix_operator cff.top) thousandth_matrix
    → new_matrix (last_of font_matrix_operator cff.top) own ≡ Some n → matrices cff glyph ≡ Some (map value m, map value n)
unfolding matrices
matrices_are cff glyph own m n is e h = rw is (ap Some (pair_is (last_of font_matrix_operator cff.top) own m n e h))

-- Each code of an entry has a text, but for code 0.
use Rattle.std.proofs.Common.{◌≡◌, ℕ, zero, suc, ◌<◌, Bool, true, false, cond, eqb, ◌||◌, List, [], ◌∷◌, length, get_or, refl, sym, ap, subst, ◌∙◌, inl, inr, arith}
use Rattle.std.specs.List.{list_any}
use Rattle.std.proofs.Math.Bool.{or-true}
use Rattle.std.proofs.lemmas.Bool.{cases_eq, eq-eqb, ne_eqb}
use Rattle.pdf_text.specs.Cmaps.Cmap.{Line}
use Rattle.pdf_codes.specs.Cmaps.Texts.{first_text, joiner, joiner_in, said_by}
use Rattle.pdf_codes.specs.Codes.{HasZerothGlyph, Used, coded, keyed}
use Rattle.pdf_codes.specs.Laws.{CodesHaveTexts}
use Rattle.pdf_codes.proofs.CmapsLaws.TextSteps.{first_other, first_same}
use Rattle.pdf_codes.proofs.CodeLaws.{as_many_codes, zero_glyph}
use Rattle.subsetter_base.specs.Texts.{or_else}

-- ---- codes above 0

-- the code of an entry is that of a line
line_found : (us : List Used) (codes : List ℕ) → length codes ≡ length us → (k i : ℕ) → i < length codes → get_or codes i 0 ≡ k → list_any (λ (l : Line). eqb l.code k) (coded us codes) ≡ true
line_found us [] many k i lt e = absurd (omega arith)
line_found [] (c ∷ cs) many k i lt e = absurd (omega (arith, many))
line_found (u ∷ us) (c ∷ cs) many k zero lt e = ap (λ (b : Bool). b || list_any (λ (l : Line). eqb l.code k) (coded us cs)) (eq-eqb c k e)
line_found (u ∷ us) (c ∷ cs) many k (suc i) lt e = ap (λ (b : Bool). eqb c k || b) (line_found us cs (omega (arith, many)) k i (omega (arith, lt)) e) ∙ or-true (eqb c k)

some_joiner : (k : ℕ) → 0 < k → joiner k ≡ 8288 ∷ []
some_joiner k h = ap (λ (b : Bool). cond b [] (8288 ∷ [])) (ne_eqb k 0 (λ e. omega (arith, h, e)))

some_else : (t : List ℕ) → 0 < length (or_else t (8288 ∷ []))
some_else [] = omega arith
some_else (u ∷ us) = omega arith

some_said : (ls : List Line) (k : ℕ) → 0 < k → list_any (λ (l : Line). eqb l.code k) ls ≡ true → 0 < length (said_by ls k)
some_said ls k h found =
    let is : said_by ls k ≡ or_else (first_text ls k) (8288 ∷ []) = ap (λ (b : Bool). or_else (first_text ls k) (cond b (joiner k) [])) found ∙ ap (or_else (first_text ls k)) (some_joiner k h) in
    subst (λ (t : List ℕ). 0 < length t) (sym is) (some_else (first_text ls k))

-- ---- code 0

no_joiner : (b : Bool) → cond b (joiner 0) [] ≡ []
no_joiner true = refl
no_joiner false = refl

no_text : (u : Used) → u.glyph ≡ 0 → (keyed u).units ≡ []
no_text u e = ap (λ (b : Bool). (cond b (record { glyph = 0; units = [] }) u).units) (eq-eqb u.glyph 0 e)

zeroth_by : (u : Used) (c : ℕ) (rest : List Line) → (c ≡ 0 → u.glyph ≡ 0) → first_text rest 0 ≡ [] → first_text (record { code = c; units = (keyed u).units } ∷ rest) 0 ≡ []
zeroth_by u c rest h later = elim (cases_eq c 0) [
  | inl e ↦ first_same (record { code = c; units = (keyed u).units }) rest 0 e ∙ ap (λ (t : List ℕ). or_else t (first_text rest 0)) (no_text u (h e)) ∙ later
  | inr ne ↦ first_other (record { code = c; units = (keyed u).units }) rest 0 ne ∙ later
]

zeroth_text : (us : List Used) (codes : List ℕ) → HasZerothGlyph us codes → first_text (coded us codes) 0 ≡ []
zeroth_text [] codes h = refl
zeroth_text (u ∷ us) [] h = refl
zeroth_text (u ∷ us) (c ∷ cs) h =
    let later : first_text (coded us cs) 0 ≡ [] = zeroth_text us cs (λ i lt e. h (suc i) (omega (arith, lt)) e) in
    zeroth_by u c (coded us cs) (λ e. h 0 (omega arith) e) later

pub codes_have_texts : CodesHaveTexts
codes_have_texts choice us codes h = record {
  each = λ i lt some. some_said (coded us codes) (get_or codes i 0) some (line_found us codes (as_many_codes choice us codes h) (get_or codes i 0) i lt refl);
  zeroth =
      ap (λ (t : List ℕ). or_else t (joiner_in (coded us codes) 0)) (zeroth_text us codes (zero_glyph choice us codes h))
      ∙ no_joiner (list_any (λ (l : Line). eqb l.code 0) (coded us codes));
}

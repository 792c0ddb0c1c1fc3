-- What codes say: a table of texts that gets U+2060 for each code without one.
use Rattle.std.proofs.Common.{◌≡◌, ℕ, ◌≤◌, Bool, true, false, cond, eqb, ◌||◌, List, [], ◌∷◌, get_or, refl, sym, ap, ◌∙◌, inl, inr, arith}
use Rattle.std.specs.List.{list_any}
use Rattle.std.proofs.lemmas.Bool.{cases_eq, cases_lt, eq-eqb, ne_eqb}
use Rattle.pdf_text.specs.Cmaps.Cmap.{Line}
use Rattle.pdf_codes.specs.Cmaps.Texts.{first_text, joiner, joiner_in, limit, lines_of_codes, said_by}
use Rattle.pdf_codes.proofs.CmapsLaws.TextSteps.{lines_past, lines_within, none_past, text_done}
use Rattle.subsetter_base.specs.Texts.{or_else}

-- ---- one code

-- what a line of U+2060 leaves in a table
pub joiner_put : (t after : List (List ℕ)) (c : ℕ) (us : List ℕ) (k : ℕ) → us ≡ joiner c → or_else (get_or after k []) [] ≡ or_else (get_or t k []) (cond (eqb c k) (or_else us []) [])
    → get_or after k [] ≡ or_else (get_or t k []) (cond (eqb c k) (joiner c) [])
joiner_put t after c us k is h = sym (text_done (get_or after k [])) ∙ h ∙ ap (λ (v : List ℕ). or_else (get_or t k []) (cond (eqb c k) v [])) (text_done us ∙ is)

-- ---- one line more

or_same : (b : Bool) (j : List ℕ) → or_else j (cond b j []) ≡ j
or_same true [] = refl
or_same false [] = refl
or_same b (u ∷ us) = refl

or_assoc : (t j x : List ℕ) → or_else (or_else t j) x ≡ or_else t (or_else j x)
or_assoc [] j x = refl
or_assoc (u ∷ us) j x = refl

joiner_same : (l : Line) (rest : List Line) (k : ℕ) → l.code ≡ k → joiner_in (l ∷ rest) k ≡ joiner k
joiner_same l rest k e = ap (λ (b : Bool). cond (b || list_any (λ (m : Line). eqb m.code k) rest) (joiner k) []) (eq-eqb l.code k e)

joiner_other : (l : Line) (rest : List Line) (k : ℕ) → (l.code ≡ k → ⊥) → joiner_in (l ∷ rest) k ≡ joiner_in rest k
joiner_other l rest k ne = ap (λ (b : Bool). cond (b || list_any (λ (m : Line). eqb m.code k) rest) (joiner k) []) (ne_eqb l.code k ne)

joined_by : (l : Line) (rest : List Line) (t : List ℕ) (k : ℕ) → or_else (or_else t (cond (eqb l.code k) (joiner l.code) [])) (joiner_in rest k) ≡ or_else t (joiner_in (l ∷ rest) k)
joined_by l rest t k = elim (cases_eq l.code k) [
  | inl e ↦
      ap (λ (b : Bool). or_else (or_else t (cond b (joiner l.code) [])) (joiner_in rest k)) (eq-eqb l.code k e)
      ∙ ap (λ (n : ℕ). or_else (or_else t (joiner n)) (joiner_in rest k)) e
      ∙ or_assoc t (joiner k) (joiner_in rest k)
      ∙ ap (or_else t) (or_same (list_any (λ (m : Line). eqb m.code k) rest) (joiner k))
      ∙ sym (ap (or_else t) (joiner_same l rest k e))
  | inr ne ↦
      ap (λ (b : Bool). or_else (or_else t (cond b (joiner l.code) [])) (joiner_in rest k)) (ne_eqb l.code k ne)
      ∙ ap (λ (v : List ℕ). or_else v (joiner_in rest k)) (text_done t)
      ∙ sym (ap (or_else t) (joiner_other l rest k ne))
]

-- where the code of a line has got U+2060, unless it had a text
pub joined : (l : Line) (rest : List Line) (t after : List ℕ) (k : ℕ) → after ≡ or_else t (cond (eqb l.code k) (joiner l.code) []) → or_else after (joiner_in rest k) ≡ or_else t (joiner_in (l ∷ rest) k)
joined l rest t after k is = ap (λ (v : List ℕ). or_else v (joiner_in rest k)) is ∙ joined_by l rest t k

-- ---- read

joiner_past : (ls : List Line) (k : ℕ) → limit ls ≤ k → joiner_in ls k ≡ []
joiner_past [] k h = refl
joiner_past (l ∷ ls) k h = joiner_other l ls k (λ e. omega (arith, h, e)) ∙ joiner_past ls k (omega (arith, h))

-- past the greatest code no code says anything
said_past : (ls : List Line) (k : ℕ) → limit ls ≤ k → said_by ls k ≡ []
said_past ls k h = ap (λ (t : List ℕ). or_else t (joiner_in ls k)) (none_past ls k h) ∙ joiner_past ls k h

-- the lines of the codes have what each code says
pub same_said : (ls : List Line) (k : ℕ) → first_text (lines_of_codes ls) k ≡ said_by ls k
same_said ls k = elim (cases_lt k (limit ls)) [
  | inl lt ↦ lines_within (said_by ls) 0 (limit ls) k (omega arith) (omega arith)
  | inr ge ↦ lines_past (said_by ls) 0 (limit ls) k (omega arith) ∙ sym (said_past ls k ge)
]

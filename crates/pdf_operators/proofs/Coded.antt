-- The pair of a code is that of its piece.
use Rattle.std.proofs.Common.{◌≡◌, ℕ, ◌+◌, Bool, true, false, cond, List, [], ◌∷◌, ◌++◌, get_or, Option, Some, None, option_map, ◌==◌, refl, sym, ap, ◌∙◌, add-one}
use Rattle.std.specs.Prelude.{is_some, if◌then◌else◌, All}
use Rattle.std.proofs.lemmas.Bool.Decides.{Decides-eqb}
use Rattle.std.proofs.lemmas.List.Elements.{All-nil, All-cons, All-head, All-tail}
use Rattle.subsetter_base.specs.Remap.{index_by}
use Rattle.subsetter_base.proofs.Lists.{and_parts}
use Rattle.pdf_runs.specs.declared.codes.Pair.{Pair}
use Rattle.pdf_runs.specs.declared.pieces.Figure.{Figure}
use Rattle.pdf_runs.specs.declared.pieces.Figure.TheVariants.{Source, Blank}
use Rattle.pdf_runs.specs.declared.pieces.Piece.{Piece}
use Rattle.pdf_runs.specs.Codes.{is_zeroth, pair_of, same, same_character, same_figure, zeroth}
use Rattle.pdf_operators.specs.Reading.{figure_in}
use Rattle.pdf_operators.specs.Operators.{code_of, or_zero}

-- ---- equal pairs

figure_is : (f g : Figure) → same_figure f g ≡ true → f ≡ g
figure_is (Source x) (Source y) e = ap Source ((Decides-eqb x y).0 e)
figure_is (Source x) Blank e = absurd cc
figure_is Blank (Source y) e = absurd cc
figure_is Blank Blank e = refl

character_is : (a b : Option ℕ) → same_character a b ≡ true → a ≡ b
character_is None None e = refl
character_is None (Some d) e = absurd cc
character_is (Some c) None e = absurd cc
character_is (Some c) (Some d) e = ap Some ((Decides-eqb c d).0 e)

same_is : (p q : Pair) → same p q ≡ true → p ≡ q
same_is p q e =
    let parts = and_parts (same_figure p.figure q.figure) (same_character p.says q.says) e in
    ap (λ (f : Figure). record { figure = f; says = p.says }) (figure_is p.figure q.figure parts.0)
    ∙ ap (λ (c : Option ℕ). record { figure = q.figure; says = c }) (character_is p.says q.says parts.1)

-- ---- the pair of a code

later : (o : Option ℕ) (ys : List Pair) (q y : Pair) → ((n : ℕ) → o ≡ Some n → get_or ys n zeroth ≡ q) → is_some (option_map (λ i. i + 1) o) ≡ true → get_or (y ∷ ys) (or_zero (option_map (λ i. i + 1) o)) zeroth ≡ q
later None ys q y h e = absurd cc
later (Some m) ys q y h e = ap (λ (k : ℕ). get_or (y ∷ ys) k zeroth) (add-one m) ∙ h m refl

found_by : (b : Bool) (ys : List Pair) (q y : Pair) → same y q ≡ b → ((n : ℕ) → index_by same ys q ≡ Some n → get_or ys n zeroth ≡ q) → is_some (cond b (Some 0) (option_map (λ i. i + 1) (index_by same ys q))) ≡ true
    → get_or (y ∷ ys) (or_zero (cond b (Some 0) (option_map (λ i. i + 1) (index_by same ys q)))) zeroth ≡ q
found_by true ys q y e h s = same_is y q e
found_by false ys q y e h s = later (index_by same ys q) ys q y h s

some_is : (o : Option ℕ) (n : ℕ) → o ≡ Some n → is_some o ≡ true
some_is o n e = ap is_some e

found : (pairs : List Pair) (q : Pair) → is_some (index_by same pairs q) ≡ true → get_or pairs (or_zero (index_by same pairs q)) zeroth ≡ q
found [] q s = absurd cc
found (y ∷ ys) q s =
    found_by (same y q) ys q y refl (λ n e. sym (ap (λ (o : Option ℕ). get_or ys (or_zero o) zeroth) e) ∙ found ys q (some_is (index_by same ys q) n e)) s

pub pair_found : (pairs : List Pair) (p : Piece) → is_some (index_by same pairs (pair_of p)) ≡ true → get_or pairs (code_of pairs (pair_of p)) zeroth ≡ pair_of p
pair_found pairs p s = found pairs (pair_of p) s

figure_by : (b : Bool) (g : ℕ) (s : Option ℕ) → (g == 0) ≡ b → (if b then zeroth else record { figure = Source g; says = s }).figure ≡ Source g
figure_by true g s e = ap Source (sym ((Decides-eqb g 0).0 e))
figure_by false g s e = refl

pair_figure : (f : Figure) (s : Option ℕ) → (if is_zeroth f then zeroth else record { figure = f; says = s }).figure ≡ f
pair_figure (Source g) s = figure_by (g == 0) g s refl
pair_figure Blank s = refl

pub figure_found : (pairs : List Pair) (p : Piece) → is_some (index_by same pairs (pair_of p)) ≡ true → figure_in pairs (code_of pairs (pair_of p)) ≡ p.figure
figure_found pairs p s = ap (λ (q : Pair). q.figure) (pair_found pairs p s) ∙ pair_figure p.figure p.says

-- ---- pieces, one after the other

module _ {X : Type 0} (P : X → Type 0) where
  pub All-front : (xs ys : List X) → All P (xs ++ ys) → All P xs
  All-front [] ys h = All-nil P
  All-front (x ∷ xs) ys h = All-cons P x xs (All-head P x (xs ++ ys) h) (All-front xs ys (All-tail P x (xs ++ ys) h))

  pub All-back : (xs ys : List X) → All P (xs ++ ys) → All P ys
  All-back [] ys h = h
  All-back (x ∷ xs) ys h = All-back xs ys (All-tail P x (xs ++ ys) h)

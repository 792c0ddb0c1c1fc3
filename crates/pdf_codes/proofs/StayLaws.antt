-- Where more glyphs come into use, the codes of the earlier entries stay.
use Rattle.std.proofs.Common.{◌≡◌, ℕ, ◌+◌, Bool, true, false, cond, List, [], ◌∷◌, ◌++◌, length, take, map, Option, Some, None, refl, sym, ap, ◌∙◌}
use Rattle.std.specs.Prelude.{is_some}
use Rattle.std.specs.Option.{option_map}
use Rattle.std.proofs.lemmas.List.{map-append}
use Rattle.subsetter_base.specs.Indexes.{index_of, with_glyph, with_glyphs}
use Rattle.subsetter_base.specs.Remap.{index_by, with_value}
use Rattle.subsetter_base.proofs.Options.{just_is}
use Rattle.pdf_codes.specs.declared.codes.Codes.TheVariants.{Consecutive, Source, EachText}
use Rattle.pdf_codes.specs.Codes.{Used, glyphs_of, keyed, same, with_pairs}
use Rattle.pdf_codes.specs.Laws.{CodesStay, CodesAreDetermined}
use Rattle.pdf_codes.proofs.Pairs.{pair_stays}

-- ---- what is found for each of the first ones is found again

pub same_head : {A : Type 0} (f : A → Option ℕ) (u : A) (c l : ℕ) (o : Option ℕ) → Some c ≡ f u → Some l ≡ o → ((n : ℕ) → f u ≡ Some n → o ≡ Some n) → l ≡ c
same_head f u c l o e h stays = just_is l c (h ∙ stays c (sym e))

pub first_stay : {A : Type 0} (f g : A → Option ℕ) (us more : List A) (codes longer : List ℕ) → map Some codes ≡ map f us → map Some longer ≡ map g (us ++ more)
    → ((u : A) (n : ℕ) → f u ≡ Some n → g u ≡ Some n) → take (length codes) longer ≡ codes
first_stay f g [] more [] longer e h stays = refl
first_stay f g [] more (c ∷ cs) longer e h stays = absurd cc
first_stay f g (u ∷ us) more [] longer e h stays = absurd cc
first_stay f g (u ∷ us) more (c ∷ cs) [] e h stays = absurd cc
first_stay f g (u ∷ us) more (c ∷ cs) (l ∷ ls) e h stays =
    let head : Some c ≡ f u = cc in
    let first : Some l ≡ g u = cc in
    let rest : map Some cs ≡ map f us = cc in
    let others : map Some ls ≡ map g (us ++ more) = cc in
    let one : l ≡ c = same_head f u c l (g u) head first (stays u) in
    let later : take (length cs) ls ≡ cs = first_stay f g us more cs ls rest others stays in
    ap (λ (t : List ℕ). l ∷ t) later ∙ ap (λ (n : ℕ). n ∷ cs) one

-- ---- glyphs

later : (b : Bool) (o q : Option ℕ) (n : ℕ) → ((m : ℕ) → o ≡ Some m → q ≡ Some m) → cond b (Some 0) (option_map (λ i. i + 1) o) ≡ Some n → cond b (Some 0) (option_map (λ i. i + 1) q) ≡ Some n
later true o q n h e = e
later false None q n h e = absurd cc
later false (Some m) q n h e = ap (option_map (λ i. i + 1)) (h m refl) ∙ e

place_stays : (xs ys : List ℕ) (x n : ℕ) → index_of xs x ≡ Some n → index_of (xs ++ ys) x ≡ Some n
place_stays [] ys x n e = absurd cc
place_stays (y ∷ xs) ys x n e = later _ (index_of xs x) (index_of (xs ++ ys) x) n (λ m h. place_stays xs ys x m h) e

glyph_stays_by : (b : Bool) (xs : List ℕ) (v x n : ℕ) → index_of xs x ≡ Some n → index_of (cond b xs (xs ++ v ∷ [])) x ≡ Some n
glyph_stays_by true xs v x n e = e
glyph_stays_by false xs v x n e = place_stays xs (v ∷ []) x n e

-- a glyph that is there keeps its number
pub glyph_stays : (ys xs : List ℕ) (x n : ℕ) → index_of xs x ≡ Some n → index_of (with_glyphs xs ys) x ≡ Some n
glyph_stays [] xs x n e = e
glyph_stays (y ∷ ys) xs x n e = glyph_stays ys (with_glyph xs y) x n (glyph_stays_by (is_some (index_of xs y)) xs y x n e)

glyphs_in_turn : (a xs b : List ℕ) → with_glyphs xs (a ++ b) ≡ with_glyphs (with_glyphs xs a) b
glyphs_in_turn [] xs b = refl
glyphs_in_turn (y ∷ a) xs b = glyphs_in_turn a (with_glyph xs y) b

-- ---- pairs

pairs_in_turn : (a xs b : List Used) → with_pairs xs (a ++ b) ≡ with_pairs (with_pairs xs a) b
pairs_in_turn [] xs b = refl
pairs_in_turn (u ∷ a) xs b = pairs_in_turn a (with_value same xs u) b

-- ---- the laws

glyphs_append : (us more : List Used) → glyphs_of (us ++ more) ≡ glyphs_of us ++ glyphs_of more
glyphs_append us more = map-append (λ (u : Used). u.glyph) us more

numbers_stay : (a b : List ℕ) (codes longer : List ℕ) → map Some codes ≡ map (index_of (with_glyphs (0 ∷ []) a)) a → map Some longer ≡ map (index_of (with_glyphs (0 ∷ []) (a ++ b))) (a ++ b) → take (length codes) longer ≡ codes
numbers_stay a b codes longer e h =
    first_stay (index_of (with_glyphs (0 ∷ []) a)) (index_of (with_glyphs (0 ∷ []) (a ++ b))) a b codes longer e h
    (λ x n found. ap (λ (l : List ℕ). index_of l x) (glyphs_in_turn a (0 ∷ []) b) ∙ glyph_stays b (with_glyphs (0 ∷ []) a) x n found)

pair_numbers_stay : (a b : List Used) (z : List Used) (codes longer : List ℕ) → map Some codes ≡ map (index_by same (with_pairs z a)) a → map Some longer ≡ map (index_by same (with_pairs z (a ++ b))) (a ++ b) → take (length codes) longer ≡ codes
pair_numbers_stay a b z codes longer e h =
    first_stay (index_by same (with_pairs z a)) (index_by same (with_pairs z (a ++ b))) a b codes longer e h
    (λ u n found. ap (λ (l : List Used). index_by same l u) (pairs_in_turn a z b) ∙ pair_stays b (with_pairs z a) u n found)

numbers_of : (a b c : List ℕ) (longer : List ℕ) → c ≡ a ++ b → map Some longer ≡ map (index_of (with_glyphs (0 ∷ []) c)) c → map Some longer ≡ map (index_of (with_glyphs (0 ∷ []) (a ++ b))) (a ++ b)
numbers_of a b c longer is h = h ∙ ap (λ (l : List ℕ). map (index_of (with_glyphs (0 ∷ []) l)) l) is

pair_numbers_of : (a b c z : List Used) (longer : List ℕ) → c ≡ a ++ b → map Some longer ≡ map (index_by same (with_pairs z c)) c → map Some longer ≡ map (index_by same (with_pairs z (a ++ b))) (a ++ b)
pair_numbers_of a b c z longer is h = h ∙ ap (λ (l : List Used). map (index_by same (with_pairs z l)) l) is

pub codes_stay : CodesStay
codes_stay Consecutive us more codes longer e h =
    numbers_stay (glyphs_of us) (glyphs_of more) codes longer e (numbers_of (glyphs_of us) (glyphs_of more) (glyphs_of (us ++ more)) longer (glyphs_append us more) h)
codes_stay Source us more codes longer e h =
    first_stay Some Some (glyphs_of us) (glyphs_of more) codes longer (ap (map Some) e) (ap (map Some) (h ∙ glyphs_append us more)) (λ u n found. found)
codes_stay EachText us more codes longer e h =
    pair_numbers_stay (map keyed us) (map keyed more) (record { glyph = 0; units = [] } ∷ []) codes longer e
    (pair_numbers_of (map keyed us) (map keyed more) (map keyed (us ++ more)) (record { glyph = 0; units = [] } ∷ []) longer (map-append keyed us more) h)

same_numbers : (a b : List ℕ) → map Some a ≡ map Some b → a ≡ b
same_numbers [] [] e = refl
same_numbers [] (y ∷ b) e = absurd cc
same_numbers (x ∷ a) [] e = absurd cc
same_numbers (x ∷ a) (y ∷ b) e =
    let head : Some x ≡ Some y = cc in
    let rest : map Some a ≡ map Some b = cc in
    let one : x ≡ y = just_is x y head in
    let later : a ≡ b = same_numbers a b rest in
    ap (λ (t : List ℕ). x ∷ t) later ∙ ap (λ (n : ℕ). n ∷ b) one

pub codes_are_determined : CodesAreDetermined
codes_are_determined Consecutive us a b e h = same_numbers a b (e ∙ sym h)
codes_are_determined Source us a b e h = e ∙ sym h
codes_are_determined EachText us a b e h = same_numbers a b (e ∙ sym h)

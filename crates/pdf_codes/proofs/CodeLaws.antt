-- Entries of one code have one glyph, and code 0 is that of glyph 0.
use Rattle.std.proofs.Common.{◌≡◌, ℕ, zero, suc, ◌+◌, ◌<◌, ◌≤◌, Bool, true, false, cond, eqb, ◌||◌, List, [], ◌∷◌, ◌++◌, length, get_or, map, Option, Some, None, refl, sym, ap, ◌∙◌, arith, length-append}
use Rattle.std.specs.Prelude.{is_some, IsSome}
use Rattle.std.proofs.Math.Bool.{or-true}
use Rattle.std.specs.Option.{option_map}
use Rattle.std.proofs.lemmas.Bool.{eqb-true}
use Rattle.std.proofs.lemmas.List.{get_or-map, get_or_default, length-map}
use Rattle.subsetter_base.specs.Indexes.{index_of, with_glyph, with_glyphs}
use Rattle.subsetter_base.specs.Remap.{index_by, with_value}
use Rattle.subsetter_base.proofs.GlyphLemmas.{Contains-index, known, known-all, index-finds}
use Rattle.subsetter_base.proofs.Lists.{and_parts}
use Rattle.subsetter_base.proofs.Options.{just_is}
use Rattle.pdf_codes.specs.declared.codes.Codes.{Codes}
use Rattle.pdf_codes.specs.declared.codes.Codes.TheVariants.{Consecutive, Source, EachText}
use Rattle.pdf_codes.specs.Codes.{Used, AreCodes, HasZerothGlyph, HaveOneGlyph, glyph_at, glyphs_of, keyed, pairs_of, same, with_pairs}

-- ---- an element of a list that is found by a test for each

pub found_at : {A : Type 0} (f : A → Option ℕ) (us : List A) (codes : List ℕ) (d : A) → map Some codes ≡ map f us → (i : ℕ) → i < length us → f (get_or us i d) ≡ Some (get_or codes i 0)
found_at f [] codes d e i lt = absurd (omega arith)
found_at f (u ∷ us) [] d e i lt = absurd cc
found_at f (u ∷ us) (c ∷ cs) d e zero lt = cc
found_at f (u ∷ us) (c ∷ cs) d e (suc i) lt = let rest : map Some cs ≡ map f us = cc in found_at f us cs d rest i (omega arith)

as_many : {A : Type 0} (f : A → Option ℕ) (us : List A) (codes : List ℕ) → map Some codes ≡ map f us → length codes ≡ length us
as_many f us codes e = sym (length-map codes Some) ∙ ap length e ∙ length-map us f

-- ---- numbers of glyphs

first_pushed : (l : List ℕ) (x : ℕ) → 1 ≤ length l → get_or (l ++ x ∷ []) 0 0 ≡ get_or l 0 0
first_pushed [] x h = absurd (omega arith)
first_pushed (y ∷ l) x h = refl

longer : (b : Bool) (l : List ℕ) (x : ℕ) → 1 ≤ length l → (1 ≤ length (cond b l (l ++ x ∷ []))) × (get_or (cond b l (l ++ x ∷ [])) 0 0 ≡ get_or l 0 0)
longer true l x h = (h, refl)
longer false [] x h = absurd (omega arith)
longer false (y ∷ l) x h = (omega arith, refl)

first_glyph : (ys l : List ℕ) → 1 ≤ length l → get_or (with_glyphs l ys) 0 0 ≡ get_or l 0 0
first_glyph [] l h = refl
first_glyph (y ∷ ys) l h = let more = longer (is_some (index_of l y)) l y h in first_glyph ys (with_glyph l y) more.0 ∙ more.1

-- ---- numbers of pairs

same_cond : {A : Type 0} (eq : A → A → Bool) (y x : A) (o : Option ℕ) (n : ℕ) (d : A) (ys : List A) → ((m : ℕ) → o ≡ Some m → eq (get_or ys m d) x ≡ true) → (b : Bool) → eq y x ≡ b → cond b (Some 0) (option_map (λ i. i + 1) o) ≡ Some n → eq (get_or (y ∷ ys) n d) x ≡ true
same_cond eq y x o n d ys h true is e = let zeroth : n ≡ 0 = sym (just_is 0 n e) in ap (λ k. eq (get_or (y ∷ ys) k d) x) zeroth ∙ is
same_cond eq y x None n d ys h false is e = absurd cc
same_cond eq y x (Some m) n d ys h false is e = let next : n ≡ suc m = sym (just_is (m + 1) n e) ∙ omega arith in ap (λ k. eq (get_or (y ∷ ys) k d) x) next ∙ h m refl

value_found : {A : Type 0} (eq : A → A → Bool) (xs : List A) (x : A) (n : ℕ) (d : A) → index_by eq xs x ≡ Some n → eq (get_or xs n d) x ≡ true
value_found eq [] x n d e = absurd cc
value_found eq (y ∷ ys) x n d e = same_cond eq y x (index_by eq ys x) n d ys (λ m h. value_found eq ys x m d h) (eq y x) refl e

abbrev zeroth_pair : Used
zeroth_pair = record { glyph = 0; units = [] }

longer_pairs : (b : Bool) (l : List Used) (x : Used) → 1 ≤ length l → (1 ≤ length (cond b l (l ++ x ∷ []))) × (get_or (cond b l (l ++ x ∷ [])) 0 zeroth_pair ≡ get_or l 0 zeroth_pair)
longer_pairs true l x h = (h, refl)
longer_pairs false [] x h = absurd (omega arith)
longer_pairs false (y ∷ l) x h = (omega arith, refl)

first_pair : (us l : List Used) → 1 ≤ length l → get_or (with_pairs l us) 0 zeroth_pair ≡ get_or l 0 zeroth_pair
first_pair [] l h = refl
first_pair (u ∷ us) l h = let more = longer_pairs (is_some (index_by same l u)) l u h in first_pair us (with_value same l u) more.0 ∙ more.1

keyed_by : (b : Bool) (u : Used) → eqb u.glyph 0 ≡ b → (cond b zeroth_pair u).glyph ≡ u.glyph
keyed_by true u e = sym (eqb-true u.glyph 0 e)
keyed_by false u e = refl

-- a key has its entry's glyph
pub keyed_glyph : (u : Used) → (keyed u).glyph ≡ u.glyph
keyed_glyph u = keyed_by (eqb u.glyph 0) u refl

same_glyph : (a b : Used) → same a b ≡ true → a.glyph ≡ b.glyph
same_glyph a b e = eqb-true a.glyph b.glyph (and_parts (eqb a.glyph b.glyph) _ e).0

-- ---- the laws

pub as_many_codes : (choice : Codes) (us : List Used) (codes : List ℕ) → AreCodes choice us codes → length codes ≡ length us
as_many_codes Consecutive us codes h = as_many (index_of (with_glyphs (0 ∷ []) (glyphs_of us))) (glyphs_of us) codes h ∙ length-map us (λ (u : Used). u.glyph)
as_many_codes Source us codes h = ap length h ∙ length-map us (λ (u : Used). u.glyph)
as_many_codes EachText us codes h = as_many (index_by same (pairs_of us)) (map keyed us) codes h ∙ length-map us keyed

-- the glyph of a code
abbrev glyph_of_code : Codes → List Used → ℕ → ℕ
glyph_of_code Consecutive us c = get_or (with_glyphs (0 ∷ []) (glyphs_of us)) c 0
glyph_of_code Source us c = c
glyph_of_code EachText us c = (get_or (pairs_of us) c zeroth_pair).glyph

pub its_glyph : (choice : Codes) (us : List Used) (codes : List ℕ) → AreCodes choice us codes → (i : ℕ) → i < length us → glyph_of_code choice us (get_or codes i 0) ≡ glyph_at us i
its_glyph Consecutive us codes h i lt =
    let glyphs = glyphs_of us in
    let found = found_at (index_of (with_glyphs (0 ∷ []) glyphs)) glyphs codes 0 h i (omega (arith, length-map us (λ (u : Used). u.glyph))) in
    (index-finds (with_glyphs (0 ∷ []) glyphs) (get_or glyphs i 0) (get_or codes i 0) found).1
its_glyph Source us codes h i lt = ap (λ (l : List ℕ). get_or l i 0) h
its_glyph EachText us codes h i lt =
    let found = found_at (index_by same (pairs_of us)) (map keyed us) codes zeroth_pair h i (omega (arith, length-map us keyed)) in
    let key : get_or (map keyed us) i zeroth_pair ≡ keyed (get_or us i zeroth_pair) = get_or-map keyed us i zeroth_pair zeroth_pair lt in
    same_glyph (get_or (pairs_of us) (get_or codes i 0) zeroth_pair) (get_or (map keyed us) i zeroth_pair) (value_found same (pairs_of us) (get_or (map keyed us) i zeroth_pair) (get_or codes i 0) zeroth_pair found)
    ∙ ap (λ (u : Used). u.glyph) key ∙ keyed_glyph (get_or us i zeroth_pair) ∙ sym (get_or-map (λ (u : Used). u.glyph) us i zeroth_pair 0 lt)

-- code 0 is that of glyph 0
pub zeroth_code : (choice : Codes) (us : List Used) → glyph_of_code choice us 0 ≡ 0
zeroth_code Consecutive us = first_glyph (glyphs_of us) (0 ∷ []) (omega arith)
zeroth_code Source us = refl
zeroth_code EachText us = ap (λ (u : Used). u.glyph) (first_pair (map keyed us) (zeroth_pair ∷ []) (omega arith))

pub one_glyph : (choice : Codes) (us : List Used) (codes : List ℕ) → AreCodes choice us codes → HaveOneGlyph us codes
one_glyph choice us codes h i j a b e = sym (its_glyph choice us codes h i a) ∙ ap (glyph_of_code choice us) e ∙ its_glyph choice us codes h j b

pub zero_glyph : (choice : Codes) (us : List Used) (codes : List ℕ) → AreCodes choice us codes → HasZerothGlyph us codes
zero_glyph choice us codes h i a e = sym (its_glyph choice us codes h i a) ∙ ap (glyph_of_code choice us) e ∙ zeroth_code choice us

-- ---- what the code needs

-- each glyph in use has a number
pub in_use_known : (glyphs mapper : List ℕ) (k d : ℕ) → mapper ≡ with_glyphs (0 ∷ []) glyphs → k < length glyphs → IsSome (index_of mapper (get_or glyphs k d))
in_use_known glyphs mapper k d m lt =
    let q = get_or glyphs k d in
    let known_there : known glyphs q ≡ true = Contains-index glyphs q (k, lt, get_or_default glyphs k q d lt) in
    ap (λ (l : List ℕ). known l q) m ∙ known-all glyphs q ∙ ap (λ b. eqb 0 q || b) known_there ∙ or-true (eqb 0 q)

longer_by : (b : Bool) (l : List Used) (x : Used) → length l ≤ length (cond b l (l ++ x ∷ []))
longer_by true l x = omega arith
longer_by false l x = omega (arith, length-append l (x ∷ []))

-- pairs grow
pub pairs_grow : (us l : List Used) → length l ≤ length (with_pairs l us)
pairs_grow [] l = omega arith
pairs_grow (u ∷ us) l = let one = longer_by (is_some (index_by same l u)) l u in let more = pairs_grow us (with_value same l u) in omega (arith, one, more)

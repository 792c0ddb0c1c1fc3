-- What is drawn of the glyphs that were asked for, glyph by glyph.
use Rattle.std.proofs.Common.{◌≡◌, ℕ, zero, suc, ◌+◌, ◌<◌, Bool, true, false, cond, eqb, ltb, List, [], ◌∷◌, length, get_or, Option, Some, None, Ok, Err, ℤ, refl, sym, ap, ◌∙◌, add-one, arith}
use Rattle.std.specs.Prelude.{Contains, slice_get}
use Rattle.std.specs.Option.{option_and_then, option_map}
use Rattle.std.proofs.lemmas.Bool.{eqb-true, ltb-true, eq-eqb}
use Rattle.std.proofs.lemmas.List.FromFn.{get_or-map-range_with_len, length-map-range_with_len}
use Rattle.subsetter_base.specs.Bytes.{◌>>=◌}
use Rattle.subsetter_base.specs.Indexes.{index_of}
use Rattle.subsetter_base.specs.declared.error.Error.TheVariants.{MalformedFont}
use Rattle.subsetter_base.proofs.Results.{done_is, bind_ok}
use Rattle.subsetter_instance.specs.Source.{Source}
use Rattle.subsetter_instance.specs.Glyphs.Drawn.{Drawn, drawn}
use Rattle.subsetter_instance.specs.Plain.{drawn_if, drawn_all}
use Rattle.subsetter_instance.specs.Tables.Written.{glyph_among, by_glyph}

-- ---- one glyph

-- a glyph that is drawn is one of the font's
pub drawn_one : (s : Source) (at : List ℤ) (steps g : ℕ) (d : Drawn) → drawn_if s at steps g ≡ Ok d → (g < s.count) × (drawn s at steps g ≡ Ok d)
drawn_one s at steps g d h = by (ltb g s.count) refl h
  where
    by : (b : Bool) → ltb g s.count ≡ b → cond b (drawn s at steps g) (Err MalformedFont) ≡ Ok d → (g < s.count) × (drawn s at steps g ≡ Ok d)
    by true e k = (ltb-true g s.count e, k)
    by false e k = absurd cc

-- the first of the glyphs that are drawn, and the others
record Parts (s : Source) (at : List ℤ) (steps g : ℕ) (gs : List ℕ) (ds : List Drawn) : Type 0 where
  d : Drawn
  rest : List Drawn
  drawn_is : drawn_if s at steps g ≡ Ok d
  rest_is : drawn_all s at steps gs ≡ Ok rest
  all : ds ≡ d ∷ rest

parts : (s : Source) (at : List ℤ) (steps g : ℕ) (gs : List ℕ) (ds : List Drawn) → drawn_all s at steps (g ∷ gs) ≡ Ok ds → Parts s at steps g gs ds
parts s at steps g gs ds h =
    let a = bind_ok (drawn_if s at steps g) (λ d. drawn_all s at steps gs >>= λ rest. Ok (d ∷ rest)) ds h in
    let b = bind_ok (drawn_all s at steps gs) (λ rest. Ok (a.0 ∷ rest)) ds a.2 in
    record { d = a.0; rest = b.0; drawn_is = a.1; rest_is = b.1; all = sym (done_is (a.0 ∷ b.0) ds b.2) }

-- ---- by its place in the list

one_later : (d : Drawn) (ds : List Drawn) (o : Option ℕ) → option_and_then (slice_get (d ∷ ds)) (option_map (λ i. i + 1) o) ≡ option_and_then (slice_get ds) o
one_later d ds None = refl
one_later d ds (Some i) = ap (slice_get (d ∷ ds)) (add-one i)

among_by : (b : Bool) (d : Drawn) (ds : List Drawn) (o : Option ℕ) → option_and_then (slice_get (d ∷ ds)) (cond b (Some 0) (option_map (λ i. i + 1) o)) ≡ cond b (Some d) (option_and_then (slice_get ds) o)
among_by true d ds o = refl
among_by false d ds o = one_later d ds o

pub among_cons : (q : ℕ) (gs : List ℕ) (d : Drawn) (ds : List Drawn) (g : ℕ) → glyph_among (q ∷ gs) (d ∷ ds) g ≡ cond (eqb q g) (Some d) (glyph_among gs ds g)
among_cons q gs d ds g = among_by (eqb q g) d ds (index_of gs g)

contains_rest : (q g : ℕ) (gs : List ℕ) → eqb q g ≡ false → Contains (q ∷ gs) g → Contains gs g
contains_rest q g gs e (zero, lt, is) = absurd (let t = sym e ∙ eq-eqb q g is in cc)
contains_rest q g gs e (suc i, lt, is) = (i, omega arith, is)

-- each glyph that was asked for is drawn
pub record IsAmong (s : Source) (at : List ℤ) (steps : ℕ) (glyphs : List ℕ) (ds : List Drawn) (g : ℕ) : Type 0 where
  pub d : Drawn
  pub among : glyph_among glyphs ds g ≡ Some d
  pub drawn_is : drawn_if s at steps g ≡ Ok d

pub is_among : (s : Source) (at : List ℤ) (steps : ℕ) (glyphs : List ℕ) (ds : List Drawn) (g : ℕ) → drawn_all s at steps glyphs ≡ Ok ds → Contains glyphs g → IsAmong s at steps glyphs ds g
is_among s at steps [] ds g h (i, lt, is) = absurd (omega arith)
is_among s at steps (q ∷ gs) ds g h there = let p = parts s at steps q gs ds h in by p (λ e. is_among s at steps gs p.rest g p.rest_is (contains_rest q g gs e there)) (eqb q g) refl
  where
    by : (p : Parts s at steps q gs ds) → (eqb q g ≡ false → IsAmong s at steps gs p.rest g) → (b : Bool) → eqb q g ≡ b → IsAmong s at steps (q ∷ gs) ds g
    by p later true e = record {
      d = p.d;
      among = ap (λ l. glyph_among (q ∷ gs) l g) p.all ∙ among_cons q gs p.d p.rest g ∙ ap (λ b. cond b (Some p.d) (glyph_among gs p.rest g)) e;
      drawn_is = ap (drawn_if s at steps) (sym (eqb-true q g e)) ∙ p.drawn_is;
    }
    by p later false e =
        let m = later e in
        record { d = m.d; among = ap (λ l. glyph_among (q ∷ gs) l g) p.all ∙ among_cons q gs p.d p.rest g ∙ ap (λ b. cond b (Some p.d) (glyph_among gs p.rest g)) e ∙ m.among; drawn_is = m.drawn_is }

-- nothing is drawn of a glyph that wasn't
pub not_placed : (glyphs : List ℕ) (g : ℕ) → (Contains glyphs g → ⊥) → index_of glyphs g ≡ None
not_placed [] g none = refl
not_placed (q ∷ gs) g none = by (not_placed gs g (λ c. none (suc c.0, omega (arith, c.1), c.2))) (eqb q g) refl
  where
    by : index_of gs g ≡ None → (b : Bool) → eqb q g ≡ b → cond b (Some 0) (option_map (λ i. i + 1) (index_of gs g)) ≡ None
    by later true e = absurd (none (0, omega arith, eqb-true q g e))
    by later false e = ap (option_map (λ i. i + 1)) later

pub not_among : (glyphs : List ℕ) (ds : List Drawn) (g : ℕ) → (Contains glyphs g → ⊥) → glyph_among glyphs ds g ≡ None
not_among glyphs ds g none = ap (option_and_then (slice_get ds)) (not_placed glyphs g none)

-- ---- of all glyphs

pub by_glyph_at : (glyphs : List ℕ) (ds : List Drawn) (n g : ℕ) → g < n → get_or (by_glyph glyphs ds n) g None ≡ glyph_among glyphs ds g
by_glyph_at glyphs ds n g lt = get_or-map-range_with_len (glyph_among glyphs ds) 0 n g g None lt (omega arith)

pub by_glyph_length : (glyphs : List ℕ) (ds : List Drawn) (n : ℕ) → length (by_glyph glyphs ds n) ≡ n
by_glyph_length glyphs ds n = length-map-range_with_len (glyph_among glyphs ds) 0 n

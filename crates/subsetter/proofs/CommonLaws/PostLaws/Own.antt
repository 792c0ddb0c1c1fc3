-- Which glyphs of a list have names of their own: as many as indexes from 258 on.
use Rattle.std.proofs.Common.{◌≡◌, ℕ, zero, suc, ◌+◌, ◌-◌, ◌<◌, ◌≤◌, Bool, true, false, cond, ltb, leb, List, [], ◌∷◌, length, get_or, drop, Option, Some, None, Ok, Err, refl, sym, ap, ◌∙◌, ◌⊎◌, inl, inr, arith}
use Rattle.std.specs.Prelude.{map, Contains, nat_eq}
use Rattle.std.specs.Option.{option_and_then, ok_or}
use Rattle.std.specs.List.{AllByRecursion, IsDistinct}
use Rattle.std.proofs.lemmas.Bool.{ltb-true, ltb-false, leb-true, leb-false, le-leb}
use Rattle.std.proofs.lemmas.List.Recursion.{is_count_by}
use Rattle.subsetter_base.specs.Bytes.{◌>>=◌}
use Rattle.subsetter_base.specs.declared.error.Error.{Error}
use Rattle.subsetter_base.specs.declared.error.Error.TheVariants.{MalformedFont}
use Rattle.subsetter_base.proofs.Results.{done_is, bind_ok, bind_err, named_ok, named_err}
use Rattle.subsetter.specs.Common.Post.Read.{GlyphName, Standard, Custom, PostTable, names_in, post_table, glyph_index, name_of_index, glyph_name}
use Rattle.subsetter.specs.Common.Post.Plain.{indexes_of, custom_count}
use Rattle.subsetter.specs.Common.Post.Fault.{HasOwnName}
use Rattle.subsetter.proofs.CommonLaws.PostLaws.Indexes.{customs}
use Rattle.subsetter_base.proofs.Options.{just_is}

-- as many own names as indexes of them
customs_by : (names : List (List ℕ)) (i : ℕ) (is : List ℕ) → length (customs (name_of_index names i ∷ map (name_of_index names) is)) ≡ cond (leb 258 i) (1 + length (customs (map (name_of_index names) is))) (length (customs (map (name_of_index names) is)))
customs_by names i is = by (ltb i 258) (leb 258 i) refl refl
  where
    rest : List (List ℕ)
    rest = customs (map (name_of_index names) is)

    by : (b d : Bool) → ltb i 258 ≡ b → leb 258 i ≡ d → length (customs (cond b (Standard i) (Custom (get_or names (i - 258) [])) ∷ map (name_of_index names) is)) ≡ cond d (1 + length (customs (map (name_of_index names) is))) (length (customs (map (name_of_index names) is)))
    by true true h k = absurd (omega (arith, ltb-true i 258 h, leb-true 258 i k))
    by true false h k = refl
    by false true h k = omega arith
    by false false h k = absurd (impossible (ltb-false i 258 h) k)
      where
        impossible : 258 ≤ i → leb 258 i ≡ false → ⊥
        impossible le f = let t = le-leb 258 i le in cc

pub customs_counted : (names : List (List ℕ)) (is : List ℕ) → length (customs (map (name_of_index names) is)) ≡ custom_count is
customs_counted names is = is_count_by (λ (l : List ℕ). length (customs (map (name_of_index names) l))) (λ (i : ℕ). leb 258 i) refl (customs_by names) is

-- the indexes of the glyphs of a list
pub indexes_length : (t : PostTable) (gs is : List ℕ) → indexes_of t gs ≡ Ok is → length is ≡ length gs
indexes_length t [] is h = ap length (sym (done_is [] is h))
indexes_length t (g ∷ gs) is h =
    let a = bind_ok (ok_or (glyph_index t g) MalformedFont) (λ i. indexes_of t gs >>= λ rest. Ok (i ∷ rest)) is h in
    let b = bind_ok (indexes_of t gs) (λ rest. Ok (a.0 ∷ rest)) is a.2 in
    ap length (sym (done_is (a.0 ∷ b.0) is b.2)) ∙ ap suc (indexes_length t gs b.0 b.1)

pub index_of : (t : PostTable) (gs is : List ℕ) (i : ℕ) → indexes_of t gs ≡ Ok is → i < length gs → glyph_index t (get_or gs i 0) ≡ Some (get_or is i 0)
index_of t [] is i h lt = absurd (omega arith)
index_of t (g ∷ gs) is zero h lt =
    let a = bind_ok (ok_or (glyph_index t g) MalformedFont) (λ i. indexes_of t gs >>= λ rest. Ok (i ∷ rest)) is h in
    let b = bind_ok (indexes_of t gs) (λ rest. Ok (a.0 ∷ rest)) is a.2 in
    named_ok (glyph_index t g) MalformedFont a.0 a.1 ∙ ap (λ (l : List ℕ). Some (get_or l 0 0)) (done_is (a.0 ∷ b.0) is b.2)
index_of t (g ∷ gs) is (suc i) h lt =
    let a = bind_ok (ok_or (glyph_index t g) MalformedFont) (λ i. indexes_of t gs >>= λ rest. Ok (i ∷ rest)) is h in
    let b = bind_ok (indexes_of t gs) (λ rest. Ok (a.0 ∷ rest)) is a.2 in
    index_of t gs b.0 i b.1 (omega arith) ∙ ap (λ (l : List ℕ). Some (get_or l (suc i) 0)) (done_is (a.0 ∷ b.0) is b.2)

-- the first glyph without an index
pub first_missing : (t : PostTable) (gs : List ℕ) (e : Error) → indexes_of t gs ≡ Err e → (MalformedFont ≡ e) × ((g : ℕ) × Contains gs g × (glyph_index t g ≡ None))
first_missing t [] e h = absurd cc
first_missing t (g ∷ gs) e h =
    elim (bind_err (ok_or (glyph_index t g) MalformedFont) (λ i. indexes_of t gs >>= λ rest. Ok (i ∷ rest)) e h) [
      | inl k ↦ let n = named_err (glyph_index t g) MalformedFont e k in (n.1, (g, (0, omega arith, refl), n.0))
      | inr a ↦ later (λ k. first_missing t gs e k) (bind_err (indexes_of t gs) (λ rest. Ok (a.0 ∷ rest)) e a.2)
    ]
  where
    later : (indexes_of t gs ≡ Err e → (MalformedFont ≡ e) × ((q : ℕ) × Contains gs q × (glyph_index t q ≡ None))) → {i : ℕ} → (indexes_of t gs ≡ Err e) ⊎ ((x : List ℕ) × (indexes_of t gs ≡ Ok x) × (Ok (i ∷ x) ≡ Err e)) → (MalformedFont ≡ e) × ((q : ℕ) × Contains (g ∷ gs) q × (glyph_index t q ≡ None))
    later next (inl k) = let n = next k in (n.0, (n.1.0, (suc n.1.1.0, omega (arith, n.1.1.1), n.1.1.2), n.1.2))
    later next (inr k) = absurd (let z = k.2 in cc)

-- ---- the glyphs with names of their own

abbrev if_own : Bool → ℕ → List ℕ → List ℕ
if_own b g gs = cond b (g ∷ gs) gs

abbrev pub owned : List ℕ → List ℕ → List ℕ
owned [] is = []
owned (g ∷ gs) [] = []
owned (g ∷ gs) (i ∷ is) = if_own (leb 258 i) g (owned gs is)

-- as many as there are indexes of own names
owned_length : (names : List (List ℕ)) (gs is : List ℕ) → length is ≡ length gs → length (owned gs is) ≡ length (customs (map (name_of_index names) is))
owned_length names [] [] h = refl
owned_length names [] (i ∷ is) h = absurd (omega arith)
owned_length names (g ∷ gs) [] h = absurd (omega arith)
owned_length names (g ∷ gs) (i ∷ is) h = by (ltb i 258) (leb 258 i) refl refl (owned_length names gs is (omega arith))
  where
    by : (b d : Bool) → ltb i 258 ≡ b → leb 258 i ≡ d → length (owned gs is) ≡ length (customs (map (name_of_index names) is)) → length (if_own d g (owned gs is)) ≡ length (customs (cond b (Standard i) (Custom (get_or names (i - 258) [])) ∷ map (name_of_index names) is))
    by true true p q r = absurd (omega (arith, ltb-true i 258 p, leb-true 258 i q))
    by true false p q r = r
    by false true p q r = omega (arith, r)
    by false false p q r = absurd (omega (arith, ltb-false i 258 p, leb-false 258 i q))

pub owned_counted : (t : PostTable) (gs is : List ℕ) → indexes_of t gs ≡ Ok is → length (owned gs is) ≡ custom_count is
owned_counted t gs is h = owned_length (names_in t.names_data) gs is (indexes_length t gs is h) ∙ customs_counted (names_in t.names_data) is

pub all_owned : (P : ℕ → Type 0) (gs is : List ℕ) → AllByRecursion P gs → AllByRecursion P (owned gs is)
all_owned P [] is h = tt
all_owned P (g ∷ gs) [] h = tt
all_owned P (g ∷ gs) (i ∷ is) h = by (leb 258 i) (all_owned P gs is h.1)
  where
    by : (b : Bool) → AllByRecursion P (owned gs is) → AllByRecursion P (if_own b g (owned gs is))
    by true rest = (h.0, rest)
    by false rest = rest

own_in_front : (b : Bool) (g : ℕ) (rest : List ℕ) → AllByRecursion (λ y. nat_eq g y ≡ false) rest → IsDistinct nat_eq rest → IsDistinct nat_eq (if_own b g rest)
unfolding IsDistinct
own_in_front true g rest a d = (a, d)
own_in_front false g rest a d = d

pub owned_distinct : (gs is : List ℕ) → IsDistinct nat_eq gs → IsDistinct nat_eq (owned gs is)
unfolding IsDistinct
owned_distinct [] is h = tt
owned_distinct (g ∷ gs) [] h = tt
owned_distinct (g ∷ gs) (i ∷ is) h = own_in_front (leb 258 i) g (owned gs is) (all_owned (λ y. nat_eq g y ≡ false) gs is h.0) (owned_distinct gs is h.1)

-- each of them has an index of an own name
abbrev pub IsOwn : PostTable → ℕ → Type 0
IsOwn t g = (i : ℕ) × (glyph_index t g ≡ Some i) × (258 ≤ i)

pub each_own : (t : PostTable) (gs is : List ℕ) → indexes_of t gs ≡ Ok is → AllByRecursion (IsOwn t) (owned gs is)
each_own t [] is h = tt
each_own t (g ∷ gs) [] h = tt
each_own t (g ∷ gs) (i ∷ is) h =
    let a = bind_ok (ok_or (glyph_index t g) MalformedFont) (λ j. indexes_of t gs >>= λ rest. Ok (j ∷ rest)) (i ∷ is) h in
    let b = bind_ok (indexes_of t gs) (λ rest. Ok (a.0 ∷ rest)) (i ∷ is) a.2 in
    let same = done_is (a.0 ∷ b.0) (i ∷ is) b.2 in
    let head : a.0 ≡ i = ap (λ (l : List ℕ). get_or l 0 0) same in
    let tail : b.0 ≡ is = ap (drop 1) same in
    by (leb 258 i) refl (named_ok (glyph_index t g) MalformedFont a.0 a.1 ∙ ap (λ (n : ℕ). Some n) head) (each_own t gs is (b.1 ∙ ap (λ (l : List ℕ). Ok l) tail))
  where
    by : (b : Bool) → leb 258 i ≡ b → glyph_index t g ≡ Some i → AllByRecursion (IsOwn t) (owned gs is) → AllByRecursion (IsOwn t) (if_own b g (owned gs is))
    by true e k rest = ((i, k, leb-true 258 i e), rest)
    by false e k rest = rest

abbrev member : List ℕ → ℕ → Type 0
member gs g = Contains gs g

later_member : (b : Bool) (g q : ℕ) (gs : List ℕ) → Contains gs q → Contains (if_own b g gs) q
later_member true g q gs c = (suc c.0, omega (arith, c.1), c.2)
later_member false g q gs c = c

first_member : (b : Bool) (g q : ℕ) (gs : List ℕ) → b ≡ true → g ≡ q → Contains (if_own b g gs) q
first_member true g q gs h e = (0, omega arith, e)
first_member false g q gs h e = absurd cc

-- a glyph of the list that has one is among them
pub has_own : (t : PostTable) (gs is : List ℕ) (q : ℕ) → indexes_of t gs ≡ Ok is → Contains gs q → IsOwn t q → Contains (owned gs is) q
has_own t [] is q h c own = absurd (omega (arith, c.1))
has_own t (g ∷ gs) [] q h c own = absurd (omega (arith, indexes_length t (g ∷ gs) [] h))
has_own t (g ∷ gs) (i ∷ is) q h (zero, lt, e) own =
    let index = index_of t (g ∷ gs) (i ∷ is) 0 h (omega arith) in
    let same : i ≡ own.0 = just_is i own.0 (sym index ∙ ap (glyph_index t) e ∙ own.1) in
    first_member (leb 258 i) g q (owned gs is) (le-leb 258 i (omega (arith, own.2, same))) e
has_own t (g ∷ gs) (i ∷ is) q h (suc k, lt, e) own =
    let a = bind_ok (ok_or (glyph_index t g) MalformedFont) (λ j. indexes_of t gs >>= λ rest. Ok (j ∷ rest)) (i ∷ is) h in
    let b = bind_ok (indexes_of t gs) (λ rest. Ok (a.0 ∷ rest)) (i ∷ is) a.2 in
    let tail : b.0 ≡ is = ap (drop 1) (done_is (a.0 ∷ b.0) (i ∷ is) b.2) in
    later_member (leb 258 i) g q (owned gs is) (has_own t gs is q (b.1 ∙ ap (λ (l : List ℕ). Ok l) tail) (k, omega arith, e) own)

-- an own name has an own index, and the other way round
own_by : (b : Bool) (names : List (List ℕ)) (i : ℕ) (s : List ℕ) → ltb i 258 ≡ b → cond b (Standard i) (Custom (get_or names (i - 258) [])) ≡ Custom s → 258 ≤ i
own_by true names i s h e = absurd cc
own_by false names i s h e = ltb-false i 258 h

custom_by : (b : Bool) (names : List (List ℕ)) (i : ℕ) → ltb i 258 ≡ b → 258 ≤ i → cond b (Standard i) (Custom (get_or names (i - 258) [])) ≡ Custom (get_or names (i - 258) [])
custom_by true names i h le = absurd (omega (arith, le, ltb-true i 258 h))
custom_by false names i h le = refl

module _ (bytes : List ℕ) (t : PostTable) (read : post_table bytes ≡ Some t) where
  abbrev name_in : Option PostTable → ℕ → Option GlyphName
  name_in o g = option_and_then (λ (u : PostTable). option_and_then (λ i. Some (name_of_index (names_in u.names_data) i)) (glyph_index u g)) o

  has_name : (g i : ℕ) → glyph_index t g ≡ Some i → glyph_name bytes g ≡ Some (name_of_index (names_in t.names_data) i)
  has_name g i h = ap (λ (o : Option PostTable). name_in o g) read ∙ ap (option_and_then (λ j. Some (name_of_index (names_in t.names_data) j))) h

  pub own_name : (g : ℕ) → IsOwn t g → HasOwnName bytes g
  own_name g own = record { name = get_or (names_in t.names_data) (own.0 - 258) []; is = has_name g own.0 own.1 ∙ ap (λ (n : GlyphName). Some n) (custom_by (ltb own.0 258) (names_in t.names_data) own.0 refl own.2) }

  pub named_own : (g : ℕ) → HasOwnName bytes g → IsOwn t g
  named_own g own = by (glyph_index t g) refl (sym (ap (λ (o : Option PostTable). name_in o g) read) ∙ own.is)
    where
      by : (o : Option ℕ) → glyph_index t g ≡ o → option_and_then (λ j. Some (name_of_index (names_in t.names_data) j)) o ≡ Some (Custom own.name) → IsOwn t g
      by None e k = absurd cc
      by (Some i) e k = (i, e, own_by (ltb i 258) (names_in t.names_data) i own.name refl (cc))

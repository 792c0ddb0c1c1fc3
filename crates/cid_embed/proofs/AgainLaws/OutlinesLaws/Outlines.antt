-- The outlines of a subset of a subset: numbers that are given twice, and padding that is written anyway.
use Rattle.std.proofs.Common.{◌≡◌, ℕ, zero, suc, ◌+◌, ◌%◌, ◌^◌, ◌<◌, ltb, Bool, true, false, cond, List, [], ◌∷◌, ◌++◌, length, get_or, Option, Some, Result, Ok, Err, refl, sym, ap, subst, ◌∙◌, arith}
use Rattle.std.specs.Prelude.{map}
use Rattle.std.specs.Option.{option_map, ok_or}
use Rattle.std.specs.List.{flat_map}
use Rattle.std.proofs.lemmas.List.{length-append}
use Rattle.std.proofs.lemmas.List.Sums.{sum_by-cons}
use Rattle.subsetter_base.specs.Bytes.{aligned, IsBytes, ◌>>=◌}
use Rattle.subsetter_base.specs.declared.error.Error.TheVariants.{MalformedFont, OverflowError}
use Rattle.subsetter_base.proofs.Results.{bind_ok, done_is}
use Rattle.subsetter.specs.Glyf.BareOutlines.Bare.{requested_parts}
use Rattle.subsetter.specs.Glyf.Parts.{Component, Parts, Empty, Simple, Composite, outline_parts, parts_bytes, spelled}
use Rattle.subsetter.specs.Glyf.Plain.{renumbered_component, renumbered, rewritten, kept, kept_all}
use Rattle.subsetter_base.specs.Indexes.{new_index}
use Rattle.subsetter.specs.Glyf.Read.{Outlines, outline_in}
use Rattle.subsetter.specs.Glyf.Reaching.Unfold.{padded}
use Rattle.subsetter_sfnt.specs.Fields.Loca.{offset_bytes}
use Rattle.subsetter.specs.Glyf.Written.{even_size, is_long, glyf_bytes, loca_bytes}
use Rattle.subsetter.specs.Truetype.Plain.{located}
use Rattle.subsetter.proofs.GlyfLaws.Back.{length-even}
use Rattle.subsetter.proofs.GlyfLaws.Parts.{padded-append, padded-nil, chain-even, length-spelled}
use Rattle.subsetter.proofs.GlyfLaws.ReachingLaws.Unfold.{EachGlyph, CanBeWritten, can_empty, can_simple, can_composite, asked_can, padded_parts, components_of}
use Rattle.cid_embed.proofs.AgainLaws.Basics.{padded_twice}

-- ---- lists of outlines

pub kept_each : (t : Outlines) (order gs : List ℕ) (bs : List (List ℕ)) (i : ℕ) → kept_all t order gs ≡ Ok bs → i < length gs → kept t order (get_or gs i 0) ≡ Ok (get_or bs i [])
kept_each t order [] bs i h lt = absurd (omega arith)
kept_each t order (g ∷ gs) bs i h lt =
    let a = bind_ok (kept t order g) (λ first. kept_all t order gs >>= λ rest. Ok (first ∷ rest)) bs h in
    let b = bind_ok (kept_all t order gs) (λ rest. Ok (a.0 ∷ rest)) bs a.2 in
    subst (λ (c : List (List ℕ)). kept t order (get_or (g ∷ gs) i 0) ≡ Ok (get_or c i [])) (done_is (a.0 ∷ b.0) bs b.2) (by i lt a.0 a.1 b.0 (λ k less. kept_each t order gs b.0 k b.1 less))
  where
    by : (k : ℕ) → k < length (g ∷ gs) → (x : List ℕ) → kept t order g ≡ Ok x → (rest : List (List ℕ)) → ((j : ℕ) → j < length gs → kept t order (get_or gs j 0) ≡ Ok (get_or rest j [])) → kept t order (get_or (g ∷ gs) k 0) ≡ Ok (get_or (x ∷ rest) k [])
    by zero less x e rest later = e
    by (suc k) less x e rest later = later k (omega arith)

pub all_there : (t : Outlines) (order gs : List ℕ) → ((i : ℕ) → i < length gs → (b : List ℕ) × (kept t order (get_or gs i 0) ≡ Ok b)) → (bs : List (List ℕ)) × (kept_all t order gs ≡ Ok bs)
all_there t order [] h = ([], refl)
all_there t order (g ∷ gs) h =
    let first = h 0 (omega arith) in
    let rest = all_there t order gs (λ i lt. h (suc i) (omega arith)) in
    (first.0 ∷ rest.0, ap (λ r. r >>= λ x. kept_all t order gs >>= λ y. Ok (x ∷ y)) first.1 ∙ ap (λ r. r >>= λ y. Ok (first.0 ∷ y)) rest.1)

pub kept_is : (t : Outlines) (order : List ℕ) (g : ℕ) (bytes : List ℕ) (p : Parts) → outline_in t g ≡ Some bytes → requested_parts t.hinting (outline_parts bytes) ≡ Some p → kept t order g ≡ Ok (parts_bytes (renumbered order p))
unfolding kept rewritten
kept_is t order g bytes p there parts =
    ap (λ (o : Option (List ℕ)). ok_or o MalformedFont >>= rewritten t.hinting order) there ∙ ap (λ (o : Option Parts). ok_or (option_map (λ q. parts_bytes (renumbered order q)) o) MalformedFont) parts

-- outlines that are kept, one by one
pub all_kept : (t : Outlines) (order gs : List ℕ) (bs : List (List ℕ)) → length bs ≡ length gs → ((i : ℕ) → i < length gs → kept t order (get_or gs i 0) ≡ Ok (get_or bs i [])) → kept_all t order gs ≡ Ok bs
all_kept t order [] [] len h = refl
all_kept t order [] (b ∷ bs) len h = absurd (omega (arith, len))
all_kept t order (g ∷ gs) [] len h = absurd (omega (arith, len))
all_kept t order (g ∷ gs) (b ∷ bs) len h =
    ap (λ r. r >>= λ first. kept_all t order gs >>= λ rest. Ok (first ∷ rest)) (h 0 (omega arith))
    ∙ ap (λ r. r >>= λ rest. Ok (b ∷ rest)) (all_kept t order gs bs (omega (arith, len)) (λ i lt. h (suc i) (omega arith)))

-- ---- numbers given twice

components_composed : (L M order : List ℕ) (cs : List Component) → EachGlyph (λ g. new_index M (new_index L g) ≡ new_index order g) cs → map (renumbered_component M) (map (renumbered_component L) cs) ≡ map (renumbered_component order) cs
components_composed L M order [] h = refl
components_composed L M order (c ∷ cs) h =
    ap (λ (g : ℕ). record { flags = c.flags; glyph = g; rest = c.rest } ∷ map (renumbered_component M) (map (renumbered_component L) cs)) h.0 ∙ ap (λ (l : List Component). renumbered_component order c ∷ l) (components_composed L M order cs h.1)

pub parts_composed : (long : Bool) (L M order : List ℕ) (p : Parts) → EachGlyph (λ g. new_index M (new_index L g) ≡ new_index order g) (components_of p) → renumbered M (padded_parts long (renumbered L p)) ≡ padded_parts long (renumbered order p)
parts_composed long L M order Empty h = refl
parts_composed long L M order (Simple bytes) h = refl
parts_composed long L M order (Composite head chain) h = ap (λ (cs : List Component). Composite head (record { components = cs; tail = padded long chain.tail })) (components_composed L M order chain.components h)

length-components : (a b : List ℕ) (cs : List Component) → length (flat_map spelled (map (renumbered_component a) cs)) ≡ length (flat_map spelled (map (renumbered_component b) cs))
length-components a b [] = refl
length-components a b (c ∷ cs) =
    omega (arith, length-append (spelled (renumbered_component a c)) (flat_map spelled (map (renumbered_component a) cs)), length-append (spelled (renumbered_component b c)) (flat_map spelled (map (renumbered_component b) cs)), length-spelled (renumbered_component a c), length-spelled (renumbered_component b c), length-components a b cs)

pub length-renumbered : (a b : List ℕ) (p : Parts) → length (parts_bytes (renumbered a p)) ≡ length (parts_bytes (renumbered b p))
length-renumbered a b Empty = refl
length-renumbered a b (Simple bytes) = refl
length-renumbered a b (Composite head chain) =
    let A = flat_map spelled (map (renumbered_component a) chain.components) in
    let B = flat_map spelled (map (renumbered_component b) chain.components) in
    omega (arith, length-append (head ++ A) chain.tail, length-append head A, length-append (head ++ B) chain.tail, length-append head B, length-components a b chain.components)

-- ---- padding comes after the parts

pub padded_bytes : (hint long : Bool) (order bytes : List ℕ) (p : Parts) → ((g : ℕ) → new_index order g < 2 ^ 16) → IsBytes bytes → requested_parts hint (outline_parts bytes) ≡ Some p → parts_bytes (padded_parts long (renumbered order p)) ≡ padded long (parts_bytes (renumbered order p))
padded_bytes hint long order bytes p small fit h = by p (asked_can hint bytes p fit h)
  where
    by : (q : Parts) → CanBeWritten q → parts_bytes (padded_parts long (renumbered order q)) ≡ padded long (parts_bytes (renumbered order q))
    by Empty can_empty = sym (padded-nil long)
    by (Simple _) (can_simple a b rest whole e t) = refl
    by (Composite _ _) (can_composite H chain size high good) =
        let C = flat_map spelled (map (renumbered_component order) chain.components) in
        let even : length (H ++ C) % 2 ≡ 0 = omega (arith, length-append H C, size, chain-even order small chain.tail chain.components good) in
        sym (padded-append long (H ++ C) chain.tail even)

-- ---- tables of padded outlines

abbrev pub padded_all : Bool → List (List ℕ) → List (List ℕ)
padded_all long bs = map (padded long) bs

all_long : (bs : List (List ℕ)) → padded_all true bs ≡ bs
all_long [] = refl
all_long (b ∷ bs) = ap (λ (l : List (List ℕ)). b ∷ l) (all_long bs)

size_again : (long : Bool) (bs : List (List ℕ)) → even_size (padded_all long bs) ≡ even_size bs
size_again true bs = ap even_size (all_long bs)
size_again false [] = refl
size_again false (b ∷ bs) =
    omega (arith, sum_by-cons (λ (x : List ℕ). length x + length x % 2) b bs, sum_by-cons (λ (x : List ℕ). length x + length x % 2) (aligned 2 b) (padded_all false bs), length-even b, size_again false bs)

pub long_again : (long : Bool) (bs : List (List ℕ)) → is_long (padded_all long bs) ≡ is_long bs
long_again long bs = ap (λ n. ltb 131070 n) (size_again long bs)

-- ---- padding that is written anyway

padding_less : (a b : Bool) → (b ≡ true → a ≡ true) → (x : List ℕ) → padded b (padded a x) ≡ padded b x
padding_less true true h x = refl
padding_less true false h x = refl
padding_less false true h x = absurd (let e = h refl in cc)
padding_less false false h x = padded_twice false false x

pub glyf_less : (a b : Bool) → (b ≡ true → a ≡ true) → (bs : List (List ℕ)) → glyf_bytes b (padded_all a bs) ≡ glyf_bytes b bs
glyf_less a b h [] = refl
glyf_less a b h (x ∷ bs) = ap (λ (l : List ℕ). l ++ glyf_bytes b (padded_all a bs)) (padding_less a b h x) ∙ ap (λ (l : List ℕ). padded b x ++ l) (glyf_less a b h bs)

pub loca_less : (a b : Bool) → (b ≡ true → a ≡ true) → (at : ℕ) (bs : List (List ℕ)) → loca_bytes b at (padded_all a bs) ≡ loca_bytes b at bs
loca_less a b h at [] = refl
loca_less a b h at (x ∷ bs) = ap (λ (y : List ℕ). offset_bytes b at ++ loca_bytes b (at + length y) (padded_all a bs)) (padding_less a b h x) ∙ ap (λ (l : List ℕ). offset_bytes b at ++ l) (loca_less a b h (at + length (padded b x)) bs)

pub nth_padded : (long : Bool) (bs : List (List ℕ)) (i : ℕ) → i < length bs → get_or (padded_all long bs) i [] ≡ padded long (get_or bs i [])
nth_padded long [] i lt = absurd (omega arith)
nth_padded long (b ∷ bs) zero lt = refl
nth_padded long (b ∷ bs) (suc i) lt = nth_padded long bs i (omega arith)

-- loca of padded outlines
pub located_less : (a : Bool) (bs : List (List ℕ)) → (is_long bs ≡ true → a ≡ true) → located (padded_all a bs) ≡ located bs
unfolding located
located_less a bs h =
    let cs = padded_all a bs in
    let long = is_long bs in
    let both : List ℕ → List ℕ → Result (List ℕ) _ = λ glyf loca. cond (ltb (length glyf) (2 ^ 32)) (Ok loca) (Err OverflowError) in
    ap (λ (l : Bool). both (glyf_bytes l cs) (loca_bytes l 0 cs)) (long_again a bs)
    ∙ ap (λ (g : List ℕ). both g (loca_bytes long 0 cs)) (glyf_less a long h bs)
    ∙ ap (λ (l : List ℕ). both (glyf_bytes long bs) l) (loca_less a long h 0 bs)

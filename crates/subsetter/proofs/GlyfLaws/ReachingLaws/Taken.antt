-- The given glyphs, taken from the last to the first with their outlines.
use Rattle.std.proofs.Common.{◌≡◌, ℕ, ◌+◌, ◌-◌, ◌<◌, ◌≤◌, List, [], ◌∷◌, ◌++◌, length, take, drop, get_or, Option, Some, None, refl, sym, ap, subst, ◌∙◌, append_assoc, arith}
use Rattle.std.specs.Prelude.{map}
use Rattle.std.specs.Borrow.{Bor}
use Rattle.std.specs.Option.{MatchOption, option_copied, option_to_list, unwrap_or}
use Rattle.std.proofs.lemmas.List.{take-append-le, take-map, take_more, map-append, get_or-map, get_or_append_left, take-append-drop, length-append, length-map, length-drop}
use Rattle.subsetter.specs.Glyf.Read.{Outlines, outline_in}
use Rattle.subsetter.specs.Glyf.Reaching.Closure.{first_byte_in, AreFound, EndsWith, IsTaken}
use Rattle.subsetter.proofs.GlyfLaws.ReachingLaws.Closure.{heads_of}
use Rattle.subsetter.proofs.GlyfLaws.ReachingLaws.Found.{push_same}

-- ---- the first bytes that were read

abbrev head_of : Option (Bor (List ℕ)) → ℕ
head_of o = first_byte_in (option_copied o)

-- those of glyphs
abbrev pub heads_in : Outlines → List ℕ → List ℕ
heads_in t glyphs = map (λ g. first_byte_in (outline_in t g)) glyphs

-- a byte is taken from those that were read
pub taken_read : (all before rest : List ℕ) (first : ℕ) → before ≡ rest ++ first ∷ [] → EndsWith all before → IsTaken all first rest
taken_read all before rest first e w = record {
  front = w.front ++ rest;
  is = w.is ∙ ap (λ (l : List ℕ). w.front ++ l) e ∙ sym (append_assoc w.front rest (first ∷ []));
  ends = record { front = w.front; is = refl };
}

-- or from a block that was read
pub block_read : (outlines : List (Option (Bor (List ℕ)))) (start : ℕ) (first_bytes : List ℕ) → first_bytes ≡ map head_of (drop start outlines) → EndsWith (map head_of outlines) first_bytes
block_read outlines start first_bytes is = record {
  front = map head_of (take start outlines);
  is = ap (map head_of) (sym (take-append-drop start outlines)) ∙ map-append head_of (take start outlines) (drop start outlines) ∙ ap (λ (l : List ℕ). map head_of (take start outlines) ++ l) (sym is);
}

-- and then the last of them is taken
pub taken_new : (all first_bytes rest : List ℕ) (o : Option ℕ) (first d n m : ℕ) → first_bytes ≡ rest ++ option_to_list o → rest ≡ take (n - 1) first_bytes → MatchOption o ((n ≡ 0) × (m ≡ 0)) (λ x. m + 1 ≡ n) → 1 ≤ length first_bytes → first ≡ unwrap_or o d → EndsWith all first_bytes → IsTaken all first rest
taken_new all first_bytes rest (Some b) first d n m parts cut cases some is w = taken_read all first_bytes rest first (parts ∙ ap (λ (x : ℕ). rest ++ x ∷ []) (sym is)) w
taken_new all first_bytes rest None first d n m parts cut cases some is w =
    let none : rest ≡ [] = cut ∙ ap (λ k. take (k - 1) first_bytes) cases.0 in
    absurd (omega (arith, ap length parts, length-append rest [], ap length none, some))

pub some_read : (outlines : List (Option (Bor (List ℕ)))) (start : ℕ) (first_bytes : List ℕ) → first_bytes ≡ map head_of (drop start outlines) → start < length outlines → 1 ≤ length first_bytes
some_read outlines start first_bytes is lt = omega (arith, ap length is, length-map (drop start outlines) head_of, length-drop start outlines, lt)

-- ---- the outlines of the given glyphs

-- those of the first given glyphs
firsts_found : (t : Outlines) (glyphs others order : List ℕ) (found : List (Option (Bor (List ℕ)))) (left : ℕ) → AreFound t order found → order ≡ glyphs ++ others → left ≤ length glyphs → AreFound t (take left glyphs) (take left found)
firsts_found t glyphs others order found left is begins le =
    sym (take-map option_copied left found) ∙ ap (take left) is ∙ take-map (outline_in t) left order
    ∙ ap (map (outline_in t)) (ap (take left) begins ∙ take-append-le left glyphs others le)

pub heads_left : (t : Outlines) (glyphs others order : List ℕ) (found slice : List (Option (Bor (List ℕ)))) (left : ℕ) → slice ≡ take left found → AreFound t order found → order ≡ glyphs ++ others → left ≤ length glyphs → map head_of slice ≡ heads_in t (take left glyphs)
heads_left t glyphs others order found slice left same is begins le =
    ap (map head_of) same ∙ heads_of t (take left glyphs) (take left found) (firsts_found t glyphs others order found left is begins le)

-- there are as many outlines as glyphs
pub found_count : (t : Outlines) (order : List ℕ) (found : List (Option (Bor (List ℕ)))) → AreFound t order found → length found ≡ length order
found_count t order found is = sym (length-map found option_copied) ∙ ap length is ∙ length-map order (outline_in t)

pub found_at : (t : Outlines) (glyphs others order : List ℕ) (found : List (Option (Bor (List ℕ)))) (n : ℕ) (d : Option (Bor (List ℕ))) → AreFound t order found → order ≡ glyphs ++ others → n < length glyphs → option_copied (get_or found n d) ≡ outline_in t (get_or glyphs n 0)
found_at t glyphs others order found n d is begins lt =
    let many = ap length begins ∙ length-append glyphs others in
    sym (get_or-map option_copied found n d (option_copied d) (omega (arith, found_count t order found is, many, lt)))
    ∙ ap (λ (l : List (Option (List ℕ))). get_or l n (option_copied d)) is
    ∙ get_or-map (outline_in t) order n 0 (option_copied d) (omega (arith, many, lt))
    ∙ ap (λ (l : List ℕ). outline_in t (get_or l n 0)) begins
    ∙ ap (outline_in t) (get_or_append_left glyphs others 0 n lt)

-- ---- one of them is taken

pub one_taken : (glyphs : List ℕ) (before n : ℕ) → n < length glyphs → before ≡ n + 1 → take before glyphs ≡ take n glyphs ++ get_or glyphs n 0 ∷ []
one_taken glyphs before n lt e = ap (λ k. take k glyphs) e ∙ take_more glyphs n 0 lt

-- its first byte, and those of the glyphs before it
pub first_byte_taken : (t : Outlines) (glyphs all rest : List ℕ) (before n first : ℕ) → n < length glyphs → before ≡ n + 1 → all ≡ heads_in t (take before glyphs) → IsTaken all first rest → (first ≡ first_byte_in (outline_in t (get_or glyphs n 0))) × EndsWith (heads_in t (take n glyphs)) rest
first_byte_taken t glyphs all rest before n first lt e is taken =
    let g = get_or glyphs n 0 in
    let parts : heads_in t (take before glyphs) ≡ heads_in t (take n glyphs) ++ first_byte_in (outline_in t g) ∷ [] =
    ap (heads_in t) (one_taken glyphs before n lt e) ∙ map-append (λ q. first_byte_in (outline_in t q)) (take n glyphs) (g ∷ []) in
    let both = push_same taken.front (heads_in t (take n glyphs)) first (first_byte_in (outline_in t g)) (sym taken.is ∙ is ∙ parts) in
    (both.1, subst (λ (l : List ℕ). EndsWith l rest) both.0 taken.ends)

-- ---- as many outlines are there

pub outlines_left : (t : Outlines) (glyphs others order : List ℕ) (found slice : List (Option (Bor (List ℕ)))) (left : ℕ) → AreFound t order found → order ≡ glyphs ++ others → left ≤ length glyphs → slice ≡ found → left ≤ length slice
outlines_left t glyphs others order found slice left is begins le same =
    omega (arith, found_count t order found is, ap length begins ∙ length-append glyphs others, le, ap length same)

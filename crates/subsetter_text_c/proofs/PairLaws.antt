-- Pairs that C has are read back.
use Rattle.std.proofs.Common.{◌≡◌, Bool, true, false, cond, List, [], ◌∷◌, ◌++◌, map, drop, refl, sym, ap, ◌∙◌}
use Rattle.std.specs.Prelude.{is_some}
use Rattle.std.proofs.lemmas.List.{map-append}
use Rattle.subsetter_base.specs.Remap.{index_by, with_value}
use Rattle.pdf_runs.specs.declared.codes.Pair.{Pair}
use Rattle.pdf_runs.specs.declared.pieces.Piece.{Piece}
use Rattle.pdf_runs.specs.Codes.{is_zeroth, pair_of, same, with_pairs, zeroth}
use Rattle.subsetter_text_c.specs.declared.pairs.TextPair.{TextPair}
use Rattle.subsetter_text_c.specs.Pairs.{pairs_in, piece_in, piece_of}

-- pairs that are those of their own pieces, one after the other
abbrev AreKept : List Pair → Type 0
AreKept ps = with_pairs [] (map piece_of ps) ≡ ps

with_all : (ps qs : List Piece) (xs : List Pair) → with_pairs xs (ps ++ qs) ≡ with_pairs (with_pairs xs ps) qs
with_all [] qs xs = refl
with_all (p ∷ ps) qs xs = with_all ps qs (with_value same xs (pair_of p))

again_by : (b : Bool) (p : Piece) → is_zeroth p.figure ≡ b → pair_of (piece_of (cond b zeroth (record { figure = p.figure; says = p.says }))) ≡ cond b zeroth (record { figure = p.figure; says = p.says })
again_by true p e = refl
again_by false p e = ap (λ (b : Bool). cond b zeroth (record { figure = p.figure; says = p.says })) e

-- the pair of a piece is that of its own piece
again : (p : Piece) → pair_of (piece_of (pair_of p)) ≡ pair_of p
again p = again_by (is_zeroth p.figure) p refl

one_by : (b : Bool) (xs : List Pair) (q : Pair) → is_some (index_by same xs q) ≡ b → pair_of (piece_of q) ≡ q → AreKept xs → AreKept (cond b xs (xs ++ q ∷ []))
one_by true xs q e once kept = kept
one_by false xs q e once kept =
    ap (with_pairs []) (map-append piece_of xs (q ∷ []))
    ∙ with_all (map piece_of xs) (piece_of q ∷ []) []
    ∙ ap (λ (l : List Pair). with_value same l (pair_of (piece_of q))) kept
    ∙ ap (with_value same xs) once
    ∙ ap (λ (b : Bool). cond b xs (xs ++ q ∷ [])) e

kept_with : (ps : List Piece) (xs : List Pair) → AreKept xs → AreKept (with_pairs xs ps)
kept_with [] xs kept = kept
kept_with (p ∷ ps) xs kept = kept_with ps (with_value same xs (pair_of p)) (one_by (is_some (index_by same xs (pair_of p))) xs (pair_of p) refl (again p) kept)

head_by : (b : Bool) (x q : Pair) (xs : List Pair) → cond b (x ∷ xs) ((x ∷ xs) ++ q ∷ []) ≡ x ∷ cond b xs (xs ++ q ∷ [])
head_by true x q xs = refl
head_by false x q xs = refl

-- the first pair stays
first_stays : (ps : List Piece) (x : Pair) (xs : List Pair) → with_pairs (x ∷ xs) ps ≡ x ∷ drop 1 (with_pairs (x ∷ xs) ps)
first_stays [] x xs = refl
first_stays (p ∷ ps) x xs =
    let b : Bool = is_some (index_by same (x ∷ xs) (pair_of p)) in
    let more : List Pair = cond b xs (xs ++ pair_of p ∷ []) in
    ap (λ (l : List Pair). with_pairs l ps) (head_by b x (pair_of p) xs)
    ∙ first_stays ps x more
    ∙ sym (ap (λ (l : List Pair). x ∷ drop 1 (with_pairs l ps)) (head_by b x (pair_of p) xs))

kept_first : AreKept (zeroth ∷ [])
kept_first = refl

-- pairs of which C gets all but the first are those that it gives back
pub read_back : (before es : List TextPair) (pieces : List Piece) (new : List Pair) → new ≡ with_pairs (pairs_in before) pieces → map piece_in es ≡ map piece_of (drop 1 new) → pairs_in es ≡ new
read_back before es pieces new is e =
    let all : List Piece = map piece_in before ++ pieces in
    let whole : new ≡ with_pairs (zeroth ∷ []) all = is ∙ sym (with_all (map piece_in before) pieces (zeroth ∷ [])) in
    let first : new ≡ zeroth ∷ drop 1 new = whole ∙ first_stays all zeroth [] ∙ sym (ap (λ (l : List Pair). zeroth ∷ drop 1 l) whole) in
    let kept : AreKept (with_pairs (zeroth ∷ []) all) = kept_with all (zeroth ∷ []) kept_first in
    ap (with_pairs (zeroth ∷ [])) e
    ∙ sym (ap (λ (l : List Pair). with_pairs [] (map piece_of l)) first)
    ∙ ap (λ (l : List Pair). with_pairs [] (map piece_of l)) whole
    ∙ kept
    ∙ sym whole

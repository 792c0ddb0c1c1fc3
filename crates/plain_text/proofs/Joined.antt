-- Pieces that are written one after the other.
use Rattle.std.proofs.Common.{◌≡◌, ℕ, List, [], ◌∷◌, ◌++◌, ◌<◌, ◌≤◌, length, drop, refl, sym, subst, ◌∙◌, append_assoc, append-nil, arith}
use Rattle.std.proofs.lemmas.List.{drop_all}
use Rattle.std.specs.Prelude.{Option}
use Rattle.std.specs.Io.KnownBytes.{Appends}
use Rattle.plain_text.specs.declared.pieces.Piece.{Piece}
use Rattle.plain_text.specs.Pieces.{piece_text, pieces_after, pieces_text}
use Rattle.plain_text.proofs.Written.{Reaches, at_last}

-- the first before what is left
abbrev pub joined : List Piece → List ℕ
joined [] = []
joined (p ∷ ps) = piece_text p ++ joined ps

after : (before : List ℕ) (ps : List Piece) → before ++ joined ps ≡ pieces_after before ps
after before [] = append-nil before
after before (p ∷ ps) = sym (append_assoc before (piece_text p) (joined ps)) ∙ after (before ++ piece_text p) ps

whole : (ps : List Piece) → joined ps ≡ pieces_text ps
whole [] = refl
whole (p ∷ ps) = after (piece_text p) ps

-- as nothing is left
pub pieces_last : (old now : Option (List ℕ)) (ps : List Piece) (i : ℕ) → ¬ (i < length ps) → Reaches old now (joined (drop i ps)) (joined ps) → Appends old now (pieces_text ps)
pieces_last old now ps i more h =
    let past : length ps ≤ i = omega arith in
    let none = subst (λ (l : List Piece). Reaches old now (joined l) (joined ps)) (drop_all i ps past) h in
    subst (λ t. Appends old now t) (whole ps) (at_last old now (joined ps) none)

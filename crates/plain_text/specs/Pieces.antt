-- Texts of pieces.
use Rattle.std.specs.Prelude.{ℕ, List, [], ◌∷◌, ◌++◌, decimal, map}
use Rattle.plain_text.specs.Characters.{shown}
use Rattle.plain_text.specs.Fixed.{fixed_text}
use Rattle.plain_text.specs.Quoted.{quoted}
use Rattle.plain_text.specs.declared.pieces.Piece.{Piece}
use Rattle.plain_text.specs.declared.pieces.Piece.TheVariants.{Text, Number, Fixed, Quoted, Shown}

abbrev pub piece_text : Piece → List ℕ
piece_text (Text t) = t.now
piece_text (Number n) = decimal n
piece_text (Fixed v) = fixed_text v
piece_text (Quoted t) = quoted t.now
piece_text (Shown t) = quoted (map shown t.now)

-- after a text
abbrev pub pieces_after : List ℕ → List Piece → List ℕ
pieces_after before [] = before
pieces_after before (p ∷ ps) = pieces_after (before ++ piece_text p) ps

-- one after the other
abbrev pub pieces_text : List Piece → List ℕ
pieces_text [] = []
pieces_text (p ∷ ps) = pieces_after (piece_text p) ps

-- What the codes of a text draw and say, as C has it: of each code from 1 on.
use Rattle.std.specs.Prelude.{ℕ, ◌%◌, ◌==◌, if◌then◌else◌, List, [], ◌∷◌, map, Option, Some, None, pos}
use Rattle.subsetter_base.specs.Texts.{is_scalar}
use Rattle.pdf_runs.specs.declared.codes.Pair.{Pair}
use Rattle.pdf_runs.specs.declared.pieces.Figure.{Figure}
use Rattle.pdf_runs.specs.declared.pieces.Figure.TheVariants.{Source, Blank}
use Rattle.pdf_runs.specs.declared.pieces.Piece.{Piece}
use Rattle.pdf_runs.specs.Codes.{with_pairs, zeroth}
use Rattle.subsetter_text_c.specs.declared.pairs.TextPair.{TextPair}

-- kind 0 is a glyph, which has 16 bits, and another is a blank
abbrev pub figure_in : TextPair → Figure
figure_in e = if e.kind == 0 then Source (e.glyph % 65536) else Blank

-- a number that is no character says nothing
abbrev pub said : ℕ → Option ℕ
said n = if is_scalar n then Some n else None

-- a piece that moves no pen
abbrev pub still : Figure → Option ℕ → Piece
still figure says = record { figure = figure; says = says; x = pos 0; y = pos 0; x_advance = pos 0; y_advance = pos 0 }

abbrev pub piece_in : TextPair → Piece
piece_in e = still (figure_in e) (said e.character)

abbrev pub piece_of : Pair → Piece
piece_of p = still p.figure p.says

-- the pair of each code, that of code 0 among them, each once
abbrev pub pairs_in : List TextPair → List Pair
pairs_in es = with_pairs (zeroth ∷ []) (map piece_in es)

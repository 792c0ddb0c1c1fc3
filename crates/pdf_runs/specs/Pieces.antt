-- What draws the glyphs of a run: figures that each say at most one character.
use Rattle.std.specs.Prelude.{ℕ, ◌+◌, Bool, true, not, ◌&&◌, if◌then◌else◌, nat_lt, List, [], ◌∷◌, ◌++◌, length, get_or}
use Rattle.std.specs.Prelude.{map, take, drop, slice_get, flat_map, Option, Some, pos}
use Rattle.std.specs.List.{position_or_len}
use Rattle.std.specs.Ordering.{int_eq}
use Rattle.pdf_runs.specs.declared.items.Direction.{Direction}
use Rattle.pdf_runs.specs.declared.items.Item.{Item}
use Rattle.pdf_runs.specs.declared.pieces.Figure.{Figure}
use Rattle.pdf_runs.specs.declared.pieces.Figure.TheVariants.{Source, Blank}
use Rattle.pdf_runs.specs.declared.pieces.Piece.{Piece}
use Rattle.pdf_runs.specs.Clusters.{clusters}
use Rattle.pdf_runs.specs.Items.{text_of, visual}
use Rattle.pdf_runs.specs.Marks.{is_mark}
use Rattle.pdf_runs.specs.Shares.{shares}

-- a glyph without ink that the run gives no advance; glyphs that the font doesn't have count as inked
abbrev pub is_bare : List Bool → Item → Bool
is_bare inked i = not (get_or inked i.glyph true) && int_eq i.x_advance (pos 0) && int_eq i.y_advance (pos 0)

-- a blank without advance is drawn for it
abbrev pub figure_of : List Bool → Item → Figure
figure_of inked i = if is_bare inked i then Blank else Source i.glyph

-- a glyph, and what it says
abbrev pub piece_of : List Bool → Item → Option ℕ → Piece
piece_of inked i c =
    record {
      figure = figure_of inked i;
      says = c;
      x = i.x_offset;
      y = i.y_offset;
      x_advance = i.x_advance;
      y_advance = i.y_advance;
    }

-- a blank without advance says a character
abbrev pub blank_of : ℕ → Piece
blank_of c = record { figure = Blank; says = Some c; x = pos 0; y = pos 0; x_advance = pos 0; y_advance = pos 0 }

-- the place of the first character that is no mark, or 0
abbrev pub bearer : List ℕ → ℕ
bearer cs = let place = position_or_len (λ c. not (is_mark c)) cs in if nat_lt place (length cs) then place else 0

-- a glyph and its characters as they are seen: it says the bearer, and blanks the others
abbrev pub spread : List Bool → Item → List ℕ → List Piece
spread inked i cs =
    map blank_of (take (bearer cs) cs) ++ piece_of inked i (slice_get cs (bearer cs))
    ∷ map blank_of (drop (bearer cs + 1) cs)

-- glyphs, each with its characters as they are seen
abbrev pub spread_all : List Bool → List Item → List (List ℕ) → List Piece
spread_all inked [] shares = []
spread_all inked (i ∷ is) [] = []
spread_all inked (i ∷ is) (s ∷ shares) = spread inked i s ++ spread_all inked is shares

-- the characters of each glyph of a cluster as they are seen
abbrev pub shares_of : Direction → List Item → List (List ℕ)
shares_of d is = map (visual d) (visual d (shares (length is) (text_of is)))

abbrev pub pieces_of_cluster : Direction → List Bool → List Item → List Piece
pieces_of_cluster d inked is = spread_all inked is (shares_of d is)

abbrev pub pieces_of_clusters : Direction → List Bool → List (List Item) → List Piece
pieces_of_clusters d inked cs = flat_map (pieces_of_cluster d inked) cs

abbrev pub pieces_of_run : Direction → List Bool → List Item → List Piece
pieces_of_run d inked is = pieces_of_clusters d inked (clusters is)

-- The codes of what is drawn and said: each pair of a figure and a character has one, and its CID is the code (ISO
-- 32000-1, 9.7.6.2).
use Rattle.std.specs.Prelude.{◌≡◌, ◌<◌, ◌⊎◌, is_some, ℕ, ◌==◌, ◌&&◌, Bool, true, false, if◌then◌else◌, List, [], ◌∷◌}
use Rattle.std.specs.Prelude.{map, length, take, Option, Some, None}
use Rattle.subsetter_base.specs.declared.error.Error.{Error}
use Rattle.subsetter_base.specs.declared.error.Error.TheVariants.{OutOfMemory, OverflowError}
use Rattle.subsetter_base.specs.Remap.{index_by, with_value}
use Rattle.pdf_runs.specs.declared.codes.Pair.{Pair}
use Rattle.pdf_runs.specs.declared.pieces.Figure.{Figure}
use Rattle.pdf_runs.specs.declared.pieces.Figure.TheVariants.{Source, Blank}
use Rattle.pdf_runs.specs.declared.pieces.Piece.{Piece}

abbrev pub same_figure : Figure → Figure → Bool
same_figure (Source g) (Source h) = g == h
same_figure (Source g) Blank = false
same_figure Blank (Source h) = false
same_figure Blank Blank = true

abbrev pub same_character : Option ℕ → Option ℕ → Bool
same_character None None = true
same_character None (Some d) = false
same_character (Some c) None = false
same_character (Some c) (Some d) = c == d

abbrev pub same : Pair → Pair → Bool
same p q = same_figure p.figure q.figure && same_character p.says q.says

-- glyph 0, whose code says nothing
abbrev pub zeroth : Pair
zeroth = record { figure = Source 0; says = None }

abbrev pub is_zeroth : Figure → Bool
is_zeroth (Source g) = g == 0
is_zeroth Blank = false

abbrev pub pair_of : Piece → Pair
pair_of p = if is_zeroth p.figure then zeroth else record { figure = p.figure; says = p.says }

-- pairs with those of pieces, each once, in order of use
abbrev pub with_pairs : List Pair → List Piece → List Pair
with_pairs pairs [] = pairs
with_pairs pairs (p ∷ ps) = with_pairs (with_value same pairs (pair_of p)) ps

-- the codes of pieces are the places of their pairs
abbrev pub AreCodes : List Pair → List Piece → List ℕ → Type 0
AreCodes pairs ps codes = map Some codes ≡ map (λ (p : Piece). index_by same pairs (pair_of p)) ps

-- there would be more than 65535 pairs, so that no code is left
abbrev pub IsOverfull : List Pair → List Piece → Type 0
IsOverfull pairs ps = 65535 < length (with_pairs pairs ps)

-- pairs with those of the first `count` pieces
pub record HasFirst (pairs new : List Pair) (ps : List Piece) : Type 0 where
  pub count : ℕ
  pub first : new ≡ with_pairs pairs (take count ps)

-- why pieces have no codes: memory ran out at one of them, or there are too many, and then the pairs stay
abbrev pub IsUncoded : List Pair → List Pair → List Piece → Error → Type 0
IsUncoded pairs new ps e =
    ((e ≡ OutOfMemory) × HasFirst pairs new ps) ⊎ ((e ≡ OverflowError) × IsOverfull pairs ps × (new ≡ pairs))

-- values that others don't have, with one more
abbrev pub with_new : {A : Type 0} → (A → A → Bool) → List A → List A → A → List A
with_new eq xs new x = if is_some (index_by eq xs x) then new else with_value eq new x

-- a code of fewer pairs is the code of more
abbrev pub KeepsCodes : List Pair → List Pair → Type 0
KeepsCodes pairs more = (p : Pair) (n : ℕ) → index_by same pairs p ≡ Some n → index_by same more p ≡ Some n

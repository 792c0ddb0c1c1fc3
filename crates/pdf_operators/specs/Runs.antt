-- What shows a run: its pieces, each by its code, with an ActualText where codes don't say the text, or around a word
-- with a glyph that is moved (ISO 32000-1, 14.9.4).
use Rattle.std.specs.Prelude.{◌≡◌, ◌⊎◌, ℕ, ◌&&◌, ◌||◌, not, nat_lt, Bool, true, false, is_some, if◌then◌else◌, List, []}
use Rattle.std.specs.Prelude.{◌∷◌, ◌++◌, length, map, flat_map, ℤ, pos}
use Rattle.std.specs.List.{list_any}
use Rattle.std.specs.Ordering.{int_eq}
use Rattle.pdf_runs.specs.declared.codes.Pair.{Pair}
use Rattle.pdf_runs.specs.declared.error.RunError.{RunError}
use Rattle.pdf_runs.specs.declared.error.RunError.TheVariants.{InvalidText, Overfull, OutOfMemory}
use Rattle.pdf_runs.specs.declared.items.Direction.{Direction}
use Rattle.pdf_runs.specs.declared.items.Direction.TheVariants.{LeftToRight, RightToLeft, TopToBottom}
use Rattle.pdf_runs.specs.declared.items.Item.{Item}
use Rattle.pdf_runs.specs.declared.pieces.Piece.{Piece}
use Rattle.pdf_runs.specs.Clusters.{clusters}
use Rattle.pdf_runs.specs.Codes.{HasFirst, IsOverfull, is_zeroth}
use Rattle.pdf_runs.specs.Items.{is_run}
use Rattle.pdf_runs.specs.Pieces.{pieces_of_clusters, pieces_of_run}
use Rattle.pdf_runs.specs.Words.{words}
use Rattle.pdf_operators.specs.declared.order.Order.{Order}
use Rattle.pdf_operators.specs.declared.places.Font.{Font}
use Rattle.pdf_operators.specs.declared.places.Stop.{Stop}
use Rattle.pdf_operators.specs.Operators.{Act, back, begin, finish, raise, text_of_all, units_of}
use Rattle.pdf_operators.specs.Order.{is_turned, turned}
use Rattle.pdf_operators.specs.Pens.{advance_of, are_pens, end_of, start}
use Rattle.pdf_operators.specs.Places.{are_near, fits, laid, last_back, stop_after}

-- ---- parts

-- an ActualText has at most 32,767 bytes (Annex C), of which two are its byte order mark
abbrev pub is_long : List (List Item) → Bool
is_long cs = nat_lt 16382 (length (units_of (text_of_all cs)))

abbrev pub singles : List (List Item) → List (List (List Item))
singles cs = map (λ (c : List Item). c ∷ []) cs

-- a word, or its clusters where it is too long for an ActualText
abbrev pub word_parts : List (List Item) → List (List (List Item))
word_parts w = if is_long w then singles w else w ∷ []

-- what has one ActualText or none: from left to right a word, as some readers take a span's width from its first glyph
-- to its last and break the word there; else a cluster
abbrev pub parts : Direction → List (List Item) → List (List (List Item))
parts LeftToRight cs = flat_map word_parts (words cs)
parts RightToLeft cs = singles cs
parts TopToBottom cs = singles cs

-- ---- a part

-- the code has nothing to say: what is left over, or glyph 0
abbrev pub is_unsaid : Piece → Bool
is_unsaid p = not (is_some p.says) || is_zeroth p.figure

abbrev pub is_moved : Piece → Bool
is_moved p = not (int_eq p.x (pos 0) && int_eq p.y (pos 0))

-- from left to right, whether a glyph has an offset
abbrev pub has_moved : Direction → List Piece → Bool
has_moved LeftToRight ps = list_any is_moved ps
has_moved RightToLeft ps = false
has_moved TopToBottom ps = false

abbrev pub is_spanned : Direction → List (List Item) → List Piece → Bool
is_spanned d cs ps = list_any is_unsaid ps || (has_moved d ps && not (is_long cs))

abbrev pub in_span : Bool → List ℕ → List Act → List Act
in_span false text acts = acts
in_span true text acts = begin text ∷ (acts ++ finish ∷ [])

-- the pieces in the order in which they are written
abbrev pub part_pieces : Font → Direction → Stop → List (List Item) → List Piece
part_pieces f d s cs = turned s.is_turned (pieces_of_clusters d f.inked.now cs)

abbrev pub part_acts : Font → Direction → Stop → List (List Item) → List Act
part_acts f d s cs =
    in_span (is_spanned d cs (part_pieces f d s cs)) (text_of_all cs) (laid f d s (part_pieces f d s cs))

abbrev pub part_stop : Font → Direction → Stop → List (List Item) → Stop
part_stop f d s cs = stop_after f d s (part_pieces f d s cs)

abbrev pub has_room : Direction → List (List Item) → List Piece → Bool
has_room d cs ps = not (is_spanned d cs ps && is_long cs)

abbrev pub is_part_shown : Font → Direction → Stop → List (List Item) → Bool
is_part_shown f d s cs = has_room d cs (part_pieces f d s cs) && are_near f d s (part_pieces f d s cs)

-- ---- a run

-- the pen goes to the end, and the text rise is 0 again
abbrev pub back_acts : ℤ → List Act
back_acts z = if int_eq z (pos 0) then [] else back z ∷ []

abbrev pub level_acts : ℤ → List Act
level_acts z = if int_eq z (pos 0) then [] else raise (pos 0) ∷ []

abbrev pub end_acts : Font → ℤ → Stop → List Act
end_acts f end s = back_acts (last_back f end s) ++ level_acts s.rise

abbrev pub acts_after : Font → Direction → ℤ → Stop → List (List (List Item)) → List Act
acts_after f d end s [] = end_acts f end s
acts_after f d end s (g ∷ gs) = part_acts f d s g ++ acts_after f d end (part_stop f d s g) gs

abbrev pub are_shown : Font → Direction → ℤ → Stop → List (List (List Item)) → Bool
are_shown f d end s [] = fits (last_back f end s)
are_shown f d end s (g ∷ gs) = is_part_shown f d s g && are_shown f d end (part_stop f d s g) gs

-- the parts of a run in the order in which they are written
abbrev pub run_parts : Direction → Order → List Item → List (List (List Item))
run_parts d o is = turned (is_turned d o) (parts d (clusters is))

abbrev pub run_acts : Font → Direction → Order → List Item → List Act
run_acts f d o is = acts_after f d (end_of d (advance_of is)) (start (is_turned d o) (advance_of is)) (run_parts d o is)

-- whether all is shown, where the numbers have 32 bits and each ActualText has room
abbrev pub is_laid : Font → Direction → Order → List Item → Bool
is_laid f d o is =
    are_pens (pos 0) (pos 0) is
    && are_shown f d (end_of d (advance_of is)) (start (is_turned d o) (advance_of is)) (run_parts d o is)

-- whether glyphs can be shown: they are a run of the font, numbers have 32 bits, and each ActualText has room
abbrev pub is_valid : Font → Direction → Order → List Item → Bool
is_valid f d o is = is_run d (length f.metrics.now) is && is_laid f d o is

-- why pieces have no codes, and which pairs there are then
abbrev pub IsFull : List Pair → List Pair → List Piece → RunError → Type 0
IsFull pairs new ps e =
    ((e ≡ OutOfMemory) × HasFirst pairs new ps) ⊎ ((e ≡ Overfull) × IsOverfull pairs ps × (new ≡ pairs))

-- why a run isn't shown, and which pairs there are then
abbrev pub IsRefused : Font → Direction → Order → List Pair → List Pair → List Item → RunError → Type 0
IsRefused f d o pairs new is e =
    ((e ≡ InvalidText) × (is_valid f d o is ≡ false) × (new ≡ pairs))
    ⊎ IsFull pairs new (pieces_of_run d f.inked.now is) e

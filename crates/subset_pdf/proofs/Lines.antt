-- What is answered for a line.
use Rattle.std.proofs.Common.{◌≡◌, ◌⊎◌, inl, inr, ℕ, ◌<◌, ◌≤◌, List, [], ◌∷◌, ◌++◌, Bool, true, if◌then◌else◌, length, Result, Ok, Err, refl, sym, ap, subst, ◌∙◌, arith}
use Rattle.std.specs.Prelude.{IfOk, IfErr, is_some, min}
use Rattle.std.proofs.lemmas.List.Elements.{All-head, All-tail}
use Rattle.subsetter_base.specs.Remap.{index_by, with_value}
use Rattle.subsetter_base.specs.declared.error.Error.{Error}
use Rattle.subsetter_base.specs.declared.error.Error.TheVariants.{OutOfMemory}
use Rattle.pdf_codes.specs.declared.shown.Shown.{Shown}
use Rattle.pdf_operators.specs.Operators.{operators}
use Rattle.pdf_operators.specs.Reading.{AreCoded, IsShown}
use Rattle.pdf_operators.specs.Runs.{IsRefused, run_acts}
use Rattle.pdf_operators.specs.declared.order.Order.TheVariants.{Visual}
use Rattle.pdf_operators.specs.declared.places.Font.{Font}
use Rattle.pdf_runs.specs.Codes.{AreCodes, IsUncoded, pair_of, same, with_pairs, zeroth}
use Rattle.pdf_runs.specs.Items.{is_run}
use Rattle.pdf_runs.specs.Pieces.{pieces_of_run}
use Rattle.pdf_runs.specs.declared.codes.Pair.{Pair}
use Rattle.pdf_runs.specs.declared.error.RunError.{RunError}
use Rattle.pdf_runs.specs.declared.items.Direction.{Direction}
use Rattle.pdf_runs.specs.declared.items.Item.{Item}
use Rattle.pdf_runs.specs.declared.pieces.Piece.{Piece}
use Rattle.subset_pdf.specs.Line.{HasLineFault, HasNoLine, IsLine, IsLineFor, IsRunFont, direction_of, items_for, length_of, named, no_line, unshown}
use Rattle.subset_pdf.specs.declared.line.Line.{Line}
use Rattle.subset_pdf.specs.declared.options.PdfRequest.{PdfRequest}

-- ---- pieces that have codes bring no pairs

one_stays : (pairs : List Pair) (q : Pair) → is_some (index_by same pairs q) ≡ true → with_value same pairs q ≡ pairs
one_stays pairs q h = ap (λ (b : Bool). if b then pairs else pairs ++ q ∷ []) h

all_stay : (pairs : List Pair) (ps : List Piece) → AreCoded pairs ps → with_pairs pairs ps ≡ pairs
all_stay pairs [] h = refl
all_stay pairs (p ∷ ps) h =
    ap (λ (l : List Pair). with_pairs l ps) (one_stays pairs (pair_of p) (All-head (λ (q : Piece). is_some (index_by same pairs (pair_of q)) ≡ true) p ps h))
    ∙ all_stay pairs ps (All-tail (λ (q : Piece). is_some (index_by same pairs (pair_of q)) ≡ true) p ps h)

pub pairs_stay : (pairs new : List Pair) (ps found : List Piece) → found ≡ ps → AreCoded pairs ps → new ≡ with_pairs pairs found → new ≡ pairs
pairs_stay pairs new ps found is h e = e ∙ ap (with_pairs pairs) is ∙ all_stay pairs ps h

pub codes_stay : (pairs new : List Pair) (ps found : List Piece) (codes : List ℕ) → found ≡ ps → AreCoded pairs ps → new ≡ with_pairs pairs found → AreCodes new found codes → AreCodes pairs ps codes
codes_stay pairs new ps found codes is h e are = subst (λ (l : List Pair). AreCodes l ps codes) (pairs_stay pairs new ps found is h e) (subst (λ (l : List Piece). AreCodes new l codes) is are)

pub never_overfull : (pairs new : List Pair) (ps found : List Piece) (e : Error) → found ≡ ps → AreCoded pairs ps → length pairs ≤ 65535 → IsUncoded pairs new found e → e ≡ OutOfMemory
never_overfull pairs new ps found e is h few (inl (memory, first)) = memory
never_overfull pairs new ps found e is h few (inr (over, many, kept)) =
    let stay : with_pairs pairs found ≡ pairs = ap (with_pairs pairs) is ∙ all_stay pairs ps h in
    let more : 65535 < length pairs = subst (λ (l : List Pair). 65535 < length l) stay many in
    absurd (omega arith)

-- ---- the line

pub line_is : (f : Font) (d : Direction) (is : List Item) (line : Line) (old mid : List Pair) → old ≡ zeroth ∷ [] → mid ≡ with_pairs old (pieces_of_run d f.inked.now is) → line.pairs ≡ mid → line.operators.items ≡ operators 36000 mid (run_acts f d Visual is) → IsShown f d Visual 36000 mid is line.operators.items → AreCodes mid (pieces_of_run d f.inked.now is) line.codes.items → line.advance ≡ min (length_of is) 398000 → line.glyph_count ≡ length f.metrics.now → IsLine f d is line
line_is f d is line old mid none are stay text shown codes long count = record {
  pairs_are = stay ∙ are ∙ ap (λ (l : List Pair). with_pairs l (pieces_of_run d f.inked.now is)) none;
  operators_are = text ∙ ap (λ (l : List Pair). operators 36000 l (run_acts f d Visual is)) (sym stay);
  shown = subst (λ (l : List Pair). IsShown f d Visual 36000 l is line.operators.items) (sym stay) shown;
  codes_are = subst (λ (l : List Pair). AreCodes l (pieces_of_run d f.inked.now is) line.codes.items) (sym stay) codes;
  advance = long;
  glyph_count = count;
}

pub unshown_by : (f : Font) (d : Direction) (is : List Item) (pairs new : List Pair) (e : RunError) (why : Error) → why ≡ named e → is_run d (length f.metrics.now) is ≡ true → pairs ≡ zeroth ∷ [] → IsRefused f d Visual pairs new is e → (why ≡ OutOfMemory) ⊎ HasNoLine f d is why
unshown_by f d is pairs new e why name run none h = inr (unshown e new name run (subst (λ (l : List Pair). IsRefused f d Visual l new is e) none h))

module _ (bytes : List ℕ) (request : PdfRequest) (shown : List Shown) (font : Font) where
  pub line_made : (d : Direction) (is : List Item) (r : Result Line Error) → IsRunFont bytes request font → d ≡ direction_of request.choice.vertical → is ≡ items_for request font shown → IfOk r (IsLine font d is) → IfOk r (IsLineFor bytes request shown)
  line_made d is (Err e) run to are h = tt
  line_made d is (Ok line) run to are h = record {
    font = font;
    is_font = run;
    is_line = subst (λ (l : List Item). IsLine font (direction_of request.choice.vertical) l line) are (subst (λ (x : Direction). IsLine font x is line) to h);
  }

  unmade_by : (d : Direction) (is : List Item) (e : Error) → IsRunFont bytes request font → d ≡ direction_of request.choice.vertical → is ≡ items_for request font shown → (e ≡ OutOfMemory) ⊎ HasNoLine font d is e → (e ≡ OutOfMemory) ⊎ HasLineFault bytes request shown e
  unmade_by d is e run to are (inl memory) = inl memory
  unmade_by d is e run to are (inr h) = inr (no_line font run (subst (λ (l : List Item). HasNoLine font (direction_of request.choice.vertical) l e) are (subst (λ (x : Direction). HasNoLine font x is e) to h)))

  pub line_unmade : (d : Direction) (is : List Item) (r : Result Line Error) → IsRunFont bytes request font → d ≡ direction_of request.choice.vertical → is ≡ items_for request font shown → IfErr r (λ e. (e ≡ OutOfMemory) ⊎ HasNoLine font d is e) → IfErr r (λ e. (e ≡ OutOfMemory) ⊎ HasLineFault bytes request shown e)
  line_unmade d is (Ok line) run to are h = tt
  line_unmade d is (Err e) run to are h = unmade_by d is e run to are h

-- What is found in the bytes of a run.
use Rattle.std.proofs.Common.{◌≡◌, ℕ, ◌≤◌, false, List, [], ◌∷◌, ◌++◌, length, drop, flat_map, sym, ap, ◌∙◌, subst, pos}
use Rattle.std.specs.Prelude.{All}
use Rattle.std.proofs.lemmas.List.{drop_all}
use Rattle.std.proofs.lemmas.List.Elements.{All-nil, All-cons, All-head, All-tail}
use Rattle.pdf_runs.specs.declared.codes.Pair.{Pair}
use Rattle.pdf_runs.specs.declared.items.Direction.{Direction}
use Rattle.pdf_runs.specs.declared.items.Item.{Item}
use Rattle.pdf_runs.specs.Pieces.{pieces_of_run}
use Rattle.pdf_operators.specs.declared.operations.OpenArray.{OpenArray}
use Rattle.pdf_operators.specs.declared.operations.Operation.{Operation}
use Rattle.pdf_operators.specs.declared.order.Order.{Order}
use Rattle.pdf_operators.specs.declared.places.Font.{Font}
use Rattle.pdf_operators.specs.Content.{IsWritable, Mark, marks_of, said_in}
use Rattle.pdf_operators.specs.Operators.{Act, act_of, acts_of, closing, operators, written}
use Rattle.pdf_operators.specs.Reading.{ArePlaced, AreCoded, IsEnd, IsExtracted, IsShown, extracted, origins, pen_past, placed, run_marks, text_in, width_in}
use Rattle.pdf_operators.specs.Runs.{run_acts}
use Rattle.pdf_operators.proofs.EndLaws.{pen_is_placed}
use Rattle.pdf_operators.proofs.PlaceLaws.{glyphs_are_placed}
use Rattle.pdf_operators.proofs.ReadLaws.{operators_are_read}
use Rattle.pdf_operators.proofs.TextLaws.{text_is_extracted}

-- ---- operators

all_acts : (size : ℕ) (pairs : List Pair) (ops : List Operation) → All (λ (o : Operation). IsWritable size pairs (act_of o)) ops → All (IsWritable size pairs) (acts_of ops)
all_acts size pairs [] h = All-nil (IsWritable size pairs)
all_acts size pairs (o ∷ os) h =
    All-cons (IsWritable size pairs) (act_of o) (acts_of os) (All-head (λ (o : Operation). IsWritable size pairs (act_of o)) o os h)
    (all_acts size pairs os (All-tail (λ (o : Operation). IsWritable size pairs (act_of o)) o os h))

pub read_back : (size : ℕ) (pairs : List Pair) (ops : List Operation) (bytes : List ℕ) → bytes ≡ operators size pairs (acts_of ops) → All (λ (o : Operation). IsWritable size pairs (act_of o)) ops → said_in bytes ≡ flat_map (marks_of size pairs) (acts_of ops)
read_back size pairs ops bytes e h = ap said_in e ∙ operators_are_read size pairs (acts_of ops) (all_acts size pairs ops h)

pub written_all : (size : ℕ) (pairs : List Pair) (ops : List Operation) (k : ℕ) (o : OpenArray) (so_far new total : List ℕ) → length ops ≤ k → new ≡ so_far ++ closing o → so_far ++ written size pairs o (acts_of (drop k ops)) ≡ total → new ≡ total
written_all size pairs ops k o so_far new total l more h = more ∙ sym (ap (λ (os : List Operation). so_far ++ written size pairs o (acts_of os)) (drop_all k ops l)) ∙ h

-- ---- a run

pub run_shown : (f : Font) (d : Direction) (o : Order) (size : ℕ) (pairs : List Pair) (is : List Item) (bytes : List ℕ) → AreCoded pairs (pieces_of_run d f.inked.now is) → said_in bytes ≡ run_marks f d o size pairs is → IsShown f d o size pairs is bytes
run_shown f d o size pairs is bytes coded read = record {
  text = subst (λ (ms : List Mark). IsExtracted d o is (extracted (text_in pairs) false ms)) (sym read) (text_is_extracted f d o size pairs is coded);
  places = subst (λ (ms : List Mark). ArePlaced f d o size is (origins f pairs (placed (width_in f pairs) (pos 0) (pos 0) ms))) (sym read) (glyphs_are_placed f d o size pairs is coded);
  pen = subst (λ (ms : List Mark). IsEnd f d is (pen_past (width_in f pairs) (pos 0) ms)) (sym read) (pen_is_placed f d o size pairs is coded);
}

pub shown_of : (f : Font) (d : Direction) (o : Order) (size : ℕ) (pairs : List Pair) (is : List Item) (acts : List Act) (bytes : List ℕ) → acts ≡ run_acts f d o is → AreCoded pairs (pieces_of_run d f.inked.now is) → said_in bytes ≡ flat_map (marks_of size pairs) acts → IsShown f d o size pairs is bytes
shown_of f d o size pairs is acts bytes e coded read = run_shown f d o size pairs is bytes coded (read ∙ ap (flat_map (marks_of size pairs)) e)

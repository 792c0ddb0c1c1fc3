-- The parts of W2 that are written, and what is read of them.
use Rattle.std.proofs.Common.{◌≡◌, ℕ, suc, zero, ◌+◌, ◌-◌, ◌*◌, ◌^◌, ◌<◌, ◌≤◌, Bool, true, false, List, [], ◌∷◌, ◌++◌, length, map, drop, get_or, refl, sym, ap, ◌∙◌, append_assoc, arith}
use Rattle.std.specs.Prelude.{if◌then◌else◌, All, ℤ, unsigned_abs, Option, Some, codes, decimal}
use Rattle.std.specs.Option.{option_map}
use Rattle.std.specs.List.{join_with_byte}
use Rattle.std.proofs.lemmas.List.{length-map}
use Rattle.std.proofs.lemmas.List.Elements.{All-nil, All-cons, All-head, All-tail}
use Rattle.pdf_text.specs.declared.metrics.columns.Column.{Column}
use Rattle.pdf_text.specs.declared.metrics.columns.DefaultColumn.{DefaultColumn}
use Rattle.pdf_text.specs.declared.metrics.arrays.Part.{Part}
use Rattle.pdf_text.specs.View.{part_view, parts_view}
use Rattle.pdf_text.specs.Metrics.Arrays.{Entry, each, same, entries_from, lists_from, elements, has_room, AreAtMost}
use Rattle.pdf_text.specs.Metrics.Columns.{is_default, alike, no_column, mark, marks_from, marks, own_marks, column_at, Span, span_of, marked, leaves_out, column_entries, spans, span_elements, column_text, span_text, columns_text, column_in, column_for, column_read, IsColumn, AreShortSpans}
use Rattle.pdf_text.proofs.MetricsLaws.WidthLaws.Lists.{either, few, lists_few, lists_small, lists_short}
use Rattle.pdf_text.proofs.MetricsLaws.WidthLaws.Text.{AreSmall, AllSmall, entries_small, entries_short}
use Rattle.pdf_text.proofs.MetricsLaws.ColumnLaws.Entries.{own_size, spans_are_read}
use Rattle.pdf_text.proofs.MetricsLaws.ColumnLaws.Text.{IsSmallColumn, AreSmallColumns, AreSmallSpans, columns_read}
use Rattle.pdf_text.proofs.CmapsLaws.BlockSteps.{twice}
use Rattle.pdf_text.proofs.Written.{three_after_nothing}

-- ---- the text

-- the texts of the columns of marks
pub list_text : (cs : List Column) (ms : List ℕ) → map (λ m. column_text (column_at cs m)) ms ≡ map column_text (map (column_at cs) ms)
list_text cs ms = sym (twice (column_at cs) column_text ms)

pub listed_text : (cs : List Column) (first : ℕ) (ms old new : List ℕ) → new ≡ old ++ (decimal first ++ (codes " [" ++ (join_with_byte 32 (map (λ m. column_text (column_at cs m)) ms) ++ codes "]"))) → new ≡ old ++ span_text (span_of cs (each first ms))
listed_text cs first ms old new e = e ∙ ap (λ (l : List (List ℕ)). old ++ (decimal first ++ (codes " [" ++ (join_with_byte 32 l ++ codes "]")))) (list_text cs ms)

parts_text : (cs : List Column) (ps : List Part) → map (λ p. span_text (span_of cs (part_view p))) ps ≡ map span_text (map (span_of cs) (parts_view ps))
parts_text cs ps = sym (ap (λ (ss : List Span). map span_text ss) (twice part_view (span_of cs) ps) ∙ twice (λ p. span_of cs (part_view p)) span_text ps)

pub all_written : (cs : List Column) (ps : List Part) (empty w1 w2 w3 : List ℕ) → empty ≡ [] → w1 ≡ empty ++ codes "[" → w2 ≡ w1 ++ join_with_byte 32 (map (λ p. span_text (span_of cs (part_view p))) ps) → w3 ≡ w2 ++ codes "]" → w3 ≡ columns_text (map (span_of cs) (parts_view ps))
all_written cs ps empty w1 w2 w3 n f g h =
    three_after_nothing empty (codes "[") (join_with_byte 32 (map span_text (map (span_of cs) (parts_view ps)))) (codes "]") w1 w2 w3 n f
    (g ∙ ap (λ (l : List (List ℕ)). w1 ++ join_with_byte 32 l) (parts_text cs ps)) h

with_room : (d : DefaultColumn) (cs : List Column) (b : Bool) (es lists : List Entry) → leaves_out d cs ≡ b → es ≡ (if b then marked d cs else lists) → lists ≡ lists_from 2729 (length cs) 0 (own_marks 1 cs) → es ≡ column_entries d cs
with_room d cs b es lists p e l = rw p (e ∙ ap (λ (ls : List Entry). if b then marked d cs else ls) l)

-- the text of the parts by the marks, which have room
pub marked_written : (d : DefaultColumn) (cs : List Column) (ps : List Part) (ms text : List ℕ) → ms ≡ marks d cs → parts_view ps ≡ entries_from 2729 0 0 0 ms → has_room 3 (parts_view ps) ≡ true → text ≡ columns_text (map (span_of cs) (parts_view ps)) → text ≡ columns_text (spans d cs)
marked_written d cs ps ms text m p room t =
    let is : parts_view ps ≡ marked d cs = p ∙ ap (λ (l : List ℕ). entries_from 2729 0 0 0 l) m in
    t ∙ ap (λ (es : List Entry). columns_text (map (span_of cs) es)) (with_room d cs true (parts_view ps) _ (ap (λ (es : List Entry). has_room 3 es) (sym is) ∙ room) is refl)

-- the text of lists of all columns
pub lists_written : (d : DefaultColumn) (cs : List Column) (ps qs : List Part) (ms own text : List ℕ) → ms ≡ marks d cs → parts_view ps ≡ entries_from 2729 0 0 0 ms → has_room 3 (parts_view ps) ≡ false
    → own ≡ own_marks 1 cs → parts_view qs ≡ lists_from 2729 (length own) 0 own → text ≡ columns_text (map (span_of cs) (parts_view qs)) → text ≡ columns_text (spans d cs)
lists_written d cs ps qs ms own text m p room o q t =
    let is : parts_view ps ≡ marked d cs = p ∙ ap (λ (l : List ℕ). entries_from 2729 0 0 0 l) m in
    let lists : parts_view qs ≡ lists_from 2729 (length cs) 0 (own_marks 1 cs) =
    q ∙ ap (λ (l : List ℕ). lists_from 2729 (length l) 0 l) o ∙ ap (λ (n : ℕ). lists_from 2729 n 0 (own_marks 1 cs)) (own_size 1 cs) in
    t ∙ ap (λ (es : List Entry). columns_text (map (span_of cs) es)) (with_room d cs false (parts_view qs) (parts_view qs) (ap (λ (es : List Entry). has_room 3 es) (sym is) ∙ room) refl lists)

-- ---- the numbers are small

no_column_small : IsSmallColumn no_column
no_column_small = record { advance = omega arith; x = omega arith; y = omega arith }

column_small : (cs : List Column) (k : ℕ) → AreSmallColumns cs → IsSmallColumn (get_or cs k no_column)
column_small [] k h = no_column_small
column_small (c ∷ cs) zero h = h.0
column_small (c ∷ cs) (suc k) h = column_small cs k h.1

columns_small : (cs : List Column) (ms : List ℕ) → AreSmallColumns cs → AreSmallColumns (map (column_at cs) ms)
columns_small cs [] h = tt
columns_small cs (m ∷ ms) h = (column_small cs (m - 1) h, columns_small cs ms h)

spans_small : (cs : List Column) (es : List Entry) → AreSmallColumns cs → AllSmall es → AreSmallSpans (map (span_of cs) es)
spans_small cs [] h k = tt
spans_small cs (each first ms ∷ es) h k = ((k.0.0, columns_small cs ms h), spans_small cs es h k.1)
spans_small cs (same first last m ∷ es) h k = ((k.0.0, k.0.1, column_small cs (m - 1) h), spans_small cs es h k.1)

mark_small : (d : DefaultColumn) (own m : ℕ) (before c : Column) (a b : Bool) → is_default d c ≡ a → alike before c ≡ b → m < 2 ^ 64 → own < 2 ^ 64 → mark d own before m c < 2 ^ 64
mark_small d own m before c true b p q l k = rw p (omega arith)
mark_small d own m before c false true p q l k = rw (p, q) l
mark_small d own m before c false false p q l k = rw (p, q) k

marks_small : (d : DefaultColumn) (own m : ℕ) (before : Column) (cs : List Column) → m < 2 ^ 64 → own + length cs < 2 ^ 64 → AreSmall (marks_from d own before m cs)
marks_small d own m before [] l k = All-nil (λ w. w < 2 ^ 64)
marks_small d own m before (c ∷ cs) l k =
    let small : mark d own before m c < 2 ^ 64 = mark_small d own m before c _ _ refl refl l (omega arith) in
    All-cons (λ w. w < 2 ^ 64) (mark d own before m c) (marks_from d (own + 1) c (mark d own before m c) cs) small (marks_small d (own + 1) (mark d own before m c) c cs small (omega arith))

marks_size : (d : DefaultColumn) (own m : ℕ) (before : Column) (cs : List Column) → length (marks_from d own before m cs) ≡ length cs
marks_size d own m before [] = refl
marks_size d own m before (c ∷ cs) = ap suc (marks_size d (own + 1) (mark d own before m c) c cs)

-- ---- what is read

number_small : (z : ℤ) → unsigned_abs z ≤ 2 ^ 31 → unsigned_abs z < 2 ^ 64
number_small z l = omega arith

all_small : (cs : List Column) → All IsColumn cs → AreSmallColumns cs
all_small [] h = tt
all_small (c ∷ cs) h =
    let one = All-head IsColumn c cs h in
    (record { advance = number_small c.advance one.advance; x = number_small c.x one.x; y = number_small c.y one.y }, all_small cs (All-tail IsColumn c cs h))

own_at_drop : (cs : List Column) (own i : ℕ) → i < length cs → own_marks own (drop i cs) ≡ own ∷ own_marks (own + 1) (drop (i + 1) cs)
own_at_drop [] own i l = absurd (omega arith)
own_at_drop (c ∷ cs) own zero l = refl
own_at_drop (c ∷ cs) own (suc i) l = own_at_drop cs own i (omega arith) ∙ ap (λ (k : ℕ). own ∷ own_marks (own + 1) (drop k (c ∷ cs))) (let e : suc (i + 1) ≡ suc i + 1 = omega arith in e)

-- one mark more
pub own_next : (cs : List Column) (own i : ℕ) (front new all : List ℕ) → i < length cs → new ≡ front ++ own ∷ [] → front ++ own_marks own (drop i cs) ≡ all → new ++ own_marks (own + 1) (drop (i + 1) cs) ≡ all
own_next cs own i front new all l n e = rw n (append_assoc front (own ∷ []) (own_marks (own + 1) (drop (i + 1) cs))) ∙ ap (λ (l : List ℕ). front ++ l) (sym (own_at_drop cs own i l)) ∙ e

own_small : (own : ℕ) (cs : List Column) → own + length cs < 2 ^ 64 → AreSmall (own_marks own cs)
own_small own [] l = All-nil (λ w. w < 2 ^ 64)
own_small own (c ∷ cs) l = All-cons (λ w. w < 2 ^ 64) own (own_marks (own + 1) cs) (omega arith) (own_small (own + 1) cs (omega arith))

entries_all_small : (d : DefaultColumn) (cs : List Column) → length cs ≤ 65536 → AllSmall (column_entries d cs)
entries_all_small d cs l =
    let size : length (marks d cs) ≡ length cs = marks_size d 1 1 no_column cs in
    let own : length (own_marks 1 cs) ≡ length cs = own_size 1 cs in
    either AllSmall (leaves_out d cs) (marked d cs) (lists_from 2729 (length cs) 0 (own_marks 1 cs))
    (entries_small 2729 (marks d cs) 0 0 0 (omega arith) (marks_small d 1 1 no_column cs (omega arith) (omega arith)))
    (lists_small 2729 (length cs) 0 (own_marks 1 cs) (omega arith) (own_small 1 cs (omega arith)))

pub column_of_text : (d : DefaultColumn) (cs : List Column) (text : List ℕ) → All IsColumn cs → length cs ≤ 65536 → text ≡ columns_text (spans d cs) → (n : Column) (k : ℕ) → k < length cs → column_for text n k ≡ Some (column_read d cs n k)
column_of_text d cs text h l e n k m =
    ap (λ (t : List ℕ). column_for t n k) e
    ∙ ap (λ (o : Option (List Span)). option_map (λ ss. column_in ss n k) o)
    (columns_read (spans d cs) (spans_small cs (column_entries d cs) (all_small cs h) (entries_all_small d cs l)))
    ∙ ap Some (spans_are_read d cs n k m)

-- ---- no list is long

short_spans : (cs : List Column) (es : List Entry) → AreAtMost 2730 es → AreShortSpans (map (span_of cs) es)
short_spans cs [] h = tt
short_spans cs (each first ms ∷ es) h =
    let size : length (map (column_at cs) ms) ≡ length ms = length-map ms (column_at cs) in
    let bound : length ms ≤ 2730 = h.0 in
    (omega arith, short_spans cs es h.1)
short_spans cs (same first last m ∷ es) h = short_spans cs es h

pub columns_are_short : (d : DefaultColumn) (cs : List Column) → AreShortSpans (spans d cs)
columns_are_short d cs =
    short_spans cs (column_entries d cs)
    (either (AreAtMost 2730) (leaves_out d cs) (marked d cs) (lists_from 2729 (length cs) 0 (own_marks 1 cs))
    (entries_short 2729 (marks d cs) 0 0 0) (lists_short 2730 2729 (length cs) 0 (own_marks 1 cs) (omega arith)))

-- ---- there are few

elements_are : (cs : List Column) (es : List Entry) → span_elements (map (span_of cs) es) ≡ elements 3 es
elements_are cs [] = refl
elements_are cs (each first ms ∷ es) = ap (λ n. 2 + n) (elements_are cs es)
elements_are cs (same first last m ∷ es) = ap (λ n. 5 + n) (elements_are cs es)

pub columns_are_few : (d : DefaultColumn) (cs : List Column) → length cs ≤ 65536 → span_elements (spans d cs) ≤ 8191
columns_are_few d cs l =
    let size : length (own_marks 1 cs) ≡ length cs = own_size 1 cs in
    let lists : elements 3 (lists_from 2729 (length cs) 0 (own_marks 1 cs)) ≤ 2 * 25 = lists_few 3 2729 25 (length cs) 0 (own_marks 1 cs) (omega arith) in
    let all : elements 3 (column_entries d cs) ≤ 8191 = few 3 (marked d cs) (lists_from 2729 (length cs) 0 (own_marks 1 cs)) (omega arith) in
    omega (arith, all, elements_are cs (column_entries d cs))

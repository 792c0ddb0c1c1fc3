-- The entries that marks make, as parts of W2.
use Rattle.std.proofs.Common.{◌≡◌, ℕ, suc, zero, ◌+◌, ◌-◌, ◌<◌, ◌≤◌, Bool, true, false, List, [], ◌∷◌, ◌++◌, length, map, take, drop, get_or, refl, sym, ap, subst, ◌∙◌, ◌⊎◌, inl, inr, arith}
use Rattle.std.specs.Prelude.{◌==◌, ◌&&◌, ◌||◌, nat_lt, nat_le, if◌then◌else◌}
use Rattle.std.proofs.lemmas.Bool.Decides.{nat_tests}
use Rattle.std.proofs.lemmas.List.{length-map, get_or-map}
use Rattle.pdf_text.specs.declared.metrics.columns.Column.{Column}
use Rattle.pdf_text.specs.declared.metrics.columns.DefaultColumn.{DefaultColumn}
use Rattle.pdf_text.specs.Metrics.Arrays.{Entry, each, same, width_in, six_equal, run, listed, opened, more, entries_from, lists_from}
use Rattle.pdf_text.specs.Metrics.Columns.{is_default, no_column, marks, own_marks, column_at, Span, span_of, marked, leaves_out, spans, column_in, column_found, column_read}
use Rattle.pdf_text.proofs.MetricsLaws.WidthLaws.Read.{Opens, none, many, list, opens, entries_are_read}
use Rattle.pdf_text.proofs.MetricsLaws.WidthLaws.Lists.{lists_are_read}
use Rattle.pdf_text.proofs.MetricsLaws.ColumnLaws.Marks.{Says, left_out, kept, mark_says}

-- ---- no entry has mark 0

abbrev NoneIsZero : List ℕ → Type 0
NoneIsZero [] = Unit {0}
NoneIsZero (w ∷ ws) = ((w == 0) ≡ false) × NoneIsZero ws

abbrev AreMarked : List Entry → Type 0
AreMarked [] = Unit {0}
AreMarked (each first ws ∷ es) = NoneIsZero ws × AreMarked es
AreMarked (same first last w ∷ es) = ((w == 0) ≡ false) × AreMarked es

first_of_or : (a b : Bool) → (a || b) ≡ false → (a ≡ false) × (b ≡ false)
first_of_or false b h = (refl, h)
first_of_or true b h = absurd cc

listed_by : (most w : ℕ) (ws : List ℕ) (b : Bool) → (most == 0 || (w == 0 || six_equal (w ∷ ws))) ≡ b → NoneIsZero (take (listed (most - 1) 0 ws) ws) → NoneIsZero (take (listed most 0 (w ∷ ws)) (w ∷ ws))
listed_by most w ws true p h = rw p tt
listed_by most w ws false p h =
    let q = first_of_or (most == 0) (w == 0 || six_equal (w ∷ ws)) p in
    let r = first_of_or (w == 0) (six_equal (w ∷ ws)) q.1 in
    rw p (r.0, h)

listed_marked : (most : ℕ) (ws : List ℕ) → NoneIsZero (take (listed most 0 ws) ws)
listed_marked most [] = tt
listed_marked most (w ∷ ws) = listed_by most w ws _ refl (listed_marked (most - 1) ws)

opened_by : (most first w : ℕ) (ws : List ℕ) (es : List Entry) (a b : Bool) → (w == 0) ≡ a → six_equal (w ∷ ws) ≡ b → AreMarked es → AreMarked (opened most first 0 w ws ++ es)
opened_by most first w ws es true b p q h = rw p h
opened_by most first w ws es false true p q h = rw (p, q) (p, h)
opened_by most first w ws es false false p q h = rw (p, q) ((p, listed_marked most ws), h)

pub are_marked : (most : ℕ) (ws : List ℕ) (first settled : ℕ) → AreMarked (entries_from most first 0 settled ws)
are_marked most [] first settled = tt
are_marked most (w ∷ ws) first (suc settled) = are_marked most ws (first + 1) settled
are_marked most (w ∷ ws) first zero = opened_by most first w ws (entries_from most (first + 1) 0 (more most 0 w ws) ws) _ _ refl refl (are_marked most ws (first + 1) (more most 0 w ws))

-- ---- a column is read where a mark is

marked_at : (ws : List ℕ) (j : ℕ) → NoneIsZero ws → j < length ws → (get_or ws j 0 == 0) ≡ false
marked_at [] j h l = absurd (omega arith)
marked_at (w ∷ ws) zero (e, h) l = e
marked_at (w ∷ ws) (suc j) (e, h) l = marked_at ws j h (omega arith)

-- the column of a mark, else this one
abbrev of_mark : List Column → Column → ℕ → Column
of_mark cs n m = if m == 0 then n else column_at cs m

below : (a b : ℕ) → nat_lt a b ≡ true → a < b
below a b h = grind (arith, nat_tests)

both : (a b : Bool) → (a && b) ≡ true → b ≡ true
both true b h = h
both false b h = absurd cc

in_list : (cs : List Column) (n : Column) (first k : ℕ) (ws : List ℕ) (es : List Entry) (b : Bool) → (nat_le first k && nat_lt (k - first) (length ws)) ≡ b → NoneIsZero ws → column_in (map (span_of cs) es) n k ≡ of_mark cs n (width_in es 0 k) → column_in (span_of cs (each first ws) ∷ map (span_of cs) es) n k ≡ of_mark cs n (width_in (each first ws ∷ es) 0 k)
in_list cs n first k ws es true p h e =
    let l : k - first < length ws = below (k - first) (length ws) (both (nat_le first k) (nat_lt (k - first) (length ws)) p) in
    rw (length-map ws (column_at cs), p, marked_at ws (k - first) h l) (get_or-map (column_at cs) ws (k - first) 0 n l)
in_list cs n first k ws es false p h e = rw (length-map ws (column_at cs), p) e

in_same_by : (cs : List Column) (n : Column) (first last k w : ℕ) (es : List Entry) (b : Bool) → (nat_le first k && nat_le k last) ≡ b → (w == 0) ≡ false → column_in (map (span_of cs) es) n k ≡ of_mark cs n (width_in es 0 k) → column_in (span_of cs (same first last w) ∷ map (span_of cs) es) n k ≡ of_mark cs n (width_in (same first last w ∷ es) 0 k)
in_same_by cs n first last k w es true p h e = rw (p, h) refl
in_same_by cs n first last k w es false p h e = rw p e

column_of_entries : (cs : List Column) (n : Column) (k : ℕ) (es : List Entry) → AreMarked es → column_in (map (span_of cs) es) n k ≡ of_mark cs n (width_in es 0 k)
column_of_entries cs n k [] h = refl
column_of_entries cs n k (each first ws ∷ es) h = in_list cs n first k ws es _ refl h.0 (column_of_entries cs n k es h.1)
column_of_entries cs n k (same first last w ∷ es) h = in_same_by cs n first last k w es _ refl h.0 (column_of_entries cs n k es h.1)

-- ---- each column is read

said_by : (d : DefaultColumn) (cs : List Column) (n c : Column) (m : ℕ) → Says d cs m c → of_mark cs n m ≡ column_found d n c
said_by d cs n c m (left_out p e) = rw (p, e) refl
said_by d cs n c m (kept p e f) = rw (p, e) f

other_default : (cs : List Column) (k : ℕ) (n : Column) → k < length cs → get_or cs k no_column ≡ get_or cs k n
other_default [] k n l = absurd (omega arith)
other_default (c ∷ cs) zero n l = refl
other_default (c ∷ cs) (suc k) n l = other_default cs k n (omega arith)

-- ---- lists of all columns

take_marked : (n : ℕ) (ws : List ℕ) → NoneIsZero ws → NoneIsZero (take n ws)
take_marked zero ws h = tt
take_marked (suc n) [] h = tt
take_marked (suc n) (w ∷ ws) h = (h.0, take_marked n ws h.1)

drop_marked : (n : ℕ) (ws : List ℕ) → NoneIsZero ws → NoneIsZero (drop n ws)
drop_marked zero ws h = h
drop_marked (suc n) [] h = tt
drop_marked (suc n) (w ∷ ws) h = drop_marked n ws h.1

lists_marked : (most n first : ℕ) (ws : List ℕ) → NoneIsZero ws → AreMarked (lists_from most n first ws)
lists_marked most zero first ws h = tt
lists_marked most (suc n) first [] h = tt
lists_marked most (suc n) first (w ∷ ws) h = (take_marked most (w ∷ ws) h, lists_marked most n (first + most) (drop most (w ∷ ws)) (drop_marked most (w ∷ ws) h))

not_zero : (own : ℕ) → 1 ≤ own → (own == 0) ≡ false
not_zero own l = grind (arith, nat_tests)

own_marked : (own : ℕ) (cs : List Column) → 1 ≤ own → NoneIsZero (own_marks own cs)
own_marked own [] l = tt
own_marked own (c ∷ cs) l = (not_zero own l, own_marked (own + 1) cs (omega arith))

pub own_size : (own : ℕ) (cs : List Column) → length (own_marks own cs) ≡ length cs
own_size own [] = refl
own_size own (c ∷ cs) = ap suc (own_size (own + 1) cs)

own_at : (own : ℕ) (cs : List Column) (k : ℕ) → k < length cs → get_or (own_marks own cs) k 0 ≡ own + k
own_at own [] k l = absurd (omega arith)
own_at own (c ∷ cs) zero l = omega arith
own_at own (c ∷ cs) (suc k) l = own_at (own + 1) cs k (omega arith) ∙ (let e : own + 1 + k ≡ own + suc k = omega arith in e)

own_column : (cs : List Column) (n : Column) (k m : ℕ) → m ≡ 1 + k → k < length cs → of_mark cs n m ≡ get_or cs k n
own_column cs n k m e l =
    rw (not_zero m (omega arith)) (ap (λ (i : ℕ). get_or cs i no_column) (let q : m - 1 ≡ k = omega arith in q) ∙ other_default cs k n l)

lists_of_columns : (cs : List Column) (n : Column) (k : ℕ) → k < length cs → column_in (map (span_of cs) (lists_from 2729 (length cs) 0 (own_marks 1 cs))) n k ≡ get_or cs k n
lists_of_columns cs n k l =
    let size = own_size 1 cs in
    let e : 0 + k ≡ k = omega arith in
    column_of_entries cs n k (lists_from 2729 (length cs) 0 (own_marks 1 cs)) (lists_marked 2729 (length cs) 0 (own_marks 1 cs) (own_marked 1 cs (omega arith)))
    ∙ ap (λ m. of_mark cs n m) (ap (λ i. width_in (lists_from 2729 (length cs) 0 (own_marks 1 cs)) 0 i) (sym e) ∙ lists_are_read 2729 (length cs) 0 (own_marks 1 cs) 0 k (omega (arith, size)) (omega arith) (omega (arith, size)))
    ∙ own_column cs n k (get_or (own_marks 1 cs) k 0) (own_at 1 cs k l) l

marked_columns : (d : DefaultColumn) (cs : List Column) (n : Column) (k : ℕ) → k < length cs → column_in (map (span_of cs) (marked d cs)) n k ≡ column_found d n (get_or cs k n)
marked_columns d cs n k l =
    column_of_entries cs n k (marked d cs) (are_marked 2729 (marks d cs) 0 0)
    ∙ ap (λ m. of_mark cs n m) (entries_are_read 2729 (marks d cs) 0 k)
    ∙ said_by d cs n (get_or cs k no_column) (get_or (marks d cs) k 0) (mark_says d cs k l)
    ∙ ap (λ (c : Column). column_found d n c) (other_default cs k n l)

read_by : (d : DefaultColumn) (cs : List Column) (n : Column) (k : ℕ) (b : Bool) → k < length cs
    → column_in (map (span_of cs) (if b then marked d cs else lists_from 2729 (length cs) 0 (own_marks 1 cs))) n k ≡ (if b then column_found d n (get_or cs k n) else get_or cs k n)
read_by d cs n k true l = marked_columns d cs n k l
read_by d cs n k false l = lists_of_columns cs n k l

pub spans_are_read : (d : DefaultColumn) (cs : List Column) (n : Column) (k : ℕ) → k < length cs → column_in (spans d cs) n k ≡ column_read d cs n k
spans_are_read d cs n k l = read_by d cs n k (leaves_out d cs) l

-- What the marks of columns say.
use Rattle.std.proofs.Common.{◌≡◌, ℕ, suc, zero, ◌+◌, ◌-◌, ◌<◌, ◌≤◌, Bool, true, false, List, [], ◌∷◌, length, get_or, refl, sym, ap, subst, ◌∙◌, add-zero, arith}
use Rattle.std.specs.Prelude.{◌==◌, ◌&&◌, ℤ}
use Rattle.std.specs.Ordering.{int_eq}
use Rattle.std.proofs.lemmas.Bool.Decides.{nat_tests, Decides-int_eq}
use Rattle.subsetter_base.proofs.Lists.{and_parts}
use Rattle.pdf_text.specs.declared.metrics.columns.Column.{Column}
use Rattle.pdf_text.specs.declared.metrics.columns.DefaultColumn.{DefaultColumn}
use Rattle.pdf_text.specs.Metrics.Columns.{is_default, alike, no_column, mark, marks_from, marks, column_at}

same_columns_by : (a b : Column) → a.advance ≡ b.advance → a.x ≡ b.x → a.y ≡ b.y → a ≡ b
same_columns_by a b e f g = ap (λ (z : ℤ). let c : Column = record { advance = z; x = a.x; y = a.y } in c) e ∙ ap (λ (z : ℤ). let c : Column = record { advance = b.advance; x = z; y = a.y } in c) f ∙ ap (λ (z : ℤ). let c : Column = record { advance = b.advance; x = b.x; y = z } in c) g

pub alike_is : (a b : Column) → alike a b ≡ true → a ≡ b
alike_is a b h =
    let p = and_parts (int_eq a.advance b.advance) (int_eq a.x b.x && int_eq a.y b.y) h in
    let q = and_parts (int_eq a.x b.x) (int_eq a.y b.y) p.1 in
    same_columns_by a b ((Decides-int_eq a.advance b.advance).0 p.0) ((Decides-int_eq a.x b.x).0 q.0) ((Decides-int_eq a.y b.y).0 q.1)

-- the mark of a column: 0 if it is the default one, else it leads to the column
pub data Says (d : DefaultColumn) (all : List Column) (m : ℕ) (c : Column) : Type 0 where
  left_out : is_default d c ≡ true → m ≡ 0 → Says d all m c
  kept : is_default d c ≡ false → (m == 0) ≡ false → column_at all m ≡ c → Says d all m c

some_mark : (own : ℕ) → 1 ≤ own → (own == 0) ≡ false
some_mark own l = grind (arith, nat_tests)

mark_by : (d : DefaultColumn) (all : List Column) (own m : ℕ) (before c : Column) (a b : Bool) → is_default d c ≡ a → alike before c ≡ b → (b ≡ true → Says d all m c) → 1 ≤ own → column_at all own ≡ c → Says d all (mark d own before m c) c
mark_by d all own m before c true b p q h l e = left_out p (rw p refl)
mark_by d all own m before c false true p q h l e = rw (p, q) (h refl)
mark_by d all own m before c false false p q h l e = rw (p, q) (kept p (some_mark own l) e)

of_before : (d : DefaultColumn) (all : List Column) (m : ℕ) (before c : Column) → Says d all m before → alike before c ≡ true → Says d all m c
of_before d all m before c h e = let P : Column → Type 0 = λ b. Says d all m b in subst P (alike_is before c e) h

says_from : (d : DefaultColumn) (all : List Column) (own m : ℕ) (before : Column) (cs : List Column) (j : ℕ) → Says d all m before → 1 ≤ own → ((i : ℕ) → i < length cs → column_at all (own + i) ≡ get_or cs i no_column) → j < length cs → Says d all (get_or (marks_from d own before m cs) j 0) (get_or cs j no_column)
says_from d all own m before [] j h l at k = absurd (omega arith)
says_from d all own m before (c ∷ cs) zero h l at k =
    mark_by d all own m before c _ _ refl refl (of_before d all m before c h) l (ap (λ n. column_at all n) (sym (add-zero own)) ∙ at 0 (omega arith))
says_from d all own m before (c ∷ cs) (suc j) h l at k =
    says_from d all (own + 1) (mark d own before m c) c cs j
    (mark_by d all own m before c _ _ refl refl (of_before d all m before c h) l (ap (λ n. column_at all n) (sym (add-zero own)) ∙ at 0 (omega arith)))
    (omega arith) (λ i n. let e : (own + 1) + i ≡ own + suc i = omega arith in ap (λ p. column_at all p) e ∙ at (suc i) (omega arith)) (omega arith)

-- the first column has mark 1, whatever comes before
first_says : (d : DefaultColumn) (c : Column) (cs : List Column) (a b : Bool) → is_default d c ≡ a → alike no_column c ≡ b → Says d (c ∷ cs) (mark d 1 no_column 1 c) c
first_says d c cs true b p q = left_out p (rw p refl)
first_says d c cs false true p q = rw (p, q) (kept p refl refl)
first_says d c cs false false p q = rw (p, q) (kept p refl refl)

pub mark_says : (d : DefaultColumn) (cs : List Column) (k : ℕ) → k < length cs → Says d cs (get_or (marks d cs) k 0) (get_or cs k no_column)
mark_says d [] k l = absurd (omega arith)
mark_says d (c ∷ cs) zero l = first_says d c cs _ _ refl refl
mark_says d (c ∷ cs) (suc k) l =
    says_from d (c ∷ cs) (1 + 1) (mark d 1 no_column 1 c) c cs k (first_says d c cs _ _ refl refl) (omega arith)
    (λ i n. let e : (2 + i) - 1 ≡ suc i = omega arith in ap (λ p. get_or (c ∷ cs) p no_column) e) (omega arith)

-- The most frequent column is that of one of the columns, none is more frequent, and each one before it is rarer.
use Rattle.std.proofs.Common.{◌≡◌, ℕ, suc, ◌+◌, ◌<◌, ◌≤◌, Bool, true, false, cond, ltb, ◌&&◌, List, [], ◌∷◌, length, get_or, refl, sym, ap, ◌∙◌, ◌⊎◌, inl, inr, ℤ, arith}
use Rattle.std.specs.Prelude.{count_by}
use Rattle.std.specs.Ordering.{int_eq}
use Rattle.std.proofs.lemmas.Bool.{cases_lt, ltb-true, lt-ltb, false≢true}
use Rattle.std.proofs.lemmas.Bool.Decides.{Decides-int_eq}
use Rattle.std.proofs.lemmas.Cmp.{int_eq_equiv}
use Rattle.std.proofs.lemmas.List.Sums.{sum_by-cons}
use Rattle.subsetter_base.proofs.Lists.{and_parts}
use Rattle.pdf_text.specs.declared.metrics.columns.Column.{Column}
use Rattle.pdf_text.specs.declared.metrics.columns.DefaultColumn.{DefaultColumn}
use Rattle.pdf_text.specs.Metrics.Columns.{no_column}
use Rattle.pdf_glyphs.specs.Frequent.{IsMostFrequent, IsMostOfAll, count, count_at, default_of, has_both, most_from, own_default}

counted_cons : (p : Column → Bool) (c : Column) (cs : List Column) → count_by p (c ∷ cs) ≡ cond (p c) 1 0 + count_by p cs
counted_cons p c cs = sum_by-cons (λ (x : Column). cond (p x) 1 0) c cs

one_by : (b : Bool) (n : ℕ) → b ≡ true → 1 ≤ cond b 1 0 + n
one_by true n h = omega arith
one_by false n h = absurd cc

none_by : (b : Bool) (n : ℕ) → b ≡ false → n ≡ 0 → cond b 1 0 + n ≡ 0
none_by true n h e = absurd cc
none_by false n h e = omega (arith, e)

either : (b : Bool) → (b ≡ true) ⊎ (b ≡ false)
either true = inl refl
either false = inr refl

-- where columns pass, there is one
witness_by : (p : Column → Bool) (c : Column) (cs : List Column) → (b : Bool) → p c ≡ b → ((count_by p cs ≡ 0) ⊎ ((j : ℕ) × (j < length cs) × (p (get_or cs j no_column) ≡ true)))
    → (count_by p (c ∷ cs) ≡ 0) ⊎ ((j : ℕ) × (j < length (c ∷ cs)) × (p (get_or (c ∷ cs) j no_column) ≡ true))
witness_by p c cs true e w = inr (0, omega arith, e)
witness_by p c cs false e (inl none) = inl (counted_cons p c cs ∙ none_by (p c) (count_by p cs) e none)
witness_by p c cs false e (inr w) = let lt : w.0 < length cs = w.1 in inr (suc w.0, omega (arith, lt), w.2)

witness : (p : Column → Bool) (cs : List Column) → (count_by p cs ≡ 0) ⊎ ((j : ℕ) × (j < length cs) × (p (get_or cs j no_column) ≡ true))
witness p [] = inl refl
witness p (c ∷ cs) = witness_by p c cs (p c) refl (witness p cs)

same_number : (x y : ℤ) → int_eq x y ≡ true → x ≡ y
same_number x y h = (Decides-int_eq x y).0 h

both_true : (a b : Bool) → a ≡ true → b ≡ true → (a && b) ≡ true
both_true true true h k = refl
both_true true false h k = absurd cc
both_true false b h k = absurd cc

has_own : (c : Column) → has_both c.y c.advance c ≡ true
has_own c = both_true (int_eq c.y c.y) (int_eq c.advance c.advance) (int_eq_equiv.refl c.y) (int_eq_equiv.refl c.advance)

at_most : (n k m : ℕ) → k ≡ m → ltb n k ≡ false → m ≤ n
at_most n k m is fails = elim (cases_lt n k) [
  | inl lt ↦ absurd (let holds : ltb n k ≡ true = lt-ltb n k lt in cc)
  | inr ge ↦ omega (arith, ge, is)
]

chosen : (P : DefaultColumn → Type 0) (b : Bool) (x y : DefaultColumn) → (b ≡ true → P x) → (b ≡ false → P y) → P (cond b x y)
chosen P true x y f g = f refl
chosen P false x y f g = g refl

-- what is known of the most frequent one of the first i columns, of which n are there
record Best (all : List Column) (i n : ℕ) (d : DefaultColumn) : Type 0 where
  index : ℕ
  before : index < i
  there : default_of (get_or all index no_column) ≡ d
  counted : count all d.y d.advance ≡ n
  most : (j : ℕ) → j < i → count_at all j ≤ n
  earliest : (j : ℕ) → j < index → count_at all j < n

no_more : (all : List Column) (n : ℕ) → ((j : ℕ) → j < length all → count_at all j ≤ n) → (y a : ℤ) → count all y a ≤ n
no_more all n most y a = elim (witness (has_both y a) all) [
  | inl none ↦ omega (arith, none)
  | inr w ↦
      let j : ℕ = w.0 in
      let lt : j < length all = w.1 in
      let c : Column = get_or all j no_column in
      let both = and_parts (int_eq c.y y) (int_eq c.advance a) w.2 in
      let same : count all y a ≡ count_at all j = ap (λ (v : ℤ). count all v a) (sym (same_number c.y y both.0)) ∙ ap (λ (v : ℤ). count all c.y v) (sym (same_number c.advance a both.1)) in
      omega (arith, same, most j lt)
]

finish : (all : List Column) (i n : ℕ) (d : DefaultColumn) → Best all i n d → i ≡ length all → IsMostFrequent all d
finish all i n d b end = record {
  index = b.index;
  within = omega (arith, b.before, end);
  there = b.there;
  most = λ y a. let all_of : count all y a ≤ n = no_more all n (λ j lt. b.most j (omega (arith, lt, end))) y a in omega (arith, all_of, b.counted);
  earliest = λ j lt. omega (arith, b.earliest j lt, b.counted);
}

-- the next column is more frequent
next_taken : (all : List Column) (i n : ℕ) (d : DefaultColumn) → Best all i n d → (c : Column) → c ≡ get_or all i no_column → n < count all c.y c.advance → Best all (i + 1) (count all c.y c.advance) (default_of c)
next_taken all i n d b c here more =
    let is : count all c.y c.advance ≡ count_at all i = ap (λ (v : Column). count all v.y v.advance) here in
    record {
      index = i;
      before = omega arith;
      there = ap default_of (sym here);
      counted = refl;
      most = λ j lt. elim (cases_lt j i) [
        | inl l ↦ omega (arith, b.most j l, more)
        | inr ge ↦ let e : j ≡ i = omega (arith, ge, lt) in omega (arith, ap (count_at all) e, is)
      ];
      earliest = λ j lt. omega (arith, b.most j lt, more);
    }

-- or it isn't
next_kept : (all : List Column) (i n : ℕ) (d : DefaultColumn) → Best all i n d → count_at all i ≤ n → Best all (i + 1) n d
next_kept all i n d b few = record {
  index = b.index;
  before = omega (arith, b.before);
  there = b.there;
  counted = b.counted;
  most = λ j lt. elim (cases_lt j i) [
    | inl l ↦ b.most j l
    | inr ge ↦ let e : j ≡ i = omega (arith, ge, lt) in omega (arith, ap (count_at all) e, few)
  ];
  earliest = b.earliest;
}

best : (all cs : List Column) (i n : ℕ) (d : DefaultColumn) → Best all i n d → i + length cs ≡ length all → ((j : ℕ) → j < length cs → get_or cs j no_column ≡ get_or all (i + j) no_column) → IsMostFrequent all (most_from all n d cs)
best all [] i n d b len same = finish all i n d b (omega (arith, len))
best all (c ∷ cs) i n d b len same =
    let at_first : i + 0 ≡ i = omega arith in
    let here : c ≡ get_or all i no_column = same 0 (omega arith) ∙ ap (λ (k : ℕ). get_or all k no_column) at_first in
    let others : i + 1 + length cs ≡ length all = omega (arith, len) in
    let later : (j : ℕ) → j < length cs → get_or cs j no_column ≡ get_or all (i + 1 + j) no_column = λ j lt. let next : i + suc j ≡ i + 1 + j = omega arith in same (suc j) (omega (arith, lt)) ∙ ap (λ (k : ℕ). get_or all k no_column) next in
    let is : count all c.y c.advance ≡ count_at all i = ap (λ (v : Column). count all v.y v.advance) here in
    chosen (IsMostFrequent all) (ltb n (count all c.y c.advance)) (most_from all (count all c.y c.advance) (default_of c) cs) (most_from all n d cs)
    (λ holds. best all cs (i + 1) (count all c.y c.advance) (default_of c) (next_taken all i n d b c here (ltb-true n (count all c.y c.advance) holds)) others later)
    (λ fails. best all cs (i + 1) n d (next_kept all i n d b (at_most n (count all c.y c.advance) (count_at all i) is fails)) others later)

pub is_most_of_all : IsMostOfAll
is_most_of_all c cs =
    let all : List Column = c ∷ cs in
    let some : 1 ≤ count all c.y c.advance = omega (arith, counted_cons (has_both c.y c.advance) c cs, one_by (has_both c.y c.advance c) (count_by (has_both c.y c.advance) cs) (has_own c)) in
    chosen (IsMostFrequent all) (ltb 0 (count all c.y c.advance)) (most_from all (count all c.y c.advance) (default_of c) cs) (most_from all 0 own_default cs)
    (λ holds. best all cs 1 (count all c.y c.advance) (default_of c) (record {
      index = 0;
      before = omega arith;
      there = refl;
      counted = refl;
      most = λ j lt. let e : j ≡ 0 = omega (arith, lt) in omega (arith, ap (count_at all) e);
      earliest = λ j lt. absurd (omega (arith, lt));
    }) (omega arith) (λ j lt. let next : suc j ≡ 1 + j = omega arith in ap (λ (k : ℕ). get_or all k no_column) next))
    (λ fails. absurd (false≢true (sym fails ∙ lt-ltb 0 (count all c.y c.advance) (omega (arith, some)))))

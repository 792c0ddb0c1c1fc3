-- Numbers of glyphs in pages, to which pages and numbers are added.
use Rattle.std.proofs.Common.{◌≡◌, ◌≢◌, ℕ, ◌+◌, ◌-◌, ◌*◌, ◌/◌, ◌%◌, ◌<◌, ◌≤◌, Bool, true, false, cond, eqb, List, [], ◌∷◌, ◌++◌, length, get_or, set, Option, Some, None, refl, sym, ap, ◌∙◌, ◌⊎◌, inl, inr, arith}
use Rattle.std.specs.Prelude.{replicate}
use Rattle.std.proofs.lemmas.Bool.{cases_eq, cases_lt, eqb-true, eqb-false}
use Rattle.std.proofs.lemmas.List.{length-append, length-replicate, length-set, length_push, get_or-replicate, get_or_past, get_or_append_left, get_or-append_right, get_or-set_same, get_or-set_other}
use Rattle.subsetter_base.specs.Indexes.{index_of}
use Rattle.subsetter_base.specs.Numbers.{code, entry_index, entry, ArePages, AreNumbers}
use Rattle.subsetter_base.proofs.IndexLemmas.{index-push}

pub uncode_none : (o : Option ℕ) → 0 ≡ code o → o ≡ None
uncode_none None h = refl
uncode_none (Some n) h = absurd (omega arith)

pub uncode_some : (o : Option ℕ) (n : ℕ) → n ≡ code o → n ≢ 0 → Some (n - 1) ≡ o
uncode_some None n h ne = absurd (ne h)
uncode_some (Some m) n h ne = ap Some (omega (arith, h))

-- ---- zeros

abbrev zeros : ℕ → List ℕ
zeros n = replicate n 0

zero_at : (n i : ℕ) → get_or (zeros n) i 0 ≡ 0
zero_at n i = elim (cases_lt i n) [
  | inl lt ↦ get_or-replicate n i 0 0 lt
  | inr le ↦ get_or_past (zeros n) i 0 (omega (arith, length-replicate {A = ℕ} n 0, le))
]

pub no_numbers : AreNumbers (zeros 1024) (zeros 64) []
no_numbers =
    let long = length-replicate {A = ℕ} 64 0 in
    record {
      are_pages = record {
        whole = omega (arith, long);
        within = λ k. omega (arith, long, zero_at 1024 k);
        apart = λ j k same ne. absurd (ne (zero_at 1024 j));
        empty = λ r lt. zero_at 64 r;
      };
      count = length-replicate {A = ℕ} 1024 0;
      room = omega (arith, long);
      number = λ q. zero_at 64 (entry_index (zeros 1024) q);
    }

-- ---- a page is added

module _ (pages entries : List ℕ) (k p : ℕ) (is : ArePages pages entries) (free : get_or pages k 0 ≡ 0) (lt : k < length pages) (at : p ≡ length entries / 64) where
  long : length (entries ++ zeros 64) ≡ length entries + 64
  long = omega (arith, length-append entries (zeros 64), length-replicate {A = ℕ} 64 0)

  same : get_or (set pages k p) k 0 ≡ p
  same = get_or-set_same pages k p 0 lt

  other : (j : ℕ) → j ≢ k → get_or (set pages k p) j 0 ≡ get_or pages j 0
  other j ne = get_or-set_other pages k j p 0 ne

  -- the new page isn't an old one
  is_new : (j : ℕ) → get_or pages j 0 ≢ p
  is_new j e = absurd (omega (arith, is.within j, is.whole, at, e))

  pub page_added : ArePages (set pages k p) (entries ++ zeros 64)
  page_added = record {
    whole = omega (arith, long, is.whole);
    within = λ j. elim (cases_eq j k) [
      | inl e ↦ omega (arith, ap (λ (i : ℕ). get_or (set pages k p) i 0) e, same, long, at, is.whole)
      | inr ne ↦ omega (arith, other j ne, is.within j, long)
    ];
    apart = λ i j e ne. elim (cases_eq i k) [
      | inl a ↦ elim (cases_eq j k) [
        | inl b ↦ a ∙ sym b
        | inr b ↦ absurd (is_new j (sym (other j b) ∙ sym e ∙ ap (λ (n : ℕ). get_or (set pages k p) n 0) a ∙ same))
      ]
      | inr a ↦ elim (cases_eq j k) [
        | inl b ↦ absurd (is_new i (sym (other i a) ∙ e ∙ ap (λ (n : ℕ). get_or (set pages k p) n 0) b ∙ same))
        | inr b ↦ is.apart i j (sym (other i a) ∙ e ∙ other j b) (λ z. ne (other i a ∙ z))
      ]
    ];
    empty = λ r few. get_or_append_left entries (zeros 64) 0 r (omega (arith, is.within 0, few)) ∙ is.empty r few;
  }

  pub entry_stays : (q : ℕ) → entry (set pages k p) (entries ++ zeros 64) q ≡ entry pages entries q
  entry_stays q = elim (cases_eq (q / 64) k) [
    | inl e ↦
        let page : get_or (set pages k p) (q / 64) 0 ≡ p = ap (λ (i : ℕ). get_or (set pages k p) i 0) e ∙ same in
        let none : get_or pages (q / 64) 0 ≡ 0 = ap (λ (i : ℕ). get_or pages i 0) e ∙ free in
        let new : entry (set pages k p) (entries ++ zeros 64) q ≡ 0 = get_or-append_right entries (zeros 64) (length entries) (entry_index (set pages k p) q) 0 refl (omega (arith, page, at, is.whole)) ∙ zero_at 64 (entry_index (set pages k p) q - length entries) in
        let old : entry pages entries q ≡ 0 = ap (λ (n : ℕ). get_or entries n 0) (omega (arith, none)) ∙ is.empty (q % 64) (omega arith) in
        new ∙ sym old
    | inr ne ↦
        ap (λ (n : ℕ). get_or (entries ++ zeros 64) (64 * n + q % 64) 0) (other (q / 64) ne) ∙ get_or_append_left entries (zeros 64) 0 (entry_index pages q) (omega (arith, is.within (q / 64)))
  ]

-- ---- an entry is set

module _ (pages entries : List ℕ) (g v : ℕ) (is : ArePages pages entries) (there : get_or pages (g / 64) 0 ≢ 0) where
  pub entry_within : entry_index pages g < length entries
  entry_within = omega (arith, is.within (g / 64))

  apart_from : (q : ℕ) → eqb g q ≡ false → entry_index pages q ≢ entry_index pages g
  apart_from q e h =
      let pages_same : get_or pages (g / 64) 0 ≡ get_or pages (q / 64) 0 = omega (arith, h) in
      let ne : g ≢ q = eqb-false g q e in
      let upper : g / 64 ≡ q / 64 = is.apart (g / 64) (q / 64) pages_same there in
      absurd (ne (omega (arith, h, pages_same, upper)))

  pub entry_set : (q : ℕ) → entry pages (set entries (entry_index pages g) v) q ≡ cond (eqb g q) v (entry pages entries q)
  entry_set q = by (eqb g q) refl
    where
      by : (b : Bool) → eqb g q ≡ b → entry pages (set entries (entry_index pages g) v) q ≡ cond b v (entry pages entries q)
      by true e = ap (λ (n : ℕ). entry pages (set entries (entry_index pages g) v) n) (sym (eqb-true g q e)) ∙ get_or-set_same entries (entry_index pages g) v 0 entry_within
      by false e = get_or-set_other entries (entry_index pages g) (entry_index pages q) v 0 (apart_from q e)

  pub pages_stay : ArePages pages (set entries (entry_index pages g) v)
  pages_stay =
      let len = length-set entries (entry_index pages g) v in
      record {
        whole = omega (arith, len, is.whole);
        within = λ k. omega (arith, len, is.within k);
        apart = is.apart;
        empty = λ r lt. get_or-set_other entries (entry_index pages g) r v 0 (λ h. there (omega (arith, h, lt))) ∙ is.empty r lt;
      }

-- the numbers with one more glyph, whose page is there
pub number_added : (pages entries pages_before entries_before xs : List ℕ) (x n : ℕ) (after : List ℕ) → AreNumbers pages_before entries_before xs → ArePages pages entries → length pages ≡ 1024 → length entries ≤ length entries_before + 64
    → ((q : ℕ) → entry pages entries q ≡ entry pages_before entries_before q) → get_or pages (x / 64) 0 ≢ 0 → index_of xs x ≡ None → n ≡ length xs → after ≡ set entries (entry_index pages x) (n + 1) → AreNumbers pages after (xs ++ x ∷ [])
number_added pages entries pages_before entries_before xs x n after before is count room stays there absent number e =
    rw e (record {
      are_pages = pages_stay pages entries x (n + 1) is there;
      count = count;
      room = omega (arith, room, before.room, length_push xs x, length-set entries (entry_index pages x) (n + 1));
      number = λ q. entry_set pages entries x (n + 1) is there q ∙ ap (cond (eqb x q) (n + 1)) (stays q ∙ before.number q) ∙ by (eqb x q) (index_of xs q) ∙ ap code (sym (index-push xs x q n absent number));
    })
  where
    by : (b : Bool) (o : Option ℕ) → cond b (n + 1) (code o) ≡ code (cond b (Some n) o)
    by true o = refl
    by false o = refl

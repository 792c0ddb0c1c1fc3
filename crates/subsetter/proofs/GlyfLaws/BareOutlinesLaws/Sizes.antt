-- How many bytes the outlines of glyphs take in a new `glyf`.
use Rattle.std.proofs.Common.{◌≡◌, ℕ, zero, suc, ◌+◌, ◌-◌, ◌%◌, ◌<◌, ◌≤◌, Bool, true, false, cond, eqb, List, [], ◌∷◌, ◌++◌, length, get_or, Option, Some, None, Ok, refl, sym, ap, subst, ◌∙◌, ◌⊎◌, inl, inr, arith}
use Rattle.std.specs.Prelude.{Contains, ◌||◌, replicate, sum_by}
use Rattle.std.specs.Option.{option_map}
use Rattle.std.proofs.lemmas.Bool.{eq-eqb, false≢true}
use Rattle.std.proofs.lemmas.List.{get_or_default, length-append}
use Rattle.std.proofs.lemmas.List.Concat.{flat_map-cons}
use Rattle.std.proofs.lemmas.List.Sums.{sum_by-cons, sum_by_push}
use Rattle.subsetter_base.specs.Bytes.{◌>>=◌}
use Rattle.subsetter_base.specs.Indexes.{index_of, IsWithoutRepeats}
use Rattle.subsetter_base.proofs.Lists.{Contains-later}
use Rattle.subsetter_base.proofs.Options.{just_is}
use Rattle.subsetter_base.proofs.Results.{bind_ok, done_is}
use Rattle.subsetter_base.specs.declared.error.Error.{Error}
use Rattle.subsetter_base.specs.declared.error.Error.TheVariants.{MalformedFont, OverflowError}
use Rattle.subsetter.specs.Glyf.Reaching.Closure.{IsFaulty, StopsClosure, faulty_glyph, too_long}
use Rattle.subsetter.specs.Glyf.Plain.{kept, kept_all}
use Rattle.subsetter.specs.Glyf.Reaching.Reach.{IsReachableBy}
use Rattle.subsetter.specs.Glyf.Read.{Outlines, outline_in}
use Rattle.subsetter.specs.Glyf.BareOutlines.Size.{requested_size, requested_sizes}
use Rattle.subsetter.specs.Glyf.Reaching.Unfold.{padded}
use Rattle.subsetter.specs.Glyf.Written.{glyf_bytes}
use Rattle.subsetter.proofs.GlyfLaws.ReachingLaws.Closure.{Follows, cons_cases, here}
use Rattle.subsetter.proofs.GlyfLaws.Kept.{IsKept, is_kept}
use Rattle.subsetter.proofs.GlyfLaws.Walk.{length-renumbered, size_of_parts}

-- ---- a part of a list has no greater sum than the list

-- a list without the member at a place
abbrev without : List ℕ → ℕ → List ℕ
without [] i = []
without (x ∷ xs) zero = xs
without (x ∷ xs) (suc i) = x ∷ without xs i

sum_without : (f : ℕ → ℕ) (xs : List ℕ) (i : ℕ) → i < length xs → sum_by f xs ≡ f (get_or xs i 0) + sum_by f (without xs i)
sum_without f [] i lt = absurd (omega arith)
sum_without f (x ∷ xs) zero lt = sum_by-cons f x xs
sum_without f (x ∷ xs) (suc i) lt = omega (arith, sum_by-cons f x xs, sum_without f xs i (omega arith), sum_by-cons f x (without xs i))

stays : (xs : List ℕ) (i h : ℕ) → Contains xs h → (get_or xs i 0 ≡ h → ⊥) → Contains (without xs i) h
stays [] i h c other = c
stays (x ∷ xs) zero h c other = elim (cons_cases x h xs c) [ inl is ↦ absurd (other is) | inr d ↦ d ]
stays (x ∷ xs) (suc i) h c other = elim (cons_cases x h xs c) [ inl is ↦ here x h (without xs i) is | inr d ↦ Contains-later x h (without xs i) (stays xs i h d other) ]

placed_later : (b : Bool) (o : Option ℕ) (i : ℕ) → cond b (Some 0) (option_map (λ k. k + 1) o) ≡ Some (suc i) → (b ≡ false) × (o ≡ Some i)
placed_later true o i h = absurd (omega (arith, just_is 0 (suc i) h))
placed_later false None i h = absurd cc
placed_later false (Some k) i h = (refl, ap (λ (n : ℕ). Some n) (let e : k ≡ i = omega (arith, just_is (k + 1) (suc i) h) in e))

module _ (g : ℕ) (gs : List ℕ) (once : IsWithoutRepeats (g ∷ gs)) where
  later_once : IsWithoutRepeats gs
  later_once i lt = (placed_later (eqb g (get_or gs i 0)) (index_of gs (get_or gs i 0)) i (once (suc i) (omega arith))).1

  first_once : Contains gs g → ⊥
  first_once c =
      let is_g : get_or gs c.0 0 ≡ g = get_or_default gs c.0 0 g c.1 ∙ c.2 in
      let other = (placed_later (eqb g (get_or gs c.0 0)) (index_of gs (get_or gs c.0 0)) c.0 (once (suc c.0) (omega (arith, c.1)))).0 in
      false≢true (sym other ∙ eq-eqb g (get_or gs c.0 0) (sym is_g))

pub sum_by_part : (f : ℕ → ℕ) (part all : List ℕ) → IsWithoutRepeats part → ((g : ℕ) → Contains part g → Contains all g) → sum_by f part ≤ sum_by f all
sum_by_part f [] all once within = omega arith
sum_by_part f (g ∷ gs) all once within =
    let at = within g (here g g gs refl) in
    let is_g : get_or all at.0 0 ≡ g = get_or_default all at.0 0 g at.1 ∙ at.2 in
    let rest = sum_by_part f gs (without all at.0) (later_once g gs once) (λ h c. stays all at.0 h (within h (Contains-later g h gs c)) (λ e. first_once g gs once (subst (Contains gs) (sym e ∙ is_g) c))) in
    omega (arith, sum_by-cons f g gs, sum_without f all at.0 at.1, ap f is_g, rest)

-- ---- the outlines that are kept

length-padded : (long : Bool) (b : List ℕ) → length b ≤ length (padded long b)
length-padded true b = omega arith
length-padded false b = omega (arith, length-append b (replicate ((2 - length b % 2) % 2) 0))

kept_size : (t : Outlines) (order : List ℕ) (g : ℕ) (b : List ℕ) → IsKept t order g b → requested_size t.hinting (outline_in t g) ≡ length b
kept_size t order g b k = ap (requested_size t.hinting) k.there ∙ size_of_parts t.hinting k.bytes k.parts k.parts_are ∙ sym (length-renumbered order k.parts) ∙ ap length k.written

pub kept_sizes : (t : Outlines) (order gs : List ℕ) (bs : List (List ℕ)) (long : Bool) → kept_all t order gs ≡ Ok bs → requested_sizes t.hinting (outline_in t) gs ≤ length (glyf_bytes long bs)
kept_sizes t order [] bs long h = omega arith
kept_sizes t order (g ∷ gs) bs long h =
    let a = bind_ok (kept t order g) (λ first. kept_all t order gs >>= λ rest. Ok (first ∷ rest)) bs h in
    let b = bind_ok (kept_all t order gs) (λ rest. Ok (a.0 ∷ rest)) bs a.2 in
    let whole : length (glyf_bytes long bs) ≡ length (padded long a.0 ++ glyf_bytes long b.0) = ap (λ (l : List (List ℕ)). length (glyf_bytes long l)) (sym (done_is (a.0 ∷ b.0) bs b.2)) ∙ ap length (flat_map-cons (padded long) a.0 b.0) in
    omega (arith, sum_by-cons (λ q. requested_size t.hinting (outline_in t q)) g gs, kept_size t order g a.0 (is_kept t order g a.0 a.1), length-padded long a.0, whole, length-append (padded long a.0) (glyf_bytes long b.0), kept_sizes t order gs b.0 long b.1)

-- ---- while glyphs are found

-- a glyph that was given is followed
given_more : (t : Outlines) (before left order : List ℕ) (g size more next : ℕ) → before ≡ left ++ g ∷ [] → more ≤ requested_size t.hinting (outline_in t g) → next ≡ size + more → size + requested_sizes t.hinting (outline_in t) before ≤ requested_sizes t.hinting (outline_in t) order → next + requested_sizes t.hinting (outline_in t) left ≤ requested_sizes t.hinting (outline_in t) order
given_more t before left order g size more next is le e so_far =
    omega (arith, ap (requested_sizes t.hinting (outline_in t)) is, sum_by_push (λ q. requested_size t.hinting (outline_in t q)) left g, le, e, so_far)

-- a glyph that waited went last
pub further_size : (t : Outlines) (order after : List ℕ) (g more : ℕ) → after ≡ order ++ g ∷ [] → more ≤ requested_size t.hinting (outline_in t g) → more + requested_sizes t.hinting (outline_in t) order ≤ requested_sizes t.hinting (outline_in t) after
further_size t order after g more is le = omega (arith, ap (requested_sizes t.hinting (outline_in t)) is, sum_by_push (λ q. requested_size t.hinting (outline_in t q)) order g, le)

-- what was counted: no more than the outlines take in a new `glyf`, or one of those that are reached has no parts
pub record IsCounted (t : Outlines) (glyphs left order : List ℕ) (bytes : ℕ) (cut : Bool) : Type 0 where
  pub whole : cut ≡ false → bytes + requested_sizes t.hinting (outline_in t) left ≤ requested_sizes t.hinting (outline_in t) order
  pub faulty : cut ≡ true → (g : ℕ) × (IsReachableBy (outline_in t) glyphs g × IsFaulty t g)

neither : (a b c : Bool) → c ≡ (a || b) → c ≡ false → (a ≡ false) × (b ≡ false)
neither false b c is e = (refl, sym is ∙ e)
neither true b c is e = absurd (false≢true (sym e ∙ is))

either : (a b c : Bool) → c ≡ (a || b) → c ≡ true → (a ≡ true) ⊎ (b ≡ true)
either false b c is e = inr (sym is ∙ e)
either true b c is e = inl refl

pub count_given : (t : Outlines) (glyphs before left order : List ℕ) (g bytes more next : ℕ) (cut also cut_next : Bool) → before ≡ left ++ g ∷ [] → IsReachableBy (outline_in t) glyphs g
    → (also ≡ false → more ≤ requested_size t.hinting (outline_in t g)) → (also ≡ true → IsFaulty t g) → next ≡ bytes + more → cut_next ≡ (cut || also) → IsCounted t glyphs before order bytes cut → IsCounted t glyphs left order next cut_next
count_given t glyphs before left order g bytes more next cut also cut_next is reached le faulty e f k = record {
  whole = λ c. let n = neither cut also cut_next f c in given_more t before left order g bytes more next is (le n.1) e (k.whole n.0);
  faulty = λ c. elim (either cut also cut_next f c) [ inl a ↦ k.faulty a | inr b ↦ (g, (reached, faulty b)) ];
}

pub count_further : (t : Outlines) (glyphs left order after : List ℕ) (g bytes more next : ℕ) (cut also cut_next : Bool) → IsReachableBy (outline_in t) glyphs g
    → (also ≡ false → more + requested_sizes t.hinting (outline_in t) order ≤ requested_sizes t.hinting (outline_in t) after) → (also ≡ true → IsFaulty t g) → next ≡ bytes + more → cut_next ≡ (cut || also) → IsCounted t glyphs left order bytes cut → IsCounted t glyphs left after next cut_next
count_further t glyphs left order after g bytes more next cut also cut_next reached le faulty e f k = record {
  whole = λ c. let n = neither cut also cut_next f c in omega (arith, le n.1, e, k.whole n.0);
  faulty = λ c. elim (either cut also cut_next f c) [ inl a ↦ k.faulty a | inr b ↦ (g, (reached, faulty b)) ];
}

pub count_start : (t : Outlines) (glyphs left order : List ℕ) (bytes : ℕ) (cut : Bool) → bytes ≡ 0 → cut ≡ false → left ≡ order → IsCounted t glyphs left order bytes cut
count_start t glyphs left order bytes cut none whole same = record {
  whole = λ c. omega (arith, none, ap (requested_sizes t.hinting (outline_in t)) same);
  faulty = λ c. absurd (false≢true (sym whole ∙ c));
}

-- the composites of the order are too long together, or one is cut
pub stops_long : (most : ℕ) (t : Outlines) (glyphs left waiting order : List ℕ) (bytes : ℕ) (cut : Bool) (e : Error) → Follows t glyphs left waiting order → IsCounted t glyphs left order bytes cut → (e ≡ cond cut MalformedFont OverflowError) × (most < bytes) → StopsClosure t glyphs most e
stops_long most t glyphs left waiting order bytes cut e f k h = by cut refl
  where
    by : (b : Bool) → cut ≡ b → StopsClosure t glyphs most e
    by true c = let x = k.faulty c in subst (StopsClosure t glyphs most) (sym (h.0 ∙ ap (λ q. cond q MalformedFont OverflowError) c)) (faulty_glyph x.0 x.1.0 x.1.1)
    by false c = subst (StopsClosure t glyphs most) (sym (h.0 ∙ ap (λ q. cond q MalformedFont OverflowError) c)) (too_long (record { part = order; once = f.once; reached = f.reached; longer = omega (arith, k.whole c, h.1) }))

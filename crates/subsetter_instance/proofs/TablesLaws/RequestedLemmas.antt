-- Tables that are written by the requested glyphs alone.
use Rattle.std.proofs.Common.{◌≡◌, ℕ, zero, suc, ◌+◌, ◌-◌, ◌*◌, ◌<◌, ◌≤◌, List, [], ◌∷◌, ◌++◌, length, get_or, take, drop, map, replicate, Option, None, refl, sym, ap, subst, ◌∙◌, append_assoc, append-nil, arith}
use Rattle.std.specs.Prelude.{slice_get}
use Rattle.std.specs.List.{flat_map, range_with_len}
use Rattle.std.specs.Option.{option_and_then}
use Rattle.std.proofs.lemmas.List.{length-append, length-replicate, take_all, drop_all, drop_more, replicate_more}
use Rattle.subsetter_sfnt.specs.Fields.Hmtx.{metric_bytes}
use Rattle.subsetter_instance.specs.Glyphs.Drawn.{Drawn}
use Rattle.subsetter_instance.specs.Tables.Requested.{IsGap, IsNext, IsEnd, IsOrder, outlines_by, starts_by, offsets_by}
use Rattle.subsetter_instance.specs.Tables.Written.{glyph_among, by_glyph, outline_bytes, glyf_bytes, offsets_from, drawn_metric, hmtx_of}
use Rattle.subsetter_instance.proofs.FileLaws.Metrics.{flat_is}

-- ---- glyphs that weren't requested

nones : (h : ℕ → Option Drawn) (k from : ℕ) → ((q : ℕ) → from ≤ q → q < from + k → h q ≡ None) → map h (range_with_len from k) ≡ replicate k None
nones h zero from none = refl
nones h (suc k) from none =
    ap (λ (x : Option Drawn). x ∷ map h (range_with_len (from + 1) k)) (none from (omega arith) (omega arith))
    ∙ ap (λ (l : List (Option Drawn)). None ∷ l) (nones h k (from + 1) (λ q a b. none q (omega arith) (omega arith)))

split : (h : ℕ → Option Drawn) (k m from g : ℕ) → from + k ≡ g → ((q : ℕ) → from ≤ q → q < g → h q ≡ None) → map h (range_with_len from (k + suc m)) ≡ replicate k None ++ h g ∷ map h (range_with_len (g + 1) m)
split h zero m from g e none =
    let len : zero + suc m ≡ suc m = omega arith in
    let same : from ≡ g = omega arith in
    ap (λ (n : ℕ). map h (range_with_len from n)) len ∙ ap (λ (n : ℕ). h n ∷ map h (range_with_len (n + 1) m)) same
split h (suc k) m from g e none =
    let len : suc k + suc m ≡ suc (k + suc m) = omega arith in
    ap (λ (n : ℕ). map h (range_with_len from n)) len
    ∙ ap (λ (x : Option Drawn). x ∷ map h (range_with_len (from + 1) (k + suc m))) (none from (omega arith) (omega arith))
    ∙ ap (λ (l : List (Option Drawn)). None ∷ l) (split h k m (from + 1) g (omega arith) (λ q a b. none q (omega arith) b))

module _ (glyphs : List ℕ) (ds : List Drawn) (n : ℕ) where
  abbrev among : ℕ → Option Drawn
  among = glyph_among glyphs ds

  -- what is drawn of each glyph from a number on
  abbrev pub all_from : ℕ → List (Option Drawn)
  all_from from = map among (range_with_len from (n - from))

  absent : (from to : ℕ) → IsGap glyphs from to → (q : ℕ) → from ≤ q → q < to → among q ≡ None
  absent from to gap q low high = ap (option_and_then (slice_get ds)) (gap q low high)

  all_next : (from g : ℕ) → IsNext glyphs n from g → all_from from ≡ replicate (g - from) None ++ among g ∷ all_from (g + 1)
  all_next from g o =
      let above = o.above in
      let below = o.below in
      let len : n - from ≡ (g - from) + suc (n - (g + 1)) = omega arith in
      ap (λ (k : ℕ). map among (range_with_len from k)) len ∙ split among (g - from) (n - (g + 1)) from g (omega arith) (absent from g o.none)

  all_none : (from : ℕ) → IsEnd glyphs n from → all_from from ≡ replicate (n - from) None
  all_none from o =
      let within = o.within in
      nones among (n - from) from (λ q low high. absent from n o.none q low (omega arith))

  pub all_are : all_from 0 ≡ by_glyph glyphs ds n
  all_are = let whole : n - 0 ≡ n = omega arith in ap (λ (k : ℕ). map among (range_with_len 0 k)) whole

-- ---- glyf

no_outlines : (k : ℕ) (all : List (Option Drawn)) → glyf_bytes (replicate k None ++ all) ≡ glyf_bytes all
no_outlines zero all = refl
no_outlines (suc k) all = no_outlines k all

outlines_from : (glyphs : List ℕ) (ds : List Drawn) (n from : ℕ) (order : List ℕ) → IsOrder glyphs n from order → outlines_by (glyph_among glyphs ds) order ≡ glyf_bytes (all_from glyphs ds n from)
outlines_from glyphs ds n from [] o =
    sym (no_outlines (n - from) []) ∙ ap glyf_bytes (append-nil (replicate (n - from) None) ∙ sym (all_none glyphs ds n from o))
outlines_from glyphs ds n from (g ∷ order) o =
    ap (λ (l : List ℕ). outline_bytes (glyph_among glyphs ds g) ++ l) (outlines_from glyphs ds n (g + 1) order o.1)
    ∙ sym (ap glyf_bytes (all_next glyphs ds n from g o.0) ∙ no_outlines (g - from) (glyph_among glyphs ds g ∷ all_from glyphs ds n (g + 1)))

pub outlines_are : (glyphs : List ℕ) (ds : List Drawn) (n : ℕ) (order : List ℕ) → IsOrder glyphs n 0 order → outlines_by (glyph_among glyphs ds) order ≡ glyf_bytes (by_glyph glyphs ds n)
outlines_are glyphs ds n order o = outlines_from glyphs ds n 0 order o ∙ ap glyf_bytes (all_are glyphs ds n)

-- ---- loca

same_offsets : (k at : ℕ) (all : List (Option Drawn)) → offsets_from at (replicate k None ++ all) ≡ replicate k at ++ offsets_from at all
same_offsets zero at all = refl
same_offsets (suc k) at all =
    let stays : at + 0 ≡ at = omega arith in
    ap (λ (m : ℕ). at ∷ offsets_from m (replicate k None ++ all)) stays ∙ ap (λ (l : List ℕ). at ∷ l) (same_offsets k at all)

offsets_of : (glyphs : List ℕ) (ds : List Drawn) (n at from end : ℕ) (order : List ℕ) → IsOrder glyphs n from order → end ≡ at + length (outlines_by (glyph_among glyphs ds) order)
    → offsets_by n end from order (starts_by (glyph_among glyphs ds) at order) ≡ offsets_from at (all_from glyphs ds n from)
offsets_of glyphs ds n at from end [] o e =
    let within = o.within in
    let last : end ≡ at = omega (arith, e) in
    let more : n + 1 - from ≡ (n - from) + 1 = omega arith in
    ap (replicate (n + 1 - from)) last ∙ ap (λ (k : ℕ). replicate k at) more ∙ sym (replicate_more (n - from) at)
    ∙ sym (same_offsets (n - from) at []) ∙ ap (offsets_from at) (append-nil (replicate (n - from) None) ∙ sym (all_none glyphs ds n from o))
offsets_of glyphs ds n at from end (g ∷ order) o e =
    let b = outline_bytes (glyph_among glyphs ds g) in
    let others = outlines_by (glyph_among glyphs ds) order in
    let rest = all_from glyphs ds n (g + 1) in
    let above = o.0.above in
    let later : end ≡ (at + length b) + length others = omega (arith, e, length-append b others) in
    let more : g + 1 - from ≡ (g - from) + 1 = omega arith in
    ap (λ (k : ℕ). replicate k at ++ offsets_by n end (g + 1) order (starts_by (glyph_among glyphs ds) (at + length b) order)) more
    ∙ ap (λ (l : List ℕ). replicate ((g - from) + 1) at ++ l) (offsets_of glyphs ds n (at + length b) (g + 1) end order o.1 later)
    ∙ ap (λ (l : List ℕ). l ++ offsets_from (at + length b) rest) (sym (replicate_more (g - from) at))
    ∙ append_assoc (replicate (g - from) at) (at ∷ []) (offsets_from (at + length b) rest)
    ∙ sym (ap (offsets_from at) (all_next glyphs ds n from g o.0) ∙ same_offsets (g - from) at (glyph_among glyphs ds g ∷ rest))

pub offsets_are : (glyphs : List ℕ) (ds : List Drawn) (n end : ℕ) (order starts : List ℕ) → IsOrder glyphs n 0 order → starts ≡ starts_by (glyph_among glyphs ds) 0 order → end ≡ length (outlines_by (glyph_among glyphs ds) order)
    → offsets_by n end 0 order starts ≡ offsets_from 0 (by_glyph glyphs ds n)
offsets_are glyphs ds n end order starts o s e =
    ap (offsets_by n end 0 order) s ∙ offsets_of glyphs ds n 0 0 end order o (omega (arith, e)) ∙ ap (offsets_from 0) (all_are glyphs ds n)

-- ---- hmtx

-- the pairs of glyphs
abbrev pub pairs : List (Option Drawn) → List ℕ
pairs all = flat_map metric_bytes (map drawn_metric all)

no_pairs : (k : ℕ) (all : List (Option Drawn)) → pairs (replicate k None ++ all) ≡ replicate (4 * k) 0 ++ pairs all
no_pairs zero all = refl
no_pairs (suc k) all =
    let four : 4 * suc k ≡ suc (suc (suc (suc (4 * k)))) = omega arith in
    ap (λ (l : List ℕ). 0 ∷ 0 ∷ 0 ∷ 0 ∷ l) (no_pairs k all) ∙ ap (λ (m : ℕ). replicate m 0 ++ pairs all) (sym four)

-- zeros up to a glyph
filled : (w r : List ℕ) (from g size len : ℕ) → length w ≡ 4 * from → len ≡ length w → size ≡ 4 * g → from ≤ g → r ≡ take size w ++ replicate (size - len) 0 → r ≡ w ++ replicate (4 * (g - from)) 0
filled w r from g size len long l s le is =
    let short : length w ≤ size = omega arith in
    let more : size - len ≡ 4 * (g - from) = omega arith in
    is ∙ ap (λ (x : List ℕ). x ++ replicate (size - len) 0) (take_all size w short) ∙ ap (λ (k : ℕ). w ++ replicate k 0) more

-- the pairs of the glyphs below a number are written, and these are the requested ones from it on
pub record IsWritten (glyphs : List ℕ) (ds : List Drawn) (n : ℕ) (order w : List ℕ) : Type 0 where
  pub from : ℕ
  pub size : length w ≡ 4 * from
  pub rest : IsOrder glyphs n from order
  pub so_far : w ++ pairs (all_from glyphs ds n from) ≡ hmtx_of (by_glyph glyphs ds n)

pub hmtx_start : (glyphs : List ℕ) (ds : List Drawn) (n : ℕ) (order w : List ℕ) → w ≡ [] → IsOrder glyphs n 0 order → IsWritten glyphs ds n order w
hmtx_start glyphs ds n order w none o = record {
  from = 0;
  size = ap length none;
  rest = o;
  so_far = ap (λ (x : List ℕ). x ++ pairs (all_from glyphs ds n 0)) none ∙ ap pairs (all_are glyphs ds n) ∙ flat_is (by_glyph glyphs ds n);
}

hmtx_next : (glyphs : List ℕ) (ds : List Drawn) (n g : ℕ) (order w r v m : List ℕ) (size len : ℕ) → IsWritten glyphs ds n (g ∷ order) w → size ≡ 4 * g → len ≡ length w
    → r ≡ take size w ++ replicate (size - len) 0 → v ≡ r ++ m → m ≡ metric_bytes (drawn_metric (glyph_among glyphs ds g)) → IsWritten glyphs ds n order v
hmtx_next glyphs ds n g order w r v m size len i s l grown is pair =
    let from = i.from in
    let above = i.rest.0.above in
    let rest = pairs (all_from glyphs ds n (g + 1)) in
    let zeros : List ℕ = replicate (4 * (g - from)) 0 in
    let now : r ≡ w ++ zeros = filled w r from g size len i.size l s above grown in
    let four : length (metric_bytes (drawn_metric (glyph_among glyphs ds g))) ≡ 4 = refl in
    record {
      from = g + 1;
      size = omega (arith, i.size, ap length is, length-append r m, ap length pair, four, ap length now, length-append w zeros, length-replicate {A = ℕ} (4 * (g - from)) 0);
      rest = i.rest.1;
      so_far =
          ap (λ (x : List ℕ). x ++ rest) (is ∙ ap (λ (x : List ℕ). x ++ m) now)
          ∙ append_assoc (w ++ zeros) m rest
          ∙ append_assoc w zeros (m ++ rest)
          ∙ ap (λ (x : List ℕ). w ++ (zeros ++ (x ++ rest))) pair
          ∙ ap (λ (x : List ℕ). w ++ x) (sym (ap pairs (all_next glyphs ds n from g i.rest.0) ∙ no_pairs (g - from) (glyph_among glyphs ds g ∷ all_from glyphs ds n (g + 1))))
          ∙ i.so_far;
    }

pub hmtx_more : (glyphs : List ℕ) (ds : List Drawn) (n g k : ℕ) (order w r v m : List ℕ) (size len : ℕ) → k < length order → g ≡ get_or order k 0 → IsWritten glyphs ds n (drop k order) w → size ≡ 4 * g → len ≡ length w
    → r ≡ take size w ++ replicate (size - len) 0 → v ≡ r ++ m → m ≡ metric_bytes (drawn_metric (glyph_among glyphs ds g)) → IsWritten glyphs ds n (drop (k + 1) order) v
hmtx_more glyphs ds n g k order w r v m size len lt at i s l grown is pair =
    let here : drop k order ≡ g ∷ drop (k + 1) order = drop_more order k 0 lt ∙ ap (λ (x : ℕ). x ∷ drop (k + 1) order) (sym at) in
    hmtx_next glyphs ds n g (drop (k + 1) order) w r v m size len (subst (λ (x : List ℕ). IsWritten glyphs ds n x w) here i) s l grown is pair

hmtx_last : (glyphs : List ℕ) (ds : List Drawn) (n : ℕ) (w r : List ℕ) (size len : ℕ) → IsWritten glyphs ds n [] w → size ≡ 4 * n → len ≡ length w → r ≡ take size w ++ replicate (size - len) 0 → r ≡ hmtx_of (by_glyph glyphs ds n)
hmtx_last glyphs ds n w r size len i s l grown =
    let from = i.from in
    let within = i.rest.within in
    filled w r from n size len i.size l s within grown
    ∙ ap (λ (x : List ℕ). w ++ x) (sym (append-nil (replicate (4 * (n - from)) 0)) ∙ sym (no_pairs (n - from) []) ∙ ap pairs (append-nil (replicate (n - from) None) ∙ sym (all_none glyphs ds n from i.rest)))
    ∙ i.so_far

pub hmtx_end : (glyphs : List ℕ) (ds : List Drawn) (n k : ℕ) (order w r : List ℕ) (size len : ℕ) → length order ≤ k → IsWritten glyphs ds n (drop k order) w → size ≡ 4 * n → len ≡ length w → r ≡ take size w ++ replicate (size - len) 0
    → r ≡ hmtx_of (by_glyph glyphs ds n)
hmtx_end glyphs ds n k order w r size len le i s l grown = hmtx_last glyphs ds n w r size len (subst (λ (x : List ℕ). IsWritten glyphs ds n x w) (drop_all k order le) i) s l grown

-- ---- a glyph more in glyf

pub length-starts : (among : ℕ → Option Drawn) (at : ℕ) (order : List ℕ) → length (starts_by among at order) ≡ length order
length-starts among at [] = refl
length-starts among at (g ∷ order) = ap suc (length-starts among (at + length (outline_bytes (among g))) order)

pub outlines_more : (among : ℕ → Option Drawn) (order w v b whole : List ℕ) (k g : ℕ) → k < length order → g ≡ get_or order k 0 → v ≡ w ++ b → b ≡ outline_bytes (among g) → w ++ outlines_by among (drop k order) ≡ whole → v ++ outlines_by among (drop (k + 1) order) ≡ whole
outlines_more among order w v b whole k g lt at is here so_far =
    let next : drop k order ≡ g ∷ drop (k + 1) order = drop_more order k 0 lt ∙ ap (λ (x : ℕ). x ∷ drop (k + 1) order) (sym at) in
    ap (λ (x : List ℕ). x ++ outlines_by among (drop (k + 1) order)) (is ∙ ap (λ (x : List ℕ). w ++ x) here)
    ∙ append_assoc w (outline_bytes (among g)) (outlines_by among (drop (k + 1) order))
    ∙ ap (λ (x : List ℕ). w ++ outlines_by among x) (sym next)
    ∙ so_far

pub starts_more : (among : ℕ → Option Drawn) (order s t whole : List ℕ) (at later k g : ℕ) → k < length order → g ≡ get_or order k 0 → t ≡ s ++ at ∷ [] → later ≡ at + length (outline_bytes (among g)) → s ++ starts_by among at (drop k order) ≡ whole → t ++ starts_by among later (drop (k + 1) order) ≡ whole
starts_more among order s t whole at later k g lt here is e so_far =
    let next : drop k order ≡ g ∷ drop (k + 1) order = drop_more order k 0 lt ∙ ap (λ (x : ℕ). x ∷ drop (k + 1) order) (sym here) in
    ap (λ (x : List ℕ). x ++ starts_by among later (drop (k + 1) order)) is
    ∙ append_assoc s (at ∷ []) (starts_by among later (drop (k + 1) order))
    ∙ ap (λ (n : ℕ). s ++ at ∷ starts_by among n (drop (k + 1) order)) e
    ∙ ap (λ (x : List ℕ). s ++ starts_by among at x) (sym next)
    ∙ so_far

pub outlines_end : (among : ℕ → Option Drawn) (order w whole : List ℕ) (k : ℕ) → length order ≤ k → w ++ outlines_by among (drop k order) ≡ whole → w ≡ whole
outlines_end among order w whole k le so_far = sym (append-nil w) ∙ ap (λ (x : List ℕ). w ++ outlines_by among x) (sym (drop_all k order le)) ∙ so_far

pub starts_end : (among : ℕ → Option Drawn) (order s whole : List ℕ) (at k : ℕ) → length order ≤ k → s ++ starts_by among at (drop k order) ≡ whole → s ≡ whole
starts_end among order s whole at k le so_far = sym (append-nil s) ∙ ap (λ (x : List ℕ). s ++ starts_by among at x) (sym (drop_all k order le)) ∙ so_far

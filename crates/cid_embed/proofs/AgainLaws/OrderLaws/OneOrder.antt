-- A list of glyphs that reaches no others has one order, itself.
use Rattle.std.proofs.Common.{◌≡◌, ℕ, ◌+◌, ◌-◌, ◌<◌, List, [], ◌∷◌, ◌++◌, length, get_or, refl, sym, ap, ◌∙◌, arith}
use Rattle.std.specs.Prelude.{Contains}
use Rattle.std.proofs.lemmas.List.{append-nil, length-append, get_or_default, get_or_append_left, get_or-append_right}
use Rattle.subsetter_base.specs.Indexes.{index_of, IsWithoutRepeats}
use Rattle.subsetter_sfnt.specs.Read.{Font}
use Rattle.subsetter.specs.Glyf.Reaching.Reach.{IsReachable, given, IsGlyphOrder}
use Rattle.subsetter_cff.specs.Write.Again.{AreAll}
use Rattle.cid_embed.proofs.AgainLaws.Basics.{one_found}
use Rattle.cid_embed.proofs.AgainLaws.OrderLaws.Distinct.{without_repeats}

module _ (font : Font) (glyphs : List ℕ) (reached : (g : ℕ) → IsReachable font glyphs g → Contains glyphs g) where
  pub own_order : IsWithoutRepeats glyphs → IsGlyphOrder font glyphs glyphs
  own_order once = record { others = []; begins = sym (append-nil glyphs); once = once; members = λ g. ((λ c. given g c), (λ r. reached g r)) }

  pub one_order : (order : List ℕ) → IsGlyphOrder font glyphs order → order ≡ glyphs
  one_order order o = by o.others o.begins
    where
      by : (others : List ℕ) → order ≡ glyphs ++ others → order ≡ glyphs
      by [] e = e ∙ append-nil glyphs
      by (x ∷ others) e =
          let n = length glyphs in
          let len : length order ≡ n + (1 + length others) = omega (arith, ap length e, length-append glyphs (x ∷ others)) in
          let gone : n - n ≡ 0 = omega arith in
          let last : get_or order n 0 ≡ x = ap (λ (l : List ℕ). get_or l n 0) e ∙ get_or-append_right glyphs (x ∷ others) n n 0 refl (omega arith) ∙ ap (λ (k : ℕ). get_or (x ∷ others) k 0) gone in
          let c = reached x ((o.members x).0 (n, omega (arith, len), get_or_default order n x 0 (omega (arith, len)) ∙ last)) in
          let before : get_or order c.0 0 ≡ x = ap (λ (l : List ℕ). get_or l c.0 0) e ∙ get_or_append_left glyphs (x ∷ others) 0 c.0 c.1 ∙ get_or_default glyphs c.0 0 x c.1 ∙ c.2 in
          let one = ap (index_of order) (sym before) ∙ o.once c.0 (omega (arith, len, c.1)) in
          let two = ap (index_of order) (sym last) ∙ o.once n (omega (arith, len)) in
          let both : c.0 ≡ n = one_found (index_of order x) c.0 n one two in
          absurd (omega (arith, both, c.1))

-- ---- all glyphs in order

module _ (n : ℕ) (all : List ℕ) (a : AreAll n all) where
  pub each : (i : ℕ) → i < length all → get_or all i 0 ≡ i
  each i lt = a.each i (omega (arith, lt, a.count))

  pub all_once : IsWithoutRepeats all
  all_once = without_repeats all (λ i j li lj same. sym (each i li) ∙ same ∙ each j lj)

  pub among_all : (g : ℕ) → g < n → Contains all g
  among_all g lt = let less : g < length all = omega (arith, lt, a.count) in (g, less, get_or_default all g g 0 less ∙ each g less)

  pub below_all : (g : ℕ) → Contains all g → g < n
  below_all g (k, lt, is) = omega (arith, lt, a.count, sym is ∙ get_or_default all k g 0 lt ∙ each k lt)

-- The order of a subset of a subset: places of the second in the first, and the glyphs that they reach.
use Rattle.std.proofs.Common.{◌≡◌, ℕ, ◌<◌, List, [], length, get_or, Option, Some, sym, ap, subst, ◌∙◌, arith}
use Rattle.std.specs.Prelude.{Contains, map}
use Rattle.std.specs.Option.{unwrap_or}
use Rattle.std.proofs.lemmas.List.{length-map, get_or-map, get_or_default, map-append}
use Rattle.subsetter_base.specs.Bytes.{IsBytes}
use Rattle.subsetter_base.specs.Indexes.{index_of, new_index}
use Rattle.subsetter_sfnt.specs.Read.{Font, as_font}
use Rattle.subsetter.specs.Glyf.Read.{Outlines, outline}
use Rattle.subsetter.specs.Glyf.BareOutlines.Bare.{requested_parts}
use Rattle.subsetter.specs.Glyf.Parts.{component_numbers, outline_parts}
use Rattle.subsetter.specs.Glyf.Plain.{renumbered}
use Rattle.subsetter.specs.Glyf.Reaching.Reach.{IsReachable, given, step, IsGlyphOrder}
use Rattle.subsetter.specs.Glyf.Reaching.Unfold.{padded}
use Rattle.subsetter.proofs.GlyfLaws.ReachingLaws.Unfold.{EachGlyph, each_weaker, padded_parts, components_of, are_numbered, asked_numbered, outline_is, has_number}
use Rattle.cid_embed.proofs.AgainLaws.Basics.{one_found}
use Rattle.cid_embed.proofs.AgainLaws.ByKind.{IsOutlineSubset}
use Rattle.cid_embed.proofs.AgainLaws.OrderLaws.Distinct.{AreApart, apart, place_at, without_repeats}
use Rattle.cid_embed.proofs.AgainLaws.OutlinesLaws.Laid
use Rattle.cid_embed.proofs.AgainLaws.OutlinesLaws.Laid.{IsGlyph}
use Rattle.cid_embed.proofs.AgainLaws.OrderLaws.Numbered.{from_copy, to_copy, each_both}
use Rattle.cid_embed.proofs.AgainLaws.OutlinesLaws.PartNumbers.{part_numbers, asked_part_numbers, each_among}
use Rattle.cid_embed.proofs.AgainLaws.OrderLaws.Places.{AreAt, picked_at}

-- a subset, and an order of some of its glyphs that is closed under components
module _ (font : Font) (glyphs out : List ℕ) (bytes : IsBytes font.bytes) (first : IsOutlineSubset font glyphs out) (more M : List ℕ) (second : IsGlyphOrder (as_font out) more M) (inside : (i : ℕ) → i < length M → get_or M i 0 < length first.order) where
  abbrev L : List ℕ
  L = first.order

  -- the glyph of the first font at a place of the first order
  abbrev pub origin : ℕ → ℕ
  origin j = get_or first.order j 0

  abbrev pub order : List ℕ
  order = map origin M

  abbrev t : Outlines
  t = Laid.t font glyphs out first

  abbrev u : Outlines
  u = Laid.afresh font glyphs out first

  size : length order ≡ length M
  size = length-map M origin

  nth : (i : ℕ) → i < length M → get_or order i 0 ≡ origin (get_or M i 0)
  nth i lt = get_or-map origin M i 0 0 lt

  pub are_at : AreAt L M order
  are_at = picked_at L M inside

  apart_order : AreApart order
  apart_order i j li lj same =
      let a : i < length M = omega (arith, li, size) in
      let b : j < length M = omega (arith, lj, size) in
      let one = apart L first.is_order.once (get_or M i 0) (get_or M j 0) (inside i a) (inside j b) (sym (nth i a) ∙ same ∙ nth j b) in
      apart M second.once i j a b one

  -- a glyph of the subset, with its source
  pub glyph : (j : ℕ) → j < length L → IsGlyph t u L j (get_or (Laid.m font glyphs out first).outlines j [])
  glyph j lt = Laid.glyph_is font glyphs out first bytes j lt

  source_outline : (j : ℕ) (lt : j < length L) → outline font (origin j) ≡ Some (glyph j lt).bytes
  source_outline j lt = outline_is font t (origin j) first.read ∙ (glyph j lt).there

  copy_outline : (j : ℕ) (lt : j < length L) → outline (as_font out) j ≡ Some (padded u.long (get_or (Laid.m font glyphs out first).outlines j []))
  copy_outline j lt = outline_is (as_font out) u j (Laid.read_afresh font glyphs out first) ∙ (glyph j lt).copy_is

  among : (j : ℕ) → j < length L → Contains L (origin j)
  among j lt = (j, lt, get_or_default L j (origin j) 0 lt)

  -- a component's glyph is in the first order, at its new number
  abbrev pub IsNumbered : ℕ → Type 0
  IsNumbered g = (new_index L g < length L) × (origin (new_index L g) ≡ g)

  numbered : (g : ℕ) → Contains L g → IsNumbered g
  numbered g c = let k = has_number L g c in (omega (arith, k.1, k.3), ap origin k.3 ∙ k.2)

  component_reached : (j : ℕ) (lt : j < length L) (g : ℕ) → Contains (component_numbers (glyph j lt).bytes) g → Contains L g
  component_reached j lt g c = (first.is_order.members g).1 (step (origin j) g (glyph j lt).bytes ((first.is_order.members (origin j)).0 (among j lt)) (source_outline j lt) c)

  -- and in the second, where it is a component of a glyph there
  abbrev pub IsComposed : ℕ → Type 0
  IsComposed g = (k : ℕ) × (k < length M) × (get_or M k 0 ≡ new_index L g) × (origin (new_index L g) ≡ g)

  pub each_composed : (i : ℕ) (lt : i < length M) → EachGlyph IsComposed (components_of (glyph (get_or M i 0) (inside i lt)).parts)
  each_composed i lt =
      let j = get_or M i 0 in
      let k = glyph j (inside i lt) in
      let b = padded u.long (get_or (Laid.m font glyphs out first).outlines j []) in
      let mine : Contains M j = (i, lt, get_or_default M i j 0 lt) in
      let copies = each_weaker (λ h. Contains (component_numbers b) h) (λ h. Contains M h) (components_of (padded_parts u.long (renumbered L k.parts))) (λ h c. (second.members h).1 (step j h b ((second.members j).0 mine) (copy_outline j (inside i lt)) c))
      (are_numbered b (padded_parts u.long (renumbered L k.parts)) k.copy_parts) in
      each_weaker (λ g. Contains (component_numbers k.bytes) g × Contains M (new_index L g)) IsComposed (components_of k.parts)
      (λ g both. (both.1.0, both.1.1, get_or_default M both.1.0 0 (new_index L g) both.1.1 ∙ both.1.2, (numbered g (component_reached j (inside i lt) g both.0)).1))
      (each_both (λ g. Contains (component_numbers k.bytes) g) (λ g. Contains M (new_index L g)) (components_of k.parts) (asked_numbered t.hinting k.bytes k.parts k.parts_are) (from_copy (λ h. Contains M h) u.long L k.parts copies))

  -- its number by both orders is its number by the composed one
  pub number_composed : (g : ℕ) → IsComposed g → new_index M (new_index L g) ≡ new_index order g
  number_composed g (k, lt, at, is) =
      let by : Option ℕ → ℕ = λ o. unwrap_or o 0 in
      let a : index_of M (new_index L g) ≡ Some k = place_at M (new_index L g) k (apart M second.once) lt at in
      let b : index_of order g ≡ Some k = place_at order g k apart_order (omega (arith, lt, size)) (nth k lt ∙ ap origin at ∙ is) in
      ap by a ∙ sym (ap by b)

  -- ---- the order is that of the glyphs which the given ones reach

  abbrev IsForth : ℕ → Type 0
  IsForth h = (h < length L) × IsReachable font (map origin more) (origin h)

  forth : (h : ℕ) → IsReachable (as_font out) more h → IsForth h
  forth h (given _ (i, lt, is)) =
      let c = (second.members h).1 (given h (i, lt, is)) in
      let same : get_or M c.0 0 ≡ h = get_or_default M c.0 0 h c.1 ∙ c.2 in
      let at : get_or (map origin more) i (origin h) ≡ origin h = get_or-map origin more i h (origin h) lt ∙ ap origin is in
      (omega (arith, inside c.0 c.1, same), given (origin h) (i, omega (arith, lt, length-map more origin), at))
  forth h (step j _ b r o c) =
      let before = forth j r in
      let k = glyph j before.0 in
      let same : b ≡ padded u.long (get_or (Laid.m font glyphs out first).outlines j []) = one_found (outline (as_font out) j) b (padded u.long (get_or (Laid.m font glyphs out first).outlines j [])) o (copy_outline j before.0) in
      let q = padded_parts u.long (renumbered L k.parts) in
      let numbers = part_numbers b q (ap outline_parts same ∙ k.copy_parts) in
      let each = each_weaker (λ g. Contains (component_numbers k.bytes) g) (λ g. IsForth (new_index L g)) (components_of k.parts)
      (λ g d. let n = numbered g (component_reached j before.0 g d) in (n.0, subst (IsReachable font (map origin more)) (sym n.1) (step (origin j) g k.bytes before.1 (source_outline j before.0) d))) (asked_numbered t.hinting k.bytes k.parts k.parts_are) in
      each_among IsForth (components_of q) h (to_copy IsForth u.long L k.parts each) (subst (λ (l : List ℕ). Contains l h) numbers c)

  back : (g : ℕ) → IsReachable font (map origin more) g → (k : ℕ) × (k < length M) × (origin (get_or M k 0) ≡ g)
  back g (given _ (i, lt, is)) =
      let li : i < length more = omega (arith, lt, length-map more origin) in
      let j = get_or more i 0 in
      let c = (second.members j).1 (given j (i, li, get_or_default more i j 0 li)) in
      let same : get_or M c.0 0 ≡ j = get_or_default M c.0 0 j c.1 ∙ c.2 in
      (c.0, c.1, ap origin same ∙ sym (get_or-map origin more i 0 g li) ∙ is)
  back g (step f _ b r o c) =
      let before = back f r in
      let j = get_or M before.0 0 in
      let k = glyph j (inside before.0 before.1) in
      let same : b ≡ k.bytes = one_found (outline font f) b k.bytes o (ap (outline font) (sym before.2) ∙ source_outline j (inside before.0 before.1)) in
      let numbers = asked_part_numbers t.hinting b k.parts (ap (λ (l : List ℕ). requested_parts t.hinting (outline_parts l)) same ∙ k.parts_are) in
      let x = each_among IsComposed (components_of k.parts) g (each_composed before.0 before.1) (subst (λ (l : List ℕ). Contains l g) numbers c) in
      (x.0, x.1, ap origin x.2 ∙ x.3)

  pub closed_order : IsGlyphOrder font (map origin more) order
  closed_order = record {
    others = map origin second.others;
    begins = ap (map origin) second.begins ∙ map-append origin more second.others;
    once = without_repeats order apart_order;
    members = λ g. (
      (λ c.
          let lt : c.0 < length M = omega (arith, c.1, size) in
          let j = get_or M c.0 0 in
          let mine : Contains M j = (c.0, lt, get_or_default M c.0 j 0 lt) in
          let is : origin j ≡ g = sym (nth c.0 lt) ∙ get_or_default order c.0 0 g c.1 ∙ c.2 in
          subst (IsReachable font (map origin more)) is (forth j ((second.members j).0 mine)).1),
      (λ r.
          let k = back g r in
          (k.0, omega (arith, k.1, size), get_or_default order k.0 g 0 (omega (arith, k.1, size)) ∙ nth k.0 k.1 ∙ k.2)),
    );
  }

-- A glyph that was drawn is drawn as it is where nothing varies.
use Rattle.std.proofs.Common.{◌≡◌, ℕ, suc, ◌+◌, ◌-◌, ◌%◌, ◌^◌, ◌<◌, Bool, true, false, cond, ltb, List, [], ◌∷◌, ◌++◌, length, take, map, Option, Some, None, Ok, Err, ℤ, pos, negsuc, ◌+ℤ◌, ◌-ℤ◌, ◌*ℤ◌, int_le, refl, sym, ap, ◌∙◌, append_assoc, arith}
use Rattle.std.specs.Prelude.{nat_lt}
use Rattle.std.specs.Int.{w16, to_be_bytes, cast_signed, cast_unsigned, int_min, int_max}
use Rattle.std.specs.Option.{ok_or, option_and_then}
use Rattle.std.proofs.lemmas.Bool.{leb-true, lt-leb, ltb-true}
use Rattle.std.proofs.lemmas.Int.{ints}
use Rattle.std.proofs.lemmas.List.{take_at, length-map, map-append}
use Rattle.std.specs.Prelude.{replicate}
use Rattle.std.specs.List.{fold}
use Rattle.subsetter_base.specs.Bytes.{aligned, number, ◌>>=◌}
use Rattle.subsetter_base.specs.declared.error.Error.TheVariants.{MalformedFont, OverflowError}
use Rattle.subsetter_base.proofs.ByteLemmas.{be-u16, number_at}
use Rattle.subsetter_base.proofs.Options.{just_is, bind_some}
use Rattle.subsetter_base.proofs.Results.{done_is, bind_ok, named_ok}
use Rattle.subsetter_points.specs.declared.outline.Point.{Point}
use Rattle.subsetter_points.specs.Simple.{after, description_at, header_at, end_bytes, has_16_bits, parts, parts_bytes, parts_fit, point_bytes, signed_word, xs_of, ys_of}
use Rattle.subsetter_variation.specs.Glyphs.Movement.{spent}
use Rattle.subsetter_variation.specs.Nearest.{nearest}
use Rattle.subsetter_variation.specs.Glyphs.Tuples.{Gvar}
use Rattle.subsetter_variation.specs.Glyphs.Varied.{in_units}
use Rattle.subsetter_sfnt.specs.declared.fields.hmtx.LongHorMetric.{LongHorMetric}
use Rattle.subsetter_instance.specs.Source.{Source, description, metric}
use Rattle.subsetter_instance.specs.Glyphs.Unfolded.{Unfolded, moved, with_phantoms, in_range_or_fault, left_side, left_point, right_point, x_min, signed_or_zero, simple_outline, unfolded_simple, unfolded_composite, is_composite, is_below_zero, counted_description, unfolded}
use Rattle.subsetter_instance.specs.Glyphs.Drawn.{Drawn, whole, word_or_fault, point_or_fault, points_or_fault, advance_or_fault, advance, bearing, drawn_if_fit, levels, rounded, drawn}
use Rattle.subsetter_instance.specs.Instance.{IsDrawn}
use Rattle.subsetter_instance.proofs.FileLaws.Fitting.{drawn_fits}
use Rattle.subsetter_instance.proofs.GlyphsLaws.Phantoms.{left_phantom, right_phantom}
use Rattle.subsetter_instance.proofs.SameLaws.Simple.{near_is}

-- ---- numbers

-- parts of 2^30 that make whole units
whole_units : (x : ℤ) → whole (pos (2 ^ 30) *ℤ x -ℤ pos 0) ≡ x
unfolding nearest
whole_units (pos a) = grind (arith, ints)
whole_units (negsuc a) = grind (arith, ints)

word_is : (x v : ℤ) → word_or_fault x ≡ Ok v → v ≡ x
word_is x v h = by (has_16_bits x) h
  where
    by : (b : Bool) → cond b (Ok x) (Err OverflowError) ≡ Ok v → v ≡ x
    by true k = sym (done_is x v k)
    by false k = absurd cc

-- an advance that fits is kept
advance_is : (n w : ℕ) → advance_or_fault (pos n) ≡ Ok w → w ≡ n
advance_is n w h = by (int_le (pos n) (pos 0)) (nat_lt n (2 ^ 16)) refl h
  where
    by : (b c : Bool) → int_le (pos n) (pos 0) ≡ b → cond b (Ok 0) (cond c (Ok n) (Err OverflowError)) ≡ Ok w → w ≡ n
    by true c e k = let z = done_is 0 w k in omega (arith, leb-true n 0 e)
    by false true e k = sym (done_is n w k)
    by false false e k = absurd cc

-- ---- points

point_is : (p q : Point) → point_or_fault (pos 0) p.on_curve (pos (2 ^ 30) *ℤ p.x) (pos (2 ^ 30) *ℤ p.y) ≡ Ok q → q ≡ p
point_is p q h =
    let x = pos (2 ^ 30) *ℤ p.x in
    let y = pos (2 ^ 30) *ℤ p.y in
    let a = bind_ok (word_or_fault (whole (x -ℤ pos 0))) (λ across. word_or_fault (whole y) >>= λ up. Ok (record { x = across; y = up; on_curve = p.on_curve })) q h in
    let b = bind_ok (word_or_fault (whole y)) (λ up. Ok (record { x = a.0; y = up; on_curve = p.on_curve })) q a.2 in
    let made : Point = record { x = a.0; y = b.0; on_curve = p.on_curve } in
    let across : a.0 ≡ p.x = word_is (whole (x -ℤ pos 0)) a.0 a.1 ∙ whole_units p.x in
    let up : b.0 ≡ p.y = word_is (whole y) b.0 b.1 ∙ ap whole (sym (minus_zero y)) ∙ whole_units p.y in
    sym (done_is made q b.2) ∙ ap (λ (v : ℤ). record { x = v; y = b.0; on_curve = p.on_curve }) across ∙ ap (λ (v : ℤ). record { x = p.x; y = v; on_curve = p.on_curve }) up
  where
    minus_zero : (v : ℤ) → v -ℤ pos 0 ≡ v
    minus_zero v = omega (arith, ints)

points_are : (ps qs : List Point) → points_or_fault (pos 0) (map (λ p. p.on_curve) ps) (in_units (xs_of ps)) (in_units (ys_of ps)) ≡ Ok qs → qs ≡ ps
unfolding points_or_fault
points_are [] qs h = sym (done_is [] qs h)
points_are (p ∷ ps) qs h =
    let rest = points_or_fault (pos 0) (map (λ q. q.on_curve) ps) (in_units (xs_of ps)) (in_units (ys_of ps)) in
    let a = bind_ok (point_or_fault (pos 0) p.on_curve (pos (2 ^ 30) *ℤ p.x) (pos (2 ^ 30) *ℤ p.y)) (λ q. rest >>= λ more. Ok (q ∷ more)) qs h in
    let b = bind_ok rest (λ more. Ok (a.0 ∷ more)) qs a.2 in
    sym (done_is (a.0 ∷ b.0) qs b.2) ∙ ap (λ q. q ∷ b.0) (point_is p a.0 a.1) ∙ ap (λ more. p ∷ more) (points_are ps b.0 b.1)

-- ---- a simple glyph, of which nothing varies

abbrev phantoms : List ℤ
phantoms = pos 0 ∷ pos 0 ∷ pos 0 ∷ pos 0 ∷ []

front_is : (vs : List ℤ) (n : ℕ) → length vs ≡ n → take n (in_units (vs ++ phantoms)) ≡ in_units vs
front_is vs n e = ap (take n) (map-append (λ v. pos (2 ^ 30) *ℤ v) vs phantoms) ∙ take_at (in_units vs) (in_units phantoms) n (length-map vs (λ v. pos (2 ^ 30) *ℤ v) ∙ e)

zero_plus : (v : ℤ) → pos 0 +ℤ v ≡ v
zero_plus v = omega (arith, ints)

plus_zero : (v : ℤ) → v +ℤ pos 0 ≡ v
plus_zero v = omega (arith, ints)

minus_self : (v : ℤ) → v -ℤ v ≡ pos 0
minus_self v = omega (arith, ints)

-- x of the bounding box is the bearing
least_is : (es : List ℕ) (ps : List Point) → cast_unsigned w16 (bearing ps) < 2 ^ 16 → x_min (aligned 2 (parts_bytes es ps)) ≡ cast_signed w16 (cast_unsigned w16 (bearing ps))
unfolding parts_bytes
least_is es [] lt = refl
least_is es (p ∷ ps) lt =
    let v = bearing (p ∷ ps) in
    let text : List ℕ = parts_bytes es (p ∷ ps) in
    let word : List ℕ = to_be_bytes w16 (length es) in
    let zeros : List ℕ = replicate ((2 - length text % 2) % 2) 0 in
    let rest : List ℕ = signed_word (fold int_min p.y (ys_of ps)) ++ (signed_word (fold int_max p.x (xs_of ps)) ++ (signed_word (fold int_max p.y (ys_of ps)) ++ (end_bytes es ++ (0 ∷ 0 ∷ (point_bytes (p ∷ ps) ++ zeros))))) in
    let whole : aligned 2 text ≡ word ++ (signed_word v ++ rest) = simp append_assoc in
    ap signed_or_zero (number_at (aligned 2 text) word (signed_word v) rest 2 2 (cast_unsigned w16 v) whole refl refl (be-u16 (cast_unsigned w16 v) lt))

module _ (es : List ℕ) (ps : List Point) (width : ℕ) (small : cast_unsigned w16 (bearing ps) < 2 ^ 16) where
  abbrev text : List ℕ
  text = aligned 2 (parts_bytes es ps)

  abbrev own : LongHorMetric
  own = record { advance_width = width; lsb = cast_unsigned w16 (bearing ps) }

  abbrev xs : List ℤ
  xs = in_units (xs_of ps ++ phantoms)

  abbrev ys : List ℤ
  ys = in_units (ys_of ps ++ phantoms)

  -- the points, the left phantom point at 0, and the right one at the advance
  abbrev unmoved : Unfolded
  unmoved = record { ends = es; on = map (λ p. p.on_curve) ps; xs = in_units (xs_of ps); ys = in_units (ys_of ps); left = pos 0; right = pos (2 ^ 30) *ℤ pos width }

  side : left_side text own ≡ pos 0
  side = ap (λ v. v -ℤ cast_signed w16 own.lsb) (least_is es ps small) ∙ minus_self (cast_signed w16 own.lsb)

  left_is : left_point text own (length ps) xs ≡ pos 0
  left_is = ap (λ v. pos (2 ^ 30) *ℤ left_side text own +ℤ v) (left_phantom (xs_of ps) (length ps) (length-map ps (λ p. p.x))) ∙ plus_zero (pos (2 ^ 30) *ℤ left_side text own) ∙ ap (λ v. pos (2 ^ 30) *ℤ v) side

  right_is : right_point text own (length ps) xs ≡ pos (2 ^ 30) *ℤ pos width
  right_is =
      ap (λ v. pos (2 ^ 30) *ℤ (left_side text own +ℤ pos width) +ℤ v) (right_phantom (xs_of ps) (length ps) (length-map ps (λ p. p.x))) ∙ plus_zero (pos (2 ^ 30) *ℤ (left_side text own +ℤ pos width))
      ∙ ap (λ v. pos (2 ^ 30) *ℤ v) (ap (λ v. v +ℤ pos width) side ∙ zero_plus (pos width))

  unmoved_is : simple_outline text own es ps xs ys ≡ unmoved
  unmoved_is =
      let on = map (λ (p : Point). p.on_curve) ps in
      ap (λ (l : List ℤ). record { ends = es; on = on; xs = l; ys = take (length ps) ys; left = left_point text own (length ps) xs; right = right_point text own (length ps) xs }) (front_is (xs_of ps) (length ps) (length-map ps (λ p. p.x)))
      ∙ ap (λ (l : List ℤ). record { ends = es; on = on; xs = in_units (xs_of ps); ys = l; left = left_point text own (length ps) xs; right = right_point text own (length ps) xs }) (front_is (ys_of ps) (length ps) (length-map ps (λ p. p.y)))
      ∙ ap (λ (v : ℤ). record { ends = es; on = on; xs = in_units (xs_of ps); ys = in_units (ys_of ps); left = v; right = right_point text own (length ps) xs }) left_is
      ∙ ap (λ (v : ℤ). record { ends = es; on = on; xs = in_units (xs_of ps); ys = in_units (ys_of ps); left = pos 0; right = v }) right_is

  module _ (s : Source) (still : s.gvar ≡ None) (wide : s.hvar ≡ None) (reads : parts text ≡ Some (es, ps)) (g : ℕ) where
    -- it is unfolded as it is
    simple_is : (steps : ℕ) (u : Unfolded × ℕ) → unfolded_simple s [] steps g text own ≡ Ok u → u.0 ≡ unmoved
    unfolding unfolded_simple
    simple_is steps u h =
        let near = λ (o : List ℕ × List Point) (to : List ℤ × List ℤ × ℕ). in_range_or_fault (simple_outline text own o.0 o.1 to.0 to.1) to.2 in
        let move = λ (o : List ℕ × List Point) (left : ℕ). moved s.gvar g (with_phantoms o.0 (xs_of o.1) (ys_of o.1)) [] left >>= near o in
        let a = bind_ok (ok_or (parts text) MalformedFont) (λ o. spent (length o.1 + 5) steps >>= move o) u h in
        let same : a.0 ≡ (es, ps) = just_is a.0 (es, ps) (sym (named_ok (parts text) MalformedFont a.0 a.1) ∙ reads) in
        let b = bind_ok (spent (length ps + 5) steps) (move (es, ps)) u (ap (λ (o : List ℕ × List Point). spent (length o.1 + 5) steps >>= move o) (sym same) ∙ a.2) in
        let c = bind_ok (moved s.gvar g (with_phantoms es (xs_of ps) (ys_of ps)) [] b.0) (near (es, ps)) u b.2 in
        let to = done_is (xs, ys, b.0) c.0 (ap (λ (o : Option Gvar). moved o g (with_phantoms es (xs_of ps) (ys_of ps)) [] b.0) (sym still) ∙ c.1) in
        near_is (simple_outline text own es ps c.0.0 c.0.1) c.0.2 u c.2 ∙ ap (λ (t : List ℤ × List ℤ × ℕ). simple_outline text own es ps t.0 t.1) (sym to) ∙ unmoved_is

    -- and rounded as it is
    rounded_is : (d : Drawn) → rounded s [] g own unmoved ≡ Ok d → d ≡ record { ends = es; points = ps; advance = width; bearing = bearing ps }
    unfolding rounded
    rounded_is d h =
        let points = points_or_fault (pos 0) (map (λ p. p.on_curve) ps) (in_units (xs_of ps)) (in_units (ys_of ps)) in
        let a = bind_ok (advance s.hvar [] g width (pos (2 ^ 30) *ℤ pos width -ℤ pos 0)) (λ w. points >>= λ qs. drawn_if_fit es qs w) d h in
        let b = bind_ok points (λ qs. drawn_if_fit es qs a.0) d a.2 in
        let w : a.0 ≡ width = advance_is width a.0 (ap advance_or_fault (sym (whole_units (pos width))) ∙ ap (λ (o : Option (List ℕ)). advance o [] g width (pos (2 ^ 30) *ℤ pos width -ℤ pos 0)) (sym wide) ∙ a.1) in
        let same : b.0 ≡ ps = points_are ps b.0 b.1 in
        sym (if_fits b.0 a.0 d b.2) ∙ ap (λ (qs : List Point). record { ends = es; points = qs; advance = a.0; bearing = bearing qs }) same ∙ ap (λ (n : ℕ). record { ends = es; points = ps; advance = n; bearing = bearing ps }) w
      where
        if_fits : (qs : List Point) (n : ℕ) (d : Drawn) → drawn_if_fit es qs n ≡ Ok d → record { ends = es; points = qs; advance = n; bearing = bearing qs } ≡ d
        if_fits qs n d k = by (parts_fit es qs) k
          where
            by : (b : Bool) → cond b (Ok (record { ends = es; points = qs; advance = n; bearing = bearing qs })) (Err OverflowError) ≡ Ok d → record { ends = es; points = qs; advance = n; bearing = bearing qs } ≡ d
            by true e = done_is (record { ends = es; points = qs; advance = n; bearing = bearing qs }) d e
            by false e = absurd cc

-- ---- a glyph

-- bytes that are read as a simple glyph aren't a composite
not_composite : (bytes : List ℕ) (p : List ℕ × List Point) → parts bytes ≡ Some p → is_composite bytes ≡ false
unfolding parts
not_composite [] p h = refl
not_composite (b ∷ bytes) p h = of_header (bind_some (header_at (b ∷ bytes)) (λ header. description_at header.0 header.1) p h)
  where
    by : (n : ℕ) (body : List ℕ) (header : ℕ × List ℕ) (q : Bool) → number (b ∷ bytes) 0 2 ≡ Some n → ltb n 0x8000 ≡ q → cond q (Some (n, body)) None ≡ Some header → is_composite (b ∷ bytes) ≡ false
    by n body header true k t e = ap is_below_zero k ∙ lt-leb 0x8000 n (ltb-true n 0x8000 t)
    by n body header false k t e = absurd cc

    of_header : (header : ℕ × List ℕ) × (header_at (b ∷ bytes) ≡ Some header) × (description_at header.0 header.1 ≡ Some p) → is_composite (b ∷ bytes) ≡ false
    of_header t =
        let k = bind_some (number (b ∷ bytes) 0 2) (λ n. option_and_then (λ body. cond (ltb n 0x8000) (Some (n, body)) None) (after 10 (b ∷ bytes))) t.0 t.1 in
        let l = bind_some (after 10 (b ∷ bytes)) (λ body. cond (ltb k.0 0x8000) (Some (k.0, body)) None) t.0 k.2 in
        by k.0 l.0 t.0 (ltb k.0 0x8000) k.1 refl l.2

-- the bearing is that of the points
bearing_is : (s : Source) (at : List ℤ) (steps g : ℕ) (d : Drawn) → drawn s at steps g ≡ Ok d → d.bearing ≡ bearing d.points
unfolding drawn rounded
bearing_is s at steps g d h =
    let a = bind_ok (ok_or (metric s g) MalformedFont) (λ m. unfolded levels s at steps g >>= λ u. rounded s at g m u.0) d h in
    let b = bind_ok (unfolded levels s at steps g) (λ u. rounded s at g a.0 u.0) d a.2 in
    let u = b.0.0 in
    let c = bind_ok (advance s.hvar at g a.0.advance_width (u.right -ℤ u.left)) (λ w. points_or_fault u.left u.on u.xs u.ys >>= λ qs. drawn_if_fit u.ends qs w) d b.2 in
    let e = bind_ok (points_or_fault u.left u.on u.xs u.ys) (λ qs. drawn_if_fit u.ends qs c.0) d c.2 in
    by u.ends e.0 c.0 (parts_fit u.ends e.0) e.2
  where
    by : (es : List ℕ) (qs : List Point) (n : ℕ) (b : Bool) → cond b (Ok (record { ends = es; points = qs; advance = n; bearing = bearing qs })) (Err OverflowError) ≡ Ok d → d.bearing ≡ bearing d.points
    by es qs n true k = let made = done_is (record { ends = es; points = qs; advance = n; bearing = bearing qs }) d k in ap (λ (x : Drawn). x.bearing) (sym made) ∙ ap (λ (x : Drawn). bearing x.points) made
    by es qs n false k = absurd cc

module _ (source out : Source) (at : List ℤ) (steps g : ℕ) (k : IsDrawn source out at steps g) (still : out.gvar ≡ None) (wide : out.hvar ≡ None) where
  abbrev it : Drawn
  it = k.it

  abbrev bytes : List ℕ
  bytes = aligned 2 (parts_bytes it.ends it.points)

  same_bearing : it.bearing ≡ bearing it.points
  same_bearing = bearing_is source at steps g k.it k.drawn_is

  small : cast_unsigned w16 (bearing it.points) < 2 ^ 16
  small = let w = drawn_fits source at steps g k.it k.drawn_is in rw same_bearing at w.bearing

  metric_is : metric out g ≡ Some (record { advance_width = it.advance; lsb = cast_unsigned w16 (bearing it.points) })
  metric_is = k.metrics ∙ ap (λ (v : ℤ). Some (record { advance_width = it.advance; lsb = cast_unsigned w16 v })) same_bearing

  metric_read : (m : LongHorMetric) → ok_or (metric out g) MalformedFont ≡ Ok m → m ≡ record { advance_width = it.advance; lsb = cast_unsigned w16 (bearing it.points) }
  metric_read m h = just_is m (record { advance_width = it.advance; lsb = cast_unsigned w16 (bearing it.points) }) (sym (named_ok (metric out g) MalformedFont m h) ∙ metric_is)

  described : (b : List ℕ) → counted_description out g ≡ Some b → b ≡ bytes
  described b h = by (nat_lt g out.count) h
    where
      by : (q : Bool) → cond q (description out g) None ≡ Some b → b ≡ bytes
      by true e = just_is b bytes (sym e ∙ k.bytes)
      by false e = absurd cc

  unfolded_is : (depth more : ℕ) (u : Unfolded × ℕ) → unfolded (suc depth) out [] more g ≡ Ok u → u.0 ≡ unmoved it.ends it.points it.advance small
  unfolding unfolded
  unfolded_is depth more u h =
      let go = λ (b : List ℕ) (m : LongHorMetric). cond (is_composite b) (unfolded_composite (unfolded depth out []) out [] more g b m) (unfolded_simple out [] more g b m) in
      let a = bind_ok (ok_or (counted_description out g) MalformedFont) (λ b. ok_or (metric out g) MalformedFont >>= go b) u h in
      let c = bind_ok (ok_or (metric out g) MalformedFont) (go a.0) u a.2 in
      let same : a.0 ≡ bytes = described a.0 (named_ok (counted_description out g) MalformedFont a.0 a.1) in
      let read = metric_read c.0 c.1 in
      let plain = ap (λ (b : Bool). cond b (unfolded_composite (unfolded depth out []) out [] more g bytes (own it.ends it.points it.advance small)) (unfolded_simple out [] more g bytes (own it.ends it.points it.advance small))) (sym (not_composite bytes (it.ends, it.points) k.reads)) in
      simple_is it.ends it.points it.advance small out still wide k.reads g more u (plain ∙ ap (go bytes) (sym read) ∙ ap (λ (b : List ℕ). go b c.0) (sym same) ∙ c.2)

  pub redrawn : (more : ℕ) (d : Drawn) → drawn out [] more g ≡ Ok d → d ≡ k.it
  unfolding drawn
  redrawn more d h =
      let a = bind_ok (ok_or (metric out g) MalformedFont) (λ m. unfolded levels out [] more g >>= λ u. rounded out [] g m u.0) d h in
      let b = bind_ok (unfolded levels out [] more g) (λ u. rounded out [] g a.0 u.0) d a.2 in
      let u = unfolded_is 64 more b.0 b.1 in
      let r = rounded_is it.ends it.points it.advance small out still wide k.reads g d (ap (λ (m : LongHorMetric). rounded out [] g m (unmoved it.ends it.points it.advance small)) (sym (metric_read a.0 a.1)) ∙ ap (λ (v : Unfolded). rounded out [] g a.0 v) (sym u) ∙ b.2) in
      r ∙ ap (λ (v : ℤ). record { ends = it.ends; points = it.points; advance = it.advance; bearing = v }) (sym same_bearing)

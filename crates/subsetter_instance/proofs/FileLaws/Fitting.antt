-- What is drawn can be written, and is read from its bytes.
use Rattle.std.proofs.Common.{◌≡◌, ℕ, ◌+◌, ◌-◌, ◌%◌, ◌^◌, ◌<◌, Bool, true, false, cond, List, [], ◌∷◌, length, Option, Some, None, Ok, Err, ℤ, pos, negsuc, refl, sym, ap, subst, arith}
use Rattle.std.specs.Prelude.{replicate, nat_lt, nat_le, ◌&&◌, int_le, unsigned_abs, ◌-ℤ◌, ◌+ℤ◌}
use Rattle.std.specs.Int.{w16, cast_unsigned, int_min}
use Rattle.std.specs.List.{fold}
use Rattle.std.specs.Option.{ok_or}
use Rattle.std.proofs.lemmas.Bool.{ltb-true, eqb-true}
use Rattle.subsetter_base.specs.Bytes.{aligned, ◌>>=◌}
use Rattle.subsetter_base.specs.declared.error.Error.TheVariants.{MalformedFont, OverflowError}
use Rattle.subsetter_base.proofs.Lists.{and_parts}
use Rattle.subsetter_base.proofs.Results.{done_is, bind_ok}
use Rattle.subsetter_points.specs.declared.outline.Point.{Point}
use Rattle.subsetter_points.specs.Simple.{has_16_bits, deltas_fit, points_fit, parts_fit, are_ends, xs_of, ys_of, parts, parts_bytes}
use Rattle.subsetter_points.proofs.Back.{parts_back}
use Rattle.subsetter_variation.specs.Items.ItemVariations.{whole_or_fault}
use Rattle.subsetter_variation.specs.Items.Advances.{advance_delta}
use Rattle.subsetter_sfnt.specs.declared.fields.hmtx.LongHorMetric.{LongHorMetric}
use Rattle.subsetter_instance.specs.Source.{Source, metric}
use Rattle.subsetter_instance.specs.Glyphs.Unfolded.{Unfolded, unfolded}
use Rattle.subsetter_instance.specs.Glyphs.Drawn.{Drawn, whole, advance_or_fault, advance, bearing, points_or_fault, drawn_if_fit, rounded, levels, drawn}

-- an outline that can be written, and a metric whose numbers have 16 bits
pub record CanBeWritten (d : Drawn) : Type 0 where
  pub fits : parts_fit d.ends d.points ≡ true
  pub advance : d.advance < 2 ^ 16
  pub bearing : cast_unsigned w16 d.bearing < 2 ^ 16

-- ---- read

no_ends : (es : List ℕ) → are_ends 0 es 0 ≡ true → es ≡ []
unfolding are_ends
no_ends [] e = refl
no_ends (end ∷ es) e = absurd (past es (end + 1) (omega arith) (and_parts (nat_le 0 end) (are_ends (end + 1) es 0) e).1)
  where
    past : (es : List ℕ) (from : ℕ) → 0 < from → are_ends from es 0 ≡ true → ⊥
    past [] from lt k = omega (arith, eqb-true from 0 k)
    past (end ∷ es) from lt k = past es (end + 1) (omega arith) (and_parts (nat_le from end) (are_ends (end + 1) es 0) k).1

-- a description is read from its bytes, padding after it
pub reads : (es : List ℕ) (ps : List Point) → parts_fit es ps ≡ true → parts (aligned 2 (parts_bytes es ps)) ≡ Some (es, ps)
unfolding parts parts_bytes
reads es [] fits =
    let a = and_parts (are_ends 0 es 0) (nat_lt (length es) 0x8000 && points_fit []) fits in
    ap (λ l. Some (l, [])) (sym (no_ends es a.0))
reads es (p ∷ ps) fits =
    let bytes = parts_bytes es (p ∷ ps) in
    let a = and_parts (are_ends 0 es (length (p ∷ ps))) (nat_lt (length es) 0x8000 && points_fit (p ∷ ps)) fits in
    let b = and_parts (nat_lt (length es) 0x8000) (points_fit (p ∷ ps)) a.1 in
    parts_back es p ps (replicate ((2 - length bytes % 2) % 2) 0) a.0 b.1 (ltb-true (length es) 0x8000 b.0)

-- ---- drawn

-- the least of numbers of 16 bits
least_small : (x : ℤ) (xs : List ℤ) (v : ℤ) → has_16_bits x ≡ true → deltas_fit v xs ≡ true → has_16_bits (fold int_min x xs) ≡ true
unfolding deltas_fit
least_small x [] v h e = h
least_small x (y ∷ ys) v h e =
    let a = and_parts (has_16_bits y) (has_16_bits (y -ℤ v) && deltas_fit y ys) e in
    let b = and_parts (has_16_bits (y -ℤ v)) (deltas_fit y ys) a.1 in
    least_small (int_min x y) ys y (either x y h a.0) b.1
  where
    chosen : (b : Bool) (x y : ℤ) → has_16_bits x ≡ true → has_16_bits y ≡ true → has_16_bits (cond b y x) ≡ true
    chosen true x y h k = k
    chosen false x y h k = h

    either : (x y : ℤ) → has_16_bits x ≡ true → has_16_bits y ≡ true → has_16_bits (int_min x y) ≡ true
    either x y h k = chosen _ x y h k

small_word : (z : ℤ) → has_16_bits z ≡ true → cast_unsigned w16 z < 2 ^ 16
small_word (pos n) h = omega (arith, ltb-true n 0x8000 h)
small_word (negsuc n) h = omega arith

small_bearing : (ps : List Point) (v : ℤ) → deltas_fit v (xs_of ps) ≡ true → cast_unsigned w16 (bearing ps) < 2 ^ 16
unfolding deltas_fit
small_bearing [] v e = omega arith
small_bearing (p ∷ ps) v e =
    let a = and_parts (has_16_bits p.x) (has_16_bits (p.x -ℤ v) && deltas_fit p.x (xs_of ps)) e in
    let b = and_parts (has_16_bits (p.x -ℤ v)) (deltas_fit p.x (xs_of ps)) a.1 in
    small_word (fold int_min p.x (xs_of ps)) (least_small p.x (xs_of ps) p.x a.0 b.1)

small_advance : (v : ℤ) (n : ℕ) → advance_or_fault v ≡ Ok n → n < 2 ^ 16
small_advance v n h = by (int_le v (pos 0)) (nat_lt (unsigned_abs v) (2 ^ 16)) refl h
  where
    by : (b c : Bool) → nat_lt (unsigned_abs v) (2 ^ 16) ≡ c → cond b (Ok 0) (cond c (Ok (unsigned_abs v)) (Err OverflowError)) ≡ Ok n → n < 2 ^ 16
    by true c e k = omega (arith, done_is 0 n k)
    by false true e k = omega (arith, ltb-true (unsigned_abs v) (2 ^ 16) e, done_is (unsigned_abs v) n k)
    by false false e k = absurd cc

-- an advance that HVAR varies has 16 bits
pub small_width : (hvar : Option (List ℕ)) (at : List ℤ) (g before : ℕ) (width : ℤ) (n : ℕ) → advance hvar at g before width ≡ Ok n → n < 2 ^ 16
small_width None at g before width n h = small_advance (whole width) n h
small_width (Some hvar) at g before width n h =
    let d = bind_ok (whole_or_fault (advance_delta hvar at g)) (λ d. advance_or_fault (pos before +ℤ d)) n h in
    small_advance (pos before +ℤ d.0) n d.2

if_fits : (es : List ℕ) (ps : List Point) (width : ℕ) (d : Drawn) → width < 2 ^ 16 → drawn_if_fit es ps width ≡ Ok d → CanBeWritten d
if_fits es ps width d small h = by (parts_fit es ps) refl h
  where
    by : (b : Bool) → parts_fit es ps ≡ b → cond b (Ok (record { ends = es; points = ps; advance = width; bearing = bearing ps })) (Err OverflowError) ≡ Ok d → CanBeWritten d
    by true e k =
        let a = and_parts (are_ends 0 es (length ps)) (nat_lt (length es) 0x8000 && points_fit ps) e in
        let b = and_parts (nat_lt (length es) 0x8000) (points_fit ps) a.1 in
        let c = and_parts (nat_lt (length ps) 0x10000) (deltas_fit (pos 0) (xs_of ps) && deltas_fit (pos 0) (ys_of ps)) b.1 in
        let x = and_parts (deltas_fit (pos 0) (xs_of ps)) (deltas_fit (pos 0) (ys_of ps)) c.1 in
        subst CanBeWritten (done_is (record { ends = es; points = ps; advance = width; bearing = bearing ps }) d k) (record { fits = e; advance = small; bearing = small_bearing ps (pos 0) x.0 })
    by false e k = absurd cc

rounded_fits : (s : Source) (at : List ℤ) (g : ℕ) (m : LongHorMetric) (u : Unfolded) (d : Drawn) → rounded s at g m u ≡ Ok d → CanBeWritten d
unfolding rounded
rounded_fits s at g m u d h =
    let a = bind_ok (advance s.hvar at g m.advance_width (u.right -ℤ u.left)) (λ width. points_or_fault u.left u.on u.xs u.ys >>= λ points. drawn_if_fit u.ends points width) d h in
    let b = bind_ok (points_or_fault u.left u.on u.xs u.ys) (λ points. drawn_if_fit u.ends points a.0) d a.2 in
    if_fits u.ends b.0 a.0 d (small_width s.hvar at g m.advance_width (u.right -ℤ u.left) a.0 a.1) b.2

-- what is drawn of a glyph can be written
pub drawn_fits : (s : Source) (at : List ℤ) (steps g : ℕ) (d : Drawn) → drawn s at steps g ≡ Ok d → CanBeWritten d
unfolding drawn
drawn_fits s at steps g d h =
    let a = bind_ok (ok_or (metric s g) MalformedFont) (λ m. unfolded levels s at steps g >>= λ u. rounded s at g m u.0) d h in
    let b = bind_ok (unfolded levels s at steps g) (λ u. rounded s at g a.0 u.0) d a.2 in
    rounded_fits s at g a.0 b.0.0 d b.2

use Rattle.std.proofs.Common.{◌+◌, ◌<◌, ◌≤◌, ◌^◌, ℤ, length, FitsSigned, w64, to_z, of_z, unsigned_abs, ap, arith, rules, ◌≡◌, ℕ, List, Bool, Result, true, false, Ok, Err, refl}
use Rattle.std.specs.Prelude.{◌&&◌, if◌then◌else◌, nat_lt}
use Rattle.std.proofs.lemmas.Bool.{le-ltb}
use Rattle.std.proofs.lemmas.Int.{to_z-of_z}
use Rattle.subsetter_base.specs.Bytes.{◌>>=◌}
use Rattle.subsetter_base.specs.declared.error.Error.{Error}
use Rattle.subsetter_base.specs.declared.error.Error.TheVariants.{OverflowError}
use Rattle.subsetter_instance.specs.Glyphs.Unfolded.{Unfolded, are_near, joined_moved, joined_or_fault, moved_part, shifted}
use Rattle.subsetter_instance.proofs.GlyphsLaws.Reach.{joined_is, joined_reach, kept, moved_reach, on_count}
use Rattle.subsetter_instance.proofs.glyphs.placing.joined_moved.Goals.{then-are_near_moved, else-are_near_moved}
use Rattle.subsetter_instance.proofs.glyphs.placing.joined_moved.Goals as goal

pub returns-clause-value : goal.returns-clause-value
returns-clause-value c =
    let f : FitsSigned w64 c.args.across = c.ranges.across in
    let g : FitsSigned w64 c.args.up = c.ranges.up in
    let across = to_z-of_z w64 c.args.across f in
    let up = to_z-of_z w64 c.args.up g in
    let few : length c.args.before.on + length c.args.part.now.on < 65536 = search (rules, on_count) in
    rw (c.in_ok-joined_parts.ensures.value, across, up) (joined_is c.args.before c.args.part.now c.args.across c.args.up c.args.xs.now c.args.ys.now c.args.steps (search rules) (search rules) few)

pub returns-clause-bound : goal.returns-clause-bound
returns-clause-bound c =
    let f : FitsSigned w64 c.args.across = c.ranges.across in
    let g : FitsSigned w64 c.args.up = c.ranges.up in
    let across = to_z-of_z w64 c.args.across f in
    let up = to_z-of_z w64 c.args.up g in
    rw (c.in_ok-joined_parts.ensures.value, across, up) (joined_reach _ _ c.requires.before (moved_reach c.args.part.now c.args.across c.args.up c.args.xs.now c.args.ys.now c.requires.part c.requires.many_xs c.requires.many_ys (search rules) (search rules)))

wide : (z : ℤ) → unsigned_abs z ≤ 2 ^ 57 → unsigned_abs (to_z w64 (of_z w64 z)) ≤ 2 ^ 57
wide z h = omega (arith, h, ap unsigned_abs (kept z (omega (arith, h))))

pub are_near_moved-requires : goal.are_near_moved-requires
are_near_moved-requires c = record { by = wide c.args.across c.requires.across; vs = c.requires.xs }

pub are_near_moved-requires-then-are_near_moved : goal.are_near_moved-requires-then-are_near_moved
are_near_moved-requires-then-are_near_moved c = record { by = wide c.args.up c.requires.up; vs = c.requires.ys }

pub joined_parts-requires : goal.joined_parts-requires
joined_parts-requires c =
    let before = c.before-2.inside.on in
    let few : length c.args.before.on + length c.args.part.now.on < 65536 = omega (arith, on_count before.items, on_count c.part.inside.on.items, ap (λ (u : Unfolded). length u.on) c.before-2.view_is, ap (λ (u : Unfolded). length u.on) c.part.view_is, c.len.ensures, c.len-2.ensures, c.if-len-ge65536.false, before.ok.0, c.part.inside.on.ok.0) in
    record {
      across = wide c.args.across c.requires.across;
      up = wide c.args.up c.requires.up;
      xs = c.requires.xs;
      ys = c.requires.ys;
      ends = c.requires.part.shape.ends;
      few = few;
    }

abbrev gate : Bool → Unfolded → ℕ → Result (Unfolded × ℕ) Error
gate near p steps = if near then Ok (p, steps) else Err OverflowError

either : (near : Bool) (a p : Unfolded) (steps : ℕ) → nat_lt (length a.on + length p.on) 65536 ≡ false → (gate near p steps >>= λ r. joined_or_fault a r.0 r.1) ≡ Err OverflowError
either true a p steps h = rw h refl
either false a p steps h = refl

full : (a u : Unfolded) (x y : ℤ) (xs ys : List ℤ) (steps : ℕ) → 65536 ≤ length a.on + length u.on → joined_moved a u x y xs ys steps ≡ Err OverflowError
unfolding joined_moved
full a u x y xs ys steps many = either (are_near (shifted x xs) && are_near (shifted y ys)) a (moved_part u x y xs ys) steps (le-ltb (length a.on + length u.on) 65536 many)

far : (a u : Unfolded) (x y : ℤ) (xs ys : List ℤ) (steps : ℕ) → (are_near (shifted x xs) && are_near (shifted y ys)) ≡ false → joined_moved a u x y xs ys steps ≡ Err OverflowError
unfolding joined_moved
far a u x y xs ys steps h = rw h refl

second : (a b : Bool) → b ≡ false → (a && b) ≡ false
second true b h = h
second false b h = refl

first : (a b : Bool) → a ≡ false → (a && b) ≡ false
first a b h = rw h refl

pub returns-then-len-ge65536 : goal.returns-then-len-ge65536
returns-then-len-ge65536 c =
    let before = c.before-2.inside.on in
    let many : 65536 ≤ length c.args.before.on + length c.args.part.now.on =
    omega (arith, on_count before.items, on_count c.part.inside.on.items, ap (λ (u : Unfolded). length u.on) c.before-2.view_is, ap (λ (u : Unfolded). length u.on) c.part.view_is, c.len.ensures, c.len-2.ensures, c.if-len-ge65536.true, before.ok.0, c.part.inside.on.ok.0) in
    record { value = full c.args.before c.args.part.now c.args.across c.args.up c.args.xs.now c.args.ys.now c.args.steps many; bound = tt }

pub returns-then-not-are_near_moved : goal.returns-then-not-are_near_moved
returns-then-not-are_near_moved c =
    let f : FitsSigned w64 c.args.across = c.ranges.across in
    let g : FitsSigned w64 c.args.up = c.ranges.up in
    let across = to_z-of_z w64 c.args.across f in
    let up = to_z-of_z w64 c.args.up g in
    let a = are_near (shifted c.args.across c.args.xs.now) in
    let b = are_near (shifted c.args.up c.args.ys.now) in
    let none : (a && b) ≡ false = elim c.if-are_near_moved.branch [
      | then-are_near_moved w ↦ second a b (cc (w.value-is, w.are_near_moved-then-are_near_moved.ensures, up, c.if-not-are_near_moved.true))
      | else-are_near_moved w ↦ first a b (cc (c.are_near_moved.ensures, across, w.if-are_near_moved.false))
    ] in
    record { value = far c.args.before c.args.part.now c.args.across c.args.up c.args.xs.now c.args.ys.now c.args.steps none; bound = tt }

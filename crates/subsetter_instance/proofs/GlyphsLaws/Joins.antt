-- The components of a composite glyph, one after the other.
use Rattle.std.proofs.Common.{◌≡◌, ℕ, zero, suc, ◌+◌, ◌-◌, ◌^◌, ◌<◌, ◌≤◌, List, [], ◌∷◌, ◌++◌, length, drop, get_or, ℤ, pos, Result, Ok, Err, Some, true, refl, ap, sym, ◌∙◌, arith}
use Rattle.std.specs.Prelude.{nat_le, Bool, false, if◌then◌else◌, slice_index_or}
use Rattle.std.specs.List.{range_with_len}
use Rattle.std.proofs.lemmas.Bool.{leb-true}
use Rattle.std.proofs.lemmas.List.{drop_more, length-append, length-map}
use Rattle.subsetter_base.specs.Bytes.{◌>>=◌}
use Rattle.subsetter_base.specs.Gives.{Fails}
use Rattle.subsetter_base.specs.declared.error.Error.{Error}
use Rattle.subsetter_base.specs.declared.error.Error.TheVariants.{OverflowError}
use Rattle.subsetter_variation.specs.Glyphs.Varied.{AreEnds}
use Rattle.subsetter_variation.specs.Glyphs.Movement.{IsOutline, spent}
use Rattle.subsetter_variation.proofs.GlyphsLaws.Walks.{fails_on}
use Rattle.subsetter_instance.specs.declared.glyphs.components.Component.{Component}
use Rattle.subsetter_sfnt.specs.declared.fields.hmtx.LongHorMetric.{LongHorMetric}
use Rattle.subsetter_instance.specs.Glyphs.Components.{offset_x, offset_xs, offset_y, offset_ys}
use Rattle.subsetter_instance.specs.Source.{Source, metric}
use Rattle.subsetter_instance.specs.Glyphs.Unfolded.{Child, Composite, Unfolded, composite, counted_description, is_composite, joined, no_points, unfolded, unfolded_composite, unfolded_simple, with_component, with_phantoms}

-- ---- offsets

-- each component is a contour of its own, and so is each phantom point
range_ends : (a n m : ℕ) → a + n ≡ m → AreEnds a (range_with_len a n ++ m ∷ (m + 1) ∷ (m + 2) ∷ (m + 3) ∷ []) (m + 4)
range_ends a zero m e = (omega arith, omega arith, (omega arith, omega arith, (omega arith, omega arith, (omega arith, omega arith, omega arith))))
range_ends a (suc n) m e = (omega arith, omega arith, range_ends (a + 1) n m (omega arith))

pub offsets_outline : (cs : List Component) → length cs + 4 < 2 ^ 32 → IsOutline (with_phantoms (range_with_len 0 (length cs)) (offset_xs cs) (offset_ys cs))
offsets_outline cs h =
    let n = length-map cs (λ c. offset_x c.arguments) in
    let x : length (offset_xs cs ++ pos 0 ∷ pos 0 ∷ pos 0 ∷ pos 0 ∷ []) ≡ length cs + 4 = length-append (offset_xs cs) _ ∙ ap (λ k. k + 4) n in
    let y : length (offset_ys cs ++ pos 0 ∷ pos 0 ∷ pos 0 ∷ pos 0 ∷ []) ≡ length cs + 4 = length-append (offset_ys cs) _ ∙ ap (λ k. k + 4) (length-map cs (λ c. offset_y c.arguments)) in
    (y ∙ sym x, omega arith, rw (x, n) (range_ends 0 (length cs) (length cs) (omega arith)))

left_by : (b : Bool) (n steps left : ℕ) → nat_le n steps ≡ b → Ok left ≡ (if b then Ok (steps - n) else Err OverflowError) → left + n ≡ steps
left_by true n steps left b e =
    let le : n ≤ steps = leb-true n steps b in
    let same : left ≡ steps - n = cc in
    omega arith
left_by false n steps left b e = absurd cc

-- the steps that are left after n
pub steps_left : (n steps left : ℕ) → Ok left ≡ spent n steps → left + n ≡ steps
steps_left n steps left e = left_by (nat_le n steps) n steps left refl e

-- ---- one component after the other

pub component_next : (cs : List Component) (k : ℕ) (c : Component) → k < length cs → c ≡ get_or cs k c → drop k cs ≡ c ∷ drop (k + 1) cs
component_next cs k c h e = drop_more cs k c h ∙ ap (λ d. d ∷ drop (k + 1) cs) (sym e)

pub joined_step : (child : Child) (cs rest : List Component) (c : Component) (k : ℕ) (xs ys : List ℤ) (before all : Unfolded) (left steps last : ℕ) (part : Unfolded)
    → cs ≡ c ∷ rest → child left c.glyph ≡ Ok (part, steps) → with_component c (slice_index_or xs k (pos 0)) (slice_index_or ys k (pos 0)) before part steps ≡ Ok (all, last)
    → joined child cs k xs ys (before, left) ≡ joined child rest (k + 1) xs ys (all, last)
unfolding joined
joined_step child cs rest c k xs ys before all left steps last part e h g = rw (e, h, g) refl

pub joined_end : (child : Child) (cs : List Component) (k : ℕ) (xs ys : List ℤ) (before : Unfolded × ℕ) → cs ≡ [] → joined child cs k xs ys before ≡ Ok before
unfolding joined
joined_end child cs k xs ys before e = rw e refl

first_of : (child : Child) (cs rest : List Component) (c : Component) (k : ℕ) (xs ys : List ℤ) (before : Unfolded) (left : ℕ) → cs ≡ c ∷ rest
    → joined child cs k xs ys (before, left) ≡ (child left c.glyph >>= λ part. with_component c (slice_index_or xs k (pos 0)) (slice_index_or ys k (pos 0)) before part.0 part.1 >>= λ all. joined child rest (k + 1) xs ys all)
unfolding joined
first_of child cs rest c k xs ys before left e = rw e refl

-- what a component fails with all fail with
pub component_fails : (child : Child) (cs rest : List Component) (c : Component) (k : ℕ) (xs ys : List ℤ) (before : Unfolded) (left : ℕ) (whole : Result (Unfolded × ℕ) Error) (e : Error)
    → cs ≡ c ∷ rest → joined child cs k xs ys (before, left) ≡ whole → Fails e (child left c.glyph) → Fails e whole
component_fails child cs rest c k xs ys before left whole e s h f =
    fails_on (child left c.glyph) (λ part. with_component c (slice_index_or xs k (pos 0)) (slice_index_or ys k (pos 0)) before part.0 part.1 >>= λ all. joined child rest (k + 1) xs ys all) whole e (sym (first_of child cs rest c k xs ys before left s) ∙ h) f

-- and what its placing fails with
pub placing_fails : (child : Child) (cs rest : List Component) (c : Component) (k : ℕ) (xs ys : List ℤ) (before part : Unfolded) (left steps : ℕ) (whole : Result (Unfolded × ℕ) Error) (e : Error)
    → cs ≡ c ∷ rest → joined child cs k xs ys (before, left) ≡ whole → child left c.glyph ≡ Ok (part, steps) → Fails e (with_component c (slice_index_or xs k (pos 0)) (slice_index_or ys k (pos 0)) before part steps) → Fails e whole
placing_fails child cs rest c k xs ys before part left steps whole e s h g f =
    fails_on (with_component c (slice_index_or xs k (pos 0)) (slice_index_or ys k (pos 0)) before part steps) (λ all. joined child rest (k + 1) xs ys all) whole e (sym (ap (λ r. r >>= λ p. with_component c (slice_index_or xs k (pos 0)) (slice_index_or ys k (pos 0)) before p.0 p.1 >>= λ all. joined child rest (k + 1) xs ys all) g) ∙ sym (first_of child cs rest c k xs ys before left s) ∙ h) f

-- ---- a composite glyph

-- a glyph that is met, of a depth above 0
met : (d : ℕ) (s : Source) (at : List ℤ) (steps g : ℕ) (bytes : List ℕ) (m : LongHorMetric) → counted_description s g ≡ Some bytes → metric s g ≡ Some m → is_composite bytes ≡ true
    → unfolded (suc d) s at steps g ≡ unfolded_composite (unfolded d s at) s at steps g bytes m
unfolding unfolded
met d s at steps g bytes m b h c = rw (b, h, c) refl

pub as_composite : (depth : ℕ) (s : Source) (at : List ℤ) (steps g : ℕ) (bytes : List ℕ) (m : LongHorMetric) → 0 < depth → counted_description s g ≡ Some bytes → metric s g ≡ Some m → is_composite bytes ≡ true
    → unfolded depth s at steps g ≡ (composite s at steps g bytes m >>= λ c. joined (unfolded (depth - 1) s at) c.components 0 c.xs c.ys (no_points c.left c.right, c.steps))
unfolding unfolded_composite
as_composite depth s at steps g bytes m above b h c =
    let one : depth ≡ suc (depth - 1) = omega arith in
    ap (λ n. unfolded n s at steps g) one ∙ met (depth - 1) s at steps g bytes m b h c

pub composite_begins : (depth : ℕ) (s : Source) (at : List ℤ) (steps g : ℕ) (bytes : List ℕ) (m : LongHorMetric) (c : Composite) → 0 < depth → counted_description s g ≡ Some bytes → metric s g ≡ Some m → is_composite bytes ≡ true → composite s at steps g bytes m ≡ Ok c
    → joined (unfolded (depth - 1) s at) c.components 0 c.xs c.ys (no_points c.left c.right, c.steps) ≡ unfolded depth s at steps g
composite_begins depth s at steps g bytes m c above b h k e = sym (as_composite depth s at steps g bytes m above b h k ∙ ap (λ r. r >>= λ d. joined (unfolded (depth - 1) s at) d.components 0 d.xs d.ys (no_points d.left d.right, d.steps)) e)

pub composite_fails : (depth : ℕ) (s : Source) (at : List ℤ) (steps g : ℕ) (bytes : List ℕ) (m : LongHorMetric) (e : Error) → 0 < depth → counted_description s g ≡ Some bytes → metric s g ≡ Some m → is_composite bytes ≡ true → Fails e (composite s at steps g bytes m)
    → Fails e (unfolded depth s at steps g)
composite_fails depth s at steps g bytes m e above b h k f =
    fails_on (composite s at steps g bytes m) (λ d. joined (unfolded (depth - 1) s at) d.components 0 d.xs d.ys (no_points d.left d.right, d.steps)) (unfolded depth s at steps g) e (sym (as_composite depth s at steps g bytes m above b h k)) f

-- ---- a simple glyph

met_simple : (d : ℕ) (s : Source) (at : List ℤ) (steps g : ℕ) (bytes : List ℕ) (m : LongHorMetric) → counted_description s g ≡ Some bytes → metric s g ≡ Some m → is_composite bytes ≡ false
    → unfolded (suc d) s at steps g ≡ unfolded_simple s at steps g bytes m
unfolding unfolded
met_simple d s at steps g bytes m b h c = rw (b, h, c) refl

pub as_simple : (depth : ℕ) (s : Source) (at : List ℤ) (steps g : ℕ) (bytes : List ℕ) (m : LongHorMetric) → 0 < depth → counted_description s g ≡ Some bytes → metric s g ≡ Some m → is_composite bytes ≡ false
    → unfolded depth s at steps g ≡ unfolded_simple s at steps g bytes m
as_simple depth s at steps g bytes m above b h c =
    let one : depth ≡ suc (depth - 1) = omega arith in
    ap (λ n. unfolded n s at steps g) one ∙ met_simple (depth - 1) s at steps g bytes m b h c

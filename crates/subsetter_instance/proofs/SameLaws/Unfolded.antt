-- A glyph that is unfolded in two numbers of steps comes to the same.
use Rattle.std.proofs.Common.{◌≡◌, ℕ, zero, suc, Bool, true, false, cond, List, Ok, ℤ, sym, ap, ◌∙◌}
use Rattle.std.specs.Option.{ok_or}
use Rattle.subsetter_base.specs.Bytes.{◌>>=◌}
use Rattle.subsetter_base.specs.declared.error.Error.TheVariants.{MalformedFont}
use Rattle.subsetter_base.proofs.Results.{bind_ok}
use Rattle.subsetter_sfnt.specs.declared.fields.hmtx.LongHorMetric.{LongHorMetric}
use Rattle.subsetter_instance.specs.Source.{Source, metric}
use Rattle.subsetter_instance.specs.Glyphs.Unfolded.{Unfolded, unfolded_simple, unfolded_composite, is_composite, counted_description, unfolded}
use Rattle.subsetter_instance.proofs.SameLaws.Simple.{MoveAlike, one_answer, simple_alike}
use Rattle.subsetter_instance.proofs.SameLaws.Composite.{IsAlike, composite_alike}

-- two sources have the same descriptions and metrics
abbrev pub ReadAlike : Source → Source → Type 0
ReadAlike s z = (g : ℕ) → (counted_description z g ≡ counted_description s g) × (metric z g ≡ metric s g)

-- a glyph
pub unfolded_alike : (depth : ℕ) (s z : Source) (at : List ℤ) → ReadAlike s z → MoveAlike s z at → (m n g : ℕ) (u v : Unfolded × ℕ) → unfolded depth s at m g ≡ Ok u → unfolded depth z at n g ≡ Ok v → u.0 ≡ v.0
unfolding unfolded
unfolded_alike zero s z at reads moves m n g u v e f = absurd cc
unfolded_alike (suc depth) s z at reads moves m n g u v e f =
    let go = λ (steps : ℕ) (bytes : List ℕ) (k : LongHorMetric). cond (is_composite bytes) (unfolded_composite (unfolded depth s at) s at steps g bytes k) (unfolded_simple s at steps g bytes k) in
    let p = bind_ok (ok_or (counted_description s g) MalformedFont) (λ bytes. ok_or (metric s g) MalformedFont >>= go m bytes) u e in
    let come = λ (bytes : List ℕ) (k : LongHorMetric). cond (is_composite bytes) (unfolded_composite (unfolded depth z at) z at n g bytes k) (unfolded_simple z at n g bytes k) in
    let q = bind_ok (ok_or (counted_description z g) MalformedFont) (λ bytes. ok_or (metric z g) MalformedFont >>= come bytes) v f in
    let p2 = bind_ok (ok_or (metric s g) MalformedFont) (go m p.0) u p.2 in
    let q2 = bind_ok (ok_or (metric z g) MalformedFont) (come q.0) v q.2 in
    let bytes : q.0 ≡ p.0 = one_answer (ok_or (counted_description z g) MalformedFont) q.0 p.0 q.1 (ap (λ o. ok_or o MalformedFont) (reads g).0 ∙ p.1) in
    let metrics : q2.0 ≡ p2.0 = one_answer (ok_or (metric z g) MalformedFont) q2.0 p2.0 q2.1 (ap (λ o. ok_or o MalformedFont) (reads g).1 ∙ p2.1) in
    by (unfolded_alike depth s z at reads moves) p.0 p2.0 (is_composite p.0) p2.2 (ap (λ b. come b p2.0) (sym bytes) ∙ ap (λ k. come q.0 k) (sym metrics) ∙ q2.2)
  where
    by : IsAlike (unfolded depth s at) (unfolded depth z at) → (bytes : List ℕ) (k : LongHorMetric) (b : Bool) → cond b (unfolded_composite (unfolded depth s at) s at m g bytes k) (unfolded_simple s at m g bytes k) ≡ Ok u → cond b (unfolded_composite (unfolded depth z at) z at n g bytes k) (unfolded_simple z at n g bytes k) ≡ Ok v → u.0 ≡ v.0
    by alike bytes k true x y = composite_alike (unfolded depth s at) (unfolded depth z at) alike s z at moves m n g bytes k u v x y
    by alike bytes k false x y = simple_alike s z at moves m n g bytes k u v x y

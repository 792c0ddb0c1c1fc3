use Rattle.std.proofs.Common.{◌≡◌, ◌<◌, ℕ, ◌+◌, ℤ, List, [], Option, Some, None, Result, length, get_or, drop, sym, ap, ◌∙◌, arith}
use Rattle.std.specs.Prelude.{IfSome}
use Rattle.std.proofs.lemmas.List.{drop_all, drop_more, get_or-map, length-map}
use Rattle.std.proofs.lemmas.Result.{err_from_is_err_and}
use Rattle.subsetter_base.specs.declared.error.Error.{Error}
use Rattle.subsetter_base.proofs.Results.{with_front}
use Rattle.subsetter_variation.specs.Items.Advances.{advance_or_fault}
use Rattle.subsetter_instance.specs.Glyphs.Drawn.{Drawn}
use Rattle.subsetter_instance.specs.Glyphs.Known.{AreKnown, IsKnown}
use Rattle.subsetter_instance.specs.Plain.{drawn_all}
use Rattle.subsetter_instance.proofs.GlyphsLaws.Glyphs.{glyphs_end, glyphs_fail, glyphs_step}
use Rattle.subsetter_instance.proofs.glyphs.drawn.draw_each.Goals as goal

known_is : (hvar : Option (List ℕ)) (at : List ℤ) (glyphs : List ℕ) (known : List (Result ℤ Error)) (k : ℕ) (o : Option (Result ℤ Error)) → AreKnown hvar at glyphs known → IfSome o (λ d. (k < length known) × (get_or known k d ≡ d)) → IsKnown hvar at (get_or glyphs k 0) o
known_is None at glyphs known k o a h = tt
known_is (Some hvar) at glyphs known k None a h = tt
known_is (Some hvar) at glyphs known k (Some d) a h =
    let n : length known ≡ length glyphs = ap length a ∙ length-map glyphs (advance_or_fault hvar at) in
    sym h.1 ∙ ap (λ l. get_or l k d) a ∙ get_or-map (advance_or_fault hvar at) glyphs k 0 d (omega (arith, n, h.0))

pub drawn_if-requires-clause-known : goal.drawn_if-requires-clause-known
drawn_if-requires-clause-known c = known_is c.args.source.now.hvar c.args.at.now c.args.glyphs.now c.args.known.now c.loop-place.place c.known_at.result c.requires.known c.known_at.ensures

pub loop-place-preserved : goal.loop-place-preserved
loop-place-preserved c =
    let gs = c.args.glyphs.now in
    let place = c.loop-place.place in
    let e = drop_more gs place 0 c.loop-place-test.true in
    record {
      value =
          ap (λ (l : List Drawn). with_front l (drawn_all c.args.source.now c.args.at.now c.args.steps (drop (place + 1) gs))) c.in_ok-push.ensures.items
          ∙ sym (glyphs_step c.args.source.now c.args.at.now c.args.steps c.loop-place.all.items (get_or gs place 0) (drop place gs) (drop (place + 1) gs) c.in_ok-drawn.drawn e c.in_ok-drawn.ensures.value)
          ∙ c.loop-place.invariant.value;
      kept = c.in_ok-drawn.ensures.kept;
    }

pub returns-in_err-drawn : goal.returns-in_err-drawn
returns-in_err-drawn c =
    let gs = c.args.glyphs.now in
    let place = c.loop-place.place in
    let e = drop_more gs place 0 c.loop-place-test.true in
    let p = err_from_is_err_and c.from_residual-in_err-drawn.result c.from_residual-in_err-drawn.ensures.1 in
    rw (p.1, p.2) (glyphs_fail c.args.source.now c.args.at.now c.args.steps c.loop-place.all.items (get_or gs place 0) (drop place gs) (drop (place + 1) gs) _ _ e c.loop-place.invariant.value c.in_err-drawn.ensures.value)

pub returns : goal.returns
returns c =
    let none : drop c.loop-place.place c.args.glyphs.now ≡ [] = drop_all c.loop-place.place c.args.glyphs.now (omega arith) in
    sym c.loop-place.invariant.value ∙ glyphs_end c.args.source.now c.args.at.now c.args.steps c.loop-place.all.items (drop c.loop-place.place c.args.glyphs.now) none

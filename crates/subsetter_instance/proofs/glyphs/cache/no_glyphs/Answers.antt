use Rattle.std.proofs.Common.{◌≡◌, ◌++◌, ◌∷◌, [], ℤ, List, Option, None, length, subst, sym, ap, arith}
use Rattle.std.specs.Prelude.{IfSome}
use Rattle.std.proofs.lemmas.List.{length_push}
use Rattle.std.proofs.lemmas.List.Elements.{All-append, All-cons, All-nil}
use Rattle.subsetter_instance.specs.Source.{Source}
use Rattle.subsetter_instance.specs.Glyphs.Cache.{AreKept, IsKept, KeptGlyph}
use Rattle.subsetter_instance.proofs.glyphs.cache.no_glyphs.Goals as goal

no_more : (s : Source) (at : List ℤ) (ps new : List (Option KeptGlyph)) → new ≡ ps ++ None ∷ [] → AreKept s at ps → AreKept s at new
no_more s at ps new same h =
    let q : Option KeptGlyph → Type 0 = λ p. IfSome p (IsKept s at) in
    subst (AreKept s at) (sym same) (All-append q ps (None ∷ []) h (All-cons q None [] tt (All-nil q)))

pub loop-place-preserved : goal.loop-place-preserved
loop-place-preserved c =
    let ps = c.loop-place.places.items in
    record {
      count = omega (arith, ap length c.in_ok-push.ensures.items, length_push ps None, c.loop-place.invariant.count);
      none = λ s at. no_more s at ps _ c.in_ok-push.ensures.items (c.loop-place.invariant.none s at);
    }

pub returns : goal.returns
returns c = record {
  count = omega (arith, c.loop-place.invariant.count, c.loop-place-test.false, c.loop-place.auto.place-end);
  none = c.loop-place.invariant.none;
}

pub loop-place-init : goal.loop-place-init
loop-place-init c = record {
  count = ap length c.in_ok-places.ensures.items;
  none = λ s at. subst (AreKept s at) (sym c.in_ok-places.ensures.items) (All-nil (λ p. IfSome p (IsKept s at)));
}

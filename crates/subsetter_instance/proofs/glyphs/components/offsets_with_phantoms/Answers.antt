use Rattle.std.proofs.Common.{◌≡◌, ◌∙◌, ◌++◌, ◌∷◌, ◌+◌, ◌<◌, ◌≤◌, [], ℕ, ℤ, List, FitsSigned, w16, ap, sym, length, take, get_or, map}
use Rattle.std.proofs.lemmas.Int.{to_z-of_z}
use Rattle.std.proofs.lemmas.List.{map_more, take_all}
use Rattle.subsetter_instance.specs.declared.glyphs.components.Component.{Component}
use Rattle.subsetter_instance.specs.Glyphs.Components.{offset_x, offset_y}
use Rattle.subsetter_instance.proofs.glyphs.components.offsets_with_phantoms.Goals as goal

-- one component more
next : (f : Component → ℤ) (cs : List Component) (i : ℕ) (d : Component) (out new : List ℤ) (z w : ℤ) → i < length cs → out ≡ map f (take i cs) → z ≡ f (get_or cs i d) → w ≡ z → new ≡ out ++ w ∷ [] → new ≡ map f (take (i + 1) cs)
next f cs i d out new z w less was is same items =
    items ∙ ap (λ l. l ++ w ∷ []) was ∙ ap (λ y. map f (take i cs) ++ y ∷ []) (same ∙ is) ∙ sym (map_more f cs i d less)

-- all of them, and the points after them
all : (f : Component → ℤ) (cs : List Component) (i : ℕ) (out new after : List ℤ) → length cs ≤ i → out ≡ map f (take i cs) → new ≡ out ++ after → new ≡ map f cs ++ after
all f cs i out new after end was items =
    items ∙ ap (λ l. l ++ after) (was ∙ ap (map f) (take_all i cs end))

pub loop-component-preserved : goal.loop-component-preserved
loop-component-preserved c =
    let cs = c.args.components.now in
    let i = c.loop-component.component-index in
    let fx : FitsSigned w16 c.offset_x.result = record { sfits = c.offset_x.type_inv } in
    let fy : FitsSigned w16 c.offset_y.result = record { sfits = c.offset_y.type_inv } in
    record {
      xs = next (λ k. offset_x k.arguments) cs i _ _ _ _ _ c.loop-component-test.true c.loop-component.invariant.xs c.offset_x.ensures (to_z-of_z w16 c.offset_x.result fx) c.in_ok-push.ensures.items;
      ys = next (λ k. offset_y k.arguments) cs i _ _ _ _ _ c.loop-component-test.true c.loop-component.invariant.ys c.offset_y.ensures (to_z-of_z w16 c.offset_y.result fy) c.in_ok-push-2.ensures.items;
    }

pub returns : goal.returns
returns c =
    let cs = c.args.components.now in
    let i = c.loop-component.component-index in
    record {
      xs = all (λ k. offset_x k.arguments) cs i _ _ _ c.loop-component-test.false c.loop-component.invariant.xs c.in_ok-extend_from_slice.ensures.items;
      ys = all (λ k. offset_y k.arguments) cs i _ _ _ c.loop-component-test.false c.loop-component.invariant.ys c.in_ok-extend_from_slice-2.ensures.items;
    }

use Rattle.std.proofs.Common.{◌≡◌, ℕ, List, [], ◌∷◌, map, ℤ, Result, length, refl, ap, subst, ◌∙◌}
use Rattle.std.specs.Prelude.{IfOk}
use Rattle.subsetter_base.specs.declared.error.Error.{Error}
use Rattle.subsetter_variation.specs.Items.Advances.{delta_by, origin_delta, origin_index, origin_or_fault, store_of}
use Rattle.subsetter_variation.proofs.items.advances.origin_deltas.Goals as goal

each : (vvar : List ℕ) (at : List ℤ) (glyphs : List ℕ) → map (delta_by (store_of vvar (length at)) at) (map (origin_index vvar) glyphs) ≡ map (origin_or_fault vvar at) glyphs
unfolding origin_delta
each vvar at [] = refl
each vvar at (g ∷ glyphs) = ap (λ rest. origin_or_fault vvar at g ∷ rest) (each vvar at glyphs)

pub returns : goal.returns
returns c =
    let items = c.deref.ensures.value ∙ c.in_ok-items.ensures in
    let same = ap (map (delta_by (store_of c.args.vvar.now (length c.args.at.now)) c.args.at.now)) items ∙ each c.args.vvar.now c.args.at.now c.args.glyphs.now in
    subst (λ (l : List (Result ℤ Error)). IfOk c.deltas_by.result (λ v. v.items ≡ l)) same c.deltas_by.ensures

use Rattle.std.proofs.Common.{◌≡◌, ℕ, List, [], ◌∷◌, map, ℤ, Result, length, refl, ap, subst, ◌∙◌}
use Rattle.std.specs.Prelude.{IfOk}
use Rattle.subsetter_base.specs.declared.error.Error.{Error}
use Rattle.subsetter_variation.specs.Items.Advances.{advance_delta, advance_index, advance_or_fault, delta_by, store_of}
use Rattle.subsetter_variation.proofs.items.advances.advance_deltas.Goals as goal

each : (hvar : List ℕ) (at : List ℤ) (glyphs : List ℕ) → map (delta_by (store_of hvar (length at)) at) (map (advance_index hvar) glyphs) ≡ map (advance_or_fault hvar at) glyphs
unfolding advance_delta
each hvar at [] = refl
each hvar at (g ∷ glyphs) = ap (λ rest. advance_or_fault hvar at g ∷ rest) (each hvar at glyphs)

pub returns : goal.returns
returns c =
    let items = c.deref.ensures.value ∙ c.in_ok-items.ensures in
    let same = ap (map (delta_by (store_of c.args.hvar.now (length c.args.at.now)) c.args.at.now)) items ∙ each c.args.hvar.now c.args.at.now c.args.glyphs.now in
    subst (λ (l : List (Result ℤ Error)). IfOk c.deltas_by.result (λ v. v.items ≡ l)) same c.deltas_by.ensures

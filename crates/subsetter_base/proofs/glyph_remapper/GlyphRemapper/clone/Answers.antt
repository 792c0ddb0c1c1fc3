use Rattle.std.proofs.Common.{◌≡◌, ◌∙◌}
use Rattle.std.proofs.lemmas.List.Elements.{same_from_all_zip}
use Rattle.subsetter_base.proofs.glyph_remapper.GlyphRemapper.clone.Goals as goal

pub invariant_of-result : goal.invariant_of-result
invariant_of-result c =
    let pages : c.in_ok-clone.field-0.items ≡ c.self.inside.pages.items = same_from_all_zip _ _ _ c.in_ok-clone.ensures.cases.0 (λ x y h. h) in
    let entries : c.in_ok-clone-2.field-0.items ≡ c.self.inside.entries.items = same_from_all_zip _ _ _ c.in_ok-clone-2.ensures.cases.0 (λ x y h. h) in
    let list : c.in_ok-clone-3.field-0.items ≡ c.self.inside.backward.items = same_from_all_zip _ _ _ c.in_ok-clone-3.ensures.cases.0 (λ x y h. h) in
    rw (pages, entries, list) c.self.invariant

pub returns-clause-ok : goal.returns-clause-ok
returns-clause-ok c = same_from_all_zip _ _ _ c.in_ok-clone-3.ensures.cases.0 (λ x y h. h) ∙ c.self.view_is

-- Components under new numbers.
use Rattle.std.proofs.Common.{ℕ, Bool, List, [], ◌∷◌}
use Rattle.std.specs.Prelude.{map}
use Rattle.subsetter.specs.Glyf.Parts.{Component, Parts, Empty, Simple, Composite}
use Rattle.subsetter.specs.Glyf.Plain.{renumbered_component, renumbered}
use Rattle.subsetter_base.specs.Indexes.{new_index}
use Rattle.subsetter.proofs.GlyfLaws.ReachingLaws.Unfold.{EachGlyph, padded_parts, components_of}

-- what holds of the new numbers of components holds of them under new numbers
each_renumbered : (Q : ℕ → Type 0) (order : List ℕ) (cs : List Component) → EachGlyph Q (map (renumbered_component order) cs) → EachGlyph (λ g. Q (new_index order g)) cs
each_renumbered Q order [] h = tt
each_renumbered Q order (c ∷ cs) h = (h.0, each_renumbered Q order cs h.1)

each_new : (Q : ℕ → Type 0) (order : List ℕ) (cs : List Component) → EachGlyph (λ g. Q (new_index order g)) cs → EachGlyph Q (map (renumbered_component order) cs)
each_new Q order [] h = tt
each_new Q order (c ∷ cs) h = (h.0, each_new Q order cs h.1)

pub from_copy : (Q : ℕ → Type 0) (long : Bool) (order : List ℕ) (p : Parts) → EachGlyph Q (components_of (padded_parts long (renumbered order p))) → EachGlyph (λ g. Q (new_index order g)) (components_of p)
from_copy Q long order Empty h = tt
from_copy Q long order (Simple b) h = tt
from_copy Q long order (Composite head chain) h = each_renumbered Q order chain.components h

pub to_copy : (Q : ℕ → Type 0) (long : Bool) (order : List ℕ) (p : Parts) → EachGlyph (λ g. Q (new_index order g)) (components_of p) → EachGlyph Q (components_of (padded_parts long (renumbered order p)))
to_copy Q long order Empty h = tt
to_copy Q long order (Simple b) h = tt
to_copy Q long order (Composite head chain) h = each_new Q order chain.components h

pub each_both : (P Q : ℕ → Type 0) (cs : List Component) → EachGlyph P cs → EachGlyph Q cs → EachGlyph (λ g. P g × Q g) cs
each_both P Q [] h k = tt
each_both P Q (c ∷ cs) h k = ((h.0, k.0), each_both P Q cs h.1 k.1)

-- What is said of advances that are handed over, in other words.
use Rattle.std.proofs.Common.{◌≡◌, ℕ, List, sym, ap, subst, ◌∙◌, Result, Ok, Err}
use Rattle.subsetter_base.specs.Gives.{Gives}
use Rattle.subsetter_base.specs.declared.error.Error.{Error}
use Rattle.font_advances.specs.Advances.{Advances, advances_seen}
use Rattle.font_advances.specs.declared.call.GlyphAdvances.{GlyphAdvances as Given}
use Rattle.subsetter_c.specs.Advances.{AreAdvancesHanded, AreAdvancesOf, Buffers, begun, buffers, whole, short, refused}
use Rattle.subsetter_c.specs.Answers.Handed.{begun_with}

-- two lists put into their buffers one by one
pub both_begun : (a : Advances) (before : Buffers) (ws hs w h : List ℕ) (u : ℕ) → ws ≡ a.widths → hs ≡ a.heights → w ≡ begun_with ws before.widths → h ≡ begun_with hs before.heights → u ≡ a.units_per_em → buffers w h u ≡ begun a before
both_begun a before ws hs w h u pw ph bw bh pu =
    let widths : w ≡ begun_with a.widths before.widths = bw ∙ ap (λ (l : List ℕ). begun_with l before.widths) pw in
    let heights : h ≡ begun_with a.heights before.heights = bh ∙ ap (λ (l : List ℕ). begun_with l before.heights) ph in
    ap (buffers w h) pu ∙ ap (λ (l : List ℕ). buffers l h a.units_per_em) widths ∙ ap (λ (l : List ℕ). buffers (begun_with a.widths before.widths) l a.units_per_em) heights

-- an answer is handed over: then what the reading gives
pub read_as : (answer : Result Given Error) (reading : Result Advances Error) (before after : Buffers) (status : ℕ) → Gives advances_seen answer reading → AreAdvancesHanded (λ a. (g : Given) × (answer ≡ Ok g) × (a ≡ advances_seen g)) (λ e. answer ≡ Err e) before after status → AreAdvancesOf reading before after status
read_as answer reading before after status gives (whole a is p s) = whole a (subst (λ (r : Result Given Error). Gives advances_seen r reading) is.1 gives ∙ ap Ok (sym is.2)) p s
read_as answer reading before after status gives (short a is why p s) = short a (subst (λ (r : Result Given Error). Gives advances_seen r reading) is.1 gives ∙ ap Ok (sym is.2)) why p s
read_as answer reading before after status gives (refused e is p s) = refused e (subst (λ (r : Result Given Error). Gives advances_seen r reading) is gives) p s

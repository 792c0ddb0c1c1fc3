-- A glyph that was unfolded is kept.
use Rattle.std.proofs.Common.{◌≡◌, ◌≤◌, ◌+◌, ◌-◌, ◌<◌, ℕ, zero, suc, List, ℤ, Some, Option, Ok, false, arith, sym, ap, ◌∙◌}
use Rattle.std.specs.Prelude.{IfSome, slice_set}
use Rattle.std.proofs.lemmas.List.Elements.{All-set}
use Rattle.subsetter_instance.specs.Glyphs.Cache.{AreKept, IsKept, KeptGlyph}
use Rattle.subsetter_instance.specs.Source.{Source}
use Rattle.subsetter_instance.specs.Glyphs.Unfolded.{IsInReach, Unfolded, counted_description, is_composite, unfolded}
use Rattle.subsetter_instance.proofs.SameLaws.Costs.{unfolded_cost}

abbrev IsSimple : Source → ℕ → Type 0
IsSimple s g = (bytes : List ℕ) → counted_description s g ≡ Some bytes → is_composite bytes ≡ false

cost : (depth : ℕ) (s : Source) (at : List ℤ) (m g : ℕ) (u : Unfolded) (r : ℕ) → IsSimple s g → unfolded depth s at m g ≡ Ok (u, r)
    → (r ≤ m) × ((d n : ℕ) → unfolded (suc d) s at ((m - r) + n) g ≡ Ok (u, n))
unfolding unfolded
cost zero s at m g u r plain e = absurd cc
cost (suc depth) s at m g u r plain e = unfolded_cost depth s at m g u r plain e

-- it takes steps
pub takes_steps : (depth : ℕ) (s : Source) (at : List ℤ) (m g : ℕ) (u : Unfolded) (r : ℕ) → IsSimple s g → unfolded depth s at m g ≡ Ok (u, r) → r ≤ m
takes_steps depth s at m g u r plain e = (cost depth s at m g u r plain e).0

-- and comes to the same
pub with_glyph : (depth : ℕ) (s : Source) (at : List ℤ) (m g : ℕ) (u : Unfolded) (r : ℕ) (places : List (Option KeptGlyph)) (i : ℕ) → IsSimple s g → unfolded depth s at m g ≡ Ok (u, r) → IsInReach u → AreKept s at places
    → AreKept s at (slice_set places i (Some (record { glyph = g; cost = m - r; outline = u })))
with_glyph depth s at m g u r places i plain e h kept = All-set (λ place. IfSome place (IsKept s at)) places i (Some (record { glyph = g; cost = m - r; outline = u })) (record { same = (cost depth s at m g u r plain e).1; reach = h }) kept

-- a glyph that is kept is what it unfolds to, where there are steps for it
pub found_is : (s : Source) (at : List ℤ) (k : KeptGlyph) (depth left g : ℕ) → IsKept s at k → 0 < depth → k.glyph ≡ g → k.cost ≤ left → unfolded depth s at left g ≡ Ok (k.outline, left - k.cost)
found_is s at k depth left g h deep same enough =
    let one : depth ≡ suc (depth - 1) = omega arith in
    let all : left ≡ k.cost + (left - k.cost) = omega (arith, enough) in
    ap (λ n. unfolded n s at left g) one ∙ ap (λ n. unfolded (suc (depth - 1)) s at n g) all ∙ ap (λ n. unfolded (suc (depth - 1)) s at (k.cost + (left - k.cost)) n) (sym same) ∙ h.same (depth - 1) (left - k.cost)

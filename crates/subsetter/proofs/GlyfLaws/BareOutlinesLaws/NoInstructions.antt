-- Outlines that lost their instructions have none, read afresh.
use Rattle.std.proofs.Common.{◌≡◌, ℕ, ◌+◌, ◌-◌, ◌*◌, ◌%◌, ◌^◌, ◌<◌, ◌≤◌, Bool, true, false, cond, List, [], ◌∷◌, ◌++◌, length, take, drop, suc, Option, Some, None, refl, sym, ap, subst, ◌∙◌, append_assoc, arith}
use Rattle.std.specs.Prelude.{map, replicate, not, bit_and, ◌==◌}
use Rattle.std.specs.Int.Bits.{and_zero_r}
use Rattle.std.specs.List.{AllByRecursion, flat_map}
use Rattle.std.specs.Option.{option_and_then, option_map, unwrap_or}
use Rattle.std.proofs.lemmas.Bool.{le-leb}
use Rattle.std.proofs.lemmas.List.{append-nil, length-append, length-replicate, length-take-le}
use Rattle.std.proofs.lemmas.Nat.{and_assoc}
use Rattle.subsetter_base.specs.Bytes.{be, number, from_offset}
use Rattle.subsetter_base.proofs.ByteLemmas.{range-left, range-take_drop, number-fits, number_at}
use Rattle.subsetter_base.proofs.Options.{just, just_is, some_not_none, bind_some}
use Rattle.subsetter.specs.Glyf.BareOutlines.Bare.{bare_at, bare_found, bare_simple, requested_component, bare}
use Rattle.subsetter.specs.Glyf.BareOutlines.Instructions.{IsBareSimple, AreBare}
use Rattle.subsetter.specs.Glyf.Parts.{Component, Parts, Empty, Simple, Composite, has_instructions, spelled, parts_bytes}
use Rattle.subsetter.specs.Glyf.Plain.{renumbered_component, renumbered}
use Rattle.subsetter_base.specs.Indexes.{new_index}
use Rattle.subsetter.specs.Glyf.Reaching.Unfold.{padded}
use Rattle.subsetter.proofs.GlyfLaws.Parts.{padded-append, padded-nil, bare_is, chain-even}
use Rattle.subsetter.proofs.GlyfLaws.ReachingLaws.Unfold.{CanBeWritten, can_empty, can_simple, can_composite, padded_parts}

-- ---- simple outlines

-- the padding is at most a byte
pub padding : (long : Bool) (l : List ℕ) → (pad : List ℕ) × (padded long l ≡ l ++ pad) × (length pad ≤ 1)
padding true l = ([], sym (append-nil l), omega arith)
padding false l = let n = (2 - length l % 2) % 2 in (replicate n 0, refl, omega (arith, length-replicate {A = ℕ} n 0))

-- a number in the front of a list
number-left : (a b : List ℕ) (at size : ℕ) → at + size ≤ length a → number (a ++ b) at size ≡ number a at size
number-left a b at size le =
    let part = range-take_drop a at size le in
    ap (option_map be) (range-left a b (take size (drop at a)) at size part ∙ sym part)

-- two bytes at the front
begins_with : (a b : ℕ) (rest : List ℕ) → number (a ∷ b ∷ rest) 0 2 ≡ Some (be (a ∷ b ∷ []))
begins_with a b rest = ap (option_map be) (range-take_drop (a ∷ b ∷ rest) 0 2 (omega arith))

-- instructions that are all there are found
finds : (bytes : List ℕ) (contours size : ℕ) → number bytes 0 2 ≡ Some contours → number bytes (10 + 2 * contours) 2 ≡ Some size → 10 + 2 * contours + 2 + size ≤ length bytes
    → bare_found bytes ≡ Some (take (10 + 2 * contours) bytes ++ 0 ∷ 0 ∷ drop (10 + 2 * contours + 2 + size) bytes)
finds bytes contours size e f le =
    let at = 10 + 2 * contours in
    let following : from_offset bytes (at + 2 + size) ≡ Some (drop (at + 2 + size) bytes) = ap (λ q. cond q (Some (drop (at + 2 + size) bytes)) None) (le-leb (at + 2 + size) (length bytes) le) in
    ap (λ (o : Option ℕ). option_and_then (λ n. bare_at bytes (10 + 2 * n)) o) e
    ∙ ap (λ (o : Option ℕ). option_and_then (λ n. option_and_then (λ l. just (take at bytes ++ 0 ∷ 0 ∷ l)) (from_offset bytes (at + 2 + n))) o) f
    ∙ ap (λ (o : Option (List ℕ)). option_and_then (λ l. just (take at bytes ++ 0 ∷ 0 ∷ l)) o) following

module _ (a b : ℕ) (rest pad : List ℕ) (one : length pad ≤ 1) where
  abbrev whole : List ℕ
  whole = a ∷ b ∷ rest

  -- where nothing is found, the outline is as it was, and nothing comes after its instructions
  none_following : bare_found whole ≡ None → IsBareSimple (whole ++ pad)
  none_following none contours size e f lt =
      let len = length-append whole pad in
      let first : number whole 0 2 ≡ Some contours = sym (number-left whole pad 0 2 (omega arith)) ∙ e in
      let second : number whole (10 + 2 * contours) 2 ≡ Some size = sym (number-left whole pad (10 + 2 * contours) 2 (omega (arith, len, lt, one))) ∙ f in
      absurd (some_not_none (bare_found whole) _ (finds whole contours size first second (omega (arith, len, lt, one))) none)

  -- else the length is 0
  none_left : (bytes : List ℕ) → bare_found whole ≡ Some bytes → IsBareSimple (bytes ++ pad)
  none_left bytes found contours size e f lt =
      let k = bind_some (number whole 0 2) (λ n. bare_at whole (10 + 2 * n)) bytes found in
      let at = 10 + 2 * k.0 in
      let l = bind_some (number whole at 2) (λ n. option_and_then (λ following. just (take at whole ++ 0 ∷ 0 ∷ following)) (from_offset whole (at + 2 + n))) bytes k.2 in
      let m = bind_some (from_offset whole (at + 2 + l.0)) (λ following. just (take at whole ++ 0 ∷ 0 ∷ following)) bytes l.2 in
      let is : take at whole ++ 0 ∷ 0 ∷ m.0 ≡ bytes = just_is (take at whole ++ 0 ∷ 0 ∷ m.0) bytes m.2 in
      let within : at + 2 ≤ length whole = number-fits whole at 2 l.0 l.1 in
      let wide : length (take at whole) ≡ at = length-take-le at whole (omega (arith, within)) in
      let long : at ≡ suc (suc (8 + 2 * k.0)) = omega arith in
      let more = take (8 + 2 * k.0) rest ++ 0 ∷ 0 ∷ m.0 in
      let begins : bytes ≡ a ∷ b ∷ more = sym is ∙ ap (λ (n : ℕ). take n whole ++ 0 ∷ 0 ∷ m.0) long in
      let first : number (bytes ++ pad) 0 2 ≡ Some (be (a ∷ b ∷ [])) = ap (λ (x : List ℕ). number (x ++ pad) 0 2) begins ∙ begins_with a b (more ++ pad) in
      let same : contours ≡ k.0 = just_is contours k.0 (sym e ∙ first ∙ sym (begins_with a b rest) ∙ k.1) in
      let split : bytes ++ pad ≡ take at whole ++ ((0 ∷ 0 ∷ []) ++ (m.0 ++ pad)) = ap (λ (x : List ℕ). x ++ pad) (sym is) ∙ append_assoc (take at whole) (0 ∷ 0 ∷ m.0) pad in
      let second : number (bytes ++ pad) at 2 ≡ Some 0 = number_at (bytes ++ pad) (take at whole) (0 ∷ 0 ∷ []) (m.0 ++ pad) at 2 0 split (sym wide) refl refl in
      just_is size 0 (sym f ∙ ap (λ (n : ℕ). number (bytes ++ pad) (10 + 2 * n) 2) same ∙ second)

  bare_found_has : IsBareSimple (bare_simple whole ++ pad)
  unfolding bare_simple
  bare_found_has = by (bare_found whole) refl
    where
      by : (o : Option (List ℕ)) → bare_found whole ≡ o → IsBareSimple (unwrap_or o whole ++ pad)
      by None e = none_following e
      by (Some bytes) e = none_left bytes e

bare_has : (long : Bool) (a b : ℕ) (rest : List ℕ) → IsBareSimple (padded long (bare_simple (a ∷ b ∷ rest)))
bare_has long a b rest =
    let p = padding long (bare_simple (a ∷ b ∷ rest)) in
    subst IsBareSimple (sym p.1) (bare_found_has a b rest p.0 p.2)

-- ---- composites

-- the flag is cleared
cleared : (flags : ℕ) → has_instructions (bit_and flags 0xFEFF) ≡ false
cleared flags = ap (λ (n : ℕ). not (n == 0)) (and_assoc 0x0100 flags 0xFEFF ∙ and_zero_r flags)

all_cleared : (order : List ℕ) (cs : List Component) → AllByRecursion (λ (c : Component). has_instructions c.flags ≡ false) (map (renumbered_component order) (map (requested_component false) cs))
all_cleared order [] = tt
all_cleared order (c ∷ cs) = (cleared c.flags, all_cleared order cs)

-- ---- outlines that are written

pub written_bare : (long : Bool) (order : List ℕ) (p : Parts) → ((g : ℕ) → new_index order g < 2 ^ 16) → CanBeWritten p
    → AreBare (padded long (parts_bytes (renumbered order (bare p)))) (padded_parts long (renumbered order (bare p)))
written_bare long order Empty small can_empty = tt
written_bare long order (Simple _) small (can_simple a b rest bytes e t) = subst (λ (l : List ℕ). IsBareSimple (padded long (bare_simple l))) (sym e) (bare_has long a b rest)
written_bare long order (Composite _ _) small (can_composite H chain size high good) =
    let cs = map (requested_component false) chain.components in
    let C = flat_map spelled (map (renumbered_component order) cs) in
    let even : length (H ++ C) % 2 ≡ 0 = omega (arith, length-append H C, size, chain-even order small [] cs (bare_is chain.tail chain.components good)) in
    record {
      flags = all_cleared order chain.components;
      whole = padded-append long (H ++ C) [] even ∙ ap (λ (l : List ℕ). (H ++ C) ++ l) (padded-nil long) ∙ append-nil (H ++ C);
    }

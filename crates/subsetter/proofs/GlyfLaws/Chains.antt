-- The components of a composite, read in full and written under new numbers.
use Rattle.std.proofs.Common.{◌≡◌, ℕ, zero, suc, ◌+◌, ◌-◌, ◌<◌, ◌≤◌, Bool, true, false, cond, leb, List, [], ◌∷◌, ◌++◌, length, get_or, take, drop, Option, Some, None, Ok, Err, refl, sym, ap, ◌∙◌, append_assoc, arith}
use Rattle.std.specs.Prelude.{map}
use Rattle.std.specs.Option.{option_and_then, option_map, ok_or}
use Rattle.std.specs.List.{flat_map}
use Rattle.std.proofs.lemmas.Bool.{le-leb, lt-leb, leb-true, le-ltb, lt-ltb}
use Rattle.std.proofs.lemmas.List.{append-nil, length-drop, length-take}
use Rattle.subsetter_base.specs.Bytes.{range, number}
use Rattle.subsetter_base.specs.declared.error.Error.TheVariants.{MalformedFont}
use Rattle.subsetter_base.proofs.Options.{bind_some}
use Rattle.subsetter.specs.Glyf.BareOutlines.Bare.{requested_component, requested_tail, requested_parts, bare_simple, requested_simple}
use Rattle.subsetter.specs.Glyf.Parts.{Component, Chain, Parts, Composite, Simple, rest_size, has_more, has_instructions, component_at, with_component, last_component, chain_at, composite_parts, outline_parts, spelled, parts_bytes}
use Rattle.subsetter.specs.Glyf.Reaching.Closure.{first_byte_in}
use Rattle.subsetter.specs.Glyf.Plain.{renumbered_component, renumbered_chain, renumbered, rewritten_composite, rewritten}
use Rattle.subsetter_base.specs.Gives.{following}

-- a component that is whole
pub record IsComponent (bytes : List ℕ) (c : Component) : Type 0 where
  pub flags_is : number bytes 0 2 ≡ Some c.flags
  pub glyph_is : number bytes 2 2 ≡ Some c.glyph
  pub rest_is : range bytes 4 (rest_size c.flags) ≡ Some c.rest
  pub within : 4 + rest_size c.flags ≤ length bytes
  pub size : length c.rest ≡ rest_size c.flags

range_is : (bytes : List ℕ) (at size : ℕ) (part : List ℕ) → range bytes at size ≡ Some part → (at + size ≤ length bytes) × (length part ≡ size)
range_is bytes at size part h = by (leb (at + size) (length bytes)) refl h
  where
    by : (b : Bool) → leb (at + size) (length bytes) ≡ b → cond b (Some (take size (drop at bytes))) None ≡ Some part → (at + size ≤ length bytes) × (length part ≡ size)
    by true t k =
        let le : at + size ≤ length bytes = leb-true _ _ t in
        let same : take size (drop at bytes) ≡ part = cc in
        (le, omega (arith, ap length same, length-take size (drop at bytes), length-drop at bytes))
    by false t k = absurd cc

abbrev pub made : ℕ → ℕ → List ℕ → Option Component
made flags glyph rest = Some (record { flags = flags; glyph = glyph; rest = rest })

pub is_component : (bytes : List ℕ) (c : Component) → component_at bytes ≡ Some c → IsComponent bytes c
is_component bytes c h =
    let a = bind_some (number bytes 0 2) (λ flags. option_and_then (λ glyph. option_and_then (λ rest. made flags glyph rest) (range bytes 4 (rest_size flags))) (number bytes 2 2)) c h in
    let b = bind_some (number bytes 2 2) (λ glyph. option_and_then (λ rest. made a.0 glyph rest) (range bytes 4 (rest_size a.0))) c a.2 in
    let d = bind_some (range bytes 4 (rest_size a.0)) (λ rest. made a.0 b.0 rest) c b.2 in
    let f : a.0 ≡ c.flags = ap (λ (o : Option Component). elim o as (λ _. ℕ) [ None ↦ 0 | Some k ↦ k.flags ]) d.2 in
    let g : b.0 ≡ c.glyph = ap (λ (o : Option Component). elim o as (λ _. ℕ) [ None ↦ 0 | Some k ↦ k.glyph ]) d.2 in
    let r : d.0 ≡ c.rest = ap (λ (o : Option Component). elim o as (λ _. List ℕ) [ None ↦ [] | Some k ↦ k.rest ]) d.2 in
    let there : range bytes 4 (rest_size c.flags) ≡ Some c.rest = ap (λ n. range bytes 4 (rest_size n)) (sym f) ∙ d.1 ∙ ap Some r in
    let bounds = range_is bytes 4 (rest_size c.flags) c.rest there in
    record { flags_is = a.1 ∙ ap Some f; glyph_is = b.1 ∙ ap Some g; rest_is = there; within = bounds.0; size = bounds.1 }

-- ---- the chain

pub chain_none : (n : ℕ) (bytes : List ℕ) → component_at bytes ≡ None → chain_at n bytes ≡ None
unfolding chain_at
chain_none zero bytes h = refl
chain_none (suc n) bytes h = ap (λ (o : Option Component). option_and_then (λ c. cond (has_more c.flags) (option_and_then (λ chain. Some (with_component c chain)) (chain_at n (drop (4 + rest_size c.flags) bytes))) (Some (last_component c (drop (4 + rest_size c.flags) bytes)))) o) h

pub chain_more : (n : ℕ) (bytes : List ℕ) (c : Component) → component_at bytes ≡ Some c
    → chain_at (suc n) bytes ≡ cond (has_more c.flags) (option_and_then (λ chain. Some (with_component c chain)) (chain_at n (drop (4 + rest_size c.flags) bytes))) (Some (last_component c (drop (4 + rest_size c.flags) bytes)))
unfolding chain_at
chain_more n bytes k h = ap (λ (o : Option Component). option_and_then (λ c. cond (has_more c.flags) (option_and_then (λ chain. Some (with_component c chain)) (chain_at n (drop (4 + rest_size c.flags) bytes))) (Some (last_component c (drop (4 + rest_size c.flags) bytes)))) o) h

no_bytes : (o : Option Component) → component_at [] ≡ o → o ≡ None
no_bytes None h = refl
no_bytes (Some c) h = absurd (let k = is_component [] c h in omega (arith, k.within))

-- the chain is the same for each count that is at least the count of the bytes
pub chain_enough : (n m : ℕ) (bytes : List ℕ) → length bytes ≤ n → length bytes ≤ m → chain_at n bytes ≡ chain_at m bytes
chain_enough n m [] a b = let none = no_bytes (component_at []) refl in chain_none n [] none ∙ sym (chain_none m [] none)
chain_enough zero m (x ∷ bytes) a b = absurd (omega arith)
chain_enough (suc n) zero (x ∷ bytes) a b = absurd (omega arith)
chain_enough (suc n) (suc m) (x ∷ bytes) a b = by (λ l p q. chain_enough n m l p q) (component_at (x ∷ bytes)) refl
  where
    by : ((l : List ℕ) → length l ≤ n → length l ≤ m → chain_at n l ≡ chain_at m l) → (o : Option Component) → component_at (x ∷ bytes) ≡ o → chain_at (suc n) (x ∷ bytes) ≡ chain_at (suc m) (x ∷ bytes)
    by again None h = chain_none (suc n) (x ∷ bytes) h ∙ sym (chain_none (suc m) (x ∷ bytes) h)
    by again (Some c) h =
        let after = drop (4 + rest_size c.flags) (x ∷ bytes) in
        let len : length after ≡ length (x ∷ bytes) - (4 + rest_size c.flags) = length-drop (4 + rest_size c.flags) (x ∷ bytes) in
        let below = again after (omega arith) (omega arith) in
        chain_more n (x ∷ bytes) c h ∙ ap (λ (o : Option Chain). cond (has_more c.flags) (option_and_then (λ chain. Some (with_component c chain)) o) (Some (last_component c after))) below ∙ sym (chain_more m (x ∷ bytes) c h)

-- ---- written under new numbers

abbrev pub with_front : List ℕ → Option (List ℕ) → Option (List ℕ)
with_front front o = option_map (λ text. front ++ text) o

-- a component as it is written
abbrev pub written : Bool → List ℕ → Component → Component
written hint order c = renumbered_component order (requested_component hint c)

-- what is kept of the bytes after the last component
abbrev pub kept_after : Bool → Component → List ℕ → List ℕ
kept_after hint c after = requested_tail hint (cond (has_instructions c.flags) after [])

abbrev pub chain_bytes : Bool → List ℕ → Chain → List ℕ
chain_bytes hint order chain = flat_map spelled (map (written hint order) chain.components) ++ requested_tail hint chain.tail

-- what is written of the components at the front
abbrev pub chain_text : Bool → List ℕ → List ℕ → Option (List ℕ)
chain_text hint order bytes = option_map (chain_bytes hint order) (chain_at (length bytes) bytes)

later_text : (hint : Bool) (order : List ℕ) (c : Component) (o : Option Chain) → option_map (chain_bytes hint order) (option_and_then (λ chain. Some (with_component c chain)) o) ≡ with_front (spelled (written hint order c)) (option_map (chain_bytes hint order) o)
later_text hint order c None = refl
later_text hint order c (Some chain) = ap Some (append_assoc (spelled (written hint order c)) (flat_map spelled (map (written hint order) chain.components)) (requested_tail hint chain.tail))

step_by : (hint : Bool) (order : List ℕ) (c : Component) (o : Option Chain) (after : List ℕ) (b : Bool) → option_map (chain_bytes hint order) (cond b (option_and_then (λ chain. Some (with_component c chain)) o) (Some (last_component c after)))
    ≡ cond b (with_front (spelled (written hint order c)) (option_map (chain_bytes hint order) o)) (Some (spelled (written hint order c) ++ kept_after hint c after))
step_by hint order c o after true = later_text hint order c o
step_by hint order c o after false = ap (λ (l : List ℕ). Some (l ++ kept_after hint c after)) (append-nil (spelled (written hint order c)))

pub text_step : (hint : Bool) (order bytes : List ℕ) (c : Component) → component_at bytes ≡ Some c → chain_text hint order bytes
    ≡ cond (has_more c.flags) (with_front (spelled (written hint order c)) (chain_text hint order (drop (4 + rest_size c.flags) bytes))) (Some (spelled (written hint order c) ++ kept_after hint c (drop (4 + rest_size c.flags) bytes)))
text_step hint order [] c h = absurd (let k = is_component [] c h in omega (arith, k.within))
text_step hint order (x ∷ bytes) c h =
    let after = drop (4 + rest_size c.flags) (x ∷ bytes) in
    let len : length after ≡ length (x ∷ bytes) - (4 + rest_size c.flags) = length-drop (4 + rest_size c.flags) (x ∷ bytes) in
    let same = chain_enough (length bytes) (length after) after (omega arith) (omega arith) in
    ap (option_map (chain_bytes hint order)) (chain_more (length bytes) (x ∷ bytes) c h) ∙ step_by hint order c (chain_at (length bytes) after) after (has_more c.flags)
    ∙ ap (λ (o : Option Chain). cond (has_more c.flags) (with_front (spelled (written hint order c)) (option_map (chain_bytes hint order) o)) (Some (spelled (written hint order c) ++ kept_after hint c after))) same

regroup : (a b : List ℕ) (o : Option (List ℕ)) → with_front a (with_front b o) ≡ with_front (a ++ b) o
regroup a b None = refl
regroup a b (Some text) = ap Some (sym (append_assoc a b text))

pub text_goes_on : (hint : Bool) (order w rest : List ℕ) (c : Component) (w1 after : List ℕ) (total : Option (List ℕ)) → component_at rest ≡ Some c → has_more c.flags ≡ true → w1 ≡ w ++ spelled (written hint order c) → after ≡ drop (4 + rest_size c.flags) rest
    → with_front w (chain_text hint order rest) ≡ total → with_front w1 (chain_text hint order after) ≡ total
text_goes_on hint order w rest c w1 after total h more e1 e2 so_far =
    let s = spelled (written hint order c) in
    let all = drop (4 + rest_size c.flags) rest in
    let now : chain_text hint order rest ≡ with_front s (chain_text hint order all) = text_step hint order rest c h ∙ ap (λ b. cond b (with_front s (chain_text hint order all)) (Some (s ++ kept_after hint c all))) more in
    ap (λ (l : List ℕ). with_front l (chain_text hint order after)) e1 ∙ ap (λ (l : List ℕ). with_front (w ++ s) (chain_text hint order l)) e2 ∙ sym (regroup w s (chain_text hint order all)) ∙ ap (with_front w) (sym now) ∙ so_far

pub text_ends : (hint : Bool) (order w rest : List ℕ) (c : Component) (w1 w2 after : List ℕ) (total : Option (List ℕ)) → component_at rest ≡ Some c → has_more c.flags ≡ false → w1 ≡ w ++ spelled (written hint order c) → after ≡ drop (4 + rest_size c.flags) rest
    → w2 ≡ w1 ++ kept_after hint c after → with_front w (chain_text hint order rest) ≡ total → total ≡ Some w2
text_ends hint order w rest c w1 w2 after total h last e1 e2 e3 so_far =
    let s = spelled (written hint order c) in
    let all = drop (4 + rest_size c.flags) rest in
    let tail = kept_after hint c all in
    let now : chain_text hint order rest ≡ Some (s ++ tail) = text_step hint order rest c h ∙ ap (λ b. cond b (with_front s (chain_text hint order all)) (Some (s ++ tail))) last in
    let whole : w2 ≡ w ++ (s ++ tail) = e3 ∙ ap (λ (l : List ℕ). l ++ kept_after hint c after) e1 ∙ ap (λ (l : List ℕ). (w ++ s) ++ kept_after hint c l) e2 ∙ append_assoc w s tail in
    sym so_far ∙ ap (with_front w) now ∙ ap Some (sym whole)

pub text_fails : (hint : Bool) (order w rest : List ℕ) (total : Option (List ℕ)) → component_at rest ≡ None → with_front w (chain_text hint order rest) ≡ total → total ≡ None
text_fails hint order w rest total h so_far = sym so_far ∙ ap (λ (o : Option Chain). with_front w (option_map (chain_bytes hint order) o)) (chain_none (length rest) rest h)

-- ---- the whole composite

-- new numbers, and flags
two_maps : (order : List ℕ) (cs : List Component) → map (renumbered_component order) (map (requested_component false) cs) ≡ map (written false order) cs
two_maps order [] = refl
two_maps order (c ∷ cs) = ap (λ (l : List Component). written false order c ∷ l) (two_maps order cs)

none_asked : (hint : Bool) → requested_parts hint None ≡ None
none_asked true = refl
none_asked false = refl

composite_by : (hint : Bool) (order head : List ℕ) (o : Option Chain) → option_map (λ p. parts_bytes (renumbered order p)) (requested_parts hint (option_and_then (λ chain. Some (Composite head chain)) o)) ≡ with_front head (option_map (chain_bytes hint order) o)
composite_by true order head None = refl
composite_by false order head None = refl
composite_by true order head (Some chain) = ap Some (append_assoc head (flat_map spelled (renumbered_chain order chain).components) chain.tail)
composite_by false order head (Some chain) =
    ap Some (append_assoc head (flat_map spelled (map (renumbered_component order) (map (requested_component false) chain.components))) []) ∙ ap (λ (l : List Component). Some (head ++ (flat_map spelled l ++ []))) (two_maps order chain.components)

pub composite_short : (hint : Bool) (order bytes : List ℕ) → length bytes < 10 → rewritten_composite hint order bytes ≡ Err MalformedFont
unfolding rewritten_composite
composite_short hint order bytes lt =
    ap (λ b. ok_or (option_map (λ p. parts_bytes (renumbered order p)) (requested_parts hint (option_and_then (λ head. option_and_then (λ chain. Some (Composite head chain)) (chain_at (length bytes) (drop 10 bytes))) (cond b (Some (take 10 (drop 0 bytes))) None)))) MalformedFont) (lt-leb 10 (length bytes) lt)
    ∙ ap (λ (o : Option Parts). ok_or (option_map (λ p. parts_bytes (renumbered order p)) o) MalformedFont) (none_asked hint)

pub composite_is : (hint : Bool) (order bytes : List ℕ) → 10 ≤ length bytes → rewritten_composite hint order bytes ≡ ok_or (with_front (take 10 bytes) (chain_text hint order (drop 10 bytes))) MalformedFont
unfolding rewritten_composite
composite_is hint order bytes le =
    let rest = drop 10 bytes in
    let len : length rest ≡ length bytes - 10 = length-drop 10 bytes in
    let same = chain_enough (length bytes) (length rest) rest (omega arith) (omega arith) in
    ap (λ b. ok_or (option_map (λ p. parts_bytes (renumbered order p)) (requested_parts hint (option_and_then (λ head. option_and_then (λ chain. Some (Composite head chain)) (chain_at (length bytes) rest)) (cond b (Some (take 10 (drop 0 bytes))) None)))) MalformedFont) (le-leb 10 (length bytes) le)
    ∙ ap (λ (o : Option (List ℕ)). ok_or o MalformedFont) (composite_by hint order (take 10 bytes) (chain_at (length bytes) rest) ∙ ap (λ (o : Option Chain). with_front (take 10 bytes) (option_map (chain_bytes hint order) o)) same)

-- the same after other bytes
pub composite_after : (hint : Bool) (before order bytes : List ℕ) → 10 ≤ length bytes → following before (rewritten_composite hint order bytes) ≡ ok_or (with_front (before ++ take 10 bytes) (chain_text hint order (drop 10 bytes))) MalformedFont
composite_after hint before order bytes le = ap (following before) (composite_is hint order bytes le) ∙ by (chain_text hint order (drop 10 bytes))
  where
    by : (o : Option (List ℕ)) → following before (ok_or (with_front (take 10 bytes) o) MalformedFont) ≡ ok_or (with_front (before ++ take 10 bytes) o) MalformedFont
    by None = refl
    by (Some text) = ap Ok (sym (append_assoc before (take 10 bytes) text))

-- an outline that is a composite
pub rewritten_high : (hint : Bool) (order bytes : List ℕ) → 2 ≤ length bytes → 128 ≤ get_or bytes 0 0 → rewritten hint order bytes ≡ rewritten_composite hint order bytes
unfolding rewritten rewritten_composite outline_parts
rewritten_high hint order [] le high = absurd (omega arith)
rewritten_high hint order (a ∷ []) le high = absurd (omega arith)
rewritten_high hint order (a ∷ b ∷ bytes) le high = ap (λ q. ok_or (option_map (λ p. parts_bytes (renumbered order p)) (requested_parts hint (cond q (Some (Simple (a ∷ b ∷ bytes))) (composite_parts (a ∷ b ∷ bytes))))) MalformedFont) (le-ltb a 128 high)

-- an outline that begins as a composite does, or has one byte
pub rewritten_begun : (hint : Bool) (order bytes : List ℕ) (first : ℕ) → first ≡ first_byte_in (Some bytes) → 128 ≤ first → rewritten hint order bytes ≡ rewritten_composite hint order bytes
unfolding rewritten outline_parts
rewritten_begun hint order [] first is high = absurd (omega arith)
rewritten_begun hint order (a ∷ []) first is high = ap (λ (o : Option Parts). ok_or (option_map (λ p. parts_bytes (renumbered order p)) o) MalformedFont) (none_asked hint) ∙ sym (composite_short hint order (a ∷ []) (omega arith))
rewritten_begun hint order (a ∷ b ∷ bytes) first is high = rewritten_high hint order (a ∷ b ∷ bytes) (omega arith) (omega arith)

-- another, with its instructions
simple_kept : (order bytes : List ℕ) (first : ℕ) → first ≡ first_byte_in (Some bytes) → first < 128 → rewritten true order bytes ≡ Ok bytes
unfolding rewritten outline_parts
simple_kept order [] first is low = refl
simple_kept order (a ∷ []) first is low = absurd (omega arith)
simple_kept order (a ∷ b ∷ bytes) first is low =
    let lt : a < 128 = omega arith in
    ap (λ q. ok_or (option_map (λ p. parts_bytes (renumbered order p)) (cond q (Some (Simple (a ∷ b ∷ bytes))) (composite_parts (a ∷ b ∷ bytes)))) MalformedFont) (lt-ltb a 128 lt)

-- and without instructions
simple_bare : (order bytes : List ℕ) (first : ℕ) → first ≡ first_byte_in (Some bytes) → first < 128 → rewritten false order bytes ≡ Ok (bare_simple bytes)
unfolding rewritten outline_parts bare_simple
simple_bare order [] first is low = refl
simple_bare order (a ∷ []) first is low = absurd (omega arith)
simple_bare order (a ∷ b ∷ bytes) first is low =
    let lt : a < 128 = omega arith in
    ap (λ q. ok_or (option_map (λ p. parts_bytes (renumbered order p)) (requested_parts false (cond q (Some (Simple (a ∷ b ∷ bytes))) (composite_parts (a ∷ b ∷ bytes))))) MalformedFont) (lt-ltb a 128 lt)

-- as far as they are asked for
pub rewritten_simple : (hint : Bool) (order bytes : List ℕ) (first : ℕ) → first ≡ first_byte_in (Some bytes) → first < 128 → rewritten hint order bytes ≡ Ok (requested_simple hint bytes)
rewritten_simple true order bytes first is low = simple_kept order bytes first is low
rewritten_simple false order bytes first is low = simple_bare order bytes first is low

-- Outlines of own glyphs are read back as their parts.
--   own_back                     the parts of an own outline
--   own_even                     its length is even
use Rattle.std.proofs.Common.{◌≡◌, ℕ, zero, suc, ◌+◌, ◌-◌, ◌*◌, ◌%◌, ◌^◌, ◌<◌, ◌≤◌, Bool, true, false, cond, ltb, List, [], ◌∷◌, ◌++◌, length, drop, Option, Some, refl, sym, ap, ◌∙◌, arith}
use Rattle.std.specs.Option.{option_and_then}
use Rattle.std.specs.List.{flat_map, AllByRecursion}
use Rattle.std.proofs.lemmas.Bool.{lt-ltb}
use Rattle.std.proofs.lemmas.List.{append-nil, drop_at, length-append}
use Rattle.subsetter_base.specs.Bytes.{range}
use Rattle.subsetter_base.proofs.ByteLemmas.{range-middle}
use Rattle.subsetter_base.proofs.Options.{just}
use Rattle.subsetter_points.specs.declared.bounds.Bounds.{Bounds}
use Rattle.subsetter.specs.Glyf.Parts.{Chain, Composite, chain_at, outline_parts, parts_bytes, rest_size, spelled, with_component}
use Rattle.subsetter.proofs.GlyfLaws.Chains.{chain_more}
use Rattle.subsetter.proofs.GlyfLaws.Parts.{component_back, length-spelled}
use Rattle.own_glyphs.specs.declared.glyph.Part.{Part}
use Rattle.own_glyphs.specs.Composite.{component_of, components, header_bytes, own_parts}

-- numbers of glyphs have 16 bits
abbrev pub AreNumbers : List Part → Type 0
AreNumbers parts = AllByRecursion (λ (p : Part). p.glyph < 2 ^ 16) parts

flags_small : (more : Bool) (p : Part) → (component_of more p).flags < 2 ^ 16
flags_small true p = omega arith
flags_small false p = omega arith

rest_whole : (more : Bool) (p : Part) → length (component_of more p).rest ≡ rest_size (component_of more p).flags
rest_whole true p = refl
rest_whole false p = refl

one_back : (more : Bool) (p : Part) (others : List ℕ) (n : ℕ) → p.glyph < 2 ^ 16 → chain_at (suc n) (spelled (component_of more p) ++ others) ≡ cond more (option_and_then (λ chain. just (with_component (component_of more p) chain)) (chain_at n others)) (Some (record { components = component_of more p ∷ []; tail = [] }))
one_back true p others n small =
    let c = component_of true p in
    let after : drop (4 + rest_size c.flags) (spelled c ++ others) ≡ others = drop_at (spelled c) others 8 (length-spelled c) in
    chain_more n (spelled c ++ others) c (component_back c others (flags_small true p) small (rest_whole true p)) ∙ ap (λ (l : List ℕ). option_and_then (λ chain. just (with_component c chain)) (chain_at n l)) after
one_back false p others n small =
    let c = component_of false p in
    chain_more n (spelled c ++ others) c (component_back c others (flags_small false p) small (rest_whole false p))

chain_back : (n : ℕ) (p : Part) (parts : List Part) → length parts ≤ n → AreNumbers (p ∷ parts) → chain_at (suc n) (flat_map spelled (components (p ∷ parts))) ≡ Some (record { components = components (p ∷ parts); tail = [] })
chain_back n p [] le all = one_back false p [] n all.0
chain_back zero p (q ∷ parts) le all = absurd (omega arith)
chain_back (suc n) p (q ∷ parts) le all =
    let more : ltb 0 (length (q ∷ parts)) ≡ true = lt-ltb 0 (length (q ∷ parts)) (omega arith) in
    let rest = flat_map spelled (components (q ∷ parts)) in
    let below = chain_back n q parts (omega arith) all.1 in
    let first : (b : Bool) → b ≡ true → chain_at (suc (suc n)) (spelled (component_of b p) ++ rest) ≡ Some (record { components = component_of b p ∷ components (q ∷ parts); tail = [] }) = goes_on n p (q ∷ parts) rest all.0 below in
    first (ltb 0 (length (q ∷ parts))) more
  where
    goes_on : (n : ℕ) (p : Part) (parts : List Part) (rest : List ℕ) → p.glyph < 2 ^ 16 → chain_at (suc n) rest ≡ Some (record { components = components parts; tail = [] })
        → (b : Bool) → b ≡ true → chain_at (suc (suc n)) (spelled (component_of b p) ++ rest) ≡ Some (record { components = component_of b p ∷ components parts; tail = [] })
    goes_on n p parts rest small below true e = one_back true p rest (suc n) small ∙ ap (λ (o : Option Chain). option_and_then (λ chain. just (with_component (component_of true p) chain)) o) below
    goes_on n p parts rest small below false e = absurd cc

length-components : (parts : List Part) → length (flat_map spelled (components parts)) ≡ 8 * length parts
length-components [] = refl
length-components (p ∷ parts) =
    let c = component_of (ltb 0 (length parts)) p in
    let rest : length c.rest ≡ 4 = refl in
    omega (arith, length-append (spelled c) (flat_map spelled (components parts)), length-spelled c, rest, length-components parts)

length-header : (b : Bounds) → length (header_bytes b) ≡ 10
length-header b = refl

pub own_even : (parts : List Part) (b : Bounds) → length (parts_bytes (own_parts parts b)) % 2 ≡ 0
own_even [] b = refl
own_even (p ∷ parts) b =
    let C = flat_map spelled (components (p ∷ parts)) in
    omega (arith, length-append (header_bytes b ++ C) [], length-append (header_bytes b) C, length-header b, length-components (p ∷ parts))

pub own_back : (parts : List Part) (b : Bounds) → AreNumbers parts → outline_parts (parts_bytes (own_parts parts b)) ≡ Some (own_parts parts b)
unfolding outline_parts
own_back [] b all = refl
own_back (p ∷ parts) b all =
    let H = header_bytes b in
    let C = flat_map spelled (components (p ∷ parts)) in
    let bytes = H ++ C ++ [] in
    let whole : bytes ≡ H ++ C = append-nil (H ++ C) in
    let head : range bytes 0 10 ≡ Some H = range-middle bytes [] H C 0 10 whole refl refl in
    let rest : drop 10 bytes ≡ C = ap (drop 10) whole ∙ drop_at H C 10 refl in
    let count : suc (length bytes - 1) ≡ length bytes = omega (arith, ap length whole, length-append H C, length-header b) in
    let chain : chain_at (length bytes) (drop 10 bytes) ≡ Some (record { components = components (p ∷ parts); tail = [] }) =
    ap (λ (n : ℕ). chain_at n (drop 10 bytes)) (sym count) ∙ ap (chain_at (suc (length bytes - 1))) rest ∙ chain_back (length bytes - 1) p parts (omega (arith, ap length whole, length-append H C, length-header b, length-components (p ∷ parts))) all in
    ap (λ (o : Option (List ℕ)). option_and_then (λ head. option_and_then (λ chain. just (Composite head chain)) (chain_at (length bytes) (drop 10 bytes))) o) head
    ∙ ap (λ (o : Option Chain). option_and_then (λ chain. just (Composite H chain)) o) chain

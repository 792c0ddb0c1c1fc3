-- Where an outline has parts, the lenient reading is the strict one.
use Rattle.std.proofs.Common.{◌≡◌, ℕ, zero, suc, ◌+◌, ltb, Bool, true, false, cond, List, [], ◌∷◌, length, drop, Option, Some, None, refl, sym, ap, subst, ◌∙◌, arith}
use Rattle.std.specs.Prelude.{map, Contains}
use Rattle.std.specs.Option.{option_and_then, option_map}
use Rattle.std.proofs.lemmas.List.{length-drop}
use Rattle.subsetter_base.proofs.Options.{just, just_is}
use Rattle.subsetter.specs.Glyf.BareOutlines.Bare.{requested_component, bare, requested_parts}
use Rattle.subsetter.specs.Glyf.Parts.{Component, Chain, Parts, Empty, Simple, Composite, rest_size, has_more, component_at, with_component, last_component, chain_at, numbers_at, component_numbers, outline_parts}
use Rattle.subsetter_base.proofs.Options.{bind_some}
use Rattle.subsetter.proofs.GlyfLaws.Chains.{IsComponent, is_component, chain_none, chain_more}
use Rattle.subsetter.proofs.GlyfLaws.Components.{numbers_more, numbers_enough, components_composite}
use Rattle.subsetter.proofs.GlyfLaws.ReachingLaws.Unfold.{EachGlyph, PartsAre, is_empty, is_simple, is_composite, components_of}
use Rattle.subsetter.proofs.GlyfLaws.ReachingLaws.Unfold.{parts_are}

-- ---- the lenient reading of an outline that has parts

abbrev pub numbers_of : List Component → List ℕ
numbers_of cs = map (λ (c : Component). c.glyph) cs

same_chain : (a b : Chain) → just a ≡ just b → a ≡ b
same_chain a b h = just_is a b h

chain_numbers : (n : ℕ) (bytes : List ℕ) (chain : Chain) → chain_at n bytes ≡ Some chain → numbers_at n bytes ≡ numbers_of chain.components
unfolding chain_at
chain_numbers zero bytes chain h = absurd cc
chain_numbers (suc n) bytes chain h = by (λ rest whole e. chain_numbers n rest whole e) (component_at bytes) refl
  where
    into : ((rest : List ℕ) (whole : Chain) → chain_at n rest ≡ Some whole → numbers_at n rest ≡ numbers_of whole.components) → (c : Component) → IsComponent bytes c → (b : Bool) → has_more c.flags ≡ b
        → cond b (option_and_then (λ rest. Some (with_component c rest)) (chain_at n (drop (4 + rest_size c.flags) bytes))) (Some (last_component c (drop (4 + rest_size c.flags) bytes))) ≡ Some chain → numbers_at (suc n) bytes ≡ numbers_of chain.components
    into again c is true m e =
        let after = drop (4 + rest_size c.flags) bytes in
        let k = bind_some (chain_at n after) (λ rest. just (with_component c rest)) chain e in
        let same : with_component c k.0 ≡ chain = same_chain (with_component c k.0) chain k.2 in
        numbers_more n bytes c.flags c.glyph is.flags_is is.glyph_is ∙ ap (λ b. c.glyph ∷ cond b (numbers_at n after) []) m ∙ ap (λ (l : List ℕ). c.glyph ∷ l) (again after k.0 k.1) ∙ ap (λ (x : Chain). numbers_of x.components) same
    into again c is false m e =
        let after = drop (4 + rest_size c.flags) bytes in
        let same : last_component c after ≡ chain = same_chain (last_component c after) chain e in
        numbers_more n bytes c.flags c.glyph is.flags_is is.glyph_is ∙ ap (λ b. c.glyph ∷ cond b (numbers_at n after) []) m ∙ ap (λ (x : Chain). numbers_of x.components) same

    by : ((rest : List ℕ) (whole : Chain) → chain_at n rest ≡ Some whole → numbers_at n rest ≡ numbers_of whole.components) → (o : Option Component) → component_at bytes ≡ o → numbers_at (suc n) bytes ≡ numbers_of chain.components
    by again None k = let e = sym (chain_none (suc n) bytes k) ∙ h in absurd cc
    by again (Some c) k = into again c (is_component bytes c k) (has_more c.flags) refl (sym (chain_more n bytes c k) ∙ h)

no_numbers : (a : ℕ) (rest : List ℕ) → ltb a 128 ≡ true → component_numbers (a ∷ rest) ≡ []
unfolding component_numbers
no_numbers a rest h = ap (λ b. cond b [] (numbers_at (length rest) (drop 10 (a ∷ rest)))) h

none_of_none : component_numbers [] ≡ []
unfolding component_numbers
none_of_none = refl

-- where an outline has parts, the lenient reading is the strict one
pub part_numbers : (bytes : List ℕ) (p : Parts) → outline_parts bytes ≡ Some p → component_numbers bytes ≡ numbers_of (components_of p)
part_numbers bytes p h = by (parts_are bytes p h)
  where
    by : PartsAre bytes p → component_numbers bytes ≡ numbers_of (components_of p)
    by (is_empty e q) = ap component_numbers e ∙ none_of_none ∙ ap (λ (r : Parts). numbers_of (components_of r)) (sym q)
    by (is_simple a b rest e t q) = ap component_numbers e ∙ no_numbers a (b ∷ rest) t ∙ ap (λ (r : Parts). numbers_of (components_of r)) (sym q)
    by (is_composite head chain is q) =
        let rest = drop 10 bytes in
        let numbers : numbers_at (length bytes) rest ≡ component_numbers bytes = numbers_enough (length bytes) (length rest) rest (omega (arith, length-drop 10 bytes)) (omega arith) ∙ sym (components_composite bytes is.long is.high) in
        sym numbers ∙ chain_numbers (length bytes) rest chain is.chain_read ∙ ap (λ (r : Parts). numbers_of (components_of r)) (sym q)

bare_numbers : (cs : List Component) → numbers_of cs ≡ numbers_of (map (requested_component false) cs)
bare_numbers [] = refl
bare_numbers (c ∷ cs) = ap (λ (l : List ℕ). c.glyph ∷ l) (bare_numbers cs)

bare_part_numbers : (p : Parts) → numbers_of (components_of p) ≡ numbers_of (components_of (bare p))
bare_part_numbers Empty = refl
bare_part_numbers (Simple bytes) = refl
bare_part_numbers (Composite head chain) = bare_numbers chain.components

-- also where instructions aren't asked for
pub asked_part_numbers : (hint : Bool) (bytes : List ℕ) (p : Parts) → requested_parts hint (outline_parts bytes) ≡ Some p → component_numbers bytes ≡ numbers_of (components_of p)
asked_part_numbers true bytes p h = part_numbers bytes p h
asked_part_numbers false bytes p h = by (outline_parts bytes) refl h
  where
    by : (o : Option Parts) → outline_parts bytes ≡ o → option_map bare o ≡ Some p → component_numbers bytes ≡ numbers_of (components_of p)
    by None e k = absurd cc
    by (Some q) e k = part_numbers bytes q e ∙ bare_part_numbers q ∙ ap (λ (r : Parts). numbers_of (components_of r)) (just_is (bare q) p k)

pub each_among : (P : ℕ → Type 0) (cs : List Component) (h : ℕ) → EachGlyph P cs → Contains (numbers_of cs) h → P h
each_among P [] h all (k, lt, is) = absurd (omega arith)
each_among P (c ∷ cs) h all (zero, lt, is) = subst P is all.0
each_among P (c ∷ cs) h all (suc k, lt, is) = each_among P cs h all.1 (k, omega arith, is)

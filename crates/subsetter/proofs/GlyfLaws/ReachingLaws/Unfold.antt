-- Each glyph of a subset unfolds as its source does, to every depth.
use Rattle.std.proofs.Common.{◌≡◌, ℕ, zero, suc, ◌+◌, ◌-◌, ◌*◌, ◌%◌, ◌^◌, ◌<◌, ◌≤◌, Bool, true, false, cond, leb, ltb, List, [], ◌∷◌, ◌++◌, length, get_or, take, drop, Option, Some, None, Ok, refl, sym, ap, subst, ◌∙◌, append_assoc, arith}
use Rattle.std.specs.Prelude.{map, Contains}
use Rattle.std.specs.Option.{option_and_then, option_map, unwrap_or}
use Rattle.std.specs.List.{flat_map}
use Rattle.std.proofs.lemmas.Bool.{le-ltb, ltb-false}
use Rattle.std.proofs.lemmas.List.{get_or-take, get_or_append_left, get_or_default, length-append, length-drop, drop_at}
use Rattle.subsetter_base.specs.Bytes.{range, number, IsBytes, between_offsets, from_offset}
use Rattle.subsetter_base.specs.Indexes.{index_of, new_index}
use Rattle.subsetter_base.proofs.ByteLemmas.{range-middle, range-fits, range-length, range-take_drop, IsBytes-drop, IsBytes-range}
use Rattle.subsetter_base.proofs.GlyphLemmas.{index-finds, Contains-index}
use Rattle.subsetter_base.proofs.Options.{just, just_is, some_of, bind_some}
use Rattle.subsetter_base.proofs.Lists.{Contains-later}
use Rattle.subsetter_sfnt.specs.Read.{Font}
use Rattle.subsetter.specs.Glyf.Read.{Outlines, outlines, outline_in, outline, offset}
use Rattle.subsetter.specs.Glyf.Reaching.Unfold.{padded, SameComponents, SameParts, HaveSameParts, UnfoldAlike}
use Rattle.subsetter.specs.Glyf.BareOutlines.Bare.{bare_at, bare_found, bare_simple, requested_component, requested_chain, bare, requested_parts}
use Rattle.subsetter.specs.Glyf.Parts.{Component, Chain, Parts, Empty, Simple, Composite, rest_size, has_more, component_at, with_component, last_component, chain_at, numbers_at, component_numbers, composite_parts, outline_parts, spelled, parts_bytes}
use Rattle.subsetter.specs.Glyf.Plain.{renumbered_component, renumbered, kept_all}
use Rattle.subsetter.specs.Glyf.Reaching.Reach.{IsGlyphOrder, step}
use Rattle.subsetter.proofs.GlyfLaws.Components.{numbers_more, numbers_enough, components_composite}
use Rattle.subsetter.proofs.GlyfLaws.Chains.{IsComponent, is_component, chain_none, chain_more}
use Rattle.subsetter.proofs.GlyfLaws.Parts.{padded-append, padded-nil, IsChain, chain_is, bare_is, chain_back, chain-even, chain-length}
use Rattle.subsetter.proofs.GlyfLaws.Back.{AreWritten, read_back}
use Rattle.subsetter.proofs.GlyfLaws.Kept.{kept_at, length-kept_all}

-- ---- the strict reading is part of the lenient one

-- what holds of the glyph of each component
abbrev pub EachGlyph : (ℕ → Type 0) → List Component → Type 0
EachGlyph P [] = Unit {0}
EachGlyph P (c ∷ cs) = P c.glyph × EachGlyph P cs

pub each_weaker : (P Q : ℕ → Type 0) (cs : List Component) → ((g : ℕ) → P g → Q g) → EachGlyph P cs → EachGlyph Q cs
each_weaker P Q [] f h = tt
each_weaker P Q (c ∷ cs) f h = (f c.glyph h.0, each_weaker P Q cs f h.1)

first_number : (x : ℕ) (xs : List ℕ) → Contains (x ∷ xs) x
first_number x xs = (0, omega arith, refl)

each_numbered : (n : ℕ) (bytes : List ℕ) (chain : Chain) → chain_at n bytes ≡ Some chain → EachGlyph (λ g. Contains (numbers_at n bytes) g) chain.components
unfolding chain_at
each_numbered zero bytes chain h = absurd cc
each_numbered (suc n) bytes chain h = by (λ rest whole e. each_numbered n rest whole e) (component_at bytes) refl
  where
    into : ((rest : List ℕ) (whole : Chain) → chain_at n rest ≡ Some whole → EachGlyph (λ g. Contains (numbers_at n rest) g) whole.components) → (c : Component) → IsComponent bytes c → (b : Bool) → has_more c.flags ≡ b
        → cond b (option_and_then (λ rest. Some (with_component c rest)) (chain_at n (drop (4 + rest_size c.flags) bytes))) (Some (last_component c (drop (4 + rest_size c.flags) bytes))) ≡ Some chain → EachGlyph (λ g. Contains (numbers_at (suc n) bytes) g) chain.components
    into again c is true m e =
        let after = drop (4 + rest_size c.flags) bytes in
        let k = bind_some (chain_at n after) (λ rest. just (with_component c rest)) chain e in
        let same : with_component c k.0 ≡ chain = just_is (with_component c k.0) chain k.2 in
        let numbers : c.glyph ∷ numbers_at n after ≡ numbers_at (suc n) bytes = sym (numbers_more n bytes c.flags c.glyph is.flags_is is.glyph_is ∙ ap (λ b. c.glyph ∷ cond b (numbers_at n after) []) m) in
        subst (λ (l : List ℕ). EachGlyph (λ g. Contains l g) chain.components) numbers (subst (λ (whole : Chain). EachGlyph (λ g. Contains (c.glyph ∷ numbers_at n after) g) whole.components) same
        (first_number c.glyph (numbers_at n after), each_weaker (λ g. Contains (numbers_at n after) g) (λ g. Contains (c.glyph ∷ numbers_at n after) g) k.0.components (λ g at. Contains-later c.glyph g (numbers_at n after) at) (again after k.0 k.1)))
    into again c is false m e =
        let after = drop (4 + rest_size c.flags) bytes in
        let same : last_component c after ≡ chain = just_is (last_component c after) chain e in
        let numbers : c.glyph ∷ [] ≡ numbers_at (suc n) bytes = sym (numbers_more n bytes c.flags c.glyph is.flags_is is.glyph_is ∙ ap (λ b. c.glyph ∷ cond b (numbers_at n after) []) m) in
        subst (λ (l : List ℕ). EachGlyph (λ g. Contains l g) chain.components) numbers (subst (λ (whole : Chain). EachGlyph (λ g. Contains (c.glyph ∷ []) g) whole.components) same (first_number c.glyph [], tt))

    by : ((rest : List ℕ) (whole : Chain) → chain_at n rest ≡ Some whole → EachGlyph (λ g. Contains (numbers_at n rest) g) whole.components) → (o : Option Component) → component_at bytes ≡ o → EachGlyph (λ g. Contains (numbers_at (suc n) bytes) g) chain.components
    by again None k = let e = sym (chain_none (suc n) bytes k) ∙ h in absurd cc
    by again (Some c) k = into again c (is_component bytes c k) (has_more c.flags) refl (sym (chain_more n bytes c k) ∙ h)

-- ---- the parts of an outline, by cases

-- the head of a composite, and its components
pub record IsComposite (bytes head : List ℕ) (chain : Chain) : Type 0 where
  pub long : 10 ≤ length bytes
  pub high : 128 ≤ get_or bytes 0 0
  pub head_is : head ≡ take 10 bytes
  pub size : length head ≡ 10
  pub chain_read : chain_at (length bytes) (drop 10 bytes) ≡ Some chain

pub data PartsAre (bytes : List ℕ) (p : Parts) : Type 0 where
  is_empty : bytes ≡ [] → p ≡ Empty → PartsAre bytes p
  is_simple : (a b : ℕ) (rest : List ℕ) → bytes ≡ a ∷ b ∷ rest → ltb a 128 ≡ true → p ≡ Simple bytes → PartsAre bytes p
  is_composite : (head : List ℕ) (chain : Chain) → IsComposite bytes head chain → p ≡ Composite head chain → PartsAre bytes p

abbrev parts_there : Parts → Option Parts
parts_there p = Some p

same_parts_are : (a b : Parts) → parts_there a ≡ parts_there b → a ≡ b
same_parts_are a b h = cc

pub parts_are : (bytes : List ℕ) (p : Parts) → outline_parts bytes ≡ Some p → PartsAre bytes p
unfolding outline_parts
parts_are [] p h = is_empty refl (sym (same_parts_are Empty p h))
parts_are (a ∷ []) p h = absurd cc
parts_are (a ∷ b ∷ rest) p h = by (ltb a 128) refl h
  where
    whole : ltb a 128 ≡ false → composite_parts (a ∷ b ∷ rest) ≡ Some p → PartsAre (a ∷ b ∷ rest) p
    whole t e =
        let bytes : List ℕ = a ∷ b ∷ rest in
        let k = bind_some (range bytes 0 10) (λ head. option_and_then (λ chain. parts_there (Composite head chain)) (chain_at (length bytes) (drop 10 bytes))) p e in
        let l = bind_some (chain_at (length bytes) (drop 10 bytes)) (λ chain. parts_there (Composite k.0 chain)) p k.2 in
        let le : 10 ≤ length bytes = range-fits bytes k.0 0 10 k.1 in
        let head_is : k.0 ≡ take 10 bytes = just_is k.0 (take 10 bytes) (sym k.1 ∙ range-take_drop bytes 0 10 le) in
        is_composite k.0 l.0 (record { long = le; high = ltb-false a 128 t; head_is = head_is; size = range-length bytes k.0 0 10 k.1; chain_read = l.1 }) (sym (same_parts_are (Composite k.0 l.0) p l.2))

    by : (q : Bool) → ltb a 128 ≡ q → cond q (Some (Simple (a ∷ b ∷ rest))) (composite_parts (a ∷ b ∷ rest)) ≡ Some p → PartsAre (a ∷ b ∷ rest) p
    by true t e = is_simple a b rest refl t (sym (same_parts_are (Simple (a ∷ b ∷ rest)) p e))
    by false t e = whole t e

high_parts : (bytes : List ℕ) → 2 ≤ length bytes → 128 ≤ get_or bytes 0 0 → outline_parts bytes ≡ composite_parts bytes
unfolding outline_parts
high_parts [] le high = absurd (omega arith)
high_parts (a ∷ []) le high = absurd (omega arith)
high_parts (a ∷ b ∷ bytes) le high = ap (λ q. cond q (Some (Simple (a ∷ b ∷ bytes))) (composite_parts (a ∷ b ∷ bytes))) (le-ltb a 128 high)

low_parts : (long : Bool) (a b : ℕ) (rest : List ℕ) → ltb a 128 ≡ true → outline_parts (padded long (a ∷ b ∷ rest)) ≡ Some (Simple (padded long (a ∷ b ∷ rest)))
unfolding outline_parts
low_parts true a b rest t = ap (λ q. cond q (Some (Simple (a ∷ b ∷ rest))) (composite_parts (a ∷ b ∷ rest))) t
low_parts false a b rest t = ap (λ q. cond q (Some (Simple (padded false (a ∷ b ∷ rest)))) (composite_parts (padded false (a ∷ b ∷ rest)))) t

-- parts whose last bytes have the padding of the short format
abbrev pub padded_parts : Bool → Parts → Parts
padded_parts long Empty = Empty
padded_parts long (Simple bytes) = Simple (padded long bytes)
padded_parts long (Composite head chain) = Composite head (record { components = chain.components; tail = padded long chain.tail })

no_parts : outline_parts [] ≡ Some Empty
unfolding outline_parts
no_parts = refl

-- parts that can be written and read again
pub data CanBeWritten : Parts → Type 0 where
  can_empty : CanBeWritten Empty
  can_simple : (a b : ℕ) (rest bytes : List ℕ) → bytes ≡ a ∷ b ∷ rest → ltb a 128 ≡ true → CanBeWritten (Simple bytes)
  can_composite : (head : List ℕ) (chain : Chain) → length head ≡ 10 → 128 ≤ get_or head 0 0 → IsChain chain.tail chain.components → CanBeWritten (Composite head chain)

-- those of an outline can
pub can_write : (bytes : List ℕ) (p : Parts) → IsBytes bytes → outline_parts bytes ≡ Some p → CanBeWritten p
can_write bytes p fit h = by (parts_are bytes p h)
  where
    by : PartsAre bytes p → CanBeWritten p
    by (is_empty e q) = subst CanBeWritten (sym q) can_empty
    by (is_simple a b rest e t q) = subst CanBeWritten (sym q) (can_simple a b rest bytes e t)
    by (is_composite head chain is q) =
        let good = chain_is (length bytes) (drop 10 bytes) chain (IsBytes-drop 10 bytes fit) is.chain_read in
        let first : get_or head 0 0 ≡ get_or bytes 0 0 = ap (λ (l : List ℕ). get_or l 0 0) is.head_is ∙ get_or-take 10 bytes 0 0 (omega arith) in
        subst CanBeWritten (sym q) (can_composite head chain is.size (omega (arith, first, is.high)) good)

-- so can they without instructions
bare_begins : (a b : ℕ) (rest : List ℕ) → (more : List ℕ) × (bare_simple (a ∷ b ∷ rest) ≡ a ∷ b ∷ more)
unfolding bare_simple
bare_begins a b rest = by (bare_found (a ∷ b ∷ rest)) refl
  where
    front : (n : ℕ) → take (10 + 2 * n) (a ∷ b ∷ rest) ≡ a ∷ b ∷ take (8 + 2 * n) rest
    front n = let long : 10 + 2 * n ≡ suc (suc (8 + 2 * n)) = omega arith in ap (λ (k : ℕ). take k (a ∷ b ∷ rest)) long

    by : (o : Option (List ℕ)) → bare_found (a ∷ b ∷ rest) ≡ o → (more : List ℕ) × (unwrap_or o (a ∷ b ∷ rest) ≡ a ∷ b ∷ more)
    by None e = (rest, refl)
    by (Some whole) e =
        let k = bind_some (number (a ∷ b ∷ rest) 0 2) (λ contours. bare_at (a ∷ b ∷ rest) (10 + 2 * contours)) whole e in
        let at = 10 + 2 * k.0 in
        let l = bind_some (number (a ∷ b ∷ rest) at 2) (λ size. option_and_then (λ following. just (take at (a ∷ b ∷ rest) ++ 0 ∷ 0 ∷ following)) (from_offset (a ∷ b ∷ rest) (at + 2 + size))) whole k.2 in
        let m = bind_some (from_offset (a ∷ b ∷ rest) (at + 2 + l.0)) (λ following. just (take at (a ∷ b ∷ rest) ++ 0 ∷ 0 ∷ following)) whole l.2 in
        let same : take at (a ∷ b ∷ rest) ++ 0 ∷ 0 ∷ m.0 ≡ whole = just_is (take at (a ∷ b ∷ rest) ++ 0 ∷ 0 ∷ m.0) whole m.2 in
        (take (8 + 2 * k.0) rest ++ 0 ∷ 0 ∷ m.0, sym same ∙ ap (λ (l : List ℕ). l ++ 0 ∷ 0 ∷ m.0) (front k.0))

bare_can : (p : Parts) → CanBeWritten p → CanBeWritten (bare p)
bare_can Empty can_empty = can_empty
bare_can (Simple _) (can_simple a b rest bytes e t) =
    let k = bare_begins a b rest in
    can_simple a b k.0 (bare_simple bytes) (ap bare_simple e ∙ k.1) t
bare_can (Composite _ _) (can_composite head chain size high good) = can_composite head (requested_chain false chain) size high (bare_is chain.tail chain.components good)

pub asked_can : (hint : Bool) (bytes : List ℕ) (p : Parts) → IsBytes bytes → requested_parts hint (outline_parts bytes) ≡ Some p → CanBeWritten p
asked_can true bytes p fit h = can_write bytes p fit h
asked_can false bytes p fit h = by (outline_parts bytes) refl h
  where
    by : (o : Option Parts) → outline_parts bytes ≡ o → option_map bare o ≡ Some p → CanBeWritten p
    by None e k = absurd cc
    by (Some q) e k = subst CanBeWritten (same_parts_are (bare q) p k) (bare_can q (can_write bytes q fit e))

-- parts that were written under new numbers are read again, under new numbers and with their padding
written_back : (long : Bool) (order : List ℕ) (p : Parts) → ((g : ℕ) → new_index order g < 2 ^ 16) → CanBeWritten p
    → outline_parts (padded long (parts_bytes (renumbered order p))) ≡ Some (padded_parts long (renumbered order p))
written_back long order Empty small can_empty = ap outline_parts (padded-nil long) ∙ no_parts
written_back long order (Simple _) small (can_simple a b rest bytes e t) = subst (λ (l : List ℕ). outline_parts (padded long l) ≡ Some (Simple (padded long l))) (sym e) (low_parts long a b rest t)
written_back long order (Composite _ _) small (can_composite H chain size high good) =
    let cs = map (renumbered_component order) chain.components in
    let C = flat_map spelled cs in
    let T = padded long chain.tail in
    let W = padded long ((H ++ C) ++ chain.tail) in
    let even : length (H ++ C) % 2 ≡ 0 = omega (arith, length-append H C, size, chain-even order small chain.tail chain.components good) in
    let whole : W ≡ H ++ (C ++ T) = padded-append long (H ++ C) chain.tail even ∙ append_assoc H C T in
    let len : length W ≡ 10 + (length C + length T) = omega (arith, ap length whole, length-append H (C ++ T), length-append C T, size) in
    let first : get_or W 0 0 ≡ get_or H 0 0 = ap (λ (l : List ℕ). get_or l 0 0) whole ∙ get_or_append_left H (C ++ T) 0 0 (omega (arith, size)) in
    let front : range W 0 10 ≡ Some H = range-middle W [] H (C ++ T) 0 10 whole refl (sym size) in
    let rest : drop 10 W ≡ C ++ T = ap (drop 10) whole ∙ drop_at H (C ++ T) 10 size in
    let read = chain_back order small (length W) long chain.tail chain.components good (omega (arith, len, chain-length order small chain.tail chain.components good)) in
    high_parts W (omega (arith, len)) (omega (arith, first, high))
    ∙ ap (λ (o : Option (List ℕ)). option_and_then (λ head. option_and_then (λ c. parts_there (Composite head c)) (chain_at (length W) (drop 10 W))) o) front
    ∙ ap (λ (l : List ℕ). option_and_then (λ c. parts_there (Composite H c)) (chain_at (length W) l)) rest
    ∙ ap (λ (o : Option Chain). option_and_then (λ c. parts_there (Composite H c)) o) read

-- so are those of an outline, as far as they are asked for
pub parts_back : (hint long : Bool) (order bytes : List ℕ) (p : Parts) → ((g : ℕ) → new_index order g < 2 ^ 16) → IsBytes bytes → requested_parts hint (outline_parts bytes) ≡ Some p
    → outline_parts (padded long (parts_bytes (renumbered order p))) ≡ Some (padded_parts long (renumbered order p))
parts_back hint long order bytes p small fit h = written_back long order p small (asked_can hint bytes p fit h)

-- ---- the same parts

same_components : (alike : ℕ → ℕ → Type 0) (order : List ℕ) (cs : List Component) → EachGlyph (λ g. alike g (new_index order g)) cs → SameComponents alike cs (map (renumbered_component order) cs)
same_components alike order [] h = tt
same_components alike order (c ∷ cs) h = (refl, refl, h.0, same_components alike order cs h.1)

-- the components of parts, none of an empty or a simple outline
abbrev pub components_of : Parts → List Component
components_of Empty = []
components_of (Simple bytes) = []
components_of (Composite head chain) = chain.components

same_parts : (long : Bool) (alike : ℕ → ℕ → Type 0) (order : List ℕ) (p : Parts) → EachGlyph (λ g. alike g (new_index order g)) (components_of p) → SameParts long alike p (padded_parts long (renumbered order p))
same_parts long alike order Empty h = tt
same_parts long alike order (Simple bytes) h = refl
same_parts long alike order (Composite head chain) h = (refl, refl, same_components alike order chain.components h)

-- the numbers of a composite's components are among the component numbers of its outline
pub are_numbered : (bytes : List ℕ) (p : Parts) → outline_parts bytes ≡ Some p → EachGlyph (λ g. Contains (component_numbers bytes) g) (components_of p)
are_numbered bytes p h = by (parts_are bytes p h)
  where
    by : PartsAre bytes p → EachGlyph (λ g. Contains (component_numbers bytes) g) (components_of p)
    by (is_empty e q) = subst (λ (r : Parts). EachGlyph (λ g. Contains (component_numbers bytes) g) (components_of r)) (sym q) tt
    by (is_simple a b rest e t q) = subst (λ (r : Parts). EachGlyph (λ g. Contains (component_numbers bytes) g) (components_of r)) (sym q) tt
    by (is_composite head chain is q) =
        let rest = drop 10 bytes in
        let numbers : numbers_at (length bytes) rest ≡ component_numbers bytes = numbers_enough (length bytes) (length rest) rest (omega (arith, length-drop 10 bytes)) (omega arith) ∙ sym (components_composite bytes is.long is.high) in
        subst (λ (r : Parts). EachGlyph (λ g. Contains (component_numbers bytes) g) (components_of r)) (sym q) (subst (λ (l : List ℕ). EachGlyph (λ g. Contains l g) chain.components) numbers (each_numbered (length bytes) rest chain is.chain_read))

bare_glyphs : (P : ℕ → Type 0) (cs : List Component) → EachGlyph P cs → EachGlyph P (map (requested_component false) cs)
bare_glyphs P [] h = tt
bare_glyphs P (c ∷ cs) h = (h.0, bare_glyphs P cs h.1)

bare_numbered : (P : ℕ → Type 0) (p : Parts) → EachGlyph P (components_of p) → EachGlyph P (components_of (bare p))
bare_numbered P Empty h = tt
bare_numbered P (Simple bytes) h = tt
bare_numbered P (Composite head chain) h = bare_glyphs P chain.components h

-- also where instructions aren't asked for
pub asked_numbered : (hint : Bool) (bytes : List ℕ) (p : Parts) → requested_parts hint (outline_parts bytes) ≡ Some p → EachGlyph (λ g. Contains (component_numbers bytes) g) (components_of p)
asked_numbered true bytes p h = are_numbered bytes p h
asked_numbered false bytes p h = by (outline_parts bytes) refl h
  where
    by : (o : Option Parts) → outline_parts bytes ≡ o → option_map bare o ≡ Some p → EachGlyph (λ g. Contains (component_numbers bytes) g) (components_of p)
    by None e k = absurd cc
    by (Some q) e k = subst (λ (r : Parts). EachGlyph (λ g. Contains (component_numbers bytes) g) (components_of r)) (same_parts_are (bare q) p k) (bare_numbered (λ g. Contains (component_numbers bytes) g) q (are_numbered bytes q e))

-- ---- the bytes of an outline

between_bytes : (glyf bytes : List ℕ) (from to : ℕ) → IsBytes glyf → between_offsets glyf from to ≡ Some bytes → IsBytes bytes
between_bytes glyf bytes from to fit h = by (leb from to) h
  where
    by : (b : Bool) → cond b (range glyf from (to - from)) None ≡ Some bytes → IsBytes bytes
    by true e = IsBytes-range glyf bytes from (to - from) fit e
    by false e = absurd cc

pub outline_bytes : (t : Outlines) (g : ℕ) (bytes : List ℕ) → IsBytes t.glyf → outline_in t g ≡ Some bytes → IsBytes bytes
unfolding outline_in
outline_bytes t g bytes fit h =
    let a = bind_some (offset t g) (λ from. option_and_then (λ to. between_offsets t.glyf from to) (offset t (g + 1))) bytes h in
    let b = bind_some (offset t (g + 1)) (λ to. between_offsets t.glyf a.0 to) bytes a.2 in
    between_bytes t.glyf bytes a.0 b.0 fit b.2

pub outline_is : (font : Font) (t : Outlines) (g : ℕ) → outlines font ≡ Some t → outline font g ≡ outline_in t g
outline_is font t g read = ap (λ (o : Option Outlines). option_and_then (λ u. outline_in u g) o) read

-- ---- new numbers

-- the new number of a glyph of the order is its place
pub has_number : (order : List ℕ) (g : ℕ) → Contains order g → (k : ℕ) × (k < length order) × (get_or order k 0 ≡ g) × (new_index order g ≡ k)
has_number order g at =
    let k = some_of (index_of order g) (Contains-index order g at) in
    let f = index-finds order g k.0 k.1 in
    (k.0, f.0, f.1, ap (λ (o : Option ℕ). unwrap_or o 0) k.1)

pub small_numbers : (order : List ℕ) → length order < 2 ^ 16 → (g : ℕ) → new_index order g < 2 ^ 16
small_numbers order few g = by (index_of order g) refl
  where
    by : (o : Option ℕ) → index_of order g ≡ o → unwrap_or o 0 < 2 ^ 16
    by None e = omega arith
    by (Some k) e = omega (arith, (index-finds order g k e).0, few)

-- ---- the law

module _ (font out : Font) (glyphs order : List ℕ) (t u : Outlines) (bs : List (List ℕ)) (read : outlines font ≡ Some t) (asks : t.hinting ≡ font.extras.hinting) (whole : out.extras.hinting ≡ true) (again : outlines out ≡ Some u) (closed : IsGlyphOrder font glyphs order) (few : length order < 2 ^ 16) (fit : IsBytes t.glyf)
    (keeps : kept_all t order order ≡ Ok bs) (written : AreWritten bs u) where
  -- each glyph has the parts of its source, if the glyphs of the order are alike under their new numbers
  parts_alike : (alike : ℕ → ℕ → Type 0) → ((h : ℕ) → Contains order h → alike h (new_index order h)) → (i : ℕ) → i < length order → HaveSameParts font out alike (get_or order i 0) i
  parts_alike alike numbered i lt =
      let g = get_or order i 0 in
      let k = kept_at t order order bs i keeps lt in
      let source : outline font g ≡ Some k.bytes = outline_is font t g read ∙ k.there in
      let copy : outline out i ≡ Some (padded u.long (parts_bytes (renumbered order k.parts))) =
      outline_is out u i again ∙ read_back bs u i written (omega (arith, length-kept_all t order order bs keeps)) ∙ ap (λ (l : List ℕ). Some (padded u.long l)) (sym k.written) in
      let each : EachGlyph (λ h. alike h (new_index order h)) (components_of k.parts) =
      each_weaker (λ h. Contains (component_numbers k.bytes) h) (λ h. alike h (new_index order h)) (components_of k.parts)
      (λ h c. numbered h ((closed.members h).1 (step g h k.bytes ((closed.members g).0 (i, lt, get_or_default order i g 0 lt)) source c))) (asked_numbered t.hinting k.bytes k.parts k.parts_are) in
      record {
        tables = u;
        read = again;
        source = k.parts;
        source_is = ap (λ (o : Option (List ℕ)). requested_parts font.extras.hinting (option_and_then outline_parts o)) source ∙ ap (λ (b : Bool). requested_parts b (outline_parts k.bytes)) (sym asks) ∙ k.parts_are;
        copy = padded_parts u.long (renumbered order k.parts);
        copy_is = ap (λ (o : Option (List ℕ)). requested_parts out.extras.hinting (option_and_then outline_parts o)) copy ∙ ap (λ (b : Bool). requested_parts b (outline_parts (padded u.long (parts_bytes (renumbered order k.parts))))) whole ∙ parts_back t.hinting u.long order k.bytes k.parts (small_numbers order few) (outline_bytes t g k.bytes fit k.there) k.parts_are;
        same = same_parts u.long alike order k.parts each;
      }

  pub unfolds_alike : (n i : ℕ) → i < length order → UnfoldAlike font out n (get_or order i 0) i
  unfolds_alike zero i lt = tt
  unfolds_alike (suc n) i lt = parts_alike (UnfoldAlike font out n) (alike n (λ j at. unfolds_alike n j at)) i lt
    where
      alike : (m : ℕ) → ((j : ℕ) → j < length order → UnfoldAlike font out m (get_or order j 0) j) → (h : ℕ) → Contains order h → UnfoldAlike font out m h (new_index order h)
      alike m unfolds h c =
          let at = has_number order h c in
          subst (λ (k : ℕ). UnfoldAlike font out m h k) (sym at.3) (subst (λ (k : ℕ). UnfoldAlike font out m k at.0) at.2 (unfolds at.0 at.1))

  -- the new number of a component is the place of its glyph
  pub numbered_alike : (i : ℕ) → i < length order → HaveSameParts font out (λ g h. index_of order g ≡ Some h) (get_or order i 0) i
  numbered_alike i lt = parts_alike (λ g h. index_of order g ≡ Some h) (λ h c. let k = some_of (index_of order h) (Contains-index order h c) in k.1 ∙ ap (λ (n : ℕ). Some n) (sym (ap (λ (o : Option ℕ). unwrap_or o 0) k.1))) i lt

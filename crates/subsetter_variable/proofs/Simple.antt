-- The description of a simple glyph without instructions, among the outlines that are subset.
use Rattle.std.proofs.Common.{◌≡◌, ℕ, ◌+◌, ◌-◌, ◌*◌, ◌%◌, ◌^◌, ◌<◌, Bool, true, false, cond, leb, ltb, List, [], ◌∷◌, ◌++◌, length, take, drop, Option, Some, None, refl, sym, ap, ◌∙◌, append_assoc, arith}
use Rattle.std.specs.Prelude.{replicate}
use Rattle.std.specs.Option.{option_and_then, unwrap_or}
use Rattle.std.specs.Int.{w16, to_be_bytes}
use Rattle.std.proofs.lemmas.Bool.{le-leb, ltb-true, ltb-false}
use Rattle.std.proofs.lemmas.List.{append-nil, length-append, length-replicate}
use Rattle.std.proofs.Math.Seq.{drop-append-add, take-append_seam}
use Rattle.subsetter_base.specs.Bytes.{number, aligned, from_offset}
use Rattle.subsetter_base.proofs.ByteLemmas.{be-u16, number_at}
use Rattle.subsetter_base.proofs.Options.{just_is, bind_some}
use Rattle.subsetter_points.specs.declared.outline.Point.{Point}
use Rattle.subsetter_points.specs.Simple.{after, box, description_at, end_bytes, header_at, parts, parts_bytes, point_bytes}
use Rattle.subsetter.specs.Glyf.BareOutlines.Bare.{bare_at, bare_simple, requested_parts}
use Rattle.subsetter.specs.Glyf.Parts.{Parts, Empty, Simple, component_numbers, outline_parts}
use Rattle.subsetter.specs.Glyf.Reaching.Unfold.{padded, SameParts}
use Rattle.subsetter.proofs.GlyfLaws.ReachingLaws.Unfold.{PartsAre, parts_are, is_empty, is_simple, is_composite}

-- ---- empty, or begins as a simple glyph does

pub data IsLow (bytes : List ℕ) : Type 0 where
  nothing : bytes ≡ [] → IsLow bytes
  low : (a b : ℕ) (rest : List ℕ) → bytes ≡ a ∷ b ∷ rest → ltb a 128 ≡ true → IsLow bytes

low_word : (a b n : ℕ) (rest : List ℕ) → number (a ∷ b ∷ rest) 0 2 ≡ Some n → n < 0x8000 → ltb a 128 ≡ true
low_word a b n rest h lt = by (ltb a 128) refl
  where
    word : a * 256 + b ≡ n
    word = just_is (a * 256 + b) n (sym (number_at (a ∷ b ∷ rest) [] (a ∷ b ∷ []) rest 0 2 (a * 256 + b) refl refl refl (omega arith)) ∙ h)

    by : (q : Bool) → ltb a 128 ≡ q → ltb a 128 ≡ true
    by true e = e
    by false e = absurd (omega (arith, ltb-false a 128 e, word))

pub low_bytes : (bytes : List ℕ) (p : List ℕ × List Point) → parts bytes ≡ Some p → IsLow bytes
unfolding parts
low_bytes [] p h = nothing refl
low_bytes (a ∷ []) p h = absurd cc
low_bytes (a ∷ b ∷ rest) p h = low a b rest refl (of_header (bind_some (header_at (a ∷ b ∷ rest)) (λ header. description_at header.0 header.1) p h))
  where
    by : (n : ℕ) (body : List ℕ) (header : ℕ × List ℕ) (q : Bool) → number (a ∷ b ∷ rest) 0 2 ≡ Some n → ltb n 0x8000 ≡ q → cond q (Some (n, body)) None ≡ Some header → ltb a 128 ≡ true
    by n body header true k t e = low_word a b n rest k (ltb-true n 0x8000 t)
    by n body header false k t e = absurd cc

    of_header : (header : ℕ × List ℕ) × (header_at (a ∷ b ∷ rest) ≡ Some header) × (description_at header.0 header.1 ≡ Some p) → ltb a 128 ≡ true
    of_header t =
        let k = bind_some (number (a ∷ b ∷ rest) 0 2) (λ n. option_and_then (λ body. cond (ltb n 0x8000) (Some (n, body)) None) (after 10 (a ∷ b ∷ rest))) t.0 t.1 in
        let l = bind_some (after 10 (a ∷ b ∷ rest)) (λ body. cond (ltb k.0 0x8000) (Some (k.0, body)) None) t.0 k.2 in
        by k.0 l.0 t.0 (ltb k.0 0x8000) k.1 refl l.2

-- it leads to no other glyph
pub no_components : (bytes : List ℕ) → IsLow bytes → component_numbers bytes ≡ []
unfolding component_numbers
no_components bytes (nothing e) = rw e refl
no_components bytes (low a b rest e t) = rw (e, t) refl

-- ---- without instructions

words_length : (es : List ℕ) → length (end_bytes es) ≡ 2 * length es
words_length [] = refl
words_length (e ∷ es) = omega (arith, length-append (to_be_bytes w16 e) (end_bytes es), words_length es)

-- what is around a length of 0
bare_around : (bytes front following : List ℕ) (n : ℕ) → bytes ≡ front ++ (0 ∷ 0 ∷ following) → number bytes 0 2 ≡ Some n → length front ≡ 10 + 2 * n → bare_simple bytes ≡ bytes
unfolding bare_simple
bare_around bytes front following n is contours long =
    let size : number bytes (10 + 2 * n) 2 ≡ Some 0 = number_at bytes front (0 ∷ 0 ∷ []) following (10 + 2 * n) 2 0 is (sym long) refl refl in
    let enough : leb (10 + 2 * n + 2 + 0) (length bytes) ≡ true = le-leb _ _ (omega (arith, ap length is, length-append front (0 ∷ 0 ∷ following))) in
    let before : take (10 + 2 * n) bytes ≡ front = ap (λ (k : ℕ). take k bytes) (sym long) ∙ ap (take (length front)) is ∙ take-append_seam front (0 ∷ 0 ∷ following) in
    let rest : drop (10 + 2 * n + 2 + 0) bytes ≡ following = ap (λ (k : ℕ). drop k bytes) (omega arith) ∙ ap (drop (length front + 2)) is ∙ drop-append-add front (0 ∷ 0 ∷ following) 2 in
    ap (λ (o : Option ℕ). unwrap_or (option_and_then (λ contours. bare_at bytes (10 + 2 * contours)) o) bytes) contours
    ∙ ap (λ (o : Option ℕ). unwrap_or (option_and_then (λ size. option_and_then (λ following. Some (take (10 + 2 * n) bytes ++ 0 ∷ 0 ∷ following)) (from_offset bytes (10 + 2 * n + 2 + size))) o) bytes) size
    ∙ ap (λ (q : Bool). unwrap_or (option_and_then (λ following. Some (take (10 + 2 * n) bytes ++ 0 ∷ 0 ∷ following)) (cond q (Some (drop (10 + 2 * n + 2 + 0) bytes)) None)) bytes) enough
    ∙ ap (λ (l : List ℕ). l ++ 0 ∷ 0 ∷ drop (10 + 2 * n + 2 + 0) bytes) before ∙ ap (λ (l : List ℕ). front ++ 0 ∷ 0 ∷ l) rest ∙ sym is

-- what is written has none
pub bare_already : (es : List ℕ) (ps : List Point) → length es < 2 ^ 15 → bare_simple (aligned 2 (parts_bytes es ps)) ≡ aligned 2 (parts_bytes es ps)
unfolding bare_simple parts_bytes
bare_already es [] lt = refl
bare_already es (p ∷ ps) lt =
    let word : List ℕ = to_be_bytes w16 (length es) in
    let text : List ℕ = parts_bytes es (p ∷ ps) in
    let zeros : List ℕ = replicate ((2 - length text % 2) % 2) 0 in
    let following : List ℕ = point_bytes (p ∷ ps) ++ zeros in
    let front : List ℕ = word ++ (box p ps ++ end_bytes es) in
    let whole : aligned 2 text ≡ front ++ (0 ∷ 0 ∷ following) = simp append_assoc in
    let contours : number (aligned 2 text) 0 2 ≡ Some (length es) = number_at (aligned 2 text) [] word ((box p ps ++ end_bytes es) ++ (0 ∷ 0 ∷ following)) 0 2 (length es) (whole ∙ append_assoc word (box p ps ++ end_bytes es) (0 ∷ 0 ∷ following)) refl refl (be-u16 (length es) (omega arith)) in
    let long : length front ≡ 10 + 2 * length es = omega (arith, length-append word (box p ps ++ end_bytes es), length-append (box p ps) (end_bytes es), words_length es) in
    bare_around (aligned 2 text) front following (length es) whole contours long

-- ---- as it is subset

-- its parts
abbrev pub shown : List ℕ → Parts
shown [] = Empty
shown (a ∷ rest) = Simple (a ∷ rest)

low_parts : (bytes : List ℕ) → IsLow bytes → outline_parts bytes ≡ Some (shown bytes)
unfolding outline_parts
low_parts bytes (nothing e) = rw e refl
low_parts bytes (low a b rest e t) = rw (e, t) refl

bare_shown : (bytes : List ℕ) → IsLow bytes → bare_simple bytes ≡ bytes → requested_parts false (Some (shown bytes)) ≡ Some (shown bytes)
bare_shown bytes (nothing e) bare = rw e refl
bare_shown bytes (low a b rest e t) bare = rw e (ap (λ (l : List ℕ). Some (Simple l)) (rw e at bare))

-- whatever is asked for of instructions
pub asked_parts : (hinting : Bool) (bytes : List ℕ) → IsLow bytes → bare_simple bytes ≡ bytes → requested_parts hinting (outline_parts bytes) ≡ Some (shown bytes)
asked_parts true bytes l bare = low_parts bytes l
asked_parts false bytes l bare = ap (requested_parts false) (low_parts bytes l) ∙ bare_shown bytes l bare

pub even : (b : List ℕ) → length (aligned 2 b) % 2 ≡ 0
even b =
    let n = (2 - length b % 2) % 2 in
    omega (arith, length-append b (replicate n 0), length-replicate {A = ℕ} n 0)

even_is : (bytes : List ℕ) → length bytes % 2 ≡ 0 → aligned 2 bytes ≡ bytes
even_is bytes h =
    let none : (2 - length bytes % 2) % 2 ≡ 0 = omega (arith, h) in
    ap (λ (k : ℕ). bytes ++ replicate k 0) none ∙ append-nil bytes

-- bytes of even length get no padding
unpadded : (long : Bool) (bytes : List ℕ) → length bytes % 2 ≡ 0 → padded long bytes ≡ bytes
unpadded true bytes h = refl
unpadded false bytes h = even_is bytes h

-- the bytes of a copy with the same parts
copied : (bytes : List ℕ) (p : Parts) → PartsAre bytes p → (source : List ℕ) (long : Bool) (alike : ℕ → ℕ → Type 0) → length source % 2 ≡ 0 → SameParts long alike (shown source) p → bytes ≡ source
copied bytes p (is_empty e k) [] long alike h s = e
copied bytes p (is_empty e k) (a ∷ rest) long alike h s = absurd (rw k at s)
copied bytes p (is_simple a b rest e t k) [] long alike h s = absurd (rw k at s)
copied bytes p (is_simple a b rest e t k) (c ∷ more) long alike h s = (rw k at s) ∙ unpadded long (c ∷ more) h
copied bytes p (is_composite head chain c k) [] long alike h s = absurd (rw k at s)
copied bytes p (is_composite head chain c k) (a ∷ rest) long alike h s = absurd (rw k at s)

pub same_bytes : (bytes source : List ℕ) (p : Parts) (long : Bool) (alike : ℕ → ℕ → Type 0) → outline_parts bytes ≡ Some p → length source % 2 ≡ 0 → SameParts long alike (shown source) p → bytes ≡ source
same_bytes bytes source p long alike read h s = copied bytes p (parts_are bytes p read) source long alike h s

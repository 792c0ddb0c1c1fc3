-- A composite whose components are counted one after another.
use Rattle.std.proofs.Common.{◌≡◌, ℕ, ◌+◌, ◌<◌, ◌≤◌, Bool, true, false, not, cond, List, [], ◌∷◌, ◌++◌, append_assoc, length, get_or, take, drop, Option, Some, None, refl, sym, ap, ◌∙◌, inl, inr, arith}
use Rattle.std.specs.Prelude.{map, is_some}
use Rattle.std.specs.Option.{option_and_then, option_map, ok_or, unwrap_or}
use Rattle.std.specs.List.{flat_map}
use Rattle.std.proofs.lemmas.Bool.{cases_lt}
use Rattle.std.proofs.lemmas.List.{append-nil, length-append, length-take-le}
use Rattle.subsetter_base.specs.Indexes.{index_of}
use Rattle.subsetter_base.specs.Bytes.{be, range, number}
use Rattle.subsetter_base.specs.declared.error.Error.TheVariants.{MalformedFont}
use Rattle.subsetter_base.proofs.ByteLemmas.{range-take_drop}
use Rattle.subsetter_base.proofs.Options.{some_not_none, map_some, map_none}
use Rattle.subsetter_base.proofs.Results.{named_ok, named_err}
use Rattle.subsetter.specs.Glyf.BareOutlines.Bare.{requested_parts, requested_tail}
use Rattle.subsetter.specs.Glyf.Parts.{Component, Chain, Parts, Empty, Simple, Composite, rest_size, has_more, has_instructions, component_at, numbers_at, component_numbers, outline_parts, parts_bytes, spelled}
use Rattle.subsetter.specs.Glyf.Plain.{renumbered_component, renumbered, rewritten}
use Rattle.subsetter.specs.Glyf.Reaching.Closure.{first_byte_in, others_in}
use Rattle.subsetter.specs.Glyf.BareOutlines.Size.{requested_size}
use Rattle.subsetter.proofs.GlyfLaws.Chains.{with_front, written, kept_after, chain_text, made, is_component, text_step, chain_none, composite_is, composite_short, rewritten_begun}
use Rattle.subsetter.proofs.GlyfLaws.Components.{number_some, numbers_none, numbers_next, drop_short, components_composite}
use Rattle.subsetter.proofs.GlyfLaws.Kept.{none_before}
use Rattle.subsetter.proofs.GlyfLaws.Parts.{length-spelled}

-- ---- how many bytes there are

-- those before the components that are left, and what is written of these
abbrev pub text_size : Bool → List ℕ → ℕ → List ℕ → Option ℕ
text_size hint order before rest = option_map (λ text. before + length text) (chain_text hint order rest)

goes_on : (before size : ℕ) (front : List ℕ) (o : Option (List ℕ)) → length front ≡ size → option_map (λ text. before + size + length text) o ≡ option_map (λ text. before + length text) (with_front front o)
goes_on before size front None e = refl
goes_on before size front (Some text) e = ap Some (omega (arith, e, length-append front text))

-- a component, and others after it
pub size_goes_on : (hint : Bool) (order : List ℕ) (before : ℕ) (rest : List ℕ) (c : Component) (next : ℕ) (after : List ℕ) (total : Option ℕ) → component_at rest ≡ Some c → has_more c.flags ≡ true → after ≡ drop (4 + rest_size c.flags) rest
    → next ≡ before + (4 + rest_size c.flags) → text_size hint order before rest ≡ total → text_size hint order next after ≡ total
size_goes_on hint order before rest c next after total h more is index_of so_far =
    let k = is_component rest c h in
    let s = spelled (written hint order c) in
    let all = drop (4 + rest_size c.flags) rest in
    let step : chain_text hint order rest ≡ with_front s (chain_text hint order all) = text_step hint order rest c h ∙ ap (λ b. cond b (with_front s (chain_text hint order all)) (Some (s ++ kept_after hint c all))) more in
    let long : length s ≡ 4 + rest_size c.flags = omega (arith, length-spelled (written hint order c), k.size) in
    ap (λ n. text_size hint order n after) index_of ∙ ap (text_size hint order (before + (4 + rest_size c.flags))) is
    ∙ goes_on before (4 + rest_size c.flags) s (chain_text hint order all) long ∙ ap (option_map (λ text. before + length text)) (sym step) ∙ so_far

-- the last component
pub size_ends : (hint : Bool) (order : List ℕ) (before : ℕ) (rest : List ℕ) (c : Component) (n kept : ℕ) (after : List ℕ) (total : Option ℕ) → component_at rest ≡ Some c → has_more c.flags ≡ false → after ≡ drop (4 + rest_size c.flags) rest
    → kept ≡ length (requested_tail hint (cond (has_instructions c.flags) after [])) → n ≡ before + (4 + rest_size c.flags) + kept → text_size hint order before rest ≡ total → total ≡ Some n
size_ends hint order before rest c n kept after total h last is tail index_of so_far =
    let k = is_component rest c h in
    let s = spelled (written hint order c) in
    let all = drop (4 + rest_size c.flags) rest in
    let step : chain_text hint order rest ≡ Some (s ++ kept_after hint c all) = text_step hint order rest c h ∙ ap (λ b. cond b (with_front s (chain_text hint order all)) (Some (s ++ kept_after hint c all))) last in
    let same : length (kept_after hint c all) ≡ kept = ap (λ l. length (requested_tail hint (cond (has_instructions c.flags) l []))) (sym is) ∙ sym tail in
    sym so_far ∙ ap (option_map (λ text. before + length text)) step ∙ ap Some (omega (arith, length-append s (kept_after hint c all), length-spelled (written hint order c), k.size, same, index_of))

pub size_fails : (hint : Bool) (order : List ℕ) (before : ℕ) (rest : List ℕ) (total : Option ℕ) → component_at rest ≡ None → text_size hint order before rest ≡ total → total ≡ None
size_fails hint order before rest total h so_far = sym so_far ∙ ap (λ (o : Option Chain). option_map (λ text. before + length text) (option_map (λ chain. flat_map spelled (map (written hint order) chain.components) ++ requested_tail hint chain.tail) o)) (chain_none (length rest) rest h)

-- ---- the whole composite

components_alike : (order : List ℕ) (cs : List Component) → length (flat_map spelled (map (renumbered_component order) cs)) ≡ length (flat_map spelled cs)
components_alike order [] = refl
components_alike order (c ∷ cs) = omega (arith, length-append (spelled (renumbered_component order c)) (flat_map spelled (map (renumbered_component order) cs)), length-append (spelled c) (flat_map spelled cs), length-spelled (renumbered_component order c), length-spelled c, components_alike order cs)

-- new numbers take as many bytes
pub length-renumbered : (order : List ℕ) (p : Parts) → length (parts_bytes (renumbered order p)) ≡ length (parts_bytes p)
length-renumbered order Empty = refl
length-renumbered order (Simple bytes) = refl
length-renumbered order (Composite head chain) =
    let old = flat_map spelled chain.components in
    let new = flat_map spelled (map (renumbered_component order) chain.components) in
    let before : length (head ++ new ++ chain.tail) ≡ length head + (length new + length chain.tail) = omega (arith, length-append (head ++ new) chain.tail, length-append head new) in
    let after : length (head ++ old ++ chain.tail) ≡ length head + (length old + length chain.tail) = omega (arith, length-append (head ++ old) chain.tail, length-append head old) in
    before ∙ ap (λ n. length head + (n + length chain.tail)) (components_alike order chain.components) ∙ sym after

pub size_of_parts : (hint : Bool) (bytes : List ℕ) (p : Parts) → requested_parts hint (outline_parts bytes) ≡ Some p → requested_size hint (Some bytes) ≡ length (parts_bytes p)
size_of_parts hint bytes p h = ap (λ (o : Option Parts). length (unwrap_or (option_map parts_bytes o) [])) h

abbrev asked_text : Bool → List ℕ → List ℕ → Option (List ℕ)
asked_text hint order bytes = option_map (λ p. parts_bytes (renumbered order p)) (requested_parts hint (outline_parts bytes))

text_is : (hint : Bool) (order bytes : List ℕ) → 10 ≤ length bytes → 128 ≤ first_byte_in (Some bytes) → ok_or (asked_text hint order bytes) MalformedFont ≡ ok_or (with_front (take 10 bytes) (chain_text hint order (drop 10 bytes))) MalformedFont
unfolding rewritten
text_is hint order bytes le high = rewritten_begun hint order bytes (first_byte_in (Some bytes)) refl high ∙ composite_is hint order bytes le

front_size : (front : List ℕ) (n : ℕ) (o : Option (List ℕ)) → option_map (λ text. length front + length text) o ≡ Some n → (text : List ℕ) × (with_front front o ≡ Some text) × (length text ≡ n)
front_size front n None h = absurd cc
front_size front n (Some text) h = (front ++ text, refl, length-append front text ∙ (let e : length front + length text ≡ n = cc in e))

-- a composite was counted
pub counted_whole : (hint : Bool) (order bytes : List ℕ) (n : ℕ) → 10 ≤ length bytes → 128 ≤ first_byte_in (Some bytes) → text_size hint order 10 (drop 10 bytes) ≡ Some n → n ≡ requested_size hint (Some bytes)
counted_whole hint order bytes n le high h =
    let head : length (take 10 bytes) ≡ 10 = length-take-le 10 bytes le in
    let f = front_size (take 10 bytes) n (chain_text hint order (drop 10 bytes)) (ap (λ k. text_size hint order k (drop 10 bytes)) head ∙ h) in
    let whole = named_ok (asked_text hint order bytes) MalformedFont f.0 (text_is hint order bytes le high ∙ ap (λ (o : Option (List ℕ)). ok_or o MalformedFont) f.1) in
    let m = map_some (λ p. parts_bytes (renumbered order p)) (requested_parts hint (outline_parts bytes)) f.0 whole in
    omega (arith, f.2, ap length m.2, length-renumbered order m.0, size_of_parts hint bytes m.0 m.1)

none_after : (before : ℕ) (front : List ℕ) (o : Option (List ℕ)) → option_map (λ text. before + length text) o ≡ None → with_front front o ≡ None
none_after before front None h = refl
none_after before front (Some text) h = absurd cc

-- a cut one has no parts
pub cut_whole : (hint : Bool) (order bytes : List ℕ) (before : ℕ) → 10 ≤ length bytes → 128 ≤ first_byte_in (Some bytes) → text_size hint order before (drop 10 bytes) ≡ None → outline_parts bytes ≡ None
cut_whole hint order bytes before le high h =
    let none : with_front (take 10 bytes) (chain_text hint order (drop 10 bytes)) ≡ None = none_after before (take 10 bytes) (chain_text hint order (drop 10 bytes)) h in
    let u = named_err (asked_text hint order bytes) MalformedFont MalformedFont (text_is hint order bytes le high ∙ ap (λ (o : Option (List ℕ)). ok_or o MalformedFont) none) in
    none_before hint (outline_parts bytes) (map_none (λ p. parts_bytes (renumbered order p)) (requested_parts hint (outline_parts bytes)) u.0)

pub short_whole : (bytes : List ℕ) → length bytes < 10 → 128 ≤ first_byte_in (Some bytes) → outline_parts bytes ≡ None
unfolding rewritten
short_whole bytes lt high =
    let u = named_err (asked_text true [] bytes) MalformedFont MalformedFont (rewritten_begun true [] bytes (first_byte_in (Some bytes)) refl high ∙ composite_short true [] bytes lt) in
    map_none (λ p. parts_bytes (renumbered [] p)) (outline_parts bytes) u.0

-- ---- the components that wait

none_here : numbers_at 0 [] ≡ []
unfolding numbers_at
none_here = refl

read_here : (l : List ℕ) (at n : ℕ) → at + 2 ≤ length l → number l at 2 ≡ Some n → n ≡ be (take 2 (drop at l))
read_here l at n le e = let z : Some (be (take 2 (drop at l))) ≡ Some n = sym (number_some l at 2 le) ∙ e in sym cc

empty_or : (b : Bool) (after : List ℕ) → numbers_at (length (cond b after [])) (cond b after []) ≡ cond b (numbers_at (length after) after) []
empty_or true after = refl
empty_or false after = none_here

-- a component at the front, and those after it
numbers_of : (bytes : List ℕ) (c : Component) (after : List ℕ) → component_at bytes ≡ Some c → after ≡ drop (4 + rest_size c.flags) bytes → numbers_at (length bytes) bytes ≡ c.glyph ∷ cond (has_more c.flags) (numbers_at (length after) after) []
numbers_of bytes c after h is =
    let k = is_component bytes c h in
    let rest = cond (has_more c.flags) after [] in
    let e : rest ≡ cond (has_more c.flags) (drop (4 + rest_size c.flags) bytes) [] = ap (λ (l : List ℕ). cond (has_more c.flags) l []) is in
    numbers_next bytes rest c.flags c.glyph (omega (arith, k.within)) (read_here bytes 0 c.flags (omega (arith, k.within)) k.flags_is) (read_here bytes 2 c.glyph (omega (arith, k.within)) k.glyph_is) e
    ∙ ap (λ (l : List ℕ). c.glyph ∷ l) (empty_or (has_more c.flags) after)

-- those that wait, where the last one was looked at
abbrev pub all_wait : List ℕ → List ℕ → List ℕ → List ℕ
all_wait order waiting numbers = waiting ++ others_in order numbers

waits_by : (order waiting next more : List ℕ) (g : ℕ) (b : Bool) → is_some (index_of order g) ≡ b → next ≡ cond b waiting (waiting ++ g ∷ []) → all_wait order waiting (g ∷ more) ≡ all_wait order next more
waits_by order waiting next more g true known is = ap (λ q. waiting ++ cond (not q) (g ∷ others_in order more) (others_in order more)) known ∙ ap (λ (l : List ℕ). l ++ others_in order more) (sym is)
waits_by order waiting next more g false known is = ap (λ q. waiting ++ cond (not q) (g ∷ others_in order more) (others_in order more)) known ∙ sym (append_assoc waiting (g ∷ []) (others_in order more)) ∙ ap (λ (l : List ℕ). l ++ others_in order more) (sym is)

pub waits_on : (order waiting next rest after : List ℕ) (c : Component) (total : List ℕ) → component_at rest ≡ Some c → after ≡ drop (4 + rest_size c.flags) rest → has_more c.flags ≡ true → next ≡ cond (is_some (index_of order c.glyph)) waiting (waiting ++ c.glyph ∷ [])
    → all_wait order waiting (numbers_at (length rest) rest) ≡ total → all_wait order next (numbers_at (length after) after) ≡ total
waits_on order waiting next rest after c total h is more e so_far =
    sym (waits_by order waiting next (numbers_at (length after) after) c.glyph (is_some (index_of order c.glyph)) refl e)
    ∙ ap (all_wait order waiting) (sym (numbers_of rest c after h is ∙ ap (λ b. c.glyph ∷ cond b (numbers_at (length after) after) []) more)) ∙ so_far

pub waits_end : (order waiting next rest after : List ℕ) (c : Component) (total : List ℕ) → component_at rest ≡ Some c → after ≡ drop (4 + rest_size c.flags) rest → has_more c.flags ≡ false → next ≡ cond (is_some (index_of order c.glyph)) waiting (waiting ++ c.glyph ∷ [])
    → all_wait order waiting (numbers_at (length rest) rest) ≡ total → next ≡ total
waits_end order waiting next rest after c total h is last e so_far =
    sym (append-nil next) ∙ sym (waits_by order waiting next [] c.glyph (is_some (index_of order c.glyph)) refl e)
    ∙ ap (all_wait order waiting) (sym (numbers_of rest c after h is ∙ ap (λ b. c.glyph ∷ cond b (numbers_at (length after) after) []) last)) ∙ so_far

-- a cut component at the front is the last
one_or_none : (b : Bool) (l : List ℕ) → l ≡ [] → [] ≡ cond b l []
one_or_none true l e = sym e
one_or_none false l e = refl

whole_there : (bytes : List ℕ) (flags glyph : ℕ) → number bytes 0 2 ≡ Some flags → number bytes 2 2 ≡ Some glyph → 4 + rest_size flags ≤ length bytes → component_at bytes ≡ made flags glyph (take (rest_size flags) (drop 4 bytes))
whole_there bytes flags glyph f g le =
    ap (λ (o : Option ℕ). option_and_then (λ x. option_and_then (λ y. option_and_then (λ rest. made x y rest) (range bytes 4 (rest_size x))) (number bytes 2 2)) o) f
    ∙ ap (λ (o : Option ℕ). option_and_then (λ y. option_and_then (λ rest. made flags y rest) (range bytes 4 (rest_size flags))) o) g
    ∙ ap (λ (o : Option (List ℕ)). option_and_then (λ rest. made flags glyph rest) o) (range-take_drop bytes 4 (rest_size flags) le)

cut_short : (bytes : List ℕ) → component_at bytes ≡ None → 4 ≤ length bytes → length bytes < 4 + rest_size (be (take 2 (drop 0 bytes)))
cut_short bytes h le =
    let flags = be (take 2 (drop 0 bytes)) in
    elim (cases_lt (length bytes) (4 + rest_size flags)) [
      | inl lt ↦ lt
      | inr whole ↦ absurd (some_not_none (component_at bytes) _ (whole_there bytes flags (be (take 2 (drop 2 bytes))) (number_some bytes 0 2 (omega (arith, le))) (number_some bytes 2 2 le) whole) h)
    ]

cut_numbers : (bytes : List ℕ) (g : ℕ) → component_at bytes ≡ None → 4 ≤ length bytes → g ≡ be (take 2 (drop 2 bytes)) → numbers_at (length bytes) bytes ≡ g ∷ []
cut_numbers bytes g h le is =
    let flags = be (take 2 (drop 0 bytes)) in
    let short = cut_short bytes h le in
    numbers_next bytes [] flags g le refl is (one_or_none (has_more flags) (drop (4 + rest_size flags) bytes) (drop_short (4 + rest_size flags) bytes (omega (arith, short)))) ∙ ap (λ (l : List ℕ). g ∷ l) none_here

pub waits_cut : (order waiting next bytes : List ℕ) (g : ℕ) → component_at bytes ≡ None → 4 ≤ length bytes → g ≡ be (take 2 (drop 2 bytes)) → next ≡ cond (is_some (index_of order g)) waiting (waiting ++ g ∷ []) → next ≡ all_wait order waiting (numbers_at (length bytes) bytes)
waits_cut order waiting next bytes g h le is e =
    sym (append-nil next) ∙ sym (waits_by order waiting next [] g (is_some (index_of order g)) refl e) ∙ ap (all_wait order waiting) (sym (cut_numbers bytes g h le is))

pub waits_none : (order waiting bytes : List ℕ) → length bytes < 4 → waiting ≡ all_wait order waiting (numbers_at (length bytes) bytes)
waits_none order waiting bytes lt = sym (append-nil waiting) ∙ ap (all_wait order waiting) (sym (numbers_none (length bytes) bytes lt))

pub waits_start : (order waiting bytes : List ℕ) → 10 ≤ length bytes → 128 ≤ first_byte_in (Some bytes) → all_wait order waiting (numbers_at (length (drop 10 bytes)) (drop 10 bytes)) ≡ all_wait order waiting (component_numbers bytes)
waits_start order waiting bytes le high = ap (all_wait order waiting) (sym (components_composite bytes le (first_high bytes le high)))
  where
    first_high : (l : List ℕ) → 10 ≤ length l → 128 ≤ first_byte_in (Some l) → 128 ≤ get_or l 0 0
    first_high [] a b = absurd (omega (arith, a))
    first_high (x ∷ []) a b = absurd (omega (arith, a))
    first_high (x ∷ y ∷ l) a b = b

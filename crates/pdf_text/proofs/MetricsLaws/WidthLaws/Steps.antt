-- Steps of the loops over widths.
use Rattle.std.proofs.Common.{◌≡◌, ℕ, suc, zero, ◌+◌, ◌-◌, ◌<◌, ◌≤◌, false, List, [], ◌∷◌, ◌++◌, length, map, take, drop, get_or, refl, sym, ap, ◌∙◌, append_assoc, append-nil, arith}
use Rattle.std.specs.Prelude.{◌==◌}
use Rattle.std.proofs.lemmas.List.{map-append, take_all}
use Rattle.std.proofs.lemmas.Bool.Decides.{nat_tests}
use Rattle.std.specs.List.{join_with_byte}
use Rattle.subsetter_base.proofs.TextLemmas.{spaced, list_begun}
use Rattle.subsetter_base.proofs.Lists.{rest_of}
use Rattle.pdf_text.specs.declared.metrics.arrays.Part.{Part}
use Rattle.pdf_text.specs.View.{part_view, parts_view}
use Rattle.pdf_text.specs.Metrics.Arrays.{Entry, each, six_equal, listed, opened, more, entries_from, entry_text}

-- a list that isn't empty, as a pattern takes it apart
pub headed : (ws : List ℕ) → 1 ≤ length ws → ws ≡ get_or ws 0 0 ∷ take (length ws - 1) (drop 1 ws)
headed [] l = absurd (omega arith)
headed (w ∷ ws) l = ap (λ (l : List ℕ). w ∷ l) (sym (rest_of 1 (w ∷ ws)))

pub front_more : (n : ℕ) (w : ℕ) (ws widths : List ℕ) → widths ≡ w ∷ ws → take (n + 1) widths ≡ w ∷ take n ws
front_more n w ws widths e = let one : n + 1 ≡ suc n = omega arith in rw (e, one) refl

pub one_more_part : (xs : List Part) (x : Part) → parts_view (xs ++ x ∷ []) ≡ parts_view xs ++ part_view x ∷ []
one_more_part xs x = map-append part_view xs (x ∷ [])

-- a width that is settled
pub past_settled : (most : ℕ) (front : List Entry) (first d settled n w : ℕ) (ws widths : List ℕ) → 0 < settled → n ≡ settled - 1 → widths ≡ w ∷ ws → front ++ entries_from most (first + 1) d n ws ≡ front ++ entries_from most first d settled widths
past_settled most front first d zero n w ws widths l m e = absurd (omega arith)
past_settled most front first d (suc settled) n w ws widths l m e = let same_number : n ≡ settled = omega arith in rw (e, same_number) refl

-- a width at which something opens
pub past_opened : (most : ℕ) (old new : List Entry) (first d settled n w : ℕ) (ws widths : List ℕ) → settled ≤ 0 → widths ≡ w ∷ ws → new ≡ old ++ opened most first d w ws → n ≡ more most d w ws → new ++ entries_from most (first + 1) d n ws ≡ old ++ entries_from most first d settled widths
past_opened most old new first d zero n w ws widths l e f m = rw (e, f, m) (append_assoc old (opened most first d w ws) (entries_from most (first + 1) d (more most d w ws) ws))
past_opened most old new first d (suc settled) n w ws widths l e f m = absurd (omega arith)

-- no width is left
pub all_past : (most : ℕ) (front all : List Entry) (first d settled : ℕ) (rest : List ℕ) → length rest ≤ 0 → front ++ entries_from most first d settled rest ≡ all → front ≡ all
all_past most front all first d settled [] l e = sym (append-nil front) ∙ e
all_past most front all first d settled (w ∷ rest) l e = absurd (omega arith)

-- a list opens
list_opens : (most first d w : ℕ) (ws : List ℕ) → (w == d) ≡ false → six_equal (w ∷ ws) ≡ false → each first (w ∷ take (listed most d ws) ws) ∷ [] ≡ opened most first d w ws
list_opens most first d w ws p q = rw (p, q) refl

unlike : (w d : ℕ) → (w ≡ d → ⊥) → (w == d) ≡ false
unlike w d h = grind (arith, nat_tests)

pub list_opened : (most first d n w : ℕ) (ws widths : List ℕ) → widths ≡ w ∷ ws → (w ≡ d → ⊥) → six_equal widths ≡ false → n ≡ listed most d ws → each first (take (n + 1) widths) ∷ [] ≡ opened most first d w ws
list_opened most first d n w ws widths e h six m =
    ap (λ (l : List ℕ). each first l ∷ []) (front_more n w ws widths e ∙ ap (λ k. w ∷ take k ws) m)
    ∙ list_opens most first d w ws (unlike w d h) (sym (ap (λ (l : List ℕ). six_equal l) e) ∙ six)

-- ---- the parts' text

rest_of_parts : (p : Part) (ps : List Part) → take (length (p ∷ ps) - 1) (drop 1 (p ∷ ps)) ≡ ps
rest_of_parts p ps = take_all (length (p ∷ ps) - 1) ps (omega arith)

pub parts_begun : (d : Part) (old new : List ℕ) (ps : List Part) → 1 ≤ length ps → new ≡ old ++ entry_text (part_view (get_or ps 0 d)) → new ++ spaced (map entry_text (parts_view (take (length ps - 1) (drop 1 ps)))) ≡ old ++ join_with_byte 32 (map entry_text (parts_view ps))
parts_begun d old new [] l e = absurd (omega arith)
parts_begun d old new (p ∷ ps) l e =
    ap (λ (l : List Part). new ++ spaced (map entry_text (parts_view l))) (rest_of_parts p ps) ∙ list_begun old new (entry_text (part_view p)) (map entry_text (parts_view ps)) e

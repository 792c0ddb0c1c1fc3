-- The whole of W: what a reader finds, and that neither it nor a list in it is long.
use Rattle.std.proofs.Common.{◌≡◌, ℕ, ◌<◌, ◌^◌, List, length, get_or, Option, Some, ap, ◌∙◌, arith}
use Rattle.std.specs.Option.{option_map}
use Rattle.pdf_text.specs.Metrics.Arrays.{Entry, width_in, array_text, entries_from, lists_from, has_room, entries, value_in, AreRead, AreAtMost, AreShort}
use Rattle.pdf_text.proofs.MetricsLaws.WidthLaws.Text.{AreSmall, AllSmall, array_read, entries_small, entries_short}
use Rattle.pdf_text.proofs.MetricsLaws.WidthLaws.Lists.{either, lists_small, lists_short, entries_read}

all_small : (ws : List ℕ) (d : ℕ) → length ws < 2 ^ 64 → AreSmall ws → AllSmall (entries ws d)
all_small ws d l h =
    either AllSmall (has_room 1 (entries_from 8189 0 d 0 ws)) (entries_from 8189 0 d 0 ws) (lists_from 8189 (length ws) 0 ws)
    (entries_small 8189 ws 0 d 0 (omega arith) h) (lists_small 8189 (length ws) 0 ws (omega arith) h)

pub widths_are_read : AreRead
widths_are_read ws d k h l m =
    ap (λ (o : Option (List Entry)). option_map (λ es. width_in es d k) o) (array_read (entries ws d) (all_small ws d l h))
    ∙ ap Some (entries_read ws d k m)

pub lists_are_short : (ws : List ℕ) (d : ℕ) → AreShort (entries ws d)
lists_are_short ws d =
    either (AreAtMost 8190) (has_room 1 (entries_from 8189 0 d 0 ws)) (entries_from 8189 0 d 0 ws) (lists_from 8189 (length ws) 0 ws)
    (entries_short 8189 ws 0 d 0) (lists_short 8190 8189 (length ws) 0 ws (omega arith))

pub value_of_text : (ws : List ℕ) (d : ℕ) (text : List ℕ) → AreSmall ws → length ws < 2 ^ 64 → text ≡ array_text (entries ws d) → (k : ℕ) → k < length ws → value_in text d k ≡ Some (get_or ws k d)
value_of_text ws d text h l e k m = ap (λ (t : List ℕ). value_in t d k) e ∙ widths_are_read ws d k h l m

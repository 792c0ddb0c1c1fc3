-- The SIDs of glyphs by a charset (Technical Note 5176, section 13 "Charsets").
use Rattle.std.specs.Prelude.{ℕ, zero, suc, ◌+◌, ◌==◌, nat_le, if◌then◌else◌, List, [], ◌∷◌, drop, Option, Some, None}
use Rattle.std.specs.Option.{option_map, option_and_then, option_map_or}
use Rattle.subsetter_base.specs.Bytes.{number}

-- SIDs in a row: the first, how many more there are, how many of them were taken, and the bytes after
pub record Run : Type 0 where
  pub first : ℕ
  pub left : ℕ
  pub taken : ℕ
  pub rest : List ℕ

-- the range at the front: its first SID, and in format 1 a byte, in format 2 two bytes that say how many more there
-- are. In format 0 each SID is a range of its own
abbrev pub run_at : ℕ → List ℕ → Option Run
run_at format bytes =
    option_and_then (λ first. option_map (λ left.
    record { first = first; left = left; taken = 0; rest = drop (2 + format) bytes })
    (number bytes 2 format))
    (number bytes 0 2)

abbrev pub take_one : Run → ℕ × Run
take_one r = (r.first + r.taken, record r { taken = r.taken + 1 })

-- the next SID of a charset, and the run after it
abbrev pub next_sid : ℕ → Run → Option (ℕ × Run)
next_sid format r = if nat_le r.taken r.left then Some (take_one r) else option_map take_one (run_at format r.rest)

-- the next n SIDs, as far as they are there
unfoldable pub sids : ℕ → ℕ → Run → List ℕ
sids format zero r = []
sids format (suc n) r = option_map_or (λ s. s.0 ∷ sids format n s.1) (next_sid format r) []

-- glyph 0 has SID 0, and isn't in the charset
abbrev pub sids_in : ℕ → List ℕ → List ℕ
sids_in count [] = []
sids_in count (format ∷ bytes) =
    if nat_le format 2 then sids format count (record { first = 0; left = 0; taken = 0; rest = bytes }) else []

-- the SIDs of `count` glyphs, by the offset of the charset: 0 is ISOAdobe, which has the SIDs 0 to 228 in a row. Expert
-- (1) and ExpertSubset (2) aren't read
abbrev pub sids_at : List ℕ → ℕ → ℕ → List ℕ
sids_at cff count offset =
    if offset == 0 then sids 0 count (record { first = 0; left = 228; taken = 0; rest = [] })
    else (if nat_le offset 2 then [] else sids_in count (drop offset cff))

-- Stretches of a charstring whose bytes are their own flat form.
use Rattle.std.specs.Prelude.{◌≡◌, ℕ, ◌+◌, ◌<◌, ◌≤◌, List, ◌∷◌, ◌++◌, length, take, drop}
use Rattle.subsetter_type2.specs.Runs.Machine.{Library, Registers, Outcome}
use Rattle.subsetter_type2.specs.Runs.Following.{ReachedAfter}
use Rattle.subsetter_type2.specs.Runs.Output.{Written}
use Rattle.subsetter_type2.specs.Runs.OutputView.{IsOutput, operands_offset, last_operand_offset}
use Rattle.subsetter_type2.specs.declared.stretches.stretch.Stretch.{Stretch}

abbrev pub registers_with : Written → ℕ → ℕ → Registers
registers_with w stems mask_len = record { operands = w.operands; stems = stems; mask_len = mask_len }

-- each run that comes to this text comes to the place after its first `len` bytes by `tokens` tokens, and this is
-- written then
abbrev pub Advances : List ℕ → ℕ → ℕ → ℕ → Written → Written → Type 0
Advances charstring len tokens mask_len w now =
    (front : List ℕ) (o : Outcome) (library : Library) (depth all left stems : ℕ) (callers : List (List ℕ))
    → length callers < depth → all ≡ tokens + left
    → ReachedAfter front o library depth all
    (record { rests = charstring ∷ callers; registers = registers_with w stems mask_len }) w.settled
    → ReachedAfter front o library depth left
    (record { rests = drop len charstring ∷ callers; registers = registers_with now stems mask_len }) now.settled

-- each token has a byte, and each byte is one of a token
pub record IsSound (s : Stretch) : Type 0 where
  pub few : s.tokens ≤ s.len
  pub moves : s.tokens ≡ 0 → s.len ≡ 0
  pub ends : s.settled ≤ s.len
  pub last : s.last ≤ s.len

-- what is written after a stretch whose bytes are after these, of which the operands begin at this place
pub record Comes (charstring : List ℕ) (mask_len : ℕ) (bytes : List ℕ) (settled : ℕ) (w : Written) (s : Stretch)
    : Type 0 where
  pub now : Written
  pub stands : IsOutput (bytes ++ take s.len charstring) (operands_offset s.settled settled (length bytes)) s.count now
  pub leads : Advances charstring s.len s.tokens mask_len w now
  pub last : 1 ≤ s.tokens → 1 ≤ s.count → length bytes + s.last ≡ last_operand_offset now

-- a stretch that goes further
pub record Extends (charstring : List ℕ) (mask_len : ℕ) (s longer : Stretch) : Type 0 where
  pub step : (bytes : List ℕ) (settled : ℕ) (w : Written) → Comes charstring mask_len bytes settled w s
      → Comes charstring mask_len bytes settled w longer

-- one token longer, with at most `most` tokens
pub record IsLonger (charstring : List ℕ) (most mask_len : ℕ) (s longer : Stretch) : Type 0 where
  pub sound : IsSound longer
  pub extends : Extends charstring mask_len s longer
  pub more : s.len < longer.len
  pub inside : longer.len ≤ length charstring
  pub few : longer.tokens ≤ most

-- How far a charstring may run, and how many bytes the font may have, as an argument writes it.
use Rattle.std.specs.Prelude.{ℕ, ◌==◌, Bool, if◌then◌else◌, List, Option, Some, None}
use Rattle.std.specs.Option.{option_map, option_and_then}
use Rattle.std.specs.List.{before_first, after_first}
use Rattle.subset_args.specs.Words.{number_in_bits}
use Rattle.subset_args.specs.Coordinates.{has_byte}
use Rattle.subset_args.specs.declared.limits.RunLimits.{RunLimits}

-- the limits on tokens and on depth; and the bound on bytes, if there is one
pub record Bounds : Type 0 where
  pub tokens : ℕ
  pub depth : ℕ
  pub bytes : Option ℕ

abbrev pub limits_view : RunLimits → Bounds
limits_view limits = record { tokens = limits.tokens; depth = limits.depth; bytes = limits.bytes }

-- a depth has 8 bits and isn't 0
abbrev pub depth_in : List ℕ → Option ℕ
depth_in word = option_and_then (λ depth. if depth == 0 then None else Some depth) (number_in_bits 8 word)

abbrev pub limits_from : List ℕ → List ℕ → Option ℕ → Option Bounds
limits_from tokens depth bytes =
    option_and_then (λ t. option_map (λ d. record { tokens = t; depth = d; bytes = bytes }) (depth_in depth))
    (number_in_bits 32 tokens)

abbrev pub is_comma : ℕ → Bool
is_comma b = b == 44

-- after the tokens: the depth, and the bytes after a comma, if there is one
abbrev pub limits_after : List ℕ → List ℕ → Option Bounds
limits_after tokens word =
    if has_byte is_comma word
    then option_and_then (λ bytes. limits_from tokens (before_first is_comma word) (Some bytes))
    (number_in_bits 32 (after_first is_comma word))
    else limits_from tokens word None

-- the limits that an argument writes, `TOKENS,DEPTH[,BYTES]`
abbrev pub limits_in : List ℕ → Option Bounds
limits_in word =
    if has_byte is_comma word then limits_after (before_first is_comma word) (after_first is_comma word) else None

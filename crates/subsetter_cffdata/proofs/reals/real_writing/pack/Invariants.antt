use Rattle.std.proofs.Common.{◌≡◌, ◌+◌, ◌*◌, ◌<◌, ◌≤◌, ◌++◌, ◌∷◌, length}
use Rattle.std.specs.List.{AllByRecursion}
use Rattle.subsetter_cffdata.specs.Reals.Decimals.{packed}
use Rattle.subsetter_cffdata.specs.Reals.TextSteps.{shown}
use Rattle.subsetter_cffdata.proofs.reals.real_writing.pack.Given as goal

-- what is packed, and what is left
abbrev pub invariant-loop-rest : goal.invariant-loop-rest
invariant-loop-rest l = record {
  packed : shown l.bytes ++ packed l.rest ≡ 30 ∷ packed l.text;
  characters : AllByRecursion (λ c. c < 16) l.rest;
  len : 2 * l.bytes.len + length l.rest ≤ 66;
}

abbrev pub decreases-loop-rest : goal.decreases-loop-rest
decreases-loop-rest l = length l.rest

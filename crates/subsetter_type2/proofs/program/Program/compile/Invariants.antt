use Rattle.std.proofs.Common.{◌≡◌, take}
use Rattle.subsetter_type2.specs.ProgramView.{program_bytes}
use Rattle.subsetter_type2.proofs.program.Program.compile.Given as goal

abbrev pub invariant-loop-instruction : goal.invariant-loop-instruction
invariant-loop-instruction l = l.bytes.items ≡ program_bytes (take l.instruction-index l.instruction-items)

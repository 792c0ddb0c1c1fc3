-- How a program holds what is written.
use Rattle.std.specs.Prelude.{◌≡◌, ℕ, ◌-◌, List, ◌++◌, map, length, take}
use Rattle.std.specs.List.{flat_map}
use Rattle.subsetter_cffdata.specs.declared.numerals.charstring_number.CharStringNumber.{CharStringNumber}
use Rattle.subsetter_type2.specs.declared.program.Instruction.{Instruction}
use Rattle.subsetter_type2.specs.declared.program.Instruction.TheVariants as instruction
use Rattle.subsetter_cffdata.specs.Numerals.CharStringNumber.{written}
use Rattle.subsetter_cffdata.specs.Views.{operator_of}
use Rattle.subsetter_type2.specs.Runs.Output.{Written}

abbrev pub instruction_bytes : Instruction → List ℕ
instruction_bytes (instruction.Operand number) = written number
instruction_bytes (instruction.Operator operator) = operator_of operator
instruction_bytes (instruction.HintMask mask) = mask.now

abbrev pub program_bytes : List Instruction → List ℕ
program_bytes program = flat_map instruction_bytes program

abbrev pub operand_instructions : List CharStringNumber → List Instruction
operand_instructions numbers = map (λ n. instruction.Operand n) numbers

-- what is before the operands on the stack
abbrev pub settled_program : List Instruction → List CharStringNumber → List Instruction
settled_program program numbers = take (length program - length numbers) program

abbrev pub draft_of : List Instruction → List CharStringNumber → Written
draft_of program numbers = record { settled = program_bytes (settled_program program numbers); operands = numbers }

-- after the settled instructions come the operands
pub record IsDraft (program settled : List Instruction) (numbers : List CharStringNumber) : Type 0 where
  pub program_is : program ≡ settled ++ operand_instructions numbers

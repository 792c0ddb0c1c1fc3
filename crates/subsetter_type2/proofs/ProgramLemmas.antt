-- The operands at the end of a program.
use Rattle.std.proofs.Common.{◌≡◌, ℕ, ◌-◌, List, [], ◌∷◌, ◌++◌, length, refl, sym, ap, ◌∙◌, arith, append_assoc, append-nil}
use Rattle.std.proofs.lemmas.List.{take_all}
use Rattle.std.proofs.lemmas.Grind.{flat_map-append}
use Rattle.subsetter_cffdata.specs.declared.numerals.charstring_number.CharStringNumber.{CharStringNumber}
use Rattle.subsetter_type2.specs.declared.program.Instruction.{Instruction}
use Rattle.std.specs.Borrow.{Bor}
use Rattle.subsetter_cffdata.specs.declared.dicts.operator.Operator.{Operator}
use Rattle.subsetter_type2.specs.declared.program.Instruction.TheVariants as instruction
use Rattle.subsetter_cffdata.specs.Views.{operator_of}
use Rattle.subsetter_cffdata.specs.Numerals.CharStringNumber.{written}
use Rattle.subsetter_type2.specs.Flat.{flat_operands}
use Rattle.subsetter_type2.specs.ProgramView.{instruction_bytes, program_bytes, operand_instructions, settled_program, draft_of, IsDraft}

operands_bytes : (ns : List CharStringNumber) → program_bytes (operand_instructions ns) ≡ flat_operands ns
operands_bytes [] = refl
operands_bytes (n ∷ ns) = ap (λ b. written n ++ b) (operands_bytes ns)

-- instructions that take all operands
drawn : (program settled program' added : List Instruction) (numbers numbers' : List CharStringNumber) → IsDraft program settled numbers → numbers' ≡ [] → program' ≡ program ++ added → draft_of program' numbers' ≡ record { settled = program_bytes settled ++ (flat_operands numbers ++ program_bytes added); operands = [] }
drawn program settled program' added numbers numbers' h e d =
    let whole : settled_program program' [] ≡ program' = take_all (length program' - 0) program' (omega arith) in
    let flat : program ++ added ≡ settled ++ (operand_instructions numbers ++ added) =
    ap (λ p. p ++ added) h.program_is ∙ append_assoc settled (operand_instructions numbers) added in
    let bytes : program_bytes program' ≡ program_bytes settled ++ (flat_operands numbers ++ program_bytes added) =
    ap program_bytes (d ∙ flat) ∙ flat_map-append instruction_bytes settled _
    ∙ ap (λ b. program_bytes settled ++ b) (flat_map-append instruction_bytes (operand_instructions numbers) added
    ∙ ap (λ b. b ++ program_bytes added) (operands_bytes numbers)) in
    rw e (ap (λ p. record { settled = p; operands = [] }) (ap program_bytes whole ∙ bytes))

-- an operator and its mask
pub drawn_masked : (program settled program' : List Instruction) (numbers numbers' : List CharStringNumber) (operator : Operator) (mask : Bor (List ℕ)) → IsDraft program settled numbers → numbers' ≡ [] → program' ≡ (program ++ instruction.Operator operator ∷ []) ++ instruction.HintMask mask ∷ [] → draft_of program' numbers' ≡ record { settled = program_bytes settled ++ (flat_operands numbers ++ (operator_of operator ++ mask.now)); operands = [] }
drawn_masked program settled program' numbers numbers' operator mask h e d =
    drawn program settled program' (instruction.Operator operator ∷ instruction.HintMask mask ∷ []) numbers numbers' h e
    (d ∙ append_assoc program (instruction.Operator operator ∷ []) (instruction.HintMask mask ∷ []))
    ∙ ap (λ b. record { settled = program_bytes settled ++ (flat_operands numbers ++ (operator_of operator ++ b)); operands = [] }) (append-nil mask.now)

-- an operator without a mask
pub drawn_plain : (program settled program' : List Instruction) (numbers numbers' : List CharStringNumber) (operator : Operator) (mask : List ℕ) → IsDraft program settled numbers → numbers' ≡ [] → program' ≡ program ++ instruction.Operator operator ∷ [] → mask ≡ [] → draft_of program' numbers' ≡ record { settled = program_bytes settled ++ (flat_operands numbers ++ (operator_of operator ++ mask)); operands = [] }
drawn_plain program settled program' numbers numbers' operator mask h e d n =
    drawn program settled program' (instruction.Operator operator ∷ []) numbers numbers' h e d
    ∙ ap (λ b. record { settled = program_bytes settled ++ (flat_operands numbers ++ (operator_of operator ++ b)); operands = [] }) (sym n)

pub all_bytes : (program settled : List Instruction) (numbers : List CharStringNumber) → IsDraft program settled numbers → program_bytes program ≡ program_bytes settled ++ flat_operands numbers
all_bytes program settled numbers h =
    ap program_bytes h.program_is ∙ flat_map-append instruction_bytes settled (operand_instructions numbers) ∙ ap (λ b. program_bytes settled ++ b) (operands_bytes numbers)

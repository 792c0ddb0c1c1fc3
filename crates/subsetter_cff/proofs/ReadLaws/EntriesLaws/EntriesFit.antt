-- The entries that are read of a DICT can be written again, unless a real among them is too long.
use Rattle.std.proofs.Common.{◌≡◌, ℕ, zero, suc, true, List, [], ◌∷◌, length, Option, Some, None, refl, arith, length-take}
use Rattle.std.specs.Prelude.{◌==◌}
use Rattle.std.specs.List.{AllByRecursion}
use Rattle.std.specs.Option.{option_map_or}
use Rattle.std.proofs.lemmas.Bool.{eqb-false}
use Rattle.subsetter_base.specs.Options.{◌>>=◌}
use Rattle.subsetter_base.specs.Bytes.{byte}
use Rattle.subsetter_cffdata.specs.Numerals.Numbers.{dict_number_from}
use Rattle.subsetter_cffdata.specs.Dicts.Dict.{Entry, is_operator, operator_from, entry_in, entry_at, limited, entries_in, entries, IsOperator, operand_limit}
use Rattle.subsetter_cffdata.proofs.RealsLaws.Reals.{all_take}
use Rattle.subsetter_cff.proofs.ReadLaws.EntriesLaws.ReadNumbers.{FitsNumber, FitsEntry}
use Rattle.subsetter_cff.proofs.ReadLaws.EntriesLaws.ReadFits.{Reads, nothing, found, choice, then, following, number_reads}

-- an entry with all its operands
pub record Whole (e : Entry) : Type 0 where
  pub operator : IsOperator e.operator
  pub operands : AllByRecursion FitsNumber e.operands

operator_reads : (b : ℕ) (bytes : List ℕ) → is_operator b ≡ true → Reads IsOperator (operator_from b bytes)
operator_reads b bytes is =
    choice IsOperator (b == 12) (byte bytes >>= λ second. Some (12 ∷ second.0 ∷ [], second.1)) (Some (b ∷ [], bytes))
    (λ _. following IsOperator (byte bytes) (λ second. Some (12 ∷ second.0 ∷ [], second.1)) (λ x. found IsOperator (12 ∷ x.0 ∷ []) x.1 refl))
    (λ h. found IsOperator (b ∷ []) bytes (is, eqb-false b 12 h))

pub entry_reads : (steps : ℕ) (bytes : List ℕ) → Reads Whole (entry_in steps bytes)
unfolding entry_in
entry_reads zero bytes = nothing Whole
entry_reads (suc steps) [] = nothing Whole
entry_reads (suc steps) (b ∷ bytes) =
    choice Whole (is_operator b) (operator_from b bytes >>= λ o. Some (record { operator = o.0; operands = [] }, o.1)) (dict_number_from b bytes >>= λ x. entry_in steps x.1 >>= λ e. Some (record { operator = e.0.operator; operands = x.0 ∷ e.0.operands }, e.1))
    (λ is. then IsOperator Whole (operator_from b bytes) (λ o. Some (record { operator = o.0; operands = [] }, o.1)) (operator_reads b bytes is) (λ o p. found Whole (record { operator = o.0; operands = [] }) o.1 (record { operator = p; operands = tt })))
    (λ _. then FitsNumber Whole (dict_number_from b bytes) (λ x. entry_in steps x.1 >>= λ e. Some (record { operator = e.0.operator; operands = x.0 ∷ e.0.operands }, e.1)) (number_reads b bytes)
    (λ x p. then Whole Whole (entry_in steps x.1) (λ e. Some (record { operator = e.0.operator; operands = x.0 ∷ e.0.operands }, e.1)) (entry_reads steps x.1)
    (λ e r. found Whole (record { operator = e.0.operator; operands = x.0 ∷ e.0.operands }) e.1 (record { operator = r.operator; operands = (p, r.operands) }))))

kept_fits : (e : Entry) → Whole e → FitsEntry (limited e)
kept_fits e w = record {
  operator = w.operator;
  operands = all_take FitsNumber operand_limit e.operands w.operands;
  few = omega (arith, length-take operand_limit e.operands);
}

with_more : (steps : ℕ) (o : Option (Entry × List ℕ)) → Reads Whole o → ((rest : List ℕ) → AllByRecursion FitsEntry (entries_in steps rest)) → AllByRecursion FitsEntry (option_map_or (λ e. limited e.0 ∷ entries_in steps e.1) o [])
with_more steps None r more = tt
with_more steps (Some e) r more = (kept_fits e.0 (r.each e refl), more e.1)

in_fit : (steps : ℕ) (bytes : List ℕ) → AllByRecursion FitsEntry (entries_in steps bytes)
unfolding entries_in entry_at
in_fit zero bytes = tt
in_fit (suc steps) bytes = with_more steps (entry_at bytes) (entry_reads (length bytes) bytes) (λ rest. in_fit steps rest)

pub entries_fit : (bytes : List ℕ) → AllByRecursion FitsEntry (entries bytes)
unfolding entries
entries_fit bytes = in_fit (length bytes) bytes

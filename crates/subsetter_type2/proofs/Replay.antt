-- The bytes of a trace, run without subroutines, give the trace.
use Rattle.std.proofs.Common.{◌≡◌, ℕ, suc, ◌+◌, ◌<◌, ◌≤◌, List, [], ◌∷◌, ◌++◌, length, Option, Some, None, refl, ap, ◌∙◌, arith, append_assoc, append-nil, length-append}
use Rattle.std.proofs.lemmas.Bool.{le-leb, lt-ltb}
use Rattle.std.proofs.lemmas.Bool.Decides.{nat_tests}
use Rattle.subsetter_cffdata.specs.declared.numerals.charstring_number.CharStringNumber.{CharStringNumber}
use Rattle.subsetter_type2.specs.Token.{Operand}
use Rattle.subsetter_cffdata.specs.Numerals.CharStringNumber.{NumberFits, number_at, written}
use Rattle.subsetter_type2.specs.Token.{token_of}
use Rattle.subsetter_type2.specs.Flat.{flat_operands}
use Rattle.subsetter_type2.specs.Runs.OutputView.{AllFit}
use Rattle.subsetter_type2.specs.Runs.Machine.{Library, Registers, State, Event, Does, Goes, On, follow, act_at, move, run}
use Rattle.subsetter_type2.proofs.RunsLaws.Runs.{run_more}
use Rattle.subsetter_type2.proofs.RunsLaws.RecursionLemmas.{unended_front}
use Rattle.subsetter_cffdata.proofs.NumeralsLaws.CharStringNumbers.{read_back}

-- a number that is read as a token
pub token_number : (bytes : List ℕ) (n : CharStringNumber) (rest : List ℕ) → number_at bytes ≡ Some (n, rest) → token_of bytes ≡ Some (Operand n, rest)
unfolding number_at token_of
token_number [] n rest e = cc
token_number (first ∷ bytes) n rest e = grind (arith, nat_tests)

pub token_back : (n : CharStringNumber) (rest : List ℕ) → NumberFits n → token_of (written n ++ rest) ≡ Some (Operand n, rest)
token_back n rest h = token_number (written n ++ rest) n rest (read_back n rest h)

some_number : (bytes : List ℕ) (x : CharStringNumber × List ℕ) → number_at bytes ≡ Some x → 0 < length bytes
unfolding number_at
some_number [] x e = absurd (cc)
some_number (b ∷ bs) x e = omega arith

some_written : (n : CharStringNumber) (rest : List ℕ) → NumberFits n → 0 < length (written n ++ rest)
some_written n rest h = some_number (written n ++ rest) (n, rest) (read_back n rest h)

abbrev pub one : List ℕ → Registers → State
one bytes r = record { rests = bytes ∷ []; registers = r }

pub act_push : (library : Library) (bytes rest : List ℕ) (n : CharStringNumber) (r : Registers) → token_of bytes ≡ Some (Operand n, rest) → length r.operands < 48 → act_at library bytes r ≡ Does None (record r { operands = r.operands ++ n ∷ [] }) (On rest)
unfolding act_at
act_push library bytes rest n r e h = rw (e, lt-ltb (length r.operands) 48 h) refl

move_on : (depth : ℕ) (event : Option Event) (r : Registers) (rest : List ℕ) → 1 ≤ depth → move depth [] (Does event r (On rest)) ≡ Goes event (one rest r)
move_on depth event r rest h = rw (le-leb 1 depth h) refl

-- one operand
push_run : (library : Library) (depth m : ℕ) (said : List Event) (n : CharStringNumber) (rest : List ℕ) (r : Registers) → 1 ≤ depth → NumberFits n → length r.operands < 48
    → run library depth (suc m) said (one (written n ++ rest) r) ≡ run library depth m said (one rest (record r { operands = r.operands ++ n ∷ [] }))
push_run library depth m said n rest r d f l =
    run_more library depth m said _ (written n ++ rest) [] (unended_front (written n ++ rest) [] (some_written n rest f))
    ∙ ap (λ st. follow st said (run library depth m))
    (ap (move depth []) (act_push library (written n ++ rest) rest n r (token_back n rest f) l) ∙ move_on depth None _ rest d)

-- all operands of an event, or those that are left
pub operands_run : (library : Library) (depth m : ℕ) (said : List Event) (ns : List CharStringNumber) (rest : List ℕ) (r : Registers) → 1 ≤ depth → AllFit ns → length r.operands + length ns ≤ 48
    → run library depth (length ns + m) said (one (flat_operands ns ++ rest) r) ≡ run library depth m said (one rest (record r { operands = r.operands ++ ns }))
operands_run library depth m said [] rest r d f l =
    let z : 0 + m ≡ m = omega arith in
    rw (z, append-nil) refl
operands_run library depth m said (n ∷ ns) rest r d f l =
    let s : suc (length ns) + m ≡ suc (length ns + m) = omega arith in
    rw (s, append_assoc (written n))
    (push_run library depth (length ns + m) said n (flat_operands ns ++ rest) r d f.0 (omega arith)
    ∙ operands_run library depth m said ns rest (record r { operands = r.operands ++ n ∷ [] }) d f.1 (omega (arith, length-append r.operands (n ∷ [])))
    ∙ ap (λ ops. run library depth m said (one rest (record r { operands = ops }))) (append_assoc r.operands (n ∷ []) ns))

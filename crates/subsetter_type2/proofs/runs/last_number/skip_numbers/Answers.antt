use Rattle.std.proofs.Common.{◌∙◌, arith, sym, pos, add-one}
use Rattle.subsetter_cffdata.specs.declared.numerals.charstring_number.CharStringNumber.TheVariants.{Integer}
use Rattle.subsetter_cffdata.proofs.NumeralsLaws.CharStringNumbers.{no_longer}
use Rattle.subsetter_type2.proofs.RunsLaws.OutputLemmas.{read_nth, stop_before, past_is}
use Rattle.subsetter_type2.proofs.runs.last_number.skip_numbers.Goals as goal

pub returns-in_err-read-clause-following : goal.returns-in_err-read-clause-following
returns-in_err-read-clause-following c =
    λ numbers fit e l. absurd (stop_before numbers c.loop.counter c.loop.rest.now fit (omega arith) (c.loop.invariant.following numbers fit e l) c.in_err-read.ensures)

pub loop-preserved : goal.loop-preserved
loop-preserved c = record {
  inside = omega (arith, no_longer _ _ _ c.in_ok-read.ensures, c.loop.invariant.inside);
  following = λ numbers fit e l.
      let r = read_nth numbers c.loop.counter c.loop.rest.now (Integer (pos 0)) fit (omega arith) (c.loop.invariant.following numbers fit e l) in
      rw (add-one c.loop.counter) (past_is _ _ _ _ (sym c.in_ok-read.ensures ∙ r));
}

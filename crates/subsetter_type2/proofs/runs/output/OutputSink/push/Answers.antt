use Rattle.std.proofs.Common.{refl}
use Rattle.subsetter_type2.proofs.RunsLaws.OutputLemmas.{holds_at, stands_more, written_is}
use Rattle.subsetter_type2.proofs.runs.output.OutputSink.push.Goals as goal

pub invariant_of-self-2 : goal.invariant_of-self-2
invariant_of-self-2 c =
    holds_at _ _ _ _ _ (stands_more _ _ _ _ _ _ c.args.value c.self.invariant.stands c.requires.fits c.in_ok-append.ensures.ok refl) refl

pub returns-clause-ok : goal.returns-clause-ok
returns-clause-ok c =
    rw (← c.self.view_is) (written_is _ _ _ _ (stands_more _ _ _ _ _ _ c.args.value c.self.invariant.stands c.requires.fits c.in_ok-append.ensures.ok refl))

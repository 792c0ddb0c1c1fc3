use Rattle.subsetter.proofs.CommonLaws.PostLaws.Runs.{end_names, no_place}
use Rattle.subsetter.proofs.common.post.marks.past_name.Goals as goal

pub returns-in-Some-clause-names : goal.returns-in-Some-clause-names
returns-in-Some-clause-names c = c.in-Some.ensures.there.following

pub returns-in-Some-clause-place : goal.returns-in-Some-clause-place
returns-in-Some-clause-place c = λ _. c.in-Some.ensures.there

pub returns-in-None-clause-names : goal.returns-in-None-clause-names
returns-in-None-clause-names c = end_names c.args.bytes.now c.args.at c.in-None.ensures.none

pub returns-in-None-clause-place : goal.returns-in-None-clause-place
returns-in-None-clause-place c = no_place c.args.bytes.now c.args.at _ c.in-None.ensures.none

use Rattle.std.proofs.Common.{arith}
use Rattle.subset_batch.specs.declared.fault.Wanted.TheVariants.{Quote}
use Rattle.subset_batch.specs.Reading.{char_step}
use Rattle.subset_batch.specs.View.{character_view}
use Rattle.subset_batch.proofs.Loop.{more_follow, none_follow, refused, all_steps}
use Rattle.subset_batch.proofs.json.strings.many_chars.Goals as goal

pub returns-in_err-character : goal.returns-in_err-character
returns-in_err-character c = grind (arith, refused)

pub returns-then-not-more : goal.returns-then-not-more
returns-then-not-more c = rw c.in_ok-push_character.ensures (none_follow char_step Quote c.loop.text.items c.args.count c.loop.counter c.loop.rest.now (character_view c.in_ok-character.character) c.in_ok-character.more c.in_ok-character.following.now _ c.loop-test.true c.in_ok-character.ensures c.if-not-more.true c.loop.invariant)

pub loop-preserved : goal.loop-preserved
loop-preserved c = rw c.in_ok-push_character.ensures (more_follow char_step Quote c.loop.text.items c.args.count c.loop.counter c.loop.rest.now (character_view c.in_ok-character.character) c.in_ok-character.more c.in_ok-character.following.now _ c.loop-test.true c.in_ok-character.ensures c.if-not-more.false c.loop.invariant)

pub returns : goal.returns
returns c = rw c.missing.ensures (all_steps char_step Quote c.loop.text.items c.args.count c.loop.counter c.loop.rest.now _ c.loop-test.false c.loop.invariant)

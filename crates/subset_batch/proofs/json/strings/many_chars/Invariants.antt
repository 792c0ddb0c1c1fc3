use Rattle.std.proofs.Common.{◌≡◌, ◌-◌}
use Rattle.subset_batch.specs.declared.fault.Wanted.TheVariants.{Quote}
use Rattle.subset_batch.specs.Reading.{with_front, many, char_step}
use Rattle.subset_batch.proofs.json.strings.many_chars.Given as goal

abbrev pub invariant-loop : goal.invariant-loop
invariant-loop l = with_front l.text.items (many char_step Quote (l.count - l.counter) l.rest) ≡ many char_step Quote l.count l.bytes

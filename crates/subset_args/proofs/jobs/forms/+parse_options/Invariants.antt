use Rattle.std.proofs.Common.{length}
use Rattle.subset_args.proofs.jobs.forms.+parse_options.Given as goal

abbrev pub decreases-parse_options : goal.decreases-parse_options
decreases-parse_options l = length l.words.now

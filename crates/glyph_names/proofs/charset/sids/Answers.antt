use Rattle.std.proofs.Common.{sym}
use Rattle.glyph_names.specs.Charset.{sids}
use Rattle.glyph_names.specs.View.{run_view}
use Rattle.glyph_names.proofs.Steps.{sid_later, sids_cut, sids_end}
use Rattle.glyph_names.proofs.charset.sids.Goals as goal

pub returns-in_default : goal.returns-in_default
returns-in_default c = sids_cut c.args.format c.loop-i.found.items c.args.count c.loop-i.i (run_view c.loop-i.run) (sids c.args.format c.args.count (run_view c.args.start)) c.loop-i-test.true (sym c.in_default.ensures) c.loop-i.invariant

pub loop-i-preserved : goal.loop-i-preserved
loop-i-preserved c = sid_later c.args.format c.loop-i.found.items c.push.new.self.items c.args.count c.loop-i.i (run_view c.loop-i.run) (run_view c.in-Some.after) c.in-Some.sid (sids c.args.format c.args.count (run_view c.args.start)) c.loop-i-test.true c.in-Some.ensures c.in_ok-push.ensures.items c.loop-i.invariant

pub returns : goal.returns
returns c = sids_end c.args.format c.loop-i.found.items c.args.count c.loop-i.i (run_view c.loop-i.run) (sids c.args.format c.args.count (run_view c.args.start)) c.loop-i-test.false c.loop-i.invariant

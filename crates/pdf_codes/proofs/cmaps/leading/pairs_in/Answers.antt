use Rattle.std.proofs.Common.{◌∙◌, ◌++◌, sym, List, ℕ, Option}
use Rattle.std.proofs.lemmas.List.{append-nil, at_drop_all}
use Rattle.pdf_text.specs.View.{pairs_view}
use Rattle.pdf_codes.specs.Cmaps.Leading.{table_pairs}
use Rattle.pdf_codes.proofs.CmapsLaws.LeadingSteps.{pair_added, pair_left, pair_put}
use Rattle.pdf_codes.proofs.cmaps.leading.pairs_in.Goals.{in-Some+in_ok-push, in_default}
use Rattle.pdf_codes.proofs.cmaps.leading.pairs_in.Goals as goal

pub loop-place-preserved : goal.loop-place-preserved
loop-place-preserved c = elim c.match-cids-place.branch [
  | in-Some+in_ok-push w ↦ rw w.pairs-is (record {
    so_far = pair_put c.args.cids.now c.loop-place.pairs.items w.push.new.self.items w.pair_of.result c.loop-place.place w.in-Some.cid (table_pairs 0 c.args.cids.now) w.in_ok-push.ensures.items c.loop-place-test.true w.in-Some.is w.pair_of.ensures.pair c.loop-place.invariant.so_far;
    are_pairs = pair_added c.loop-place.pairs.items w.push.new.self.items w.pair_of.result w.in_ok-push.ensures.items c.loop-place.invariant.are_pairs w.pair_of.ensures.is_pair;
  })
  | in_default w ↦ rw w.pairs-is (record {
    so_far = pair_left c.args.cids.now (pairs_view c.loop-place.pairs.items) c.loop-place.place (table_pairs 0 c.args.cids.now) c.loop-place-test.true w.in_default.not-Some c.loop-place.invariant.so_far;
    are_pairs = c.loop-place.invariant.are_pairs;
  })
]

pub returns-clause-ok : goal.returns-clause-ok
returns-clause-ok c =
    sym (append-nil (pairs_view c.loop-place.pairs.items))
    ∙ sym (at_drop_all (λ (l : List (Option ℕ)). pairs_view c.loop-place.pairs.items ++ table_pairs c.loop-place.place l) c.args.cids.now c.loop-place.place c.loop-place-test.false)
    ∙ c.loop-place.invariant.so_far

pub returns-clause-are_pairs : goal.returns-clause-are_pairs
returns-clause-are_pairs c = c.loop-place.invariant.are_pairs

use Rattle.std.proofs.Common.{◌≡◌, ℕ, ◌++◌, List, map, ap, ◌∙◌, Some, drop, ◌+◌}
use Rattle.std.proofs.lemmas.Result.{err_from_is_err_and}
use Rattle.subsetter_base.specs.Remap.{index_by}
use Rattle.pdf_codes.specs.Codes.{Used, pairs_of, same, used_of, with_pairs}
use Rattle.pdf_codes.proofs.EachSteps.{all_more, all_refused, codes_more, keys}
use Rattle.pdf_codes.proofs.codes.each_text.Goals as goal

pub loop-entry-preserved : goal.loop-entry-preserved
loop-entry-preserved c =
    let es = c.args.entries.now in
    let i = c.loop-entry.entry-index in
    let now : List Used = map used_of c.number_of-in-loop-entry.new.pairs in
    let total : List Used = pairs_of (map used_of es) in
    let all : with_pairs now (keys (drop (i + 1) es)) ≡ total =
    all_more es i _ (map used_of c.loop-entry.pairs) now total (used_of c.keyed.result) c.loop-entry-test.true c.keyed.ensures c.in_ok-number_of-2.ensures.list c.loop-entry.invariant.all
    in
    record {
      all = all;
      few = c.in_ok-number_of-2.ensures.few;
      so_far =
          ap (λ (l : List ℕ). map Some l ++ map (index_by same total) (keys (drop (i + 1) es))) c.in_ok-push.ensures.items
          ∙ codes_more es i _ now total (used_of c.keyed.result) c.loop-entry.codes.items c.in_ok-number_of-2.field-0 _ c.loop-entry-test.true c.keyed.ensures c.in_ok-number_of-2.ensures.number all c.loop-entry.invariant.so_far;
    }

pub returns-in_err-number_of-2-clause-err : goal.returns-in_err-number_of-2-clause-err
returns-in_err-number_of-2-clause-err c =
    let r = c.from_residual-in_err-number_of-2 in
    let p = err_from_is_err_and r.result r.ensures.1 in
    rw (p.1, p.2) (all_refused c.args.entries.now c.loop-entry.entry-index _ (map used_of c.loop-entry.pairs) (pairs_of (map used_of c.args.entries.now)) (used_of c.keyed.result) c.in_err-number_of-2.field-0.0 c.loop-entry-test.true c.keyed.ensures c.loop-entry.invariant.all c.in_err-number_of-2.ensures.err)

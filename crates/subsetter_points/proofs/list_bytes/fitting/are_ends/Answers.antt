use Rattle.std.proofs.Common.{◌≡◌, ◌∷◌, ◌+◌, ◌<◌, ◌≤◌, drop, get_or, sym, ap, ◌∙◌, arith}
use Rattle.std.proofs.lemmas.List.{drop_more, drop_all}
use Rattle.subsetter_points.specs.Simple.{are_ends}
use Rattle.subsetter_points.proofs.WriteLemmas.{are_more, are_none, are_end}
use Rattle.subsetter_points.proofs.list_bytes.fitting.are_ends.Goals as goal

pub returns-then-end-from : goal.returns-then-end-from
returns-then-end-from c =
    let all = c.args.ends.now in
    let i = c.loop-end.end-index in
    let d : drop i all ≡ get_or all i 0 ∷ drop (i + 1) all = drop_more all i 0 (omega arith) in
    let lt : get_or all i 0 < c.loop-end.from = omega (arith, c.from-end.ensures) in
    sym (c.loop-end.invariant ∙ are_none c.loop-end.from (get_or all i 0) c.args.points (drop i all) (drop (i + 1) all) d lt)

pub loop-end-preserved : goal.loop-end-preserved
loop-end-preserved c =
    let all = c.args.ends.now in
    let i = c.loop-end.end-index in
    let d : drop i all ≡ get_or all i 0 ∷ drop (i + 1) all = drop_more all i 0 (omega arith) in
    let le : c.loop-end.from ≤ get_or all i 0 = omega (arith, c.from-end.ensures) in
    c.loop-end.invariant ∙ are_more c.loop-end.from (get_or all i 0) c.args.points (drop i all) (drop (i + 1) all) d le ∙ ap (λ k. are_ends (k + 1) (drop (i + 1) all) c.args.points) (sym c.from-end.ensures)

pub returns : goal.returns
returns c =
    let all = c.args.ends.now in
    let i = c.loop-end.end-index in
    sym (c.loop-end.invariant ∙ are_end c.loop-end.from c.args.points (drop i all) (drop_all i all (omega arith)))

use Rattle.std.proofs.Common.{◌∙◌, ap, arith, List, Bool, length, false, slice_index_or}
use Rattle.std.specs.List.{filter, range_with_len}
use Rattle.subsetter_cff2.proofs.SelectionLaws.UsedLaws.{used_are, counted, too_many}
use Rattle.subsetter_cff2.proofs.selection.used.used_dicts.Goals as goal

pub returns-then-len-gt255 : goal.returns-then-len-gt255
returns-then-len-gt255 c =
    let found = c.in_ok-found.ensures.ok ∙ ap (λ (marks : List Bool). filter (λ n. slice_index_or marks n false) (range_with_len 0 (length marks))) c.deref.ensures.value in
    let used = used_are c.args.numbers.now c.in_ok-found.found.items c.in_ok-used.used.items c.args.bound c.in_ok-used.ensures.len c.in_ok-used.ensures.marked found in
    too_many c.args.bound c.args.numbers.now c.in_ok-found.found.items used (omega (arith, c.len.ensures, c.if-len-gt255.true))

pub returns : goal.returns
returns c =
    let found = c.in_ok-found.ensures.ok ∙ ap (λ (marks : List Bool). filter (λ n. slice_index_or marks n false) (range_with_len 0 (length marks))) c.deref.ensures.value in
    let used = used_are c.args.numbers.now c.in_ok-found.found.items c.in_ok-used.used.items c.args.bound c.in_ok-used.ensures.len c.in_ok-used.ensures.marked found in
    counted c.args.bound c.args.numbers.now c.in_ok-found.found.items used (omega (arith, c.len.ensures, c.if-len-gt255.false))

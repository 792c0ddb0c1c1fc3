use Rattle.std.proofs.Common.{◌+◌, ◌-◌, Bool, drop, take, ap, ◌∙◌, arith}
use Rattle.std.specs.Option.{option_copied}
use Rattle.std.specs.Prelude.{map}
use Rattle.std.proofs.lemmas.Result.{err_from_is_err_and}
use Rattle.subsetter.specs.Glyf.Plain.{kept_outlines, with_outlines}
use Rattle.subsetter.specs.Glyf.Woven.{Listed}
use Rattle.subsetter.proofs.GlyfLaws.KeptList.{none_before, block_of, outlines_block, outlines_fail}
use Rattle.subsetter.proofs.glyf.subset.Goals as goal

pub loop-at-init : goal.loop-at-init
loop-at-init c =
    let all = kept_outlines c.args.hinting c.args.order.now (map option_copied c.args.found.items) in
    ap (λ (l : Listed). with_outlines l.items (kept_outlines l.hinting c.args.order.now (map option_copied c.args.found.items))) c.in_ok-list.ensures.ok ∙ none_before all

pub returns-in_err-keep_block : goal.returns-in_err-keep_block
returns-in_err-keep_block c =
    let p = err_from_is_err_and c.from_residual-in_err-keep_block.result c.from_residual-in_err-keep_block.ensures.1 in
    let order = c.args.order.now in
    let at = c.loop-at.at in
    let items = c.args.found.items in
    let list = c.loop-at.list.items in
    let hint = c.loop-at.list.hinting in
    let total = kept_outlines c.args.hinting order (map option_copied c.args.found.items) in
    let n = at + c.min-count.result - at in
    let os = map option_copied (take n (drop at c.deref.result.now)) in
    let rest = map option_copied (drop (at + c.min-count.result) items) in
    let all = block_of items c.deref.result.now at c.min-count.result n c.deref.ensures.value (omega arith) in
    rw (p.1, p.2) (outlines_fail c.in_err-keep_block.field-0.0 hint order list os rest total c.in_err-keep_block.ensures.err (ap (λ l. with_outlines list (kept_outlines hint order l)) all ∙ c.loop-at.invariant))

pub loop-at-preserved : goal.loop-at-preserved
loop-at-preserved c =
    let order = c.args.order.now in
    let at = c.loop-at.at in
    let items = c.args.found.items in
    let list = c.loop-at.list.items in
    let hint = c.loop-at.list.hinting in
    let total = kept_outlines c.args.hinting order (map option_copied c.args.found.items) in
    let n = at + c.min-count.result - at in
    let os = map option_copied (take n (drop at c.deref.result.now)) in
    let rest = map option_copied (drop (at + c.min-count.result) items) in
    let all = block_of items c.deref.result.now at c.min-count.result n c.deref.ensures.value (omega arith) in
    ap (λ (b : Bool). with_outlines c.keep_block.new.list.items (kept_outlines b order rest)) c.in_ok-keep_block.ensures.same ∙ outlines_block hint order list c.keep_block.new.list.items os rest total c.in_ok-keep_block.ensures.ok (ap (λ l. with_outlines list (kept_outlines hint order l)) all ∙ c.loop-at.invariant)

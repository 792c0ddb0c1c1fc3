use Rattle.std.proofs.Common.{◌+◌, Ok, get_or, drop, sym, ap, subst, ◌∙◌, rules}
use Rattle.std.specs.Option.{option_copied}
use Rattle.std.specs.Prelude.{map}
use Rattle.std.proofs.lemmas.Bool.{leb-true, leb-false}
use Rattle.std.proofs.lemmas.Result.{err_from_is_err_and}
use Rattle.subsetter_base.specs.Gives.{Fails}
use Rattle.subsetter_base.specs.declared.error.Error.TheVariants.{MalformedFont}
use Rattle.subsetter_base.proofs.Results.{named_ok}
use Rattle.subsetter.specs.Glyf.Plain.{kept_outlines, with_outlines, with_last}
use Rattle.subsetter.specs.Glyf.Woven.{Listed}
use Rattle.subsetter.proofs.GlyfLaws.KeptList.{outline_at, outlines_ends, outlines_next, first_byte_at, kept_composite, kept_simple, kept_none}
use Rattle.subsetter.proofs.glyf.keep_block.Goals.{then-is_composite+in_ok-push_composite, else-is_composite+in_ok-push_simple}
use Rattle.subsetter.proofs.glyf.keep_block.Goals as goal

pub returns-in_err-outline-clause-err : goal.returns-in_err-outline-clause-err
returns-in_err-outline-clause-err c =
    let p = err_from_is_err_and c.from_residual-in_err-outline.result c.from_residual-in_err-outline.ensures.1 in
    let order = c.args.order.now in
    let block = c.args.block.now in
    let list = c.loop-outline.list.items in
    let hint = c.loop-outline.list.hinting in
    let i = c.loop-outline.outline-index in
    let rest = map option_copied (drop (i + 1) block) in
    let total = with_outlines c.args.list.now.items (kept_outlines c.args.list.now.hinting order (map option_copied block)) in
    let fails = kept_none hint order list _ c.in_err-outline.field-0.0 (sym c.in_err-outline.ensures.value) in
    rw (p.1, p.2) (outlines_ends c.in_err-outline.field-0.0 hint order list _ rest total fails (outline_at hint order list block i _ total c.loop-outline-test.true c.loop-outline.invariant.kept))

pub returns-in_err-push_composite-clause-err : goal.returns-in_err-push_composite-clause-err
returns-in_err-push_composite-clause-err c =
    let p = err_from_is_err_and c.from_residual-in_err-push_composite.result c.from_residual-in_err-push_composite.ensures.1 in
    let order = c.args.order.now in
    let block = c.args.block.now in
    let list = c.loop-outline.list.items in
    let hint = c.loop-outline.list.hinting in
    let i = c.loop-outline.outline-index in
    let rest = map option_copied (drop (i + 1) block) in
    let total = with_outlines c.args.list.now.items (kept_outlines c.args.list.now.hinting order (map option_copied block)) in
    let is = named_ok _ MalformedFont c.in_ok-outline.outline (sym c.in_ok-outline.ensures.value) in
    let head = c.index.ensures ∙ ap (λ n. get_or c.read_first_bytes.new.first_bytes.items n c.index.result.now) c.loop-outline.invariant.offset ∙ first_byte_at block c.read_first_bytes.new.first_bytes.items i _ c.index.result.now c.loop-outline.invariant.first_bytes c.loop-outline-test.true in
    let k = kept_composite hint order _ c.in_ok-outline.outline c.index.result.now is head (leb-true 128 _ (sym c.if-is_composite.ensures)) in
    rw (p.1, p.2) (outlines_ends c.in_err-push_composite.field-0.0 hint order list _ rest total (subst (λ r. Fails c.in_err-push_composite.field-0.0 (with_last list r)) (sym k) c.in_err-push_composite.ensures.err) (outline_at hint order list block i _ total c.loop-outline-test.true c.loop-outline.invariant.kept))

pub loop-outline-preserved : goal.loop-outline-preserved
loop-outline-preserved c =
    let order = c.args.order.now in
    let block = c.args.block.now in
    let list = c.loop-outline.list.items in
    let hint = c.loop-outline.list.hinting in
    let i = c.loop-outline.outline-index in
    let rest = map option_copied (drop (i + 1) block) in
    let total = with_outlines c.args.list.now.items (kept_outlines c.args.list.now.hinting order (map option_copied block)) in
    let is = named_ok _ MalformedFont c.in_ok-outline.outline (sym c.in_ok-outline.ensures.value) in
    let head = c.index.ensures ∙ ap (λ n. get_or c.read_first_bytes.new.first_bytes.items n c.index.result.now) c.loop-outline.invariant.offset ∙ first_byte_at block c.read_first_bytes.new.first_bytes.items i _ c.index.result.now c.loop-outline.invariant.first_bytes c.loop-outline-test.true in
    let so_far = outline_at hint order list block i _ total c.loop-outline-test.true c.loop-outline.invariant.kept in
    elim c.if-is_composite.branch [
      | then-is_composite+in_ok-push_composite w ↦
          let k = kept_composite hint order _ c.in_ok-outline.outline c.index.result.now is head (leb-true 128 _ (sym w.if-is_composite.ensures)) in
          record {
            kept = outlines_next hint c.if-is_composite.list.hinting order list c.if-is_composite.list.items _ rest total (ap (λ (l : Listed). l.hinting) w.list-is ∙ w.in_ok-push_composite.ensures.same) (ap (with_last list) k ∙ w.in_ok-push_composite.ensures.ok ∙ ap (λ (l : Listed). Ok l.items) (sym w.list-is)) so_far;
            same = ap (λ (l : Listed). l.hinting) w.list-is ∙ w.in_ok-push_composite.ensures.same ∙ c.loop-outline.invariant.same;
            offset = search rules;
            first_bytes = c.loop-outline.invariant.first_bytes;
          }
      | else-is_composite+in_ok-push_simple w ↦
          let k = kept_simple hint order _ c.in_ok-outline.outline c.index.result.now is head (leb-false 128 _ (sym w.if-is_composite.ensures)) in
          record {
            kept = outlines_next hint c.if-is_composite.list.hinting order list c.if-is_composite.list.items _ rest total (ap (λ (l : Listed). l.hinting) w.list-is ∙ w.in_ok-push_simple.ensures.same) (ap (with_last list) k ∙ ap Ok (sym w.in_ok-push_simple.ensures.ok) ∙ ap (λ (l : Listed). Ok l.items) (sym w.list-is)) so_far;
            same = ap (λ (l : Listed). l.hinting) w.list-is ∙ w.in_ok-push_simple.ensures.same ∙ c.loop-outline.invariant.same;
            offset = search rules;
            first_bytes = c.loop-outline.invariant.first_bytes;
          }
    ]

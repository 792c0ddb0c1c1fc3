use Rattle.std.proofs.Common.{◌≡◌, true, List, sym, ap, ◌∙◌}
use Rattle.pdf_text.specs.Cmaps.Encoding.{Pair}
use Rattle.pdf_text.specs.View.{pairs_view}
use Rattle.pdf_codes.specs.Cmaps.Leading.{are_cids, cid_of, pairs_with}
use Rattle.pdf_codes.proofs.CmapsLaws.LedLaws.{led_alone, led_by_cmap}
use Rattle.pdf_codes.proofs.calls.encoding_of.Goals as goal

pub returns-then-are_cids-clause-leads : goal.returns-then-are_cids-clause-leads
returns-then-are_cids-clause-leads c =
    let seen : pairs_view c.deref.result.now ≡ pairs_with c.args.codes.now c.args.cids.now = ap pairs_view c.deref.ensures.value ∙ c.in_ok-pairs.ensures.ok in
    let are : are_cids (pairs_with c.args.codes.now c.args.cids.now) ≡ true = ap are_cids (sym seen) ∙ sym c.are_cids.ensures ∙ c.if-are_cids.true in
    λ choice us h k. led_alone choice us c.args.codes.now c.args.cids.now are h k

pub returns-clause-leads : goal.returns-clause-leads
returns-clause-leads c =
    let seen : pairs_view c.deref-2.result.now ≡ pairs_with c.args.codes.now c.args.cids.now = ap pairs_view c.deref-2.ensures.value ∙ c.in_ok-pairs.ensures.ok in
    λ choice us h k. led_by_cmap choice us c.args.codes.now c.args.cids.now c.in_ok-write_leading.field-0.text.items (λ j. c.in_ok-write_leading.ensures.read j ∙ ap (λ (ps : List Pair). cid_of ps j) seen) h k

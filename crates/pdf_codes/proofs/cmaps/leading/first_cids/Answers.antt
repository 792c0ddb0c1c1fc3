use Rattle.std.proofs.Common.{◌∙◌, ap, sym, ℕ, List, Option, None, get_or, length, arith}
use Rattle.std.specs.Option.{option_or}
use Rattle.std.proofs.lemmas.List.{at_drop_all, length-replicate}
use Rattle.pdf_text.specs.View.{pairs_view}
use Rattle.pdf_text.specs.declared.cmaps.encoding.CidOfCode.{CidOfCode}
use Rattle.pdf_codes.specs.Cmaps.Leading.{cid_of}
use Rattle.pdf_codes.proofs.CmapsLaws.LeadingSteps.{cid_begun, cid_done}
use Rattle.pdf_codes.proofs.cmaps.leading.first_cids.Goals as goal

pub loop-pair-init : goal.loop-pair-init
loop-pair-init c = record {
  as_long = ap length c.in_ok-cids.ensures.ok ∙ length-replicate c.args.bound None;
  below = omega (arith, c.requires);
  so_far = λ k. ap (λ (t : List (Option ℕ)). option_or (get_or t k None) (cid_of (pairs_view c.args.pairs.now) k)) c.in_ok-cids.ensures.ok ∙ cid_begun c.args.bound k (cid_of (pairs_view c.args.pairs.now) k);
}

pub returns-clause-ok : goal.returns-clause-ok
returns-clause-ok c = λ k lt.
    let o : Option ℕ = get_or c.loop-pair.cids.items k None in
    sym (cid_done o)
    ∙ sym (at_drop_all (λ (l : List CidOfCode). option_or o (cid_of (pairs_view l) k)) c.args.pairs.now c.loop-pair.pair-index c.loop-pair-test.false)
    ∙ c.loop-pair.invariant.so_far k

use Rattle.std.proofs.Common.{◌∙◌, ◌+◌, ap, sym, ℕ, List, [], drop, get_or, length, arith}
use Rattle.std.specs.Borrow.{Bor}
use Rattle.std.proofs.lemmas.List.{at_drop_all, length-map, length-replicate}
use Rattle.std.proofs.lemmas.Grind.{common_steps}
use Rattle.pdf_text.specs.View.{lines_view}
use Rattle.pdf_text.specs.declared.cmaps.to_unicode.Mapping.{Mapping}
use Rattle.pdf_codes.specs.Cmaps.Texts.{first_text}
use Rattle.subsetter_base.specs.Texts.{or_else, views}
use Rattle.pdf_codes.proofs.CmapsLaws.LimitSteps.{limit_more}
use Rattle.pdf_codes.proofs.CmapsLaws.TextSteps.{text_begun, text_done}
use Rattle.pdf_codes.proofs.cmaps.texts.first_texts.Goals as goal

pub loop-line-preserved : goal.loop-line-preserved
loop-line-preserved c = record {
  as_long = c.put.ensures.len ∙ c.loop-line.invariant.as_long;
  below = limit_more c.args.lines.now c.loop-line.line-index c.args.bound c.loop-line.invariant.below;
  so_far = λ k. grind (arith, common_steps, c.put.ensures.put k (lines_view (drop (c.loop-line.line-index + 1) c.args.lines.now)), c.loop-line.invariant.so_far k);
}

pub loop-line-init : goal.loop-line-init
loop-line-init c = record {
  as_long = sym (length-map c.in_ok-texts.texts.items (λ (t : Bor (List ℕ)). t.now)) ∙ ap length c.in_ok-texts.ensures.ok ∙ length-replicate c.args.bound [];
  below = omega (arith, c.requires);
  so_far = λ k. ap (λ (t : List (List ℕ)). or_else (get_or t k []) (first_text (lines_view c.args.lines.now) k)) c.in_ok-texts.ensures.ok ∙ text_begun c.args.bound k (first_text (lines_view c.args.lines.now) k);
}

pub returns-clause-ok : goal.returns-clause-ok
returns-clause-ok c = λ k lt.
    let t : List ℕ = get_or (views c.loop-line.texts.items) k [] in
    sym (text_done t)
    ∙ sym (at_drop_all (λ (l : List Mapping). or_else t (first_text (lines_view l) k)) c.args.lines.now c.loop-line.line-index c.loop-line-test.false)
    ∙ c.loop-line.invariant.so_far k

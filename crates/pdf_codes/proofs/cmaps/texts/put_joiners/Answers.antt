use Rattle.std.proofs.Common.{◌∙◌, ◌+◌, ap, sym, ℕ, List, [], drop, get_or, length, arith}
use Rattle.std.proofs.lemmas.List.{at_drop_all, drop_more}
use Rattle.pdf_text.specs.View.{line_view, lines_view}
use Rattle.pdf_text.specs.declared.cmaps.to_unicode.Mapping.{Mapping}
use Rattle.pdf_codes.specs.Cmaps.Texts.{joiner_in}
use Rattle.subsetter_base.specs.Texts.{or_else, views}
use Rattle.pdf_codes.proofs.CmapsLaws.JoinerSteps.{joined}
use Rattle.pdf_codes.proofs.CmapsLaws.LimitSteps.{limit_more}
use Rattle.pdf_codes.proofs.CmapsLaws.TextSteps.{text_done}
use Rattle.pdf_codes.proofs.cmaps.texts.put_joiners.Goals as goal

pub loop-line-init : goal.loop-line-init
loop-line-init c = record {
  as_long = c.requires.len;
  below = omega (arith, c.requires.len);
  so_far = λ k lt. ap (λ (t : List ℕ). or_else t (joiner_in (lines_view c.args.lines.now) k)) (c.requires.are k lt);
}

pub loop-line-preserved : goal.loop-line-preserved
loop-line-preserved c =
    let d : Mapping = record { code = 0; units = record { ref_ptr = (0, 0); now = [] } } in
    let lines : List Mapping = c.args.lines.now in
    let i : ℕ = c.loop-line.line-index in
    let old : List (List ℕ) = views c.loop-line.texts.items in
    let new : List (List ℕ) = views c.put_joiner.new.texts.items in
    record {
      as_long = c.put_joiner.ensures.len ∙ c.loop-line.invariant.as_long;
      below = omega (arith, limit_more lines i (length c.loop-line.texts.items) c.loop-line.invariant.below, c.put_joiner.ensures.len);
      so_far = λ k lt.
          joined (line_view (get_or lines i d)) (lines_view (drop (i + 1) lines)) (get_or old k []) (get_or new k []) k (c.put_joiner.ensures.put k)
          ∙ sym (ap (λ (l : List Mapping). or_else (get_or old k []) (joiner_in (lines_view l) k)) (drop_more lines i d c.loop-line-test.true))
          ∙ c.loop-line.invariant.so_far k (omega (arith, lt, c.put_joiner.ensures.len));
    }

pub returns-clause-put : goal.returns-clause-put
returns-clause-put c = λ k lt.
    let t : List ℕ = get_or (views c.loop-line.texts.items) k [] in
    sym (text_done t)
    ∙ sym (at_drop_all (λ (l : List Mapping). or_else t (joiner_in (lines_view l) k)) c.args.lines.now c.loop-line.line-index c.loop-line-test.false)
    ∙ c.loop-line.invariant.so_far k lt

use Rattle.std.proofs.Common.{arith, refl}
use Rattle.subsetter_c.specs.Answers.Embedding.{whole, short, refused}
use Rattle.subsetter_c.proofs.AnswersLaws.Lists.{all_placed}
use Rattle.subsetter_c.proofs.answers.handing.hand_embedded.Goals.{then-len-font-via-then-len-font, then-len-font-via-else-len-font+then-len-cids, then-len-font-via-else-len-font+else-len-cids+then-len-widths}
use Rattle.subsetter_c.proofs.answers.handing.hand_embedded.Goals as goal

pub returns-in-Err : goal.returns-in-Err
returns-in-Err c = refused c.in-Err.error c.in-Err.is refl refl c.status_of.ensures

pub returns-then-len-font : goal.returns-then-len-font
returns-then-len-font c =
    short c.in-Ok.embedded c.in-Ok.is
    (λ f. elim c.then-len-font.branch [
      | then-len-font-via-then-len-font w ↦ omega (arith, f.font)
      | then-len-font-via-else-len-font+then-len-cids w ↦ omega (arith, f.cids)
      | then-len-font-via-else-len-font+else-len-cids+then-len-widths w ↦ omega (arith, f.widths)
    ])
    refl c.sizes_of.ensures refl

pub returns : goal.returns
returns c =
    whole c.in-Ok.embedded c.in-Ok.is (record { font = omega arith; cids = omega arith; widths = omega arith })
    (all_placed c.args.font.now c.args.cids.now c.args.widths.now c.in-Ok.embedded _ _ _ _ _ _ c.deref.ensures.value c.deref-2.ensures.value c.deref-3.ensures.value c.begin_with.ensures c.begin_with-2.ensures c.begin_with-3.ensures)
    c.sizes_of.ensures refl

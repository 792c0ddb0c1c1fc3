use Rattle.std.proofs.Common.{◌≡◌, ◌++◌, leb, true, cond, List, ℕ, length, take, drop, sym, ap, ◌∙◌, arith}
use Rattle.std.proofs.lemmas.Bool.{le-leb}
use Rattle.std.proofs.lemmas.List.{take_rest}
use Rattle.subsetter_sfnt.specs.Extras.{no_instructions}
use Rattle.subsetter.proofs.CommonLaws.MaxpLaws.Fields.{three_written}
use Rattle.subsetter.proofs.common.maxp.write_bare.Goals as goal

pub returns-else-fields-lt-MAX_COMPONENT_ELEMENTS-clause-items : goal.returns-else-fields-lt-MAX_COMPONENT_ELEMENTS-clause-items
returns-else-fields-lt-MAX_COMPONENT_ELEMENTS-clause-items c =
    let out = c.args.out.now.items in
    let f = c.args.fields.now in
    let long : leb 22 (length f) ≡ true = le-leb 22 (length f) (omega (arith, c.if-fields-lt-MAX_COMPONENT_ELEMENTS.false)) in
    three_written out (take 8 f) no_instructions (drop 22 f) c.put-else-fields-lt-MAX_COMPONENT_ELEMENTS.new.out.items c.put-else-fields-lt-MAX_COMPONENT_ELEMENTS-2.new.out.items c.put-else-fields-lt-MAX_COMPONENT_ELEMENTS-3.new.out.items c.put-else-fields-lt-MAX_COMPONENT_ELEMENTS.ensures.items c.put-else-fields-lt-MAX_COMPONENT_ELEMENTS-2.ensures.items
    (c.put-else-fields-lt-MAX_COMPONENT_ELEMENTS-3.ensures.items ∙ ap (λ (l : List ℕ). c.put-else-fields-lt-MAX_COMPONENT_ELEMENTS-2.new.out.items ++ l) (take_rest f 22)) ∙ ap (λ b. out ++ cond b (take 8 f ++ no_instructions ++ drop 22 f) f) (sym long)

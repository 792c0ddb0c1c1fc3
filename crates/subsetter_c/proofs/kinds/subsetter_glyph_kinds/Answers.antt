use Rattle.std.proofs.Common.{ℕ, List, refl, ap, ◌∙◌, arith}
use Rattle.subsetter_c.specs.Answers.Handed.{begun_with}
use Rattle.subsetter_c.specs.Kinds.{whole, short, refused}
use Rattle.subsetter_c.proofs.kinds.subsetter_glyph_kinds.Goals as goal

pub returns-in-Err : goal.returns-in-Err
returns-in-Err c = refused c.in-Err.error c.in-Err.ensures refl c.status_of.ensures

pub returns-then-len-kinds : goal.returns-then-len-kinds
returns-then-len-kinds c = short c.in-Ok.found.items c.in-Ok.ensures (omega arith) refl refl

pub returns : goal.returns
returns c = whole c.in-Ok.found.items c.in-Ok.ensures (c.begin_with.ensures ∙ ap (λ (items : List ℕ). begun_with items c.args.kinds.now) c.deref.ensures.value) refl

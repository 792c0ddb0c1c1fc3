use Rattle.std.proofs.Common.{◌≡◌, ◌+◌, ◌++◌, ℕ, List, take, drop, length, true, false, ap, sym, ◌∙◌}
use Rattle.std.specs.Prelude.{codes}
use Rattle.std.specs.Str.{bytes_eq}
use Rattle.std.specs.Int.{w32, to_be_bytes}
use Rattle.subsetter_sfnt.specs.View.{view}
use Rattle.subsetter_sfnt.proofs.Laws.LayingLaws.Written.{adjusted_head, adjusted_other, patched, untouched}
use Rattle.subsetter_sfnt.proofs.laying.construct.adjust_table.Goals as goal

pub returns-then-eq : goal.returns-then-eq
returns-then-eq g c =
    let t = view g.T.TableBytes.bytes_of c.args.table.now in
    let at = c.args.at in
    let out = c.args.out.now.items in
    let is : bytes_eq t.tag (codes "head") ≡ true = sym c.eq.ensures ∙ c.if-eq.true in
    c.patch.ensures ∙ patched out t.bytes (to_be_bytes w32 c.args.word) at c.requires.within (c.requires.is_table.room is).0 c.requires.there ∙ ap (λ (l : List ℕ). take at out ++ l ++ drop (at + length t.bytes) out) (sym (adjusted_head c.args.word t is))

pub returns-else-eq : goal.returns-else-eq
returns-else-eq g c =
    let t = view g.T.TableBytes.bytes_of c.args.table.now in
    let at = c.args.at in
    let out = c.args.out.now.items in
    let is : bytes_eq t.tag (codes "head") ≡ false = sym c.eq.ensures ∙ c.if-eq.false in
    untouched out t.bytes at c.requires.there ∙ ap (λ (l : List ℕ). take at out ++ l ++ drop (at + length t.bytes) out) (sym (adjusted_other c.args.word t is))

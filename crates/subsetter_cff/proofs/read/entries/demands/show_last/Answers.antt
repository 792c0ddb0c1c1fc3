use Rattle.std.proofs.Common.{◌<◌, length, arith, sym, ◌∙◌, ap, ℕ, List, Option, Bool}
use Rattle.std.specs.Str.{bytes_eq}
use Rattle.subsetter_cffdata.specs.Dicts.Dict.{entries}
use Rattle.subsetter_cffdata.specs.Numerals.Numbers.{Number}
use Rattle.subsetter_cffdata.specs.Dicts.Operands.{operands_at}
use Rattle.subsetter_cffdata.specs.Dicts.ParserView.{left, entry_of, shown}
use Rattle.subsetter_cffdata.specs.Views.{operator_of}
use Rattle.subsetter_cff.specs.Read.Entries.Demands.{found_now, shown_if}
use Rattle.subsetter_cff.specs.Read.Entries.Lookup.{last_after}
use Rattle.subsetter_cff.proofs.ReadLaws.EntriesLaws.LastEntries.{last_next, last_end}
use Rattle.subsetter_cff.proofs.WriteLaws.NewDictsLaws.Rewriting.{shorter}
use Rattle.subsetter_cff.proofs.read.entries.demands.show_last.Goals as goal

pub loop-next-smaller : goal.loop-next-smaller
loop-next-smaller c =
    let less = shorter (left c.loop-next.parser) (operator_of c.in-Some.next) (left c.parse_next.new.self) c.in-Some.ensures.value in
    let now : length (left c.show_wanted.new.parser) < length (left c.loop-next.parser) = omega (arith, less, ap length c.show_wanted.ensures.left) in
    now

pub loop-next-preserved : goal.loop-next-preserved
loop-next-preserved c =
    let wanted = operator_of c.args.operator.now in
    let before = shown_if c.loop-next.is_shown (shown c.loop-next.parser) in
    record {
      found =
          ap (λ (l : List ℕ). last_after (shown_if c.show_wanted.new.is_shown (shown c.show_wanted.new.parser)) wanted (entries l)) c.show_wanted.ensures.left
          ∙ ap (λ (o : Option (List Number)). last_after o wanted (entries (left c.parse_next.new.self))) c.show_wanted.ensures.value
          ∙ ap (λ (b : Bool). last_after (found_now b (operands_at (length c.parse_next.new.self.operands.now) (entry_of c.parse_next.new.self)) (shown_if c.loop-next.is_shown (shown c.parse_next.new.self))) wanted (entries (left c.parse_next.new.self))) c.same_operator-is_wanted.ensures
          ∙ ap (λ (xs : List Number). last_after (found_now (bytes_eq (operator_of c.in-Some.next) wanted) (operands_at (length c.parse_next.new.self.operands.now) (entry_of c.parse_next.new.self)) (shown_if c.loop-next.is_shown xs)) wanted (entries (left c.parse_next.new.self))) c.in-Some.ensures.operands
          ∙ last_next before wanted _ _ (operator_of c.in-Some.next) (left c.parse_next.new.self) _ c.in-Some.ensures.value (c.in-Some.ensures.room ∙ c.loop-next.invariant.room) c.in-Some.ensures.entry
          ∙ c.loop-next.invariant.found;
      room = c.show_wanted.ensures.room ∙ (c.in-Some.ensures.room ∙ c.loop-next.invariant.room);
    }

pub returns : goal.returns
returns c =
    ap (λ (xs : List Number). shown_if c.loop-next.is_shown xs) c.in_default.ensures.operands
    ∙ sym (last_end (shown_if c.loop-next.is_shown (shown c.loop-next.parser)) (operator_of c.args.operator.now) (left c.loop-next.parser) c.in_default.ensures.value)
    ∙ c.loop-next.invariant.found

use Rattle.std.proofs.Common.{ℕ, List, ◌∙◌, ap}
use Rattle.subsetter_cffdata.specs.Dicts.Dict.{entries}
use Rattle.subsetter_cff.specs.Read.Entries.Lookup.{last_of}
use Rattle.subsetter_cff.specs.Read.Entries.Operators.{private_operator}
use Rattle.subsetter_cff.proofs.ReadLaws.FdArrayLaws.LeadingEntries.{no_entries, none_named, not_shown}
use Rattle.subsetter_cff.proofs.read.fd_array.font_dict.parse_private_at.Goals as goal

pub returns-then-not-show_last : goal.returns-then-not-show_last
returns-then-not-show_last c =
    none_named c.args.offsets.now (entries c.args.dict.now) _ _
    (not_shown _ _ _ c.if-not-show_last.true (c.show_last.ensures ∙ ap (λ (l : List ℕ). last_of private_operator (entries l)) c.new-parser.ensures.left)) no_entries c.default.ensures

use Rattle.std.proofs.Common.{◌∙◌, Some, None}
use Rattle.subsetter_cffdata.specs.Dicts.Dict.{entries}
use Rattle.subsetter_cff.specs.Read.FdArray.PrivateView.{private_view}
use Rattle.subsetter_cff.proofs.ReadLaws.FdArrayLaws.OwnPrivates.{own_without, own_with, range_ordered}
use Rattle.subsetter_cff.proofs.read.source.parse_sid_metadata.Goals as goal

pub returns-in_default : goal.returns-in_default
returns-in_default c =
    let front = c.args.front.now in
    c.empty_private.ensures ∙ own_without front.bytes.now (entries front.top.now) (rw c.in_default.is at c.requires.private)

pub parse_one_private-requires : goal.parse_one_private-requires
parse_one_private-requires c = range_ordered (entries c.args.front.now.top.now) c.in-Some.place.start c.in-Some.place.end (rw c.in-Some.is at c.requires.private)

pub returns-in-Some-parse_one_private : goal.returns-in-Some-parse_one_private
returns-in-Some-parse_one_private c =
    let front = c.args.front.now in
    own_with front.bytes.now (entries front.top.now) c.in-Some.place.start c.in-Some.place.end (Some (private_view c.in-Some-parse_one_private.private)) (rw c.in-Some.is at c.requires.private) c.in-Some-parse_one_private.ensures

pub returns-in-None : goal.returns-in-None
returns-in-None c =
    let front = c.args.front.now in
    c.empty_private-in-None.ensures
    ∙ own_with front.bytes.now (entries front.top.now) c.in-Some.place.start c.in-Some.place.end None (rw c.in-Some.is at c.requires.private) c.in-None.ensures

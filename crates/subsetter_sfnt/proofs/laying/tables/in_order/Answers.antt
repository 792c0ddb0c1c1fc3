use Rattle.std.proofs.Common.{ap}
use Rattle.std.specs.Prelude.{codes}
use Rattle.std.specs.Option.{option_map}
use Rattle.subsetter_sfnt.specs.Laying.Rows.{opt}
use Rattle.subsetter_sfnt.specs.View.{views}
use Rattle.subsetter_sfnt.proofs.Laws.LayingLaws.Rows.{twelve}
use Rattle.subsetter_sfnt.proofs.laying.tables.in_order.Goals as goal

pub returns-clause-ok : goal.returns-clause-ok
returns-clause-ok g c =
    let t = c.args.tables in
    twelve (views g.T.TableBytes.bytes_of c.in_ok-list.list.items) (views g.T.TableBytes.bytes_of c.push.new.list.items) (views g.T.TableBytes.bytes_of c.push-2.new.list.items) (views g.T.TableBytes.bytes_of c.push-3.new.list.items) (views g.T.TableBytes.bytes_of c.push-4.new.list.items) (views g.T.TableBytes.bytes_of c.push-5.new.list.items) (views g.T.TableBytes.bytes_of c.push-6.new.list.items) (views g.T.TableBytes.bytes_of c.push-7.new.list.items) (views g.T.TableBytes.bytes_of c.push-8.new.list.items) (views g.T.TableBytes.bytes_of c.push-9.new.list.items) (views g.T.TableBytes.bytes_of c.push-10.new.list.items) (views g.T.TableBytes.bytes_of c.push-11.new.list.items) (views g.T.TableBytes.bytes_of c.push-12.new.list.items)
    (opt (codes "CFF ") (option_map g.T.TableBytes.bytes_of t.cff)) (opt (codes "cvt ") (option_map g.T.TableBytes.bytes_of t.cvt)) (opt (codes "fpgm") (option_map g.T.TableBytes.bytes_of t.fpgm)) (opt (codes "glyf") (option_map g.T.TableBytes.bytes_of t.glyf)) (opt (codes "head") (option_map g.T.TableBytes.bytes_of t.head)) (opt (codes "hhea") (option_map g.T.TableBytes.bytes_of t.hhea)) (opt (codes "hmtx") (option_map g.T.TableBytes.bytes_of t.hmtx)) (opt (codes "loca") (option_map g.T.TableBytes.bytes_of t.loca)) (opt (codes "maxp") (option_map g.T.TableBytes.bytes_of t.maxp)) (opt (codes "name") (option_map g.T.TableBytes.bytes_of t.name)) (opt (codes "post") (option_map g.T.TableBytes.bytes_of t.post)) (opt (codes "prep") (option_map g.T.TableBytes.bytes_of t.prep))
    (ap (views g.T.TableBytes.bytes_of) c.in_ok-list.ensures.items) c.push.ensures.items c.push-2.ensures.items c.push-3.ensures.items c.push-4.ensures.items c.push-5.ensures.items c.push-6.ensures.items c.push-7.ensures.items c.push-8.ensures.items c.push-9.ensures.items c.push-10.ensures.items c.push-11.ensures.items c.push-12.ensures.items
